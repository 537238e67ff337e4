-- What a fabric is, and what its addresses are.
use Rattle.std.specs.Prelude.{◌≡◌, ℕ, ◌+◌, ◌^◌, ◌<◌, ◌≤◌, cond, List, [], ◌∷◌, Some, None, Option, ◌==◌, ◌≢◌}
use Rattle.std.specs.Option.{option_map}
use Rattle.std.specs.List.{slice_get}

-- what a fabric answers for a label and a port: a neighbour, or none
abbrev pub Near : Type 0
Near = ℕ → ℕ → Option ℕ

-- What a fabric means: its number of nodes, and its answers.
pub record Meaning : Type 0 where
  pub nodes : ℕ
  pub near : Near

-- some port of u leads to v
abbrev pub Neighbours : Near → ℕ → ℕ → Type 0
Neighbours near u v = (p : ℕ) × (near u p ≡ Some v)

-- The laws of every fabric.
pub record Lawful (m : Meaning) : Type 0 where
  -- it has 1 to 128 nodes
  pub nonempty : 1 ≤ m.nodes
  pub bounded : m.nodes ≤ 128
  -- only a label that exists, through one of the ports 0 to 7, has a neighbour, and the neighbour exists
  pub within : (u p v : ℕ) → m.near u p ≡ Some v → (u < m.nodes) × (p < 8) × (v < m.nodes)
  -- no node neighbours itself
  pub no_self : (u : ℕ) → Neighbours m.near u u → ⊥
  -- no neighbour is met through two ports
  pub once : (u p q v : ℕ) → m.near u p ≡ Some v → m.near u q ≡ Some v → p ≡ q
  -- the neighbour of a node has that node as a neighbour
  pub two_way : (u v : ℕ) → Neighbours m.near u v → Neighbours m.near v u
  -- every label but the last neighbours the next label
  pub chain : (u : ℕ) → u + 1 < m.nodes → Neighbours m.near u (u + 1)

-- Two fabrics of one meaning: as many nodes, and the same answer for each label and port.
pub record SameMeaning (m m' : Meaning) : Type 0 where
  pub size : m.nodes ≡ m'.nodes
  pub answers : (u p : ℕ) → m.near u p ≡ m'.near u p

-- no entry stands at two places
abbrev pub AllDifferent : List ℕ → Type 0
AllDifferent xs = (i j a : ℕ) → slice_get xs i ≡ Some a → slice_get xs j ≡ Some a → i ≡ j

-- every entry has at most 32 bits
abbrev pub AllFit : List ℕ → Type 0
AllFit xs = (i a : ℕ) → slice_get xs i ≡ Some a → a < 2 ^ 32

-- the label that has an address, the first if there were several, or none
abbrev pub label_with : List ℕ → ℕ → Option ℕ
label_with [] a = None
label_with (x ∷ xs) a = cond (x == a) (Some 0) (option_map (λ i. i + 1) (label_with xs a))

-- In plain terms: the label found is the one that has the address, and none is found only where none has it.
pub record Located (addresses : List ℕ) (a : ℕ) (r : Option ℕ) : Type 0 where
  pub found : (k : ℕ) → r ≡ Some k → slice_get addresses k ≡ Some a
  pub missing : r ≡ None → (k : ℕ) → slice_get addresses k ≢ Some a
