-- The way from a label to another hop by hop, and its length.
use Rattle.std.specs.Prelude.{◌≡◌, ℕ, zero, suc, ◌-◌, ◌<◌, ◌≤◌, List, [], ◌∷◌, length, Some, None, Option}
use Rattle.fabric.specs.Fabrics.{Meaning}
use Rattle.fabric.specs.Hop.{distance, exist, hop_of}
use Rattle.fabric.specs.Options.{allowed}
use Rattle.fabric.specs.Stored.{stored}
use Rattle.fabric.specs.declared.paths.Path.{Path}

-- where a hop leads, and where the next ones lead from there
abbrev pub led : (ℕ → List ℕ) → Option ℕ → List ℕ
led rest None = []
led rest (Some w) = w ∷ rest w

-- where the hops from u lead, one after another, as long as there is one, `most` of them at most
abbrev pub leads : ℕ → (ℕ → Option ℕ) → ℕ → List ℕ
leads zero hop u = []
leads (suc most) hop u = led (leads most hop) (hop u)

-- where the hops from u to v lead: no way has more hops than there are nodes
unfoldable pub hops_of : Meaning → ℕ → ℕ → List ℕ
hops_of m u v = leads m.nodes (λ x. hop_of m x v) u

-- the way is its first label and where the hops lead, and its length is the number of the hops
abbrev pub way_of : Meaning → ℕ → ℕ → Option (List ℕ)
way_of m u v = allowed (exist m.nodes u v) (u ∷ hops_of m u v)

abbrev pub length_of : Meaning → ℕ → ℕ → Option ℕ
length_of m u v = allowed (exist m.nodes u v) (length (hops_of m u v))

-- what a path holds: its labels, and one hop less
abbrev pub labels_of : Path → List ℕ
labels_of p = stored p.labels

abbrev pub hops_in : Path → ℕ
hops_in p = length (labels_of p) - 1

-- In plain terms: each label is the hop from the one before it towards v, and the last is v.
abbrev pub ByHops : (ℕ → ℕ → Option ℕ) → ℕ → ℕ → List ℕ → Type 0
ByHops hop u v [] = u ≡ v
ByHops hop u v (w ∷ ws) = (hop u v ≡ Some w) × ByHops hop w v ws

-- A way leads by hops to the target, and no other list of labels does; there is one exactly where both labels exist.
pub record Travelled (m : Meaning) (u v : ℕ) (r : Option (List ℕ)) : Type 0 where
  pub there : u < m.nodes → v < m.nodes → (ws : List ℕ) × (r ≡ Some (u ∷ ws)) × ByHops (hop_of m) u v ws
  pub alone : (ws xs : List ℕ) → r ≡ Some xs → ByHops (hop_of m) u v ws → xs ≡ u ∷ ws
  pub only : (xs : List ℕ) → r ≡ Some xs → (u < m.nodes) × (v < m.nodes)

-- A length is the number of hops on the way, 0 from a label to itself, and never more than the labels are apart.
pub record Measured (m : Meaning) (u v : ℕ) (r : Option ℕ) : Type 0 where
  pub there : u < m.nodes → v < m.nodes → (k : ℕ) × (r ≡ Some k)
  pub counts : (k : ℕ) → r ≡ Some k → (ws : List ℕ) × ByHops (hop_of m) u v ws × (length ws ≡ k)
  pub stay : u < m.nodes → u ≡ v → r ≡ Some 0
  pub short : (k : ℕ) → r ≡ Some k → (k ≤ distance u v) × (k ≤ 127)
  pub only : (k : ℕ) → r ≡ Some k → (u < m.nodes) × (v < m.nodes)
