-- The hop from a label towards another: to the farthest neighbour on the way that is not past the target.
use Rattle.std.specs.Prelude.{◌≡◌, ℕ, ◌+◌, ◌-◌, ◌<◌, ◌≤◌, Bool, false, cond, ◌&&◌, ◌||◌, ◌≢◌, ◌↔◌, List, map, Some, None, Option, nat_le, nat_lt}
use Rattle.std.specs.List.{range_with_len}
use Rattle.fabric.specs.Fabrics.{Near, Meaning, Neighbours}
use Rattle.fabric.specs.Pick.{picked}
use Rattle.fabric.specs.declared.hops.Exit.{Exit}

-- how far apart two labels are
abbrev pub distance : ℕ → ℕ → ℕ
distance a b = (a - b) + (b - a)

-- both labels exist
abbrev pub exist : ℕ → ℕ → ℕ → Bool
exist nodes u v = nat_lt u nodes && nat_lt v nodes

-- u < w ≤ v, or v ≤ w < u: w lies past u and not past v
abbrev pub onward : ℕ → ℕ → ℕ → Bool
onward u v w = (nat_lt u w && nat_le w v) || (nat_le v w && nat_lt w u)

-- a port is eligible where it leads onward
abbrev pub leads_onward : Exit → Bool
leads_onward e = elim e.neighbour [ Some w ↦ onward e.from e.towards w | None ↦ false ]

-- and ranks by how many labels it is short of the target
abbrev pub labels_short : Exit → ℕ
labels_short e = elim e.neighbour [ Some w ↦ distance w e.towards | None ↦ 0 ]

-- port p of u, for a message to v
abbrev pub exit_of : Near → ℕ → ℕ → ℕ → Exit
exit_of near u v p = record { from = u; towards = v; neighbour = near u p }

-- the eight ports of u, for a message to v
abbrev pub exits_of : Near → ℕ → ℕ → List Exit
exits_of near u v = map (exit_of near u v) (range_with_len 0 8)

-- where the picked port leads
abbrev pub end : Option Exit → Option ℕ
end None = None
end (Some e) = e.neighbour

-- the hop from u towards v
unfoldable pub hop_of : Meaning → ℕ → ℕ → Option ℕ
hop_of m u v = cond (exist m.nodes u v) (end (picked leads_onward labels_short (exits_of m.near u v))) None

-- In plain terms, for an order of labels: w is the last of u's neighbours that come after u and not after v.
-- With ≤ for ≼ that is the greatest label w with u < w ≤ v, and with ≥ the least with v ≤ w < u.
module _ (◌≼◌ : ℕ → ℕ → Type 0) where
  infix 20 ◌≼◌
  pub record Last (near : Near) (u v w : ℕ) : Type 0 where
    pub neighbour : Neighbours near u w
    pub after : u ≼ w
    pub other : u ≢ w
    pub not_past : w ≼ v
    pub last : (x : ℕ) → Neighbours near u x → u ≼ x → u ≢ x → x ≼ v → x ≼ w

-- The hop is that neighbour, and there is one exactly where both labels exist and differ.
pub record Hopped (m : Meaning) (u v : ℕ) (r : Option ℕ) : Type 0 where
  pub up : u < v → v < m.nodes → (w : ℕ) → (r ≡ Some w) ↔ Last (λ a b. a ≤ b) m.near u v w
  pub down : v < u → u < m.nodes → (w : ℕ) → (r ≡ Some w) ↔ Last (λ a b. b ≤ a) m.near u v w
  pub there : u < m.nodes → v < m.nodes → u ≢ v → (w : ℕ) × (r ≡ Some w)
  pub only : (w : ℕ) → r ≡ Some w → (u < m.nodes) × (v < m.nodes) × (u ≢ v)
