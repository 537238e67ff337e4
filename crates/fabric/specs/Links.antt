-- Closed links, and a fabric without them.
use Rattle.std.specs.Prelude.{◌≡◌, ℕ, ◌<◌, ◌≤◌, Bool, false, not, ◌&&◌, ◌||◌, ◌⊎◌, ◌↔◌, List, [], ◌∷◌, ◌++◌, length, Some, None, Option, ◌==◌, nat_le, nat_lt}
use Rattle.std.specs.List.{list_any, list_all}
use Rattle.fabric.specs.Fabrics.{Near, Meaning, Neighbours}
use Rattle.fabric.specs.Hop.{distance, exist}
use Rattle.fabric.specs.Options.{allowed}
use Rattle.fabric.specs.Questions.{ask, Asks, Granted}
use Rattle.fabric.specs.Search.{some_below}

-- the two labels that a link joins
abbrev pub Link : Type 0
Link = ℕ × ℕ

-- two or more apart
abbrev pub apart : Link → Bool
apart l = nat_le 2 (distance l.0 l.1)

abbrev pub all_apart : List Link → Bool
all_apart ls = list_all apart ls

-- the link joins the two labels, in either order
abbrev pub joins : Link → ℕ → ℕ → Bool
joins l u v = (l.0 == u && l.1 == v) || (l.0 == v && l.1 == u)

-- one of the links does
abbrev pub holds : List Link → ℕ → ℕ → Bool
holds ls u v = list_any (λ l. joins l u v) ls

-- a neighbour, unless one of the links leads there
abbrev pub unless_closed : List Link → ℕ → Option ℕ → Option ℕ
unless_closed ls u None = None
unless_closed ls u (Some v) = allowed (not (holds ls u v)) v

-- the neighbours without the closed links
abbrev pub thinned : List Link → Near → Near
thinned ls near u p = unless_closed ls u (near u p)

-- so the fabric without them
abbrev pub thinned_meaning : List Link → Meaning → Meaning
thinned_meaning ls m = record { nodes = m.nodes; near = thinned ls m.near }

-- the answer is this label
abbrev pub is_at : ℕ → Option ℕ → Bool
is_at v None = false
is_at v (Some w) = w == v

-- a port of u leads to v
abbrev pub neighbours : Near → ℕ → ℕ → Bool
neighbours near u v = some_below (λ p. is_at v (near u p)) 8

-- the number of the refusal to close a link, or none: the labels exist, they are neighbours, they are two or more apart, the link is still open, and fewer than 64 are closed
abbrev pub close_refusal : Meaning → List Link → Link → Option ℕ
close_refusal m ls l =
    ask 10 (exist m.nodes l.0 l.1)
    (ask 11 (neighbours m.near l.0 l.1)
    (ask 12 (apart l)
    (ask 13 (not (holds ls l.0 l.1))
    (ask 14 (nat_lt (length ls) 64) None))))

-- the closed links afterwards: one more, or as they were
abbrev pub closed_after : Option ℕ → List Link → Link → List Link
closed_after None ls l = ls ++ l ∷ []
closed_after (Some n) ls l = ls

-- In plain terms: the link joins the two labels; one of the links does.
abbrev pub Joins : Link → ℕ → ℕ → Type 0
Joins l u v = (l ≡ (u, v)) ⊎ (l ≡ (v, u))

abbrev pub IsClosed : List Link → ℕ → ℕ → Type 0
IsClosed [] u v = ⊥
IsClosed (l ∷ ls) u v = Joins l u v ⊎ IsClosed ls u v

-- The answer is v exactly where the port leads to v in the fabric below, and the link between is not closed.
abbrev pub Thinned : List Link → Near → ℕ → ℕ → Option ℕ → Type 0
Thinned ls near u p r = (v : ℕ) → (r ≡ Some v) ↔ ((near u p ≡ Some v) × (IsClosed ls u v → ⊥))

-- What a call that closes a link answers, and what it does to the neighbours: where it is refused they are as before,
-- and else exactly the two ends of the link are no neighbours any more.
pub record Closes (below : Meaning) (ls : List Link) (l : Link) (before after : Near) (r : Option ℕ) : Type 0 where
  pub answer : Asks 10 ((l.0 < below.nodes) × (l.1 < below.nodes)) (Asks 11 (Neighbours below.near l.0 l.1) (Asks 12 (2 ≤ distance l.0 l.1) (Asks 13 (IsClosed ls l.0 l.1 → ⊥) (Asks 14 (length ls < 64) Granted)))) r
  pub refused : (n : ℕ) → r ≡ Some n → (u p : ℕ) → after u p ≡ before u p
  pub closed : r ≡ None → (u p v : ℕ) → (after u p ≡ Some v) ↔ ((before u p ≡ Some v) × (Joins l u v → ⊥))
