-- Questions in a fixed order: the first that is answered no gives its number.
use Rattle.std.specs.Prelude.{◌≡◌, ℕ, Bool, cond, Some, None, Option}

-- the number where the answer is no, and else what the later questions give
abbrev pub ask : ℕ → Bool → Option ℕ → Option ℕ
ask n answer later = cond answer later (Some n)

-- In plain terms: where Q holds the later questions are put, and else the number is n.
pub data Asks (n : ℕ) (Q : Type 0) (Later : Option ℕ → Type 0) (r : Option ℕ) : Type 0 where
  goes_on : Q → Later r → Asks n Q Later r
  stops : (Q → ⊥) → r ≡ Some n → Asks n Q Later r

-- no question is left
abbrev pub Granted : Option ℕ → Type 0
Granted r = r ≡ None
