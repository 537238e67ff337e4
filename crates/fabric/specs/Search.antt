-- Searches over the numbers below a bound.
use Rattle.std.specs.Prelude.{ℕ, Bool, not, Option, find}
use Rattle.std.specs.List.{range_with_len, list_any}

-- the test passes at some number below the bound
abbrev pub some_below : (ℕ → Bool) → ℕ → Bool
some_below test n = list_any test (range_with_len 0 n)

-- the least number below the bound at which the test fails
abbrev pub first_fail : (ℕ → Bool) → ℕ → Option ℕ
first_fail test n = find (λ i. not (test i)) (range_with_len 0 n)
