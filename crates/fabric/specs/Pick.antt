-- The choice of the eligible entry of least rank, the earliest on a tie.
use Rattle.std.specs.Prelude.{◌≡◌, ℕ, ◌<◌, ◌≤◌, Bool, true, cond, List, filter, Some, None, Option, ◌≢◌, nat_le}
use Rattle.std.specs.List.{slice_get, reduce}

-- the one of lesser rank, the first on a tie
abbrev pub better : {A : Type 0} → (A → ℕ) → A → A → A
better rank x y = cond (nat_le (rank x) (rank y)) x y

-- of the eligible entries, one after another, the better one is kept
abbrev pub picked : {A : Type 0} → (A → Bool) → (A → ℕ) → List A → Option A
picked eligible rank xs = reduce (better rank) (filter eligible xs)

-- In plain terms: the entry stands in the list and is eligible, nothing eligible ranks lower, and nothing eligible before it ranks the same.
pub record Chosen {A : Type 0} (eligible : A → Bool) (rank : A → ℕ) (xs : List A) (x : A) : Type 0 where
  pub place : ℕ
  pub stands : slice_get xs place ≡ Some x
  pub fit : eligible x ≡ true
  pub least : (j : ℕ) (y : A) → slice_get xs j ≡ Some y → eligible y ≡ true → rank x ≤ rank y
  pub first : (j : ℕ) (y : A) → j < place → slice_get xs j ≡ Some y → eligible y ≡ true → rank y ≢ rank x

-- An entry is picked as above; none is picked where nothing in the list is eligible.
abbrev pub Picked : {A : Type 0} → (A → Bool) → (A → ℕ) → List A → Option A → Type 0
Picked eligible rank xs (Some x) = Chosen eligible rank xs x
Picked {A} eligible rank xs None = (j : ℕ) (y : A) → slice_get xs j ≡ Some y → eligible y ≢ true
