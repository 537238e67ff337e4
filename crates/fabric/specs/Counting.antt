-- The entries of a list that is made from a function of the place.
use Rattle.std.specs.Prelude.{◌≡◌, ℕ, ◌<◌, ◌≤◌, map, Some, None}
use Rattle.std.proofs.Common.{sym, ◌∙◌, ⊎_elim, arith}
use Rattle.std.specs.List.{slice_get, range_with_len}
use Rattle.std.proofs.lemmas.List.FromFn.{length-map-range_with_len, get_or-map-range_with_len}
use Rattle.std.proofs.lemmas.Option.{slice_get_read, slice_get_past}
use Rattle.std.proofs.lemmas.Bool.{cases_lt}
use Rattle.fabric.specs.Optional.{nothing, same}

module _ {X : Type 0} (f : ℕ → X) (n j : ℕ) where
  pub nth_counted : j < n → slice_get (map f (range_with_len 0 n)) j ≡ Some (f j)
  nth_counted h = slice_get_read (map f (range_with_len 0 n)) n j (f j) (sym (length-map-range_with_len f 0 n)) h (sym (get_or-map-range_with_len f 0 n j j (f j) h (omega arith)))

  pub nth_past_count : n ≤ j → slice_get (map f (range_with_len 0 n)) j ≡ None
  nth_past_count h = let long = length-map-range_with_len f 0 n in slice_get_past (map f (range_with_len 0 n)) j (omega arith)

  pub counted_nth : (x : X) → slice_get (map f (range_with_len 0 n)) j ≡ Some x → (j < n) × (f j ≡ x)
  counted_nth x e = ⊎_elim (λ h. (h, same (sym (nth_counted h) ∙ e))) (λ h. absurd (nothing (sym (nth_past_count h) ∙ e))) (cases_lt j n)
