-- What a search over numbers in turn finds, in plain terms.
use Rattle.std.specs.Prelude.{◌≡◌, ℕ, zero, suc, ◌+◌, ◌<◌, ◌≤◌, Bool, true, false, cond, not, find, Some, None, Decides, Option, ◌≢◌, refl}
use Rattle.std.specs.List.{range_with_len, list_any}
use Rattle.std.proofs.Common.{sym, ap, ◌∙◌, ⊎_elim, arith}
use Rattle.std.proofs.lemmas.Bool.{false≢true, cases_eq, or_cases, or_left, or_right}
use Rattle.fabric.specs.Search.{some_below, first_fail}
use Rattle.fabric.specs.Optional.{nothing, same}

module _ (test : ℕ → Bool) where
  -- some number among n of them, from a on, passes
  found_from : (a n : ℕ) → list_any test (range_with_len a n) ≡ true → (k : ℕ) × (a ≤ k) × (k < a + n) × (test k ≡ true)
  found_from a zero e = absurd (false≢true e)
  found_from a (suc n) e =
      ⊎_elim
      (λ t. (a, omega arith, omega arith, t))
      (λ r. let s = found_from (a + 1) n r in let above = s.1 in let within = s.2 in (s.0, omega arith, omega arith, s.3))
      (or_cases (test a) (list_any test (range_with_len (a + 1) n)) e)

  hit_from : (a n k : ℕ) → a ≤ k → k < a + n → test k ≡ true → list_any test (range_with_len a n) ≡ true
  hit_from a zero k h l e = absurd (let z : ⊥ = omega arith in z)
  hit_from a (suc n) k h l e =
      ⊎_elim
      (λ s. or_left (test a) (list_any test (range_with_len (a + 1) n)) (ap test s ∙ e))
      (λ ne. or_right (test a) (list_any test (range_with_len (a + 1) n)) (hit_from (a + 1) n k (omega arith) (omega arith) e))
      (cases_eq a k)

  pub below_found : (n : ℕ) → some_below test n ≡ true → (k : ℕ) × (k < n) × (test k ≡ true)
  below_found n e = let r = found_from 0 n e in let within = r.2 in (r.0, omega arith, r.3)

  pub below_hit : (n k : ℕ) → k < n → test k ≡ true → some_below test n ≡ true
  below_hit n k h e = hit_from 0 n k (omega arith) (omega arith) e

  pub below_decides : {P : ℕ → Type 0} → ((k : ℕ) → Decides (test k) (P k)) → (n : ℕ) → Decides (some_below test n) ((k : ℕ) × (k < n) × P k)
  below_decides d n = (
    (λ e. let r = below_found n e in (r.0, r.1, (d r.0).0 r.2)),
    (λ h. below_hit n h.0 h.1 ((d h.0).1 h.2)),
  )

  -- i is the first place of n, from a on, at which the test fails
  abbrev FirstFrom : ℕ → ℕ → ℕ → Type 0
  FirstFrom a n i = (i < a + n) × (test i ≡ false) × ((j : ℕ) → a ≤ j → j < i → test j ≡ true)

  abbrev search : ℕ → ℕ → Option ℕ
  search a n = find (λ i. not (test i)) (range_with_len a n)

  some_from : (a n i : ℕ) → search a n ≡ Some i → FirstFrom a n i
  some_from a zero i e = absurd (nothing e)
  some_from a (suc n) i e = go (some_from (a + 1) n i) (test a) refl e
    where
      go : (search (a + 1) n ≡ Some i → FirstFrom (a + 1) n i) → (t : Bool) → test a ≡ t → cond (not t) (Some a) (search (a + 1) n) ≡ Some i → FirstFrom a (suc n) i
      go rest true f g =
          let r = rest g in
          let within = r.0 in
          (omega arith, r.1, λ j h l. ⊎_elim (λ s. ap test (sym s) ∙ f) (λ ne. r.2 j (omega arith) l) (cases_eq a j))
      go rest false f g = let s = same g in (omega arith, ap test (sym s) ∙ f, λ j h l. absurd (let z : ⊥ = omega arith in z))

  none_from : (a n : ℕ) → search a n ≡ None → (j : ℕ) → a ≤ j → j < a + n → test j ≡ true
  none_from a zero e j h l = absurd (let z : ⊥ = omega arith in z)
  none_from a (suc n) e j h l = go (λ g ne. none_from (a + 1) n g j (omega arith) (omega arith)) (test a) refl e
    where
      go : (search (a + 1) n ≡ None → (a ≢ j) → test j ≡ true) → (t : Bool) → test a ≡ t → cond (not t) (Some a) (search (a + 1) n) ≡ None → test j ≡ true
      go rest true f g = ⊎_elim (λ s. ap test (sym s) ∙ f) (rest g) (cases_eq a j)
      go rest false f g = absurd (nothing (sym g))

  from_none : (a n : ℕ) → ((j : ℕ) → a ≤ j → j < a + n → test j ≡ true) → search a n ≡ None
  from_none a zero h = refl
  from_none a (suc n) h =
      ap (λ t. cond (not t) (Some a) (search (a + 1) n)) (h a (omega arith) (omega arith))
      ∙ from_none (a + 1) n (λ j k l. h j (omega arith) (omega arith))

  -- the first place at which the test fails: it fails there, and at none before
  pub first_some : (n i : ℕ) → first_fail test n ≡ Some i → (i < n) × (test i ≡ false) × ((j : ℕ) → j < i → test j ≡ true)
  first_some n i e = let r = some_from 0 n i e in let within = r.0 in (omega arith, r.1, λ j l. r.2 j (omega arith) l)

  -- no place fails exactly where each passes
  pub first_none : (n : ℕ) → first_fail test n ≡ None → (k : ℕ) → k < n → test k ≡ true
  first_none n e k l = none_from 0 n e k (omega arith) (omega arith)

  pub none_first : (n : ℕ) → ((k : ℕ) → k < n → test k ≡ true) → first_fail test n ≡ None
  none_first n h = from_none 0 n (λ j k l. h j (omega arith))
