-- Addresses by a code for places are all different, and each leads back to its label.
use Rattle.std.specs.Prelude.{◌≡◌, ℕ, zero, suc, ◌+◌, ◌^◌, ◌<◌, Bool, true, false, cond, List, [], ◌∷◌, length, Some, None, Option, ◌==◌, ◌≢◌, nat_lt, refl}
use Rattle.std.specs.Option.{option_map}
use Rattle.std.proofs.Common.{sym, ap, subst, ◌∙◌, add-one, arith}
use Rattle.std.specs.List.{slice_get}
use Rattle.std.proofs.lemmas.List.FromFn.{length-map-range_with_len}
use Rattle.std.proofs.lemmas.Bool.{eqb-true, eqb-false}
use Rattle.std.proofs.lemmas.Bool.Decides.{nat_tests}
use Rattle.fabric.specs.Fabrics.{AllDifferent, AllFit, label_with, Located}
use Rattle.fabric.specs.Options.{allowed}
use Rattle.fabric.specs.Steps.{codes}
use Rattle.fabric.specs.Counting.{nth_counted, nth_past_count, counted_nth}
use Rattle.fabric.specs.Optional.{nothing, same, each_is, each_none, with_law}
use Rattle.fabric.specs.Placing.{Placing}

-- the label with an address is the one that has it, in plain terms
located_on : (x : ℕ) (xs : List ℕ) (a : ℕ) → Located xs a (label_with xs a) → (t : Bool) → (x == a) ≡ t → Located (x ∷ xs) a (cond t (Some 0) (option_map (λ i. i + 1) (label_with xs a)))
located_on x xs a rest true e = record {
  found = λ k f. subst (λ i. slice_get (x ∷ xs) i ≡ Some a) (same f) (ap Some (eqb-true x a e));
  missing = λ f. absurd (nothing (sym f));
}
located_on x xs a rest false e = record {
  found = λ k f.
      let h = each_is (λ i. i + 1) (label_with xs a) f in
      subst (λ i. slice_get (x ∷ xs) i ≡ Some a) (sym (add-one h.0) ∙ h.2) (rest.found h.0 h.1);
  missing = λ f. elim [ zero ↦ λ g. eqb-false x a e (same g) | suc k ↦ rest.missing (each_none (λ i. i + 1) (label_with xs a) f) k ];
}

pub located : (xs : List ℕ) (a : ℕ) → Located xs a (label_with xs a)
located [] a = record { found = λ k e. absurd (nothing e); missing = λ _ k e. nothing e }
located (x ∷ xs) a = located_on x xs a (located xs a) (x == a) refl

-- where all addresses differ, the label that has one is the one that is found
pub label_is : (xs : List ℕ) (a k : ℕ) → AllDifferent xs → slice_get xs k ≡ Some a → label_with xs a ≡ Some k
label_is xs a k d e = go (label_with xs a) refl
  where
    go : (o : Option ℕ) → label_with xs a ≡ o → o ≡ Some k
    go None f = absurd ((located xs a).missing f k e)
    go (Some i) f = ap Some (d i k a ((located xs a).found i f) e)

pub label_missing : (xs : List ℕ) (a : ℕ) → ((k : ℕ) → slice_get xs k ≢ Some a) → label_with xs a ≡ None
label_missing xs a out = go (label_with xs a) refl
  where
    go : (o : Option ℕ) → label_with xs a ≡ o → o ≡ None
    go None f = refl
    go (Some i) f = absurd (out i ((located xs a).found i f))

module _ {P : Type 0} {In : P → Type 0} {nodes : ℕ} {place : ℕ → P} {label : P → ℕ} {step : P → ℕ → Option P} (law : Placing In nodes place label step) (code : P → ℕ) where
  abbrev address_of : ℕ → ℕ
  address_of k = code (place k)

  pub long : length (codes nodes place code) ≡ nodes
  long = length-map-range_with_len address_of 0 nodes

  pub fits : ((a : P) → In a → code a < 2 ^ 32) → AllFit (codes nodes place code)
  fits small i x e = let p = counted_nth address_of nodes i x e in subst (λ (a : ℕ). a < 2 ^ 32) p.1 (small (place i) (law.placed i p.0))

  pub address_is : (k : ℕ) → allowed (nat_lt k nodes) (address_of k) ≡ slice_get (codes nodes place code) k
  address_is k = grind (arith, nat_tests, nth_counted address_of nodes k, nth_past_count address_of nodes k)

  -- what `address` owes, from the address alone
  pub address_as : (k : ℕ) (r : Option ℕ) → r ≡ allowed (nat_lt k nodes) (address_of k) → record { is : r ≡ slice_get (codes nodes place code) k; long : length (codes nodes place code) ≡ nodes }
  address_as k r e = record { is = e ∙ address_is k; long = long }

  pub label_none : (x : ℕ) → ((a : P) → In a → code a ≢ x) → None ≡ label_with (codes nodes place code) x
  label_none x out =
      sym (label_missing (codes nodes place code) x
      (λ k e. let p = counted_nth address_of nodes k x e in out (place k) (law.placed k p.0) p.1))

  -- what `label_of` owes, from the label alone
  pub label_as : (x : ℕ) (r : Option ℕ) → r ≡ label_with (codes nodes place code) x → record { is : r ≡ label_with (codes nodes place code) x; law : Located (codes nodes place code) x r; long : length (codes nodes place code) ≡ nodes }
  label_as x r e =
      let l = with_law (Located (codes nodes place code) x) _ (located (codes nodes place code) x) r e in
      record { is = l.is; law = l.law; long = long }

  module _ (one : (a b : P) → In a → In b → code a ≡ code b → a ≡ b) where
    pub different : AllDifferent (codes nodes place code)
    different i j x e f =
        let p = counted_nth address_of nodes i x e in
        let q = counted_nth address_of nodes j x f in
        let same_place = one (place i) (place j) (law.placed i p.0) (law.placed j q.0) (p.1 ∙ sym q.1) in
        sym (law.label_place i p.0) ∙ ap label same_place ∙ law.label_place j q.0

    pub label_found : (a : P) → In a → Some (label a) ≡ label_with (codes nodes place code) (code a)
    label_found a i =
        sym (label_is (codes nodes place code) (code a) (label a) different
        (nth_counted address_of nodes (label a) (law.below a i) ∙ ap (λ b. Some (code b)) (law.place_label a i)))
