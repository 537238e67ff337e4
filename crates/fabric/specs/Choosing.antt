-- The better of several, in any grouping; and what the choice is in plain terms.
use Rattle.std.specs.Prelude.{◌≡◌, ℕ, zero, suc, Bool, true, false, cond, List, [], ◌∷◌, fold, filter, Some, None, Option, nat_le, refl}
use Rattle.std.specs.List.{reduce}
use Rattle.std.proofs.Common.{sym, ap, subst, ◌∙◌, arith}
use Rattle.std.proofs.lemmas.Bool.{leb-true, leb-false, both_ways}
use Rattle.std.proofs.lemmas.Bool.Decides.{nat_tests}
use Rattle.fabric.specs.Options.{allowed}
use Rattle.fabric.specs.Pick.{better, picked, Picked}
use Rattle.fabric.specs.Optional.{nothing, same}

module _ {A : Type 0} (rank : A → ℕ) where
  -- the better of two that may be missing
  abbrev pub best : Option A → Option A → Option A
  best None b = b
  best (Some x) None = Some x
  best (Some x) (Some y) = Some (better rank x y)

  best_assoc : (a b c : Option A) → best a (best b c) ≡ best (best a b) c
  best_assoc None b c = refl
  best_assoc (Some x) None c = refl
  best_assoc (Some x) (Some y) None = refl
  best_assoc (Some x) (Some y) (Some z) = three (nat_le (rank x) (rank y)) refl (nat_le (rank y) (rank z)) refl
    where
      three : (s : Bool) → nat_le (rank x) (rank y) ≡ s → (t : Bool) → nat_le (rank y) (rank z) ≡ t → best (Some x) (Some (cond t y z)) ≡ best (Some (cond s x y)) (Some z)
      three true e true f = grind (arith, nat_tests)
      three true e false f = refl
      three false e true f = grind (arith, nat_tests)
      three false e false f = grind (arith, nat_tests)

  -- what is kept from a on is the better of a and the best of the others
  kept : (a : A) (xs : List A) → Some (fold (better rank) a xs) ≡ best (Some a) (reduce (better rank) xs)
  kept a [] = refl
  kept a (x ∷ xs) = kept (better rank a x) xs ∙ sym (best_assoc (Some a) (Some x) (reduce (better rank) xs)) ∙ ap (best (Some a)) (sym (kept x xs))

module _ {A : Type 0} (eligible : A → Bool) (rank : A → ℕ) where
  -- one entry more, in front
  more : (x : A) (xs : List A) (b : Bool) → eligible x ≡ b → (r : Option A) → Picked eligible rank xs r → Picked eligible rank (x ∷ xs) (best rank (allowed b x) r)
  more x xs false e None h = elim [ zero ↦ λ y at fit. both_ways (eligible x) e (ap eligible (same at) ∙ fit) | suc j ↦ h j ]
  more x xs false e (Some y) h = record {
    place = suc h.place;
    stands = h.stands;
    fit = h.fit;
    least = elim [ zero ↦ λ z at fit. absurd (both_ways (eligible x) e (ap eligible (same at) ∙ fit)) | suc j ↦ h.least j ];
    first = elim [ zero ↦ λ z _ at fit. absurd (both_ways (eligible x) e (ap eligible (same at) ∙ fit)) | suc j ↦ λ z l. h.first j z (omega arith) ];
  }
  more x xs true e None h = record {
    place = zero;
    stands = refl;
    fit = e;
    least = elim [ zero ↦ λ z at fit. let s = ap rank (same at) in omega arith | suc j ↦ λ z at fit. absurd (h j z at fit) ];
    first = λ j z l. absurd (let k : ⊥ = omega arith in k);
  }
  more x xs true e (Some y) h = decide (nat_le (rank x) (rank y)) refl
    where
      decide : (t : Bool) → nat_le (rank x) (rank y) ≡ t → Picked eligible rank (x ∷ xs) (Some (cond t x y))
      decide true f = record {
        place = zero;
        stands = refl;
        fit = e;
        least = elim [ zero ↦ λ z at fit. let s = ap rank (same at) in omega arith | suc j ↦ λ z at fit. omega (arith, h.least j z at fit, leb-true (rank x) (rank y) f) ];
        first = λ j z l. absurd (let k : ⊥ = omega arith in k);
      }
      decide false f = record {
        place = suc h.place;
        stands = h.stands;
        fit = h.fit;
        least = elim [ zero ↦ λ z at fit. omega (arith, leb-false (rank x) (rank y) f, ap rank (same at)) | suc j ↦ h.least j ];
        first = elim [ zero ↦ λ z _ at fit tie. omega (arith, leb-false (rank x) (rank y) f, ap rank (same at)) | suc j ↦ λ z l. h.first j z (omega arith) ];
      }

  -- the first entry counts if it is eligible
  from_front : (x : A) (xs : List A) (b : Bool) → reduce (better rank) (cond b (x ∷ filter eligible xs) (filter eligible xs)) ≡ best rank (allowed b x) (picked eligible rank xs)
  from_front x xs true = kept rank x (filter eligible xs)
  from_front x xs false = refl

  -- a loop over all entries, of which those that are not eligible are passed over
  pub one_by_one : (a : Option A) (xs : List A) → fold (λ b x. best rank b (allowed (eligible x) x)) a xs ≡ best rank a (picked eligible rank xs)
  one_by_one None [] = refl
  one_by_one (Some x) [] = refl
  one_by_one a (x ∷ xs) =
      one_by_one (best rank a (allowed (eligible x) x)) xs
      ∙ sym (best_assoc rank a (allowed (eligible x) x) (picked eligible rank xs))
      ∙ ap (best rank a) (sym (from_front x xs (eligible x)))

  pub picked_law : (xs : List A) → Picked eligible rank xs (picked eligible rank xs)
  picked_law [] = λ j y at fit. nothing at
  picked_law (x ∷ xs) =
      subst (Picked eligible rank (x ∷ xs)) (sym (from_front x xs (eligible x)))
      (more x xs (eligible x) refl (picked eligible rank xs) (picked_law xs))
