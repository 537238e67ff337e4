-- The snake-labelled mesh is a lawful fabric, and its addresses are all different.
use Rattle.std.specs.Prelude.{◌≡◌, ℕ, zero, suc, ◌+◌, ◌-◌, ◌*◌, ◌/◌, ◌%◌, ◌^◌, ◌<◌, ◌≤◌, Bool, true, false, Some, None, Err, Option, nat_lt, length, refl}
use Rattle.std.specs.Option.{option_and_then}
use Rattle.std.proofs.Common.{sym, ap, ap₂, subst, ◌∙◌, ⊎_elim, arith}
use Rattle.std.proofs.lemmas.Nat.{div-add-mod', div-mul-add, mod-mul-add, mul-add-lt, div_below, mod_below, mul-le}
use Rattle.std.proofs.lemmas.Bool.{cases_lt, both_ways, ltb-true, cond-false}
use Rattle.std.proofs.lemmas.Bool.Decides.{nat_tests}
use Rattle.fabric.specs.Fabrics.{Lawful, label_with, Located}
use Rattle.fabric.specs.Steps.{BySteps}
use Rattle.fabric.specs.Snake.{Shape, shape_of, Place, inside, turned, label_at, label_of, place_at, place_of, Placed, beside, mesh_near, mesh_meaning, address_at, place_with, mesh_addresses}
use Rattle.fabric.specs.Coding.{label_as, label_found, label_none}
use Rattle.fabric.specs.Optional.{nothing, same, allowed_is, with_law}
use Rattle.fabric.specs.Placing.{Placing, placed_lawful, placed_by_steps}

pub narrow : (rows columns : ℕ) → Shape rows columns → (rows ≤ 128) × (columns ≤ 128)
narrow r c h = (omega (arith, mul-le r 1 r c (omega arith) h.1), omega (arith, mul-le 1 c r c h.0 (omega arith)))

-- numbers that are no mesh's
pub shapeless : (rows columns : ℕ) → (Shape rows columns → ⊥) → Err 1 ≡ shape_of rows columns
shapeless r c out = grind (arith, nat_tests)

-- no mesh has more than 128 rows or more than 128 columns
pub oversized : (rows columns : ℕ) → (rows ≤ 128 → columns ≤ 128 → ⊥) → Err 1 ≡ shape_of rows columns
oversized r c out = shapeless r c (λ h. let s = narrow r c h in out s.0 s.1)

-- a row goes forth or back
pub turned_below : (n y x : ℕ) → x < n → turned n y x < n
turned_below n y x h = grind (arith, nat_tests)

turned_twice : (n y x : ℕ) → x < n → turned n y (turned n y x) ≡ x
turned_twice n y x h = grind (arith, nat_tests)

module _ (rows n : ℕ) where
  abbrev pub In : Place → Type 0
  In a = (a.0 < n) × (a.1 < rows)

  pair : (a b : Place) → a.0 ≡ b.0 → a.1 ≡ b.1 → a ≡ b
  pair a b e f i = (e i, f i)

  -- a step goes to the next place on the mesh, and the port is known from the two places
  stepped : (p : ℕ) (a b : Place) → In a → beside rows n a p ≡ Some b → (p < 8) × In b × ((a.0 - b.0) + (b.0 - a.0) + (a.1 - b.1) + (b.1 - a.1) ≡ 1) × (p ≡ (a.0 - b.0) + 2 * (b.1 - a.1) + 3 * (a.1 - b.1))
  stepped zero a b i e = grind (arith, nat_tests)
  stepped (suc zero) a b i e = grind (arith, nat_tests)
  stepped (suc (suc zero)) a b i e = grind (arith, nat_tests)
  stepped (suc (suc (suc zero))) a b i e = grind (arith, nat_tests)
  stepped (suc (suc (suc (suc p)))) a b i e = absurd (nothing e)

  back : (p : ℕ) (a b : Place) → In a → beside rows n a p ≡ Some b → (q : ℕ) × (beside rows n b q ≡ Some a)
  back zero a b i e = (1, grind (arith, nat_tests))
  back (suc zero) a b i e = (0, grind (arith, nat_tests))
  back (suc (suc zero)) a b i e = (3, grind (arith, nat_tests))
  back (suc (suc (suc zero))) a b i e = (2, grind (arith, nat_tests))
  back (suc (suc (suc (suc p)))) a b i e = absurd (nothing e)

  -- the place of a label, by its row and where it stands in the row
  place_is : (k y x : ℕ) → x < n → k ≡ y * n + x → place_at n k ≡ (turned n y x, y)
  place_is k y x h e =
      let d : k / n ≡ y = ap (λ m. m / n) e ∙ div-mul-add y n x h in
      let m : k % n ≡ x = ap (λ m. m % n) e ∙ mod-mul-add y n x h in
      pair (place_at n k) (turned n y x, y) (ap₂ (turned n) d m) d

  inside_true : (b : Place) → In b → inside rows n b ≡ true
  inside_true b i = grind (arith, nat_tests)

  within : (b : Place) → inside rows n b ≡ true → In b
  within b e = grind (arith, nat_tests)

  label_inside : (b : Place) → In b → label_of rows n b ≡ Some (label_at n b)
  label_inside b i = grind (arith, nat_tests)

  module _ (shape : Shape rows n) where
    placed : (k : ℕ) → k < rows * n → In (place_at n k)
    placed k h = (turned_below n (k / n) (k % n) (mod_below k n shape.1), div_below k n rows shape.1 h)

    below : (a : Place) → In a → label_at n a < rows * n
    below a i = omega (arith, mul-add-lt a.1 n (turned n a.1 a.0) rows i.1 (turned_below n a.1 a.0 i.0))

    label_place : (k : ℕ) → k < rows * n → label_at n (place_at n k) ≡ k
    label_place k h = ap (λ x. (k / n) * n + x) (turned_twice n (k / n) (k % n) (mod_below k n shape.1)) ∙ div-add-mod' k n

    place_label : (a : Place) → In a → place_at n (label_at n a) ≡ a
    place_label a i =
        place_is (label_at n a) a.1 (turned n a.1 a.0) (turned_below n a.1 a.0 i.0) refl
        ∙ pair (turned n a.1 (turned n a.1 a.0), a.1) a (turned_twice n a.1 a.0 i.0) refl

    -- the next label is a step away: along the row, or at its end to the next row
    next : (k y x : ℕ) → k + 1 < rows * n → x < n → k ≡ y * n + x → (p : ℕ) × (beside rows n (place_at n k) p ≡ Some (place_at n (k + 1)))
    next k y x h l e =
        subst (λ a. (p : ℕ) × (beside rows n a p ≡ Some (place_at n (k + 1)))) (sym (place_is k y x l e))
        (⊎_elim along up (cases_lt (x + 1) n))
      where
        along : x + 1 < n → (p : ℕ) × (beside rows n (turned n y x, y) p ≡ Some (place_at n (k + 1)))
        along m =
            subst (λ b. (p : ℕ) × (beside rows n (turned n y x, y) p ≡ Some b)) (sym (place_is (k + 1) y (x + 1) m (omega arith)))
            (⊎_elim (λ s. (0, grind (arith, nat_tests))) (λ s. (1, grind (arith, nat_tests))) (cases_lt (y % 2) 1))

        up : n ≤ x + 1 → (p : ℕ) × (beside rows n (turned n y x, y) p ≡ Some (place_at n (k + 1)))
        up m =
            let above : k + 1 ≡ (y + 1) * n + 0 = omega (arith, native.Mathlib.Nat.add-mul y 1 n) in
            let room : y + 1 < rows = subst (λ (z : ℕ). z < rows) (ap (λ (z : ℕ). z / n) above ∙ div-mul-add (y + 1) n 0 shape.1) (div_below (k + 1) n rows shape.1 h) in
            subst (λ b. (p : ℕ) × (beside rows n (turned n y x, y) p ≡ Some b)) (sym (place_is (k + 1) (y + 1) 0 shape.1 above))
            (2, grind (arith, nat_tests))

    chain : (k : ℕ) → k + 1 < rows * n → (p : ℕ) × (beside rows n (place_at n k) p ≡ Some (place_at n (k + 1)))
    chain k h = next k (k / n) (k % n) h (mod_below k n shape.1) (sym (div-add-mod' k n))

    pub mesh_placing : Placing In (rows * n) (place_at n) (label_at n) (beside rows n)
    mesh_placing = record {
      nonempty = omega (arith, mul-le 1 1 rows n shape.0 shape.1);
      bounded = shape.2;
      placed = placed;
      below = below;
      label_place = label_place;
      place_label = place_label;
      reaches = λ a b p i e. let s = stepped p a b i e in (s.0, s.1);
      no_self = λ a p i e. omega (arith, stepped p a a i e);
      once = λ a b p q i e f. omega (arith, stepped p a b i e, stepped q a b i f);
      two_way = λ a b p. back p a b;
      chain = chain;
    }

    pub mesh_lawful : Lawful (mesh_meaning rows n)
    mesh_lawful = placed_lawful In (rows * n) (place_at n) (label_at n) (beside rows n) mesh_placing

    label_exists : (k : ℕ) → k < rows * n → place_of rows n k ≡ Some (place_at n k)
    label_exists k h = grind (arith, nat_tests)

    place_law : (k : ℕ) → Placed rows n k (place_of rows n k)
    place_law k a = (
      (λ e.
          let h = allowed_is (nat_lt k (rows * n)) e in
          let l = ltb-true k (rows * n) h.0 in
          subst (λ b. label_of rows n b ≡ Some k) h.1 (label_inside (place_at n k) (placed k l) ∙ ap Some (label_place k l))),
      (λ e.
          let h = allowed_is (inside rows n a) e in
          let i = within a h.0 in
          subst (λ l. place_of rows n l ≡ Some a) h.1 (label_exists (label_at n a) (below a i) ∙ ap Some (place_label a i))),
    )

    pub place_as : (k : ℕ) (r : Option Place) → r ≡ place_of rows n k → record { is : r ≡ place_of rows n k; law : Placed rows n k r }
    place_as k = with_law (Placed rows n k) _ (place_law k)

    pub mesh_near_as : (k p : ℕ) (r : Option ℕ) → r ≡ mesh_near rows n k p → record { is : r ≡ mesh_near rows n k p; law : BySteps (rows * n) (place_at n) (beside rows n) k p r }
    mesh_near_as k p = with_law (BySteps (rows * n) (place_at n) (beside rows n) k p) _ (placed_by_steps In (rows * n) (place_at n) (label_at n) (beside rows n) mesh_placing k p)

    pub one_address : (a b : Place) → In a → In b → address_at a ≡ address_at b → a ≡ b
    one_address a b i j e = let w = narrow rows n shape in pair a b (omega arith) (omega arith)

    pub small_address : (a : Place) → In a → address_at a < 2 ^ 32
    small_address a i = let w = narrow rows n shape in omega arith

    -- a place of the mesh is the one with its address
    with_address : (x : ℕ) (a : Place) → In a → address_at a ≡ x → place_with x ≡ Some a
    with_address x a i e =
        let w = narrow rows n shape in
        grind (arith, nat_tests)

    -- so the label with an address is that of its place, and there is none for a place off the mesh
    by_place : (x : ℕ) (o : Option Place) → place_with x ≡ o → option_and_then (label_of rows n) o ≡ label_with (mesh_addresses rows n) x
    by_place x None e = label_none mesh_placing address_at x (λ b i g. nothing (sym e ∙ with_address x b i g))
    by_place x (Some a) e = go (inside rows n a) refl
      where
        go : (t : Bool) → inside rows n a ≡ t → label_of rows n a ≡ label_with (mesh_addresses rows n) x
        go true f =
            let h = allowed_is (nat_lt x 65536) e in
            let whole : address_at a ≡ x = omega (arith, ap (λ (b : Place). b.0) h.1, ap (λ (b : Place). b.1) h.1) in
            let i = within a f in
            label_inside a i ∙ label_found mesh_placing address_at one_address a i ∙ ap (label_with (mesh_addresses rows n)) whole
        go false f =
            cond-false (inside rows n a) (Some (label_at n a)) None f
            ∙ label_none mesh_placing address_at x (λ b i g. both_ways (inside rows n a) f (subst (λ c. inside rows n c ≡ true) (same (sym (with_address x b i g) ∙ e)) (inside_true b i)))

    pub mesh_label_as : (x : ℕ) (r : Option ℕ) → r ≡ option_and_then (label_of rows n) (place_with x) → record { is : r ≡ label_with (mesh_addresses rows n) x; law : Located (mesh_addresses rows n) x r; long : length (mesh_addresses rows n) ≡ rows * n }
    mesh_label_as x r e = label_as mesh_placing address_at x r (e ∙ by_place x (place_with x) refl)
