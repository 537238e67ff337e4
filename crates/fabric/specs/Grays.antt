-- The rule of the Gray code, tested once over its whole table; and the laws of the cube from it.
use Rattle.std.specs.Prelude.{◌≡◌, ℕ, zero, suc, ◌+◌, ◌/◌, ◌^◌, ◌<◌, ◌≤◌, Bool, true, false, not, ◌&&◌, ◌||◌, ◌↔◌, length, Some, Option, ◌==◌, ◌≢◌, bit_xor, nat_lt, refl}
use Rattle.std.proofs.Common.{sym, ap, subst, ◌∙◌, ⊎_elim, arith}
use Rattle.std.specs.Int.Bits.{xor_assoc, xor_self, xor_zero_l, xor_zero_r}
use Rattle.std.specs.Int.Count.{ones, ones_in, count_trailing_zeros}
use Rattle.std.proofs.Math.Pow.{pow_mono}
use Rattle.std.proofs.lemmas.Nat.{pow_pos, pow_below, shr_le, xor_lt}
use Rattle.std.proofs.lemmas.Bool.{eqb-true, ltb-true, ltb-false, cases_lt}
use Rattle.std.proofs.lemmas.Bool.Decides.{Decides-below_and, nat_tests}
use Rattle.fabric.specs.Fabrics.{Lawful, label_with, Located}
use Rattle.fabric.specs.Gray.{folded, gray, ungray, flip, cube_near, cube_meaning, cube_addresses, port_to, LeadsTo}
use Rattle.fabric.specs.Hop.{exist}
use Rattle.fabric.specs.Steps.{BySteps}
use Rattle.fabric.specs.Options.{allowed}
use Rattle.fabric.specs.Coding.{label_as, label_found, label_none}
use Rattle.fabric.specs.Hopping.{true_exist}
use Rattle.fabric.specs.Optional.{allowed_is, cond_is, with_law}
use Rattle.fabric.specs.Placing.{Placing, placed_lawful, placed_by_steps}

-- a test of a whole table holds at each entry
abbrev all_below : (ℕ → Bool) → ℕ → Bool
all_below test zero = true
all_below test (suc n) = test n && all_below test n

entry : (test : ℕ → Bool) (n : ℕ) → all_below test n ≡ true → (k : ℕ) → k < n → test k ≡ true
entry test n = (Decides-below_and test (λ k. test k ≡ true) (all_below test) (λ k. ((λ x. x), (λ x. x))) refl (λ _. refl) n).0

-- the bit that changes from a label to the next
abbrev changes : ℕ → ℕ
changes k = count_trailing_zeros 8 (k + 1)

-- The rule of the code: code and label undo one another, and the next code differs in one bit.
abbrev rule : ℕ → Bool
rule k = ungray (gray k) == k && (gray (ungray k) == k && bit_xor (gray k) (2 ^ changes k) == gray (k + 1))

rule_table : all_below rule 128 ≡ true
unfolding count_trailing_zeros
rule_table = refl

-- A number with a single one is the power of two of its trailing zeros; and the powers of two are such numbers.
abbrev single : ℕ → Bool
single x = not (ones x == 1) || 2 ^ count_trailing_zeros 8 x == x

single_table : all_below single 128 ≡ true
unfolding ones ones_in count_trailing_zeros
single_table = refl

abbrev power : ℕ → Bool
power p = ones (2 ^ p) == 1 && count_trailing_zeros 8 (2 ^ p) == p

power_table : all_below power 7 ≡ true
unfolding ones ones_in count_trailing_zeros
power_table = refl

coded : (k : ℕ) → k < 128 → (ungray (gray k) ≡ k) × (gray (ungray k) ≡ k) × (bit_xor (gray k) (2 ^ changes k) ≡ gray (k + 1))
coded k h = let r = entry rule 128 rule_table k h in grind (arith, nat_tests)

single_one : (k : ℕ) → k < 128 → ones k ≡ 1 → 2 ^ count_trailing_zeros 8 k ≡ k
single_one k h e = let s = entry single 128 single_table k h in grind (arith, nat_tests)

power_one : (p : ℕ) → p < 7 → (ones (2 ^ p) ≡ 1) × (count_trailing_zeros 8 (2 ^ p) ≡ p)
power_one p h = let e = entry power 7 power_table p h in grind (arith, nat_tests)

-- what was flipped twice is as it was
xor_back : (a b : ℕ) → bit_xor a (bit_xor a b) ≡ b
xor_back a b = sym (xor_assoc a a b) ∙ ap (λ x. bit_xor x b) (xor_self a) ∙ xor_zero_l b

xor_again : (a b : ℕ) → bit_xor (bit_xor a b) b ≡ a
xor_again a b = xor_assoc a b b ∙ ap (bit_xor a) (xor_self b) ∙ xor_zero_r a

-- powers of two are in the order of their exponents
pow_one : (p q : ℕ) → 2 ^ p ≡ 2 ^ q → p ≡ q
pow_one p q e = grind (arith, pow_below)

below_pow : (p q : ℕ) → 2 ^ p < 2 ^ q → p < q
below_pow p q l = ⊎_elim (λ m. m) (λ m. omega (arith, pow_mono m)) (cases_lt p q)

folded_below : (d by x : ℕ) → x < 2 ^ d → folded by x < 2 ^ d
folded_below d by x h = xor_lt d x (x / 2 ^ by) h (omega (arith, shr_le x by))

module _ (d : ℕ) (small : d ≤ 7) where
  abbrev pub Corner : ℕ → Type 0
  Corner a = a < 2 ^ d

  few : 2 ^ d ≤ 128
  few = pow_mono small

  -- what a port leads to
  flips : (a b p : ℕ) → flip d a p ≡ Some b → (p < d) × (bit_xor a (2 ^ p) ≡ b)
  flips a b p e = grind (arith, nat_tests)

  flip_is : (a p : ℕ) → p < d → flip d a p ≡ Some (bit_xor a (2 ^ p))
  flip_is a p h = grind (arith, nat_tests)

  reaches : (a b p : ℕ) → Corner a → flip d a p ≡ Some b → (p < 8) × Corner b
  reaches a b p i e =
      let f = flips a b p e in
      (omega arith, subst Corner f.1 (xor_lt d a (2 ^ p) i (pow_below p d f.0)))

  no_self : (a p : ℕ) → Corner a → flip d a p ≢ Some a
  no_self a p i e =
      let none : 2 ^ p ≡ 0 = sym (xor_back a (2 ^ p)) ∙ ap (bit_xor a) (flips a a p e).1 ∙ xor_self a in
      omega (arith, pow_pos p)

  once : (a b p q : ℕ) → Corner a → flip d a p ≡ Some b → flip d a q ≡ Some b → p ≡ q
  once a b p q i e f = pow_one p q (sym (xor_back a (2 ^ p)) ∙ ap (bit_xor a) ((flips a b p e).1 ∙ sym (flips a b q f).1) ∙ xor_back a (2 ^ q))

  two_way : (a b p : ℕ) → Corner a → flip d a p ≡ Some b → (q : ℕ) × (flip d b q ≡ Some a)
  two_way a b p i e =
      let f = flips a b p e in
      (p, flip_is b p f.0 ∙ ap Some (ap (λ x. bit_xor x (2 ^ p)) (sym f.1) ∙ xor_again a (2 ^ p)))

  -- two corners that differ in one bit are joined by its port
  joined : (a b p : ℕ) → Corner a → Corner b → bit_xor a b ≡ 2 ^ p → flip d a p ≡ Some b
  joined a b p i j e =
      flip_is a p (below_pow p d (subst (λ x. x < 2 ^ d) e (xor_lt d a b i j))) ∙ ap Some (ap (bit_xor a) (sym e) ∙ xor_back a b)

  chain : (k : ℕ) → k + 1 < 2 ^ d → (p : ℕ) × (flip d (gray k) p ≡ Some (gray (k + 1)))
  chain k h =
      let next = (coded k (omega (arith, few))).2 in
      (changes k, joined (gray k) (gray (k + 1)) (changes k) (folded_below d 1 k (omega arith)) (folded_below d 1 (k + 1) h) (ap (bit_xor (gray k)) (sym next) ∙ xor_back (gray k) (2 ^ changes k)))

  pub cube_placing : Placing Corner (2 ^ d) gray ungray (flip d)
  cube_placing = record {
    nonempty = pow_pos d;
    bounded = few;
    placed = λ k h. folded_below d 1 k h;
    below = λ a h. folded_below d 4 (folded 2 (folded 1 a)) (folded_below d 2 (folded 1 a) (folded_below d 1 a h));
    label_place = λ k h. (coded k (omega (arith, few))).0;
    place_label = λ a h. (coded a (omega (arith, few))).1;
    reaches = reaches;
    no_self = no_self;
    once = once;
    two_way = two_way;
    chain = chain;
  }

  pub cube_lawful : Lawful (cube_meaning d)
  cube_lawful = placed_lawful Corner (2 ^ d) gray ungray (flip d) cube_placing

  pub cube_near_as : (k p : ℕ) (r : Option ℕ) → r ≡ cube_near d k p → record { is : r ≡ cube_near d k p; law : BySteps (2 ^ d) gray (flip d) k p r }
  cube_near_as k p = with_law (BySteps (2 ^ d) gray (flip d) k p) _ (placed_by_steps Corner (2 ^ d) gray ungray (flip d) cube_placing k p)

  pub small_corner : (a : ℕ) → Corner a → a < 2 ^ 32
  small_corner a i = omega (arith, few)

  -- the port to a label, in plain terms
  port_law : (u v : ℕ) → LeadsTo (cube_near d) u v (port_to d u v)
  port_law u v p = (
    (λ e.
        let h = cond_is (exist (2 ^ d) u v) e in
        let o = allowed_is (ones bits == 1) h.1 in
        let k = true_exist (2 ^ d) u v h.0 in
        let i = folded_below d 1 u k.0 in
        let j = folded_below d 1 v k.1 in
        let one = single_one bits (omega (arith, few, xor_lt d (gray u) (gray v) i j)) (eqb-true (ones bits) 1 o.0) in
        steps.1 (k.0, k.1, joined (gray u) (gray v) p i j (sym one ∙ ap (λ x. 2 ^ x) o.1))),
    (λ e.
        let s = steps.0 e in
        let f = flips (gray u) (gray v) p s.2 in
        let bit : bits ≡ 2 ^ p = ap (bit_xor (gray u)) (sym f.1) ∙ xor_back (gray u) (2 ^ p) in
        let one = power_one p (omega arith) in
        grind (arith, nat_tests)),
  )
    where
      bits : ℕ
      bits = bit_xor (gray u) (gray v)

      steps : (cube_near d u p ≡ Some v) ↔ ((u < 2 ^ d) × (v < 2 ^ d) × (flip d (gray u) p ≡ Some (gray v)))
      steps = placed_by_steps Corner (2 ^ d) gray ungray (flip d) cube_placing u p v

  pub port_as : (u v : ℕ) (r : Option ℕ) → r ≡ port_to d u v → record { is : r ≡ port_to d u v; law : LeadsTo (cube_near d) u v r }
  port_as u v = with_law (LeadsTo (cube_near d) u v) _ (port_law u v)

  -- the label that has an address
  cube_label : (x : ℕ) (t : Bool) → nat_lt x (2 ^ d) ≡ t → allowed t (ungray x) ≡ label_with (cube_addresses d) x
  cube_label x true e = label_found cube_placing (λ a. a) (λ a b i j f. f) x (ltb-true x (2 ^ d) e)
  cube_label x false e = label_none cube_placing (λ a. a) x (λ a i f. absurd (let l = ltb-false x (2 ^ d) e in let z : ⊥ = omega arith in z))

  pub cube_label_as : (x : ℕ) (r : Option ℕ) → r ≡ allowed (nat_lt x (2 ^ d)) (ungray x) → record { is : r ≡ label_with (cube_addresses d) x; law : Located (cube_addresses d) x r; long : length (cube_addresses d) ≡ 2 ^ d }
  cube_label_as x r e = label_as cube_placing (λ a. a) x r (e ∙ cube_label x (nat_lt x (2 ^ d)) refl)
