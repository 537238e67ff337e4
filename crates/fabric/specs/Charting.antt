-- A chart passes every question exactly where it gives a fabric, with different addresses.
use Rattle.std.specs.Prelude.{◌≡◌, ℕ, zero, suc, ◌+◌, ◌<◌, ◌≤◌, Bool, true, false, cond, find, map, not, ◌&&◌, ◌||◌, List, length, Some, None, Option, ◌==◌, ◌≢◌, nat_eq, nat_le, nat_lt, refl}
use Rattle.std.proofs.Common.{sym, ap, subst, ◌∙◌, ⊎_elim, arith}
use Rattle.std.specs.List.{range_with_len}
use Rattle.std.specs.Option.{option_map}
use Rattle.std.proofs.lemmas.Bool.{both_ways, cases_lt, cases_order, cases_eq, cases_Bool, ltb-true, lt-ltb, le-leb, lt-leb, eqb-true, eqb-false, eq-eqb, ne_eqb, and_parts, and_from, or_cases, or_left, or_right, not-true, not_from_false, cond-true}
use Rattle.fabric.specs.Chart.{records_of, port_at, address_at, chart_near, chart_meaning, chart_addresses, record_with, Charted, Recorded}
use Rattle.fabric.specs.Check.{names, taken, fault, Checked}
use Rattle.fabric.specs.Fabrics.{Lawful, AllDifferent, label_with, Located}
use Rattle.fabric.specs.Options.{allowed}
use Rattle.fabric.specs.declared.questions.Question.{Question}
use Rattle.fabric.specs.declared.questions.Question.TheVariants.{Exists, Other, New, Mutual, Address, Next}
use Rattle.fabric.specs.Asking.{TestsPass, Sound, Verdict, verdict, sound, no_fault}
use Rattle.fabric.specs.Coding.{different, label_as}
use Rattle.fabric.specs.Counting.{nth_counted}
use Rattle.fabric.specs.Optional.{allowed_is, cond_is, with_law}
use Rattle.fabric.specs.Placing.{Placing}
use Rattle.fabric.specs.Searching.{below_hit, below_found}

-- a neighbour in a chart
near_is : (b : List ℕ) (u p v : ℕ) → chart_near b u p ≡ Some v → (u < records_of b) × (p < 8) × (port_at b u p ≡ v) × (v ≢ 255)
near_is b u p v e =
    let outer = cond_is (nat_lt u (records_of b) && nat_lt p 8) e in
    let within = and_parts (nat_lt u (records_of b)) (nat_lt p 8) outer.0 in
    let inner = allowed_is (not (port_at b u p == 255)) outer.1 in
    (ltb-true u (records_of b) within.0, ltb-true p 8 within.1, inner.1, λ f. eqb-false (port_at b u p) 255 (not-true (port_at b u p == 255) inner.0) (inner.1 ∙ f))

-- what the chart answers for a record and a port that exist
pub near_inside : (b : List ℕ) (u p : ℕ) → u < records_of b → p < 8 → chart_near b u p ≡ allowed (not (port_at b u p == 255)) (port_at b u p)
near_inside b u p h l =
    cond-true (nat_lt u (records_of b) && nat_lt p 8) (allowed (not (port_at b u p == 255)) (port_at b u p)) None (and_from (nat_lt u (records_of b)) (nat_lt p 8) (lt-ltb u (records_of b) h) (lt-ltb p 8 l))

is_near : (b : List ℕ) (u p v : ℕ) → u < records_of b → p < 8 → port_at b u p ≡ v → (v ≢ 255) → chart_near b u p ≡ Some v
is_near b u p v h l e ne =
    near_inside b u p h l
    ∙ cond-true (not (port_at b u p == 255)) (Some (port_at b u p)) None (not_from_false (port_at b u p == 255) (ne_eqb (port_at b u p) 255 (λ f. ne (sym e ∙ f))))
    ∙ ap Some e

-- what the chart answers is what its records have
pub chart_near_as : (b : List ℕ) (u p : ℕ) (r : Option ℕ) → r ≡ chart_near b u p → record { is : r ≡ chart_near b u p; law : Recorded b u p r }
chart_near_as b u p = with_law (Recorded b u p) _ (λ v. (near_is b u p v, λ h. is_near b u p v h.0 h.1 h.2 h.3))

-- a search that finds, and one that does not
named : (b : List ℕ) (k v n : ℕ) → names b k v n ≡ true → (q : ℕ) × (q < n) × (port_at b k q ≡ v)
named b k v n e = let r = below_found (λ q. nat_eq (port_at b k q) v) n e in (r.0, r.1, eqb-true (port_at b k r.0) v r.2)

names_it : (b : List ℕ) (k v n q : ℕ) → q < n → port_at b k q ≡ v → names b k v n ≡ true
names_it b k v n q l e = below_hit (λ x. nat_eq (port_at b k x) v) n q l (eq-eqb (port_at b k q) v e)

pub never : (t : Bool) → (t ≢ true) → not t ≡ true
never t out = ⊎_elim (λ e. absurd (out e)) (λ e. not_from_false t e) (cases_Bool t)

-- what holds, 255 aside
aside : (x : ℕ) (t : Bool) → (x ≢ 255) → (x == 255 || t) ≡ true → t ≡ true
aside x t ne e = ⊎_elim (λ f. absurd (ne (eqb-true x 255 f))) (λ f. f) (or_cases (x == 255) t e)

-- of two different numbers one comes first
one_first : (i j : ℕ) → (i < j → ⊥) → (j < i → ⊥) → i ≡ j
one_first i j up down = ⊎_elim (λ e. e) (λ o. absurd (⊎_elim up down o)) (cases_order i j)

-- the first number at which a function takes a value is the place of that value among what it gives in turn
first_with : (f : ℕ → ℕ) (x a n : ℕ) → find (λ k. f k == x) (range_with_len a n) ≡ option_map (λ i. a + i) (label_with (map f (range_with_len a n)) x)
first_with f x a zero = refl
first_with f x a (suc n) = go (first_with f x (a + 1) n) (f a == x)
  where
    rest : Option ℕ
    rest = label_with (map f (range_with_len (a + 1) n)) x

    shifted : (o : Option ℕ) → option_map (λ i. (a + 1) + i) o ≡ option_map (λ i. a + i) (option_map (λ i. i + 1) o)
    shifted None = refl
    shifted (Some i) = ap Some (omega arith)

    go : find (λ k. f k == x) (range_with_len (a + 1) n) ≡ option_map (λ i. (a + 1) + i) rest → (t : Bool) → cond t (Some a) (find (λ k. f k == x) (range_with_len (a + 1) n)) ≡ option_map (λ i. a + i) (cond t (Some 0) (option_map (λ i. i + 1) rest))
    go e true = ap Some (omega arith)
    go e false = e ∙ shifted rest

module _ (b : List ℕ) (s : Sound b) where
  abbrev n : ℕ
  n = records_of b

  few : n ≤ 128
  few = s.long.bounded

  -- what a port that leads somewhere passes
  leads : (u p v : ℕ) → chart_near b u p ≡ Some v → (t : Bool) → (port_at b u p == 255 || t) ≡ true → t ≡ true
  leads u p v e t h = let i = near_is b u p v e in aside (port_at b u p) t (λ f. i.3 (sym i.2 ∙ f)) h

  below : (u p v : ℕ) → chart_near b u p ≡ Some v → v < n
  below u p v e =
      let i = near_is b u p v e in
      subst (λ x. x < n) i.2 (ltb-true (port_at b u p) n (leads u p v e (nat_lt (port_at b u p) n) (s.all_pass Exists u p i.0 i.1)))

  -- of two ports to one label the later fails
  later : (u p q v : ℕ) → chart_near b u p ≡ Some v → chart_near b u q ≡ Some v → p < q → ⊥
  later u p q v e f l =
      let i = near_is b u p v e in
      let j = near_is b u q v f in
      let named_before = names b u (port_at b u q) q in
      let t = leads u q v f (not named_before) (s.all_pass New u q j.0 j.1) in
      both_ways named_before (not-true named_before t) (names_it b u (port_at b u q) q p l (i.2 ∙ sym j.2))

  back : (u p v : ℕ) → chart_near b u p ≡ Some v → (q : ℕ) × (chart_near b v q ≡ Some u)
  back u p v e =
      let i = near_is b u p v e in
      let t = leads u p v e (names b (port_at b u p) u 8) (s.all_pass Mutual u p i.0 i.1) in
      let r = named b v u 8 (subst (λ x. names b x u 8 ≡ true) i.2 t) in
      (r.0, is_near b v r.0 u (below u p v e) r.1 r.2 (λ f. let h = i.0 in let k = few in omega arith))

  next : (u : ℕ) → u + 1 < n → (q : ℕ) × (chart_near b u q ≡ Some (u + 1))
  next u h =
      let t = ⊎_elim (λ f. absurd (both_ways (nat_le n (u + 1)) (lt-leb n (u + 1) h) f)) (λ f. f) (or_cases (nat_le n (u + 1)) (names b u (u + 1) 8) (s.all_pass Next u 0 (omega arith) (omega arith))) in
      let r = named b u (u + 1) 8 t in
      (r.0, is_near b u r.0 (u + 1) (omega arith) r.1 r.2 (λ f. let k = few in omega arith))

  pub chart_lawful : Lawful (chart_meaning b)
  chart_lawful = record {
    nonempty = s.long.nonempty;
    bounded = few;
    within = λ u p v e. let i = near_is b u p v e in (i.0, i.1, below u p v e);
    no_self = λ u e.
        let p = e.0 in
        let i = near_is b u p u e.1 in
        both_ways (port_at b u p == u) (not-true (port_at b u p == u) (s.all_pass Other u p i.0 i.1)) (eq-eqb (port_at b u p) u i.2);
    once = λ u p q v e f. one_first p q (later u p q v e f) (later u q p v f e);
    two_way = λ u v e. back u e.0 v e.1;
    chain = next;
  }

  -- of two records with one address the later fails
  twice : (i j : ℕ) → j < n → address_at b i ≡ address_at b j → i < j → ⊥
  twice i j h e l =
      both_ways (taken b j) (not-true (taken b j) (s.all_pass Address j 0 h (omega arith))) (below_hit (λ x. nat_eq (address_at b x) (address_at b j)) j i l (eq-eqb (address_at b i) (address_at b j) e))

  one_address : (i j : ℕ) → i < n → j < n → address_at b i ≡ address_at b j → i ≡ j
  one_address i j h l e = one_first i j (twice i j l e) (twice j i h (sym e))

  -- the records are places of their own, with the addresses as a code
  pub placing : Placing (λ k. k < n) n (λ k. k) (λ k. k) (chart_near b)
  placing = record {
    nonempty = chart_lawful.nonempty;
    bounded = few;
    placed = λ k h. h;
    below = λ k h. h;
    label_place = λ k h. refl;
    place_label = λ k h. refl;
    reaches = λ u v p h e. let r = chart_lawful.within u p v e in (r.1, r.2);
    no_self = λ u p h e. chart_lawful.no_self u (p, e);
    once = λ u v p q h. chart_lawful.once u p q v;
    two_way = λ u v p h. back u p v;
    chain = next;
  }

  pub chart_different : AllDifferent (chart_addresses b)
  chart_different = different placing (address_at b) one_address

  -- what `label_of` owes
  pub record_as : (x : ℕ) (r : Option ℕ) → r ≡ record_with b n x → record { is : r ≡ label_with (chart_addresses b) x; law : Located (chart_addresses b) x r; long : length (chart_addresses b) ≡ n }
  record_as x r e = label_as placing (address_at b) x r (e ∙ first_with (address_at b) x 0 n ∙ from_zero (label_with (chart_addresses b) x))
    where
      from_zero : (o : Option ℕ) → option_map (λ i. 0 + i) o ≡ o
      from_zero None = refl
      from_zero (Some i) = ap Some (omega arith)

-- and back
module _ (b : List ℕ) (s : Charted b) where
  abbrev m : ℕ
  m = records_of b

  -- 255, or a neighbour
  either : (k p : ℕ) → k < m → p < 8 → (t : Bool) → (chart_near b k p ≡ Some (port_at b k p) → t ≡ true) → (port_at b k p == 255 || t) ≡ true
  either k p h l t f =
      ⊎_elim
      (λ e. or_left (port_at b k p == 255) t (eq-eqb (port_at b k p) 255 e))
      (λ e. or_right (port_at b k p == 255) t (f (is_near b k p (port_at b k p) h l refl e)))
      (cases_eq (port_at b k p) 255)

  named_by : (k v : ℕ) → (q : ℕ) × (chart_near b k q ≡ Some v) → names b k v 8 ≡ true
  named_by k v e = let i = near_is b k e.0 v e.1 in names_it b k v 8 e.0 i.1 i.2

  passes_all : (q : Question) → TestsPass b q
  passes_all Exists k p h l = either k p h l (nat_lt (port_at b k p) m) (λ e. lt-ltb (port_at b k p) m (s.lawful.within k p (port_at b k p) e).2)
  passes_all Other k p h l = never (port_at b k p == k) (λ t. s.lawful.no_self k (p, is_near b k p k h l (eqb-true (port_at b k p) k t) (λ f. let z = s.lawful.bounded in omega arith)))
  passes_all New k p h l =
      let named_before = names b k (port_at b k p) p in
      either k p h l (not named_before) (λ e.
      never named_before (λ t.
      let r = named b k (port_at b k p) p t in
      let same_port = s.lawful.once k r.0 p (port_at b k p) (is_near b k r.0 (port_at b k p) h (let z = r.1 in omega arith) r.2 (near_is b k p (port_at b k p) e).3) e in
      let z = r.1 in
      omega arith))
  passes_all Mutual k p h l = either k p h l (names b (port_at b k p) k 8) (λ e. named_by (port_at b k p) k (s.lawful.two_way k (port_at b k p) (p, e)))
  passes_all Address k p h l =
      or_right (nat_lt 0 p) (not (taken b k))
      (never (taken b k) (λ t.
      let r = below_found (λ j. nat_eq (address_at b j) (address_at b k)) k t in
      let z = s.different r.0 k (address_at b k) (nth_counted (address_at b) m r.0 (let y = r.1 in omega arith) ∙ ap Some (eqb-true (address_at b r.0) (address_at b k) r.2)) (nth_counted (address_at b) m k h) in
      let y = r.1 in
      omega arith))
  passes_all Next k p h l =
      or_right (nat_lt 0 p) (nat_le m (k + 1) || names b k (k + 1) 8)
      (⊎_elim
      (λ c. or_right (nat_le m (k + 1)) (names b k (k + 1) 8) (named_by k (k + 1) (s.lawful.chain k c)))
      (λ c. or_left (nat_le m (k + 1)) (names b k (k + 1) 8) (le-leb m (k + 1) c))
      (cases_lt (k + 1) m))

  pub no_fault_in : fault b ≡ None
  no_fault_in = no_fault b (record { long = s.long; all_pass = passes_all })

-- what the check tells, in plain terms
pub checked : (b : List ℕ) → Checked b (fault b)
checked b = record {
  passes = ((λ e. let s = sound b e in record { long = s.long; lawful = chart_lawful b s; different = chart_different b s }), no_fault_in b);
  first = λ n k p e. subst (Verdict b) e (verdict b);
}
