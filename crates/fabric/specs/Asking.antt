-- What the check of a chart tells: that everything passes, or the first fault.
use Rattle.std.specs.Prelude.{◌≡◌, ℕ, zero, suc, ◌+◌, ◌-◌, ◌*◌, ◌/◌, ◌%◌, ◌<◌, ◌≤◌, Bool, true, false, cond, not, ◌||◌, List, [], ◌∷◌, length, is_some, Some, None, Decides, Option, nat_eq, nat_le, nat_lt}
use Rattle.std.specs.Option.{option_map, option_or}
use Rattle.std.proofs.Math.Path.{refl, subst}
use Rattle.std.proofs.Common.{sym, ap, ◌∙◌, ⊎_elim, inl, inr, arith}
use Rattle.std.proofs.lemmas.Bool.{true≢false, both_ways, cases_lt, cond-true, leb-true, le-leb}
use Rattle.std.proofs.lemmas.Bool.Decides.{Decides-and, Decides-or, Decides-not, Decides-like, Decides-eqb, Decides-ltb}
use Rattle.fabric.specs.Chart.{records_of, whole, port_at, address_at, Whole}
use Rattle.fabric.specs.Check.{question_number, names, taken, passes, passes_at, Fault, fault_at, found, sweep, questions, fault, Passes, FirstFault}
use Rattle.fabric.specs.Search.{first_fail}
use Rattle.fabric.specs.declared.questions.Question.{Question}
use Rattle.fabric.specs.declared.questions.Question.TheVariants.{Exists, Other, New, Mutual, Address, Next}
use Rattle.fabric.specs.Optional.{each_is, each_none}
use Rattle.fabric.specs.Searching.{below_decides, first_some, first_none, none_first}

-- ---- the tests, and what they ask in plain terms

whole_decides : (b : List ℕ) → Decides (whole b) (Whole b)
whole_decides b =
    Decides-like _
    (λ h. let left_over = h.0.0 in record { nonempty = h.0.1; bounded = h.1; exact = omega arith })
    (λ w. let e = w.exact in ((omega arith, w.nonempty), w.bounded))
    (Decides-and _ _ (Decides-and _ _ (Decides-eqb (length b % 12) 0) (decides_leb 1 (records_of b))) (decides_leb (records_of b) 128))
  where
    decides_leb : (m n : ℕ) → Decides (nat_le m n) (m ≤ n)
    decides_leb m n = (leb-true m n, le-leb m n)

-- a label among the first ports of a record
named_decides : (b : List ℕ) (k v n : ℕ) → Decides (names b k v n) ((q : ℕ) × (q < n) × (port_at b k q ≡ v))
named_decides b k v n = below_decides (λ q. nat_eq (port_at b k q) v) (λ q. Decides-eqb (port_at b k q) v) n

taken_decides : (b : List ℕ) (k : ℕ) → Decides (taken b k) ((j : ℕ) × (j < k) × (address_at b j ≡ address_at b k))
taken_decides b k = below_decides (λ j. nat_eq (address_at b j) (address_at b k)) (λ j. Decides-eqb (address_at b j) (address_at b k)) k

-- none is found exactly where each is another
none_decides : {t : Bool} {n : ℕ} {P : ℕ → Type 0} → Decides t ((q : ℕ) × (q < n) × P q) → Decides (not t) ((q : ℕ) → q < n → P q → ⊥)
none_decides {t} d = Decides-like _ (λ out q l e. out (q, l, e)) (λ h x. h x.0 x.1 x.2) (Decides-not t d)

-- a question that is put at port 0 alone
at_zero_decides : {t : Bool} {P : Type 0} (p : ℕ) → Decides t P → Decides (nat_lt 0 p || t) (p ≡ 0 → P)
at_zero_decides {t} p d =
    Decides-like _
    (⊎_elim (λ l e. absurd (let z : ⊥ = omega arith in z)) (λ h _. h))
    (λ h. ⊎_elim inl (λ l. inr (h (omega arith))) (cases_lt 0 p))
    (Decides-or (nat_lt 0 p) t (Decides-ltb 0 p) d)

pub passes_decides : (q : Question) (b : List ℕ) (k p : ℕ) → Decides (passes q b k p) (Passes q b k p)
passes_decides Exists b k p = Decides-or _ _ (Decides-eqb (port_at b k p) 255) (Decides-ltb (port_at b k p) (records_of b))
passes_decides Other b k p = Decides-not _ (Decides-eqb (port_at b k p) k)
passes_decides New b k p = Decides-or _ _ (Decides-eqb (port_at b k p) 255) (none_decides (named_decides b k (port_at b k p) p))
passes_decides Mutual b k p = Decides-or _ _ (Decides-eqb (port_at b k p) 255) (named_decides b (port_at b k p) k 8)
passes_decides Address b k p = at_zero_decides p (none_decides (taken_decides b k))
passes_decides Next b k p =
    at_zero_decides p
    (Decides-like _
    (⊎_elim (λ l h. absurd (let z : ⊥ = omega arith in z)) (λ h _. h))
    (λ h. ⊎_elim (λ l. inr (h l)) inl (cases_lt (k + 1) (records_of b)))
    (Decides-or (nat_le (records_of b) (k + 1)) _ (leb-true (records_of b) (k + 1), le-leb (records_of b) (k + 1)) (named_decides b k (k + 1) 8)))

-- the question's test passes at every record and port
abbrev pub TestsPass : List ℕ → Question → Type 0
TestsPass b q = (k p : ℕ) → k < records_of b → p < 8 → passes q b k p ≡ true

-- ---- the first fault

-- a place, by its record and its port
at_place : (b : List ℕ) (q : Question) (t : Bool) (k p : ℕ) → p < 8 → passes_at q b (8 * k + p) ≡ t → passes q b k p ≡ t
at_place b q t k p l e =
    let row : (8 * k + p) / 8 ≡ k = omega arith in
    let column : (8 * k + p) % 8 ≡ p = omega arith in
    subst (λ x. passes q b k x ≡ t) column (subst (λ x. passes q b x ((8 * k + p) % 8) ≡ t) row e)

found_none : (b : List ℕ) (q : Question) → found b q ≡ None → TestsPass b q
unfolding found
found_none b q e k p h l =
    at_place b q true k p l (first_none (passes_at q b) (8 * records_of b) (each_none (fault_at q) (first_fail (passes_at q b) (8 * records_of b)) e) (8 * k + p) (omega arith))

none_found : (b : List ℕ) (q : Question) → TestsPass b q → found b q ≡ None
unfolding found
none_found b q h = ap (option_map (fault_at q)) (none_first (passes_at q b) (8 * records_of b) (λ i l. h (i / 8) (i % 8) (omega arith) (omega arith)))

-- what is told of a chart of whole records: no fault, or the first
abbrev Told : List ℕ → Option Fault → Type 0
Told b None = (q : Question) → TestsPass b q
Told b (Some f) = FirstFault b f.0 f.1 f.2

-- the questions are told apart by their numbers
asked : ℕ → Question
asked zero = Exists
asked (suc zero) = Other
asked (suc (suc zero)) = New
asked (suc (suc (suc zero))) = Mutual
asked (suc (suc (suc (suc zero)))) = Address
asked (suc (suc (suc (suc (suc n))))) = Next

by_number : (q : Question) → (asked (question_number q - 4) ≡ q) × (4 ≤ question_number q) × (question_number q < 10)
unfolding asked
by_number Exists = (refl, omega arith, omega arith)
by_number Other = (refl, omega arith, omega arith)
by_number New = (refl, omega arith, omega arith)
by_number Mutual = (refl, omega arith, omega arith)
by_number Address = (refl, omega arith, omega arith)
by_number Next = (refl, omega arith, omega arith)

one_number : (q e : Question) → question_number q ≡ question_number e → q ≡ e
one_number q e n = sym (by_number q).0 ∙ ap (λ x. asked (x - 4)) n ∙ (by_number e).0

-- the numbers of the questions go up one by one, to 9
abbrev Rising : ℕ → List Question → Type 0
Rising m [] = m ≡ 10
Rising m (q ∷ qs) = (question_number q ≡ m) × Rising (m + 1) qs

module _ (b : List ℕ) (long : whole b ≡ true) where
  found_first : (q : Question) (f : Fault) → ((e : Question) → question_number e < question_number q → TestsPass b e) → found b q ≡ Some f → FirstFault b f.0 f.1 f.2
  unfolding found
  found_first q f earlier e =
      let at = each_is (fault_at q) (first_fail (passes_at q b) (8 * records_of b)) e in
      let i = at.0 in
      let r = first_some (passes_at q b) (8 * records_of b) i at.1 in
      let below = r.0 in
      subst (λ (t : Fault). FirstFault b t.0 t.1 t.2) at.2
      (inr (
        q,
        refl,
        record {
          is_whole = (whole_decides b).0 long;
          is_record = omega arith;
          is_port = omega arith;
          fails = λ h. both_ways _ r.1 ((passes_decides q b (i / 8) (i % 8)).1 h);
          earlier_questions = λ e l k p h m. (passes_decides e b k p).0 (earlier e l k p h m);
          earlier_records = λ k p h l. (passes_decides q b k p).0 (at_place b q true k p l (r.2 (8 * k + p) (omega arith)));
          earlier_ports = λ p h. (passes_decides q b (i / 8) p).0 (at_place b q true (i / 8) p (omega arith) (r.2 (8 * (i / 8) + p) (omega arith)));
        },
      ))

  tells : (m : ℕ) (qs : List Question) → Rising m qs → ((e : Question) → question_number e < m → TestsPass b e) → Told b (sweep b qs)
  tells m [] up earlier = λ q. earlier q (let l = (by_number q).2 in omega arith)
  tells m (q ∷ qs) up earlier = decide (found b q) refl (tells (m + 1) qs up.1)
    where
      decide : (o : Option Fault) → found b q ≡ o → (((e : Question) → question_number e < m + 1 → TestsPass b e) → Told b (sweep b qs)) → Told b (option_or o (sweep b qs))
      decide None f rest =
          let n = up.0 in
          rest (λ e l.
          ⊎_elim
          (earlier e)
          (λ h. let s : question_number q ≡ question_number e = omega arith in subst (TestsPass b) (one_number q e s) (found_none b q f))
          (cases_lt (question_number e) m))
      decide (Some x) f rest = let n = up.0 in found_first q x (λ e l. earlier e (omega arith)) f

-- what passing comes to
pub record Sound (b : List ℕ) : Type 0 where
  pub long : Whole b
  pub all_pass : (q : Question) → TestsPass b q

-- what is told of any bytes
abbrev pub Verdict : List ℕ → Option Fault → Type 0
Verdict b None = Sound b
Verdict b (Some f) = FirstFault b f.0 f.1 f.2

pub verdict : (b : List ℕ) → Verdict b (fault b)
verdict b = decide (whole b) refl
  where
    whole_told : (o : Option Fault) → whole b ≡ true → Told b o → Verdict b o
    whole_told None w t = record { long = (whole_decides b).0 w; all_pass = t }
    whole_told (Some f) w t = t

    decide : (t : Bool) → whole b ≡ t → Verdict b (cond t (sweep b questions) (Some (3, 0, 0)))
    decide true w = whole_told (sweep b questions) w (tells b w 4 questions (refl, (refl, (refl, (refl, (refl, (refl, refl)))))) (λ e l. absurd (let h = (by_number e).1 in let z : ⊥ = omega arith in z)))
    decide false w = inl ((λ h. both_ways (whole b) w ((whole_decides b).1 h)), refl, refl, refl)

pub no_fault : (b : List ℕ) → Sound b → fault b ≡ None
no_fault b s = cond-true (whole b) (sweep b questions) (Some (3, 0, 0)) ((whole_decides b).1 s.long) ∙ swept questions
  where
    swept : (qs : List Question) → sweep b qs ≡ None
    swept [] = refl
    swept (q ∷ qs) = ap (λ x. option_or x (sweep b qs)) (none_found b q (s.all_pass q)) ∙ swept qs

pub sound : (b : List ℕ) → fault b ≡ None → Sound b
sound b e = subst (Verdict b) e (verdict b)

-- the same of a chart that is held
pub held_sound : (b : List ℕ) → is_some (fault b) ≡ false → Sound b
held_sound b e = go (fault b) e (verdict b)
  where
    go : (o : Option Fault) → is_some o ≡ false → Verdict b o → Sound b
    go None f v = v
    go (Some x) f v = absurd (true≢false f)
