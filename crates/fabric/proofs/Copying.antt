-- The chart of a fabric gives the fabric again, and the fabric of a chart the chart.
use Rattle.std.proofs.Common.{◌≡◌, ℕ, ◌+◌, ◌-◌, ◌*◌, ◌/◌, ◌%◌, ◌<◌, ◌≤◌, true, false, cond, not, ◌&&◌, eqb, ltb, ◌≢◌, List, length, get_or, is_some, Some, None, Option, unwrap_or, sym, refl, ap, ◌∙◌, subst, ap₂, ⊎_elim, arith}
use Rattle.std.specs.List.{slice_get}
use Rattle.std.proofs.lemmas.List.FromFn.{length-map-range_with_len, get_or-map-range_with_len, fill_by_all}
use Rattle.std.proofs.lemmas.Option.{slice_get-get_or}
use Rattle.std.proofs.lemmas.Bool.{cases_lt, cases_eq, le-ltb, lt-ltb, eq-eqb, ne_eqb, and_left, and_right, not_from_false, cond-true, cond-false}
use Rattle.fabric.specs.Chart.{records_of, port_at, address_at, chart_near, chart_meaning, chart_addresses, octets, alone}
use Rattle.fabric.specs.Check.{Fault, found, fault, opened_as}
use Rattle.fabric.specs.Copy.{address_byte, record_byte, chart_byte, chart_of, OpensAs, OneNode, Opened}
use Rattle.fabric.specs.Fabrics.{Near, Meaning, Lawful, AllDifferent, AllFit, SameMeaning}
use Rattle.fabric.specs.Options.{allowed}
use Rattle.fabric.specs.Asking.{sound}
use Rattle.fabric.specs.Charting.{near_inside, no_fault_in, chart_lawful}
use Rattle.fabric.specs.Counting.{nth_counted}
use Rattle.fabric.specs.Octets.{four_bytes, address_byte_lem}

-- bytes that pass open as they are, and others as one node
pub opened_good : (b : List ℕ) → fault b ≡ None → opened_as b ≡ b
opened_good b e = ap (λ (o : Option Fault). cond (is_some o) alone b) e

opened_bad : (b : List ℕ) → fault b ≢ None → opened_as b ≡ alone
opened_bad b = go (fault b)
  where
    go : (o : Option Fault) → o ≢ None → cond (is_some o) alone b ≡ alone
    go None bad = absurd (bad refl)
    go (Some f) bad = refl

-- a fabric with the same neighbours is as lawful
lawful_like : (m : Meaning) (other : Near) → ((u p : ℕ) → other u p ≡ m.near u p) → Lawful m → Lawful (record { nodes = m.nodes; near = other })
lawful_like m other like law = record {
  nonempty = law.nonempty;
  bounded = law.bounded;
  within = λ u p v e. law.within u p v (sym (like u p) ∙ e);
  no_self = λ u e. law.no_self u (e.0, sym (like u e.0) ∙ e.1);
  once = λ u p q v e f. law.once u p q v (sym (like u p) ∙ e) (sym (like u q) ∙ f);
  two_way = λ u v e. let r = law.two_way u v (e.0, sym (like u e.0) ∙ e.1) in (r.0, like v r.0 ∙ r.1);
  chain = λ u h. let r = law.chain u h in (r.0, like u r.0 ∙ r.1);
}

module _ (m : Meaning) (addresses : List ℕ) (law : Lawful m) (different : AllDifferent addresses) (fit : AllFit addresses) (all : length addresses ≡ m.nodes) where
  abbrev bytes : List ℕ
  bytes = chart_of m addresses

  long : length bytes ≡ 12 * m.nodes
  long = length-map-range_with_len (chart_byte m.near addresses) 0 (12 * m.nodes)

  count : records_of bytes ≡ m.nodes
  count = let e : 12 * m.nodes / 12 ≡ m.nodes = omega arith in ap (λ x. x / 12) long ∙ e

  byte_at : (k j i : ℕ) → k < m.nodes → j < 12 → i ≡ 12 * k + j → get_or bytes i 0 ≡ record_byte m.near addresses k j
  byte_at k j i h l e =
      let row : i / 12 ≡ k = omega arith in
      let column : i % 12 ≡ j = omega arith in
      get_or-map-range_with_len (chart_byte m.near addresses) 0 (12 * m.nodes) i i 0 (omega arith) (omega arith) ∙ ap₂ (record_byte m.near addresses) row column

  port_is : (k p : ℕ) → k < m.nodes → p < 8 → port_at bytes k p ≡ unwrap_or (m.near k p) 255
  unfolding port_at
  port_is k p h l =
      let back : (4 + p) - 4 ≡ p = omega arith in
      byte_at k (4 + p) (12 * k + 4 + p) h (omega arith) (omega arith)
      ∙ cond-false (ltb (4 + p) 4) (address_byte (unwrap_or (slice_get addresses k) 0) (4 + p)) (unwrap_or (m.near k ((4 + p) - 4)) 255) (le-ltb (4 + p) 4 (omega arith))
      ∙ ap (λ x. unwrap_or (m.near k x) 255) back

  address_is : (k : ℕ) → k < m.nodes → address_at bytes k ≡ get_or addresses k 0
  unfolding address_at
  address_is k h =
      let a = unwrap_or (slice_get addresses k) 0 in
      let there : slice_get addresses k ≡ Some (get_or addresses k 0) = slice_get-get_or addresses k 0 (omega arith) in
      let same : a ≡ get_or addresses k 0 = ap (λ o. unwrap_or o 0) there in
      let small = fit k (get_or addresses k 0) there in
      let e0 : get_or bytes (12 * k) 0 ≡ a / 16777216 % 256 = byte_at k 0 (12 * k) h (omega arith) (omega arith) in
      let e1 : get_or bytes (12 * k + 1) 0 ≡ a / 65536 % 256 = byte_at k 1 (12 * k + 1) h (omega arith) (omega arith) in
      let e2 : get_or bytes (12 * k + 2) 0 ≡ a / 256 % 256 = byte_at k 2 (12 * k + 2) h (omega arith) (omega arith) in
      let e3 : get_or bytes (12 * k + 3) 0 ≡ a / 1 % 256 = byte_at k 3 (12 * k + 3) h (omega arith) (omega arith) in
      ap₂ (λ x y. x * 256 + y) (ap₂ (λ x y. x * 256 + y) (ap₂ (λ x y. x * 256 + y) e0 e1) e2) e3 ∙ four_bytes a (omega arith) ∙ same

  near_again : (u p : ℕ) → chart_near bytes u p ≡ m.near u p
  near_again u p =
      ⊎_elim
      (λ h.
      ⊎_elim
      (λ l. inside h l (m.near u p) refl)
      (λ l. outside (and_right (ltb u (records_of bytes)) (ltb p 8) (le-ltb p 8 l)) (λ _ c. omega arith) (m.near u p) refl)
      (cases_lt p 8))
      (λ h. outside (and_left (ltb u (records_of bytes)) (ltb p 8) (le-ltb u (records_of bytes) (subst (λ x. x ≤ u) (sym count) h))) (λ a _. omega arith) (m.near u p) refl)
      (cases_lt u m.nodes)
    where
      inside : u < m.nodes → p < 8 → (o : Option ℕ) → m.near u p ≡ o → chart_near bytes u p ≡ o
      inside h l o e =
          near_inside bytes u p (subst (λ x. u < x) (sym count) h) l
          ∙ ap (λ x. allowed (not (eqb x 255)) x) (port_is u p h l ∙ ap (λ x. unwrap_or x 255) e)
          ∙ elim o as (λ x. m.near u p ≡ x → allowed (not (eqb (unwrap_or x 255) 255)) (unwrap_or x 255) ≡ x) [
            | None ↦ λ f. refl
            | Some w ↦ λ f. cond-true (not (eqb w 255)) (Some w) None (not_from_false (eqb w 255) (ne_eqb w 255 (λ g. let x = (law.within u p w f).2 in let y = law.bounded in omega arith)))
          ] e

      outside : (ltb u (records_of bytes) && ltb p 8) ≡ false → (u < m.nodes → p < 8 → ⊥) → (o : Option ℕ) → m.near u p ≡ o → chart_near bytes u p ≡ o
      outside t out o e =
          cond-false (ltb u (records_of bytes) && ltb p 8) (allowed (not (eqb (port_at bytes u p) 255)) (port_at bytes u p)) None t
          ∙ elim o as (λ x. m.near u p ≡ x → None ≡ x) [ None ↦ λ f. refl | Some w ↦ λ f. let r = law.within u p w f in absurd (out r.0 r.1) ] e

  addresses_again : chart_addresses bytes ≡ addresses
  addresses_again = sym (fill_by_all (address_at bytes) addresses (records_of bytes) 0 (all ∙ sym count) (λ k h. sym (address_is k (subst (λ x. k < x) count h))))

  passes_again : fault bytes ≡ None
  passes_again =
      no_fault_in bytes (record {
        long = record {
          nonempty = subst (λ x. 1 ≤ x) (sym count) law.nonempty;
          bounded = subst (λ x. x ≤ 128) (sym count) law.bounded;
          exact = ap (λ x. 12 * x) count ∙ sym long;
        };
        lawful = subst (λ x. Lawful (record { nodes = x; near = chart_near bytes })) (sym count) (lawful_like m (chart_near bytes) near_again law);
        different = subst AllDifferent (sym addresses_again) different;
      })

  pub opens_as : OpensAs bytes m addresses
  opens_as =
      let same = sym (opened_good bytes passes_again) in
      record {
        passes = passes_again;
        meaning = subst (λ (x : List ℕ). SameMeaning (chart_meaning x) m) same (record { size = count; answers = near_again });
        addressed = subst (λ (x : List ℕ). chart_addresses x ≡ addresses) same addresses_again;
      }

or_255 : (v : ℕ) → unwrap_or (allowed (not (eqb v 255)) v) 255 ≡ v
or_255 v =
    ⊎_elim
    (λ e. ap (λ t. unwrap_or (allowed (not t) v) 255) (eq-eqb v 255 e) ∙ sym e)
    (λ e. ap (λ t. unwrap_or (allowed (not t) v) 255) (ne_eqb v 255 e))
    (cases_eq v 255)

module _ (x : List ℕ) (exact : 12 * records_of x ≡ length x) (small : octets x ≡ true) where
  port_byte : (k p i : ℕ) → k < records_of x → p < 8 → i ≡ 12 * k + 4 + p → unwrap_or (chart_near x k p) 255 ≡ get_or x i 0
  unfolding port_at
  port_byte k p i h l e = ap (λ o. unwrap_or o 255) (near_inside x k p h l) ∙ or_255 (port_at x k p) ∙ ap (λ n. get_or x n 0) (sym e)

  byte_again : (i : ℕ) → i < 12 * records_of x → get_or x i 0 ≡ chart_byte (chart_near x) (chart_addresses x) i
  byte_again i h =
      let k = i / 12 in
      let j = i % 12 in
      let row : k < records_of x = omega arith in
      let place : 12 * k + j ≡ i = omega arith in
      let of_address = address_byte (unwrap_or (slice_get (chart_addresses x) k) 0) j in
      let of_port = unwrap_or (chart_near x k (j - 4)) 255 in
      sym (⊎_elim
      (λ l. cond-true (ltb j 4) of_address of_port (lt-ltb j 4 l) ∙ ap (λ o. address_byte (unwrap_or o 0) j) (nth_counted (address_at x) (records_of x) k row) ∙ address_byte_lem x small k j l ∙ ap (λ n. get_or x n 0) place)
      (λ l. cond-false (ltb j 4) of_address of_port (le-ltb j 4 l) ∙ port_byte k (j - 4) i row (omega arith) (omega arith))
      (cases_lt j 4))

  pub chart_again : chart_of (chart_meaning x) (chart_addresses x) ≡ x
  chart_again = sym (fill_by_all (chart_byte (chart_near x) (chart_addresses x)) x (12 * records_of x) 0 (sym exact) byte_again)

-- one node has no neighbour
lonely : (near : Near) → Lawful (record { nodes = 1; near = near }) → (u p : ℕ) → near u p ≡ None
lonely near law u p = go (near u p) refl
  where
    go : (o : Option ℕ) → near u p ≡ o → o ≡ None
    go None e = refl
    go (Some v) e =
        let r = law.within u p v e in
        let here : u ≡ 0 = let h = r.0 in omega arith in
        let there : v ≡ u = let h = r.2 in omega arith in
        absurd (law.no_self u (p, e ∙ ap Some there))

pub alone_passes : fault alone ≡ None
unfolding found port_at address_at
alone_passes = refl

alone_is : OneNode (chart_meaning alone) (chart_addresses alone)
unfolding address_at
alone_is = record { size = refl; answers = lonely (chart_near alone) (chart_lawful alone (sound alone alone_passes)); addressed = refl }

-- what `open` owes, from the bytes alone
pub opened_as_lem : (b held : List ℕ) → octets held ≡ true → held ≡ opened_as b → record { is : held ≡ opened_as b; law : Opened b held }
opened_as_lem b held small e = record {
  is = e;
  law = record {
    again = λ good.
        let same = e ∙ opened_good b good in
        chart_again held (subst (λ (x : List ℕ). 12 * records_of x ≡ length x) (sym same) (sound b good).long.exact) small ∙ same;
    alone = λ bad. subst (λ (x : List ℕ). OneNode (chart_meaning x) (chart_addresses x)) (sym (e ∙ opened_bad b bad)) alone_is;
  };
}
