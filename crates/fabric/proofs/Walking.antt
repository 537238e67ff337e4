-- A walk by hops ends at its target, and the way is the only list of labels that leads there by hops.
use Rattle.std.proofs.Common.{◌≡◌, ℕ, zero, suc, ◌+◌, ◌-◌, ◌<◌, ◌≤◌, true, List, [], ◌∷◌, ◌++◌, length, Some, None, Option, sym, refl, ap, ◌∙◌, ⊎_elim, append_assoc, append-nil, arith, length-append}
use Rattle.std.proofs.lemmas.Bool.{cond-true, cases_eq}
use Rattle.fabric.specs.Fabrics.{Meaning, Lawful}
use Rattle.fabric.specs.Hop.{distance, exist, hop_of}
use Rattle.fabric.specs.Options.{allowed}
use Rattle.fabric.specs.Way.{led, leads, hops_of, way_of, length_of, ByHops, Travelled, Measured}
use Rattle.fabric.specs.Optional.{nothing, allowed_is, with_law}
use Rattle.fabric.specs.Hopping.{hop_law, hop_onward, hop_nearer, no_hop, exist_true, true_exist}

module _ (m : Meaning) (law : Lawful m) (v : ℕ) (aim : v < m.nodes) where
  abbrev hop : ℕ → Option ℕ
  hop x = hop_of m x v

  -- one hop leads to a label that exists and is nearer
  nearer : (u w : ℕ) → hop u ≡ Some w → (w < m.nodes) × (distance w v < distance u v)
  nearer u w e = ((hop_onward m law u v w e).0, hop_nearer m law u v w e)

  -- where there is no hop from a label that exists, it is the target
  arrived : (u : ℕ) → u < m.nodes → hop u ≡ None → u ≡ v
  arrived u h e =
      ⊎_elim (λ s. s) (λ ne. let t = (hop_law m law u v).there h aim ne in absurd (nothing (sym e ∙ t.1))) (cases_eq u v)

  alike_on : (k j u : ℕ) → ((w : ℕ) → w < m.nodes → distance w v < k → distance w v < j → leads k hop w ≡ leads j hop w) → distance u v < suc k → distance u v < suc j → (o : Option ℕ) → hop u ≡ o → led (leads k hop) o ≡ led (leads j hop) o
  alike_on k j u rest l m None e = refl
  alike_on k j u rest l m (Some w) e = let s = nearer u w e in ap (λ ws. w ∷ ws) (rest w s.0 (omega arith) (omega arith))

  -- a bound above the distance of the labels makes no difference
  alike : (k j u : ℕ) → u < m.nodes → distance u v < k → distance u v < j → leads k hop u ≡ leads j hop u
  alike zero j u h l m = absurd (let z : ⊥ = omega arith in z)
  alike (suc k) zero u h l m = absurd (let z : ⊥ = omega arith in z)
  alike (suc k) (suc j) u h l m = alike_on k j u (alike k j) l m (hop u) refl

  hops_at : (k u : ℕ) → u < m.nodes → distance u v < k → hops_of m u v ≡ leads k hop u
  unfolding hops_of
  hops_at k u h l = alike m.nodes k u h (omega arith) l

  -- the hops from where there is none, and from where there is one
  hops_stay : (u : ℕ) → u < m.nodes → hop u ≡ None → hops_of m u v ≡ []
  hops_stay u h e = hops_at (suc (distance u v)) u h (omega arith) ∙ ap (led (leads (distance u v) hop)) e

  hops_on : (u w : ℕ) → u < m.nodes → hop u ≡ Some w → hops_of m u v ≡ w ∷ hops_of m w v
  hops_on u w h e =
      let s = nearer u w e in
      hops_at (suc (distance u v)) u h (omega arith)
      ∙ ap (led (leads (distance u v) hop)) e
      ∙ ap (λ ws. w ∷ ws) (sym (hops_at (distance u v) w s.0 s.1))

  -- hops lead to the target, in no more of them than the labels are apart
  abbrev Leads : ℕ → List ℕ → Type 0
  Leads u ws = ByHops (hop_of m) u v ws × (length ws ≤ distance u v)

  leads_on : (k u : ℕ) → u < m.nodes → ((w : ℕ) → w < m.nodes → distance w v < k → Leads w (leads k hop w)) → distance u v < suc k → (o : Option ℕ) → hop u ≡ o → Leads u (led (leads k hop) o)
  leads_on k u h rest l None e = (arrived u h e, omega arith)
  leads_on k u h rest l (Some w) e =
      let s = nearer u w e in
      let r = rest w s.0 (omega arith) in
      ((e, r.0), omega (arith, r.1))

  leads_there : (k u : ℕ) → u < m.nodes → distance u v < k → Leads u (leads k hop u)
  leads_there zero u h l = absurd (let z : ⊥ = omega arith in z)
  leads_there (suc k) u h l = leads_on k u h (leads_there k) l (hop u) refl

  hops_lead : (u : ℕ) → u < m.nodes → Leads u (hops_of m u v)
  unfolding hops_of
  hops_lead u h = leads_there m.nodes u h (omega arith)

  -- and no other labels do
  hops_alone : (u : ℕ) (ws : List ℕ) → u < m.nodes → ByHops (hop_of m) u v ws → hops_of m u v ≡ ws
  hops_alone u [] h b = hops_stay u h (no_hop m law u v (λ _ _ ne. ne b) (hop u) refl)
  hops_alone u (w ∷ ws) h b = hops_on u w h b.0 ∙ ap (λ xs. w ∷ xs) (hops_alone w ws (nearer u w b.0).0 b.1)

known : {A : Type 0} (nodes u v : ℕ) (x y : A) → allowed (exist nodes u v) x ≡ Some y → (u < nodes) × (v < nodes) × (x ≡ y)
known nodes u v x y e = let h = allowed_is (exist nodes u v) e in let k = true_exist nodes u v h.0 in (k.0, k.1, h.1)

module _ (m : Meaning) (law : Lawful m) (u v : ℕ) where
  way_law : Travelled m u v (way_of m u v)
  way_law = record {
    there = λ hu hv. (hops_of m u v, cond-true (exist m.nodes u v) _ _ (exist_true m.nodes u v hu hv), (hops_lead m law v hv u hu).0);
    alone = λ ws xs e b. let k = known m.nodes u v (u ∷ hops_of m u v) xs e in sym k.2 ∙ ap (λ l. u ∷ l) (hops_alone m law v k.1 u ws k.0 b);
    only = λ xs e. let k = known m.nodes u v (u ∷ hops_of m u v) xs e in (k.0, k.1);
  }

  length_law : Measured m u v (length_of m u v)
  length_law = record {
    there = λ hu hv. (length (hops_of m u v), cond-true (exist m.nodes u v) _ _ (exist_true m.nodes u v hu hv));
    counts = λ k e.
        let x = known m.nodes u v (length (hops_of m u v)) k e in
        (hops_of m u v, (hops_lead m law v x.1 u x.0).0, x.2);
    stay = λ hu e.
        let hv : v < m.nodes = omega arith in
        cond-true (exist m.nodes u v) _ _ (exist_true m.nodes u v hu hv) ∙ ap (λ l. Some (length l)) (hops_alone m law v hv u [] hu e);
    short = λ k e.
        let x = known m.nodes u v (length (hops_of m u v)) k e in
        let few = law.bounded in
        let b = (hops_lead m law v x.1 u x.0).1 in
        (omega arith, omega arith);
    only = λ k e. let x = known m.nodes u v (length (hops_of m u v)) k e in (x.0, x.1);
  }

  -- what the code owes of a path, from its labels
  pub walked_as : (xs : List ℕ) → exist m.nodes u v ≡ true → xs ≡ u ∷ hops_of m u v → record { is : Some xs ≡ way_of m u v; law : Travelled m u v (Some xs); hops : Some (length xs - 1) ≡ length_of m u v; measured : Measured m u v (Some (length xs - 1)) }
  walked_as xs h e =
      let one_less : length xs - 1 ≡ length (hops_of m u v) = omega (arith, ap length e) in
      let way = with_law (Travelled m u v) _ way_law (Some xs) (ap Some e ∙ sym (cond-true (exist m.nodes u v) _ None h)) in
      let long = with_law (Measured m u v) _ length_law (Some (length xs - 1)) (ap Some one_less ∙ sym (cond-true (exist m.nodes u v) _ None h)) in
      record { is = way.is; law = way.law; hops = long.is; measured = long.law }

-- The loop of a walk: the labels so far, and those still to come, make the whole way.
pub record Walked (m : Meaning) (u v at : ℕ) (xs : List ℕ) : Type 0 where
  pub here : at < m.nodes
  pub some : 1 ≤ length xs
  pub whole : xs ++ hops_of m at v ≡ u ∷ hops_of m u v

module _ (m : Meaning) (law : Lawful m) (u v : ℕ) (known : exist m.nodes u v ≡ true) (at : ℕ) (xs : List ℕ) (so_far : Walked m u v at xs) where
  aim : v < m.nodes
  aim = (true_exist m.nodes u v known).1

  -- a way has at most 127 hops, so that the labels so far and those still to come are at most 128
  few_labels : length xs + length (hops_of m at v) ≤ 128
  few_labels =
      let few = law.bounded in
      let start = (true_exist m.nodes u v known).0 in
      let hops = (hops_lead m law v aim u start).1 in
      omega (arith, aim, start, ap length so_far.whole, length-append xs (hops_of m at v))

  module _ (next : ℕ) (e : Some next ≡ hop_of m at v) where
    on : hops_of m at v ≡ next ∷ hops_of m next v
    on = hops_on m law v aim at next so_far.here (sym e)

    -- there is room for the next label
    pub room : length xs < 128
    room = omega (arith, few_labels, ap length on)

    -- it is nearer to the target
    pub less : distance next v < distance at v
    less = (nearer m law v aim at next (sym e)).1

    -- and with it the walk goes on
    pub further : (ys : List ℕ) → ys ≡ xs ++ next ∷ [] → Walked m u v next ys
    further ys f = record {
      here = (nearer m law v aim at next (sym e)).0;
      some = omega (arith, ap length f, length-append xs (next ∷ []));
      whole =
          ap (λ zs. zs ++ hops_of m next v) f
          ∙ append_assoc xs (next ∷ []) (hops_of m next v)
          ∙ ap (λ zs. xs ++ zs) (sym on)
          ∙ so_far.whole;
    }

  -- what a path asks of its labels
  pub short : length xs ≤ 128
  short = omega (arith, few_labels)

  -- where there is no hop the labels are the way
  pub arrived_at : None ≡ hop_of m at v → xs ≡ u ∷ hops_of m u v
  arrived_at e =
      let done = hops_stay m law v aim at so_far.here (sym e) in
      sym (append-nil xs) ∙ ap (λ zs. xs ++ zs) (sym done) ∙ so_far.whole
