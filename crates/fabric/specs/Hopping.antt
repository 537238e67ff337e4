-- The hop in plain terms, from the choice among the ports and the laws of a fabric.
use Rattle.std.specs.Prelude.{◌≡◌, ℕ, ◌+◌, ◌-◌, ◌<◌, ◌≤◌, true, false, ◌≢◌, ◌⊎◌, ◌↔◌, List, Some, None, Option, refl}
use Rattle.std.proofs.Common.{sym, ap, subst, ◌∙◌, inl, inr, ⊎_elim, arith}
use Rattle.std.proofs.lemmas.Bool.{false≢true, cases_lt, cases_Bool, cond-true, cond-false, ltb-true, lt-ltb, and_parts, and_from}
use Rattle.std.proofs.lemmas.Bool.Decides.{nat_tests}
use Rattle.fabric.specs.Fabrics.{Meaning, Neighbours, Lawful}
use Rattle.fabric.specs.Pick.{picked, Picked}
use Rattle.fabric.specs.Hop.{distance, exist, onward, leads_onward, labels_short, exit_of, exits_of, end, hop_of, Last, Hopped}
use Rattle.fabric.specs.declared.hops.Exit.{Exit}
use Rattle.fabric.specs.Choosing.{picked_law}
use Rattle.fabric.specs.Counting.{nth_counted, counted_nth}
use Rattle.fabric.specs.Optional.{nothing, with_law}

pub exist_true : (nodes u v : ℕ) → u < nodes → v < nodes → exist nodes u v ≡ true
exist_true nodes u v hu hv = and_from _ _ (lt-ltb u nodes hu) (lt-ltb v nodes hv)

pub true_exist : (nodes u v : ℕ) → exist nodes u v ≡ true → (u < nodes) × (v < nodes)
true_exist nodes u v e = let p = and_parts _ _ e in (ltb-true u nodes p.0, ltb-true v nodes p.1)

-- past u and not past v
abbrev pub Onward : ℕ → ℕ → ℕ → Type 0
Onward u v w = ((u < w) × (w ≤ v)) ⊎ ((v ≤ w) × (w < u))

onward_true : (u v w : ℕ) → Onward u v w → onward u v w ≡ true
onward_true u v w h = grind (arith, nat_tests)

true_onward : (u v w : ℕ) → onward u v w ≡ true → Onward u v w
true_onward u v w h = ⊎_elim (λ l. inl (grind (arith, nat_tests))) (λ l. inr (grind (arith, nat_tests))) (cases_lt u w)

-- two labels onward, equally far from the target, are one
one_nearest : (u v w x : ℕ) → Onward u v w → Onward u v x → distance w v ≤ distance x v → distance x v ≤ distance w v → w ≡ x
one_nearest u v w x a b c d = omega arith

-- Up and down differ only in the order of labels, and this is all that they need of it.
module _ (◌≼◌ : ℕ → ℕ → Type 0) where
  infix 20 ◌≼◌
  record Direction (u v : ℕ) : Type 0 where
    ahead : (w : ℕ) → Onward u v w ↔ ((u ≼ w) × (u ≢ w) × (w ≼ v))
    farther : (w x : ℕ) → Onward u v w → Onward u v x → (distance w v ≤ distance x v) ↔ (x ≼ w)

rising : (u v : ℕ) → u < v → Direction (λ a b. a ≤ b) u v
rising u v h = record {
  ahead = λ w. ((λ o. (omega arith, omega arith, omega arith)), (λ o. inl (omega arith, omega arith)));
  farther = λ w x a b. ((λ l. omega arith), (λ l. omega arith));
}

falling : (u v : ℕ) → v < u → Direction (λ a b. b ≤ a) u v
falling u v h = record {
  ahead = λ w. ((λ o. (omega arith, omega arith, omega arith)), (λ o. inr (omega arith, omega arith)));
  farther = λ w x a b. ((λ l. omega arith), (λ l. omega arith));
}

module _ (m : Meaning) (law : Lawful m) (u v : ℕ) where
  -- of the neighbours onward, w is the nearest to the target
  record Nearest (w : ℕ) : Type 0 where
    neighbour : Neighbours m.near u w
    on : Onward u v w
    best : (x : ℕ) → Neighbours m.near u x → Onward u v x → distance w v ≤ distance x v

  choice : Picked leads_onward labels_short (exits_of m.near u v) (picked leads_onward labels_short (exits_of m.near u v))
  choice = picked_law leads_onward labels_short (exits_of m.near u v)

  -- a neighbour onward stands among the exits and is eligible
  entry : (x : ℕ) (n : Neighbours m.near u x) → Onward u v x → (leads_onward (exit_of m.near u v n.0) ≡ true) × (n.0 < 8) × (labels_short (exit_of m.near u v n.0) ≡ distance x v)
  entry x n on = (
    subst (λ o. leads_onward (record { from = u; towards = v; neighbour = o }) ≡ true) (sym n.1) (onward_true u v x on),
    (law.within u n.0 x n.1).1,
    ap (λ o. labels_short (record { from = u; towards = v; neighbour = o })) n.1,
  )

  -- what the choice comes to
  sound_of : (r : Option Exit) → Picked leads_onward labels_short (exits_of m.near u v) r → (w : ℕ) → end r ≡ Some w → Nearest w
  sound_of None h w e = absurd (nothing e)
  sound_of (Some exit) h w e =
      let is : exit_of m.near u v h.place ≡ exit = (counted_nth (exit_of m.near u v) 8 h.place exit h.stands).1 in
      let leads : m.near u h.place ≡ Some w = ap (λ (x : Exit). x.neighbour) is ∙ e in
      let fit : onward u v w ≡ true = subst (λ o. leads_onward (record { from = u; towards = v; neighbour = o }) ≡ true) leads (subst (λ x. leads_onward x ≡ true) (sym is) h.fit) in
      let on = true_onward u v w fit in
      record {
        neighbour = (h.place, leads);
        on = on;
        best = λ x n o.
            let other = entry x n o in
            let here = entry w (h.place, leads) on in
            let least : labels_short exit ≤ labels_short (exit_of m.near u v n.0) = h.least n.0 (exit_of m.near u v n.0) (nth_counted (exit_of m.near u v) 8 n.0 other.1) other.0 in
            omega (arith, ap labels_short is);
      }

  -- a neighbour onward: by the chain, and back along it
  step : u < m.nodes → v < m.nodes → u ≢ v → (x : ℕ) × Neighbours m.near u x × Onward u v x
  step hu hv ne = ⊎_elim up down (cases_lt u v)
    where
      up : u < v → (x : ℕ) × Neighbours m.near u x × Onward u v x
      up h = (u + 1, law.chain u (omega arith), inl (omega arith, omega arith))

      down : v ≤ u → (x : ℕ) × Neighbours m.near u x × Onward u v x
      down h =
          let is : (u - 1) + 1 ≡ u = omega arith in
          (u - 1, law.two_way (u - 1) u (subst (Neighbours m.near (u - 1)) is (law.chain (u - 1) (omega arith))), inr (omega arith, omega arith))

  there_of : u < m.nodes → v < m.nodes → u ≢ v → (r : Option Exit) → Picked leads_onward labels_short (exits_of m.near u v) r → (w : ℕ) × (end r ≡ Some w)
  there_of hu hv ne None h =
      let s = step hu hv ne in
      let f = entry s.0 s.1 s.2 in
      absurd (h s.1.0 (exit_of m.near u v s.1.0) (nth_counted (exit_of m.near u v) 8 s.1.0 f.1) f.0)
  there_of hu hv ne (Some exit) h = led exit.neighbour refl
    where
      led : (o : Option ℕ) → exit.neighbour ≡ o → (w : ℕ) × (exit.neighbour ≡ Some w)
      led None e = absurd (false≢true (subst (λ o. leads_onward (record { from = exit.from; towards = exit.towards; neighbour = o }) ≡ true) e h.fit))
      led (Some w) e = (w, e)

  -- among labels that exist the hop is where the choice leads, and else there is none
  hop_is : exist m.nodes u v ≡ true → hop_of m u v ≡ end (picked leads_onward labels_short (exits_of m.near u v))
  unfolding hop_of
  hop_is e = cond-true (exist m.nodes u v) (end (picked leads_onward labels_short (exits_of m.near u v))) None e

  hop_missing : exist m.nodes u v ≡ false → hop_of m u v ≡ None
  unfolding hop_of
  hop_missing e = cond-false (exist m.nodes u v) (end (picked leads_onward labels_short (exits_of m.near u v))) None e

  exists : (w : ℕ) → hop_of m u v ≡ Some w → exist m.nodes u v ≡ true
  exists w e = ⊎_elim (λ t. t) (λ f. absurd (nothing (sym (hop_missing f) ∙ e))) (cases_Bool (exist m.nodes u v))

  sound : (w : ℕ) → hop_of m u v ≡ Some w → Nearest w
  sound w e = sound_of (picked leads_onward labels_short (exits_of m.near u v)) choice w (sym (hop_is (exists w e)) ∙ e)

  there : u < m.nodes → v < m.nodes → u ≢ v → (w : ℕ) × (hop_of m u v ≡ Some w)
  there hu hv ne =
      let s = there_of hu hv ne (picked leads_onward labels_short (exits_of m.near u v)) choice in
      (s.0, hop_is (exist_true m.nodes u v hu hv) ∙ s.1)

  whole : u < m.nodes → v < m.nodes → u ≢ v → (w : ℕ) → Nearest w → hop_of m u v ≡ Some w
  whole hu hv ne w h =
      let t = there hu hv ne in
      let k = sound t.0 t.1 in
      t.1 ∙ ap Some (one_nearest u v t.0 w k.on h.on (k.best w h.neighbour h.on) (h.best t.0 k.neighbour k.on))

  -- the nearest in label is the last in order
  last_is : (order : ℕ → ℕ → Type 0) → Direction order u v → u < m.nodes → v < m.nodes → u ≢ v → (w : ℕ) → (hop_of m u v ≡ Some w) ↔ Last order m.near u v w
  last_is order d hu hv ne w = (
    (λ e.
        let s = sound w e in
        let a = (d.ahead w).0 s.on in
        record {
          neighbour = s.neighbour;
          after = a.0;
          other = a.1;
          not_past = a.2;
          last = λ x n p q r. let o = (d.ahead x).1 (p, q, r) in (d.farther w x s.on o).0 (s.best x n o);
        }),
    (λ l.
        let on = (d.ahead w).1 (l.after, l.other, l.not_past) in
        whole hu hv ne w (record {
          neighbour = l.neighbour;
          on = on;
          best = λ x n o. let a = (d.ahead x).0 o in (d.farther w x on o).1 (l.last x n a.0 a.1 a.2);
        })),
  )

  only : (w : ℕ) → hop_of m u v ≡ Some w → (u < m.nodes) × (v < m.nodes) × (u ≢ v)
  only w e = let x = true_exist m.nodes u v (exists w e) in (x.0, x.1, omega (arith, (sound w e).on))

  pub hop_law : Hopped m u v (hop_of m u v)
  hop_law = record {
    up = λ l h. last_is (λ a b. a ≤ b) (rising u v l) (omega arith) h (omega arith);
    down = λ l h. last_is (λ a b. b ≤ a) (falling u v l) h (omega arith) (omega arith);
    there = there;
    only = only;
  }

  -- a hop leads to a label that exists, past u and not past the target, so nearer to it
  pub hop_onward : (w : ℕ) → hop_of m u v ≡ Some w → (w < m.nodes) × Onward u v w
  hop_onward w e = let s = sound w e in ((law.within u s.neighbour.0 w s.neighbour.1).2, s.on)

  pub hop_nearer : (w : ℕ) → hop_of m u v ≡ Some w → distance w v < distance u v
  hop_nearer w e = omega (arith, (hop_onward w e).1)

  pub no_hop : (u < m.nodes → v < m.nodes → u ≢ v → ⊥) → (o : Option ℕ) → hop_of m u v ≡ o → o ≡ None
  no_hop out None f = refl
  no_hop out (Some w) f = let o = only w f in absurd (out o.0 o.1 o.2)

  -- what the code answers: what it picked among labels that exist, and else none
  pub hop_end : (answer : Option ℕ) (r : Option Exit) (exits : List Exit) → exist m.nodes u v ≡ true → answer ≡ end r → r ≡ picked leads_onward labels_short exits → exits ≡ exits_of m.near u v → record { is : answer ≡ hop_of m u v; law : Hopped m u v answer }
  hop_end answer r exits h d e f = with_law (Hopped m u v) _ hop_law answer (d ∙ ap end (e ∙ ap (picked leads_onward labels_short) f) ∙ sym (hop_is h))

  pub hop_none : exist m.nodes u v ≡ false → record { is : None ≡ hop_of m u v; law : Hopped m u v None }
  hop_none e = with_law (Hopped m u v) _ hop_law None (sym (hop_missing e))
