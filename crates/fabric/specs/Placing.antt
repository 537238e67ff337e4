-- A fabric by places is lawful, if the labels and the places are one to one, and the steps between places are as in a fabric.
use Rattle.std.specs.Prelude.{◌≡◌, ℕ, ◌+◌, ◌<◌, ◌≤◌, cond, Some, None, Option, ◌≢◌, nat_lt}
use Rattle.std.specs.Option.{option_map}
use Rattle.std.proofs.Math.Path.{ap}
use Rattle.std.proofs.Common.{sym, ◌∙◌, arith}
use Rattle.std.proofs.lemmas.Bool.{ltb-true, lt-ltb}
use Rattle.fabric.specs.Fabrics.{Near, Neighbours, Lawful}
use Rattle.fabric.specs.Steps.{via, BySteps}
use Rattle.fabric.specs.Optional.{cond_is, each_is}

module _ {P : Type 0} (In : P → Type 0) (nodes : ℕ) (place : ℕ → P) (label : P → ℕ) (step : P → ℕ → Option P) where
  pub record Placing : Type 0 where
    pub nonempty : 1 ≤ nodes
    pub bounded : nodes ≤ 128
    pub placed : (k : ℕ) → k < nodes → In (place k)
    pub below : (a : P) → In a → label a < nodes
    pub label_place : (k : ℕ) → k < nodes → label (place k) ≡ k
    pub place_label : (a : P) → In a → place (label a) ≡ a
    pub reaches : (a b : P) (p : ℕ) → In a → step a p ≡ Some b → (p < 8) × In b
    pub no_self : (a : P) (p : ℕ) → In a → step a p ≢ Some a
    pub once : (a b : P) (p q : ℕ) → In a → step a p ≡ Some b → step a q ≡ Some b → p ≡ q
    pub two_way : (a b : P) (p : ℕ) → In a → step a p ≡ Some b → (q : ℕ) × (step b q ≡ Some a)
    pub chain : (k : ℕ) → k + 1 < nodes → (p : ℕ) × (step (place k) p ≡ Some (place (k + 1)))

  near : Near
  near = via nodes place label step

  -- a neighbour is the label of a place that a step leads to
  record Step (u p v : ℕ) : Type 0 where
    from : u < nodes
    at : P
    steps : step (place u) p ≡ Some at
    is : label at ≡ v

  taken : (u p v : ℕ) → near u p ≡ Some v → Step u p v
  unfolding near
  taken u p v e =
      let h = cond_is (nat_lt u nodes) e in
      let s = each_is label (step (place u) p) h.1 in
      record { from = ltb-true u nodes h.0; at = s.0; steps = s.1; is = s.2 }

  take : (u p v : ℕ) → Step u p v → near u p ≡ Some v
  unfolding near
  take u p v s = ap (λ t. cond t (option_map label (step (place u) p)) None) (lt-ltb u nodes s.from) ∙ ap (option_map label) s.steps ∙ ap Some s.is

  module _ (law : Placing) where
    inside : (u p v : ℕ) (s : Step u p v) → In s.at
    inside u p v s = (law.reaches (place u) s.at p (law.placed u s.from) s.steps).1

    -- the place that a step leads to is the neighbour's
    arrives : (u p v : ℕ) (s : Step u p v) → s.at ≡ place v
    arrives u p v s = sym (law.place_label s.at (inside u p v s)) ∙ ap place s.is

    goes : (u p v : ℕ) (s : Step u p v) → step (place u) p ≡ Some (place v)
    goes u p v s = s.steps ∙ ap Some (arrives u p v s)

    known : (u p v : ℕ) → near u p ≡ Some v → (u < nodes) × (p < 8) × (v < nodes)
    known u p v e =
        let s = taken u p v e in
        (s.from, (law.reaches (place u) s.at p (law.placed u s.from) s.steps).0, omega (arith, law.below s.at (inside u p v s), s.is))

    return : (u v : ℕ) → Neighbours near u v → Neighbours near v u
    return u v n =
        let s = taken u n.0 v n.1 in
        let b = law.two_way (place u) (place v) n.0 (law.placed u s.from) (goes u n.0 v s) in
        (b.0, take v b.0 u (record { from = (known u n.0 v n.1).2; at = place u; steps = b.1; is = law.label_place u s.from }))

    onward : (u : ℕ) → u + 1 < nodes → Neighbours near u (u + 1)
    onward u h =
        let c = law.chain u h in
        (c.0, take u c.0 (u + 1) (record { from = omega arith; at = place (u + 1); steps = c.1; is = law.label_place (u + 1) h }))

    pub placed_lawful : Lawful (record { nodes = nodes; near = via nodes place label step })
    unfolding near
    placed_lawful = record {
      nonempty = law.nonempty;
      bounded = law.bounded;
      within = known;
      no_self = λ u n. let s = taken u n.0 u n.1 in law.no_self (place u) n.0 (law.placed u s.from) (goes u n.0 u s);
      once = λ u p q v e f.
          let s = taken u p v e in
          law.once (place u) (place v) p q (law.placed u s.from) (goes u p v s) (goes u q v (taken u q v f));
      two_way = return;
      chain = onward;
    }

    pub placed_by_steps : (u p : ℕ) → BySteps nodes place step u p (via nodes place label step u p)
    unfolding near
    placed_by_steps u p v = (
      (λ e. let k = known u p v e in (k.0, k.2, goes u p v (taken u p v e))),
      (λ h. take u p v (record { from = h.0; at = place v; steps = h.2; is = law.label_place v h.1 })),
    )
