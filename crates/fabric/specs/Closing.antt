-- A fabric without some of its links is lawful, since the chain stays; and what closing a link does.
use Rattle.std.specs.Prelude.{◌≡◌, ℕ, ◌+◌, ◌<◌, ◌≤◌, Bool, true, not, ◌&&◌, ◌⊎◌, ◌↔◌, List, [], ◌∷◌, ◌++◌, length, Some, None, Decides, Option, ◌==◌, nat_lt, refl}
use Rattle.std.proofs.Common.{sym, ap, ap₂, subst, ◌∙◌, inl, inr, ⊎_elim, arith}
use Rattle.std.proofs.lemmas.Bool.{false≢true, ltb-true, leb-true, le-leb, and_parts, cond-true}
use Rattle.std.proofs.lemmas.Bool.Decides.{Decides-eqb, Decides-and, Decides-or, Decides-not, Decides-like, Decides-ltb}
use Rattle.fabric.specs.Fabrics.{Near, Meaning, Neighbours, Lawful}
use Rattle.fabric.specs.Hop.{distance, exist}
use Rattle.fabric.specs.Links.{Link, apart, all_apart, joins, holds, unless_closed, thinned, thinned_meaning, is_at, neighbours, close_refusal, closed_after, Joins, IsClosed, Thinned, Closes}
use Rattle.fabric.specs.Questions.{Asks, Granted}
use Rattle.fabric.specs.Answering.{asks, yes_to}
use Rattle.fabric.specs.Optional.{nothing, same, allowed_is, with_law}
use Rattle.fabric.specs.Searching.{below_decides}

-- ---- a list of links

-- what the tests say in plain terms
joins_decides : (l : Link) (u v : ℕ) → Decides (joins l u v) (Joins l u v)
joins_decides l u v = Decides-or _ _ (both u v) (both v u)
  where
    both : (a b : ℕ) → Decides (l.0 == a && l.1 == b) (l ≡ (a, b))
    both a b = Decides-like _ (λ p. ap₂ (λ (x y : ℕ). (x, y)) p.0 p.1) (λ e. (ap (λ (k : Link). k.0) e, ap (λ (k : Link). k.1) e)) (Decides-and _ _ (Decides-eqb l.0 a) (Decides-eqb l.1 b))

holds_decides : (ls : List Link) (u v : ℕ) → Decides (holds ls u v) (IsClosed ls u v)
holds_decides [] u v = ((λ e. false≢true e), (λ e. absurd e))
holds_decides (l ∷ ls) u v = Decides-or _ _ (joins_decides l u v) (holds_decides ls u v)

open_decides : (ls : List Link) (u v : ℕ) → Decides (not (holds ls u v)) (IsClosed ls u v → ⊥)
open_decides ls u v = Decides-not _ (holds_decides ls u v)

-- a link joins two labels in either order
joins_swap : (l : Link) (u v : ℕ) → Joins l u v → Joins l v u
joins_swap l u v = ⊎_elim inr inl

closed_swap : (ls : List Link) (u v : ℕ) → IsClosed ls u v → IsClosed ls v u
closed_swap [] u v h = absurd h
closed_swap (l ∷ ls) u v h = ⊎_elim (λ j. inl (joins_swap l u v j)) (λ r. inr (closed_swap ls u v r)) h

-- links that are two or more apart are none of the chain
joins_chain : (l : Link) (u : ℕ) → apart l ≡ true → Joins l u (u + 1) → ⊥
joins_chain l u a h =
    let far = leb-true 2 (distance l.0 l.1) a in
    ⊎_elim
    (λ e. let x = ap (λ (k : Link). k.0) e in let y = ap (λ (k : Link). k.1) e in omega arith)
    (λ e. let x = ap (λ (k : Link). k.0) e in let y = ap (λ (k : Link). k.1) e in omega arith)
    h

closed_chain : (ls : List Link) (u : ℕ) → all_apart ls ≡ true → IsClosed ls u (u + 1) → ⊥
closed_chain [] u a h = h
closed_chain (l ∷ ls) u a h =
    let p = and_parts (apart l) (all_apart ls) a in
    ⊎_elim (joins_chain l u p.0) (closed_chain ls u p.1) h

-- one link more
closed_more : (ls : List Link) (l : Link) (u v : ℕ) → IsClosed (ls ++ l ∷ []) u v ↔ (IsClosed ls u v ⊎ Joins l u v)
closed_more [] l u v = (⊎_elim inr (λ e. absurd e), ⊎_elim (λ e. absurd e) inl)
closed_more (k ∷ ls) l u v =
    let r = closed_more ls l u v in (
      ⊎_elim (λ j. inl (inl j)) (λ h. ⊎_elim (λ c. inl (inr c)) inr (r.0 h)),
      ⊎_elim (⊎_elim inl (λ c. inr (r.1 (inl c)))) (λ j. inr (r.1 (inr j))),
    )

-- ---- the neighbours that stay

module _ (ls : List Link) (near : Near) where
  thinned_at : (u v : ℕ) (o : Option ℕ) → unless_closed ls u o ≡ Some v → (o ≡ Some v) × (IsClosed ls u v → ⊥)
  thinned_at u v None e = absurd (nothing e)
  thinned_at u v (Some w) e =
      let h = allowed_is (not (holds ls u w)) e in
      (ap Some h.1, subst (λ x. IsClosed ls u x → ⊥) h.1 ((open_decides ls u w).0 h.0))

  pub thinned_law : (u p : ℕ) → Thinned ls near u p (thinned ls near u p)
  thinned_law u p v = (
    (λ e. thinned_at u v (near u p) e),
    (λ h. ap (unless_closed ls u) h.0 ∙ cond-true (not (holds ls u v)) (Some v) None ((open_decides ls u v).1 h.1)),
  )

  pub thinned_as : (u p : ℕ) (r : Option ℕ) → r ≡ thinned ls near u p → record { is : r ≡ thinned ls near u p; law : Thinned ls near u p r }
  thinned_as u p = with_law (Thinned ls near u p) _ (thinned_law u p)

pub thinned_lawful : (ls : List Link) (m : Meaning) → all_apart ls ≡ true → Lawful m → Lawful (thinned_meaning ls m)
thinned_lawful ls m spared law = record {
  nonempty = law.nonempty;
  bounded = law.bounded;
  within = λ u p v e. law.within u p v ((thinned_law ls m.near u p v).0 e).0;
  no_self = λ u n. law.no_self u (n.0, ((thinned_law ls m.near u n.0 u).0 n.1).0);
  once = λ u p q v e f. law.once u p q v ((thinned_law ls m.near u p v).0 e).0 ((thinned_law ls m.near u q v).0 f).0;
  two_way = λ u v n.
      let s = (thinned_law ls m.near u n.0 v).0 n.1 in
      let b = law.two_way u v (n.0, s.0) in
      (b.0, (thinned_law ls m.near v b.0 u).1 (b.1, λ h. s.1 (closed_swap ls v u h)));
  chain = λ u h. let c = law.chain u h in (c.0, (thinned_law ls m.near u c.0 (u + 1)).1 (c.1, closed_chain ls u spared));
}

-- with all links open the neighbours are those below
pub all_open : (near : Near) (u p : ℕ) → thinned [] near u p ≡ near u p
all_open near u p = go (near u p)
  where
    go : (o : Option ℕ) → unless_closed [] u o ≡ o
    go None = refl
    go (Some v) = refl

-- ---- neighbours that a port leads to

is_at_decides : (v : ℕ) (o : Option ℕ) → Decides (is_at v o) (o ≡ Some v)
is_at_decides v None = ((λ e. absurd (false≢true e)), (λ e. absurd (nothing e)))
is_at_decides v (Some w) = Decides-like _ (ap Some) same (Decides-eqb w v)

-- some port leads there, in plain terms
neighbours_decides : (m : Meaning) → Lawful m → (u v : ℕ) → Decides (neighbours m.near u v) (Neighbours m.near u v)
neighbours_decides m law u v =
    let leads : ℕ → Bool = λ p. is_at v (m.near u p) in
    Decides-like _ (λ k. (k.0, k.2)) (λ n. (n.0, (law.within u n.0 v n.1).1, n.1))
    (below_decides leads (λ p. is_at_decides v (m.near u p)) 8)

-- ---- closing a link

-- the answer of the questions, and what it means for the neighbours
module _ (m : Meaning) (law : Lawful m) (ls : List Link) (l : Link) where
  close_answer : Asks 10 ((l.0 < m.nodes) × (l.1 < m.nodes)) (Asks 11 (Neighbours m.near l.0 l.1) (Asks 12 (2 ≤ distance l.0 l.1) (Asks 13 (IsClosed ls l.0 l.1 → ⊥) (Asks 14 (length ls < 64) Granted)))) (close_refusal m ls l)
  close_answer =
      asks 10 _ (exist m.nodes l.0 l.1) _ (Decides-and _ _ (Decides-ltb l.0 m.nodes) (Decides-ltb l.1 m.nodes))
      (asks 11 _ (neighbours m.near l.0 l.1) _ (neighbours_decides m law l.0 l.1)
      (asks 12 _ (apart l) _ (leb-true 2 (distance l.0 l.1), le-leb 2 (distance l.0 l.1))
      (asks 13 _ (not (holds ls l.0 l.1)) _ (open_decides ls l.0 l.1)
      (asks 14 Granted (nat_lt (length ls) 64) None (Decides-ltb (length ls) 64) refl))))

  -- a link that may be closed is two or more apart, and there is room for it
  pub may_close : close_refusal m ls l ≡ None → (apart l ≡ true) × (length ls < 64)
  may_close e =
      let a = yes_to 10 (exist m.nodes l.0 l.1) _ e in
      let b = yes_to 11 (neighbours m.near l.0 l.1) _ a.1 in
      let c = yes_to 12 (apart l) _ b.1 in
      let d = yes_to 13 (not (holds ls l.0 l.1)) _ c.1 in
      (c.0, ltb-true (length ls) 64 (yes_to 14 (nat_lt (length ls) 64) None d.1).0)

  close_law : Closes m ls l (thinned ls m.near) (thinned (closed_after (close_refusal m ls l) ls l) m.near) (close_refusal m ls l)
  close_law = record {
    answer = close_answer;
    refused = λ n e u p. ap (λ o. thinned (closed_after o ls l) m.near u p) e;
    closed = λ e u p v.
        let after : thinned (closed_after (close_refusal m ls l) ls l) m.near u p ≡ thinned (ls ++ l ∷ []) m.near u p = ap (λ o. thinned (closed_after o ls l) m.near u p) e in
        let law_before = thinned_law ls m.near u p v in
        let law_after = thinned_law (ls ++ l ∷ []) m.near u p v in
        let more = closed_more ls l u v in (
          (λ f. let s = law_after.0 (sym after ∙ f) in (law_before.1 (s.0, λ h. s.1 (more.1 (inl h))), λ j. s.1 (more.1 (inr j)))),
          (λ s. let b = law_before.0 s.0 in after ∙ law_after.1 (b.0, λ h. ⊎_elim b.1 s.1 (more.0 h))),
        );
  }

  -- the same of an answer and a list that are said to be these
  pub close_as : (r : Option ℕ) (after : List Link) → r ≡ close_refusal m ls l → after ≡ closed_after r ls l → Closes m ls l (thinned ls m.near) (thinned after m.near) r
  close_as r after e f =
      subst (λ o. Closes m ls l (thinned ls m.near) (thinned after m.near) o) (sym e)
      (subst (λ ks. Closes m ls l (thinned ls m.near) (thinned ks m.near) (close_refusal m ls l)) (sym (f ∙ ap (λ o. closed_after o ls l) e)) close_law)
