-- A buffer that is filled from the front with the chart of a fabric.
use Rattle.std.proofs.Common.{◌≡◌, ℕ, ◌+◌, ◌*◌, ◌<◌, ◌≤◌, List, [], ◌∷◌, ◌++◌, map, length, get_or, take, drop, set, Ok, sym, ap, ◌∙◌, subst, arith, append-nil}
use Rattle.std.specs.List.{range_with_len}
use Rattle.std.proofs.lemmas.List.FromFn.{length-map-range_with_len, map-range_with_len_more}
use Rattle.std.proofs.lemmas.List.{drop_more, drop_all, set_at, take_at, append_assoc}
use Rattle.fabric.specs.Copy.{chart_byte, chart_of, OpensAs, Copied}
use Rattle.fabric.specs.Fabrics.{Meaning}

-- one byte more
pub fill_more : (f : ℕ → ℕ) (now was : List ℕ) (i v : ℕ) → i < length was → now ≡ map f (range_with_len 0 i) ++ drop i was → v ≡ f i → set now i v ≡ map f (range_with_len 0 (i + 1)) ++ drop (i + 1) was
fill_more f now was i v h e is =
    let front : List ℕ = map f (range_with_len 0 i) in
    let rest : List ℕ = drop (i + 1) was in
    ap (λ (x : List ℕ). set x i v) (e ∙ ap (λ (x : List ℕ). front ++ x) (drop_more was i 0 h))
    ∙ set_at front (get_or was i 0) rest v i (length-map-range_with_len f 0 i)
    ∙ ap (λ x. front ++ x ∷ rest) is
    ∙ sym (append_assoc front (f i ∷ []) rest)
    ∙ ap (λ (x : List ℕ). x ++ rest) (sym (map-range_with_len_more f 0 i i (omega arith)))

-- and all of them
pub fill_all : (f : ℕ → ℕ) (now was : List ℕ) (i n : ℕ) → length was ≡ n → n ≤ i → i ≤ n → now ≡ map f (range_with_len 0 i) ++ drop i was → now ≡ map f (range_with_len 0 n)
fill_all f now was i n long past within e =
    let end : i ≡ n = omega arith in
    e
    ∙ ap (λ (x : List ℕ). map f (range_with_len 0 i) ++ x) (drop_all i was (omega arith))
    ∙ append-nil (map f (range_with_len 0 i))
    ∙ ap (λ m. map f (range_with_len 0 m)) end

-- the front of a buffer that is a chart opens as the fabric
pub copied : (m : Meaning) (addresses front rest : List ℕ) (n : ℕ) → n ≡ 12 * m.nodes → front ≡ chart_of m addresses → OpensAs (chart_of m addresses) m addresses → Copied (Ok n) (front ++ rest) m addresses
copied m addresses front rest n all e opens k f =
    let same : k ≡ 12 * m.nodes = let s : n ≡ k = cc in omega arith in
    subst (λ (x : List ℕ). OpensAs x m addresses)
    (sym (ap (λ i. take i (front ++ rest)) same ∙ ap (λ (x : List ℕ). take (12 * m.nodes) (x ++ rest)) e ∙ take_at (chart_of m addresses) rest (12 * m.nodes) (length-map-range_with_len (chart_byte m.near addresses) 0 (12 * m.nodes))))
    opens
