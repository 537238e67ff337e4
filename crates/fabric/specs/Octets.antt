-- Bytes below 256, and a number of 32 bits as four of them.
use Rattle.std.specs.Prelude.{◌≡◌, ℕ, zero, suc, ◌+◌, ◌*◌, ◌/◌, ◌%◌, ◌^◌, ◌<◌, true, List, [], ◌∷◌, nat_lt, slice_index, refl}
use Rattle.std.specs.List.{list_all}
use Rattle.std.proofs.Math.Path.{ap}
use native.Mathlib.Omega.{arith}
use Rattle.std.proofs.lemmas.Bool.{and_from, and_parts, ltb-true, lt-ltb}
use Rattle.fabric.specs.Chart.{records_of, address_at, chart_addresses, octets}
use Rattle.fabric.specs.Copy.{address_byte}
use Rattle.fabric.specs.Fabrics.{AllFit}
use Rattle.fabric.specs.Counting.{counted_nth}

pub octets_from : (b : List ℕ) → ((i : ℕ) → slice_index b i < 256) → octets b ≡ true
unfolding octets
octets_from [] h = refl
octets_from (x ∷ b) h = and_from (nat_lt x 256) (list_all (λ y. nat_lt y 256) b) (lt-ltb x 256 (h 0)) (octets_from b (λ i. h (suc i)))

pub octet : (b : List ℕ) → octets b ≡ true → (i : ℕ) → slice_index b i < 256
unfolding octets
octet [] e i = omega arith
octet (x ∷ b) e zero = ltb-true x 256 (and_parts (nat_lt x 256) (list_all (λ y. nat_lt y 256) b) e).0
octet (x ∷ b) e (suc i) = octet b (and_parts (nat_lt x 256) (list_all (λ y. nat_lt y 256) b) e).1 i

-- the bytes of a number make the number
pub four_bytes : (a : ℕ) → a < 2 ^ 32 → ((a / 16777216 % 256 * 256 + a / 65536 % 256) * 256 + a / 256 % 256) * 256 + a / 1 % 256 ≡ a
four_bytes a h =
    let two : a / 65536 ≡ a / 256 / 256 = omega arith in
    let three : a / 16777216 ≡ a / 65536 / 256 = omega arith in
    let top : a / 16777216 % 256 ≡ a / 16777216 = omega arith in
    let high : a / 16777216 % 256 * 256 + a / 65536 % 256 ≡ a / 65536 = omega arith in
    let middle : (a / 16777216 % 256 * 256 + a / 65536 % 256) * 256 + a / 256 % 256 ≡ a / 256 = omega arith in
    omega arith

module _ (b : List ℕ) (small : octets b ≡ true) where
  -- the number that four bytes make has those bytes
  pub address_byte_lem : (k j : ℕ) → j < 4 → address_byte (address_at b k) j ≡ slice_index b (12 * k + j)
  unfolding address_at
  address_byte_lem k j h =
      let s0 = octet b small (12 * k) in
      let s1 = octet b small (12 * k + 1) in
      let s2 = octet b small (12 * k + 2) in
      let s3 = octet b small (12 * k + 3) in
      elim j as (λ x. x < 4 → address_byte (address_at b k) x ≡ slice_index b (12 * k + x)) [
        | zero ↦ λ _. let start : 12 * k ≡ 12 * k + 0 = omega arith in omega (arith, ap (λ i. slice_index b i) start)
        | suc zero ↦ λ _. omega arith
        | suc (suc zero) ↦ λ _. omega arith
        | suc (suc (suc zero)) ↦ λ _. omega arith
        | suc (suc (suc (suc i))) ↦ λ l. absurd (let z : ⊥ = omega arith in z)
      ] h

  address_fits : (k : ℕ) → address_at b k < 2 ^ 32
  unfolding address_at
  address_fits k = omega (arith, octet b small (12 * k), octet b small (12 * k + 1), octet b small (12 * k + 2), octet b small (12 * k + 3))

  pub addresses_fit : AllFit (chart_addresses b)
  addresses_fit i a e = let r = counted_nth (address_at b) (records_of b) i a e in let same_address = r.1 in omega (arith, address_fits i)
