-- A chart: records of 12 bytes, each an address and the neighbours through the ports; and the fabric that it gives.
use Rattle.std.specs.Prelude.{◌≡◌, ℕ, ◌+◌, ◌*◌, ◌/◌, ◌%◌, ◌<◌, ◌≤◌, Bool, cond, not, ◌&&◌, ◌≢◌, ◌↔◌, List, [], ◌∷◌, find, map, length, Some, None, Option, ◌==◌, nat_le, nat_lt, slice_index}
use Rattle.std.specs.List.{range_with_len, list_all}
use Rattle.fabric.specs.Fabrics.{Near, Meaning, Lawful, AllDifferent}
use Rattle.fabric.specs.Options.{allowed}

-- the records in a string of bytes
abbrev pub records_of : List ℕ → ℕ
records_of b = length b / 12

-- 1 to 128 whole records
abbrev pub whole : List ℕ → Bool
whole b = length b % 12 == 0 && nat_le 1 (records_of b) && nat_le (records_of b) 128

-- the label that record k has for port p, or 255 for none
unfoldable pub port_at : List ℕ → ℕ → ℕ → ℕ
port_at b k p = slice_index b (12 * k + 4 + p)

-- the label that record k names at port p
abbrev pub named_at : List ℕ → ℕ → ℕ → Option ℕ
named_at b k p = allowed (not (port_at b k p == 255)) (port_at b k p)

-- the address in record k, most significant byte first
unfoldable pub address_at : List ℕ → ℕ → ℕ
address_at b k = ((slice_index b (12 * k) * 256 + slice_index b (12 * k + 1)) * 256 + slice_index b (12 * k + 2)) * 256 + slice_index b (12 * k + 3)

-- the neighbour through a port of a record
abbrev pub chart_near : List ℕ → Near
chart_near b u p = cond (nat_lt u (records_of b) && nat_lt p 8) (named_at b u p) None

-- the fabric of the records
abbrev pub chart_meaning : List ℕ → Meaning
chart_meaning b = record { nodes = records_of b; near = chart_near b }

-- the addresses, record by record
abbrev pub chart_addresses : List ℕ → List ℕ
chart_addresses b = map (address_at b) (range_with_len 0 (records_of b))

-- the first of n records that has an address
abbrev pub record_with : List ℕ → ℕ → ℕ → Option ℕ
record_with b n a = find (λ k. address_at b k == a) (range_with_len 0 n)

-- In plain terms: the answer is v exactly where there is such a record and port, and the port holds v, which is not 255.
abbrev pub Recorded : List ℕ → ℕ → ℕ → Option ℕ → Type 0
Recorded b u p r = (v : ℕ) → (r ≡ Some v) ↔ ((u < records_of b) × (p < 8) × (port_at b u p ≡ v) × (v ≢ 255))

-- In plain terms: the bytes are 1 to 128 records, and nothing is left over.
pub record Whole (b : List ℕ) : Type 0 where
  pub nonempty : 1 ≤ records_of b
  pub bounded : records_of b ≤ 128
  pub exact : 12 * records_of b ≡ length b

-- In plain terms: whole records that give a fabric, and no address twice.
pub record Charted (b : List ℕ) : Type 0 where
  pub long : Whole b
  pub lawful : Lawful (chart_meaning b)
  pub different : AllDifferent (chart_addresses b)

-- every byte has at most 8 bits
unfoldable pub octets : List ℕ → Bool
octets b = list_all (λ x. nat_lt x 256) b

-- the chart of one node, with address 0
abbrev pub alone : List ℕ
alone = 0 ∷ 0 ∷ 0 ∷ 0 ∷ 255 ∷ 255 ∷ 255 ∷ 255 ∷ 255 ∷ 255 ∷ 255 ∷ 255 ∷ []
