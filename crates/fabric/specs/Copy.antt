-- The chart of a fabric, and the fabric of a chart.
use Rattle.std.specs.Prelude.{◌≡◌, ℕ, ◌-◌, ◌*◌, ◌/◌, ◌%◌, ◌^◌, cond, ◌≢◌, List, [], ◌∷◌, ◌++◌, map, length, take, drop, None, Ok, Err, Result, nat_le, nat_lt}
use Rattle.std.specs.List.{slice_get, range_with_len}
use Rattle.std.specs.Option.{unwrap_or}
use Rattle.fabric.specs.Chart.{chart_meaning, chart_addresses}
use Rattle.fabric.specs.Check.{fault, opened_as}
use Rattle.fabric.specs.Fabrics.{Near, Meaning, SameMeaning}
use Rattle.fabric.specs.declared.refusals.Refusal.{Refusal}

-- byte j of an address, most significant byte first
abbrev pub address_byte : ℕ → ℕ → ℕ
address_byte a j = a / 2 ^ (24 - 8 * j) % 256

-- byte j of record k: of the address, or the neighbour through a port
abbrev pub record_byte : Near → List ℕ → ℕ → ℕ → ℕ
record_byte near addresses k j = cond (nat_lt j 4) (address_byte (unwrap_or (slice_get addresses k) 0) j) (unwrap_or (near k (j - 4)) 255)

abbrev pub chart_byte : Near → List ℕ → ℕ → ℕ
chart_byte near addresses i = record_byte near addresses (i / 12) (i % 12)

-- the chart of a fabric: 12 bytes for each node
abbrev pub chart_of : Meaning → List ℕ → List ℕ
chart_of m addresses = map (chart_byte m.near addresses) (range_with_len 0 (12 * m.nodes))

-- its length, or the number of the refusal where the buffer is shorter
abbrev pub length_written : Meaning → List ℕ → Result ℕ ℕ
length_written m buffer = cond (nat_le (12 * m.nodes) (length buffer)) (Ok (12 * m.nodes)) (Err 15)

-- the chart over the front of the buffer, or the buffer as it was where it is shorter
abbrev pub written : Meaning → List ℕ → List ℕ → List ℕ
written m addresses buffer = cond (nat_le (12 * m.nodes) (length buffer)) (chart_of m addresses ++ drop (12 * m.nodes) buffer) buffer

-- In plain terms: the bytes pass, and open as a fabric of the same meaning with the same addresses.
pub record OpensAs (b : List ℕ) (m : Meaning) (addresses : List ℕ) : Type 0 where
  pub passes : fault b ≡ None
  pub meaning : SameMeaning (chart_meaning (opened_as b)) m
  pub addressed : chart_addresses (opened_as b) ≡ addresses

-- So do the bytes that were written, as many as were answered.
abbrev pub Copied : Result ℕ Refusal → List ℕ → Meaning → List ℕ → Type 0
Copied r out m addresses = (n : ℕ) → r ≡ Ok n → OpensAs (take n out) m addresses

-- one node, with address 0 and no neighbour
pub record OneNode (m : Meaning) (addresses : List ℕ) : Type 0 where
  pub size : m.nodes ≡ 1
  pub answers : (u p : ℕ) → m.near u p ≡ None
  pub addressed : addresses ≡ 0 ∷ []

-- In plain terms: bytes that pass are the chart of the fabric that was opened; with others that fabric is one node.
pub record Opened (b held : List ℕ) : Type 0 where
  pub again : fault b ≡ None → chart_of (chart_meaning held) (chart_addresses held) ≡ b
  pub alone : fault b ≢ None → OneNode (chart_meaning held) (chart_addresses held)
