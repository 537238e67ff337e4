-- The questions that a chart has to pass, and the first that it fails.
use Rattle.std.specs.Prelude.{◌≡◌, ℕ, ◌+◌, ◌*◌, ◌/◌, ◌%◌, ◌<◌, Bool, cond, not, ◌||◌, ◌≢◌, ◌⊎◌, ◌↔◌, List, [], ◌∷◌, is_some, Some, None, Ok, Err, Option, Result, ◌==◌, nat_eq, nat_le, nat_lt}
use Rattle.std.specs.Option.{option_map, option_or}
use Rattle.fabric.specs.Chart.{records_of, whole, port_at, address_at, Whole, Charted, alone}
use Rattle.fabric.specs.Refusals.{number_of}
use Rattle.fabric.specs.Search.{some_below, first_fail}
use Rattle.fabric.specs.declared.checks.ChartFault.{ChartFault}
use Rattle.fabric.specs.declared.questions.Question.{Question}
use Rattle.fabric.specs.declared.questions.Question.TheVariants.{Exists, Other, New, Mutual, Address, Next}
use Rattle.fabric.specs.declared.refusals.Refusal.{Refusal}
use Rattle.fabric.specs.declared.refusals.Refusal.TheVariants.{ChartLabel, ChartSelf, ChartTwice, ChartOneWay, ChartAddress, ChartChain}

-- why a chart is refused that fails the question
abbrev pub refusal_of : Question → Refusal
refusal_of Exists = ChartLabel
refusal_of Other = ChartSelf
refusal_of New = ChartTwice
refusal_of Mutual = ChartOneWay
refusal_of Address = ChartAddress
refusal_of Next = ChartChain

-- the number of a question is that of its refusal: 4 to 9, in the order in which they are asked
abbrev pub question_number : Question → ℕ
question_number q = number_of (refusal_of q)

-- one of the first ports of record k names the label
abbrev pub names : List ℕ → ℕ → ℕ → ℕ → Bool
names b k v ports = some_below (λ q. nat_eq (port_at b k q) v) ports

-- a record before k has its address
abbrev pub taken : List ℕ → ℕ → Bool
taken b k = some_below (λ j. nat_eq (address_at b j) (address_at b k)) k

-- whether record k passes a question at port p; the questions about a whole record are asked at port 0
abbrev pub passes : Question → List ℕ → ℕ → ℕ → Bool
passes Exists b k p = port_at b k p == 255 || nat_lt (port_at b k p) (records_of b)
passes Other b k p = not (port_at b k p == k)
passes New b k p = port_at b k p == 255 || not (names b k (port_at b k p) p)
passes Mutual b k p = port_at b k p == 255 || names b (port_at b k p) k 8
passes Address b k p = nat_lt 0 p || not (taken b k)
passes Next b k p = nat_lt 0 p || (nat_le (records_of b) (k + 1) || names b k (k + 1) 8)

-- record after record, and there port after port: place i is port i % 8 of record i / 8
abbrev pub passes_at : Question → List ℕ → ℕ → Bool
passes_at q b i = passes q b (i / 8) (i % 8)

-- the number of a refusal, a record and a port
abbrev pub Fault : Type 0
Fault = ℕ × ℕ × ℕ

abbrev pub fault_at : Question → ℕ → Fault
fault_at q i = (question_number q, i / 8, i % 8)

-- the first place at which a question fails
unfoldable pub found : List ℕ → Question → Option Fault
found b q = option_map (fault_at q) (first_fail (passes_at q b) (8 * records_of b))

-- each question over all records before the next
abbrev pub sweep : List ℕ → List Question → Option Fault
sweep b [] = None
sweep b (q ∷ qs) = option_or (found b q) (sweep b qs)

abbrev pub questions : List Question
questions = Exists ∷ Other ∷ New ∷ Mutual ∷ Address ∷ Next ∷ []

-- the first fault: in the length, or in a question
abbrev pub fault : List ℕ → Option Fault
fault b = cond (whole b) (sweep b questions) (Some (3, 0, 0))

-- the fault in an answer
abbrev pub fault_of : {A : Type 0} → Result A ChartFault → Option Fault
fault_of (Ok x) = None
fault_of (Err f) = Some (number_of f.refusal, f.«record», f.port)

-- In plain terms, what each question asks of record k at port p.
abbrev pub Names : List ℕ → ℕ → ℕ → Type 0
Names b k v = (q : ℕ) × (q < 8) × (port_at b k q ≡ v)

abbrev pub Passes : Question → List ℕ → ℕ → ℕ → Type 0
Passes Exists b k p = (port_at b k p ≡ 255) ⊎ (port_at b k p < records_of b)
Passes Other b k p = port_at b k p ≢ k
Passes New b k p = (port_at b k p ≡ 255) ⊎ ((q : ℕ) → q < p → port_at b k q ≢ port_at b k p)
Passes Mutual b k p = (port_at b k p ≡ 255) ⊎ Names b (port_at b k p) k
Passes Address b k p = p ≡ 0 → (j : ℕ) → j < k → address_at b j ≢ address_at b k
Passes Next b k p = p ≡ 0 → k + 1 < records_of b → Names b k (k + 1)

-- The question fails at this record and port, and nothing that is asked earlier fails.
pub record FailsFirst (b : List ℕ) (q : Question) (k p : ℕ) : Type 0 where
  pub is_whole : Whole b
  pub is_record : k < records_of b
  pub is_port : p < 8
  pub fails : Passes q b k p → ⊥
  pub earlier_questions : (e : Question) → question_number e < question_number q → (i j : ℕ) → i < records_of b → j < 8 → Passes e b i j
  pub earlier_records : (i j : ℕ) → i < k → j < 8 → Passes q b i j
  pub earlier_ports : (j : ℕ) → j < p → Passes q b k j

-- The first fault is the length, told with record 0 and port 0, or that of a question.
abbrev pub FirstFault : List ℕ → ℕ → ℕ → ℕ → Type 0
FirstFault b n k p = ((Whole b → ⊥) × (n ≡ 3) × (k ≡ 0) × (p ≡ 0)) ⊎ ((q : Question) × (n ≡ question_number q) × FailsFirst b q k p)

-- In plain terms: the bytes pass exactly where they are a chart, and a fault that is told is the first.
pub record Checked (b : List ℕ) (f : Option Fault) : Type 0 where
  pub passes : (f ≡ None) ↔ Charted b
  pub first : (n k p : ℕ) → f ≡ Some (n, k, p) → FirstFault b n k p

-- the bytes where they pass, and else the chart of one node
abbrev pub opened_as : List ℕ → List ℕ
opened_as b = cond (is_some (fault b)) alone b
