-- The number of each refusal.
use Rattle.std.specs.Prelude.{ℕ, Some, None, Ok, Err, Option, Result}
use Rattle.fabric.specs.declared.refusals.Refusal.{Refusal}
use Rattle.fabric.specs.declared.refusals.Refusal.TheVariants.{MeshSize, CubeSize, ChartLength, ChartLabel, ChartSelf, ChartTwice, ChartOneWay, ChartAddress, ChartChain, LinkLabel, LinkMissing, LinkInChain, LinkClosed, LinksFull, BufferShort}

abbrev pub number_of : Refusal → ℕ
number_of MeshSize = 1
number_of CubeSize = 2
number_of ChartLength = 3
number_of ChartLabel = 4
number_of ChartSelf = 5
number_of ChartTwice = 6
number_of ChartOneWay = 7
number_of ChartAddress = 8
number_of ChartChain = 9
number_of LinkLabel = 10
number_of LinkMissing = 11
number_of LinkInChain = 12
number_of LinkClosed = 13
number_of LinksFull = 14
number_of BufferShort = 15

-- an answer by what it is made of, or by the number of the refusal
abbrev pub told : {A B : Type 0} → (A → B) → Result A Refusal → Result B ℕ
told view (Ok x) = Ok (view x)
told view (Err e) = Err (number_of e)

-- the number of the refusal, or none
abbrev pub refusal : {A : Type 0} → Result A Refusal → Option ℕ
refusal (Ok x) = None
refusal (Err e) = Some (number_of e)
