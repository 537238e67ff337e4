-- A fabric that is given by where its labels stand, and by the steps between those places.
use Rattle.std.specs.Prelude.{◌≡◌, ℕ, ◌<◌, cond, ◌↔◌, List, map, Some, None, Option, nat_lt}
use Rattle.std.specs.Option.{option_map}
use Rattle.std.specs.List.{range_with_len}
use Rattle.fabric.specs.Fabrics.{Near}

-- the neighbour through a port: from the label to its place, a step, and back to a label
abbrev pub via : {P : Type 0} → ℕ → (ℕ → P) → (P → ℕ) → (P → ℕ → Option P) → Near
via nodes place label step u p = cond (nat_lt u nodes) (option_map label (step (place u) p)) None

-- In plain terms: the answer is v exactly where both labels exist, and the port leads from the place of u to that of v.
abbrev pub BySteps : {P : Type 0} → ℕ → (ℕ → P) → (P → ℕ → Option P) → ℕ → ℕ → Option ℕ → Type 0
BySteps nodes place step u p r = (v : ℕ) → (r ≡ Some v) ↔ ((u < nodes) × (v < nodes) × (step (place u) p ≡ Some (place v)))

-- the addresses of the labels in turn, by a code for places
abbrev pub codes : {P : Type 0} → ℕ → (ℕ → P) → (P → ℕ) → List ℕ
codes nodes place code = map (λ k. code (place k)) (range_with_len 0 nodes)
