-- Values that may be missing.
use Rattle.std.specs.Prelude.{Bool, cond, Some, None, Option}

-- the value where the test passes, and else none
abbrev pub allowed : {A : Type 0} → Bool → A → Option A
allowed b x = cond b (Some x) None
