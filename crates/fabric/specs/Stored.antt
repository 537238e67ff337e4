-- What a contract sees of bytes in fixed memory.
use Rattle.std.specs.Prelude.{ℕ, List, take}
use Rattle.fabric.specs.declared.bytes.Bytes.{Bytes}

-- the bytes, one after another: the used part of the memory
abbrev pub stored : {n : ℕ} → Bytes n → List ℕ
stored b = take b.used b.memory
