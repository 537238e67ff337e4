-- What an opened chart holds.
use Rattle.std.specs.Prelude.{ℕ, List}
use Rattle.fabric.specs.Stored.{stored}
use Rattle.fabric.specs.declared.charts.Chart.{Chart}

-- its bytes
abbrev pub bytes_of : Chart → List ℕ
bytes_of c = stored c.bytes
