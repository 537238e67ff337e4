use Rattle.std.proofs.Common.{◌≡◌, ◌<◌, ◌++◌, map, length, drop}
use Rattle.std.specs.List.{range_with_len}
use Rattle.fabric.specs.Copy.{chart_byte}
use Rattle.fabric.proofs.writes.write_chart.Given as goal

-- the bytes so far, and then what was there; and from the first byte on it is known that each label has an address
abbrev pub invariant-loop-i : goal.invariant-loop-i
invariant-loop-i g l =
    let addresses = g.F.Addressed.addresses l.fabric in
    (l.byte-items ≡ map (chart_byte (g.F.Fabric.meaning l.fabric).near addresses) (range_with_len 0 l.i) ++ drop l.i l.initial.byte-items) × (0 < l.i → length addresses ≡ (g.F.Fabric.meaning l.fabric).nodes)
