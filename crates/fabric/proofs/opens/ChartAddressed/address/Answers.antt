use Rattle.std.proofs.Common.{rules}
use Rattle.fabric.specs.Chart.{address_at}
use Rattle.fabric.specs.Held.{bytes_of}
use Rattle.fabric.specs.Asking.{held_sound}
use Rattle.fabric.specs.Charting.{placing}
use Rattle.fabric.specs.Coding.{address_as}
use Rattle.fabric.proofs.opens.ChartAddressed.address.Goals as goal

pub returns : goal.returns
returns c =
    let s = c.args.self.now in
    let b = bytes_of s in
    address_as (placing b (held_sound b s.passed)) (address_at b) c.args.label _ (search rules)
