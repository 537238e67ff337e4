use Rattle.std.proofs.Common.{ap₂, ◌∙◌}
use Rattle.fabric.specs.Chart.{record_with}
use Rattle.fabric.specs.Held.{bytes_of}
use Rattle.fabric.specs.Asking.{held_sound}
use Rattle.fabric.specs.Charting.{record_as}
use Rattle.fabric.proofs.opens.ChartAddressed.label_of.Goals as goal

pub returns : goal.returns
returns c =
    let s = c.args.self.now in
    let b = bytes_of s in
    record_as b (held_sound b s.passed) c.args.address _ (c.label_in.ensures ∙ ap₂ (λ x n. record_with x n c.args.address) c.bytes.ensures c.size.ensures)
