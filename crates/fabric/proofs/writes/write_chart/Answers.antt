use Rattle.std.proofs.Common.{◌*◌, take, ⊎_elim, arith, length-take-le}
use Rattle.std.proofs.lemmas.Bool.{cases_lt}
use Rattle.fabric.specs.Copy.{chart_byte}
use Rattle.fabric.proofs.Copying.{opens_as}
use Rattle.fabric.proofs.Filling.{fill_more, fill_all, copied}
use Rattle.fabric.proofs.writes.write_chart.Goals as goal

pub loop-i-preserved : goal.loop-i-preserved
loop-i-preserved g c =
    let f = c.args.fabric.now in
    let i = c.loop-i.i in (
      fill_more (chart_byte (g.F.Fabric.meaning f).near (g.F.Addressed.addresses f)) c.loop-i.byte-items (take (12 * c.from-length.result) c.args.buffer.now) i c.record_byte.result c.loop-i-test.true c.loop-i.invariant.0 c.record_byte.ensures.is,
      λ _. ⊎_elim c.loop-i.invariant.1 (λ l. c.record_byte.ensures.long (omega arith)) (cases_lt 0 i),
    )

pub returns-clause-law : goal.returns-clause-law
returns-clause-law g c =
    let f = c.args.fabric.now in
    let m = g.F.Fabric.meaning f in
    let addresses = g.F.Addressed.addresses f in
    let law = g.met.F.Fabric.lawful f in
    let some = law.nonempty in
    let front = take (12 * c.from-length.result) c.args.buffer.now in
    let long = length-take-le (12 * c.from-length.result) c.args.buffer.now (omega arith) in
    let opens = opens_as m addresses law (g.met.F.Addressed.distinct f) (g.met.F.Addressed.fit f) (c.loop-i.invariant.1 (omega arith)) in
    copied m addresses c.loop-i.byte-items _ (12 * c.from-length.result) (omega arith)
    (fill_all (chart_byte m.near addresses) c.loop-i.byte-items front c.loop-i.i (12 * m.nodes) (omega arith) (omega arith) (omega arith) c.loop-i.invariant.0)
    opens
