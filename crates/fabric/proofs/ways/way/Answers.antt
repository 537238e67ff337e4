use Rattle.std.proofs.Common.{sym, lit<}
use Rattle.fabric.proofs.Walking.{room, less, further, short, arrived_at, walked_as}
use Rattle.fabric.proofs.ways.way.Goals as goal

pub push-requires : goal.push-requires
push-requires g c =
    let f = c.args.fabric.now in
    (lit< tt, room (g.F.Fabric.meaning f) (g.met.F.Fabric.lawful f) c.args.from c.args.to (sym c.if-not-both_exist.ensures) c.loop-next.at _ c.loop-next.invariant c.in-Some.next c.in-Some.ensures.is)

pub loop-next-smaller : goal.loop-next-smaller
loop-next-smaller g c =
    let f = c.args.fabric.now in
    less (g.F.Fabric.meaning f) (g.met.F.Fabric.lawful f) c.args.from c.args.to (sym c.if-not-both_exist.ensures) c.loop-next.at _ c.loop-next.invariant c.in-Some.next c.in-Some.ensures.is

pub loop-next-preserved : goal.loop-next-preserved
loop-next-preserved g c =
    let f = c.args.fabric.now in
    further (g.F.Fabric.meaning f) (g.met.F.Fabric.lawful f) c.args.from c.args.to (sym c.if-not-both_exist.ensures) c.loop-next.at _ c.loop-next.invariant c.in-Some.next c.in-Some.ensures.is _ c.push.ensures

pub invariant_of-result : goal.invariant_of-result
invariant_of-result g c =
    let f = c.args.fabric.now in
    record {
      some = c.loop-next.invariant.some;
      short = short (g.F.Fabric.meaning f) (g.met.F.Fabric.lawful f) c.args.from c.args.to (sym c.if-not-both_exist.ensures) c.loop-next.at _ c.loop-next.invariant;
    }

pub returns : goal.returns
returns g c =
    let f = c.args.fabric.now in
    let law = g.met.F.Fabric.lawful f in
    let known = sym c.if-not-both_exist.ensures in
    walked_as (g.F.Fabric.meaning f) law c.args.from c.args.to _ known
    (arrived_at (g.F.Fabric.meaning f) law c.args.from c.args.to known c.loop-next.at _ c.loop-next.invariant c.in_default.ensures.is)
