use Rattle.std.proofs.Common.{Some, None, sym, refl}
use Rattle.fabric.specs.Hopping.{hop_end, hop_none}
use Rattle.fabric.proofs.hops.hop.Goals as goal

pub returns-then-not-both_exist : goal.returns-then-not-both_exist
returns-then-not-both_exist g c =
    let f = c.args.fabric.now in
    hop_none (g.F.Fabric.meaning f) (g.met.F.Fabric.lawful f) c.args.from c.args.towards (sym c.if-not-both_exist.ensures)

pub returns-in_err-pick : goal.returns-in_err-pick
returns-in_err-pick g c =
    let f = c.args.fabric.now in
    hop_end (g.F.Fabric.meaning f) (g.met.F.Fabric.lawful f) c.args.from c.args.towards _ None c.exits.result (sym c.if-not-both_exist.ensures) c.from_residual.ensures c.in_err-pick.ensures.is c.exits.ensures

pub returns : goal.returns
returns g c =
    let f = c.args.fabric.now in
    hop_end (g.F.Fabric.meaning f) (g.met.F.Fabric.lawful f) c.args.from c.args.towards _ (Some c.in_ok-pick.field-0) c.exits.result (sym c.if-not-both_exist.ensures) refl c.in_ok-pick.ensures.is c.exits.ensures
