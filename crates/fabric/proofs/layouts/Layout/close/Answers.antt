use Rattle.std.proofs.Common.{sym, rules}
use Rattle.fabric.specs.Layouts.{links_of}
use Rattle.fabric.specs.Closing.{may_close, close_as}
use Rattle.fabric.proofs.layouts.Layout.close.Goals as goal

pub returns-in_err-may_close-clause-law : goal.returns-in_err-may_close-clause-law
returns-in_err-may_close-clause-law g c =
    let l = c.args.self.now in
    close_as (g.F.Fabric.meaning l.fabric) (g.met.F.Fabric.lawful l.fabric) (links_of l.closed) c.args.link _ _ (search rules) (search rules)

pub add-requires : goal.add-requires
add-requires g c =
    let l = c.args.self.now in
    let e = may_close (g.F.Fabric.meaning l.fabric) (g.met.F.Fabric.lawful l.fabric) (links_of l.closed) c.args.link (sym c.in_ok-may_close.ensures) in
    record { room = e.1; spares = e.0 }

pub returns-clause-law : goal.returns-clause-law
returns-clause-law g c =
    let l = c.args.self.now in
    close_as (g.F.Fabric.meaning l.fabric) (g.met.F.Fabric.lawful l.fabric) (links_of l.closed) c.args.link _ _ (search rules) (search rules)
