use Rattle.std.proofs.Common.{rules, None, ◌∙◌}
use Rattle.fabric.specs.Pick.{Picked}
use Rattle.fabric.specs.Choosing.{one_by_one, picked_law}
use Rattle.fabric.specs.Optional.{with_law}
use Rattle.fabric.proofs.picks.pick.Goals as goal

pub returns : goal.returns
returns g c =
    let m = g.T.Ranked in
    let xs = c.args.entries.now in
    with_law (Picked m.eligible m.rank xs) _ (picked_law m.eligible m.rank xs) _ (search rules ∙ one_by_one m.eligible m.rank None xs)
