use Rattle.std.proofs.Common.{rules}
use Rattle.fabric.specs.Layouts.{links_of}
use Rattle.fabric.specs.Closing.{thinned_as}
use Rattle.fabric.proofs.layouts.LayoutFabric.neighbour.Goals as goal

pub returns : goal.returns
returns g c = let l = c.args.self.now in thinned_as (links_of l.closed) (g.F.Fabric.meaning l.fabric).near c.args.label c.args.port _ (search rules)
