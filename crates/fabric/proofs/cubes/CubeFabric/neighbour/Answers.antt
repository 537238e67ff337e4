use Rattle.std.proofs.Common.{rules}
use Rattle.fabric.specs.Grays.{cube_near_as}
use Rattle.fabric.proofs.cubes.CubeFabric.neighbour.Goals as goal

pub returns : goal.returns
returns c = let s = c.args.self.now in cube_near_as s.dimension s.small c.args.label c.args.port _ (search rules)
