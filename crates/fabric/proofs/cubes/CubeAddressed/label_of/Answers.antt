use Rattle.std.proofs.Common.{rules}
use Rattle.fabric.specs.Grays.{cube_label_as}
use Rattle.fabric.proofs.cubes.CubeAddressed.label_of.Goals as goal

pub returns : goal.returns
returns c = let s = c.args.self.now in cube_label_as s.dimension s.small c.args.address _ (search rules)
