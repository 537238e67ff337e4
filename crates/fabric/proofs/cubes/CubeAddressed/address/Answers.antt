use Rattle.std.proofs.Common.{rules}
use Rattle.fabric.specs.Coding.{address_as}
use Rattle.fabric.specs.Grays.{cube_placing}
use Rattle.fabric.proofs.cubes.CubeAddressed.address.Goals as goal

pub returns : goal.returns
returns c = let s = c.args.self.now in address_as (cube_placing s.dimension s.small) (λ a. a) c.args.label _ (search rules)
