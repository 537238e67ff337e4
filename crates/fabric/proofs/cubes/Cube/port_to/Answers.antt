use Rattle.std.proofs.Common.{rules}
use Rattle.fabric.specs.Grays.{port_as}
use Rattle.fabric.proofs.cubes.Cube.port_to.Goals as goal

pub returns-in_err-code-2 : goal.returns-in_err-code-2
returns-in_err-code-2 c = let s = c.args.self.now in port_as s.dimension s.small c.args.from c.args.to _ (search rules)

pub returns : goal.returns
returns c = let s = c.args.self.now in port_as s.dimension s.small c.args.from c.args.to _ (search rules)
