use Rattle.std.proofs.Common.{rules}
use Rattle.fabric.specs.Snake.{address_at}
use Rattle.fabric.specs.Coding.{address_as}
use Rattle.fabric.specs.Snakes.{mesh_placing}
use Rattle.fabric.proofs.meshes.MeshAddressed.address.Goals as goal

pub returns : goal.returns
returns c = let m = c.args.self.now in address_as (mesh_placing m.rows m.columns m.fits) address_at c.args.label _ (search rules)
