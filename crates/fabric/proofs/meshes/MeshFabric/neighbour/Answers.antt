use Rattle.std.proofs.Common.{rules}
use Rattle.fabric.specs.Snakes.{mesh_near_as}
use Rattle.fabric.proofs.meshes.MeshFabric.neighbour.Goals as goal

pub returns : goal.returns
returns c = let m = c.args.self.now in mesh_near_as m.rows m.columns m.fits c.args.label c.args.port _ (search rules)
