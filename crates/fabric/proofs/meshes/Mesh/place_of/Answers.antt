use Rattle.std.proofs.Common.{rules}
use Rattle.fabric.specs.Snakes.{place_as}
use Rattle.fabric.proofs.meshes.Mesh.place_of.Goals as goal

pub returns : goal.returns
returns c = let m = c.args.self.now in place_as m.rows m.columns m.fits c.args.label _ (search rules)
