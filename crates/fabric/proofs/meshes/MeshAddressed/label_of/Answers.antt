use Rattle.std.proofs.Common.{rules}
use Rattle.fabric.specs.Snakes.{mesh_label_as}
use Rattle.fabric.proofs.meshes.MeshAddressed.label_of.Goals as goal

pub returns-in_err-place_with : goal.returns-in_err-place_with
returns-in_err-place_with c = let m = c.args.self.now in mesh_label_as m.rows m.columns m.fits c.args.address _ (search rules)

pub returns : goal.returns
returns c = let m = c.args.self.now in mesh_label_as m.rows m.columns m.fits c.args.address _ (search rules)
