use Rattle.fabric.specs.Hop.{distance}
use Rattle.fabric.specs.Stored.{stored}
use Rattle.fabric.proofs.Walking.{Walked}
use Rattle.fabric.proofs.ways.way.Given as goal

abbrev pub invariant-loop-next : goal.invariant-loop-next
invariant-loop-next g l = Walked (g.F.Fabric.meaning l.fabric) l.from l.to l.at (stored l.labels)

abbrev pub decreases-loop-next : goal.decreases-loop-next
decreases-loop-next g l = distance l.at l.to
