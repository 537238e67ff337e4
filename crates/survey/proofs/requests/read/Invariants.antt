use Rattle.std.specs.Vec.Iter.{into_iter_len}
use Rattle.survey.proofs.requests.read.Given as goal

abbrev pub decreases-loop-kind : goal.decreases-loop-kind
decreases-loop-kind l = into_iter_len l.words
