-- What is left of the piece grows less.
use Rattle.std.proofs.Common.{length}
use Rattle.quorum_program.proofs.answer.Given as goal

abbrev pub decreases-loop-rest : goal.decreases-loop-rest
decreases-loop-rest l = length l.rest
