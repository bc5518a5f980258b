-- `quorum_lines::feed` meets its contract. The loop's invariant is `Going`: what is taken so far and what is to be taken are the whole piece.
use Rattle.quorum_lines.proofs.Feeding.{Going}
use Rattle.quorum_lines.proofs.feed.Given as goal

abbrev pub invariant-loop-i : goal.invariant-loop-i
invariant-loop-i l = Going l.input l.initial.out l.initial.l l.out l.l l.i l.at
