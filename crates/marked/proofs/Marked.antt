-- The nine marked cases of document 01, whose asker is node 0, and the one of document 02: one table, and one fact over all of its rows, by computation.
use Rattle.std.specs.Prelude.{T}
use Rattle.quorum.specs.Smallest.{smallest}
use Rattle.marked.specs.Marked.{rows, all_right}

pub marked_cases : T (all_right rows)
unfolding smallest
marked_cases = tt
