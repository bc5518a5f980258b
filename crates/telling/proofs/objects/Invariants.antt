-- `telling::objects`: what the objects from place i on tell is what is left to tell.
use mathlib.Core.Path.{◌≡◌}
use Rattle.record.specs.Record.{record_of}
use Rattle.telling.proofs.Turns.{told_from}
use Rattle.telling.proofs.objects.Given as goal

abbrev pub invariant-loop-i : goal.invariant-loop-i
invariant-loop-i l =
    told_from l.opens l.node (record_of l.bytes).objects l.n l.i l.sheet ≡ told_from l.opens l.node (record_of l.bytes).objects l.n 0 l.initial.sheet
