-- `record::store::put_objects`: storing what is left from here on gives what storing all of it gives.
use Prim.Native.Nat.{ℕ, ◌+◌, ◌*◌}
use native.Mathlib.Omega.{arith}
use mathlib.Core.Path.{◌≡◌, ap, ◌∙◌}
use mathlib.Core.List.{List}
use lib.ListN.{length, get_or, drop}
use lib.Seq.{sets}
use Rattle.numbers.specs.Sizes.{most_open}
use Rattle.wire.specs.Encode.{together}
use Rattle.wire.proofs.Stores.{together_again, together_end}
use Rattle.coordinator.specs.State.{no_object}
use Rattle.record.specs.Record.{object_bytes}
use Rattle.record.proofs.Stores.{length_object}
use borrow.Author.Rules.{rules}
use borrow.Author.Rules.{rules}
use Rattle.record.proofs.store.put_objects.Goals as goal

pub loop-i-preserved : goal.loop-i-preserved
loop-i-preserved c = let l = c.loop-i in
    let a = c.args in
    let full : length a.list ≡ most_open = search rules in
    let p : c.put_object.new.bytes ≡ sets l.bytes (43 + 25 * l.i) (object_bytes (get_or a.list l.i no_object)) =
    c.put_object.ensures in
    ap (λ (m : List ℕ). sets m (43 + 25 * (l.i + 1)) (together (object_bytes) (drop (l.i + 1) a.list))) p
    ∙ together_again (object_bytes) 25 length_object a.list no_object l.bytes _ 43 l.i (omega arith) l.invariant

pub returns-clause-bytes_after : goal.returns-clause-bytes_after
returns-clause-bytes_after c = let l = c.loop-i in
    let a = c.args in
    let full : length a.list ≡ most_open = search rules in together_end (object_bytes) 25 length_object a.list l.bytes _ 43 l.i (omega arith) l.invariant
