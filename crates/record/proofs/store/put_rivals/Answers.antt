-- `record::store::put_rivals`: storing what is left from here on gives what storing all of it gives.
use Prim.Native.Nat.{ℕ, ◌+◌, ◌*◌}
use native.Mathlib.Omega.{arith}
use mathlib.Core.Path.{◌≡◌, ap, ◌∙◌}
use mathlib.Core.List.{List}
use lib.ListN.{length, get_or, drop}
use lib.Seq.{sets}
use Rattle.numbers.specs.Sizes.{nodes}
use Rattle.wire.specs.Encode.{together}
use Rattle.wire.proofs.Stores.{together_again, together_end}
use Rattle.octets.specs.Octets.{le}
use Rattle.octets.proofs.Laws.{put_le, length_le}
use borrow.Author.Rules.{rules}
use borrow.Author.Rules.{rules}
use Rattle.record.proofs.store.put_rivals.Goals as goal

pub loop-i-preserved : goal.loop-i-preserved
loop-i-preserved c = let l = c.loop-i in
    let a = c.args in
    let full : length a.list ≡ nodes = search rules in
    let p : c.put_u32.new.s ≡ sets l.bytes (249 + 4 * l.i) (le 4 (get_or a.list l.i 0)) =
    c.put_u32.ensures ∙ put_le 4 l.bytes (249 + 4 * l.i) (get_or a.list l.i 0) in
    ap (λ (m : List ℕ). sets m (249 + 4 * (l.i + 1)) (together (le 4) (drop (l.i + 1) a.list))) p
    ∙ together_again (le 4) 4 (length_le 4) a.list 0 l.bytes _ 249 l.i (omega arith) l.invariant

pub returns-clause-bytes_after : goal.returns-clause-bytes_after
returns-clause-bytes_after c = let l = c.loop-i in
    let a = c.args in
    let full : length a.list ≡ nodes = search rules in together_end (le 4) 4 (length_le 4) a.list l.bytes _ 249 l.i (omega arith) l.invariant
