-- `letters::write::put_entries`: storing the entries that are left from here on gives what storing all of them gives.
use mathlib.Core.Path.{◌≡◌, ap, ◌∙◌}
use Prim.Native.Nat.{ℕ, ◌+◌, ◌-◌, ◌*◌}
use native.Mathlib.Omega.{arith}
use mathlib.Core.List.{List}
use lib.ListN.{length, get_or, take, drop}
use lib.Seq.{sets, length-take-le}
use Rattle.wire.specs.Decode.{entries_place}
use Rattle.numbers.specs.Sizes.{most_open}
use Rattle.wire.specs.declared.Entry.{Entry}
use Rattle.wire.specs.Items.{no_entry}
use Rattle.wire.specs.Encode.{encode_entry, together}
use Rattle.wire.proofs.Stores.{together_again, together_end}
use Rattle.letters.proofs.Pieces.{part_stores}
use Rattle.wire.proofs.RoundTrip.{length_entry}
use borrow.Author.Rules.{rules}
use Rattle.letters.proofs.write.put_entries.Goals as goal

pub loop-i-preserved : goal.loop-i-preserved
loop-i-preserved c =
    let l = c.loop-i in
    let a = c.args in
    let es : List Entry = take a.n a.entries in
    let full : length a.entries ≡ most_open = search rules in
    let len : length es ≡ a.n = length-take-le a.n a.entries (omega arith) in
    let k : ℕ = entries_place + 14 * l.i + 14 - (entries_place + 14 * l.i) in
    let z : 14 ≡ k = omega arith in
    let e : Entry = get_or es l.i no_entry in
    let p = part_stores k (entries_place + 14 * l.i) l.out _ (encode_entry e) (omega arith) (length_entry e ∙ z) c.put_entry.ensures in
    ap (λ (m : List ℕ). sets m (entries_place + 14 * (l.i + 1)) (together encode_entry (drop (l.i + 1) es))) p
    ∙ together_again encode_entry 14 length_entry es no_entry l.out _ entries_place l.i (omega arith) l.invariant

pub returns-clause-out_after : goal.returns-clause-out_after
returns-clause-out_after c =
    let l = c.loop-i in
    let a = c.args in
    together_end encode_entry 14 length_entry (take a.n a.entries) l.out _ entries_place l.i (omega arith) l.invariant
