-- `letters::write::fill_entry`: the pieces, one behind the other, are the bytes of the message.
use mathlib.Core.Path.{ap, ◌∙◌}
use Prim.Native.Nat.{ℕ, ◌≤◌}
use native.Mathlib.Omega.{arith}
use mathlib.Core.List.{List, [], ◌∷◌}
use lib.ListN.{length, set}
use lib.Seq.{sets}
use Rattle.wire.specs.Decode.{entries_place}
use Rattle.wire.specs.Encode.{encode_entry, together, encode_header}
use Rattle.wire.specs.Headed.{headed}
use Rattle.letters.proofs.Pieces.{part_stores, single_stores}
use Rattle.wire.proofs.RoundTrip.{length_entry}
use Rattle.letters.proofs.ByOwner.{message_stores}
use borrow.Author.Rules.{rules}
use Rattle.letters.proofs.write.fill_entry.Goals as goal

pub returns : goal.returns
unfolding together
returns c = let a = c.args in
    let x = c.put_u8.new.s in
    let room : 27 ≤ length x = search rules in
    let e = a.e in
    c.put_u8-3.ensures
    ∙ ap (λ (m : List ℕ). set m 28 0)
    (c.put_u8-2.ensures
    ∙ ap (λ (m : List ℕ). set m 27 0)
    (part_stores 14 entries_place x _ (encode_entry e) room (length_entry e) c.put_entry.ensures
    ∙ ap (λ (m : List ℕ). sets m entries_place (encode_entry e)) (c.put_u8.ensures ∙ ap
    (λ (m : List ℕ). set m 12 1) c.put_head.ensures)
    ∙ single_stores encode_entry e (sets a.out.now 0 (encode_header (headed a.h [] [] []))) 12))
    ∙ message_stores (headed a.h (e ∷ []) [] []) a.out.now 27 28 (omega arith) (omega arith)
