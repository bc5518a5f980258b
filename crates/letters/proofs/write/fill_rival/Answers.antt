-- `letters::write::fill_rival`: the pieces, one behind the other, are the bytes of the message.
use mathlib.Core.Path.{ap, ◌∙◌}
use Prim.Native.Nat.{ℕ, ◌≤◌}
use native.Mathlib.Omega.{arith}
use mathlib.Core.List.{List, [], ◌∷◌}
use lib.ListN.{length, set}
use lib.Seq.{sets}
use Rattle.wire.specs.Decode.{entries_place}
use Rattle.wire.specs.Encode.{encode_rival, together, encode_header}
use Rattle.wire.specs.Headed.{headed}
use Rattle.letters.proofs.Pieces.{part_stores, single_stores}
use Rattle.wire.proofs.RoundTrip.{length_rival}
use Rattle.letters.proofs.ByOwner.{message_stores}
use borrow.Author.Rules.{rules}
use Rattle.letters.proofs.write.fill_rival.Goals as goal

pub returns : goal.returns
unfolding together
returns c = let a = c.args in
    let x = c.put_u8-2.new.s in
    let room : 19 ≤ length x = search rules in
    let r = a.r in
    c.put_u8-3.ensures
    ∙ ap (λ (m : List ℕ). set m 19 0)
    (part_stores 5 14 x _ (encode_rival r) room (length_rival r) c.put_rival.ensures
    ∙ ap (λ (m : List ℕ). sets m 14 (encode_rival r))
    (c.put_u8-2.ensures
    ∙ ap (λ (m : List ℕ). set m entries_place 1) (c.put_u8.ensures ∙ ap (λ (m : List ℕ). set m 12 0)
    c.put_head.ensures))
    ∙ single_stores encode_rival r (set (sets a.out.now 0 (encode_header (headed a.h [] [] []))) 12 0) entries_place)
    ∙ message_stores (headed a.h [] (r ∷ []) []) a.out.now entries_place 19 (omega arith) (omega arith)
