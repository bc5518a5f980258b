-- `letters::write::fill_rivals`: the pieces, one behind the other, are the bytes of the message.
use mathlib.Core.Path.{ap, ◌∙◌}
use Prim.Native.Nat.{ℕ}
use native.Mathlib.Omega.{arith}
use mathlib.Core.List.{List, [], ◌∷◌}
use lib.ListN.{set}
use lib.Seq.{sets}
use Rattle.wire.specs.Decode.{entries_place}
use Rattle.wire.specs.declared.Rival.{Rival}
use Rattle.wire.specs.Encode.{encode_rival, encode_word, together, section, encode_header}
use Rattle.wire.specs.Headed.{headed}
use Rattle.letters.specs.Write.{rivals_by}
use Rattle.letters.proofs.ByOwner.{section_stores, message_stores}
use Rattle.letters.proofs.write.fill_rivals.Goals as goal

pub returns-clause-out_after : goal.returns-clause-out_after
unfolding together
returns-clause-out_after c = let a = c.args in
    let n = c.requires.0 in
    let x = c.put_words.ensures in
    let y = c.put_rivals-at in
    let rs : List Rival = rivals_by 0 a.serials in
    let ws : List ℕ = a.word ∷ [] in
    let head : List ℕ = sets a.out.now 0 (encode_header (headed a.h [] [] [])) in
    x.out_after
    ∙ ap (λ (m : List ℕ). sets m y.result (section encode_word ws))
    (y.ensures.out_after
    ∙ ap (λ (m : List ℕ). sets m 14 (together encode_rival rs))
    (c.put_u8-2.ensures
    ∙ ap (λ (m : List ℕ). set m entries_place a.count)
    (c.put_u8.ensures ∙ ap (λ (m : List ℕ). set m 12 0) c.put_head.ensures))
    ∙ section_stores encode_rival rs (set head 12 0) entries_place a.count n)
    ∙ message_stores (headed a.h [] rs ws) a.out.now entries_place y.result (omega arith) (omega (arith, y.ensures.value))
