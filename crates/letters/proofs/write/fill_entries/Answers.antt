-- `letters::write::fill_entries`: the pieces, one behind the other, are the bytes of the message.
use mathlib.Core.Path.{◌≡◌, sym, ap, ◌∙◌}
use Prim.Native.Nat.{ℕ, ◌+◌, ◌*◌}
use native.Mathlib.Omega.{arith}
use mathlib.Core.List.{List, [], ◌∷◌}
use lib.ListN.{length, set, take}
use lib.Seq.{sets}
use Rattle.wire.specs.Decode.{entries_place}
use Rattle.wire.specs.declared.Entry.{Entry}
use Rattle.wire.specs.Encode.{encode_entry, encode_word, together, section, encode_header}
use Rattle.wire.specs.Headed.{headed}
use Rattle.letters.proofs.ByOwner.{section_stores, words_length, message_stores}
use Rattle.letters.proofs.write.fill_entries.Goals as goal

pub returns-clause-out_after : goal.returns-clause-out_after
unfolding together
returns-clause-out_after c = let a = c.args in
    let x = c.put_words in
    let es : List Entry = take a.n a.entries in
    let ws : List ℕ = take a.words (a.word ∷ []) in
    let len : a.n ≡ length es = sym c.put_entries.ensures.entries_len in
    let one : length ws ≡ a.words = words_length a.words a.word (omega arith) in
    let head : List ℕ = sets a.out.now 0 (encode_header (headed a.h [] [] [])) in
    x.ensures.out_after
    ∙ ap (λ (m : List ℕ). sets m (entries_place + 14 * a.n + 1) (section encode_word ws))
    (c.put_u8-2.ensures
    ∙ ap (λ (m : List ℕ). set m (entries_place + 14 * a.n) 0)
    (c.put_entries.ensures.out_after
    ∙ ap (λ (m : List ℕ). sets m entries_place (together encode_entry es))
    (c.put_u8.ensures ∙ ap (λ (m : List ℕ). set m 12 a.n)
    c.put_head.ensures)
    ∙ section_stores encode_entry es head 12 a.n len))
    ∙ message_stores (headed a.h es [] ws) a.out.now (entries_place + 14 * a.n) (entries_place + 14 * a.n + 1) (omega arith) (omega arith)
