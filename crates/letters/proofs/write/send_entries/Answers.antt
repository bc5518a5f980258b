-- `letters::write::send_entries`: the ends of a writer (Sending).
use mathlib.Core.Path.{◌≡◌, sym, ap, ◌∙◌}
use native.Mathlib.Omega.{arith}
use mathlib.Core.List.{List, [], ◌∷◌}
use Prim.Native.Nat.{ℕ}
use lib.ListN.{take}
use lib.Seq.{sets}
use Rattle.numbers.specs.Sizes.{longest_message}
use Rattle.wire.specs.declared.Entry.{Entry}
use Rattle.wire.specs.Message.{Message}
use Rattle.wire.specs.Formed.{well_formed}
use Rattle.wire.specs.Encode.{encode, size_of}
use Rattle.wire.specs.Headed.{headed}
use Rattle.letters.specs.Write.{first_entries}
use Rattle.letters.proofs.Sending.{room_in_front, refused_written, refused_buffer, good_written, good_buffer}
use Rattle.letters.proofs.Sending.{all_there, first_formed, few_entries}
use borrow.Author.Rules.{rules}
use Rattle.letters.proofs.write.send_entries.Goals as goal

pub returns-then-number-ne0-clause-value : goal.returns-then-number-ne0-clause-value
returns-then-number-ne0-clause-value c = let a = c.args in
    let l = a.out.now in
    let x = c.refusal-number in
    let k = c.min-count in
    let z = c.array_ok-listed in
    let p = c.requires in
    let m : Message = headed a.h (first_entries a.n a.entries) [] (take a.words (a.word ∷ [])) in
    let f : c.formed.result ≡ well_formed m =
    first_formed a.h a.entries a.n _ a.words a.word _ _ k.ensures z.ensures.entries_len p.0 p.1 p.2 c.formed.ensures
    z.ensures.value in
    c.refused.ensures ∙ refused_written m l c.formed.result x.result f x.ensures c.if-number-ne0.true

pub returns-then-number-ne0-clause-out_after : goal.returns-then-number-ne0-clause-out_after
returns-then-number-ne0-clause-out_after c = let a = c.args in
    let l = a.out.now in
    let x = c.refusal-number in
    let k = c.min-count in
    let z = c.array_ok-listed in
    let p = c.requires in
    let m : Message = headed a.h (first_entries a.n a.entries) [] (take a.words (a.word ∷ [])) in
    let f : c.formed.result ≡ well_formed m =
    first_formed a.h a.entries a.n _ a.words a.word _ _ k.ensures z.ensures.entries_len p.0 p.1 p.2 c.formed.ensures
    z.ensures.value in
    refused_buffer m l
    c.formed.result x.result f x.ensures c.if-number-ne0.true

pub slice_bounds-fill_entries-end-2 : goal.slice_bounds-fill_entries-end-2
slice_bounds-fill_entries-end-2 c = sym (room_in_front c.args.out.now
    c.formed.result _ c.refusal-number.ensures c.if-number-ne0.false)

pub fill_entries-length-requires : goal.fill_entries-length-requires
fill_entries-length-requires c = let l = c.args.out.now in
    let r = c.formed in (
      few_entries l r.result _ _ _ _ _ _ c.refusal-number.ensures c.if-number-ne0.false r.ensures,
      search rules,
      omega (arith, room_in_front l r.result _ c.refusal-number.ensures c.if-number-ne0.false),
    )

pub returns-clause-value : goal.returns-clause-value
returns-clause-value c = let a = c.args in
    let l = a.out.now in
    let r = c.formed in
    let x = c.refusal-number in
    let k = c.min-count in
    let z = c.array_ok-listed in
    let p = c.requires in
    let m : Message = headed a.h (first_entries a.n a.entries) [] (take a.words (a.word ∷ [])) in
    let f : c.formed.result ≡ well_formed m =
    first_formed a.h a.entries a.n _ a.words a.word _ _ k.ensures z.ensures.entries_len p.0 p.1 p.2 c.formed.ensures
    z.ensures.value in
    let few = few_entries l r.result _ _ _ _ _ _ x.ensures c.if-number-ne0.false r.ensures in
    let all = (all_there a.entries a.n _ k.ensures z.ensures.entries_len few).1 in
    let ws : List ℕ = take a.words (a.word ∷ []) in
    let fill = c.fill_entries-length.ensures in
    c.written.ensures ∙ good_written m l r.result x.result f x.ensures c.if-number-ne0.false _
    (fill.value ∙ ap (λ (es : List Entry). size_of (headed a.h es [] ws)) all)

pub returns-clause-out_after : goal.returns-clause-out_after
returns-clause-out_after c = let a = c.args in
    let l = a.out.now in
    let r = c.formed in
    let x = c.refusal-number in
    let k = c.min-count in
    let z = c.array_ok-listed in
    let p = c.requires in
    let m : Message = headed a.h (first_entries a.n a.entries) [] (take a.words (a.word ∷ [])) in
    let f : c.formed.result ≡ well_formed m =
    first_formed a.h a.entries a.n _ a.words a.word _ _ k.ensures z.ensures.entries_len p.0 p.1 p.2 c.formed.ensures
    z.ensures.value in
    let few = few_entries l r.result _ _ _ _ _ _ x.ensures c.if-number-ne0.false r.ensures in
    let all = (all_there a.entries a.n _ k.ensures z.ensures.entries_len few).1 in
    let ws : List ℕ = take a.words (a.word ∷ []) in
    let fill = c.fill_entries-length.ensures in
    good_buffer m l r.result x.result f x.ensures c.if-number-ne0.false _
    (fill.out_after ∙ ap (λ (es : List Entry). sets (take longest_message l) 0 (encode (headed a.h es [] ws))) all)
