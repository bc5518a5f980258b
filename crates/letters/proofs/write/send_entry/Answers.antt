-- `letters::write::send_entry`: the ends of a writer (Sending).
use mathlib.Core.Path.{◌≡◌, refl, sym, ◌∙◌}
use native.Mathlib.Omega.{arith}
use mathlib.Core.List.{[], ◌∷◌}
use Rattle.wire.specs.Message.{Message}
use Rattle.wire.specs.Formed.{well_formed}
use Rattle.wire.specs.Headed.{headed}
use Rattle.letters.proofs.Sending.{room_in_front, refused_written, refused_buffer, good_written, good_buffer}
use Rattle.letters.proofs.Sending.{entry_formed}
use Rattle.letters.proofs.write.send_entry.Goals as goal

pub returns-then-number-ne0-clause-value : goal.returns-then-number-ne0-clause-value
returns-then-number-ne0-clause-value c = let a = c.args in
    let l = a.out.now in
    let x = c.refusal-number in
    let m : Message = headed a.h (a.e ∷ []) [] [] in
    let f : c.formed.result ≡ well_formed m =
    entry_formed a.h a.e _ _ c.formed.ensures c.entry_ok.ensures in
    c.refused.ensures ∙ refused_written m l c.formed.result x.result f x.ensures c.if-number-ne0.true

pub returns-then-number-ne0-clause-out_after : goal.returns-then-number-ne0-clause-out_after
returns-then-number-ne0-clause-out_after c = let a = c.args in
    let l = a.out.now in
    let x = c.refusal-number in
    let m : Message = headed a.h (a.e ∷ []) [] [] in
    let f : c.formed.result ≡ well_formed m =
    entry_formed a.h a.e _ _ c.formed.ensures c.entry_ok.ensures in
    refused_buffer m l
    c.formed.result x.result f x.ensures c.if-number-ne0.true

pub slice_bounds-fill_entry-end-2 : goal.slice_bounds-fill_entry-end-2
slice_bounds-fill_entry-end-2 c = sym (room_in_front c.args.out.now
    c.formed.result _ c.refusal-number.ensures c.if-number-ne0.false)

pub fill_entry-requires : goal.fill_entry-requires
fill_entry-requires c = omega (
  arith,
  room_in_front c.args.out.now
      c.formed.result _ c.refusal-number.ensures c.if-number-ne0.false,
)

pub returns-clause-value : goal.returns-clause-value
returns-clause-value c = let a = c.args in
    let l = a.out.now in
    let x = c.refusal-number in
    let m : Message = headed a.h (a.e ∷ []) [] [] in
    let f : c.formed.result ≡ well_formed m =
    entry_formed a.h a.e _ _ c.formed.ensures c.entry_ok.ensures in
    c.written.ensures ∙ good_written m l c.formed.result x.result f x.ensures c.if-number-ne0.false _ refl

pub returns-clause-out_after : goal.returns-clause-out_after
returns-clause-out_after c = let a = c.args in
    let l = a.out.now in
    let x = c.refusal-number in
    let m : Message = headed a.h (a.e ∷ []) [] [] in
    let f : c.formed.result ≡ well_formed m =
    entry_formed a.h a.e _ _ c.formed.ensures c.entry_ok.ensures in
    good_buffer m l
    c.formed.result x.result f x.ensures c.if-number-ne0.false _ c.fill_entry.ensures
