-- `letters::write::write_done`: the ends of a writer (Sending).
use mathlib.Core.Path.{◌≡◌, refl, sym, ◌∙◌}
use Rattle.wire.specs.Message.{Message}
use Rattle.wire.specs.Formed.{well_formed}
use Rattle.letters.specs.Write.{done_of}
use Rattle.letters.proofs.Sending.{room_in_front, refused_written, refused_buffer, good_written, good_buffer}
use Rattle.letters.proofs.Sending.{nothing_formed}
use Rattle.letters.proofs.write.write_done.Goals as goal

pub returns-then-number-ne0-clause-value : goal.returns-then-number-ne0-clause-value
returns-then-number-ne0-clause-value c = let a = c.args in
    let l = a.out.now in
    let x = c.refusal-number in
    let m : Message = done_of a.from a.owner a.serial a.stamp in
    let f : c.formed.result ≡ well_formed m = nothing_formed _ _ c.formed.ensures in
    c.refused.ensures ∙ refused_written m l c.formed.result x.result f x.ensures c.if-number-ne0.true

pub returns-then-number-ne0-clause-out_after : goal.returns-then-number-ne0-clause-out_after
returns-then-number-ne0-clause-out_after c = let a = c.args in
    let l = a.out.now in
    let x = c.refusal-number in
    let m : Message = done_of a.from a.owner a.serial a.stamp in
    let f : c.formed.result ≡ well_formed m = nothing_formed _ _ c.formed.ensures in
    refused_buffer m l
    c.formed.result x.result f x.ensures c.if-number-ne0.true

pub slice_bounds-fill_nothing-end-2 : goal.slice_bounds-fill_nothing-end-2
slice_bounds-fill_nothing-end-2 c = sym (room_in_front c.args.out.now
    c.formed.result _ c.refusal-number.ensures c.if-number-ne0.false)

pub returns-clause-value : goal.returns-clause-value
returns-clause-value c = let a = c.args in
    let l = a.out.now in
    let x = c.refusal-number in
    let m : Message = done_of a.from a.owner a.serial a.stamp in
    let f : c.formed.result ≡ well_formed m = nothing_formed _ _ c.formed.ensures in
    c.written.ensures ∙ good_written m l c.formed.result x.result f x.ensures c.if-number-ne0.false _ refl

pub returns-clause-out_after : goal.returns-clause-out_after
returns-clause-out_after c = let a = c.args in
    let l = a.out.now in
    let x = c.refusal-number in
    let m : Message = done_of a.from a.owner a.serial a.stamp in
    let f : c.formed.result ≡ well_formed m = nothing_formed _ _ c.formed.ensures in
    good_buffer m l
    c.formed.result x.result f x.ensures c.if-number-ne0.false _ c.fill_nothing.ensures
