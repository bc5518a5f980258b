-- `letters::write::write_vote`: the ends of a writer (Sending).
use mathlib.Core.Path.{◌≡◌, sym, ap, ◌∙◌}
use native.Mathlib.Omega.{arith}
use Prim.Native.Nat.{ℕ}
use mathlib.Core.Bool.{◌&&◌}
use mathlib.Core.List.{List, [], ◌∷◌}
use Rattle.wire.specs.declared.Head.{Head}
use Rattle.wire.specs.Message.{Message}
use Rattle.wire.specs.Formed.{counts_ok, well_formed}
use Rattle.wire.specs.Headed.{head_ok}
use Rattle.letters.specs.Write.{rivals_by, vote_of}
use Rattle.letters.proofs.Sending.{room_in_front, refused_written, refused_buffer, good_written, good_buffer}
use Rattle.letters.proofs.Sending.{rivals_formed}
use Rattle.letters.proofs.Votes.{own_decides}
use Rattle.letters.proofs.write.write_vote.Goals as goal

pub returns-then-number-ne0-clause-value : goal.returns-then-number-ne0-clause-value
returns-then-number-ne0-clause-value c = let a = c.args in
    let l = a.out.now in
    let x = c.refusal-number in
    let ss : List ℕ = a.rivals in
    let full = c.no_rival-listed.ensures.serials_len in
    let count = c.count_rivals-count.ensures.value in
    let h : Head = record { kind = 4; from = a.from; to = a.owner; owner = a.owner; serial = a.serial; stamp = a.stamp } in
    let listed = ap (◌&&◌ (head_ok h)) c.no_rival-listed.ensures.value ∙ own_decides h ss full in
    let counted = ap (λ (k : ℕ). counts_ok 4 0 k 1 a.word && (head_ok h && c.no_rival-listed.result)) count in
    let m : Message = vote_of a.from a.owner a.serial a.stamp ss a.word in
    let f : c.formed.result ≡ well_formed m =
    rivals_formed h (rivals_by 0 ss) (a.word ∷ []) _ _ (c.formed.ensures ∙ counted) listed in
    c.refused.ensures ∙ refused_written m l c.formed.result x.result f x.ensures c.if-number-ne0.true

pub returns-then-number-ne0-clause-out_after : goal.returns-then-number-ne0-clause-out_after
returns-then-number-ne0-clause-out_after c = let a = c.args in
    let l = a.out.now in
    let x = c.refusal-number in
    let ss : List ℕ = a.rivals in
    let full = c.no_rival-listed.ensures.serials_len in
    let count = c.count_rivals-count.ensures.value in
    let h : Head = record { kind = 4; from = a.from; to = a.owner; owner = a.owner; serial = a.serial; stamp = a.stamp } in
    let listed = ap (◌&&◌ (head_ok h)) c.no_rival-listed.ensures.value ∙ own_decides h ss full in
    let counted = ap (λ (k : ℕ). counts_ok 4 0 k 1 a.word && (head_ok h && c.no_rival-listed.result)) count in
    let m : Message = vote_of a.from a.owner a.serial a.stamp ss a.word in
    let f : c.formed.result ≡ well_formed m =
    rivals_formed h (rivals_by 0 ss) (a.word ∷ []) _ _ (c.formed.ensures ∙ counted) listed in
    refused_buffer m l
    c.formed.result x.result f x.ensures c.if-number-ne0.true

pub slice_bounds-fill_rivals-end-2 : goal.slice_bounds-fill_rivals-end-2
slice_bounds-fill_rivals-end-2 c = sym (room_in_front c.args.out.now
    c.formed.result _ c.refusal-number.ensures c.if-number-ne0.false)

pub fill_rivals-length-requires : goal.fill_rivals-length-requires
fill_rivals-length-requires c = (
  c.count_rivals-count.ensures.value,
  c.count_rivals-count.ensures.upper_bound,
  omega (
    arith,
    room_in_front c.args.out.now
        c.formed.result _ c.refusal-number.ensures c.if-number-ne0.false,
  ),
)

pub returns-clause-value : goal.returns-clause-value
returns-clause-value c = let a = c.args in
    let l = a.out.now in
    let x = c.refusal-number in
    let ss : List ℕ = a.rivals in
    let full = c.no_rival-listed.ensures.serials_len in
    let count = c.count_rivals-count.ensures.value in
    let h : Head = record { kind = 4; from = a.from; to = a.owner; owner = a.owner; serial = a.serial; stamp = a.stamp } in
    let listed = ap (◌&&◌ (head_ok h)) c.no_rival-listed.ensures.value ∙ own_decides h ss full in
    let counted = ap (λ (k : ℕ). counts_ok 4 0 k 1 a.word && (head_ok h && c.no_rival-listed.result)) count in
    let m : Message = vote_of a.from a.owner a.serial a.stamp ss a.word in
    let f : c.formed.result ≡ well_formed m =
    rivals_formed h (rivals_by 0 ss) (a.word ∷ []) _ _ (c.formed.ensures ∙ counted) listed in
    c.written.ensures ∙ good_written m l c.formed.result x.result f x.ensures c.if-number-ne0.false _
    c.fill_rivals-length.ensures.value

pub returns-clause-out_after : goal.returns-clause-out_after
returns-clause-out_after c = let a = c.args in
    let l = a.out.now in
    let x = c.refusal-number in
    let ss : List ℕ = a.rivals in
    let full = c.no_rival-listed.ensures.serials_len in
    let count = c.count_rivals-count.ensures.value in
    let h : Head = record { kind = 4; from = a.from; to = a.owner; owner = a.owner; serial = a.serial; stamp = a.stamp } in
    let listed = ap (◌&&◌ (head_ok h)) c.no_rival-listed.ensures.value ∙ own_decides h ss full in
    let counted = ap (λ (k : ℕ). counts_ok 4 0 k 1 a.word && (head_ok h && c.no_rival-listed.result)) count in
    let m : Message = vote_of a.from a.owner a.serial a.stamp ss a.word in
    let f : c.formed.result ≡ well_formed m =
    rivals_formed h (rivals_by 0 ss) (a.word ∷ []) _ _ (c.formed.ensures ∙ counted) listed in
    good_buffer m l c.formed.result x.result f x.ensures c.if-number-ne0.false _
    c.fill_rivals-length.ensures.out_after
