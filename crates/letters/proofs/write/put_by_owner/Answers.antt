-- `letters::write::put_by_owner`: nothing, or one rival.
use mathlib.Core.Path.{◌≡◌, sym, ap, ◌∙◌}
use Prim.Native.Nat.{ℕ, ◌+◌, ◌-◌, ◌*◌}
use native.Mathlib.Omega.{arith}
use mathlib.Core.List.{List, append-nil}
use lib.Seq.{sets}
use Rattle.wire.specs.declared.Rival.{Rival}
use Rattle.wire.specs.Encode.{encode_rival, together}
use Rattle.letters.proofs.Pieces.{part_stores}
use Rattle.wire.proofs.RoundTrip.{length_rival}
use Rattle.letters.proofs.ByOwner.{one_none, one_some}
use Rattle.letters.proofs.write.put_by_owner.Goals as goal

pub returns-then-serial-eq0-clause-out_after : goal.returns-then-serial-eq0-clause-out_after
unfolding together
returns-then-serial-eq0-clause-out_after c = let a = c.args in
    let e = sym (one_none a.owner a.serial c.if-serial-eq0.true) in
    let z : a.at ≡ a.at + 5 * 0 = omega arith in
    ap (λ (rs : List Rival). sets a.out.now a.at (together encode_rival rs)) e

pub returns-clause-out_after : goal.returns-clause-out_after
unfolding together
returns-clause-out_after c = let a = c.args in
    let r : Rival = record { owner = a.owner; serial = a.serial } in
    let e = sym (one_some a.owner a.serial c.if-serial-eq0.false) in
    let z : a.at + 5 ≡ a.at + 5 * 1 = omega arith in
    let k : ℕ = a.at + 5 - a.at in
    let y : 5 ≡ k = omega arith in
    part_stores k a.at a.out.now _ (encode_rival r) (omega arith) (length_rival r ∙ y) c.put_rival.ensures
    ∙ ap (sets a.out.now a.at) (sym (append-nil (encode_rival r)))
    ∙ ap (λ (rs : List Rival). sets a.out.now a.at (together encode_rival rs)) e
