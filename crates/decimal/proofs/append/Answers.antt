-- `decimal::append` meets its contract: a text that fits is copied, and one that does not changes nothing.
use native.Mathlib.Omega.{arith}
use Prim.Native.Nat.{ℕ, ◌+◌, ◌≤◌}
use mathlib.Core.Path.{refl, sym, ap, ◌∙◌}
use mathlib.Core.List.{List, ◌++◌}
use lib.ListN.{length, take, drop}
use lib.Seq.{take-length}
use Rattle.std.proofs.lemmas.Slice.{put_mid-paste}
use Rattle.decimal.specs.Laws.{put_fits, next_fits, put_over, next_over}
use Rattle.decimal.proofs.append.Goals as goal

pub returns-then-out-at-clause-next : goal.returns-then-out-at-clause-next
returns-then-out-at-clause-next c = sym (next_over _ _ _ (omega arith))

pub returns-then-out-at-clause-buffer : goal.returns-then-out-at-clause-buffer
returns-then-out-at-clause-buffer c = sym (put_over _ _ _ (omega arith))

pub returns-then-out-at-2-clause-next : goal.returns-then-out-at-2-clause-next
returns-then-out-at-2-clause-next c = sym (next_over _ _ _ (omega arith))

pub returns-then-out-at-2-clause-buffer : goal.returns-then-out-at-2-clause-buffer
returns-then-out-at-2-clause-buffer c = sym (put_over _ _ _ (omega arith))

pub returns-clause-next : goal.returns-clause-next
returns-clause-next c = sym (next_fits _ _ _ (omega arith))

pub returns-clause-buffer : goal.returns-clause-buffer
returns-clause-buffer c =
    let x = c.args in
    let h : x.at + length x.text.now ≤ length x.out.now = omega arith in
    put_mid-paste x.at _ x.out.now _ x.text.now (length x.text.now) c.copy_from_slice.ensures.after (omega arith) refl
    ∙ ap (λ (t : List ℕ). take x.at x.out.now ++ t ++ drop (x.at + length x.text.now) x.out.now) (take-length x.text.now)
    ∙ sym (put_fits x.out.now x.at x.text.now h)
