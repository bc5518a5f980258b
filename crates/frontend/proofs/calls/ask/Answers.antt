-- `frontend::calls::ask`: the host's own, or a batch that is refused, given up, or summed first (Votes).
use mathlib.Core.Path.{◌≡◌, sym, ap, ◌∙◌}
use mathlib.Core.Bool.{Bool, true, false}
use mathlib.Core.List.{List, []}
use Prim.Native.Nat.{ℕ}
use native.Mathlib.Omega.{arith}
use Rattle.octets.proofs.Laws.{Bytes}
use Rattle.frontend.proofs.Votes.{own_told, own_left, refused_told, refused_kept, past_told, past_left, summed_told, summed_left}
use Rattle.coordinator.specs.System.{tree}
use Rattle.record.specs.declared.Called.{Called}
use Rattle.record.specs.Record.{record_of}
use Rattle.frontend.specs.Plan.{told_by, left_by, request_by}
use Rattle.frontend.proofs.calls.ask.Goals as goal

-- by the kind
by_kind : (l : List ℕ) (me : ℕ) (t b : Bool) (r : Called) (k : List ℕ) → t ≡ b
    → (r ≡ told_by (request_by b tree (record_of l) [] me)) × (k ≡ left_by (request_by b tree (record_of l) [] me) l me)
    → (r ≡ told_by (request_by t tree (record_of l) [] me)) × (k ≡ left_by (request_by t tree (record_of l) [] me) l me)
by_kind l me t b r k e h = (
  h.0 ∙ ap (λ (x : Bool). told_by (request_by x tree (record_of l) [] me)) (sym e),
  h.1 ∙ ap (λ (x : Bool). left_by (request_by x tree (record_of l) [] me) l me) (sym e),
)

pub returns-then-not-adding-clause-value : goal.returns-then-not-adding-clause-value
returns-then-not-adding-clause-value c = let l = c.args.bytes.now in
    let small : Bytes l = λ j. omega (arith, c.slice_known-1.given j) in
    let w = c.request_commit.ensures in (by_kind l c.args.me c.args.adding false _ _ (c.if-not-adding.true) (
      c.from.ensures ∙ w.value ∙ own_told l small c.requires c.args.me [],
      w.bytes_after ∙ own_left l small c.requires c.args.me [],
    )).0

pub returns-then-not-adding-clause-bytes_after : goal.returns-then-not-adding-clause-bytes_after
returns-then-not-adding-clause-bytes_after c = let l = c.args.bytes.now in
    let small : Bytes l = λ j. omega (arith, c.slice_known-1.given j) in
    let w = c.request_commit.ensures in (by_kind l c.args.me c.args.adding false _ _ (c.if-not-adding.true) (
      c.from.ensures ∙ w.value ∙ own_told l small c.requires c.args.me [],
      w.bytes_after ∙ own_left l small c.requires c.args.me [],
    )).1

pub returns-then-number-ne0-clause-value : goal.returns-then-number-ne0-clause-value
returns-then-number-ne0-clause-value c = let l = c.args.bytes.now in
    let small : Bytes l = λ j. omega (arith, c.slice_known-1.given j) in
    let e = (c.number-number.ensures ∙ c.may_request.ensures.number) in
    let h = c.if-number-ne0.true in (by_kind l c.args.me c.args.adding true _ _ (c.if-not-adding.false) (
      c.refused.ensures ∙ refused_told l small c.requires c.args.me [] _ e h,
      refused_kept l small c.requires c.args.me [] _ e h,
    )).0

pub returns-then-number-ne0-clause-bytes_after : goal.returns-then-number-ne0-clause-bytes_after
returns-then-number-ne0-clause-bytes_after c = let l = c.args.bytes.now in
    let small : Bytes l = λ j. omega (arith, c.slice_known-1.given j) in
    let e = (c.number-number.ensures ∙ c.may_request.ensures.number) in
    let h = c.if-number-ne0.true in (by_kind l c.args.me c.args.adding true _ _ (c.if-not-adding.false) (
      c.refused.ensures ∙ refused_told l small c.requires c.args.me [] _ e h,
      refused_kept l small c.requires c.args.me [] _ e h,
    )).1

pub returns-then-any_past-clause-value : goal.returns-then-any_past-clause-value
returns-then-any_past-clause-value c = let l = c.args.bytes.now in
    let small : Bytes l = λ j. omega (arith, c.slice_known-1.given j) in
    let e = sym (c.number-number.ensures ∙ c.may_request.ensures.number) ∙ c.if-number-ne0.false in
    let p = sym c.any_past.ensures ∙ c.if-any_past.true in (by_kind l c.args.me c.args.adding true _ _ (c.if-not-adding.false) (
      past_told l small c.requires c.args.me [] e p,
      c.abort.ensures.bytes_after ∙ past_left l small c.requires c.args.me [] e p,
    )).0

pub returns-then-any_past-clause-bytes_after : goal.returns-then-any_past-clause-bytes_after
returns-then-any_past-clause-bytes_after c = let l = c.args.bytes.now in
    let small : Bytes l = λ j. omega (arith, c.slice_known-1.given j) in
    let e = sym (c.number-number.ensures ∙ c.may_request.ensures.number) ∙ c.if-number-ne0.false in
    let p = sym c.any_past.ensures ∙ c.if-any_past.true in (by_kind l c.args.me c.args.adding true _ _ (c.if-not-adding.false) (
      past_told l small c.requires c.args.me [] e p,
      c.abort.ensures.bytes_after ∙ past_left l small c.requires c.args.me [] e p,
    )).1

pub returns-clause-value : goal.returns-clause-value
returns-clause-value c = let l = c.args.bytes.now in
    let small : Bytes l = λ j. omega (arith, c.slice_known-1.given j) in
    let e = sym (c.number-number.ensures ∙ c.may_request.ensures.number) ∙ c.if-number-ne0.false in
    let p = sym c.any_past.ensures ∙ c.if-any_past.false in
    let sums = c.sum_all.ensures.bytes_after in
    let w = c.request_commit-2.ensures in (by_kind l c.args.me c.args.adding true _ _ (c.if-not-adding.false) (
      c.from-2.ensures ∙ w.value ∙ summed_told l small c.requires c.args.me [] e p _ sums,
      w.bytes_after ∙ summed_left l small c.requires c.args.me [] e p _ sums,
    )).0

pub returns-clause-bytes_after : goal.returns-clause-bytes_after
returns-clause-bytes_after c = let l = c.args.bytes.now in
    let small : Bytes l = λ j. omega (arith, c.slice_known-1.given j) in
    let e = sym (c.number-number.ensures ∙ c.may_request.ensures.number) ∙ c.if-number-ne0.false in
    let p = sym c.any_past.ensures ∙ c.if-any_past.false in
    let sums = c.sum_all.ensures.bytes_after in
    let w = c.request_commit-2.ensures in (by_kind l c.args.me c.args.adding true _ _ (c.if-not-adding.false) (
      c.from-2.ensures ∙ w.value ∙ summed_told l small c.requires c.args.me [] e p _ sums,
      w.bytes_after ∙ summed_left l small c.requires c.args.me [] e p _ sums,
    )).1
