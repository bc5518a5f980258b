-- What a deed leaves of bytes that are a record: the bytes of the record that the step by value leaves, and a record again.
use mathlib.Core.Path.{◌≡◌, refl, sym, ap, ◌∙◌, subst}
use mathlib.Core.List.{List}
use Prim.Native.Nat.{ℕ, ◌^◌, ◌<◌}
use lib.Dec.{eqb}
use lib.ListN.{length}
use borrow.Author.Tests.{eqb-false}
use Rattle.numbers.specs.Sizes.{nodes}
use Rattle.octets.proofs.Laws.{Bytes}
use Rattle.coordinator.specs.declared.Coordinator.{Coordinator}
use Rattle.coordinator.specs.declared.BeginWith.{BeginWith}
use Rattle.coordinator.specs.Step.{Step}
use Rattle.coordinator.specs.System.{tree}
use Rattle.coordinator.specs.State.{step_of}
use Rattle.coordinator.specs.Calls.{begin_of, open_of, set_of, request_commit_of, abort_of}
use Rattle.coordinator.proofs.Theorems.{refused_leaves}
use Rattle.clauses.proofs.Parts.{on_cond}
use Rattle.clauses.proofs.Facts.{Meets}
use Rattle.clauses.proofs.Fits.{AllBelow, Fits}
use Rattle.record.specs.Record.{record_of, bytes_of, check}
use Rattle.record.specs.Call.{kept}
use Rattle.record.proofs.RoundTrip.{record_bytes}
use Rattle.record.proofs.Kept.{Keeps, checked_meets, checked_fits, same_bytes, bytes_checked}
use Rattle.deeds.proofs.Number.{step_number}
use Rattle.deeds.proofs.Kept.{begin_kept, open_kept, set_kept, request_kept, abort_kept}

-- the bytes of a record that meets the clauses and fits its widths
pub record Holds (l : List ℕ) (c : Coordinator) : Type 0 where
  pub bytes : l ≡ bytes_of c
  pub meets : Meets tree c
  pub fits : Fits c

-- bytes whose check passed are such, and such bytes pass it
pub checked_holds : (l : List ℕ) → Bytes l → check l ≡ 0 → Holds l (record_of l)
checked_holds l b e = record { bytes = sym (same_bytes l b e); meets = checked_meets l e; fits = checked_fits l b e }

module _ (l : List ℕ) (c : Coordinator) (h : Holds l c) where
  pub holds_checked : check l ≡ 0
  holds_checked = ap check h.bytes ∙ bytes_checked c h.meets h.fits

  pub holds_read : record_of l ≡ c
  holds_read = ap record_of h.bytes ∙ record_bytes c h.fits

-- ---- a step that leaves the record where it is refused
abbrev Refuses : (Coordinator → Step) → Type 0
Refuses f = (c : Coordinator) → ((f c).number ≡ 0 → ⊥) → (f c).coordinator ≡ c

step_refuses : (n a : ℕ) (c d : Coordinator) → ((step_of n a c d).number ≡ 0 → ⊥) → (step_of n a c d).coordinator ≡ c
step_refuses n a c d h = refused_leaves n a c d (λ e. h (sym (step_number n a c d) ∙ e))

-- leaves the bytes of what it leaves by value
module _ (f : Coordinator → Step) (k : Keeps f) (r : Refuses f) (l : List ℕ) (c : Coordinator) (h : Holds l c) where
  step_holds : Holds (kept (f c) l) (f c).coordinator
  unfolding kept
  step_holds =
      let g = k c h.meets h.fits in
      let s : Step = f c in
      let same : kept s l ≡ bytes_of s.coordinator =
      on_cond (λ (x : List ℕ). x ≡ bytes_of s.coordinator) (eqb s.number 0) (bytes_of s.coordinator) l (λ e. refl)
      (λ e. h.bytes ∙ ap bytes_of (sym (r c (eqb-false s.number 0 e)))) in
      record { bytes = same; meets = g.0; fits = g.1 }

  left_holds : Holds (kept (f (record_of l)) l) (f c).coordinator
  left_holds = subst (λ (d : Coordinator). Holds (kept (f d) l) (f c).coordinator) (sym (holds_read l c h)) step_holds

-- ---- the deeds
module _ (me : ℕ) (l : List ℕ) (c : Coordinator) (h : Holds l c) where
  pub begin_holds : (w : BeginWith) → length w.distances ≡ nodes → w.timestamp < 2 ^ 32 → AllBelow (2 ^ 16) w.distances
      → Holds (kept (begin_of tree (record_of l) me w) l) (begin_of tree c me w).coordinator
  unfolding begin_of
  begin_holds w n t d =
      left_holds (λ (x : Coordinator). begin_of tree x me w) (begin_kept me w n t d) (λ x. step_refuses _ _ x _) l c h

  pub open_holds : (object mode : ℕ) → mode < 2 → Holds (kept (open_of (record_of l) me object mode) l) (open_of c me object mode).coordinator
  unfolding open_of
  open_holds object mode m =
      left_holds (λ (x : Coordinator). open_of x me object mode) (open_kept me object mode m) (λ x. step_refuses _ _ x _) l c h

  pub set_holds : (object value : ℕ) → value < 2 ^ 64 → Holds (kept (set_of (record_of l) me object value) l) (set_of c me object value).coordinator
  unfolding set_of
  set_holds object value v =
      left_holds (λ (x : Coordinator). set_of x me object value) (set_kept me object value v) (λ x. step_refuses _ _ x _) l c h

  pub request_holds : Holds (kept (request_commit_of tree (record_of l) me) l) (request_commit_of tree c me).coordinator
  unfolding request_commit_of
  request_holds = left_holds (λ (x : Coordinator). request_commit_of tree x me) (request_kept me) (λ x. step_refuses _ _ x _) l c h

  pub abort_holds : Holds (kept (abort_of (record_of l) me) l) (abort_of c me).coordinator
  unfolding abort_of
  abort_holds = left_holds (λ (x : Coordinator). abort_of x me) (abort_kept me) (λ x. step_refuses _ _ x _) l c h
