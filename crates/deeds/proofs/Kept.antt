-- Every call of the host leaves a record where it found one: the clauses and the widths are kept by value, and both round trips carry them to the bytes.
use mathlib.Core.Path.{◌≡◌, refl, sym, ap, ◌∙◌, subst}
use mathlib.Core.List.{List}
use Prim.Native.Nat.{ℕ, ◌^◌, ◌<◌}
use lib.Dec.{eqb}
use lib.ListN.{length}
use borrow.Author.Tests.{eqb-true}
use Rattle.numbers.specs.Sizes.{nodes}
use Rattle.octets.proofs.Laws.{Bytes}
use Rattle.coordinator.specs.declared.Coordinator.{Coordinator}
use Rattle.coordinator.specs.declared.BeginWith.{BeginWith}
use Rattle.coordinator.specs.System.{tree}
use Rattle.coordinator.specs.Calls.{begin_of, open_of, set_of, found_of, reselect_of, request_commit_of, abort_of}
use Rattle.coordinator.proofs.Theorems.{found_leaves}
use Rattle.clauses.proofs.Parts.{on_cond}
use Rattle.clauses.proofs.Facts.{Meets}
use Rattle.clauses.proofs.Quorums.{tree_quorums}
use Rattle.clauses.proofs.Keep.{begin_keeps, open_keeps, set_keeps, reselect_keeps, abort_keeps, request_keeps}
use Rattle.clauses.proofs.Fits.{AllBelow, Fits}
use Rattle.clauses.proofs.Fits.{begin_fits, open_fits, set_fits, reselect_fits, request_fits, abort_fits}
use Rattle.record.specs.Record.{record_of, bytes_of, check}
use Rattle.record.specs.Call.{kept, record_after}
use Rattle.record.proofs.Stored.{readable}
use Rattle.record.proofs.Kept.{same_bytes, Keeps}

module _ (me : ℕ) where
  pub begin_kept : (w : BeginWith) → length w.distances ≡ nodes → w.timestamp < 2 ^ 32 → AllBelow (2 ^ 16) w.distances
      → Keeps (λ (c : Coordinator). begin_of tree c me w)
  begin_kept w n t d c m f = (begin_keeps tree tree_quorums c me m w n, begin_fits tree tree_quorums c me m f w n t d)

  pub open_kept : (object mode : ℕ) → mode < 2 → Keeps (λ (c : Coordinator). open_of c me object mode)
  open_kept object mode h c m f =
      (open_keeps tree tree_quorums c me m object mode h, open_fits tree tree_quorums c me m f object mode h)

  pub set_kept : (object value : ℕ) → value < 2 ^ 64 → Keeps (λ (c : Coordinator). set_of c me object value)
  set_kept object value h c m f =
      (set_keeps tree tree_quorums c me m object value, set_fits tree tree_quorums c me m f object value h)

  pub found_kept : (object : ℕ) → Keeps (λ (c : Coordinator). found_of tree c me object)
  found_kept object c m f =
      subst (λ (d : Coordinator). Meets tree d × Fits d) (sym (found_leaves tree c me object)) (m, f)

  pub reselect_kept : (live : ℕ) (distances : List ℕ) → length distances ≡ nodes → AllBelow (2 ^ 16) distances
      → Keeps (λ (c : Coordinator). reselect_of tree c me live distances)
  reselect_kept live distances n d c m f =
      (reselect_keeps tree tree_quorums c me m live distances n, reselect_fits tree tree_quorums c me m f live distances n d)

  pub request_kept : Keeps (λ (c : Coordinator). request_commit_of tree c me)
  request_kept c m f = (request_keeps tree tree_quorums c me m, request_fits tree tree_quorums c me m f)

  pub abort_kept : Keeps (λ (c : Coordinator). abort_of c me)
  abort_kept c m f = (abort_keeps tree c m me, abort_fits tree tree_quorums c me m f)

-- ---- found leaves every byte
pub found_bytes : (me object : ℕ) (l : List ℕ) → Bytes l → record_after (λ (c : Coordinator). found_of tree c me object) l ≡ l
unfolding record_after kept
found_bytes me object l b =
    on_cond (λ (x : List ℕ). x ≡ l) (eqb (check l) 0) (kept (found_of tree (record_of l) me object) l) l
    (λ t.
    on_cond (λ (x : List ℕ). x ≡ l) (eqb (found_of tree (record_of l) me object).number 0) (bytes_of (found_of tree (record_of l) me object).coordinator) l
    (λ z. ap bytes_of (found_leaves tree (record_of l) me object) ∙ same_bytes l b (eqb-true (check l) 0 t)) (λ z. refl))
    (λ t. refl)

-- what a checked record has: its length, and few objects
pub ruleset few = (readable)
