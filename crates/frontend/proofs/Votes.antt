-- Votes asked for, on the bytes of a record: on a batch the sums come first, and leave the number and the answer as they were.
use mathlib.Core.Path.{◌≡◌, refl, ap, ◌∙◌}
use mathlib.Core.Bool.{Bool, true, false}
use mathlib.Core.List.{List, [], ◌∷◌}
use Prim.Native.Nat.{ℕ}
use lib.Dec.{eqb}
use borrow.Author.Tests.{eq-eqb, ne_eqb}
use Rattle.octets.proofs.Laws.{Bytes}
use Rattle.coordinator.specs.declared.Coordinator.{Coordinator}
use Rattle.coordinator.specs.System.{tree}
use Rattle.coordinator.specs.Calls.{request_commit_of, abort_of}
use Rattle.clauses.proofs.Quorums.{tree_quorums}
use Rattle.increments.specs.Deeds.{Deed, asks, deed_of, ran, in_use, summing, any_past}
use Rattle.increments.proofs.Deeds.{ran_meets, summing_typed}
use Rattle.increments.proofs.Laws.{summed_number}
use Rattle.record.specs.Record.{record_of, bytes_of, check}
use Rattle.record.specs.Call.{called, kept}
use Rattle.record.specs.Call.{told_by as toldByStep}
use Rattle.record.proofs.Kept.{checked_meets, checked_fits, same_bytes}
use Rattle.deeds.proofs.Held.{Holds, checked_holds, holds_read, request_holds, abort_holds}
use Rattle.settings.specs.Settings.{adds}
use Rattle.frontend.specs.Plan.{request, request_by, plan, told_by, left_by}
use Rattle.frontend.specs.Plan.{lent_number, front_told, front_record}
use Rattle.frontend.proofs.First.{request_first, plan_told, plan_record}
use Rattle.frontend.proofs.Deed.{step_told, deed_left, refused_left}

module _ (l : List ℕ) (small : Bytes l) (checked : check l ≡ 0) (me : ℕ) (s : List ℕ) where
  abbrev c : Coordinator
  c = record_of l

  -- ---- the host's own transaction
  pub own_told : toldByStep (request_commit_of tree c me) ≡ told_by (request_by false tree c s me)
  unfolding request_commit_of
  own_told = step_told _ _ _ _ (asks ∷ []) s s

  pub own_left : kept (request_commit_of tree c me) l ≡ left_by (request_by false tree c s me) l me
  unfolding deed_of
  own_left = deed_left l (same_bytes l small checked) me asks _ s s

  -- ---- a batch that the record refuses
  module _ (k : ℕ) (e : k ≡ (request_commit_of tree c me).number) (h : k ≡ 0 → ⊥) where
    pub refused_told : called k 0 ≡ told_by (request_by true tree c s me)
    refused_told = ap (λ (n : ℕ). called n 0) e ∙ simp (ne_eqb (request_commit_of tree c me).number 0 (λ z. h (e ∙ z)))

    pub refused_kept : l ≡ left_by (request_by true tree c s me) l me
    refused_kept =
        let t : eqb (request_commit_of tree c me).number 0 ≡ false = ne_eqb (request_commit_of tree c me).number 0 (λ z. h (e ∙ z)) in
        simp t (refused_left l (same_bytes l small checked) me k s)

  -- ---- a batch with a value past the range
  module _ (e : (request_commit_of tree c me).number ≡ 0) (p : any_past c ≡ true) where
    pub past_told : called 9 2 ≡ told_by (request_by true tree c s me)
    past_told = simp (eq-eqb (request_commit_of tree c me).number 0 e, p)

    pub past_left : kept (abort_of c me) l ≡ left_by (request_by true tree c s me) l me
    unfolding ran deed_of
    past_left = simp (eq-eqb (request_commit_of tree c me).number 0 e, p) (abort_holds me l c (checked_holds l small checked)).bytes

  -- ---- a batch whose sums are within it
  module _ (e : (request_commit_of tree c me).number ≡ 0) (p : any_past c ≡ false) (m : List ℕ)
      (sums : m ≡ bytes_of (ran tree c me (summing (in_use c) []))) where
    abbrev d : Coordinator
    d = ran tree c me (summing (in_use c) [])

    held : Holds m d
    held =
        let k = ran_meets c me (summing (in_use c) []) (checked_meets l checked) (checked_fits l small checked) (summing_typed (in_use c) [] tt) in
        record { bytes = sums; meets = k.0; fits = k.1 }

    pub summed_told : toldByStep (request_commit_of tree (record_of m) me) ≡ told_by (request_by true tree c s me)
    summed_told =
        let k = summed_number tree tree_quorums c me (checked_meets l checked) e in
        ap (λ (x : Coordinator). toldByStep (request_commit_of tree x me)) (holds_read m d held)
        ∙ simp (k.0, k.1, eq-eqb (request_commit_of tree c me).number 0 e, p)

    pub summed_left : kept (request_commit_of tree (record_of m) me) m ≡ left_by (request_by true tree c s me) l me
    unfolding ran deed_of
    summed_left = simp (eq-eqb (request_commit_of tree c me).number 0 e, p) (request_holds me m d held).bytes

-- ---- by the kind that the settings say; what is told and left does not hang on them
module _ (c : Coordinator) (s' s : List ℕ) (me : ℕ) where
  abbrev n : ℕ
  n = (request_commit_of tree c me).number

  same_told : (t : Bool) → told_by (request_by t tree c s' me) ≡ told_by (request_by t tree c s me)
  same_told t = by t (eqb n 0) (any_past c) refl refl
    where
      by : (b z p : Bool) → eqb n 0 ≡ z → any_past c ≡ p → told_by (request_by b tree c s' me) ≡ told_by (request_by b tree c s me)
      by false true p e f = simp e
      by false false p e f = simp e
      by true true true e f = simp (e, f)
      by true true false e f = simp (e, f)
      by true false p e f = simp e

  same_deeds : (t : Bool) → (request_by t tree c s' me).deeds ≡ (request_by t tree c s me).deeds
  same_deeds t = by t (eqb n 0) (any_past c) refl refl
    where
      by : (b z p : Bool) → eqb n 0 ≡ z → any_past c ≡ p → (request_by b tree c s' me).deeds ≡ (request_by b tree c s me).deeds
      by false true p e f = simp e
      by false false p e f = simp e
      by true true true e f = simp (e, f)
      by true true false e f = simp (e, f)
      by true false p e f = simp e

module _ (l s : List ℕ) (me : ℕ) (fine : lent_number l s ≡ 0) (t : Bool) (e : t ≡ adds s) where
  pub votes_told : told_by (request_by t tree (record_of l) [] me) ≡ front_told l s me request
  unfolding plan
  votes_told =
      same_told (record_of l) [] s me t ∙ ap (λ (b : Bool). told_by (request_by b tree (record_of l) s me)) e
      ∙ plan_told l s me request (request_first l s ∙ fine)

  pub votes_record : left_by (request_by t tree (record_of l) [] me) l me ≡ front_record l s me request
  unfolding plan
  votes_record =
      ap (λ (ds : List Deed). bytes_of (ran tree (record_of l) me ds)) (same_deeds (record_of l) [] s me t)
      ∙ ap (λ (b : Bool). left_by (request_by b tree (record_of l) s me) l me) e
      ∙ plan_record l s me request (request_first l s ∙ fine)
