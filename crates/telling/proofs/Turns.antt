-- The loop over a record's objects, and the kinds that tell nothing.
use mathlib.Core.Path.{◌≡◌, refl, sym, ap, ◌∙◌}
use mathlib.Core.Bool.{Bool}
use mathlib.Core.List.{List, [], ◌∷◌}
use Prim.Native.Nat.{ℕ, zero, suc, ◌+◌, ◌*◌, ◌<◌, ◌≤◌, min}
use native.Mathlib.Omega.{arith}
use types.Run.{OneOf, miss}
use denote.Enum.Declared.{tag_of}
use lib.ListN.{length, get_or, take, drop}
use lib.Seq.{slice-cons, slice_empty, take_all}
use mathlib.Core.Logic.{◌⊎◌, inl, inr, ⊎_elim}
use Rattle.numbers.specs.Sizes.{most_open}
use Rattle.coordinator.specs.declared.Object.{Object}
use Rattle.coordinator.specs.declared.Coordinator.{Coordinator}
use Rattle.coordinator.specs.State.{no_object, idle_after, blank_record}
use Rattle.settings.specs.Settings.{blank_settings, kind_in}
use Rattle.parts.proofs.Laws.{get_d_part}
use Rattle.service_calls.specs.Lent.{settings_at}
use Rattle.clauses.proofs.Places.{at}
use Rattle.wire.proofs.Accepted.{length_items}
use Rattle.record.specs.Layout.{object_size}
use Rattle.record.specs.Record.{object_of, objects_of, record_of}
use Rattle.orders.specs.contracts.Kind.{the_type}
use Rattle.orders.specs.declared.Kind.{Kind}
use Rattle.orders.specs.declared.Kind.TheVariants.{Begin, Batch, OpenRead, OpenWrite, SetValue, Found, Reselect, RequestCommit, Abort}
use Rattle.orders.specs.declared.Kind.TheVariants.{LoadHours, LoadClasses, Send, Deliver, Drop, Switch}
use Rattle.telling.specs.Telling.{object_told, objects_told, told_of}

-- ---- a record read from bytes has eight places for objects, and what is read from a place is what stands there
pub eight : (l : List ℕ) → length (record_of l).objects ≡ most_open
unfolding record_of objects_of
eight l = length_items object_of object_size l most_open _

pub read_at : (l : List ℕ) (i : ℕ) → at (objects_of l) i ≡ at (record_of l).objects i
unfolding record_of
read_at l i = refl

-- ---- the objects from place i on, of the first n
abbrev pub told_from : Bool → ℕ → List Object → ℕ → ℕ → List ℕ → List ℕ
told_from opens me l n i sheet = objects_told opens me (drop i (take n l)) sheet

module _ (opens : Bool) (me : ℕ) (l : List Object) (n : ℕ) (k : n ≤ length l) where
  pub tell_again : (i : ℕ) → i < n → (x : Object) → x ≡ at l i → (sheet : List ℕ)
      → told_from opens me l n (i + 1) (object_told opens me x sheet) ≡ told_from opens me l n i sheet
  unfolding objects_told
  tell_again i h x e sheet =
      let one : i + 1 ≡ suc i = omega arith in
      ap (λ (j : ℕ). told_from opens me l n j (object_told opens me x sheet)) one
      ∙ ap (λ (y : Object). told_from opens me l n (suc i) (object_told opens me y sheet)) e
      ∙ sym (ap (λ (m : List Object). objects_told opens me m sheet) (slice-cons i n l no_object h k))

  pub tell_end : (i : ℕ) → i ≡ n → (sheet : List ℕ) → told_from opens me l n i sheet ≡ sheet
  unfolding objects_told
  tell_end i e sheet =
      ap (λ (j : ℕ). told_from opens me l n j sheet) e ∙ ap (λ (m : List Object). objects_told opens me m sheet) (slice_empty n l)

-- no more places than there are
pub take_few : {A : Type 0} (n k : ℕ) (l : List A) → length l ≡ k → take (min n k) l ≡ take n l
take_few n k l e = ⊎_elim
    (λ (h : n ≤ k). ap (λ (m : ℕ). take m l) (let z : min n k ≡ n = omega arith in z))
    (λ (h : k ≤ n). ap (λ (m : ℕ). take m l) (let z : min n k ≡ k = omega arith in z)
    ∙ take_all k l (omega (arith, e)) ∙ sym (take_all n l (omega (arith, e, h)))) (either n k)
  where
    either : (a b : ℕ) → (a ≤ b) ⊎ (b ≤ a)
    either zero b = inl (omega arith)
    either (suc a) zero = inr (omega arith)
    either (suc a) (suc b) = ⊎_elim (λ (h : a ≤ b). inl (omega arith)) (λ (h : b ≤ a). inr (omega arith)) (either a b)

-- ---- the kinds that tell nothing. Tags: Begin 0, Batch 1, OpenRead 2, OpenWrite 3, SetValue 4, Found 5, Reselect 6, RequestCommit 7, Abort 8, LoadHours 9,
-- LoadClasses 10, Send 11, Deliver 12, Drop 13, Switch 14
abbrev other_keys : List ℕ
other_keys = 0 ∷ 2 ∷ 3 ∷ 4 ∷ 5 ∷ 6 ∷ 8 ∷ 9 ∷ 10 ∷ 11 ∷ 12 ∷ 13 ∷ 14 ∷ []

pub other_key : (k : Kind) → OneOf other_keys (tag_of the_type k) → (c : Coordinator) (s : List ℕ) (n : ℕ) (sheet : List ℕ) → told_of k c s n sheet ≡ sheet
unfolding told_of
other_key Begin h c s n sheet = refl
other_key Batch h c s n sheet = absurd (miss other_keys 1 tt h)
other_key OpenRead h c s n sheet = refl
other_key OpenWrite h c s n sheet = refl
other_key SetValue h c s n sheet = refl
other_key Found h c s n sheet = refl
other_key Reselect h c s n sheet = refl
other_key RequestCommit h c s n sheet = absurd (miss other_keys 7 tt h)
other_key Abort h c s n sheet = refl
other_key LoadHours h c s n sheet = refl
other_key LoadClasses h c s n sheet = refl
other_key Send h c s n sheet = refl
other_key Deliver h c s n sheet = refl
other_key Drop h c s n sheet = refl
other_key Switch h c s n sheet = refl

-- ---- what is no node has a blank record and blank settings: nothing is told
pub nobody_tells : (k : Kind) (n : ℕ) (sheet : List ℕ) → told_of k blank_record blank_settings n sheet ≡ sheet
unfolding told_of objects_told idle_after
nobody_tells Begin n sheet = refl
nobody_tells Batch n sheet = refl
nobody_tells OpenRead n sheet = refl
nobody_tells OpenWrite n sheet = refl
nobody_tells SetValue n sheet = refl
nobody_tells Found n sheet = refl
nobody_tells Reselect n sheet = refl
nobody_tells RequestCommit n sheet = refl
nobody_tells Abort n sheet = refl
nobody_tells LoadHours n sheet = refl
nobody_tells LoadClasses n sheet = refl
nobody_tells Send n sheet = refl
nobody_tells Deliver n sheet = refl
nobody_tells Drop n sheet = refl
nobody_tells Switch n sheet = refl

-- ---- where the kind of a node's last transaction stands in the settings
pub kind_at : (l : List ℕ) (n : ℕ) → kind_in (settings_at l n) ≡ get_or l (228 * n + 211) 0
unfolding settings_at
kind_at l n = get_d_part 228 (228 * n) l 211 (omega arith)
