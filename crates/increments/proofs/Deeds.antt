-- Lists of deeds: one after the other, and that they leave a record where they found one.
use Rattle.std.proofs.Common.{◌≡◌, ℕ, zero, suc, ◌^◌, ◌<◌, List, [], ◌∷◌, ◌++◌, length, get_or, sym, refl, ap, ◌∙◌, append_assoc, arith}
use Rattle.numbers.specs.Sizes.{nodes}
use Rattle.coordinator.specs.declared.Object.{Object}
use Rattle.coordinator.specs.declared.Coordinator.{Coordinator}
use Rattle.coordinator.specs.System.{System, tree}
use Rattle.clauses.proofs.Facts.{Meets}
use Rattle.clauses.proofs.Fits.{AllBelow, Fits}
use Rattle.deeds.proofs.Kept.{begin_kept, open_kept, set_kept, request_kept, abort_kept}
use Rattle.increments.specs.Sums.{sum64}
use Rattle.increments.specs.Deeds.{Edit, reads, writes, values, Deed, begins, edits, asks, aborts, edit_of, deed_of, ran}
use Rattle.increments.specs.Deeds.{Amount, amounts, amounts_of, adding, summing}
use Rattle.increments.proofs.Sums.{sum_small}

-- ---- one after the other
pub ran_append : (s : System) (c : Coordinator) (me : ℕ) (a b : List Deed) → ran s c me (a ++ b) ≡ ran s (ran s c me b) me a
unfolding ran
ran_append s c me [] b = refl
ran_append s c me (d ∷ a) b = ap (λ (x : Coordinator). (deed_of s x me d).coordinator) (ran_append s c me a b)

-- an amount's two deeds, and a sum's one
abbrev pub added : Amount → List Deed → List Deed
added a ds = edits (values a.object a.grams) ∷ edits (writes a.object) ∷ ds

abbrev pub summed : Object → List Deed → List Deed
summed x ds = edits (values x.object (sum64 x.value x.new)) ∷ ds

pub adding_append : (l : List Amount) (ds : List Deed) → adding l ds ≡ adding l [] ++ ds
unfolding adding
adding_append [] ds = refl
adding_append (a ∷ l) ds =
    adding_append l (added a ds) ∙ sym (append_assoc (adding l []) (added a []) ds)
    ∙ ap (λ (m : List Deed). m ++ ds) (sym (adding_append l (added a [])))

pub summing_append : (l : List Object) (ds : List Deed) → summing l ds ≡ summing l [] ++ ds
unfolding summing
summing_append [] ds = refl
summing_append (x ∷ l) ds =
    summing_append l (summed x ds) ∙ sym (append_assoc (summing l []) (summed x []) ds)
    ∙ ap (λ (m : List Deed). m ++ ds) (sym (summing_append l (summed x [])))

-- so the deeds of a batch are a begin's, then those of the amounts
module _ (s : System) (c : Coordinator) (me : ℕ) where
  pub ran_adding : (l : List Amount) (ds : List Deed) → ran s c me (adding l ds) ≡ ran s (ran s c me ds) me (adding l [])
  ran_adding l ds = ap (ran s c me) (adding_append l ds) ∙ ran_append s c me (adding l []) ds

  pub ran_summing : (l : List Object) (ds : List Deed) → ran s c me (summing l ds) ≡ ran s (ran s c me ds) me (summing l [])
  ran_summing l ds = ap (ran s c me) (summing_append l ds) ∙ ran_append s c me (summing l []) ds

-- the last of a list is done last
pub adding_last : (l : List Amount) (a : Amount) (ds : List Deed) → adding (l ++ (a ∷ [])) ds ≡ added a (adding l ds)
unfolding adding
adding_last [] a ds = refl
adding_last (b ∷ l) a ds = adding_last l a (added b ds)

pub summing_last : (l : List Object) (x : Object) (ds : List Deed) → summing (l ++ (x ∷ [])) ds ≡ summed x (summing l ds)
unfolding summing
summing_last [] x ds = refl
summing_last (y ∷ l) x ds = summing_last l x (summed y ds)

-- one amount more
pub amounts_next : (n : ℕ) (objects grams : List ℕ) → n < length objects
    → amounts_of (suc n) objects grams ≡ amounts_of n objects grams ++ (record { object = get_or objects n 0; grams = get_or grams n 0 } ∷ [])
unfolding amounts
amounts_next n [] grams h = absurd (let z : ⊥ = omega arith in z)
amounts_next zero (t ∷ l) [] h = refl
amounts_next zero (t ∷ l) (g ∷ grams) h = refl
amounts_next (suc n) (t ∷ l) [] h = ap (λ (m : List Amount). record { object = t; grams = 0 } ∷ m) (amounts_next n l [] (omega arith))
amounts_next (suc n) (t ∷ l) (g ∷ grams) h = ap (λ (m : List Amount). record { object = t; grams = g } ∷ m) (amounts_next n l grams (omega arith))

-- ---- what deeds leave of a record that meets the clauses and fits its widths, does so too
abbrev pub TypedEdit : Edit → Type 0
TypedEdit (reads t) = Unit {0}
TypedEdit (writes t) = Unit {0}
TypedEdit (values t v) = v < 2 ^ 64

abbrev pub Typed : Deed → Type 0
Typed (begins w) = (length w.distances ≡ nodes) × ((w.timestamp < 2 ^ 32) × AllBelow (2 ^ 16) w.distances)
Typed (edits e) = TypedEdit e
Typed asks = Unit {0}
Typed aborts = Unit {0}

abbrev pub AllTyped : List Deed → Type 0
AllTyped [] = Unit {0}
AllTyped (d ∷ ds) = Typed d × AllTyped ds

abbrev pub Sound : Coordinator → Type 0
Sound c = Meets tree c × Fits c

edit_meets : (c : Coordinator) (me : ℕ) (e : Edit) → Sound c → TypedEdit e → Sound (edit_of c me e).coordinator
unfolding edit_of
edit_meets c me (reads t) h k = open_kept me t 0 (omega arith) c h.0 h.1
edit_meets c me (writes t) h k = open_kept me t 1 (omega arith) c h.0 h.1
edit_meets c me (values t v) h k = set_kept me t v k c h.0 h.1

deed_meets : (c : Coordinator) (me : ℕ) (d : Deed) → Sound c → Typed d → Sound (deed_of tree c me d).coordinator
unfolding deed_of
deed_meets c me (begins w) h k = begin_kept me w k.0 k.1.0 k.1.1 c h.0 h.1
deed_meets c me (edits e) h k = edit_meets c me e h k
deed_meets c me asks h k = request_kept me c h.0 h.1
deed_meets c me aborts h k = abort_kept me c h.0 h.1

pub ran_meets : (c : Coordinator) (me : ℕ) (ds : List Deed) → Meets tree c → Fits c → AllTyped ds → Meets tree (ran tree c me ds) × Fits (ran tree c me ds)
unfolding ran
ran_meets c me [] m f h = (m, f)
ran_meets c me (d ∷ ds) m f h = deed_meets (ran tree c me ds) me d (ran_meets c me ds m f h.1) h.0

-- the arguments of amounts that fit are typed, and those of sums always
abbrev pub AllFit : List Amount → Type 0
AllFit [] = Unit {0}
AllFit (a ∷ l) = (a.grams < 2 ^ 64) × AllFit l

pub adding_typed : (l : List Amount) (ds : List Deed) → AllFit l → AllTyped ds → AllTyped (adding l ds)
unfolding adding
adding_typed [] ds f h = h
adding_typed (a ∷ l) ds f h = adding_typed l (added a ds) f.1 (f.0, (tt, h))

pub summing_typed : (l : List Object) (ds : List Deed) → AllTyped ds → AllTyped (summing l ds)
unfolding summing
summing_typed [] ds h = h
summing_typed (x ∷ l) ds h = summing_typed l (summed x ds) (sum_small x.value x.new, h)
