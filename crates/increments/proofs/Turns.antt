-- One turn of each loop: two calls for an amount, one for a sum, and whether a new value is past the range.
use Rattle.std.proofs.Common.{◌≡◌, ℕ, suc, ◌+◌, ◌^◌, ◌<◌, ◌≤◌, Bool, true, false, not, ◌&&◌, List, [], length, get_or, take, drop, sym, refl, ap, ◌∙◌, subst}
use Rattle.std.proofs.Common.{arith}
use lib.Seq.{slice-cons, slice_empty}
use Rattle.wire.specs.Formed.{every}
use Rattle.coordinator.specs.declared.Object.{Object}
use Rattle.coordinator.specs.declared.Coordinator.{Coordinator}
use Rattle.coordinator.specs.System.{tree}
use Rattle.coordinator.specs.State.{no_object}
use Rattle.coordinator.specs.Calls.{open_of, set_of}
use Rattle.clauses.proofs.Places.{at}
use Rattle.clauses.proofs.Facts.{Meets}
use Rattle.clauses.proofs.Quorums.{tree_quorums}
use Rattle.record.specs.Record.{objects_of, record_of}
use Rattle.record.specs.Call.{kept}
use Rattle.deeds.proofs.Held.{Holds, holds_read, open_holds, set_holds}
use Rattle.increments.specs.Sums.{sum64, past}
use Rattle.increments.specs.Deeds.{ran, deed_of, edit_of, Amount, amounts_of, adding, fits_in}
use Rattle.increments.proofs.Sums.{sum_small}
use Rattle.increments.proofs.Deeds.{adding_last, amounts_next}
use Rattle.increments.proofs.Summed.{sums_to, sum_of, sums_next, sums_partly}

one_more : (i : ℕ) → i + 1 ≡ suc i
one_more i = omega arith

-- what stands at a place of the bytes
pub read_at : (l : List ℕ) (i : ℕ) → at (objects_of l) i ≡ at (record_of l).objects i
unfolding record_of
read_at l i = refl

-- bytes that are others which hold a record
held_as : {k l : List ℕ} {c : Coordinator} → k ≡ l → Holds l c → Holds k c
held_as {k} {l} {c} e h = subst (λ (n : List ℕ). Holds n c) (sym e) h

-- ---- an amount: its object opened, then set
module _ (me : ℕ) (c : Coordinator) (objects grams : List ℕ) (l : List ℕ) (i : ℕ) where
  abbrev pub added_to : ℕ → Coordinator
  added_to n = ran tree c me (adding (amounts_of n objects grams) [])

  abbrev o : ℕ
  o = get_or objects i 0

  module _ (h : Holds l (added_to i)) (opened : List ℕ) (e : opened ≡ kept (open_of (record_of l) me o 1) l) where
    pub add_opened : Holds opened (open_of (added_to i) me o 1).coordinator
    add_opened = held_as e (open_holds me l (added_to i) h o 1 (omega arith))

    pub add_turn : (given : List ℕ) → given ≡ kept (set_of (record_of opened) me o (get_or grams i 0)) opened → i < length objects → get_or grams i 0 < 2 ^ 64
        → Holds given (added_to (i + 1))
    unfolding ran deed_of edit_of
    add_turn given d inside small =
        let next = ap (λ (n : ℕ). adding (amounts_of n objects grams) []) (one_more i)
        ∙ ap (λ (a : List Amount). adding a []) (amounts_next i objects grams inside) ∙ adding_last (amounts_of i objects grams) _ [] in
        subst (Holds given) (sym (ap (ran tree c me) next))
        (held_as d (set_holds me opened _ add_opened o (get_or grams i 0) small))

-- ---- a sum: the object that stands at the place is as it was
module _ (me : ℕ) (c : Coordinator) (m : Meets tree c) (l : List ℕ) (i : ℕ) (inside : i < c.count) (h : Holds l (sums_to tree c me i)) where
  pub sum_found : at (objects_of l) i ≡ at c.objects i
  sum_found =
      read_at l i ∙ ap (λ (d : Coordinator). at d.objects i) (holds_read l (sums_to tree c me i) h)
      ∙ (sums_partly tree tree_quorums c me m i (omega arith)).later i (omega arith)

  pub sum_turn : (x : Object) → x ≡ at c.objects i → (v : ℕ) → v ≡ sum64 x.value x.new → (given : List ℕ)
      → given ≡ kept (set_of (record_of l) me x.object v) l → Holds given (sums_to tree c me (i + 1))
  sum_turn x e v w given d =
      let y = at c.objects i in
      let g : given ≡ kept (set_of (record_of l) me y.object (sum_of y)) l =
      d ∙ ap (λ (n : ℕ). kept (set_of (record_of l) me x.object n) l) w
      ∙ ap (λ (z : Object). kept (set_of (record_of l) me z.object (sum_of z)) l) e in
      subst (Holds given) (sym (ap (sums_to tree c me) (one_more i) ∙ sums_next tree tree_quorums c me m i inside))
      (held_as g (set_holds me l (sums_to tree c me i) h y.object (sum_of y) (sum_small y.value y.new)))

-- ---- whether each new value fits
abbrev pub fits_from : Coordinator → ℕ → ℕ → Bool
fits_from c n i = every fits_in (drop i (take n c.objects))

module _ (c : Coordinator) (n : ℕ) (k : n ≤ length c.objects) where
  module _ (i : ℕ) (h : i < n) (x : Object) (e : x ≡ at c.objects i) (b : Bool) (is : b ≡ past x.value x.new) where
    turn : fits_from c n i ≡ (not b && fits_from c n (suc i))
    turn =
        ap (every fits_in) (slice-cons i n c.objects no_object h k)
        ∙ ap (λ (y : Object). fits_in y && fits_from c n (suc i)) (sym e) ∙ ap (λ (t : Bool). not t && fits_from c n (suc i)) (sym is)

    pub past_stop : b ≡ true → fits_from c n i ≡ false
    past_stop t = turn ∙ ap (λ (y : Bool). not y && fits_from c n (suc i)) t

    pub past_again : b ≡ false → fits_from c n (i + 1) ≡ fits_from c n i
    past_again t = ap (fits_from c n) (one_more i) ∙ sym (turn ∙ ap (λ (y : Bool). not y && fits_from c n (suc i)) t)

  pub past_end : (i : ℕ) → i ≡ n → fits_from c n i ≡ true
  past_end i e = ap (fits_from c n) e ∙ ap (every fits_in) (slice_empty n c.objects)
