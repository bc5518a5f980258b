-- The amounts that a batch tells are its classes' grams: the tallies of a table that loading accepts are some and stand once, so each is opened behind those
-- before it and given its grams (crate increments), and what is told of an open transaction is what its record has (crate history).
use mathlib.Core.Path.{◌≡◌, refl, sym, ap, subst, ◌∙◌}
use mathlib.Core.Bool.{Bool, true, false, ◌&&◌, ◌||◌}
use mathlib.Core.List.{List, [], ◌∷◌, ◌++◌}
use Prim.Native.Nat.{ℕ, zero, suc, ◌+◌, ◌<◌, ◌≤◌}
use native.Mathlib.Omega.{arith}
use lib.Dec.{eqb, ltb}
use lib.ListN.{length, get_or}
use borrow.Author.Tests.{eqb-true, eq-eqb, ltb-true}
use Rattle.numbers.specs.Sizes.{nodes, objects, most_open}
use Rattle.mask.specs.Mask.{contains}
use Rattle.wire.proofs.Accepted.{length_items}
use Rattle.classes.specs.Classes.{tally_count, bound_count, tally_at, tallies, strange, has, repeated, twice, table_number, no_table, sound}
use Rattle.classes.proofs.Table.{accepted, accepted_bounded, neither}
use Rattle.clauses.proofs.Facts.{Meets}
use Rattle.clauses.proofs.Quorums.{Quorums}
use Rattle.clauses.proofs.Keep.{begin_keeps}
use Rattle.clauses.proofs.Parts.{neither_left}
use Rattle.coordinator.specs.declared.Object.{Object}
use Rattle.coordinator.specs.declared.Coordinator.{Coordinator}
use Rattle.coordinator.specs.declared.BeginWith.{BeginWith}
use Rattle.coordinator.specs.System.{System}
use Rattle.coordinator.specs.State.{open_phase, object_at}
use Rattle.coordinator.specs.Calls.{no_node, too_wide, begin_refusals, begun, begin_of}
use Rattle.coordinator.proofs.Refusals.{clear}
use Rattle.coordinator.proofs.Theorems.{taken_after}
use Rattle.deeds.proofs.Number.{step_number}
use Rattle.increments.specs.Deeds.{Deed, begins, deed_of, ran, Amount, amounts, adding}
use Rattle.increments.proofs.Deeds.{ran_adding}
use Rattle.increments.proofs.Added.{amount_at, added_count, added_object, added_meets, amounts_length, amounts_at}
use Rattle.steps.specs.Station.{Station, system}
use Rattle.steps.specs.Step.{Call as Step}
use Rattle.history.specs.Ledger.{Ledger, current}
use Rattle.history.specs.Origin.{Origin as Machine, Rested as MachineRested}
use Rattle.history.specs.Claims.{reached as machineReached, told as machineTold, AllTyped as AllStepsTyped}
use Rattle.history.proofs.Tests.{no_both, not-false}
use Rattle.history.proofs.Sim.{tx}
use Rattle.history.proofs.Objects.{listed_of, stands_at}
use Rattle.history.proofs.Claimed.{always_good}
use Rattle.service.specs.Service.{steps_at}
use Rattle.service.proofs.Laws.{put_here, after_at, after_append}
use Rattle.protocol.proofs.Tables.{on}
use Rattle.accounts.proofs.Follows.{edit_open}
use Rattle.accounts.proofs.Plans.{adding_keeps}
use Rattle.accounts.proofs.Facts.{begun_open}
use Rattle.accounts.proofs.Typed.{every_at}

-- ---- a table with a class is one that loading accepts
pub has_table : (k : List ℕ) (i : ℕ) → sound k ≡ true → i < tally_count k → table_number false k ≡ 0
unfolding sound no_table
has_table k i e h = by (eqb (bound_count k) 0) (eqb (tally_count k) 0) (eqb (table_number false k) 0) refl refl e
  where
    by : (a b t : Bool) → eqb (tally_count k) 0 ≡ b → eqb (table_number false k) 0 ≡ t → (a && b || t) ≡ true → table_number false k ≡ 0
    by a b true p q f = eqb-true (table_number false k) 0 q
    by true true false p q f = absurd (let y = eqb-true (tally_count k) 0 p in let z : ⊥ = omega (arith, y, h) in z)
    by true false false p q f = absurd (no_both f refl)
    by false b false p q f = absurd (no_both f refl)

-- ---- its tallies are some, and stand once
abbrev Apart : List ℕ → Type 0
Apart l = (i j : ℕ) → i < length l → j < length l → get_or l i 0 ≡ get_or l j 0 → i ≡ j

not_among : (t : ℕ) (l : List ℕ) → has t l ≡ false → (j : ℕ) → j < length l → get_or l j 0 ≡ t → ⊥
unfolding has
not_among t [] e j h q = omega (arith, h)
not_among t (u ∷ l) e zero h q = no_both (eq-eqb u t q) (neither (eqb u t) (has t l) e).0
not_among t (u ∷ l) e (suc j) h q = not_among t l (neither (eqb u t) (has t l) e).1 j (omega (arith, h)) q

once_apart : (l : List ℕ) → repeated l ≡ false → Apart l
unfolding repeated
once_apart [] e i j h k q = absurd (let z : ⊥ = omega (arith, h) in z)
once_apart (t ∷ l) e zero zero h k q = refl
once_apart (t ∷ l) e zero (suc j) h k q = absurd (not_among t l (neither (has t l) (repeated l) e).0 j (omega (arith, k)) (sym q))
once_apart (t ∷ l) e (suc i) zero h k q = absurd (not_among t l (neither (has t l) (repeated l) e).0 i (omega (arith, h)) q)
once_apart (t ∷ l) e (suc i) (suc j) h k q =
    ap suc (once_apart l (neither (has t l) (repeated l) e).1 i j (omega (arith, h)) (omega (arith, k)) q)

pub record Tallies (l : List ℕ) : Type 0 where
  pub few : length l ≤ most_open
  pub known : (j : ℕ) → j < length l → get_or l j 0 < objects
  pub apart : (i j : ℕ) → i < length l → j < length l → get_or l i 0 ≡ get_or l j 0 → i ≡ j

pub length_tallies : (k : List ℕ) → length (tallies k) ≡ tally_count k
unfolding tallies
length_tallies k = length_items tally_at 1 k (tally_count k) _

pub table_tallies : (k : List ℕ) → table_number false k ≡ 0 → Tallies (tallies k)
unfolding strange twice
table_tallies k e =
    let a = accepted false k e in
    let b = accepted_bounded false k e in
    let n = length_tallies k in
    record {
      few = omega (arith, n, b.few, b.tallied);
      known = λ j h. ltb-true _ objects (every_at (λ (t : ℕ). ltb t objects) (tallies k) (not-false _ a.0) j h);
      apart = once_apart (tallies k) a.3;
    }

-- ---- a batch's objects at a record
module _ (y : System) (q : Quorums y) (c : Coordinator) (n : ℕ) (m : Meets y c) (w : BeginWith) (far : length w.distances ≡ nodes)
    (taken : (begin_of y c n w).number ≡ 0) (ts gs : List ℕ) (good : Tallies ts) where
  abbrev pub b : Coordinator
  b = (begin_of y c n w).coordinator

  abbrev pub l : List Amount
  l = amounts ts gs

  pub begun_empty : b.count ≡ 0
  unfolding begin_of begun
  begun_empty = ap (λ (d : Coordinator). d.count) (taken_after _ _ _ _ taken)

  pub is_node : n < nodes
  unfolding begin_of begin_refusals
  is_node = ltb-true n nodes (not-false (ltb n nodes) (neither_left (no_node n) (too_wide w.live)
      (clear (begin_refusals c n w (y.nearest_read n w.live w.distances)) tt (step_number _ _ _ _ ∙ taken)).0))

  many : length l ≡ length ts
  many = amounts_length ts gs

  object_at_lem : (j : ℕ) → j < length l → (amount_at l j).object ≡ get_or ts j 0
  object_at_lem j h = let k = many in ap (λ (a : Amount). a.object) (amounts_at ts gs j (omega (arith, k, h)))

  pub few : length l ≤ most_open
  few = let k = many in omega (arith, k, good.few)

  pub small : (j : ℕ) → j < length l → (amount_at l j).object < objects
  small j h = let k = many in subst (λ (t : ℕ). t < objects) (sym (object_at_lem j h)) (good.known j (omega (arith, k, h)))

  pub apart : (i j : ℕ) → i < length l → j < length l → (amount_at l i).object ≡ (amount_at l j).object → i ≡ j
  apart i j h g e = let k = many in good.apart i j (omega (arith, k, h)) (omega (arith, k, g)) (sym (object_at_lem i h) ∙ e ∙ object_at_lem j g)

  pub begun_meets : Meets y b
  begun_meets = begin_keeps y q c n m w far

  abbrev d : Coordinator
  d = ran y b n (adding l [])

  -- each tally has its grams for a new value
  grams_new : (i : ℕ) → i < length ts → (object_at d (get_or ts i 0)).new ≡ get_or gs i 0
  grams_new i h =
      let k = many in
      let g : i < length l = omega (arith, k, h) in
      let p = begun_open y c n w taken in
      let e = added_object y q b n begun_meets p is_node begun_empty l few small apart i g in
      let f = added_count y q b n begun_meets p is_node begun_empty l few small apart in
      ap (λ (x : Object). x.new) (stands_at d.objects d.count (listed_of d (added_meets y q b n begun_meets p is_node begun_empty l few small apart))
      i (get_or ts i 0) (omega (arith, f, g)) (ap (λ (x : Object). x.object) e ∙ object_at_lem i g))
      ∙ ap (λ (x : Object). x.new) e ∙ ap (λ (a : Amount). a.grams) (amounts_at ts gs i h)

  pub batch_new : (i : ℕ) → i < length ts → (object_at (ran y c n (adding l (begins w ∷ []))) (get_or ts i 0)).new ≡ get_or gs i 0
  unfolding ran deed_of
  batch_new i h = ap (λ (x : Coordinator). (object_at x (get_or ts i 0)).new) (ran_adding y c n l (begins w ∷ [])) ∙ grams_new i h

-- it is open, with the next serial
module _ (y : System) (c : Coordinator) (n : ℕ) (w : BeginWith) (l : List Amount) (taken : (begin_of y c n w).number ≡ 0) where
  abbrev Opens : List Deed → Type 0
  Opens ds = ((ran y c n ds).phase ≡ open_phase) × ((ran y c n ds).serial ≡ c.serial + 1)

  pub begun_serial : (begin_of y c n w).coordinator.serial ≡ c.serial + 1
  unfolding begin_of begun
  begun_serial = ap (λ (d : Coordinator). d.serial) (taken_after _ _ _ _ taken)

  opens : Opens (adding l (begins w ∷ []))
  unfolding ran deed_of
  opens = adding_keeps Opens
      (λ e ds h. on (edit_open (ran y c n ds) n e)
      (λ q. (ap (λ (z : Coordinator). z.phase) q ∙ h.0, ap (λ (z : Coordinator). z.serial) q ∙ h.1)) (λ z. (z.0, z.1 ∙ h.1)))
      l (begins w ∷ []) (begun_open y c n w taken, begun_serial)

  pub batch_open : (ran y c n (adding l (begins w ∷ []))).phase ≡ open_phase
  batch_open = opens.0

  pub batch_serial : (ran y c n (adding l (begins w ∷ []))).serial ≡ c.serial + 1
  batch_serial = opens.1

-- ---- deeds at a node that is on, and what is told of its present transaction while it is open
module _ (o : Machine) (r : MachineRested o) (n : ℕ) (es : List Step) where
  pub record_after_lem : (ds : List Deed) → contains (machineReached o es).own.on n ≡ true
      → (machineReached o (steps_at n ds ++ es)).records n ≡ ran (system (machineReached o es)) ((machineReached o es).records n) n ds
  record_after_lem ds up = let st = machineReached o es in
      ap (λ (z : Station). z.records n) (after_append o.station (steps_at n ds) es ∙ after_at st n ds up) ∙ put_here st.records n _

  -- the serial that is told after them, at a station
  abbrev pub NextSerial : List Deed → Station → Type 0
  NextSerial ds st = contains st.own.on n ≡ true → (ran (system st) (st.records n) n ds).serial ≡ (st.records n).serial + 1
      → (machineTold o (steps_at n ds ++ es)).serials n ≡ (machineTold o es).serials n + 1

  pub next_serial : (ds : List Deed) → AllStepsTyped es → AllStepsTyped (steps_at n ds ++ es) → NextSerial ds (machineReached o es)
  next_serial ds b a up e =
      let p = ((always_good o r es b).world.books.present n).serial_as in
      let q = ((always_good o r (steps_at n ds ++ es) a).world.books.present n).serial_as in
      q ∙ ap (λ (c : Coordinator). c.serial) (record_after_lem ds up) ∙ e ∙ ap (λ (k : ℕ). k + 1) (sym p)

  module _ (w : BeginWith) (ts gs : List ℕ) where
    abbrev deeds : List Deed
    deeds = adding (amounts ts gs) (begins w ∷ [])

    abbrev L : Ledger
    L = machineTold o (steps_at n deeds ++ es)

    -- a batch that is taken, at a station: what is told
    abbrev pub ToldGrams : Station → Type 0
    ToldGrams st = contains st.own.on n ≡ true → (begin_of (system st) (st.records n) n w).number ≡ 0 → Tallies ts
        → (i : ℕ) → i < length ts
        → (machineTold o (steps_at n (adding (amounts ts gs) (begins w ∷ [])) ++ es)).new
        (current (machineTold o (steps_at n (adding (amounts ts gs) (begins w ∷ [])) ++ es)) n) (get_or ts i 0) ≡ get_or gs i 0

    pub told_grams : AllStepsTyped es → AllStepsTyped (steps_at n (adding (amounts ts gs) (begins w ∷ [])) ++ es) → length w.distances ≡ nodes
        → ToldGrams (machineReached o es)
    told_grams b a far up taken good i h =
        let st = machineReached o es in
        let t = get_or ts i 0 in
        let e = record_after_lem deeds up in
        let g = (always_good o r es b).world in
        let p = (always_good o r (steps_at n deeds ++ es) a).world.books.present n in
        let f = ap (λ (c : Coordinator). c.phase) e ∙ batch_open (system st) (st.records n) n w (amounts ts gs) taken in
        ap (λ (k : ℕ). L.new (tx n k) t) p.serial_as ∙ p.new_now (λ z. let y : ⊥ = omega (arith, f, z) in y) t
        ∙ ap (λ (c : Coordinator). (object_at c t).new) e
        ∙ batch_new (system st) g.sane.choices (st.records n) n (g.valid.records n) w far taken ts gs good i h
