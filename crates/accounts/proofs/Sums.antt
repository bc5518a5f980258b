-- A request on a transaction that adds: of each object that it writes, the new value that is told becomes the value found with the amount added. One sum
-- after another: a written object is open with its mode after each, so its new value is taken, and no other object's is touched.
use mathlib.Core.Path.{◌≡◌, refl, sym, ap, subst, ◌∙◌}
use mathlib.Core.Logic.{◌⊎◌, inl, inr, by_cases}
use mathlib.Core.Bool.{Bool, true, false, cond}
use mathlib.Core.List.{List, [], ◌∷◌, ◌++◌}
use mathlib.Core.Option.{Option}
use Prim.Native.Nat.{ℕ, zero, suc, ◌<◌, ◌^◌}
use native.Mathlib.Decide.{ℕ_discrete}
use native.Mathlib.Omega.{arith}
use lib.Dec.{eqb}
use lib.ListN.{length, get_or, take}
use borrow.Author.Tests.{eq-eqb, ltb-true}
use Rattle.numbers.specs.Sizes.{most_open}
use Rattle.mask.specs.Mask.{contains}
use Rattle.mask.proofs.Tests.{T_true}
use Rattle.wire.specs.Formed.{every}
use Rattle.replica.proofs.Delivered.{either_way}
use Rattle.coordinator.specs.declared.Object.{Object}
use Rattle.coordinator.specs.declared.Coordinator.{Coordinator}
use Rattle.coordinator.specs.Step.{Step as Made}
use Rattle.coordinator.specs.System.{System}
use Rattle.coordinator.specs.State.{idle_phase, open_phase, no_object, place_of, object_at, is_open, step_of}
use Rattle.coordinator.specs.Calls.{no_node, set_refusals, set_of, request_commit_refusals, request_commit_of}
use Rattle.coordinator.proofs.Refusals.{Clear}
use Rattle.clauses.proofs.Facts.{Meets}
use Rattle.clauses.proofs.Laws.{settled_each}
use Rattle.clauses.proofs.Parts.{neither_right}
use Rattle.clauses.proofs.Places.{place_open}
use Rattle.increments.specs.Sums.{sum64, past}
use Rattle.increments.proofs.Sums.{sum_small}
use Rattle.increments.proofs.Laws.{summed_number}
use Rattle.increments.specs.Deeds.{values, Deed, edits, asks, edit_of, ran, in_use, summing, fits_in, any_past}
use Rattle.steps.specs.Station.{Own, Station, system}
use Rattle.steps.specs.Step.{Call as Step, set_value, Outcome, taken, hosted, step}
use Rattle.protocol.specs.Table.{In}
use Rattle.protocol.specs.Rules.{Mode, unused, read, write}
use Rattle.protocol.specs.State.{Tx}
use Rattle.protocol.specs.Proof.Tables.{clash}
use Rattle.protocol.proofs.Tables.{on}
use Rattle.history.specs.Ledger.{Ledger, current, noted, note, ledger_from}
use Rattle.history.specs.Origin.{Origin as Machine, Rested as MachineRested}
use Rattle.history.specs.Claims.{Shows}
use Rattle.history.specs.Claims.{reached as machineReached, told as machineTold, AllTyped as AllStepsTyped}
use Rattle.history.proofs.Tests.{not-false, not-true, and-true}
use Rattle.history.proofs.Carry.{put_all}
use Rattle.history.proofs.Sim.{tx}
use Rattle.history.proofs.Objects.{listed_of, stands_at}
use Rattle.history.proofs.Books.{Present}
use Rattle.history.proofs.Host.{told_here, told_other}
use Rattle.history.proofs.Claimed.{always_good}
use Rattle.service.specs.Service.{step_at, steps_at}
use Rattle.accounts.proofs.Follows.{edit_open}
use Rattle.accounts.proofs.Facts.{request_clear, request_phase}

-- ---- lists
in_take : {A : Type 0} (n i : ℕ) (l : List A) (d : A) → i < n → i < length l → In (get_or l i d) (take n l)
in_take zero i l d h k = absurd (let z : ⊥ = omega (arith, h) in z)
in_take (suc n) i [] d h k = absurd (let z : ⊥ = omega (arith, k) in z)
in_take (suc n) zero (x ∷ l) d h k = inl refl
in_take (suc n) (suc i) (x ∷ l) d h k = inr (in_take n i l d (omega (arith, h)) (omega (arith, k)))

take_in : {A : Type 0} (n : ℕ) (l : List A) (d y : A) → In y (take n l) → (i : ℕ) × (i < n) × (y ≡ get_or l i d)
take_in zero l d y i = absurd i
take_in (suc n) [] d y i = absurd i
take_in (suc n) (x ∷ l) d y (inl e) = (0, omega arith, e)
take_in (suc n) (x ∷ l) d y (inr i) = let z = take_in n l d y i in (suc z.0, omega (arith, z.1), z.2)

every_in : {A : Type 0} (f : A → Bool) (l : List A) → every f l ≡ true → (x : A) → In x l → f x ≡ true
every_in f [] e x i = absurd i
every_in f (y ∷ l) e x (inl q) = ap f q ∙ (and-true (f y) (every f l) e).0
every_in f (y ∷ l) e x (inr i) = every_in f l (and-true (f y) (every f l) e).1 x i

-- ---- a record
-- what is written is open, with its mode
written : (open? zero? : Bool) → ◌≡◌ {A = Mode} (cond open? (cond zero? read write) unused) write → (open? ≡ true) × (zero? ≡ false)
written true true e = absurd (clash (cc))
written true false e = (refl, refl)
written false b e = absurd (clash (cc))

-- of such an object a new value is taken
set_number : (c : Coordinator) (n u v : ℕ) → no_node n ≡ false → c.phase ≡ open_phase → is_open c u ≡ true → eqb (object_at c u).mode 0 ≡ false
    → (set_of c n u v).number ≡ 0
unfolding set_of set_refusals step_of
set_number c n u v a b d e = simp (a, eq-eqb c.phase open_phase b, d, e)

-- ---- a host call that keeps the record open
module _ (st : Station) (n : ℕ) where
  hosted_keeps : (s : Made) → (st.records n).phase ≡ open_phase → s.coordinator.phase ≡ open_phase
      → (((hosted st n s).station.records n).phase ≡ open_phase) × ((hosted st n s).station.own ≡ st.own)
  unfolding hosted
  hosted_keeps s p q =
      let P : Outcome → Type 0 = λ (r : Outcome). ((r.station.records n).phase ≡ open_phase) × (r.station.own ≡ st.own) in
      either_way P (contains st.own.on n) _ _ (either_way P (eqb s.number 0) _ _
      (put_all (λ (i : ℕ) (d : Coordinator). (i ≡ n) → d.phase ≡ open_phase) st.records n s.coordinator (λ e. q) (λ i e f. absurd (e f)) n refl, refl)
      (p, refl)) (p, refl)

  set_keeps : (u v : ℕ) → (st.records n).phase ≡ open_phase
      → (((step st (set_value n u v)).station.records n).phase ≡ open_phase) × ((step st (set_value n u v)).station.own ≡ st.own)
  unfolding step edit_of
  set_keeps u v p = hosted_keeps (set_of (st.records n) n u v) p
      (on (edit_open (st.records n) n (values u v)) (λ e. ap (λ (d : Coordinator). d.phase) e ∙ p) (λ z. z.0))

  set_taken : (u v : ℕ) → contains st.own.on n ≡ true → (set_of (st.records n) n u v).number ≡ 0 → (step st (set_value n u v)).number ≡ 0
  unfolding step hosted
  set_taken u v up e = simp (up, e)

-- ---- what a new value tells
module _ (L : Ledger) (n u v number answer : ℕ) (p : Option (List ℕ)) where
  abbrev K : Ledger
  K = note L (record { call = set_value n u v; number = number; answer = answer; put = p })

  set_else : (K.serials ≡ L.serials) × (K.mode ≡ L.mode)
  unfolding note noted
  set_else = either_way (λ (M : Ledger). (M.serials ≡ L.serials) × (M.mode ≡ L.mode)) (eqb number 0) _ _ (refl, refl) (refl, refl)

  set_others : (x : Tx) (t : ℕ) → (t ≡ u → ⊥) → K.new x t ≡ L.new x t
  unfolding note noted
  set_others x t e = either_way (λ (M : Ledger). M.new x t ≡ L.new x t) (eqb number 0) _ _ (told_other L.new (current L n) u v x t e) refl

  set_here : number ≡ 0 → K.new (current L n) u ≡ v
  unfolding note noted
  set_here e = simp (eq-eqb number 0 e) (told_here L.new (current L n) u v)

-- a request tells of participants alone
asks_tell : (o : Machine) (n : ℕ) (es : List Step)
    → ((machineTold o (step_at n asks ∷ es)).mode ≡ (machineTold o es).mode) × ((machineTold o (step_at n asks ∷ es)).new ≡ (machineTold o es).new)
unfolding ledger_from note noted
asks_tell o n es = let L = machineTold o es in
    either_way (λ (M : Ledger). (M.mode ≡ L.mode) × (M.new ≡ L.new)) (eqb (step (machineReached o es) (step_at n asks)).number 0) _ _
    (refl, refl) (refl, refl)

-- ---- sums one after another, after the machine's steps es
module _ (o : Machine) (r : MachineRested o) (n : ℕ) (es : List Step) where
  abbrev c : Coordinator
  c = (machineReached o es).records n

  abbrev L : Ledger
  L = machineTold o es

  abbrev now : Tx
  now = current L n

  abbrev then : List Deed → List Step
  then ds = steps_at n ds ++ es

  -- what a sum leaves: the node is on and its record open, the same is told of serials and modes
  pub record Going (ds : List Deed) : Type 0 where
    pub typed : AllStepsTyped (then ds)
    pub up : contains (machineReached o (then ds)).own.on n ≡ true
    pub is_open : ((machineReached o (then ds)).records n).phase ≡ open_phase
    pub serials : (machineTold o (then ds)).serials ≡ L.serials
    pub modes : (machineTold o (then ds)).mode ≡ L.mode

  -- the sum of an object that the record has
  abbrev summed : ℕ → ℕ
  summed u = sum64 (object_at c u).value (object_at c u).new

  module _ (node : no_node n ≡ false) (ds : List Deed) (g : Going ds) (u v : ℕ) (small : v < 2 ^ 64) where
    abbrev st : Station
    st = machineReached o (then ds)

    abbrev M : Ledger
    M = machineTold o (then ds)

    abbrev more : List Deed
    more = edits (values u v) ∷ ds

    going_on : Going more
    unfolding ledger_from
    going_on =
        let k = set_keeps st n u v g.is_open in
        let e = set_else M n u v (step st (set_value n u v)).number (step st (set_value n u v)).answer (step st (set_value n u v)).put in
        record {
          typed = (small, g.typed);
          up = ap (λ (w : Own). contains w.on n) k.1 ∙ g.up;
          is_open = k.0;
          serials = e.0 ∙ g.serials;
          modes = e.1 ∙ g.modes;
        }

    others_on : (t : ℕ) → (t ≡ u → ⊥) → (machineTold o (then more)).new now t ≡ M.new now t
    unfolding ledger_from
    others_on t e = set_others M n u v _ _ _ now t e

    -- the present transaction is still that one
    abbrev is_now : current M n ≡ now
    is_now = ap (λ (f : ℕ → ℕ). tx n (f n)) g.serials

    -- the record has a written object open, with its mode
    has_it : L.mode now u ≡ write → (is_open (st.records n) u ≡ true) × (eqb (object_at (st.records n) u).mode 0 ≡ false)
    has_it m =
        let p = (always_good o r (then ds) g.typed).world.books.present n in
        let busy : (st.records n).phase ≡ idle_phase → ⊥ = λ e. let q = g.is_open in let z : ⊥ = omega (arith, q, e) in z in
        written _ _ (sym (p.mode_now busy u) ∙ ap (λ (y : Tx). M.mode y u) (ap (tx n) (sym p.serial_as) ∙ is_now)
        ∙ ap (λ (f : Tx → ℕ → Mode). f now u) g.modes ∙ m)

    here_on : L.mode now u ≡ write → (machineTold o (then more)).new now u ≡ v
    unfolding ledger_from
    here_on m =
        let z = has_it m in
        let e = set_taken st n u v g.up (set_number (st.records n) n u v node g.is_open z.0 z.1) in
        ap (λ (y : Tx). (machineTold o (then more)).new y u) (sym is_now) ∙ set_here M n u v _ _ _ e

  -- the objects of a list are yet to be summed, and all others are
  abbrev Left : List Object → List Deed → Type 0
  Left l ds = (u : ℕ) → L.mode now u ≡ write → ((y : Object) × In y l × (y.object ≡ u)) ⊎ ((machineTold o (then ds)).new now u ≡ summed u)

  sums : no_node n ≡ false → (l : List Object) (ds : List Deed) → ((y : Object) → In y l → object_at c y.object ≡ y) → Going ds → Left l ds
      → Going (summing l ds) × Left [] (summing l ds)
  unfolding summing
  sums node [] ds here g k = (g, k)
  sums node (y ∷ l) ds here g k =
      let u = y.object in
      let v = sum64 y.value y.new in
      let is_sum : v ≡ summed u = ap (λ (w : Object). sum64 w.value w.new) (sym (here y (inl refl))) in
      sums node l (edits (values u v) ∷ ds) (λ w i. here w (inr i)) (going_on node ds g u v (sum_small y.value y.new))
      (λ t m. by_cases (ℕ_discrete t u)
      (λ e. inr (ap (λ (j : ℕ). (machineTold o (then (edits (values u v) ∷ ds))).new now j) e
      ∙ here_on node ds g u v (sum_small y.value y.new) (subst (λ (j : ℕ). L.mode now j ≡ write) e m) ∙ is_sum ∙ ap summed (sym e)))
      (λ e. on (k t m) (λ z. on z.1 (λ q. absurd (e (sym z.2 ∙ ap (λ (w : Object). w.object) q))) (λ i. inl (z.0, i, z.2)))
      (λ q. inr (others_on node ds g u v (sum_small y.value y.new) t e ∙ q))))

  -- ---- the whole request
  -- what it leaves, of the record that a station has; the sums are of each object that the transaction writes
  pub record Added (w : Station) : Type 0 where
    pub serial : (w.records n).serial ≡ now.serial
    pub news : (u : ℕ) → L.new now u ≡ (object_at (w.records n) u).new
    pub opened : (u : ℕ) → L.mode now u ≡ write → is_open (w.records n) u ≡ true
    pub shows : (u : ℕ) → is_open (w.records n) u ≡ true
        → Shows (system w) (w.records n) (w.records n).serial u (object_at (w.records n) u).value
    pub in_range : any_past (w.records n) ≡ false → (u : ℕ) → is_open (w.records n) u ≡ true
        → past (object_at (w.records n) u).value (object_at (w.records n) u).new ≡ false
    pub modes : (machineTold o (then (asks ∷ summing (in_use (w.records n)) []))).mode ≡ L.mode
    pub sums : (u : ℕ) → L.mode now u ≡ write
        → (machineTold o (then (asks ∷ summing (in_use (w.records n)) []))).new now u
        ≡ sum64 (object_at (w.records n) u).value (object_at (w.records n) u).new
    pub still_taken : (request_commit_of (system w) (ran (system w) (w.records n) n (summing (in_use (w.records n)) [])) n).number ≡ 0

  module _ (typed : AllStepsTyped es) (up : contains (machineReached o es).own.on n ≡ true)
      (taken : (request_commit_of (system (machineReached o es)) c n).number ≡ 0) where
    abbrev s : System
    s = system (machineReached o es)

    asked : Clear (request_commit_refusals s c n (s.nearest_write n c.live c.distances))
    asked = request_clear s n c taken

    is_node : no_node n ≡ false
    unfolding request_commit_refusals
    is_node = asked.0

    was_open : c.phase ≡ open_phase
    was_open = request_phase s n c taken

    meets : Meets s c
    meets = (always_good o r es typed).world.valid.records n

    stood : (u : ℕ) → is_open c u ≡ true → (place_of c u < c.count) × ((place_of c u < length c.objects) × ((object_at c u).object ≡ u))
    stood u e = place_open c.objects c.count u (ltb-true (place_of c u) most_open e)

    -- each object that is open was found
    is_shown : (u : ℕ) → is_open c u ≡ true → Shows s c c.serial u (object_at c u).value
    unfolding request_commit_refusals
    is_shown u e = let z = stood u e in record {
      begun = λ q. let p = was_open in let y : ⊥ = omega (arith, p, q) in y;
      present = refl;
      opened = e;
      is_ready = T_true _ (settled_each s c.objects c.count (place_of c u) z.0 z.1.0
          (not-false _ (neither_right (eqb c.count 0) _ asked.1.1.0))).0;
      value = refl;
    }

    -- no sum is past the range
    none_past : any_past c ≡ false → (u : ℕ) → is_open c u ≡ true → past (object_at c u).value (object_at c u).new ≡ false
    unfolding any_past
    none_past e u q = let z = stood u q in
        not-true _ (every_in fits_in (in_use c) (not-false _ e) (object_at c u) (in_take c.count (place_of c u) c.objects no_object z.0 z.1.0))

    present : Present L n c
    present = (always_good o r es typed).world.books.present n

    busy : c.phase ≡ idle_phase → ⊥
    busy e = let q = was_open in let z : ⊥ = omega (arith, q, e) in z

    -- what is written is open
    opened_now : (u : ℕ) → L.mode now u ≡ write → is_open c u ≡ true
    opened_now u m =
        let p = present in
        (written (is_open c u) (eqb (object_at c u).mode 0) (sym (p.mode_now busy u) ∙ ap (λ (y : Tx). L.mode y u) (ap (tx n) (sym p.serial_as)) ∙ m)).0

    at_place : (y : Object) → In y (in_use c) → object_at c y.object ≡ y
    at_place y i = let z = take_in c.count c.objects no_object y i in
        stands_at c.objects c.count (listed_of c meets) z.0 y.object z.1 (ap (λ (w : Object). w.object) (sym z.2)) ∙ sym z.2

    -- THE SUMS
    pub request_adds : Added (machineReached o es)
    request_adds =
        let z = sums is_node (in_use c) [] at_place (record { typed = typed; up = up; is_open = was_open; serials = refl; modes = refl })
        (λ u m. let q = opened_now u m in let y = stood u q in
        inl (object_at c u, in_take c.count (place_of c u) c.objects no_object y.0 y.1.0, y.1.1)) in
        let a = asks_tell o n (then (summing (in_use c) [])) in
        record {
          serial = sym present.serial_as;
          news = λ u. ap (λ (k : ℕ). L.new (tx n k) u) present.serial_as ∙ present.new_now busy u;
          opened = opened_now;
          shows = is_shown;
          in_range = none_past;
          modes = a.0 ∙ z.0.modes;
          sums = λ u m. on (z.1 u m) (λ y. absurd y.1) (λ e. ap (λ (f : Tx → ℕ → ℕ). f now u) a.1 ∙ e);
          still_taken = (summed_number s (always_good o r es typed).world.sane.choices c n meets taken).0;
        }
