-- Every step of the service keeps where each node stands with its batches (Weighing), so the law of weight classes holds after every list.
use mathlib.Core.Path.{◌≡◌, refl, sym, ap, ap₂, subst, ◌∙◌}
use mathlib.Core.Logic.{◌≢◌, inl, inr, by_cases}
use mathlib.Core.Bool.{Bool, true, false, cond, ◌&&◌, ◌||◌}
use mathlib.Core.List.{List, [], ◌∷◌, ◌++◌}
use Prim.Native.Nat.{ℕ, ◌+◌, ◌<◌}
use native.Mathlib.Decide.{ℕ_discrete}
use native.Mathlib.Omega.{arith}
use lib.Dec.{eqb}
use lib.ListN.{get_or}
use borrow.Author.Tests.{ne_eqb}
use Rattle.mask.specs.Mask.{contains}
use Rattle.replica.proofs.Delivered.{either_way}
use Rattle.classes.specs.Classes.{tally_count, tallies}
use Rattle.classes.specs.Weights.{grams_in, grams_of, left_of}
use Rattle.classes.proofs.Table.{accepted_bounded}
use Rattle.classes.proofs.Theorems.{grams_at}
use Rattle.coordinator.specs.declared.Coordinator.{Coordinator}
use Rattle.coordinator.specs.declared.BeginWith.{BeginWith}
use Rattle.coordinator.specs.System.{System}
use Rattle.coordinator.specs.State.{idle_phase, open_phase, finishing_phase, committed}
use Rattle.coordinator.specs.Calls.{begin_of, request_commit_of}
use Rattle.increments.specs.Deeds.{Edit, values, Deed, begins, edits, asks, aborts, edit_of, deed_of, ran, adding, in_use, summing}
use Rattle.steps.specs.Station.{Station, system, put_at}
use Rattle.steps.specs.Step.{Call as Step}
use Rattle.steps.specs.Step.{step as step_of}
use Rattle.steps.specs.Run.{after}
use Rattle.protocol.specs.Table.{In, put}
use Rattle.protocol.specs.State.{Tx, Tx-discrete}
use Rattle.protocol.proofs.Tables.{on, put_cases}
use Rattle.protocol.proofs.Tables.{put_here as row_here}
use Rattle.settings.specs.Settings.{classes_in, own_kind, batch_kind, waited_in, left_in, decided_committed, tenths, settled_as, no_tenths, classed}
use Rattle.settings.specs.Settings.{adds as kindAdds}
use Rattle.settings.proofs.Sound.{Sound, sound_parts}
use Rattle.frontend.specs.Plan.{batch, edit, request, load_classes, Plan, refused_plan, booked, plan, off_number}
use Rattle.frontend.specs.Plan.{Call as Front, begin as beginCall}
use Rattle.history.specs.Ledger.{Ledger, current, ledger_from}
use Rattle.history.specs.Claims.{reached as machineReached, told as machineTold, AllTyped as AllStepsTyped}
use Rattle.history.proofs.Carry.{put_all}
use Rattle.history.proofs.Sim.{tx}
use Rattle.history.proofs.Spare.{is_begin, still_next}
use Rattle.history.proofs.Claimed.{always_good}
use Rattle.service.specs.Service.{Service, Call, front, load_hours, plain, is_front, is_on, plan_at, steps_at, load_number, number_of, made, settings_of}
use Rattle.service.proofs.Laws.{put_here, put_else, put_same, after_at}
use Rattle.accounts.specs.Accounts.{Origin, Rested, FrontTyped, AllTyped, Effect, sets, adds, reached, expand, told, effects, begun_effect}
use Rattle.accounts.specs.Weighed.{Since, loaded_now, with_batch, amount_of, since_begun, since, table, Weighs}
use Rattle.accounts.proofs.Expand.{same_machine}
use Rattle.accounts.proofs.Plans.{begin_cases, batch_cases, edit_cases, load_cases, request_cases, summing_keeps}
use Rattle.accounts.proofs.Facts.{barred_none, begin_none, batch_none, off_front, edit_phase, request_phase}
use Rattle.accounts.proofs.Ledgers.{plain_told, edit_else, asks_else, aborts_told, deeds_committed, deeds_serials}
use Rattle.accounts.proofs.Bookings.{no_begin_lem}
use Rattle.accounts.proofs.Typed.{tenth_small, settings_sound, settings_long, expand_typed}
use Rattle.accounts.proofs.Ends.{ends_next}
use Rattle.accounts.proofs.Decided.{Both, new_told, still_told, told_decided}
use Rattle.accounts.proofs.Grams.{has_table, length_tallies, table_tallies, begun_serial, batch_serial, NextSerial, next_serial, ToldGrams, told_grams}
use Rattle.accounts.proofs.Loads.{SameParts, loaded_parts, classed_kind, classed_waited}
use Rattle.accounts.proofs.Weighing.{Law, SameOf, Stands, law_now, stands_begun, stands_batch, stands_loaded, stands_still}

-- ---- a step that is no begin leaves an idle record's word
idle_leaves : (st : Station) (n : ℕ) (c : Step) → is_begin c ≡ false → (st.records n).phase ≡ idle_phase
    → (((step_of st c).station.records n).phase ≡ idle_phase) × (decided_committed ((step_of st c).station.records n) ≡ decided_committed (st.records n))
idle_leaves st n c b p =
    let e = (still_next st n c b).stays_idle p in
    on ((ends_next st n c b).idle e)
    (λ z. (e, ap₂ (λ (o q : ℕ). eqb o committed && (eqb q idle_phase || eqb q finishing_phase)) z.1 (e ∙ sym p)))
    (λ z. absurd (on z.0 (λ q. let y : ⊥ = omega (arith, p, q) in y) (λ q. let y : ⊥ = omega (arith, p, q) in y)))

same_parts : (s : List ℕ) → SameParts s s
same_parts s = record { classes = refl; kind = refl; waited = refl; left = refl }

module _ (o : Origin) (r : Rested o) where
  abbrev start : ℕ → ℕ
  start n = (o.machine.station.records n).serial

  abbrev pub StandsAt : List Call → ℕ → Type 0
  StandsAt cs n = Stands n (o.machine.station.records n).serial ((reached o cs).machine.records n) ((reached o cs).settings n) ((told o cs).serials n)
      (told o cs).committed (effects o cs) (since o cs n)

  stands_first : (n : ℕ) → StandsAt [] n
  unfolding ledger_from
  stands_first n = record {
    grown = omega arith;
    stage = inl (record {
      behind = tt;
      still = inr (r.machine.idle n);
      law = λ i h. let w = r.weighs n i h in omega (arith, w);
    });
  }

  -- ---- THE LAW, where every node stands so
  module _ (cs : List Call) (a : AllStepsTyped (expand o cs)) (n : ℕ) where
    decided : start n < (told o cs).serials n → Both (In (tx n ((told o cs).serials n)) (told o cs).committed)
        (decided_committed ((reached o cs).machine.records n) ≡ true)
    decided h =
        let e = ((always_good o.machine r.machine (expand o cs) a).world.books.present n).serial_as in
        subst (λ (st : Station). Both (In (tx n ((told o cs).serials n)) (told o cs).committed) (decided_committed (st.records n) ≡ true))
        (sym (same_machine o cs))
        (subst (λ (k : ℕ). Both (In (tx n k) (told o cs).committed) (decided_committed ((machineReached o.machine (expand o cs)).records n) ≡ true)) (sym e)
        (told_decided o.machine r.machine n (expand o cs) a (omega (arith, h, e))))

    pub law_at : StandsAt cs n → Law (table o cs n) (tenths ((reached o cs).machine.records n) ((reached o cs).settings n)) (told o cs).committed
        (effects o cs) (since o cs n) (since o cs n).batches
    law_at k = law_now n _ _ _ _ _ _ _ k decided

  -- ---- steps that no front end stands before, and hours
  module _ (c : Step) (p : is_front c ≡ false) (cs : List Call) (a : AllStepsTyped (expand o cs)) (n : ℕ) where
    -- of what the node began earlier, nothing is told
    plain_committed : (x : Tx) → x.owner ≡ n → x.serial < (told o cs).serials n
        → Both (In x (machineTold o.machine (c ∷ expand o cs)).committed) (In x (told o cs).committed)
    plain_committed x q h = (
      λ i. on (new_told o.machine r.machine c (expand o cs) a x i) (λ j. j)
          (λ w. let e = ((always_good o.machine r.machine (expand o cs) a).world.books.present n).serial_as in
          let f = w.present ∙ ap (λ (k : ℕ). ((machineReached o.machine (expand o cs)).records k).serial) q in
          absurd (let z : ⊥ = omega (arith, h, e, f) in z)),
      still_told o.machine r.machine c (expand o cs) a x,
    )

    plain_stands : StandsAt cs n → StandsAt (plain c p ∷ cs) n
    unfolding made settings_of ledger_from
    plain_stands = stands_still n (start n) _ _ _ _ _ _ _ _ _ _ (since o cs n) (record {
      serials = ap (λ (f : ℕ → ℕ). f n) (plain_told (told o cs) c _ _ _ p).serials;
      classes = refl;
      kind = refl;
      waited = refl;
      left = refl;
      told = plain_committed;
      effects = λ x q. refl;
      idle = idle_leaves (reached o cs).machine n c (no_begin_lem c p);
    })

  hours_stands : (m : ℕ) (list : List ℕ) (cs : List Call) (n : ℕ) → StandsAt cs n → StandsAt (load_hours m list ∷ cs) n
  unfolding made settings_of
  hours_stands m list cs n =
      let v = reached o cs in
      let f = either_way (λ (g : ℕ → List ℕ). SameParts (v.settings n) (g n)) (eqb (load_number v m list) 0) _ _
      (put_all (λ (j : ℕ) (s : List ℕ). SameParts (v.settings j) s) v.settings m _ (loaded_parts (v.settings m) list (settings_long o r cs m))
      (λ j e. same_parts (v.settings j)) n)
      (same_parts (v.settings n)) in
      stands_still n (start n) _ _ _ _ _ _ _ _ _ _ (since o cs n) (record {
        serials = refl;
        classes = f.classes;
        kind = f.kind;
        waited = f.waited;
        left = f.left;
        told = λ x q h. (λ i. i, λ i. i);
        effects = λ x q. refl;
        idle = λ q. (q, refl);
      })

  -- ---- a front end's call at a node
  module _ (m : ℕ) (b : Front) (cs : List Call) (k : (n : ℕ) → StandsAt cs n) where
    abbrev v : Service
    v = reached o cs

    abbrev st : Station
    st = v.machine

    abbrev c : Coordinator
    c = st.records m

    abbrev s : List ℕ
    s = v.settings m

    abbrev L : Ledger
    L = told o cs

    abbrev E : Tx → Effect
    E = effects o cs

    abbrev S : ℕ → Since
    S = since o cs

    abbrev es : List Step
    es = expand o cs

    -- what a plan makes of them, at a node that is on (true) or off
    abbrev steps : Bool → Plan → List Step
    steps up p = cond up (steps_at m p.deeds) []

    abbrev L₁ : Bool → Plan → Ledger
    L₁ up p = machineTold o.machine (steps up p ++ es)

    abbrev taken : Bool → Plan → Bool
    taken up p = eqb (cond up p.number (off_number b p.number)) 0

    abbrev E₁ : Bool → Plan → Tx → Effect
    E₁ up p = cond (taken up p) (begun_effect o (L₁ up p) m b E) E

    abbrev S₁ : Bool → Plan → ℕ → Since
    S₁ up p = cond (taken up p) (since_begun (L₁ up p) m b S) S

    abbrev With : Bool → Plan → ℕ → Since → Type 0
    With up p n w = Stands n (start n) ((after st (steps up p)).records n) (cond up (put_at v.settings m p.settings) v.settings n)
        ((L₁ up p).serials n) (L₁ up p).committed (E₁ up p) w

    abbrev At : Bool → Plan → ℕ → Type 0
    At up p n = With up p n (S₁ up p n)

    abbrev Next : Bool → Plan → Type 0
    Next up p = AllStepsTyped (steps up p ++ es) → (n : ℕ) → At up p n

    off_stands : (p : Plan) → Next false p
    off_stands p a n =
        subst (λ (t : Bool). Stands n (start n) (st.records n) (v.settings n) (L.serials n) L.committed
        (cond t (begun_effect o L m b E) E) (cond t (since_begun L m b S) S n))
        (sym (ne_eqb (off_number b p.number) 0 (off_front b p.number))) (k n)

    refused_stands : (number : ℕ) → (number ≡ 0 → ⊥) → Next true (refused_plan number s)
    refused_stands number e a n =
        subst (λ (t : Bool). Stands n (start n) (st.records n) (put_at v.settings m s n) (L.serials n) L.committed
        (cond t (begun_effect o L m b E) E) (cond t (since_begun L m b S) S n)) (sym (ne_eqb number 0 e))
        (subst (λ (g : ℕ → List ℕ). Stands n (start n) (st.records n) (g n) (L.serials n) L.committed E (S n)) (put_same v.settings m) (k n))

    -- ---- at a node that is on
    module _ (up : contains st.own.on m ≡ true) (p : Plan) where
      record_else : (n : ℕ) → n ≢ m → (after st (steps_at m p.deeds)).records n ≡ st.records n
      record_else n e = ap (λ (w : Station). w.records n) (after_at st m p.deeds up) ∙ put_else st.records m _ n e

      effect_else : (x : Tx) → x.owner ≢ m → E₁ true p x ≡ E x
      effect_else x e = either_way (λ (f : Tx → Effect). f x ≡ E x) (taken true p) _ _ (by b) refl
        where
          by : (a : Front) → begun_effect o (L₁ true p) m a E x ≡ E x
          by (beginCall w day minute) = on (put_cases Tx-discrete E _ _ x) (λ z. absurd (e (ap (λ (y : Tx). y.owner) z.0))) (λ z. z.1)
          by (batch w day minute list) = on (put_cases Tx-discrete E _ _ x) (λ z. absurd (e (ap (λ (y : Tx). y.owner) z.0))) (λ z. z.1)
          by (edit d) = refl
          by request = refl
          by (load_classes list) = refl

      since_else : (n : ℕ) → n ≢ m → S₁ true p n ≡ S n
      since_else n e = either_way (λ (f : ℕ → Since). f n ≡ S n) (taken true p) _ _ (by b) refl
        where
          by : (a : Front) → since_begun (L₁ true p) m a S n ≡ S n
          by (beginCall w day minute) = refl
          by (batch w day minute list) = put_else S m _ n e
          by (edit d) = refl
          by request = refl
          by (load_classes list) = put_else S m _ n e

      same_committed : (x : Tx) → Both (In x (L₁ true p).committed) (In x L.committed)
      same_committed x = let e = deeds_committed o.machine m es p.deeds in (subst (In x) e, subst (In x) (sym e))

      else_stands : (n : ℕ) → n ≢ m → At true p n
      else_stands n e = subst (With true p n) (sym (since_else n e))
          (stands_still n (start n) _ _ _ _ _ _ _ _ _ _ (S n) (record {
            serials = deeds_serials o.machine m es p.deeds n e;
            classes = ap classes_in (put_else v.settings m p.settings n e);
            kind = ap kindAdds (put_else v.settings m p.settings n e);
            waited = ap waited_in (put_else v.settings m p.settings n e);
            left = ap left_in (put_else v.settings m p.settings n e);
            told = λ x q h. same_committed x;
            effects = λ x q. effect_else x (λ z. e (sym q ∙ z));
            idle = λ q. let f = record_else n e in (ap (λ (d : Coordinator). d.phase) f ∙ q, ap decided_committed f);
          }) (k n))

      -- so it is enough to know the node itself
      at_node : (AllStepsTyped (steps_at m p.deeds ++ es) → At true p m) → Next true p
      at_node f a n = by_cases (ℕ_discrete n m) (λ e. subst (At true p) (sym e) (f a)) (else_stands n)

      -- an open transaction goes on, or is given up
      goes_on : (L₁ true p).serials ≡ L.serials → c.phase ≡ open_phase → p.settings ≡ s → E₁ true p ≡ E → S₁ true p m ≡ S m → At true p m
      goes_on serials is_open_lem settings effect same = subst (With true p m) (sym same)
          (stands_still m (start m) _ _ _ _ _ _ _ _ _ _ (S m) (record {
            serials = ap (λ (f : ℕ → ℕ). f m) serials;
            classes = ap classes_in here;
            kind = ap kindAdds here;
            waited = ap waited_in here;
            left = ap left_in here;
            told = λ x q h. same_committed x;
            effects = λ x q. ap (λ (f : Tx → Effect). f x) effect;
            idle = λ q. absurd (let z : ⊥ = omega (arith, q, is_open_lem) in z);
          }) (k m))
        where
          here : put_at v.settings m p.settings m ≡ s
          here = put_here v.settings m p.settings ∙ settings

  -- ---- the calls, at a node that is on
  module _ (m : ℕ) (cs : List Call) (k : (n : ℕ) → StandsAt cs n) (was : AllStepsTyped (expand o cs)) (up : contains (reached o cs).machine.own.on m ≡ true)
    where
      abbrev w₀ : Service
      w₀ = reached o cs

      abbrev y : System
      y = system w₀.machine

      abbrev d : Coordinator
      d = w₀.machine.records m

      abbrev now : List ℕ
      now = w₀.settings m

      abbrev K : Ledger
      K = told o cs

      abbrev rest : List Step
      rest = expand o cs

      edit_stands : (e : Edit) → Next m (edit e) cs k true (plan y d now m (edit e))
      unfolding plan ledger_from
      edit_stands e = edit_cases (Next m (edit e) cs k true) d now m e
          (λ q. let z = barred_none (kindAdds now) (edit_of d m e).number q in
          let p : Plan = record { number = 0; answer = (edit_of d m e).answer; deeds = edits e ∷ []; settings = now } in
          at_node m (edit e) cs k up p
          (λ a. goes_on m (edit e) cs k up p (edit_else K m _ _ _ e).serials (edit_phase d m e z.1) refl refl refl))
          (λ q. refused_stands m (edit e) cs k _ q)

      request_stands : Next m request cs k true (plan y d now m request)
      unfolding plan ledger_from
      request_stands = request_cases (Next m request cs k true) y d now m
          (λ t q f. let p : Plan = record { number = 9; answer = 2; deeds = aborts ∷ []; settings = now } in
          at_node m request cs k up p (λ a. goes_on m request cs k up p (aborts_told K m _ _ _).serials (request_phase y m d q) refl refl refl))
          (λ t q f. let p : Plan = record { number = 0; answer = (request_commit_of y d m).answer; deeds = asks ∷ summing (in_use d) []; settings = now } in
          at_node m request cs k up p (λ a. goes_on m request cs k up p ((asks_else _ m _ _ _).serials ∙ sums_serials) (request_phase y m d q) refl refl refl))
          (λ t q. let p : Plan = record { number = 0; answer = (request_commit_of y d m).answer; deeds = asks ∷ []; settings = now } in
          at_node m request cs k up p (λ a. goes_on m request cs k up p (asks_else K m _ _ _).serials (request_phase y m d q) refl refl refl))
          (λ q. refused_stands m request cs k _ q)
        where
          sums_serials : (machineTold o.machine (steps_at m (summing (in_use d) []) ++ rest)).serials ≡ K.serials
          sums_serials = summing_keeps (λ (ds : List Deed). (machineTold o.machine (steps_at m ds ++ rest)).serials ≡ K.serials)
              (λ t v ds h. (edit_else (machineTold o.machine (steps_at m ds ++ rest)) m _ _ _ (values t v)).serials ∙ h) (in_use d) [] refl

      load_stands : (list : List ℕ) → Next m (load_classes list) cs k true (plan y d now m (load_classes list))
      unfolding plan
      load_stands list = let b = load_classes list in load_cases (Next m b cs k true) d now m list
          (λ q. let p : Plan = record { number = 0; answer = 0; deeds = []; settings = classed now list } in
          at_node m b cs k up p (λ a. subst (With m b cs k true p m) (sym (put_here (since o cs) m loaded_now))
          (subst (λ (t : List ℕ). Stands m (start m) d t (K.serials m) K.committed (effects o cs) loaded_now)
          (sym (put_here w₀.settings m (classed now list)))
          (stands_loaded m (start m) d now (K.serials m) K.committed (effects o cs) (since o cs m) (k m) (classed now list)
          (classed_kind d m now list (settings_long o r cs m) q) (λ i h. classed_waited d m now list (settings_long o r cs m) q i)))))
          (λ q. refused_stands m b cs k _ q)

      -- ---- a begin, and a batch: what waits is settled, and another transaction is the node's present one
      module _ (b : Front) (p : Plan) (a : AllStepsTyped (steps_at m p.deeds ++ rest))
          (raised : (ran y d m p.deeds).serial ≡ d.serial + 1) where
        abbrev L' : Ledger
        L' = machineTold o.machine (steps_at m p.deeds ++ rest)

        abbrev d' : Coordinator
        d' = (after w₀.machine (steps_at m p.deeds)).records m

        next : L'.serials m ≡ K.serials m + 1
        next = subst (NextSerial o.machine r.machine m rest p.deeds) (sym (same_machine o cs))
            (next_serial o.machine r.machine m rest p.deeds was a) up raised

        -- of its transactions before, the same is told
        same_before : (f : Effect)
            → SameOf m (K.serials m + 1) K.committed L'.committed (effects o cs) (put Tx-discrete (effects o cs) (current L' m) f)
        same_before f = record {
          told = λ x q h. same_committed m b cs k up p x;
          effects = λ x q h. on (put_cases Tx-discrete (effects o cs) (current L' m) f x)
              (λ z. absurd (let e = ap (λ (t : Tx). t.serial) z.0 in let n = next in let w : ⊥ = omega (arith, e, n, h) in w)) (λ z. z.1);
        }

        now_law : Law (classes_in now) (tenths d now) K.committed (effects o cs) (since o cs m) (since o cs m).batches
        now_law = law_at cs was m (k m)

        -- the same settings and serial, as they stand there
        as_there : (q : List ℕ) (E' : Tx → Effect) (w : Since) → Stands m (start m) d' q (K.serials m + 1) L'.committed E' w
            → Stands m (start m) d' (put_at w₀.settings m q m) (L'.serials m) L'.committed E' w
        as_there q E' w z = subst (λ (n : ℕ). Stands m (start m) d' (put_at w₀.settings m q m) n L'.committed E' w) (sym next)
            (subst (λ (t : List ℕ). Stands m (start m) d' t (K.serials m + 1) L'.committed E' w) (sym (put_here w₀.settings m q)) z)

      begin_stands : (w : BeginWith) (day minute : ℕ) → Next m (beginCall w day minute) cs k true (plan y d now m (beginCall w day minute))
      unfolding plan ran deed_of
      begin_stands w day minute =
          let b = beginCall w day minute in
          let p : Plan = record { number = 0; answer = (begin_of y d m w).answer; deeds = begins w ∷ []; settings = settled_as own_kind no_tenths d now } in
          begin_cases (Next m b cs k true) y d now m w day minute
          (λ q. at_node m b cs k up p (λ a.
          let g = begun_serial y d m w [] (begin_none now day minute (begin_of y d m w).number q) in
          as_there b p a g (settled_as own_kind no_tenths d now) _ (since o cs m)
          (stands_begun m (start m) d now (K.serials m) K.committed (effects o cs) (since o cs m) (k m) (now_law b p a g) (settings_long o r cs m) _ _ _
          (same_before b p a g sets))))
          (λ q. refused_stands m b cs k _ q)

      module _ (w : BeginWith) (day minute : ℕ) (list : List ℕ) (fits : FrontTyped m (batch w day minute list)) (accepted : (begin_of y d m w).number ≡ 0)
        where
          abbrev weighing : Front
          weighing = batch w day minute list

          abbrev kept : List ℕ
          kept = classes_in now

          abbrev waiting : List ℕ
          waiting = tenths d now

          abbrev over : List ℕ
          over = settled_as batch_kind (left_of (classes_in now) (tenths d now) list) d now

          abbrev batched : Plan
          batched = record { number = 0; answer = (begin_of y d m w).answer; deeds = adding (booked d now list) (begins w ∷ []); settings = over }

          fine : Sound now
          fine = sound_parts now (settings_sound o r cs m)

          module _ (a : AllStepsTyped (steps_at m batched.deeds ++ rest)) where
            abbrev L₂ : Ledger
            L₂ = machineTold o.machine (steps_at m batched.deeds ++ rest)

            -- what is told of its amounts are its grams
            batch_told : (i : ℕ) → i < tally_count kept → L₂.new (current L₂ m) (get_or (tallies kept) i 0) ≡ grams_in kept waiting list i
            batch_told i h =
                let t = has_table kept i fine.classes h in
                let b = accepted_bounded false kept t in
                let n = length_tallies kept in
                subst (ToldGrams o.machine r.machine m rest w (tallies kept) (grams_of kept waiting list)) (sym (same_machine o cs))
                (told_grams o.machine r.machine m rest w (tallies kept) (grams_of kept waiting list) was a fits.1.0) up accepted
                (table_tallies kept t) i (omega (arith, n, h))
                ∙ grams_at kept waiting list i (omega (arith, h, b.few, b.tallied))

            abbrev E₂ : Tx → Effect
            E₂ = put Tx-discrete (effects o cs) (current L₂ m) (adds (L₂.new (current L₂ m)))

            pub batch_amounts : (i : ℕ) → i < tally_count kept → amount_of (E₂ (current L₂ m)) (get_or (tallies kept) i 0) ≡ grams_in kept waiting list i
            batch_amounts i h =
                ap (λ (e : Effect). amount_of e (get_or (tallies kept) i 0))
                (row_here Tx-discrete (effects o cs) (current L₂ m) (adds (L₂.new (current L₂ m))))
                ∙ batch_told i h

            batched_here : At m weighing cs k true batched m
            batched_here =
                let g = batch_serial y d m w (booked d now list) accepted in
                let n = next weighing batched a g in
                let e : tx m (K.serials m + 1) ≡ current L₂ m = ap (tx m) (sym n) in
                subst (With m weighing cs k true batched m) (sym (put_here (since o cs) m (with_batch (since o cs m) (current L₂ m) list)))
                (as_there weighing batched a g over E₂ (with_batch (since o cs m) (current L₂ m) list)
                (subst (λ (x : Tx). Stands m (start m) ((after w₀.machine (steps_at m batched.deeds)).records m) over (K.serials m + 1) L₂.committed E₂
                (with_batch (since o cs m) x list)) e
                (stands_batch m (start m) d now (K.serials m) K.committed (effects o cs) (since o cs m) (k m) (now_law weighing batched a g)
                (settings_long o r cs m) _ _ _ (same_before weighing batched a g (adds (L₂.new (current L₂ m)))) list fine.classes
                (λ i h. ap (λ (x : Tx). amount_of (E₂ x) (get_or (tallies kept) i 0)) e ∙ batch_amounts i h))))

      batch_stands : (w : BeginWith) (day minute : ℕ) (list : List ℕ) → FrontTyped m (batch w day minute list)
          → Next m (batch w day minute list) cs k true (plan y d now m (batch w day minute list))
      unfolding plan
      batch_stands w day minute list fits = let b = batch w day minute list in
          batch_cases (Next m b cs k true) y d now m w day minute list
          (λ q. let g = (batch_none now day minute list (begin_of y d m w).number q).1 in
          at_node m b cs k up (batched w day minute list fits g) (batched_here w day minute list fits g))
          (λ q. refused_stands m b cs k _ q)

      front_stands : (b : Front) → FrontTyped m b → Next m b cs k true (plan y d now m b)
      front_stands (beginCall w day minute) t = begin_stands w day minute
      front_stands (batch w day minute list) t = batch_stands w day minute list t
      front_stands (edit e) t = edit_stands e
      front_stands request t = request_stands
      front_stands (load_classes list) t = load_stands list

  -- ---- every list
  always_stands : (cs : List Call) → AllTyped cs → (n : ℕ) → StandsAt cs n
  unfolding made number_of settings_of
  always_stands [] t = stands_first
  always_stands (front m b ∷ cs) t = by (is_on (reached o cs) m) refl (always_stands cs t.1) (expand_typed o r (front m b ∷ cs) t)
    where
      by : (up : Bool) → is_on (reached o cs) m ≡ up → (k : (n : ℕ) → StandsAt cs n) → Next m b cs k up (plan_at (reached o cs) m b)
      by true e k = front_stands m cs k (expand_typed o r cs t.1) e b t.0
      by false e k = off_stands m b cs k (plan_at (reached o cs) m b)
  always_stands (load_hours m list ∷ cs) t = λ n. hours_stands m list cs n (always_stands cs t.1 n)
  always_stands (plain c p ∷ cs) t = λ n. plain_stands c p cs (expand_typed o r cs t.1) n (always_stands cs t.1 n)

  -- THE THEOREM
  pub weighs : (cs : List Call) → AllTyped cs → Weighs o cs
  weighs cs t = record {
    kept = λ n. law_at cs (expand_typed o r cs t) n (always_stands cs t n);
    below_10 = λ n i h.
        let s = (reached o cs).settings n in
        let z = sound_parts s (settings_sound o r cs n) in
        let b = accepted_bounded false (classes_in s) (has_table (classes_in s) i z.classes h) in
        let u = tenth_small ((reached o cs).machine.records n) s z i (omega (arith, h, b.few, b.tallied)) in
        omega (arith, u);
  }

  -- ---- the amounts that an accepted batch adds are its classes' grams
  module _ (m : ℕ) (w : BeginWith) (day minute : ℕ) (list : List ℕ) (cs : List Call) where
    abbrev call : Call
    call = front m (batch w day minute list)

    abbrev tallied : ℕ → ℕ
    tallied i = get_or (tallies (table o cs m)) i 0

    abbrev grams_by : ℕ → ℕ
    grams_by i = grams_in (table o cs m) (tenths ((reached o cs).machine.records m) ((reached o cs).settings m)) list i

    -- a plan of it that is accepted
    abbrev Grams : Plan → Type 0
    Grams p = (a : AllStepsTyped (steps_at m p.deeds ++ expand o cs)) → p.number ≡ 0 → (i : ℕ) → i < tally_count (table o cs m)
        → amount_of (cond (eqb p.number 0)
        (begun_effect o (machineTold o.machine (steps_at m p.deeds ++ expand o cs)) m (batch w day minute list) (effects o cs)) (effects o cs)
        (current (machineTold o.machine (steps_at m p.deeds ++ expand o cs)) m)) (tallied i) ≡ grams_by i

    plan_grams : AllTyped (front m (batch w day minute list) ∷ cs) → is_on (reached o cs) m ≡ true
        → Grams (plan_at (reached o cs) m (batch w day minute list))
    unfolding plan
    plan_grams t up =
        let v = reached o cs in let d = v.machine.records m in let y = system v.machine in let s = v.settings m in
        batch_cases Grams y d s m w day minute list
        (λ q a e. batch_amounts m cs (always_stands cs t.1) (expand_typed o r cs t.1) up w day minute list t.0
        (batch_none s day minute list (begin_of y d m w).number q).1 a)
        (λ q a e. absurd (q e))

    pub amounts_are_grams : AllTyped (call ∷ cs) → number_of (reached o cs) call ≡ 0 → (i : ℕ) → i < tally_count (table o cs m)
        → amount_of (effects o (call ∷ cs) (current (told o (call ∷ cs)) m)) (get_or (tallies (table o cs m)) i 0)
        ≡ grams_in (table o cs m) (tenths ((reached o cs).machine.records m) ((reached o cs).settings m)) list i
    unfolding made number_of
    amounts_are_grams t = by (is_on (reached o cs) m) refl (expand_typed o r (call ∷ cs) t)
      where
        p : Plan
        p = plan_at (reached o cs) m (batch w day minute list)

        Then : Bool → Ledger → Type 0
        Then up K' = cond up p.number (off_number (batch w day minute list) p.number) ≡ 0 → (i : ℕ) → i < tally_count (table o cs m)
            → amount_of (cond (eqb (cond up p.number (off_number (batch w day minute list) p.number)) 0)
            (begun_effect o K' m (batch w day minute list) (effects o cs)) (effects o cs) (current K' m)) (tallied i) ≡ grams_by i

        by : (up : Bool) → is_on (reached o cs) m ≡ up → AllStepsTyped (cond up (steps_at m p.deeds) [] ++ expand o cs)
            → Then up (machineTold o.machine (cond up (steps_at m p.deeds) [] ++ expand o cs))
        by true e a = plan_grams t e a
        by false e a = λ q. absurd (off_front (batch w day minute list) p.number q)
