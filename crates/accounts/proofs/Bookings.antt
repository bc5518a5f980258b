-- Every step of the service keeps what transactions that add have told (Booked), so it holds after every list.
use mathlib.Core.Path.{◌≡◌, refl, sym, ap, subst, ◌∙◌}
use mathlib.Core.Logic.{◌≢◌, inl, inr}
use mathlib.Core.Bool.{Bool, true, false, cond}
use mathlib.Core.List.{List, [], ◌∷◌, ◌++◌}
use Prim.Native.Nat.{ℕ}
use native.Mathlib.Omega.{arith}
use lib.Dec.{eqb}
use lib.ListN.{length}
use borrow.Author.Tests.{ne_eqb}
use Rattle.mask.specs.Mask.{contains}
use Rattle.replica.proofs.Delivered.{either_way}
use Rattle.classes.specs.Weights.{left_of}
use Rattle.classes.proofs.Theorems.{length_left}
use Rattle.coordinator.specs.declared.Coordinator.{Coordinator}
use Rattle.coordinator.specs.declared.BeginWith.{BeginWith}
use Rattle.coordinator.specs.System.{System}
use Rattle.coordinator.specs.State.{idle_phase, open_phase, object_at}
use Rattle.coordinator.specs.Calls.{begin_of, request_commit_of}
use Rattle.increments.specs.Sums.{sum64, past}
use Rattle.increments.specs.Deeds.{Edit, reads, writes, values, Deed, begins, edits, asks, aborts, edit_of, deed_of, ran, adding, in_use, summing, any_past}
use Rattle.steps.specs.Station.{Station, system, put_at}
use Rattle.steps.specs.Step.{Call as Step, begin, open_read, open_write, set_value, found, reselect, request_commit, abort, send, delivery, drop, switch}
use Rattle.steps.specs.Run.{after}
use Rattle.protocol.specs.Rules.{Mode, write}
use Rattle.protocol.specs.Table.{put}
use Rattle.protocol.specs.State.{Tx, Tx-discrete}
use Rattle.protocol.proofs.Lists.{suffix_whole}
use Rattle.protocol.proofs.Tables.{on, put_cases, put_here}
use Rattle.settings.specs.Settings.{settings_size, classes_in, own_kind, batch_kind, tenths, settled_as, no_tenths, classed}
use Rattle.settings.specs.Settings.{adds as kindAdds}
use Rattle.frontend.specs.Plan.{batch, edit, request, load_classes, Plan, refused_plan, booked}
use Rattle.frontend.specs.Plan.{plan, off_number}
use Rattle.frontend.specs.Plan.{Call as Front, begin as beginCall}
use Rattle.history.specs.Ledger.{Ledger, current, ledger_from}
use Rattle.history.specs.Origin.{Rested as MachineRested}
use Rattle.history.specs.Claims.{Shows}
use Rattle.history.specs.Claims.{reached as machineReached, told as machineTold, AllTyped as AllStepsTyped}
use Rattle.history.proofs.Tests.{no_both}
use Rattle.history.proofs.Carry.{put_all}
use Rattle.history.proofs.Sim.{tx}
use Rattle.history.proofs.Host.{SameTold}
use Rattle.history.proofs.Spare.{is_begin, still_next}
use Rattle.history.proofs.Claimed.{always_good, always_counts, typed_suffix}
use Rattle.service.specs.Service.{Service, Call, front, load_hours, plain, is_front, is_on, plan_at, step_at, steps_at, load_number, number_of, made}
use Rattle.service.specs.Service.{settings_of}
use Rattle.service.proofs.Laws.{put_else, after_at, after_append}
use Rattle.service.proofs.Laws.{put_here as Table-Here}
use Rattle.accounts.specs.Accounts.{Origin, Effect, sets, adds, reached, expand, told, effects, begun_effect}
use Rattle.accounts.proofs.Expand.{suffix_longer, same_machine, expand_suffix}
use Rattle.accounts.proofs.Follows.{edit_open}
use Rattle.accounts.proofs.Plans.{begin_cases, batch_cases, edit_cases, load_cases, request_cases, adding_keeps, summing_keeps}
use Rattle.accounts.proofs.Ledgers.{plain_told, SameElse, else_same, current_same, edit_else, asks_else, aborts_told, begins_told}
use Rattle.accounts.proofs.Ledgers.{ElseAfter, edit_after, asks_after}
use Rattle.accounts.proofs.Facts.{own_kind_lem, batch_kind_lem, loaded_kind, barred_none, batch_none, load_idle, off_front, edit_phase}
use Rattle.accounts.proofs.Facts.{begun_open, request_phase, request_votes}
use Rattle.accounts.proofs.Sums.{Added, request_adds}
use Rattle.accounts.proofs.Booked.{sets_not_adds, same_amount, Booked, summed_on, booked_same, booked_else}

-- a plain step is no begin, and no edit of a front end's is
pub no_begin_lem : (c : Step) → is_front c ≡ false → is_begin c ≡ false
no_begin_lem (begin n w) e = e
no_begin_lem (open_read n t) e = refl
no_begin_lem (open_write n t) e = refl
no_begin_lem (set_value n t v) e = refl
no_begin_lem (found n t) e = refl
no_begin_lem (reselect n live d) e = refl
no_begin_lem (request_commit n) e = refl
no_begin_lem (abort n) e = refl
no_begin_lem (send n to t) e = refl
no_begin_lem (delivery k kept) e = refl
no_begin_lem (drop k) e = refl
no_begin_lem (switch n up) e = refl

edit_no_begin : (n : ℕ) (e : Edit) → is_begin (step_at n (edits e)) ≡ false
edit_no_begin n (reads t) = refl
edit_no_begin n (writes t) = refl
edit_no_begin n (values t v) = refl

-- what is told is the same
all_told : (L : Ledger) → SameTold L L
all_told L = record { serials = refl; modes = refl; news = refl; parties = refl }

module _ (o : Origin) (r : MachineRested o.machine) (long : (cs : List Call) (n : ℕ) → length ((reached o cs).settings n) ≡ settings_size) where
  abbrev pub BookedAt : List Call → Type 0
  BookedAt cs = Booked o cs (reached o cs) (told o cs) (effects o cs)

  booked_first : BookedAt []
  booked_first = record {
    own = λ n p q. refl;
    adding = λ n p q. absurd (let e = r.idle n in let z : ⊥ = omega (arith, p, e) in z);
    summed = λ x g e. absurd (sets_not_adds sets g refl e);
  }

  -- ---- steps that no front end stands before, and hours
  plain_booked : (c : Step) (p : is_front c ≡ false) (cs : List Call) → BookedAt cs → BookedAt (plain c p ∷ cs)
  unfolding made settings_of ledger_from
  plain_booked c p cs k = booked_same o (plain c p) cs (reached o cs) (reached o (plain c p ∷ cs)) (told o cs) (told o (plain c p ∷ cs)) (effects o cs)
      (effects o cs) k (λ i. (still_next (reached o cs).machine i c (no_begin_lem c p)).was_open) (λ i. refl) (plain_told (told o cs) c _ _ _ p) refl

  hours_booked : (n : ℕ) (list : List ℕ) (cs : List Call) → BookedAt cs → BookedAt (load_hours n list ∷ cs)
  unfolding made settings_of
  hours_booked n list cs k = let v = reached o cs in
      booked_same o (load_hours n list) cs v (reached o (load_hours n list ∷ cs)) (told o cs) (told o cs) (effects o cs) (effects o cs) k
      (λ i p. p)
      (λ i. either_way (λ (f : ℕ → List ℕ). kindAdds (f i) ≡ kindAdds (v.settings i)) (eqb (load_number v n list) 0) _ _
      (put_all (λ (j : ℕ) (s : List ℕ). kindAdds s ≡ kindAdds (v.settings j)) v.settings n _ (loaded_kind (v.settings n) list (long cs n))
      (λ j e. refl) i) refl)
      (all_told (told o cs)) refl

  -- ---- a front end's call at a node
  module _ (n : ℕ) (b : Front) (cs : List Call) (k : BookedAt cs) where
    abbrev v : Service
    v = reached o cs

    abbrev st : Station
    st = v.machine

    abbrev c : Coordinator
    c = st.records n

    abbrev s : List ℕ
    s = v.settings n

    abbrev L : Ledger
    L = told o cs

    abbrev E : Tx → Effect
    E = effects o cs

    abbrev es : List Step
    es = expand o cs

    -- what a plan makes of them, at a node that is on (true) or off
    abbrev steps : Bool → Plan → List Step
    steps up p = cond up (steps_at n p.deeds) []

    abbrev v₁ : Bool → Plan → Service
    v₁ up p = record { machine = after st (steps up p); settings = cond up (put_at v.settings n p.settings) v.settings }

    abbrev L₁ : Bool → Plan → Ledger
    L₁ up p = machineTold o.machine (steps up p ++ es)

    abbrev E₁ : Bool → Plan → Tx → Effect
    E₁ up p = cond (eqb (cond up p.number (off_number b p.number)) 0) (begun_effect o (L₁ up p) n b E) E

    abbrev Next : Bool → Plan → Type 0
    Next up p = AllStepsTyped (steps up p ++ es) → Booked o (front n b ∷ cs) (v₁ up p) (L₁ up p) (E₁ up p)

    off_booked : (p : Plan) → Next false p
    off_booked p a = booked_same o (front n b) cs v (v₁ false p) L L E (E₁ false p) k (λ i q. q) (λ i. refl) (all_told L)
        (ap (λ (t : Bool). cond t (begun_effect o (L₁ false p) n b E) E) (ne_eqb (off_number b p.number) 0 (off_front b p.number)))

    -- other settings are as they were, and so are these where they are put again
    kinds_else : (q : List ℕ) (i : ℕ) → i ≢ n → kindAdds (put_at v.settings n q i) ≡ kindAdds (v.settings i)
    kinds_else q i e = ap kindAdds (put_else v.settings n q i e)

    kinds_again : (i : ℕ) → kindAdds (put_at v.settings n s i) ≡ kindAdds (v.settings i)
    kinds_again = put_all (λ (j : ℕ) (l : List ℕ). kindAdds l ≡ kindAdds (v.settings j)) v.settings n s refl (λ j e. refl)

    kind_here : (q : List ℕ) → kindAdds (put_at v.settings n q n) ≡ kindAdds q
    kind_here q = ap kindAdds (Table-Here v.settings n q)

    refused_booked : (number : ℕ) → (number ≡ 0 → ⊥) → Next true (refused_plan number s)
    refused_booked number e a = let p = refused_plan number s in
        booked_same o (front n b) cs v (v₁ true p) L L E (E₁ true p) k (λ i q. q) kinds_again (all_told L)
        (ap (λ (t : Bool). cond t (begun_effect o (L₁ true p) n b E) E) (ne_eqb number 0 e))

    -- ---- at a node that is on
    module _ (up : contains st.own.on n ≡ true) where
      record_here : (ds : List Deed) → (after st (steps_at n ds)).records n ≡ ran (system st) c n ds
      record_here ds = ap (λ (w : Station). w.records n) (after_at st n ds up) ∙ Table-Here st.records n (ran (system st) c n ds)

      record_else : (ds : List Deed) (i : ℕ) → i ≢ n → (after st (steps_at n ds)).records i ≡ st.records i
      record_else ds i e = ap (λ (w : Station). w.records i) (after_at st n ds up) ∙ put_else st.records n (ran (system st) c n ds) i e

      phases_else : (ds : List Deed) (i : ℕ) → i ≢ n → ((after st (steps_at n ds)).records i).phase ≡ open_phase → (st.records i).phase ≡ open_phase
      phases_else ds i e p = ap (λ (d : Coordinator). d.phase) (sym (record_else ds i e)) ∙ p

      -- the machine is the one that the steps reach
      reach : (l : List Step) → after st l ≡ machineReached o.machine (l ++ es)
      reach l = ap (λ (w : Station). after w l) (same_machine o cs) ∙ sym (after_append o.machine.station l es)

      -- of a transaction that is the host's own while it is open, no sums are asked
      own_not : (g : ℕ → ℕ) → c.phase ≡ open_phase → kindAdds s ≡ false → E (current L n) ≡ adds g → ⊥
      own_not g p q = sets_not_adds (E (current L n)) g (k.own n p q)

      -- deeds of the host's own transaction, while it is open
      module _ (p : Plan) (same_effect : E₁ true p ≡ E) (same_kind : p.settings ≡ s) (own : kindAdds s ≡ false) (was : c.phase ≡ open_phase)
          (else : SameElse L (L₁ true p) n)
          (still : ((after st (steps_at n p.deeds)).records n).phase ≡ open_phase → c.phase ≡ open_phase) where
        own_booked : Booked o (front n b ∷ cs) (v₁ true p) (L₁ true p) (E₁ true p)
        own_booked = booked_else o (front n b) cs v (v₁ true p) L (L₁ true p) E (E₁ true p) k n (current L n) refl
            (record {
              phases = phases_else p.deeds;
              kinds = kinds_else p.settings;
              serials = λ i e. ap (λ (f : ℕ → ℕ). f i) else.serials;
              effects = λ y e. ap (λ (f : Tx → Effect). f y) same_effect;
              modes = else.modes;
              news = else.news;
              parties = else.parties;
            })
            (λ q z. ap (E₁ true p) (current_same L (L₁ true p) n else.serials) ∙ ap (λ (f : Tx → Effect). f (current L n)) same_effect ∙ k.own n was own)
            (λ q z. absurd (no_both z (kind_here p.settings ∙ ap kindAdds same_kind ∙ own)))
            (λ g e. absurd (own_not g was own (ap (λ (f : Tx → Effect). f (current L n)) (sym same_effect) ∙ e)))

  -- ---- the calls, at a node that is on
  module _ (n : ℕ) (cs : List Call) (k : BookedAt cs) (up : contains (reached o cs).machine.own.on n ≡ true) where
    abbrev w₀ : Service
    w₀ = reached o cs

    abbrev y : System
    y = system w₀.machine

    abbrev d : Coordinator
    d = w₀.machine.records n

    abbrev now : List ℕ
    now = w₀.settings n

    abbrev K : Ledger
    K = told o cs

    abbrev rest : List Step
    rest = expand o cs

    edit_booked : (e : Edit) → Next n (edit e) cs k true (plan y d now n (edit e))
    unfolding plan ledger_from
    edit_booked e = edit_cases (Next n (edit e) cs k true) d now n e
        (λ q a. let z = barred_none (kindAdds now) (edit_of d n e).number q in
        own_booked n (edit e) cs k up (record { number = 0; answer = (edit_of d n e).answer; deeds = edits e ∷ []; settings = now }) refl refl z.0
        (edit_phase d n e z.1) (edit_else K n _ _ _ e) (still_next w₀.machine n (step_at n (edits e)) (edit_no_begin n e)).was_open)
        (λ q a. refused_booked n (edit e) cs k _ q a)

    load_booked : (list : List ℕ) → Next n (load_classes list) cs k true (plan y d now n (load_classes list))
    unfolding plan
    load_booked list = let x = current K n in load_cases (Next n (load_classes list) cs k true) d now n list
        (λ q a. booked_else o (front n (load_classes list)) cs w₀ _ K K (effects o cs) (effects o cs) k n x refl
        (record {
          phases = λ i e p. p;
          kinds = kinds_else n (load_classes list) cs k (classed now list);
          serials = λ i e. refl;
          effects = λ z e. refl;
          modes = λ z e t. refl;
          news = λ z e t. refl;
          parties = λ z e. refl;
        })
        (λ p z. absurd (idle_not_open (load_idle d n list q) p)) (λ p z. absurd (idle_not_open (load_idle d n list q) p))
        (λ g e. summed_on o (front n (load_classes list)) cs K K x g (λ t. refl) (λ t. refl) refl (k.summed x g e)))
        (λ q a. refused_booked n (load_classes list) cs k _ q a)
      where
        idle_not_open : d.phase ≡ idle_phase → d.phase ≡ open_phase → ⊥
        idle_not_open e f = omega (arith, e, f)

    -- ---- votes asked for on a batch
    module _ (kind : kindAdds now ≡ true) (taken : (request_commit_of y d n).number ≡ 0) (fits : any_past d ≡ false) where
      abbrev sums : List Deed
      sums = asks ∷ summing (in_use d) []

      abbrev then : Plan
      then = record { number = 0; answer = (request_commit_of y d n).answer; deeds = sums; settings = now }

      sums_else : SameElse K (machineTold o.machine (steps_at n sums ++ rest)) n
      sums_else = asks_after o.machine K n rest (summing (in_use d) [])
          (summing_keeps (ElseAfter o.machine K n rest) (λ t v. edit_after o.machine K n rest (values t v)) (in_use d) [] (else_same K n))

      added : AllStepsTyped (steps_at n sums ++ rest) → Added o.machine r n rest w₀.machine
      added a = subst (Added o.machine r n rest) (sym (same_machine o cs)) (request_adds o.machine r n rest
          (typed_suffix o.machine r rest (steps_at n sums ++ rest) (suffix_longer rest (steps_at n sums) rest (suffix_whole rest)) a)
          (subst (λ (z : Station). contains z.own.on n ≡ true) (same_machine o cs) up)
          (subst (λ (z : Station). (request_commit_of (system z) (z.records n) n).number ≡ 0) (same_machine o cs) taken))

      -- it votes, for the sums leave the request as it was
      not_open : AllStepsTyped (steps_at n sums ++ rest) → ((after w₀.machine (steps_at n sums)).records n).phase ≡ open_phase → ⊥
      unfolding ran deed_of
      not_open a p =
          let q = ap (λ (z : Coordinator). z.phase) (record_here n request cs k up sums)
          ∙ request_votes y n (ran y d n (summing (in_use d) [])) (added a).still_taken in
          omega (arith, p, q)

      sums_booked : Next n request cs k true then
      sums_booked a =
          let x = current K n in
          let f = added a in
          let z = k.adding n (request_phase y n d taken) kind in
          booked_else o (front n request) cs w₀ _ K _ (effects o cs) (effects o cs) k n x refl
          (record {
            phases = phases_else n request cs k up sums;
            kinds = kinds_else n request cs k now;
            serials = λ i e. ap (λ (g : ℕ → ℕ). g i) sums_else.serials;
            effects = λ i e. refl;
            modes = sums_else.modes;
            news = sums_else.news;
            parties = sums_else.parties;
          })
          (λ p q. absurd (not_open a p)) (λ p q. absurd (not_open a p))
          (λ g e. inr (λ t m.
          let m' : K.mode x t ≡ write = ap (λ (h : Tx → ℕ → Mode). h x t) (sym f.modes) ∙ m in
          let amount : (object_at d t).new ≡ g t = sym (f.news t) ∙ z.2 t ∙ same_amount (effects o cs x) z.0 g z.1 e t in
          record {
            value = (object_at d t).value;
            when = cs;
            earlier = inr (suffix_whole cs);
            finds = subst (λ (i : ℕ). Shows y d i t (object_at d t).value) f.serial (f.shows t (f.opened t m'));
            is_sum = f.sums t m' ∙ ap (sum64 (object_at d t).value) amount;
            in_range = ap (past (object_at d t).value) (sym amount) ∙ f.in_range fits t (f.opened t m');
          }))

    request_booked : Next n request cs k true (plan y d now n request)
    unfolding plan ledger_from
    request_booked = request_cases (Next n request cs k true) y d now n
        (λ m q f a. booked_same o (front n request) cs w₀ _ K _ (effects o cs) (effects o cs) k
        (λ i. (still_next w₀.machine i (step_at n aborts) refl).was_open) (kinds_again n request cs k) (aborts_told K n _ _ _) refl)
        (λ m q f. sums_booked m q f)
        (λ m q a. own_booked n request cs k up
        (record { number = 0; answer = (request_commit_of y d n).answer; deeds = asks ∷ []; settings = now }) refl refl m (request_phase y n d q)
        (asks_else K n _ _ _) (still_next w₀.machine n (step_at n asks) refl).was_open)
        (λ q a. refused_booked n request cs k _ q a)

    -- ---- a begin, and a batch: of another transaction, which is the node's present one then
    begin_booked : (w : BeginWith) (day minute : ℕ) → Next n (beginCall w day minute) cs k true (plan y d now n (beginCall w day minute))
    unfolding plan ledger_from
    begin_booked w day minute =
        let b = beginCall w day minute in
        let p : Plan = record { number = 0; answer = (begin_of y d n w).answer; deeds = begins w ∷ []; settings = settled_as own_kind no_tenths d now } in
        let L' = L₁ n b cs k true p in
        let x = current L' n in
        let t = begins_told K n _ _ _ w in
        begin_cases (Next n b cs k true) y d now n w day minute
        (λ q a. booked_else o (front n b) cs w₀ _ K L' (effects o cs) (put Tx-discrete (effects o cs) x sets) k n x refl
        (record {
          phases = phases_else n b cs k up (begins w ∷ []);
          kinds = kinds_else n b cs k (settled_as own_kind no_tenths d now);
          serials = t.serials;
          effects = λ z e. on (put_cases Tx-discrete (effects o cs) x sets z) (λ h. absurd (e h.0)) (λ h. h.1);
          modes = λ z e u. ap (λ (f : Tx → ℕ → Mode). f z u) t.modes;
          news = λ z e u. ap (λ (f : Tx → ℕ → ℕ). f z u) t.news;
          parties = λ z e. ap (λ (f : Tx → ℕ). f z) t.parties;
        })
        (λ h z. put_here Tx-discrete (effects o cs) x sets)
        (λ h z. absurd (no_both z (kind_here n b cs k (settled_as own_kind no_tenths d now) ∙ own_kind_lem d now (long cs n))))
        (λ g e. absurd (sets_not_adds _ g (put_here Tx-discrete (effects o cs) x sets) e)))
        (λ q a. refused_booked n b cs k _ q a)

    module _ (w : BeginWith) (day minute : ℕ) (list : List ℕ) (accepted : (begin_of y d n w).number ≡ 0) where
      abbrev weighed : Front
      weighed = batch w day minute list

      abbrev deeds : List Deed
      deeds = adding (booked d now list) (begins w ∷ [])

      abbrev left : List ℕ
      left = settled_as batch_kind (left_of (classes_in now) (tenths d now) list) d now

      abbrev batched : Plan
      batched = record { number = 0; answer = (begin_of y d n w).answer; deeds = deeds; settings = left }

      abbrev all : List Step
      all = steps_at n deeds ++ rest

      batched_kind : kindAdds left ≡ true
      batched_kind = batch_kind_lem (left_of (classes_in now) (tenths d now) list) d now (length_left (classes_in now) (tenths d now) list) (long cs n)

      -- the ledger after the begin, and after all of it
      abbrev K₁ : Ledger
      K₁ = machineTold o.machine (begin n w ∷ rest)

      abbrev K₂ : Ledger
      K₂ = machineTold o.machine all

      batch_else : SameElse K₁ K₂ n
      batch_else = adding_keeps (ElseAfter o.machine K₁ n rest) (edit_after o.machine K₁ n rest) (booked d now list) (begins w ∷ []) (else_same K₁ n)

      -- it is open, and so nobody was asked
      is_open_lem : (ran y d n deeds).phase ≡ open_phase
      unfolding ran deed_of
      is_open_lem = adding_keeps (λ (ds : List Deed). (ran y d n ds).phase ≡ open_phase)
          (λ e ds h. on (edit_open (ran y d n ds) n e) (λ q. ap (λ (z : Coordinator). z.phase) q ∙ h) (λ z. z.0))
          (booked d now list) (begins w ∷ []) (begun_open y d n w accepted)

      unasked : AllStepsTyped all → K₂.participants (current K₂ n) ≡ 0
      unasked a =
          let z = machineReached o.machine all in
          let p : (z.records n).phase ≡ open_phase = ap (λ (h : Station). (h.records n).phase) (sym (reach n weighed cs k up (steps_at n deeds)))
          ∙ ap (λ (h : Coordinator). h.phase) (record_here n weighed cs k up deeds) ∙ is_open_lem in
          ap (λ (i : ℕ). K₂.participants (tx n i)) ((always_good o.machine r all a).world.books.present n).serial_as
          ∙ (((always_counts o.machine r all a).counted n).while_open p).unasked

      batched_booked : Next n weighed cs k true batched
      unfolding ledger_from
      batched_booked a =
          let x = current K₂ n in
          let t = begins_told K n _ _ _ w in
          let was : (z : Tx) → z ≢ x → z ≢ current K₁ n = λ z e q. e (q ∙ sym (current_same K₁ K₂ n batch_else.serials)) in
          booked_else o (front n weighed) cs w₀ _ K K₂ (effects o cs) (put Tx-discrete (effects o cs) x (adds (K₂.new x))) k n x refl
          (record {
            phases = phases_else n weighed cs k up deeds;
            kinds = kinds_else n weighed cs k left;
            serials = λ i e. ap (λ (f : ℕ → ℕ). f i) batch_else.serials ∙ t.serials i e;
            effects = λ z e. on (put_cases Tx-discrete (effects o cs) x (adds (K₂.new x)) z) (λ h. absurd (e h.0)) (λ h. h.1);
            modes = λ z e u. batch_else.modes z (was z e) u ∙ ap (λ (f : Tx → ℕ → Mode). f z u) t.modes;
            news = λ z e u. batch_else.news z (was z e) u ∙ ap (λ (f : Tx → ℕ → ℕ). f z u) t.news;
            parties = λ z e. batch_else.parties z (was z e) ∙ ap (λ (f : Tx → ℕ). f z) t.parties;
          })
          (λ h z. absurd (no_both (kind_here n weighed cs k left ∙ batched_kind) z))
          (λ h z. (K₂.new x, put_here Tx-discrete (effects o cs) x (adds (K₂.new x)), λ u. refl))
          (λ g e. inl (unasked a))

    batch_booked : (w : BeginWith) (day minute : ℕ) (list : List ℕ) → Next n (batch w day minute list) cs k true (plan y d now n (batch w day minute list))
    unfolding plan
    batch_booked w day minute list = batch_cases (Next n (batch w day minute list) cs k true) y d now n w day minute list
        (λ q. batched_booked w day minute list (batch_none now day minute list (begin_of y d n w).number q).1)
        (λ q a. refused_booked n (batch w day minute list) cs k _ q a)

    front_booked : (b : Front) → Next n b cs k true (plan y d now n b)
    front_booked (beginCall w day minute) = begin_booked w day minute
    front_booked (batch w day minute list) = batch_booked w day minute list
    front_booked (edit e) = edit_booked e
    front_booked request = request_booked
    front_booked (load_classes list) = load_booked list

  -- ---- every list
  pub always_booked : (cs : List Call) → AllStepsTyped (expand o cs) → BookedAt cs
  unfolding made number_of settings_of
  always_booked [] a = booked_first
  always_booked (front n b ∷ cs) a = by (is_on (reached o cs) n) refl
      (always_booked cs (typed_suffix o.machine r (expand o cs) (expand o (front n b ∷ cs))
      (expand_suffix o cs (front n b ∷ cs) (inr (suffix_whole cs))) a)) a
    where
      by : (up : Bool) → is_on (reached o cs) n ≡ up → (k : BookedAt cs) → Next n b cs k up (plan_at (reached o cs) n b)
      by true e k = front_booked n cs k e b
      by false e k = off_booked n b cs k (plan_at (reached o cs) n b)
  always_booked (load_hours n list ∷ cs) a = hours_booked n list cs (always_booked cs a)
  always_booked (plain c p ∷ cs) a = plain_booked c p cs (always_booked cs a.1)
