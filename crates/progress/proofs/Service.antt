-- The oldest gets through at the service: what its steps make of the machine (crate accounts) are steps that spare the transaction, hand over the same
-- messages, and begin with the machine's own request for votes. A front end gives up only a batch that is open still.
use mathlib.Core.Path.{◌≡◌, refl, sym, ap, ap₂, subst, ◌∙◌}
use mathlib.Core.Logic.{◌≢◌, ◌⊎◌, inl, inr}
use mathlib.Core.Bool.{Bool, true, false, cond}
use mathlib.Core.List.{List, [], ◌∷◌, ◌++◌, append_assoc}
use Prim.Native.Nat.{ℕ}
use native.Mathlib.Omega.{arith}
use borrow.Author.Tests.{eq-eqb}
use Rattle.mask.specs.Mask.{contains}
use Rattle.coordinator.specs.declared.Coordinator.{Coordinator}
use Rattle.coordinator.specs.System.{System}
use Rattle.coordinator.specs.State.{open_phase}
use Rattle.coordinator.specs.Calls.{request_commit_of}
use Rattle.clauses.proofs.Facts.{Meets}
use Rattle.clauses.proofs.Quorums.{Quorums}
use Rattle.increments.specs.Deeds.{Edit, reads, writes, values, Deed, begins, edits, asks, aborts, ran, in_use, summing}
use Rattle.increments.proofs.Laws.{summed_number}
use Rattle.steps.specs.Station.{Own, Station, system, with_record}
use Rattle.steps.specs.Step.{request_commit, abort, step, hosted}
use Rattle.steps.specs.Step.{Call as Step}
use Rattle.steps.specs.Run.{after}
use Rattle.frontend.specs.Plan.{Plan, plan, begin, batch, edit, request, load_classes, off_number, booked}
use Rattle.frontend.specs.Plan.{Call as Front}
use Rattle.service.specs.Service.{Service, Call, front, load_hours, plain, is_on, plan_at, step_at, steps_at, made, number_of}
use Rattle.service.proofs.Laws.{after_at, after_append, put_here}
use Rattle.protocol.specs.Table.{In}
use Rattle.protocol.specs.State.{Tx}
use Rattle.protocol.specs.Proof.Tables.{clash}
use Rattle.protocol.proofs.Tables.{on}
use Rattle.history.specs.Origin.{Origin as Machine}
use Rattle.history.specs.Claims.{reached as machineReached, account as machineAccount, AllTyped as AllStepsTyped}
use Rattle.history.proofs.Claimed.{always_good}
use Rattle.accounts.specs.Accounts.{Origin, Rested, AllTyped, reached, expand, told, account}
use Rattle.accounts.proofs.Expand.{same_machine}
use Rattle.accounts.proofs.OnMachine.{plain_same}
use Rattle.accounts.proofs.Plans.{begin_cases, batch_cases, edit_cases, load_cases, request_cases, adding_keeps, summing_keeps}
use Rattle.accounts.proofs.Facts.{off_front, request_phase}
use Rattle.accounts.proofs.Typed.{expand_typed}
use Rattle.progress.specs.Deliveries.{handed_by}
use Rattle.progress.specs.Oldest.{Voting, Near, Unopposed, GetsThrough, deliveries, Spares, Undisturbed, OldestThrough, acts}
use Rattle.progress.specs.Service.{handed_at, service_acts}
use Rattle.progress.proofs.Through.{oldest_through}

-- ---- deeds: none hands a message over, and only giving up is an abort
deed_hands : (st : Station) (n : ℕ) (d : Deed) → handed_by st (step_at n d) ≡ []
unfolding handed_by
deed_hands st n (begins w) = refl
deed_hands st n (edits (reads t)) = refl
deed_hands st n (edits (writes t)) = refl
deed_hands st n (edits (values t v)) = refl
deed_hands st n asks = refl
deed_hands st n aborts = refl

no_abort : (n o : ℕ) (d : Deed) → d ≢ aborts → step_at n d ≡ abort o → ⊥
no_abort n o (begins w) q e = clash (cc)
no_abort n o (edits (reads t)) q e = clash (cc)
no_abort n o (edits (writes t)) q e = clash (cc)
no_abort n o (edits (values t v)) q e = clash (cc)
no_abort n o asks q e = clash (cc)
no_abort n o aborts q e = q refl

same_node : (n o : ℕ) → abort n ≡ abort o → n ≡ o
same_node n o e = cc

abbrev NoneAborts : List Deed → Type 0
NoneAborts [] = Unit {0}
NoneAborts (d ∷ ds) = (d ≢ aborts) × NoneAborts ds

-- a plan has no abort, or it is nothing but one, of what is open
abbrev GivesUpOpen : Coordinator → Plan → Type 0
GivesUpOpen c p = NoneAborts p.deeds ⊎ ((p.deeds ≡ aborts ∷ []) × (c.phase ≡ open_phase))

edit_not : (e : Edit) → edits e ≢ aborts
edit_not e q = clash (cc)

gives_up_open : (y : System) (c : Coordinator) (s : List ℕ) (me : ℕ) (a : Front) → GivesUpOpen c (plan y c s me a)
unfolding plan
gives_up_open y c s me (begin w day minute) = begin_cases (GivesUpOpen c) y c s me w day minute (λ e. inl (λ q. clash (cc), tt)) (λ e. inl tt)
gives_up_open y c s me (batch w day minute list) = batch_cases (GivesUpOpen c) y c s me w day minute list
    (λ e. inl (adding_keeps NoneAborts (λ d ds h. (edit_not d, h)) (booked c s list) (begins w ∷ []) (λ q. clash (cc), tt))) (λ e. inl tt)
gives_up_open y c s me (edit e) = edit_cases (GivesUpOpen c) c s me e (λ q. inl (edit_not e, tt)) (λ q. inl tt)
gives_up_open y c s me request = request_cases (GivesUpOpen c) y c s me (λ a e f. inr (refl, request_phase y me c e))
    (λ a e f. inl (λ q. clash (cc), summing_keeps NoneAborts (λ t v ds h. (edit_not (values t v), h)) (in_use c) [] tt))
    (λ a e. inl (λ q. clash (cc), tt)) (λ e. inl tt)
gives_up_open y c s me (load_classes list) = load_cases (GivesUpOpen c) c s me list (λ e. inl tt) (λ e. inl tt)

-- ---- an accepted request is the machine's own, behind a batch's sums
pub record Requests (v : Service) (n : ℕ) : Type 0 where
  pub before : List Deed
  pub steps : made v (front n request) ≡ request_commit n ∷ steps_at n before
  pub number : (step (after v.machine (steps_at n before)) (request_commit n)).number ≡ 0

module _ (v : Service) (n : ℕ) where
  abbrev st : Station
  st = v.machine

  taken_number : (w : Station) (c : Coordinator) → contains w.own.on n ≡ true → w.records n ≡ c → (request_commit_of (system w) c n).number ≡ 0
      → (step w (request_commit n)).number ≡ 0
  unfolding step hosted
  taken_number w c up e z =
      let k : (request_commit_of (system w) (w.records n) n).number ≡ 0 = ap (λ (d : Coordinator). (request_commit_of (system w) d n).number) e ∙ z in
      simp (up, eq-eqb _ 0 k)

  abbrev Asks : Plan → Type 0
  Asks p = (ds : List Deed) × (p.deeds ≡ asks ∷ ds) × ((step (after st (steps_at n ds)) (request_commit n)).number ≡ 0)

  asks_accepted : Quorums (system st) → Meets (system st) (st.records n) → contains st.own.on n ≡ true → (s : List ℕ)
      → (plan (system st) (st.records n) s n request).number ≡ 0 → Asks (plan (system st) (st.records n) s n request)
  unfolding plan
  asks_accepted q m up s = request_cases (λ (p : Plan). p.number ≡ 0 → Asks p) (system st) (st.records n) s n
      (λ a e f z. absurd (let y : ⊥ = omega (arith, z) in y))
      (λ a e f z. let ds = summing (in_use (st.records n)) [] in let k = after_at st n ds up in (
        ds,
        refl,
        ap (λ (w : Station). (step w (request_commit n)).number) k
            ∙ taken_number (with_record st n (ran (system st) (st.records n) n ds)) _ up (put_here st.records n _)
            (summed_number (system st) q (st.records n) n m e).0,
      ))
      (λ a e z. ([], refl, taken_number st (st.records n) up refl e))
      (λ e z. absurd (e z))

  accepted : Quorums (system st) → Meets (system st) (st.records n) → number_of v (front n request) ≡ 0 → Requests v n
  unfolding number_of made
  accepted q m = by (is_on v n) refl
    where
      by : (up : Bool) → is_on v n ≡ up → cond up (plan_at v n request).number (off_number request (plan_at v n request).number) ≡ 0
          → Requests v n
      by true up z = let a = asks_accepted q m up (v.settings n) z in record {
        before = a.0;
        steps = ap (λ (b : Bool). cond b (steps_at n (plan_at v n request).deeds) []) up ∙ ap (steps_at n) a.1;
        number = a.2;
      }
      by false up z = absurd (off_front request (plan_at v n request).number z)

-- ---- lists of the service's steps
tail_typed : (es ds : List Call) → AllTyped (es ++ ds) → AllTyped ds
tail_typed [] ds a = a
tail_typed (c ∷ es) ds a = tail_typed es ds a.1

module _ (o : Origin) where
  abbrev g : Machine
  g = o.machine

  -- the machine's steps that es make behind base
  abbrev steps_of : List Call → List Call → List Step
  steps_of base [] = []
  steps_of base (c ∷ es) = made (reached o (es ++ base)) c ++ steps_of base es

  expand_on : (es base : List Call) → expand o (es ++ base) ≡ steps_of base es ++ expand o base
  expand_on [] base = refl
  expand_on (c ∷ es) base = ap (λ (l : List Step). made (reached o (es ++ base)) c ++ l) (expand_on es base)
      ∙ sym (append_assoc (made (reached o (es ++ base)) c) (steps_of base es) (expand o base))

  machine_at : (es base : List Call) → (reached o (es ++ base)).machine ≡ machineReached g (steps_of base es ++ expand o base)
  machine_at es base = same_machine o (es ++ base) ∙ ap (machineReached g) (expand_on es base)

  -- ---- they hand over the same messages
  nothing_handed : (n : ℕ) (ds : List Deed) (base k : List Step)
      → deliveries (machineAccount g) (acts g) base (steps_at n ds ++ k) ≡ deliveries (machineAccount g) (acts g) base k
  nothing_handed n [] base k = refl
  nothing_handed n (d ∷ ds) base k =
      ap₂ (λ (h l : List (List ℕ)). h ++ l) (deed_hands (machineReached g ((steps_at n ds ++ k) ++ base)) n d) (nothing_handed n ds base k)

  same_handed : (es base : List Call)
      → deliveries (account o) (service_acts o) base es ≡ deliveries (machineAccount g) (acts g) (expand o base) (steps_of base es)
  unfolding handed_at made
  same_handed [] base = refl
  same_handed (front n a ∷ es) base = same_handed es base ∙ by (is_on (reached o (es ++ base)) n)
    where
      by : (up : Bool) → deliveries (machineAccount g) (acts g) (expand o base) (steps_of base es)
          ≡ deliveries (machineAccount g) (acts g) (expand o base) (cond up (steps_at n (plan_at (reached o (es ++ base)) n a).deeds) [] ++ steps_of base es)
      by true = sym (nothing_handed n (plan_at (reached o (es ++ base)) n a).deeds (expand o base) (steps_of base es))
      by false = refl
  same_handed (load_hours n list ∷ es) base = same_handed es base
  same_handed (plain c p ∷ es) base =
      ap₂ (λ (st : Station) (l : List (List ℕ)). handed_by st c ++ l) (machine_at es base) (same_handed es base)

  -- ---- and spare what the service's steps spare
  module _ (x : Tx) (p : ℕ) where
    abbrev Up : Own → Type 0
    Up own = (i : ℕ) → Near x p i → contains own.on i ≡ true

    -- deeds leave who is on
    deeds_own : (n : ℕ) (ds : List Deed) (k : List Step) → contains (machineReached g k).own.on n ≡ true
        → (machineReached g (steps_at n ds ++ k)).own ≡ (machineReached g k).own
    deeds_own n ds k up = ap (λ (st : Station). st.own) (after_append g.station (steps_at n ds) k ∙ after_at (machineReached g k) n ds up)

    front_own : (v : Service) (n : ℕ) (a : Front) → (after v.machine (made v (front n a))).own ≡ v.machine.own
    unfolding made
    front_own v n a = by (is_on v n) refl
      where
        by : (up : Bool) → is_on v n ≡ up → (after v.machine (cond up (steps_at n (plan_at v n a).deeds) [])).own ≡ v.machine.own
        by true up = ap (λ (st : Station). st.own) (after_at v.machine n (plan_at v n a).deeds up)
        by false up = refl

    deed_spares : (n : ℕ) (d : Deed) (k : List Step) → Up (machineReached g (step_at n d ∷ k)).own
        → (step_at n d ≡ abort x.owner → Voting (machineReached g k) x → ⊥) → Spares (machineAccount g) (acts g) x p k (step_at n d)
    deed_spares n d k up kept = record {
      stays_up = up;
      not_given_up = kept;
      its_own = λ b i. absurd (subst (In b) (deed_hands (machineReached g k) n d) i);
    }

    deeds_spare : (n : ℕ) (ds : List Deed) (base k : List Step) → contains (machineReached g (k ++ base)).own.on n ≡ true
        → Up (machineReached g (k ++ base)).own → NoneAborts ds → Undisturbed (machineAccount g) (acts g) x p base k
        → Undisturbed (machineAccount g) (acts g) x p base (steps_at n ds ++ k)
    deeds_spare n [] base k on up none u = u
    deeds_spare n (d ∷ ds) base k on up none u = (
      deed_spares n d ((steps_at n ds ++ k) ++ base)
          (subst Up (sym (ap (λ (l : List Step). (machineReached g (step_at n d ∷ l)).own) (append_assoc (steps_at n ds) k base)
          ∙ deeds_own n (d ∷ ds) (k ++ base) on)) up)
          (λ e. absurd (no_abort n x.owner d none.0 e)),
      deeds_spare n ds base k on up none.1 u,
    )

    -- a front end's call leaves who is on, and gives up what is open only
    front_spares : (es base : List Call) (n : ℕ) (a : Front) → Up (reached o (front n a ∷ es ++ base)).machine.own
        → Undisturbed (machineAccount g) (acts g) x p (expand o base) (steps_of base es)
        → Undisturbed (machineAccount g) (acts g) x p (expand o base) (steps_of base (front n a ∷ es))
    unfolding made
    front_spares es base n a ups u = by (is_on v n) refl
      where
        v : Service
        v = reached o (es ++ base)

        deeds : List Deed
        deeds = (plan_at v n a).deeds

        k : List Step
        k = steps_of base es

        before : Up (machineReached g (k ++ expand o base)).own
        before = subst Up (front_own v n a ∙ ap (λ (st : Station). st.own) (machine_at es base)) ups

        gives_up : contains (machineReached g (k ++ expand o base)).own.on n ≡ true → (v.machine.records n).phase ≡ open_phase
            → Undisturbed (machineAccount g) (acts g) x p (expand o base) (abort n ∷ k)
        gives_up here ph = (
          deed_spares n aborts (k ++ expand o base) (subst Up (sym (deeds_own n (aborts ∷ []) (k ++ expand o base) here)) before)
              (λ e w. let q = w.1 in
              let i = ap (λ (m : ℕ). ((machineReached g (k ++ expand o base)).records m).phase) (same_node n x.owner e) in
              let h = ap (λ (st : Station). (st.records n).phase) (machine_at es base) in
              let z : ⊥ = omega (arith, q, i, h, ph) in z),
          u,
        )

        by : (up : Bool) → is_on v n ≡ up → Undisturbed (machineAccount g) (acts g) x p (expand o base) (cond up (steps_at n deeds) [] ++ k)
        by true up =
            let here = subst (λ (st : Station). contains st.own.on n ≡ true) (machine_at es base) up in
            on (gives_up_open (system v.machine) (v.machine.records n) (v.settings n) n a)
            (λ none. deeds_spare n deeds (expand o base) k here before none u)
            (λ z. subst (λ (ds : List Deed). Undisturbed (machineAccount g) (acts g) x p (expand o base) (steps_at n ds ++ k)) (sym z.0)
            (gives_up here z.1))
        by false up = u

    spared : (es base : List Call) → Undisturbed (account o) (service_acts o) x p base es
        → Undisturbed (machineAccount g) (acts g) x p (expand o base) (steps_of base es)
    unfolding made handed_at
    spared [] base u = tt
    spared (front n a ∷ es) base u = front_spares es base n a u.0.stays_up (spared es base u.1)
    spared (load_hours n list ∷ es) base u = spared es base u.1
    spared (plain c q ∷ es) base u = (
      record {
        stays_up = λ i h. subst (λ (st : Station). contains st.own.on i ≡ true) (machine_at (plain c q ∷ es) base) (u.0.stays_up i h);
        not_given_up = λ e w. u.0.not_given_up (plain_same c (abort x.owner) q refl e)
            (subst (λ (st : Station). Voting st x) (sym (machine_at es base)) w);
        its_own = λ b i. u.0.its_own b (subst (λ (st : Station). In b (handed_by st c)) (sym (machine_at es base)) i);
      },
      spared es base u.1,
    )

  -- ---- THE THEOREM
  module _ (r : Rested o) where
    asked_typed : (cs : List Call) → AllTyped cs → (es ds : List Call) (n : ℕ) → es ++ (front n request ∷ ds) ≡ cs → AllStepsTyped (expand o ds)
    asked_typed cs a es ds n e = expand_typed o r ds (tail_typed es (front n request ∷ ds) (subst AllTyped (sym e) a)).1

    pub service_oldest : (cs : List Call) → AllTyped cs → OldestThrough (account o) (service_acts o) cs
    service_oldest cs a es ds n e z u d =
        let base = front n request ∷ ds in
        let M = machineAccount g in
        let w = (always_good g r.machine (expand o ds) (asked_typed cs a es ds n e)).world in
        let q = accepted (reached o ds) n (subst (λ (st : Station). Quorums (system st)) (sym (same_machine o ds)) w.sane.choices)
        (subst (λ (st : Station). Meets (system st) (st.records n)) (sym (same_machine o ds)) (w.valid.records n)) z in
        let front' = steps_at n q.before ++ expand o ds in
        let m : expand o base ≡ request_commit n ∷ front' = ap (λ (l : List Step). l ++ expand o ds) q.steps in
        let es' = steps_of base es in
        let x : Station → Tx = λ st. record { owner = n; serial = (st.records n).serial } in
        let p : Station → ℕ = λ st. (st.records n).participants in
        let t = oldest_through g r.machine (expand o cs) (expand_typed o r cs a) es' front' n
        (sym (ap (λ (l : List Step). es' ++ l) m) ∙ sym (expand_on es base) ∙ ap (expand o) e)
        (subst (λ (st : Station). (step st (request_commit n)).number ≡ 0)
        (ap (λ (st : Station). after st (steps_at n q.before)) (same_machine o ds) ∙ sym (after_append g.station (steps_at n q.before) (expand o ds)))
        q.number)
        (subst (λ (l : List Step). Unopposed (machineReached g l) n) m (subst (λ (st : Station). Unopposed st n) (same_machine o base) u))
        (subst (λ (l : List Step). Undisturbed M (acts g) (x (machineReached g l)) (p (machineReached g l)) l es') m
        (subst (λ (st : Station). Undisturbed M (acts g) (x st) (p st) (expand o base) es') (same_machine o base)
        (spared (x (reached o base).machine) (p (reached o base).machine) es base d))) in
        subst (λ (st : Station). GetsThrough (x (reached o base).machine) (p (reached o base).machine) (deliveries (account o) (service_acts o) base es)
        (told o cs) st) (sym (same_machine o cs))
        (subst (λ (dl : List (List ℕ)). GetsThrough (x (reached o base).machine) (p (reached o base).machine) dl (told o cs)
        (machineReached g (expand o cs)))
        (sym (same_handed es base))
        (subst (λ (st : Station). GetsThrough (x st) (p st) (deliveries M (acts g) (expand o base) es') (told o cs) (machineReached g (expand o cs)))
        (sym (same_machine o base))
        (subst (λ (l : List Step). GetsThrough (x (machineReached g l)) (p (machineReached g l)) (deliveries M (acts g) l es') (told o cs)
        (machineReached g (expand o cs))) (sym m) t)))
