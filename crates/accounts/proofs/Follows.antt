-- What a transaction found is still found after the deeds that follow in the same call. An object that is opened or a new value leaves it open, and what
-- an open transaction found is still found (crate history); a request leaves its objects.
use mathlib.Core.Path.{◌≡◌, refl, sym, ap, subst, ◌∙◌}
use mathlib.Core.Logic.{◌⊎◌, inl, inr}
use mathlib.Core.Bool.{Bool, true, false}
use mathlib.Core.List.{List, [], ◌∷◌, ◌++◌}
use Prim.Native.Nat.{ℕ}
use native.Mathlib.Omega.{arith}
use lib.Dec.{eqb}
use borrow.Author.Tests.{eqb-true}
use Rattle.mask.specs.Mask.{contains, joined}
use Rattle.quorum.specs.Nearest.{mask_of}
use Rattle.coordinator.specs.declared.Coordinator.{Coordinator}
use Rattle.coordinator.specs.Step.{Step as Made}
use Rattle.coordinator.specs.System.{System}
use Rattle.coordinator.specs.State.{open_phase}
use Rattle.coordinator.specs.Calls.{open_refusals, opened, open_of, set_refusals, with_new, set_of, request_commit_refusals, requested, request_commit_of}
use Rattle.increments.specs.Deeds.{Edit, reads, writes, values, Deed, begins, edits, asks, aborts, edit_of}
use Rattle.replica.proofs.Delivered.{either_way}
use Rattle.clauses.proofs.Cases.{step_keeps}
use Rattle.steps.specs.Station.{Station, system}
use Rattle.steps.specs.Step.{Call as Step, Outcome, hosted, step}
use Rattle.protocol.specs.Table.{Suffix}
use Rattle.protocol.specs.State.{Tx}
use Rattle.protocol.proofs.Lists.{suffix_whole}
use Rattle.protocol.proofs.Tables.{on}
use Rattle.history.specs.Origin.{Origin as Machine, Rested as MachineRested}
use Rattle.history.specs.Claims.{Shows, Finds}
use Rattle.history.specs.Claims.{reached as machineReached, AllTyped as AllStepsTyped}
use Rattle.history.proofs.Tests.{not-false, no_both}
use Rattle.history.proofs.Sim.{tx}
use Rattle.history.proofs.Carry.{put_all}
use Rattle.history.proofs.Claimed.{always_good}
use Rattle.service.specs.Service.{step_at, steps_at}

-- ---- an edit leaves the record, or it is open still
abbrev pub OpenStill : Coordinator → Coordinator → Type 0
OpenStill c d = (d ≡ c) ⊎ ((d.phase ≡ open_phase) × (d.serial ≡ c.serial))

pub edit_open : (c : Coordinator) (n : ℕ) (e : Edit) → OpenStill c (edit_of c n e).coordinator
unfolding edit_of open_of open_refusals opened set_of set_refusals with_new
edit_open c n (reads t) = step_keeps (OpenStill c) (open_refusals c n t) 0 c (opened c t 0) tt (inl refl)
    (λ k. inr (eqb-true c.phase open_phase (not-false _ k.1.0), refl))
edit_open c n (writes t) = step_keeps (OpenStill c) (open_refusals c n t) 0 c (opened c t 1) tt (inl refl)
    (λ k. inr (eqb-true c.phase open_phase (not-false _ k.1.0), refl))
edit_open c n (values t v) = step_keeps (OpenStill c) (set_refusals c n t) 0 c (with_new c t v) tt (inl refl)
    (λ k. inr (eqb-true c.phase open_phase (not-false _ k.1.0), refl))

-- a request leaves what is shown
request_shows : (s : System) (c : Coordinator) (n serial t v : ℕ) → Shows s c serial t v → Shows s (request_commit_of s c n).coordinator serial t v
unfolding request_commit_of request_commit_refusals requested
request_shows s c n serial t v f =
    let q = s.nearest_write n c.live c.distances in
    let party = joined (mask_of q) c.contacted in
    step_keeps (λ (d : Coordinator). Shows s d serial t v) (request_commit_refusals s c n q) party c (requested c party) tt f
    (λ k. record {
      begun = λ e. let z : ⊥ = omega (arith, e) in z;
      present = f.present;
      opened = f.opened;
      is_ready = f.is_ready;
      value = f.value;
    })

-- ---- a host call in the station
module _ (st : Station) (x : Tx) (t v : ℕ) (f : Finds st x t v) where
  -- it is found still, or its record is open with its serial
  abbrev FoundOrOpen : Station → Type 0
  FoundOrOpen st' = Finds st' x t v ⊎ (((st'.records x.owner).phase ≡ open_phase) × ((st'.records x.owner).serial ≡ x.serial))

  hosted_open : (n : ℕ) (s : Made) → OpenStill (st.records n) s.coordinator → FoundOrOpen (hosted st n s).station
  unfolding hosted
  hosted_open n s k =
      let P : Outcome → Type 0 = λ (r : Outcome). FoundOrOpen r.station in
      either_way P (contains st.own.on n) _ _ (either_way P (eqb s.number 0) _ _
      (put_all (λ (i : ℕ) (d : Coordinator). Shows (system st) (st.records i) x.serial t v
      → Shows (system st) d x.serial t v ⊎ ((d.phase ≡ open_phase) × (d.serial ≡ x.serial)))
      st.records n s.coordinator
      (λ g. on k (λ e. inl (subst (λ (d : Coordinator). Shows (system st) d x.serial t v) (sym e) g)) (λ z. inr (z.0, z.1 ∙ g.present)))
      (λ i e g. inl g) x.owner f)
      (inl f)) (inl f)

  hosted_shows : (n : ℕ) (s : Made)
      → (Shows (system st) (st.records n) x.serial t v → Shows (system st) s.coordinator x.serial t v) → Finds (hosted st n s).station x t v
  unfolding hosted
  hosted_shows n s k =
      let P : Outcome → Type 0 = λ (r : Outcome). Finds r.station x t v in
      either_way P (contains st.own.on n) _ _ (either_way P (eqb s.number 0) _ _
      (put_all (λ (i : ℕ) (d : Coordinator). Shows (system st) (st.records i) x.serial t v → Shows (system st) d x.serial t v)
      st.records n s.coordinator k (λ i e g. g) x.owner f)
      f) f

  edit_found : (n : ℕ) (e : Edit) → FoundOrOpen (step st (step_at n (edits e))).station
  unfolding step edit_of
  edit_found n (reads u) = hosted_open n _ (edit_open (st.records n) n (reads u))
  edit_found n (writes u) = hosted_open n _ (edit_open (st.records n) n (writes u))
  edit_found n (values u w) = hosted_open n _ (edit_open (st.records n) n (values u w))

  request_found : (n : ℕ) → Finds (step st (step_at n asks)).station x t v
  unfolding step
  request_found n = hosted_shows n _ (request_shows (system st) (st.records n) n x.serial t v)

-- ---- deeds that may follow another in a call
abbrev pub follows : Deed → Bool
follows (begins w) = false
follows (edits e) = true
follows asks = true
follows aborts = false

-- all but the oldest do
abbrev pub Following : List Deed → Type 0
Following [] = Unit {0}
Following (d ∷ []) = Unit {0}
Following (d ∷ e ∷ ds) = (follows d ≡ true) × Following (e ∷ ds)

module _ (o : Machine) (r : MachineRested o) (x : Tx) (t v : ℕ) (n : ℕ) where
  -- one more deed
  deed_found : (d : Deed) (es : List Step) → follows d ≡ true → AllStepsTyped (step_at n d ∷ es) → Finds (machineReached o es) x t v
      → Finds (machineReached o (step_at n d ∷ es)) x t v
  deed_found (edits e) es p a f =
      let g = (always_good o r (step_at n (edits e) ∷ es) a).world in
      on (edit_found (machineReached o es) x t v f n e) (λ z. z)
      (λ z. g.books.found.still x t v (inr (es, inr (suffix_whole es), f))
      (ap (λ (s : ℕ). g.state.history.phase (tx x.owner s)) (sym z.1) ∙ (g.sim.owners x.owner).while_open z.0))
  deed_found asks es p a f = request_found (machineReached o es) x t v f n
  deed_found (begins w) es p a f = absurd (no_both p refl)
  deed_found aborts es p a f = absurd (no_both p refl)

  -- what was found within a call is found at its end, or was found before it
  pub deeds_found : (ds : List Deed) (es rest : List Step) → Following ds → AllStepsTyped (steps_at n ds ++ rest) → Suffix es (steps_at n ds ++ rest)
      → Finds (machineReached o es) x t v → Suffix es rest ⊎ Finds (machineReached o (steps_at n ds ++ rest)) x t v
  deeds_found [] es rest w a s f = inl s
  deeds_found (d ∷ ds) es rest w a (inl e) f = inr (subst (λ (l : List Step). Finds (machineReached o l) x t v) e f)
  deeds_found (d ∷ []) es rest w a (inr s) f = inl s
  deeds_found (d ∷ e ∷ ds) es rest w a (inr s) f = on (deeds_found (e ∷ ds) es rest w.1 a.1 s f) inl
      (λ g. inr (deed_found d (steps_at n (e ∷ ds) ++ rest) w.0 a g))
