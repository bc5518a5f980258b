-- A transaction whose votes are asked for while every other coordinator is idle is unopposed, if no copy is newer and all are up: whoever is listed or holds
-- at a node is awaited by its owner (InTurn), so its owner is not idle; and before votes are asked for its own node holds nothing (Stored).
use mathlib.Core.Path.{◌≡◌, refl, subst}
use mathlib.Core.Logic.{◌≢◌, by_cases}
use mathlib.Core.Bool.{true}
use mathlib.Core.List.{List, ◌∷◌}
use Prim.Native.Nat.{ℕ, ◌≤◌, ◌<◌}
use native.Mathlib.Decide.{ℕ_discrete}
use native.Mathlib.Omega.{arith}
use lib.Dec.{eqb}
use borrow.Author.Tests.{eqb-true, ltb-true}
use Rattle.numbers.specs.Sizes.{nodes, objects, most_open}
use Rattle.mask.specs.Mask.{contains, joined}
use Rattle.quorum.specs.Nearest.{mask_of}
use Rattle.image.specs.Layout.{version, holder, state}
use Rattle.image.specs.Valid.{over, held}
use Rattle.image.proofs.Each.{lt_or_le}
use Rattle.coordinator.specs.declared.Coordinator.{Coordinator}
use Rattle.coordinator.specs.State.{idle_phase, open_phase, place_of, object_at, is_open}
use Rattle.coordinator.specs.Calls.{request_commit_refusals, requested, request_commit_of}
use Rattle.clauses.proofs.Places.{place_open}
use Rattle.steps.specs.Station.{Station, system}
use Rattle.steps.specs.Step.{Call, request_commit, Outcome, step}
use Rattle.protocol.proofs.Tables.{on}
use Rattle.history.specs.Origin.{Origin, Rested}
use Rattle.history.specs.Claims.{AllTyped, reached}
use Rattle.history.proofs.Tests.{not-false}
use Rattle.history.proofs.Calls.{host_cases}
use Rattle.history.proofs.Claimed.{always_good}
use Rattle.history.proofs.Numbered.{always_in_turn}
use Rattle.history.proofs.Resting.{always_spare}
use Rattle.progress.specs.Oldest.{Unopposed}
use Rattle.progress.proofs.Stored.{always_stored}

-- before an accepted request the record is open; the request leaves the images
was_open : (st : Station) (o : ℕ) → (step st (request_commit o)).number ≡ 0
    → ((st.records o).phase ≡ open_phase) × ((step st (request_commit o)).station.images ≡ st.images)
unfolding step request_commit_of request_commit_refusals requested
was_open st o =
    let c = st.records o in
    let chosen = (system st).nearest_write o c.live c.distances in
    let party = joined (mask_of chosen) c.contacted in
    host_cases (λ (r : Outcome). r.number ≡ 0 → (c.phase ≡ open_phase) × (r.station.images ≡ st.images)) st o
    (request_commit_refusals (system st) c o chosen) party (requested c party) tt (λ number q e. absurd (q e))
    (λ k e. (eqb-true c.phase open_phase (not-false (eqb c.phase open_phase) k.1.0), refl))

module _ (g : Origin) (r : Rested g) (ds : List Call) (o : ℕ) (a : AllTyped ds) (accepted : (step (reached g ds) (request_commit o)).number ≡ 0) where
  abbrev st : Station
  st = reached g (request_commit o ∷ ds)

  abbrev c : Coordinator
  c = st.records o

  -- what is open is one of the objects that there are
  open_known : (t : ℕ) → is_open c t ≡ true → t < objects
  open_known t e =
      let p = place_open c.objects c.count t (ltb-true (place_of c t) most_open e) in
      let m = (always_good g r (request_commit o ∷ ds) (tt, a)).world.valid.records o in
      subst (λ (i : ℕ). i < objects) p.1.1 (m.objects.opened _ p.0).object_known

  module _ (others : (w : ℕ) → w < nodes → w ≢ o → (st.records w).phase ≡ idle_phase) where
    -- nobody else is listed or holds anything, and its own node holds nothing yet
    none_else : (n w : ℕ) → w ≢ o → state (st.images n) w ≢ over → ⊥
    none_else n w e q = ((always_in_turn g r (request_commit o ∷ ds) (tt, a)).not_over n w q).begun
        (on (lt_or_le w nodes) (λ h. others w h e) (always_spare g r (request_commit o ∷ ds) w))

    none_holds : (n w : ℕ) → state (st.images n) w ≡ held → ⊥
    none_holds n w e = by_cases (ℕ_discrete w o)
        (λ q. let h = was_open (reached g ds) o accepted in
        let before : state ((reached g ds).images n) o ≡ held =
        subst (λ (f : ℕ → List ℕ). state (f n) o ≡ held) h.1 (subst (λ (i : ℕ). state (st.images n) i ≡ held) q e) in
        on ((always_stored g r ds a).unvoted n o h.0) (λ z. let y : ⊥ = omega (arith, before, z) in y) (λ z. let y : ⊥ = omega (arith, before, z) in y))
        (λ q. none_else n w q (λ z. let y : ⊥ = omega (arith, e, z) in y))

    pub alone_unopposed : ((n t : ℕ) → contains c.participants n ≡ true → is_open c t ≡ true → version (st.images n) t ≤ (object_at c t).version)
        → ((n : ℕ) → contains c.participants n ≡ true → contains st.own.on n ≡ true) → contains st.own.on o ≡ true → Unopposed st o
    alone_unopposed current up own_up = record {
      oldest = λ n w i e l. absurd (none_else n w e (λ z. let y : ⊥ = omega (arith, l, z) in y));
      free = λ n t i e.
          on (((always_good g r (request_commit o ∷ ds) (tt, a)).world.valid.images n).0.clauses.copies_sound t (open_known t e)).holding
          (λ z. z) (λ z. absurd (none_holds n (holder (st.images n) t) z.1));
      current = current;
      up = up;
      own_up = own_up;
    }
