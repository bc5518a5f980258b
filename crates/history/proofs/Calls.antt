-- Each host call at a station: refused, nothing changes and nothing is told; taken, the record and what is told of it go together.
use mathlib.Core.Path.{◌≡◌, refl, sym, ◌∙◌, ap, subst}
use mathlib.Core.Logic.{◌⊎◌}
use mathlib.Core.Bool.{Bool, true, false, cond, not, ◌||◌}
use mathlib.Core.List.{List, [], ◌∷◌}
use mathlib.Core.Option.{none}
use Prim.Native.Nat.{ℕ, ◌<◌}
use native.Mathlib.Omega.{arith}
use lib.Dec.{T, eqb, ltb}
use lib.ListN.{length}
use borrow.Author.Tests.{eqb-true, eqb-false, ne_eqb, ltb-true}
use Rattle.numbers.specs.Sizes.{nodes, objects, most_open}
use Rattle.mask.specs.Mask.{contains, joined}
use Rattle.mask.proofs.Tests.{T_true}
use Rattle.numbers.specs.Refusal.{Refusal, first_of}
use Rattle.quorum.specs.Nearest.{mask_of}
use Rattle.coordinator.specs.declared.Coordinator.{Coordinator}
use Rattle.coordinator.specs.declared.BeginWith.{BeginWith}
use Rattle.coordinator.specs.Step.{Step}
use Rattle.coordinator.specs.State.{idle_phase, open_phase, voting_phase, object_at, is_open, step_of}
use Rattle.coordinator.specs.Calls.{begin_refusals, begun, begin_of, open_refusals, opened, open_of, set_refusals, with_new, set_of, found_refusals, found_of}
use Rattle.coordinator.specs.Calls.{reselect_refusals, reselected, reselect_of, request_commit_refusals, requested, request_commit_of, abort_refusals}
use Rattle.coordinator.specs.Calls.{ended_aborted}
use Rattle.coordinator.specs.Calls.{abort_of}
use Rattle.coordinator.proofs.Refusals.{Clear, numbered, clear}
use Rattle.clauses.proofs.Facts.{Meets}
use Rattle.clauses.proofs.Cases.{either_of}
use Rattle.clauses.proofs.Keep.{begin_keeps, open_keeps, set_keeps, reselect_keeps, request_keeps, abort_keeps}
use Rattle.steps.proofs.Nodes.{off_number_lem}
use Rattle.steps.specs.Station.{Station, system, with_record}
use Rattle.steps.specs.Step.{Call, begin, open_read, open_write, set_value, found, reselect, request_commit, abort, Outcome, refused_with, taken, when_off}
use Rattle.steps.specs.Step.{hosted}
use Rattle.steps.specs.Run.{event_of}
use Rattle.protocol.proofs.Tables.{on}
use Rattle.history.specs.Ledger.{Ledger, with_mode, noted, note}
use Rattle.replica.proofs.Delivered.{or_neither}
use Rattle.history.proofs.Tests.{not-false}
use Rattle.history.proofs.Books.{Past, More, World}
use Rattle.history.proofs.Quiet.{reselect_owner}
use Rattle.history.proofs.Sim.{mode_of}
use Rattle.history.proofs.Host.{again, begin_world, open_world, set_world, same_world, SameTold, SameObjects, objects_still}
use Rattle.history.proofs.Turns.{request_world, abort_world}

-- the record after a call whose refusals do not fit
pub zero_first : (rs : List Refusal) → Clear rs → first_of rs ≡ 0
zero_first [] k = refl
zero_first (r ∷ rs) k = ap (λ (b : Bool). cond b r.number (first_of rs)) k.0 ∙ zero_first rs k.1

pub taken_record : (rs : List Refusal) (answer : ℕ) (c c' : Coordinator) → Clear rs → (step_of (first_of rs) answer c c').coordinator ≡ c'
unfolding step_of
taken_record rs answer c c' k = ap (λ (z : ℕ). (cond {A = Step} (eqb z 0) (record { number = 0; answer = answer; coordinator = c' })
    (record { number = z; answer = 0; coordinator = c })).coordinator) (zero_first rs k)

-- a host call by its cases: refused, or none of its refusals fits and the record is the one after it
module _ (P : Outcome → Type 0) (st : Station) (n : ℕ) (rs : List Refusal) (answer : ℕ) (c' : Coordinator) (all : T (numbered rs))
    (refuses : (number : ℕ) → (number ≡ 0 → ⊥) → P (refused_with number st)) (takes : Clear rs → P (taken answer (with_record st n c'))) where
  abbrev c : Coordinator
  c = st.records n

  abbrev s : Bool → Step
  s b = cond b (record { number = 0; answer = answer; coordinator = c' }) (record { number = first_of rs; answer = 0; coordinator = c })

  by_number : (up b : Bool) → eqb (first_of rs) 0 ≡ b
      → P (cond up (cond (eqb (s b).number 0) (taken (s b).answer (with_record st n (s b).coordinator)) (refused_with (s b).number st))
      (refused_with (when_off (s b).number) st))
  by_number true true e = takes (clear rs all (eqb-true (first_of rs) 0 e))
  by_number true false e = subst (λ (b : Bool). P (cond b (taken 0 (with_record st n c)) (refused_with (first_of rs) st))) (sym e)
      (refuses (first_of rs) (eqb-false (first_of rs) 0 e))
  by_number false true e = refuses (when_off 0) (off_number_lem 0)
  by_number false false e = refuses (when_off (first_of rs)) (off_number_lem (first_of rs))

  pub host_cases : P (hosted st n (step_of (first_of rs) answer c c'))
  unfolding hosted step_of
  host_cases = by_number (contains st.own.on n) (eqb (first_of rs) 0) refl

pub told_still : {L : Ledger} → SameTold L L
told_still = record { serials = refl; modes = refl; news = refl; parties = refl }

module _ (st : Station) (L : Ledger) (F : Past) (w : World st L F) where
  -- what holds after a step with this outcome
  abbrev pub Next : Call → Outcome → Type 0
  Next call r = World r.station (note L (event_of call r)) (More F r.station)

  -- a refusal
  pub refused_next : (call : Call) (number : ℕ) → (number ≡ 0 → ⊥) → Next call (refused_with number st)
  unfolding note
  refused_next call number e =
      subst (λ (b : Bool). World st (cond b (noted L call 0 none) L) (More F st)) (sym (ne_eqb number 0 e)) (again st L F w)

  -- ---- a host call: its refusals, its answer, the record after it
  module _ (n : ℕ) (call : Call) (rs : List Refusal) (answer : ℕ) (c' : Coordinator) (all : T (numbered rs)) where
    abbrev After : Type 0
    After = World (with_record st n c') (noted L call answer none) (More F (with_record st n c'))

    pub host_next : (Clear rs → After) → Next call (hosted st n (step_of (first_of rs) answer (st.records n) c'))
    unfolding note
    host_next f = host_cases (Next call) st n rs answer c' all (refused_next call) f

  -- ---- the calls
  module _ (n : ℕ) where
    abbrev d : Coordinator
    d = st.records n

    abbrev md : Meets (system st) d
    md = w.valid.records n

    pub begin_next : (a : BeginWith) → length a.distances ≡ nodes → Next (begin n a) (hosted st n (begin_of (system st) d n a))
    unfolding begin_of begin_refusals noted
    begin_next a size =
        let chosen = (system st).nearest_read n a.live a.distances in
        let rs = begin_refusals d n a chosen in
        host_next n (begin n a) rs (mask_of chosen) (begun d a (mask_of chosen)) tt (λ k.
        begin_world st L F w n a (mask_of chosen) (eqb-true d.phase idle_phase (not-false _ k.1.0))
        (subst (Meets (system st)) (taken_record rs (mask_of chosen) d (begun d a (mask_of chosen)) k)
        (begin_keeps (system st) w.sane.choices d n md a size)))

    open_next : (call : Call) (t mode : ℕ) → mode < 2 → ((answer : ℕ) → noted L call answer none ≡ with_mode L n t (mode_of mode))
        → Next call (hosted st n (open_of d n t mode))
    unfolding open_of open_refusals
    open_next call t mode small says =
        let rs = open_refusals d n t in
        host_next n call rs 0 (opened d t mode) tt (λ k.
        subst (λ (L' : Ledger). World (with_record st n (opened d t mode)) L' (More F (with_record st n (opened d t mode)))) (sym (says 0))
        (open_world st L F w n (eqb-true d.phase open_phase (not-false _ k.1.0)) t mode (or_neither (not (ltb t objects)) (is_open d t) k.1.1.0).1
        (ltb-true d.count most_open (not-false _ k.1.1.1.0))
        (subst (Meets (system st)) (taken_record rs 0 d (opened d t mode) k) (open_keeps (system st) w.sane.choices d n md t mode small))))

    pub read_next : (t : ℕ) → Next (open_read n t) (hosted st n (open_of d n t 0))
    unfolding noted
    read_next t = open_next (open_read n t) t 0 (omega arith) (λ answer. refl)

    pub write_next : (t : ℕ) → Next (open_write n t) (hosted st n (open_of d n t 1))
    unfolding noted
    write_next t = open_next (open_write n t) t 1 (omega arith) (λ answer. refl)

    pub set_next : (t v : ℕ) → Next (set_value n t v) (hosted st n (set_of d n t v))
    unfolding set_of set_refusals noted
    set_next t v =
        let rs = set_refusals d n t in
        host_next n (set_value n t v) rs 0 (with_new d t v) tt (λ k.
        set_world st L F w n (eqb-true d.phase open_phase (not-false _ k.1.0)) t
        (not-false (is_open d t) (or_neither (not (is_open d t)) (eqb (object_at d t).mode 0) k.1.1.0).0) v
        (subst (Meets (system st)) (taken_record rs 0 d (with_new d t v) k) (set_keeps (system st) w.sane.choices d n md t v)))

    pub found_next' : (t : ℕ) → Next (found n t) (hosted st n (found_of (system st) d n t))
    unfolding found_of found_refusals noted
    found_next' t = host_next n (found n t) (found_refusals (system st) d n t) (object_at d t).value d tt (λ k.
        same_world st L F w n d st.pool L (objects_still d) told_still (w.sim.owners n) md (λ b i. i) w.books.pool_as refl refl refl refl)

    same_objects : (live : ℕ) (distances : List ℕ) (q : ℕ) → SameObjects d (reselected d live distances q)
    unfolding reselected
    same_objects live distances q = record { serial = refl; phase = λ e. e; phase' = λ e. e; objects = refl; count = refl; participants = refl }

    pub reselect_next : (live : ℕ) (distances : List ℕ) → length distances ≡ nodes → Next (reselect n live distances)
        (hosted st n (reselect_of (system st) d n live distances))
    unfolding reselect_of reselect_refusals noted
    reselect_next live distances size =
        let chosen = (system st).nearest_read n live distances in
        let rs = reselect_refusals d n live chosen in
        let c' = reselected d live distances (mask_of chosen) in
        host_next n (reselect n live distances) rs (mask_of chosen) c' tt (λ k.
        same_world st L F w n c' st.pool L (same_objects live distances (mask_of chosen)) told_still
        (reselect_owner _ _ _ n d (w.sim.owners n) live distances (mask_of chosen))
        (subst (Meets (system st)) (taken_record rs (mask_of chosen) d c' k) (reselect_keeps (system st) w.sane.choices d n md live distances size))
        (λ b i. i) w.books.pool_as refl refl refl refl)

    -- the participants are a write quorum, by the clauses of the record after it
    party_counts : (party : ℕ) → Meets (system st) (requested d party) → (system st).is_write party ≡ true
    unfolding requested
    party_counts party m = T_true _ (m.party.full (m.party.asked_for refl)).write_quorum

    pub request_next : Next (request_commit n) (hosted st n (request_commit_of (system st) d n))
    unfolding request_commit_of request_commit_refusals noted
    request_next =
        let chosen = (system st).nearest_write n d.live d.distances in
        let party = joined (mask_of chosen) d.contacted in
        let rs = request_commit_refusals (system st) d n chosen in
        host_next n (request_commit n) rs party (requested d party) tt (λ k.
        let m = subst (Meets (system st)) (taken_record rs party d (requested d party) k) (request_keeps (system st) w.sane.choices d n md) in
        request_world st L F w n party (eqb-true d.phase open_phase (not-false _ k.1.0)) (party_counts party m) m)

    undecided : (eqb d.phase open_phase || eqb d.phase voting_phase) ≡ true → (d.phase ≡ open_phase) ⊎ (d.phase ≡ voting_phase)
    undecided = either_of (eqb d.phase open_phase) (eqb d.phase voting_phase) (eqb-true d.phase open_phase) (eqb-true d.phase voting_phase)

    pub abort_next : Next (abort n) (hosted st n (abort_of d n))
    unfolding abort_of abort_refusals noted
    abort_next =
        let rs = abort_refusals d n in
        host_next n (abort n) rs 0 (ended_aborted d) tt (λ k.
        abort_world st L F w n (undecided (not-false (eqb d.phase open_phase || eqb d.phase voting_phase) k.1.0)) st.pool L told_still
        (subst (Meets (system st)) (taken_record rs 0 d (ended_aborted d) k) (abort_keeps (system st) d md n))
        (λ b i. i) w.books.pool_as refl refl refl refl)
