-- Every call of the host keeps the clauses, refused or not: each part of a record that the call changes, the rest as it was.
use mathlib.Core.Path.{◌≡◌, refl, sym, ap, ◌∙◌, subst}
use mathlib.Core.Bool.{Bool, true, false, cond, not}
use mathlib.Core.List.{List}
use mathlib.Core.Logic.{⊎_elim}
use Prim.Native.Nat.{ℕ, ◌+◌, ◌<◌, ◌≤◌}
use native.Mathlib.Omega.{arith}
use lib.Dec.{T, eqb, ltb}
use lib.ListN.{length, set, replicate, length-set}
use borrow.Author.Tests.{eqb-true, eqb-false, ltb-true, ltb-false, leb-false, not-false}
use Rattle.numbers.specs.Sizes.{nodes, every_node, objects as objectsEnd, most_open}
use Rattle.mask.specs.Mask.{joined, within}
use Rattle.mask.proofs.Laws.{within_self, within_trans}
use Rattle.quorum.specs.Nearest.{mask_of}
use Rattle.age.specs.Age.{too_early}
use Rattle.coordinator.specs.declared.Object.{Object}
use Rattle.coordinator.specs.declared.Coordinator.{Coordinator}
use Rattle.coordinator.specs.declared.BeginWith.{BeginWith}
use Rattle.coordinator.specs.System.{System}
use Rattle.coordinator.specs.State.{idle_phase, open_phase, voting_phase, finishing_phase, aborted}
use Rattle.coordinator.specs.State.{no_object, idle_after, blank_record, place_of, object_at, is_open, all_settled, any_used_up, awaited}
use Rattle.coordinator.specs.Calls.{with_objects, with_phase}
use Rattle.coordinator.specs.Calls.{no_node, too_wide, fresh, renewed, begin_refusals, begun, begin_of, open_refusals, opened, open_of}
use Rattle.coordinator.specs.Calls.{set_refusals, with_new, set_of, reselect_refusals, reselected, reselect_of}
use Rattle.coordinator.specs.Calls.{request_commit_refusals, requested, request_commit_of, abort_of}
use Rattle.clauses.proofs.Parts.{on_cond, neither_left, neither_right}
use Rattle.clauses.proofs.Cases.{step_keeps, OpenOrVoting, Endings, abort_cases}
use Rattle.clauses.proofs.Sets.{none_within, within_none, within_left, within_right, joined_known}
use Rattle.clauses.proofs.Places.{at, place_open, place_shut, at_set, at_blank}
use Rattle.clauses.proofs.Facts.{Sizes, Numbers, Opened, Objects, Nodes, Party, Votes, Dones, Agreed, waited, Meets}
use Rattle.clauses.proofs.Quorums.{Quorums}

-- ---- an idle record, and the blank one
blank_objects : (contacted : ℕ) → Objects contacted 0 (replicate most_open no_object)
blank_objects contacted =
    record {
      eight_at_most = omega arith;
      opened = λ i h. absurd (omega arith);
      once = λ i j h k e. absurd (omega arith);
      past = λ i h. at_blank most_open i;
    }

blank_sizes : (distances : List ℕ) → length distances ≡ nodes → Sizes distances (replicate most_open no_object) (replicate nodes 0)
blank_sizes distances e = record { distances_13 = e; objects_8 = refl; rivals_13 = refl }

-- nobody was asked for a vote
no_party : (s : System) (phase contacted count : ℕ) (objects : List Object) → (phase ≡ voting_phase → ⊥)
    → Party s phase contacted count objects 0 (replicate nodes 0)
no_party s phase contacted count objects n =
    record {
      participants_known = omega arith;
      no_rivals_lem = λ e. refl;
      full = λ f. absurd (f refl);
      not_asked = λ h. refl;
      asked_for = λ e. absurd (n e);
    }

no_votes : (phase outcome : ℕ) → phase ≤ open_phase → Votes phase outcome 0 0
no_votes phase outcome h =
    record {
      of_participants = none_within 0;
      vote_missing = λ e. absurd (omega arith);
      agreed_commits = λ e. absurd (omega arith);
      else_aborted = λ e. absurd (omega arith);
    }

no_dones : (phase contacted participants : ℕ) → (phase ≡ finishing_phase → ⊥) → Dones phase contacted participants 0
no_dones phase contacted participants n =
    record { of_awaited = λ e. absurd (n e); done_missing = λ e. absurd (n e); no_done = λ f. refl }

module _ (s : System) where
  pub idle_meets : (serial timestamp outcome : ℕ) → Numbers serial timestamp outcome idle_phase → Meets s (idle_after serial timestamp outcome)
  unfolding idle_after
  idle_meets serial timestamp outcome n =
      record {
        sizes = blank_sizes (replicate nodes 0) refl;
        numbers = n;
        objects = blank_objects 0;
        nodes = record {
          live_known = omega arith;
          quorum_known = omega arith;
          contacted_known = omega arith;
          at_idle = λ e. record { no_live = refl; no_quorum_lem = refl; no_distance = refl; no_object_lem = refl };
          present = λ f. absurd (f refl);
          nobody = λ e. refl;
          asked = λ f. absurd (f refl);
        };
        party = no_party s idle_phase 0 0 (replicate most_open no_object) (λ e. omega arith);
        votes = no_votes idle_phase outcome (omega arith);
        dones = no_dones idle_phase 0 0 (λ e. omega arith);
      }

  pub blank_meets : Meets s blank_record
  blank_meets =
      idle_meets 0 0 0
      (record { phase_known = omega arith; outcome_known = omega arith; unused = λ e. (refl, (refl, refl)); used = λ f. absurd (f refl) })

-- ---- the objects
-- more nodes contacted
pub more_contacted : (a b count : ℕ) (l : List Object) → T (within a b) → Objects a count l → Objects b count l
more_contacted a b count l t f =
    record {
      eight_at_most = f.eight_at_most;
      opened = λ i h. let o = f.opened i h in
          record {
            object_known = o.object_known;
            mode_known = o.mode_known;
            from_contacted = within_trans (at l i).came a b o.from_contacted t;
            unseen = o.unseen;
            written = o.written;
            not_given = o.not_given;
          };
      once = f.once;
      past = f.past;
    }

-- one object changed, the same by its number
module _ (contacted count : ℕ) (l : List Object) (p : ℕ) (x : Object) (f : Objects contacted count l) (eights : length l ≡ most_open) (h : p < count)
    (same : x.object ≡ (at l p).object) where
  pub inside : p < length l
  inside = let k = f.eight_at_most in omega arith

  pub same_numbers : (i : ℕ) → (at (set l p x) i).object ≡ (at l i).object
  same_numbers i =
      at_set (λ (y : Object). y.object ≡ (at l i).object) l p i x inside (λ (e : i ≡ p). same ∙ sym (ap (λ (n : ℕ). (at l n).object) e)) (λ n. refl)

  pub changed_objects : Opened contacted x → Objects contacted count (set l p x)
  changed_objects o =
      record {
        eight_at_most = f.eight_at_most;
        opened = λ i k. at_set (Opened contacted) l p i x inside (λ e. o) (λ n. f.opened i k);
        once = λ i j a b e. f.once i j a b (sym (same_numbers i) ∙ e ∙ same_numbers j);
        past = λ i k. at_set (λ (y : Object). y ≡ no_object) l p i x inside (λ e. absurd (omega arith)) (λ n. f.past i k);
      }

-- one object more
added_objects : (contacted count : ℕ) (l : List Object) (x : Object) → Objects contacted count l → length l ≡ most_open → count < most_open
    → ((j : ℕ) → j < count → (at l j).object ≡ x.object → ⊥) → Opened contacted x → Objects contacted (count + 1) (set l count x)
added_objects contacted count l x f eights h new o =
    record {
      eight_at_most = omega arith;
      opened = λ i k. at_set (Opened contacted) l count i x (omega arith) (λ e. o) (λ n. f.opened i (omega arith));
      once = λ i j a b.
          at_set (λ (y : Object). y.object ≡ (at (set l count x) j).object → i ≡ j) l count i x (omega arith)
          (λ e. at_set (λ (y : Object). x.object ≡ y.object → i ≡ j) l count j x (omega arith) (λ d g. e ∙ sym d)
          (λ d g. absurd (new j (omega arith) (sym g))))
          (λ e. at_set (λ (y : Object). (at l i).object ≡ y.object → i ≡ j) l count j x (omega arith) (λ d g. absurd (new i (omega arith) g))
          (λ d g. f.once i j (omega arith) (omega arith) g));
      past = λ i k. at_set (λ (y : Object). y ≡ no_object) l count i x (omega arith) (λ e. absurd (omega arith))
          (λ n. f.past i (omega arith));
    }

-- ---- a transaction that is open: nobody was asked for a vote
-- the same transaction with other live nodes and objects
abbrev other_open : Coordinator → ℕ → List ℕ → ℕ → ℕ → ℕ → List Object → Coordinator
other_open c live distances quorum contacted count objects =
    record {
      serial = c.serial;
      timestamp = c.timestamp;
      outcome = c.outcome;
      phase = c.phase;
      live = live;
      distances = distances;
      quorum = quorum;
      contacted = contacted;
      count = count;
      objects = objects;
      participants = c.participants;
      yes = c.yes;
      done = c.done;
      rivals = c.rivals;
    }

module _ (s : System) (c : Coordinator) (m : Meets s c) (e : c.phase ≡ open_phase) where
  pub open_party : c.participants ≡ 0
  open_party = m.party.not_asked (omega arith)

  other_meets : (live : ℕ) (distances : List ℕ) (quorum contacted count : ℕ) (objects : List Object) → Sizes distances objects c.rivals
      → Objects contacted count objects → Nodes s c.phase live distances quorum contacted count
      → Meets s (other_open c live distances quorum contacted count objects)
  other_meets live distances quorum contacted count objects sized f nodes =
      record {
        sizes = sized;
        numbers = m.numbers;
        objects = f;
        nodes = nodes;
        party = record {
          participants_known = m.party.participants_known;
          no_rivals_lem = m.party.no_rivals_lem;
          full = λ g. absurd (g open_party);
          not_asked = m.party.not_asked;
          asked_for = m.party.asked_for;
        };
        votes = m.votes;
        dones = record {
          of_awaited = λ d. absurd (omega arith);
          done_missing = λ d. absurd (omega arith);
          no_done = m.dones.no_done;
        };
      }

  -- objects and contacted nodes may change
  pub objects_keep : (contacted count : ℕ) (objects : List Object) → length objects ≡ most_open → Objects contacted count objects
      → contacted ≤ every_node → (count ≡ 0 → contacted ≡ 0) → ((count ≡ 0 → ⊥) → T (within c.quorum contacted))
      → Meets s (with_objects c contacted count objects)
  objects_keep contacted count objects n f known none some =
      other_meets c.live c.distances c.quorum contacted count objects
      (record { distances_13 = m.sizes.distances_13; objects_8 = n; rivals_13 = m.sizes.rivals_13 }) f
      (record {
        live_known = m.nodes.live_known;
        quorum_known = m.nodes.quorum_known;
        contacted_known = known;
        at_idle = λ d. absurd (omega arith);
        present = m.nodes.present;
        nobody = none;
        asked = some;
      })

  -- and one object may
  pub object_keeps : (p : ℕ) (x : Object) → p < c.count → x.object ≡ (at c.objects p).object → Opened c.contacted x
      → Meets s (with_objects c c.contacted c.count (set c.objects p x))
  object_keeps p x h same o =
      objects_keep c.contacted c.count (set c.objects p x) (length-set c.objects p x ∙ m.sizes.objects_8)
      (changed_objects c.contacted c.count c.objects p x m.objects m.sizes.objects_8 h same o) m.nodes.contacted_known
      m.nodes.nobody m.nodes.asked

-- ---- the calls
module _ (s : System) (q : Quorums s) (c : Coordinator) (me : ℕ) (m : Meets s c) where
  -- begin: the call itself checks the live mask and that the timestamp does not come too early, so it is not 0
  begun_meets : (w : BeginWith) (quorum : ℕ) → length w.distances ≡ nodes → w.live ≤ every_node → 1 ≤ w.timestamp
      → T (s.is_read quorum) → quorum ≤ every_node → Meets s (begun c w quorum)
  unfolding begun
  begun_meets w quorum n live later read known =
      record {
        sizes = blank_sizes w.distances n;
        numbers = record {
          phase_known = omega arith;
          outcome_known = m.numbers.outcome_known;
          unused = λ e. absurd (omega arith);
          used = λ f e. omega arith;
        };
        objects = blank_objects 0;
        nodes = record {
          live_known = live;
          quorum_known = known;
          contacted_known = omega arith;
          at_idle = λ e. absurd (omega arith);
          present = λ f. read;
          nobody = λ e. refl;
          asked = λ f. absurd (f refl);
        };
        party = no_party s open_phase 0 0 (replicate most_open no_object) (λ e. omega arith);
        votes = no_votes open_phase c.outcome (omega arith);
        dones = no_dones open_phase 0 0 (λ e. omega arith);
      }

  not_zero : (timestamp : ℕ) → too_early (eqb c.outcome aborted) c.timestamp timestamp ≡ false → 1 ≤ timestamp
  not_zero timestamp = on_cond (λ (b : Bool). b ≡ false → 1 ≤ timestamp) (eqb c.outcome aborted) _ _
      (λ a e. let h = ltb-false timestamp c.timestamp e in
      let o = eqb-true c.outcome aborted a in
      let z : c.timestamp ≡ 0 → ⊥ = m.numbers.used (λ s. let y = (m.numbers.unused s).1.1 in let x : ⊥ = omega (arith, y, o) in x) in
      omega (arith, h, z))
      (λ a e. let h = leb-false timestamp c.timestamp e in omega (arith, h))

  pub begin_keeps : (w : BeginWith) → length w.distances ≡ nodes → Meets s (begin_of s c me w).coordinator
  unfolding begin_of begin_refusals
  begin_keeps w n =
      let chosen = s.nearest_read me w.live w.distances in
      step_keeps (Meets s) (begin_refusals c me w chosen) (mask_of chosen) c (begun c w (mask_of chosen)) tt m
      (λ k. let live : w.live ≤ every_node = ltb-false every_node w.live (neither_right (no_node me) (too_wide w.live) k.0) in
      let good = q.read_chosen me w.live w.distances live k.1.1.1.0 in
      begun_meets w (mask_of chosen) n live (not_zero w.timestamp k.1.1.0) good.0 good.1)

  -- open
  fresh_opened : (contacted object mode : ℕ) → object < objectsEnd → mode < 2 → Opened contacted (fresh object mode)
  fresh_opened contacted object mode h k =
      record {
        object_known = h;
        mode_known = k;
        from_contacted = none_within contacted;
        unseen = λ e. (refl, refl);
        written = λ e. absurd (subst T (sym e) tt);
        not_given = λ e. refl;
      }

  opened_meets : (object mode : ℕ) → c.phase ≡ open_phase → object < objectsEnd → mode < 2 → most_open ≤ place_of c object → c.count < most_open
      → Meets s (opened c object mode)
  unfolding opened
  opened_meets object mode e h k shut room =
      let asked = joined c.contacted c.quorum in
      let n = m.sizes.objects_8 in
      objects_keep s c m e asked (c.count + 1) (set c.objects c.count (fresh object mode))
      (length-set c.objects c.count (fresh object mode) ∙ n)
      (added_objects asked c.count c.objects (fresh object mode)
      (more_contacted c.contacted asked c.count c.objects (within_left c.contacted c.quorum) m.objects) n room
      (λ j a. place_shut c.objects c.count object shut (omega arith) j a (omega arith)) (fresh_opened asked object mode h k))
      (joined_known c.contacted c.quorum m.nodes.contacted_known m.nodes.quorum_known)
      (λ z. absurd (omega arith)) (λ f. within_right c.contacted c.quorum)

  pub open_keeps : (object mode : ℕ) → mode < 2 → Meets s (open_of c me object mode).coordinator
  unfolding open_of open_refusals
  open_keeps object mode h =
      step_keeps (Meets s) (open_refusals c me object) 0 c (opened c object mode) tt m
      (λ k. let no = k.1.1.0 in
      opened_meets object mode (eqb-true c.phase open_phase (not-false (eqb c.phase open_phase) k.1.0))
      (ltb-true object objectsEnd (not-false (ltb object objectsEnd) (neither_left (not (ltb object objectsEnd)) (is_open c object) no))) h
      (ltb-false (place_of c object) most_open (neither_right (not (ltb object objectsEnd)) (is_open c object) no))
      (ltb-true c.count most_open (not-false (ltb c.count most_open) k.1.1.1.0)))

  -- set a value
  set_meets : (object value : ℕ) → c.phase ≡ open_phase → place_of c object < most_open → ((object_at c object).mode ≡ 0 → ⊥)
      → Meets s (with_new c object value)
  unfolding with_new
  set_meets object value e h written =
      let x = object_at c object in
      let p = place_open c.objects c.count object h in
      let o = m.objects.opened (place_of c object) p.0 in
      object_keeps s c m e (place_of c object) (renewed x value) p.0 refl
      (record {
        object_known = o.object_known;
        mode_known = o.mode_known;
        from_contacted = o.from_contacted;
        unseen = o.unseen;
        written = λ d. let k = o.mode_known in omega arith;
        not_given = λ d. absurd (subst T d tt);
      })

  pub set_keeps : (object value : ℕ) → Meets s (set_of c me object value).coordinator
  unfolding set_of set_refusals
  set_keeps object value =
      step_keeps (Meets s) (set_refusals c me object) 0 c (with_new c object value) tt m
      (λ k. let no = k.1.1.0 in
      set_meets object value (eqb-true c.phase open_phase (not-false (eqb c.phase open_phase) k.1.0))
      (ltb-true (place_of c object) most_open (not-false (is_open c object) (neither_left (not (is_open c object)) (eqb (object_at c object).mode 0) no)))
      (eqb-false (object_at c object).mode 0 (neither_right (not (is_open c object)) (eqb (object_at c object).mode 0) no)))

  -- reselect: the new quorum joins the contacted nodes where an object is open
  reselected_meets : (live : ℕ) (distances : List ℕ) (quorum : ℕ) → length distances ≡ nodes → c.phase ≡ open_phase → live ≤ every_node
      → T (s.is_read quorum) → quorum ≤ every_node → Meets s (reselected c live distances quorum)
  unfolding reselected
  reselected_meets live distances quorum n e small read known =
      let old = c.contacted in
      let all = joined c.contacted quorum in
      let b = eqb c.count 0 in
      let contacted = cond b old all in
      other_meets s c m e live distances quorum contacted c.count c.objects
      (record { distances_13 = n; objects_8 = m.sizes.objects_8; rivals_13 = m.sizes.rivals_13 })
      (more_contacted old contacted c.count c.objects
      (on_cond (λ (x : ℕ). T (within old x)) b old all (λ d. within_self old) (λ d. within_left old quorum)) m.objects)
      (record {
        live_known = small;
        quorum_known = known;
        contacted_known = on_cond (λ (x : ℕ). x ≤ every_node) b old all (λ d. m.nodes.contacted_known)
            (λ d. joined_known old quorum m.nodes.contacted_known known);
        at_idle = λ d. absurd (omega arith);
        present = λ d. read;
        nobody = λ z. on_cond (λ (x : ℕ). x ≡ 0) b old all (λ d. m.nodes.nobody z) (λ d. absurd (eqb-false c.count 0 d z));
        asked = λ z. on_cond (λ (x : ℕ). T (within quorum x)) b old all (λ d. absurd (z (eqb-true c.count 0 d))) (λ d. within_right old quorum);
      })

  pub reselect_keeps : (live : ℕ) (distances : List ℕ) → length distances ≡ nodes → Meets s (reselect_of s c me live distances).coordinator
  unfolding reselect_of reselect_refusals
  reselect_keeps live distances n =
      let chosen = s.nearest_read me live distances in
      step_keeps (Meets s) (reselect_refusals c me live chosen) (mask_of chosen) c (reselected c live distances (mask_of chosen)) tt m
      (λ k. let small : live ≤ every_node = ltb-false every_node live (neither_right (no_node me) (too_wide live) k.0) in
      let good = q.read_chosen me live distances small k.1.1.0 in
      reselected_meets live distances (mask_of chosen) n (eqb-true c.phase open_phase (not-false (eqb c.phase open_phase) k.1.0)) small good.0
      good.1)

-- ---- another phase of the same transaction: what changes of a record that is not idle
module _ (s : System) (c : Coordinator) (m : Meets s c) (busy : c.phase ≡ idle_phase → ⊥) where
  pub serial_used : c.serial ≡ 0 → ⊥
  serial_used e = busy (m.numbers.unused e).1.0

  pub phase_meets : (phase outcome participants said done : ℕ) (rivals : List ℕ) → (phase ≡ idle_phase → ⊥) → phase ≤ finishing_phase → outcome ≤ aborted
      → length rivals ≡ nodes → Party s phase c.contacted c.count c.objects participants rivals
      → Votes phase outcome participants said → Dones phase c.contacted participants done
      → Meets s (with_phase c phase outcome participants said done rivals)
  phase_meets phase outcome participants said done rivals n known ended long party votes dones =
      record {
        sizes = record { distances_13 = m.sizes.distances_13; objects_8 = m.sizes.objects_8; rivals_13 = long };
        numbers = record {
          phase_known = known;
          outcome_known = ended;
          unused = λ e. absurd (serial_used e);
          used = m.numbers.used;
        };
        objects = m.objects;
        nodes = record {
          live_known = m.nodes.live_known;
          quorum_known = m.nodes.quorum_known;
          contacted_known = m.nodes.contacted_known;
          at_idle = λ e. absurd (n e);
          present = λ f. m.nodes.present busy;
          nobody = m.nodes.nobody;
          asked = m.nodes.asked;
        };
        party = party;
        votes = votes;
        dones = dones;
      }

  -- idle, whatever the outcome
  pub ended_meets : (outcome : ℕ) → outcome ≤ aborted → Meets s (idle_after c.serial c.timestamp outcome)
  ended_meets outcome known =
      idle_meets s c.serial c.timestamp outcome
      (record { phase_known = omega arith; outcome_known = known; unused = λ e. absurd (serial_used e); used = m.numbers.used })

  -- the participants as they were, in the last phase
  pub last_party : (rivals : List ℕ) → (c.participants ≡ 0 → rivals ≡ replicate nodes 0)
      → Party s finishing_phase c.contacted c.count c.objects c.participants rivals
  last_party rivals none =
      record {
        participants_known = m.party.participants_known;
        no_rivals_lem = none;
        full = m.party.full;
        not_asked = λ h. absurd (omega arith);
        asked_for = λ e. absurd (omega arith);
      }

  -- finishing begins: nobody has said done
  pub first_dones : (c.phase ≡ finishing_phase → ⊥) → (waited c.contacted c.participants ≡ 0 → ⊥)
      → Dones finishing_phase c.contacted c.participants c.done
  first_dones n some =
      let z : c.done ≡ 0 = m.dones.no_done n in
      let w = waited c.contacted c.participants in
      record {
        of_awaited = λ e. subst (λ (d : ℕ). T (within d w)) (sym z) (none_within w);
        done_missing = λ e t. some (within_none w (subst (λ (d : ℕ). T (within w d)) z t));
        no_done = λ f. absurd (f refl);
      }

-- ---- the end: aborted while open or voting
module _ (s : System) (c : Coordinator) (m : Meets s c) where
  pub awaited_known : awaited c ≤ every_node
  awaited_known =
      on_cond (λ (w : ℕ). w ≤ every_node) (eqb c.participants 0) c.contacted c.participants (λ e. m.nodes.contacted_known)
      (λ e. m.party.participants_known)

  -- not every participant has voted yes
  pub not_agreed : OpenOrVoting c → Agreed c.participants c.yes → ⊥
  not_agreed p a = ⊎_elim (λ e. a.0 (open_party s c m e)) (λ e. m.votes.vote_missing e a) p

  pub not_idle : OpenOrVoting c → c.phase ≡ idle_phase → ⊥
  not_idle p e = ⊎_elim (λ d. omega arith) (λ d. omega arith) p

  not_finishing : OpenOrVoting c → c.phase ≡ finishing_phase → ⊥
  not_finishing p e = ⊎_elim (λ d. omega arith) (λ d. omega arith) p

  pub endings_meet : Endings (Meets s) c
  endings_meet =
      record {
        gone = λ p e. ended_meets s c m (not_idle p) aborted (omega arith);
        aborting = λ p n. phase_meets s c m (not_idle p) finishing_phase aborted c.participants c.yes c.done c.rivals
            (λ d. omega arith) (omega arith) (omega arith) m.sizes.rivals_13
            (last_party s c m (not_idle p) c.rivals m.party.no_rivals_lem)
            (record {
              of_participants = m.votes.of_participants;
              vote_missing = λ d. absurd (omega arith);
              agreed_commits = λ d a. absurd (not_agreed p a);
              else_aborted = λ d f. refl;
            })
            (first_dones s c m (not_idle p) (not_finishing p) n);
      }

  pub abort_keeps : (me : ℕ) → Meets s (abort_of c me).coordinator
  abort_keeps me = abort_cases (Meets s) c me m endings_meet

-- ---- asking for votes
module _ (s : System) (q : Quorums s) (c : Coordinator) (me : ℕ) (m : Meets s c) where
  requested_meets : (quorum : ℕ) → c.phase ≡ open_phase → (c.count ≡ 0 → ⊥) → all_settled s c.objects c.count ≡ true
      → any_used_up c.objects c.count ≡ false → T (s.is_write quorum) → quorum ≤ every_node → Meets s (requested c (joined quorum c.contacted))
  unfolding requested
  requested_meets quorum e some settled next write known =
      let all = joined quorum c.contacted in
      let large = q.write_larger quorum all (within_left quorum c.contacted) write in
      let there : all ≡ 0 → ⊥ = q.write_some all large in
      let said : c.yes ≡ 0 = within_none c.yes (subst (λ (n : ℕ). T (within c.yes n)) (open_party s c m e) m.votes.of_participants) in
      phase_meets s c m (λ d. omega arith) voting_phase c.outcome all c.yes c.done c.rivals
      (λ d. omega arith) (omega arith) m.numbers.outcome_known m.sizes.rivals_13
      (record {
        participants_known = joined_known quorum c.contacted known m.nodes.contacted_known;
        no_rivals_lem = λ d. absurd (there d);
        full = λ d. record {
          write_quorum = large;
          everyone = within_right quorum c.contacted;
          some_object = some;
          all_settled = settled;
          none_used_up = next;
        };
        not_asked = λ d. absurd (omega arith);
        asked_for = λ d. there;
      })
      (record {
        of_participants = subst (λ (n : ℕ). T (within n all)) (sym said) (none_within all);
        vote_missing = λ d a. there (within_none all (subst (λ (n : ℕ). T (within all n)) said a.1));
        agreed_commits = λ d. absurd (omega arith);
        else_aborted = λ d. absurd (omega arith);
      })
      (subst (Dones voting_phase c.contacted all) (sym (m.dones.no_done (λ d. omega arith)))
      (no_dones voting_phase c.contacted all (λ d. omega arith)))

  pub request_keeps : Meets s (request_commit_of s c me).coordinator
  unfolding request_commit_of request_commit_refusals
  request_keeps =
      let chosen = s.nearest_write me c.live c.distances in
      let all = joined (mask_of chosen) c.contacted in
      let ok = all_settled s c.objects c.count in
      step_keeps (Meets s) (request_commit_refusals s c me chosen) all c (requested c all) tt m
      (λ k. let good = q.write_chosen me c.live c.distances m.nodes.live_known k.1.1.1.0 in
      requested_meets (mask_of chosen) (eqb-true c.phase open_phase (not-false (eqb c.phase open_phase) k.1.0))
      (eqb-false c.count 0 (neither_left (eqb c.count 0) (not ok) k.1.1.0)) (not-false ok (neither_right (eqb c.count 0) (not ok) k.1.1.0))
      k.1.1.1.1.0 good.0 good.1)
