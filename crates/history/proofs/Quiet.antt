-- Calls and messages that change a record and are no transition: begin, open, set, reselect, a copy, a yes that is not the last, a done. What the
-- record says of its transaction stays true.
use mathlib.Core.Path.{◌≡◌, refl, sym, ◌∙◌, ap, subst}
use mathlib.Core.Logic.{◌⊎◌, inl, inr, by_cases}
use mathlib.Core.Bool.{Bool, true, false, cond}
use mathlib.Core.List.{List}
use Prim.Native.Nat.{ℕ, ◌+◌, ◌<◌}
use native.Mathlib.Decide.{ℕ_discrete}
use native.Mathlib.Omega.{arith}
use lib.ListN.{length, get_or, set, replicate}
use lib.Seq.{get_or-set_same, get_or-set_other, set_out}
use Rattle.numbers.specs.Sizes.{most_open}
use Rattle.image.proofs.Each.{lt_or_le}
use Rattle.mask.specs.Mask.{contains, only, joined}
use Rattle.wire.specs.declared.Entry.{Entry}
use Rattle.coordinator.specs.declared.Object.{Object}
use Rattle.coordinator.specs.declared.Coordinator.{Coordinator}
use Rattle.coordinator.specs.declared.BeginWith.{BeginWith}
use Rattle.coordinator.specs.State.{voting_phase, no_object, place_of, object_at, idle_after}
use Rattle.coordinator.specs.Calls.{begun, opened, fresh, renewed, with_new, reselected, with_objects, with_phase}
use Rattle.arrivals.specs.Receive.{better, with_copy}
use Rattle.protocol.specs.Table.{In}
use Rattle.protocol.specs.State.{Copy, Votes, History}
use Rattle.protocol.proofs.Tables.{on}
use Rattle.image.proofs.Marks.{contains_none, contains_only}
use Rattle.mask.proofs.Laws.{contains_joined}
use borrow.Author.Tests.{eqb-true}
use Rattle.clauses.proofs.Places.{at_blank}
use Rattle.history.proofs.Tests.{no_both, or-true}
use Rattle.history.proofs.Sim.{tx, WasSent, Owner}

-- ---- objects
-- what stands at the places after one of them is set
pub found_set : (m : List (Copy ℕ)) (l : List Object) (p : ℕ) (x : Object) → WasSent m x → ((i : ℕ) → WasSent m (get_or l i no_object))
    → (i : ℕ) → WasSent m (get_or (set l p x) i no_object)
found_set m l p x w f i = by_cases (ℕ_discrete i p)
    (λ e. on (lt_or_le p (length l))
    (λ h. subst (WasSent m) (sym (ap (λ (k : ℕ). get_or (set l p x) k no_object) e ∙ get_or-set_same l p x no_object h)) w)
    (λ h. subst (λ (k : List Object). WasSent m (get_or k i no_object)) (sym (set_out l p x h)) (f i)))
    (λ e. subst (WasSent m) (sym (get_or-set_other l p i x no_object e)) (f i))

pub found_blank : (m : List (Copy ℕ)) (n i : ℕ) → WasSent m (get_or (replicate n no_object) i no_object)
found_blank m n i = subst (WasSent m) (sym (at_blank n i)) (inl (refl, refl))

-- a copy that counts, or does not
copied : (m : List (Copy ℕ)) (x : Object) (e : Entry) (t : Bool) → WasSent m x → In (record { object = x.object; version = e.version; value = e.value }) m
    → ((cond t e.version x.version ≡ 0) × (cond t e.value x.value ≡ 0))
    ⊎ In (record { object = x.object; version = cond t e.version x.version; value = cond t e.value x.value }) m
copied m x e true w i = inr i
copied m x e false w i = w

-- ---- bits
pub no_bit : (i : ℕ) → contains 0 i ≡ true → ⊥
no_bit i e = no_both e (contains_none i)

-- a node of a set with one node more
pub agreed_by : {P : Type 0} (s i from : ℕ) → from < 16 → contains (joined s (only from)) i ≡ true → (contains s i ≡ true → P) → (i ≡ from → P) → P
agreed_by s i from small e f g =
    on (or-true (contains s i) (contains (only from) i) (sym (contains_joined s (only from) i) ∙ e)) f
    (λ a. g (sym (eqb-true from i (sym (contains_only from i small) ∙ a))))

module _ (h : History ℕ) (v : Votes) (m : List (Copy ℕ)) (n : ℕ) (c : Coordinator) (w : Owner h v m n c) where
  -- begin: the next serial, which is fresh
  pub begin_owner : (a : BeginWith) (q : ℕ) → Owner h v m n (begun c a q)
  unfolding begun
  begin_owner a q = record {
    later = λ s e. w.later s (omega arith);
    while_open = λ e. w.later (c.serial + 1) (omega arith);
    while_voting = λ e. absurd (let z : ⊥ = omega arith in z);
    when_committed = λ e f. absurd (let z : ⊥ = omega arith in z);
    when_aborted = λ e f. absurd (let z : ⊥ = omega arith in z);
    asked = λ e. absurd (e refl);
    agreed = λ i e. absurd (no_bit i e);
    found = found_blank m most_open;
  }

  -- idle again: only what is lasting
  pub idle_owner : (stamp outcome : ℕ) → Owner h v m n (idle_after c.serial stamp outcome)
  unfolding idle_after
  idle_owner stamp outcome = record {
    later = w.later;
    while_open = λ e. absurd (let z : ⊥ = omega arith in z);
    while_voting = λ e. absurd (let z : ⊥ = omega arith in z);
    when_committed = λ e f. absurd (let z : ⊥ = omega arith in z);
    when_aborted = λ e f. absurd (let z : ⊥ = omega arith in z);
    asked = λ e. absurd (e refl);
    agreed = λ i e. absurd (no_bit i e);
    found = found_blank m most_open;
  }

  -- other objects, before votes are asked for
  objects_owner : c.participants ≡ 0 → (contacted count : ℕ) (l : List Object) → ((i : ℕ) → WasSent m (get_or l i no_object))
      → Owner h v m n (with_objects c contacted count l)
  objects_owner p contacted count l f = record {
    later = w.later;
    while_open = w.while_open;
    while_voting = w.while_voting;
    when_committed = w.when_committed;
    when_aborted = w.when_aborted;
    asked = λ e. absurd (e p);
    agreed = w.agreed;
    found = f;
  }

  pub open_owner : c.participants ≡ 0 → (object mode : ℕ) → Owner h v m n (opened c object mode)
  unfolding opened
  open_owner p object mode =
      objects_owner p _ _ _ (found_set m c.objects c.count (fresh object mode) (inl (refl, refl)) w.found)

  pub set_owner : c.participants ≡ 0 → (object value : ℕ) → Owner h v m n (with_new c object value)
  unfolding with_new
  set_owner p object value =
      objects_owner p _ _ _ (found_set m c.objects (place_of c object) (renewed (object_at c object) value) (w.found (place_of c object)) w.found)

  pub copy_owner : c.participants ≡ 0 → (from : ℕ) (e : Entry) → (object_at c e.object).object ≡ e.object
      → In (record { object = e.object; version = e.version; value = e.value }) m
      → Owner h v m n (with_objects c c.contacted c.count (set c.objects (place_of c e.object) (with_copy (object_at c e.object) from e)))
  unfolding with_copy
  copy_owner p from e q i =
      let x = object_at c e.object in
      let j = subst (λ (k : ℕ). In (record { object = k; version = e.version; value = e.value }) m) (sym q) i in
      objects_owner p _ _ _ (found_set m c.objects (place_of c e.object) (with_copy x from e)
      (copied m x e (better x e) (w.found (place_of c e.object)) j)
      w.found)

  pub reselect_owner : (live : ℕ) (distances : List ℕ) (quorum : ℕ) → Owner h v m n (reselected c live distances quorum)
  unfolding reselected
  reselect_owner live distances quorum = record {
    later = w.later;
    while_open = w.while_open;
    while_voting = w.while_voting;
    when_committed = w.when_committed;
    when_aborted = w.when_aborted;
    asked = w.asked;
    agreed = w.agreed;
    found = w.found;
  }

  -- one more yes
  pub yes_owner : (from : ℕ) (rivals : List ℕ) → v.yes from (tx n c.serial) ≡ true → from < 16 → c.phase ≡ voting_phase
      → Owner h v m n (with_phase c voting_phase c.outcome c.participants (joined c.yes (only from)) c.done rivals)
  yes_owner from rivals y small p = record {
    later = w.later;
    while_open = λ e. absurd (let z : ⊥ = omega arith in z);
    while_voting = λ e. w.while_voting p;
    when_committed = λ e f. absurd (let z : ⊥ = omega arith in z);
    when_aborted = λ e f. absurd (let z : ⊥ = omega arith in z);
    asked = w.asked;
    agreed = λ i e. agreed_by c.yes i from small e (λ a. w.agreed i a) (λ a. ap (λ (k : ℕ). v.yes k (tx n c.serial)) a ∙ y);
    found = w.found;
  }

  -- one more done
  pub done_owner : (done : ℕ) → Owner h v m n (with_phase c c.phase c.outcome c.participants c.yes done c.rivals)
  done_owner done = record {
    later = w.later;
    while_open = w.while_open;
    while_voting = w.while_voting;
    when_committed = w.when_committed;
    when_aborted = w.when_aborted;
    asked = w.asked;
    agreed = w.agreed;
    found = w.found;
  }
