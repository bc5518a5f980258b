-- The host's calls that are no transition: begin, open, set, reselect. What the events tell of the transaction goes with its record.
use mathlib.Core.Path.{◌≡◌, refl, sym, ◌∙◌, ap, subst}
use mathlib.Core.Logic.{◌≢◌, ◌⊎◌, inl, inr, by_cases}
use mathlib.Core.Bool.{Bool, true, false, cond}
use mathlib.Core.List.{List}
use Prim.Native.Nat.{ℕ, ◌+◌, ◌<◌}
use native.Mathlib.Decide.{ℕ_discrete}
use native.Mathlib.Omega.{arith}
use lib.ListN.{set}
use borrow.Author.Tests.{ltb-true}
use Rattle.numbers.specs.Sizes.{most_open}
use Rattle.mask.specs.Mask.{contains}
use Rattle.octets.proofs.Laws.{Bytes}
use Rattle.coordinator.specs.declared.Object.{Object}
use Rattle.coordinator.specs.declared.Coordinator.{Coordinator}
use Rattle.coordinator.specs.declared.BeginWith.{BeginWith}
use Rattle.coordinator.specs.System.{System}
use Rattle.coordinator.specs.State.{idle_phase, open_phase, place_in, place_of, object_at, is_open, ready}
use Rattle.coordinator.specs.Calls.{begun, opened, renewed, with_new, with_objects}
use Rattle.arrivals.specs.Receive.{with_copy}
use Rattle.wire.specs.declared.Entry.{Entry}
use Rattle.clauses.proofs.Facts.{Meets}
use Rattle.clauses.proofs.Places.{place_open}
use Rattle.steps.specs.Station.{Station, system, now_on}
use Rattle.protocol.specs.Table.{put2, In}
use Rattle.protocol.specs.Rules.{Mode, unused}
use Rattle.protocol.specs.State.{Tx, Tx-discrete, fresh, committed}
use Rattle.protocol.specs.Proof.Tables.{clash}
use Rattle.protocol.proofs.Tables.{on, put_cases, put_here, put2_cases}
use Rattle.history.specs.Ledger.{Ledger, current, with_mode, with_serial}
use Rattle.history.specs.Claims.{Shows}
use Rattle.history.proofs.Tests.{no_both}
use Rattle.history.proofs.Sim.{tx, other_tx, later_tx, mode_of, contents_of, Owner, Tells}
use Rattle.history.proofs.Carry.{put_all, by_pool}
use Rattle.history.proofs.Quiet.{begin_owner, open_owner, set_owner, copy_owner}
use Rattle.history.proofs.Objects.{shut_blank, listed_of, OneSet, its_object, other_object, its_mode, other_mode, others_shown, set_shown}
use Rattle.history.proofs.Books.{Decided, Present, Past, More, World, found_next, changed, quiet}

-- ---- a table of the ledger changed for one transaction and object
module _ {X : Type 0} (f : Tx → ℕ → X) (x : Tx) (t : ℕ) (v : X) where
  pub told_here : put2 Tx-discrete ℕ_discrete f x t v x t ≡ v
  told_here = on (put2_cases Tx-discrete ℕ_discrete f x t v x t) (λ z. z.1) (λ z. absurd (z.0 (refl, refl)))

  pub told_else : (y : Tx) (u : ℕ) → (y ≡ x → ⊥) → put2 Tx-discrete ℕ_discrete f x t v y u ≡ f y u
  told_else y u e = on (put2_cases Tx-discrete ℕ_discrete f x t v y u) (λ z. absurd (e z.0.0)) (λ z. z.1)

  pub told_other : (y : Tx) (u : ℕ) → (u ≡ t → ⊥) → put2 Tx-discrete ℕ_discrete f x t v y u ≡ f y u
  told_other y u e = on (put2_cases Tx-discrete ℕ_discrete f x t v y u) (λ z. absurd (e z.0.1)) (λ z. z.1)

-- ---- another ledger that tells the same of every transaction, another record with the same objects
pub record SameTold (L L' : Ledger) : Type 0 where
  pub serials : L'.serials ≡ L.serials
  pub modes : L'.mode ≡ L.mode
  pub news : L'.new ≡ L.new
  pub parties : L'.participants ≡ L.participants

pub record SameObjects (c c' : Coordinator) : Type 0 where
  pub serial : c'.serial ≡ c.serial
  pub phase : c'.phase ≡ idle_phase → c.phase ≡ idle_phase
  pub phase' : c.phase ≡ idle_phase → c'.phase ≡ idle_phase
  pub objects : c'.objects ≡ c.objects
  pub count : c'.count ≡ c.count
  pub participants : c'.participants ≡ c.participants

pub objects_still : (c : Coordinator) → SameObjects c c
objects_still c = record { serial = refl; phase = λ e. e; phase' = λ e. e; objects = refl; count = refl; participants = refl }

module _ (c c' : Coordinator) (k : SameObjects c c') where
  pub object_on : (t : ℕ) → object_at c' t ≡ object_at c t
  object_on t = rw (k.objects, k.count)

  pub open_on : (t : ℕ) → is_open c' t ≡ is_open c t
  open_on t = rw (k.objects, k.count)

  pub shown_on : {s : System} (n t v : ℕ) → Shows s c n t v → Shows s c' n t v
  shown_on {s = s} n t v f = record {
    begun = λ z. f.begun (k.phase z);
    present = k.serial ∙ f.present;
    opened = open_on t ∙ f.opened;
    is_ready = ap (ready s) (object_on t) ∙ f.is_ready;
    value = ap (λ (y : Object). y.value) (object_on t) ∙ f.value;
  }

pub present_on : (L L' : Ledger) (n : ℕ) (c c' : Coordinator) → SameObjects c c' → SameTold L L' → Present L n c → Present L' n c'
present_on L L' n c c' k told p = record {
  serial_as = ap (λ (f : ℕ → ℕ). f n) told.serials ∙ p.serial_as ∙ sym k.serial;
  no_mode = λ s t h. ap (λ (f : Tx → ℕ → Mode). f (tx n s) t) told.modes ∙ p.no_mode s t (omega (arith, k.serial, h));
  no_new = λ s t h. ap (λ (f : Tx → ℕ → ℕ). f (tx n s) t) told.news ∙ p.no_new s t (omega (arith, k.serial, h));
  mode_now = λ e t. ap (λ (f : Tx → ℕ → Mode). f (tx n c'.serial) t) told.modes ∙ ap (λ (s : ℕ). L.mode (tx n s) t) k.serial
      ∙ p.mode_now (λ z. e (k.phase' z)) t ∙ sym (rw (open_on c c' k t, object_on c c' k t));
  new_now = λ e t. ap (λ (f : Tx → ℕ → ℕ). f (tx n c'.serial) t) told.news ∙ ap (λ (s : ℕ). L.new (tx n s) t) k.serial
      ∙ p.new_now (λ z. e (k.phase' z)) t ∙ sym (ap (λ (y : Object). y.new) (object_on c c' k t));
  party_now = λ e. ap (λ (f : Tx → ℕ). f (tx n c'.serial)) told.parties ∙ ap (λ (s : ℕ). L.participants (tx n s)) k.serial
      ∙ p.party_now (λ z. e (k.participants ∙ z)) ∙ sym k.participants;
}

module _ (st : Station) (L : Ledger) (F : Past) (w : World st L F) (n : ℕ) where
  abbrev c : Coordinator
  c = st.records n

  abbrev p : Present L n c
  p = w.books.present n

  abbrev now : Tx
  now = tx n c.serial

  -- the transaction that the events call the owner's present one
  is_now : current L n ≡ now
  is_now = ap (tx n) p.serial_as

  -- ---- begin
  no_object_lem : (q : ℕ) (a : BeginWith) (t : ℕ) → ((contents_of (begun c a q)).mode t ≡ unused) × ((contents_of (begun c a q)).new t ≡ 0)
  unfolding begun place_in
  no_object_lem q a t = (refl, refl)

  begin_here : (a : BeginWith) (q : ℕ) → Present (with_serial L n) n (begun c a q)
  unfolding begun
  begin_here a q = record {
    serial_as = put_here ℕ_discrete L.serials n (L.serials n + 1) ∙ ap (λ (k : ℕ). k + 1) p.serial_as;
    no_mode = λ s t e. p.no_mode s t (omega arith);
    no_new = λ s t e. p.no_new s t (omega arith);
    mode_now = λ e t. p.no_mode (c.serial + 1) t (omega arith) ∙ sym (no_object_lem q a t).0;
    new_now = λ e t. p.no_new (c.serial + 1) t (omega arith) ∙ sym (no_object_lem q a t).1;
    party_now = λ e. absurd (e refl);
  }

  begin_else : (i : ℕ) → (i ≡ n → ⊥) → Present (with_serial L n) i (st.records i)
  begin_else i e = let r = w.books.present i in record {
    serial_as = on (put_cases ℕ_discrete L.serials n (L.serials n + 1) i) (λ z. absurd (e z.0)) (λ z. z.1) ∙ r.serial_as;
    no_mode = r.no_mode;
    no_new = r.no_new;
    mode_now = r.mode_now;
    new_now = r.new_now;
    party_now = r.party_now;
  }

  pub same_decided : {L' : Ledger} → L'.committed ≡ L.committed → L'.mode ≡ L.mode → L'.new ≡ L.new → L'.participants ≡ L.participants
      → Decided L' w.state.history
  same_decided a b d e = let k = w.books.decided in record {
    told_so = λ x i. k.told_so x (subst (In x) a i);
    is_told = λ x q. subst (In x) (sym a) (k.is_told x q);
    its_mode = λ x q t. ap (λ (f : Tx → ℕ → Mode). f x t) b ∙ k.its_mode x q t;
    its_new = λ x q t. ap (λ (f : Tx → ℕ → ℕ). f x t) d ∙ k.its_new x q t;
    its_party_lem = λ x q m. ap (λ (f : Tx → ℕ). contains (f x) m) e ∙ k.its_party_lem x q m;
  }

  pub begin_world : (a : BeginWith) (q : ℕ) → c.phase ≡ idle_phase → Meets (system st) (begun c a q)
      → World (changed st n (begun c a q) st.pool) (with_serial L n) (More F (changed st n (begun c a q) st.pool))
  begin_world a q idle m =
      quiet st L F w n (begun c a q) st.pool (with_serial L n) (begin_owner _ _ _ n c (w.sim.owners n) a q) m (λ b i. i)
      w.books.pool_as refl (same_decided refl refl refl refl)
      (put_all (Present (with_serial L n)) st.records n (begun c a q) (begin_here a q) begin_else) refl refl
      (λ t v f e. absurd (f.begun idle))

  -- ---- while open: the present transaction is fresh, so no committed one is it, and nobody is a participant
  module _ (phase_open : c.phase ≡ open_phase) where
    none_yet : c.participants ≡ 0
    none_yet = (w.valid.records n).party.not_asked (omega (arith, phase_open))

    busy : c.phase ≢ idle_phase
    busy e = let z : ⊥ = omega (arith, phase_open) in z

    not_committed : (x : Tx) → w.state.history.phase x ≡ committed → x ≡ current L n → ⊥
    not_committed x q e =
        let f = (w.sim.owners n).while_open phase_open in let g : x ≡ now = e ∙ is_now in
        let k : w.state.history.phase x ≡ fresh = ap w.state.history.phase g ∙ f in clash (cc)

    -- ---- the ledger with another mode, or another new value, for the present transaction
    module _ (t : ℕ) (md : Mode) where
      mode_decided : Decided (with_mode L n t md) w.state.history
      mode_decided = let k = w.books.decided in record {
        told_so = k.told_so;
        is_told = k.is_told;
        its_mode = λ x q u. told_else L.mode (current L n) t md x u (not_committed x q) ∙ k.its_mode x q u;
        its_new = k.its_new;
        its_party_lem = k.its_party_lem;
      }

      mode_else : (i : ℕ) → (i ≡ n → ⊥) → Present (with_mode L n t md) i (st.records i)
      mode_else i e = let r = w.books.present i in record {
        serial_as = r.serial_as;
        no_mode = λ s u h. told_else L.mode (current L n) t md (tx i s) u (other_tx n i s _ e) ∙ r.no_mode s u h;
        no_new = r.no_new;
        mode_now = λ h u. told_else L.mode (current L n) t md _ u (other_tx n i _ _ e) ∙ r.mode_now h u;
        new_now = r.new_now;
        party_now = r.party_now;
      }

    module _ (t v : ℕ) where
      abbrev renewal : Ledger
      renewal = Rattle.history.specs.Ledger.with_new L n t v

      new_decided : Decided renewal w.state.history
      new_decided = let k = w.books.decided in record {
        told_so = k.told_so;
        is_told = k.is_told;
        its_mode = k.its_mode;
        its_new = λ x q u. told_else L.new (current L n) t v x u (not_committed x q) ∙ k.its_new x q u;
        its_party_lem = k.its_party_lem;
      }

      new_else : (i : ℕ) → (i ≡ n → ⊥) → Present renewal i (st.records i)
      new_else i e = let r = w.books.present i in record {
        serial_as = r.serial_as;
        no_mode = r.no_mode;
        no_new = λ s u h. told_else L.new (current L n) t v (tx i s) u (other_tx n i s _ e) ∙ r.no_new s u h;
        mode_now = r.mode_now;
        new_now = λ h u. told_else L.new (current L n) t v _ u (other_tx n i _ _ e) ∙ r.new_now h u;
        party_now = r.party_now;
      }

    -- ---- open
    module _ (t mode : ℕ) (shut : is_open c t ≡ false) (room : c.count < most_open) (m : Meets (system st) (opened c t mode)) where
      abbrev c₁ : Coordinator
      c₁ = opened c t mode

      abbrev x₁ : Object
      x₁ = Rattle.coordinator.specs.Calls.fresh t mode

      set₁ : OneSet c c₁ c.count x₁
      unfolding opened
      set₁ = record {
        same_serial = refl;
        same_phase = refl;
        objects = refl;
        inside = omega arith;
        grows = omega arith;
        only_there = λ j h e. omega arith;
        replaces = λ h. absurd (let z : ⊥ = omega arith in z);
      }

      abbrev mc : Meets (system st) c
      mc = w.valid.records n

      shown₁ : (u v : ℕ) → Shows (system st) c c.serial u v → Shows (system st) c₁ c.serial u v
      shown₁ u v f = others_shown c c₁ c.count x₁ set₁ mc m u v (λ e. no_both f.opened (ap (is_open c) e ∙ shut)) f

      open_here : Present (with_mode L n t (mode_of mode)) n c₁
      unfolding opened
      open_here = record {
        serial_as = p.serial_as;
        no_mode = λ s u h. told_else L.mode (current L n) t (mode_of mode) (tx n s) u (λ f. later_tx n s c.serial h (f ∙ is_now)) ∙ p.no_mode s u h;
        no_new = p.no_new;
        mode_now = λ e u. on (put2_cases Tx-discrete ℕ_discrete L.mode (current L n) t (mode_of mode) now u)
            (λ z. z.1 ∙ sym (ap (contents_of c₁).mode z.0.1 ∙ its_mode c c₁ c.count x₁ set₁ mc m))
            (λ z. z.1 ∙ p.mode_now busy u ∙ sym (other_mode c c₁ c.count x₁ set₁ mc m u (λ q. z.0 (sym is_now, q))));
        new_now = λ e u. p.new_now busy u ∙ by_cases (ℕ_discrete u t)
            (λ q. ap (λ (k : ℕ). (object_at c k).new) q ∙ ap (λ (y : Object). y.new)
            (shut_blank c.objects c.count (listed_of c (w.valid.records n)) t shut)
            ∙ sym (ap (λ (k : ℕ). (object_at c₁ k).new) q ∙ ap (λ (y : Object). y.new) (its_object c c₁ c.count x₁ set₁ mc m)))
            (λ q. ap (λ (y : Object). y.new) (sym (other_object c c₁ c.count x₁ set₁ mc m u q)));
        party_now = p.party_now;
      }

      pub open_world : World (changed st n c₁ st.pool) (with_mode L n t (mode_of mode)) (More F (changed st n c₁ st.pool))
      open_world = quiet st L F w n c₁ st.pool (with_mode L n t (mode_of mode)) (open_owner _ _ _ n c (w.sim.owners n) none_yet t mode) m (λ b i. i)
          w.books.pool_as refl (mode_decided t (mode_of mode))
          (put_all (Present (with_mode L n t (mode_of mode))) st.records n c₁ open_here (mode_else t (mode_of mode))) refl refl
          (λ u v f e. shown₁ u v f)

    -- ---- an object that is open, at its place
    module _ (t : ℕ) (opened_now : is_open c t ≡ true) where
      abbrev i₂ : ℕ
      i₂ = place_of c t

      stood : (i₂ < c.count) × ((object_at c t).object ≡ t)
      stood = let z = place_open c.objects c.count t (ltb-true i₂ most_open opened_now) in (z.0, z.1.1)

      -- the record with x there, which is of the same object and mode
      module _ (c' : Coordinator) (x : Object) (k : OneSet c c' i₂ x) (m : Meets (system st) c') (same_object : x.object ≡ (object_at c t).object)
          (same_mode : x.mode ≡ (object_at c t).mode) where
        abbrev mc' : Meets (system st) c
        mc' = w.valid.records n

        is_t : x.object ≡ t
        is_t = same_object ∙ stood.1

        pub mode_same : (u : ℕ) → (contents_of c').mode u ≡ (contents_of c).mode u
        mode_same u = by_cases (ℕ_discrete u x.object)
            (λ e. ap (contents_of c').mode e ∙ its_mode c c' i₂ x k mc' m ∙ ap mode_of same_mode
            ∙ sym (ap (contents_of c).mode (e ∙ is_t) ∙ ap (λ (b : Bool). cond b (mode_of (object_at c t).mode) unused) opened_now))
            (λ e. other_mode c c' i₂ x k mc' m u e)

        pub new_there : (object_at c' t).new ≡ x.new
        new_there = ap (λ (y : ℕ). (object_at c' y).new) (sym is_t) ∙ ap (λ (y : Object). y.new) (its_object c c' i₂ x k mc' m)

        pub new_else_there : (u : ℕ) → (u ≡ t → ⊥) → (object_at c' u).new ≡ (object_at c u).new
        new_else_there u e = ap (λ (y : Object). y.new) (other_object c c' i₂ x k mc' m u (λ q. e (q ∙ is_t)))

        pub shown_there : ((v : ℕ) → Shows (system st) c c.serial t v → (ready (system st) x ≡ true) × (x.value ≡ v))
            → (u v : ℕ) → Shows (system st) c c.serial u v → Shows (system st) c' c.serial u v
        shown_there g u v f = by_cases (ℕ_discrete u x.object)
            (λ e. let z = g v (subst (λ (y : ℕ). Shows (system st) c c.serial y v) (e ∙ is_t) f) in
            subst (λ (y : ℕ). Shows (system st) c' c.serial y v) (sym e) (set_shown c c' i₂ x k mc' m v f.begun z.0 z.1))
            (λ e. others_shown c c' i₂ x k mc' m u v e f)

      -- ---- set
      module _ (v : ℕ) (m : Meets (system st) (with_new c t v)) where
        abbrev x₂ : Object
        x₂ = renewed (object_at c t) v

        set₂ : OneSet c (with_new c t v) i₂ x₂
        unfolding with_new
        set₂ = record {
          same_serial = refl;
          same_phase = refl;
          objects = refl;
          inside = stood.0;
          grows = omega arith;
          only_there = λ j h e. h;
          replaces = λ h. refl;
        }

        set_here : Present (renewal t v) n (with_new c t v)
        unfolding with_new
        set_here = record {
          serial_as = p.serial_as;
          no_mode = p.no_mode;
          no_new = λ s u h. told_else L.new (current L n) t v (tx n s) u (λ f. later_tx n s c.serial h (f ∙ is_now)) ∙ p.no_new s u h;
          mode_now = λ e u. p.mode_now busy u ∙ sym (mode_same (with_new c t v) x₂ set₂ m refl refl u);
          new_now = λ e u. on (put2_cases Tx-discrete ℕ_discrete L.new (current L n) t v now u)
              (λ z. z.1 ∙ sym (ap (λ (k : ℕ). (object_at (with_new c t v) k).new) z.0.1 ∙ new_there (with_new c t v) x₂ set₂ m refl refl))
              (λ z. z.1 ∙ p.new_now busy u ∙ sym (new_else_there (with_new c t v) x₂ set₂ m refl refl u (λ q. z.0 (sym is_now, q))));
          party_now = p.party_now;
        }

        pub set_world : World (changed st n (with_new c t v) st.pool) (renewal t v) (More F (changed st n (with_new c t v) st.pool))
        set_world = quiet st L F w n (with_new c t v) st.pool (renewal t v) (set_owner _ _ _ n c (w.sim.owners n) none_yet t v) m (λ b i. i)
            w.books.pool_as refl (new_decided t v)
            (put_all (Present (renewal t v)) st.records n (with_new c t v) set_here (new_else t v)) refl refl
            (λ u y f e. shown_there (with_new c t v) x₂ set₂ m refl refl (λ q g. (g.is_ready, g.value)) u y f)

    -- ---- a copy of an object that is not ready
    module _ (from : ℕ) (e : Entry) (opened_now : is_open c e.object ≡ true) (not_ready_lem : ready (system st) (object_at c e.object) ≡ false)
        (was-sent : In (record { object = e.object; version = e.version; value = e.value }) w.state.sent) where
      abbrev x₃ : Object
      x₃ = with_copy (object_at c e.object) from e

      abbrev c₃ : Coordinator
      c₃ = with_objects c c.contacted c.count (set c.objects (place_of c e.object) x₃)

      set₃ : OneSet c c₃ (place_of c e.object) x₃
      unfolding with_copy
      set₃ = record {
        same_serial = refl;
        same_phase = refl;
        objects = refl;
        inside = (stood e.object opened_now).0;
        grows = omega arith;
        only_there = λ j h q. h;
        replaces = λ h. refl;
      }

      keeps : (x₃.object ≡ (object_at c e.object).object) × ((x₃.mode ≡ (object_at c e.object).mode) × (x₃.new ≡ (object_at c e.object).new))
      unfolding with_copy
      keeps = (refl, (refl, refl))

      copy_here_lem : (L' : Ledger) → SameTold L L' → Meets (system st) c₃ → Present L' n c₃
      copy_here_lem L' told m = let q = present_on L L' n c c (objects_still c) told p in record {
        serial_as = q.serial_as;
        no_mode = q.no_mode;
        no_new = q.no_new;
        mode_now = λ h u. q.mode_now busy u ∙ sym (mode_same e.object opened_now c₃ x₃ set₃ m keeps.0 keeps.1.0 u);
        new_now = λ h u. q.new_now busy u ∙ by_cases (ℕ_discrete u e.object)
            (λ z. ap (λ (k : ℕ). (object_at c k).new) z
            ∙ sym (ap (λ (k : ℕ). (object_at c₃ k).new) z ∙ new_there e.object opened_now c₃ x₃ set₃ m keeps.0 keeps.1.0 ∙ keeps.1.1))
            (λ z. sym (new_else_there e.object opened_now c₃ x₃ set₃ m keeps.0 keeps.1.0 u z));
        party_now = q.party_now;
      }

      pub copy_world : (pool : List (List ℕ)) (L' : Ledger) → SameTold L L' → Meets (system st) c₃ → ((b : List ℕ) → In b pool → In b st.pool)
          → L'.pool ≡ pool → L'.log ≡ L.log → L'.committed ≡ L.committed → L'.dones ≡ L.dones → L'.puts ≡ L.puts
          → World (changed st n c₃ pool) L' (More F (changed st n c₃ pool))
      copy_world pool L' told m sub a b d f fp = quiet st L F w n c₃ pool L'
          (copy_owner _ _ _ n c (w.sim.owners n) none_yet from e (stood e.object opened_now).1 was-sent) m sub a b
          (same_decided d told.modes told.news told.parties)
          (put_all (Present L') st.records n c₃ (copy_here_lem L' told m)
          (λ i q. present_on L L' i (st.records i) (st.records i) (objects_still (st.records i)) told (w.books.present i)))
          f fp
          (λ u v g q. shown_there e.object opened_now c₃ x₃ set₃ m keeps.0 keeps.1.0 (λ y z. absurd (no_both z.is_ready not_ready_lem)) u v g)

  -- ---- a record with the same objects: reselect, one more yes, one more done
  module _ (c' : Coordinator) (pool : List (List ℕ)) (L' : Ledger) (k : SameObjects c c') (told : SameTold L L') where
    pub same_world : Owner w.state.history w.state.votes w.state.sent n c' → Meets (system st) c' → ((b : List ℕ) → In b pool → In b st.pool)
        → L'.pool ≡ pool → L'.log ≡ L.log → L'.committed ≡ L.committed → L'.dones ≡ L.dones → L'.puts ≡ L.puts
        → World (changed st n c' pool) L' (More F (changed st n c' pool))
    same_world ow m sub a b d e ep = quiet st L F w n c' pool L' ow m sub a b (same_decided d told.modes told.news told.parties)
        (put_all (Present L') st.records n c' (present_on L L' n c c' k told p)
        (λ i f. present_on L L' i (st.records i) (st.records i) (objects_still (st.records i)) told (w.books.present i)))
        e ep (λ t v f g. shown_on c c' k c.serial t v f)

-- ---- a step that changes no record and no image: of pool, nodes and ledger whatever else
module _ (st : Station) (L : Ledger) (F : Past) (w : World st L F) where
  abbrev True : List ℕ → Type 0
  True b = Tells w.state.history w.state.votes w.state.sent b

  pub steady : (pool : List (List ℕ)) (up : ℕ) (L' : Ledger) → ((y : List ℕ) → In y pool → In y st.pool ⊎ (True y × Bytes y)) → L'.pool ≡ pool
      → ((y : List ℕ) → In y L'.puts → In y L.puts ⊎ True y) → L'.log ≡ L.log → L'.committed ≡ L.committed → L'.dones ≡ L.dones → SameTold L L'
      → World (record { images = st.images; records = st.records; pool = pool; own = now_on st.own up }) L'
      (More F (record { images = st.images; records = st.records; pool = pool; own = now_on st.own up }))
  steady pool up L' new a puts b d e told =
      let st' : Station = record { images = st.images; records = st.records; pool = pool; own = now_on st.own up } in
      let sim' = by_pool st w.log w.sim pool (now_on st.own up) (λ y i. on (new y i) inl (λ z. inr z.0)) in
      let bk = w.books in
      record {
        sane = w.sane;
        state = w.state;
        log = w.log;
        sim = sim';
        valid = record {
          images = w.valid.images;
          records = w.valid.records;
          messages = λ y i. on (new y i) (λ j. w.valid.messages y j) (λ z. z.1);
        };
        books = record {
          pool_as = a;
          puts_true = λ y i. on (puts y i) (λ j. bk.puts_true y j) (λ z. z);
          log_as = b ∙ bk.log_as;
          decided = same_decided st L F w 0 d told.modes told.news told.parties;
          present = λ i. present_on L L' i (st.records i) (st.records i) (objects_still (st.records i)) told (bk.present i);
          dones = λ z k i. bk.dones z k (ap (λ (f : Tx → ℕ → Bool). f z k) (sym e) ∙ i);
          found = found_next F st' w.state w.log sim' w.valid.records bk.found.still bk.found.carried
              (λ x t q r. inl (bk.found.had x t q r));
        };
      }

  -- fewer messages wait, or others are on; nothing is put
  pub fewer : (pool : List (List ℕ)) (up : ℕ) (L' : Ledger) → ((y : List ℕ) → In y pool → In y st.pool) → L'.pool ≡ pool → L'.log ≡ L.log
      → L'.dones ≡ L.dones → L'.puts ≡ L.puts → L'.committed ≡ L.committed → SameTold L L'
      → World (record { images = st.images; records = st.records; pool = pool; own = now_on st.own up }) L'
      (More F (record { images = st.images; records = st.records; pool = pool; own = now_on st.own up }))
  fewer pool up L' sub a b c cp d told = steady pool up L' (λ y i. inl (sub y i)) a (λ y i. inl (subst (In y) cp i)) b d c told

  -- the same station once more
  pub again : World st L (More F st)
  again = fewer st.pool st.own.on L (λ y i. i) w.books.pool_as refl refl refl refl
      (record { serials = refl; modes = refl; news = refl; parties = refl })
