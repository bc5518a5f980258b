-- What is due from a record that meets its clauses is a well-formed message: by the phase, then by what it owes. So the writer never gives 3.
use mathlib.Core.Path.{◌≡◌, refl, ap, ◌∙◌}
use mathlib.Core.Bool.{Bool, true, false, cond, not, ◌&&◌}
use mathlib.Core.List.{List, [], ◌∷◌, map}
use Prim.Native.Nat.{ℕ, ◌%◌, ◌<◌, ◌≤◌}
use native.Mathlib.Omega.{arith}
use lib.Dec.{eqb, ltb, leb}
use borrow.Author.Tests.{eqb-true, eqb-false, eq-eqb, ne_eqb, ltb-true, ltb-false, leb-true, leb-false, lt-ltb, le-leb, not-false, not-true}
use lib.ListN.{length, get_or}
use Rattle.numbers.specs.Sizes.{nodes, objects, most_open, highest, longest_message}
use Rattle.mask.proofs.Tests.{and_left, and_right, T_true}
use Rattle.mask.specs.Mask.{contains}
use Rattle.numbers.specs.Refusal.{first_of}
use Rattle.wire.specs.declared.Entry.{Entry}
use Rattle.wire.specs.declared.Rival.{Rival}
use Rattle.wire.specs.Message.{fetch, ask, outcome, yield}
use Rattle.wire.specs.Formed.{counts_ok, ascend, every, entry_ok, rival_ok, entries_ok, rivals_ok, well_formed}
use Rattle.wire.specs.Encode.{All}
use Rattle.letters.specs.Write.{sent, written_of}
use Rattle.wire.proofs.Theorems.{length_bounds}
use Rattle.coordinator.specs.declared.Object.{Object}
use Rattle.coordinator.specs.declared.Coordinator.{Coordinator}
use Rattle.coordinator.specs.System.{System}
use Rattle.coordinator.specs.State.{open_phase, voting_phase, finishing_phase, committed, place_of, object_at, is_open, any_used_up, awaited, ready}
use Rattle.due.specs.Kind.{no_kind, open_due, voting_due, finishing_due, due_kind, due_refusals}
use Rattle.coordinator.proofs.Refusals.{clear}
use Rattle.clauses.proofs.Parts.{by_test, true-T, neither_right}
use Rattle.clauses.proofs.Places.{across_none}
use Rattle.clauses.proofs.Facts.{Full, Meets}
use Rattle.clauses.proofs.Fits.{Widths}
use Rattle.due.specs.Due.{entry_for, entries_of, fetch_to, ask_to, outcome_to, yield_to, message_due, write_refusals, is_due, due_written}
use Rattle.due.proofs.Entries.{open_place, entries_count, entries_ascend, every_entry}

-- ---- tests
both_left : (a b : Bool) → (a && b) ≡ true → a ≡ true
both_left a b e = T_true a (and_left a b (true-T (a && b) e))

both_right : (a b : Bool) → (a && b) ≡ true → b ≡ true
both_right a b e = T_true b (and_right a b (true-T (a && b) e))

no_kind_lem : {A : Type 0} → ltb 0 0 ≡ true → A
no_kind_lem e = absurd (let h = ltb-true 0 0 e in let z : ⊥ = omega arith in z)

-- a test that decides whether there is a kind
kind_when : (b : Bool) (k : ℕ) → ltb 0 (cond b k 0) ≡ true → b ≡ true
kind_when true k e = refl
kind_when false k e = no_kind_lem e

rest_false : (a b : Bool) → a ≡ true → (a && b) ≡ false → b ≡ false
rest_false true b e f = f
rest_false false b e f = absurd (let z : ◌≡◌ {A = ℕ} 0 1 = cc in let w : ⊥ = omega arith in w)

every_all : {A : Type 0} (f : A → Bool) (l : List A) → All (λ (x : A). f x ≡ true) l → every f l ≡ true
every_all f [] a = refl
every_all f (x ∷ l) a = simp (a.0, every_all f l a.1)

positive : (n : ℕ) → (n ≡ 0 → ⊥) → 1 ≤ n
positive n f = by_test (1 ≤ n) (leb 1 n) (λ e. leb-true 1 n e) (λ e. absurd (f (let h = leb-false 1 n e in let z : n ≡ 0 = omega arith in z)))

ascend_none : ascend 0 [] ≡ true
unfolding ascend
ascend_none = refl

ascend_one : (x : ℕ) → ascend 0 (x ∷ []) ≡ true
unfolding ascend
ascend_one x = simp (le-leb 0 x (omega arith))

-- ---- a message from the owner
module _ (node me serial stamp : ℕ) (hn : node < nodes) (hm : me < nodes) (hs : 1 ≤ serial) (ht : 1 ≤ stamp) where
  sent_formed : (kind : ℕ) (es : List Entry) (rs : List Rival) (ws : List ℕ) → counts_ok kind (length es) (length rs) (length ws) (get_or ws 0 0) ≡ true
      → eqb (kind % 2) 1 ≡ true → ascend 0 (map (λ (e : Entry). e.object) es) ≡ true → every (entry_ok kind) es ≡ true
      → ascend 0 (map (λ (r : Rival). r.owner) rs) ≡ true → every (rival_ok kind me node) rs ≡ true
      → well_formed (sent node me serial stamp kind es rs ws) ≡ true
  unfolding well_formed entries_ok rivals_ok
  sent_formed kind es rs ws k d a b p q =
      simp (k, lt-ltb me nodes hm, lt-ltb node nodes hn, le-leb 1 serial hs, le-leb 1 stamp ht, d, eq-eqb me me refl, a, b, p, q)

  fetch_formed : (object mode : ℕ) → object < objects → mode < 2
      → well_formed (sent node me serial stamp fetch (record { object = object; mode = mode; version = 0; value = 0 } ∷ []) [] []) ≡ true
  unfolding counts_ok ascend entry_ok
  fetch_formed object mode h k = sent_formed fetch _ [] [] refl refl (ascend_one object) (simp (lt-ltb object objects h, lt-ltb mode 2 k)) refl refl

  abort_formed : well_formed (sent node me serial stamp outcome [] [] (0 ∷ [])) ≡ true
  unfolding counts_ok ascend
  abort_formed = sent_formed outcome [] [] (0 ∷ []) refl refl refl refl refl refl

  yield_formed : (r : ℕ) → (node ≡ me → ⊥) → (r ≡ 0 → ⊥)
      → well_formed (sent node me serial stamp yield [] (record { owner = node; serial = r } ∷ []) []) ≡ true
  unfolding counts_ok ascend rival_ok
  yield_formed r f g =
      let h : 1 ≤ r = positive r g in
      sent_formed yield [] _ [] refl refl refl refl (ascend_one node) (simp (lt-ltb node nodes hn, ne_eqb node me f, le-leb 1 r h, eq-eqb node node refl))

  -- an ask or a commit, with one to eight entries
  ask_formed : (es : List Entry) → 1 ≤ length es → length es ≤ most_open → ascend 0 (map (λ (e : Entry). e.object) es) ≡ true → every (entry_ok ask) es ≡ true
      → well_formed (sent node me serial stamp ask es [] []) ≡ true
  unfolding counts_ok
  ask_formed es h k a b = sent_formed ask es [] [] (simp (le-leb 1 (length es) h, le-leb (length es) most_open k)) refl a b ascend_none refl

  commit_formed : (es : List Entry) → 1 ≤ length es → length es ≤ most_open → ascend 0 (map (λ (e : Entry). e.object) es) ≡ true
      → every (entry_ok outcome) es ≡ true → well_formed (sent node me serial stamp outcome es [] (1 ∷ [])) ≡ true
  unfolding counts_ok
  commit_formed es h k a b = sent_formed outcome es [] (1 ∷ []) (simp (le-leb 1 (length es) h, le-leb (length es) most_open k)) refl a b ascend_none refl

-- ---- what is due
module _ (s : System) (c : Coordinator) (m : Meets s c) (w : Widths c) where
  -- the entry of an open object, once votes were asked for
  entry_ok_lem : (kind : ℕ) → eqb kind 1 ≡ false → eqb kind 2 ≡ false → any_used_up c.objects c.count ≡ false → (n : ℕ) → is_open c n ≡ true
      → entry_ok kind (entry_for (object_at c n)) ≡ true
  unfolding entry_ok any_used_up
  entry_ok_lem kind k1 k2 u n o =
      let p = open_place s c m n o in
      let x = m.objects.opened (place_of c n) p.0 in
      let y : Object = object_at c n in
      let small = m.objects.eight_at_most in
      let full = m.sizes.objects_8 in
      let a = lt-ltb y.object objects x.object_known in
      let b = lt-ltb y.mode 2 x.mode_known in
      by_test (entry_ok kind (entry_for y) ≡ true) (eqb y.mode 0) (λ e. simp (a, b, k1, k2, e))
      (λ e.
      let f = across_none (λ (i : ℕ) (z : Object). ltb i c.count && (not (eqb z.mode 0) && eqb z.version highest)) c.objects u (place_of c n)
      (omega (arith, p.0)) in
      let g = rest_false _ _ (lt-ltb (place_of c n) c.count p.0) f in
      let h : eqb y.version highest ≡ false = rest_false (not (eqb y.mode 0)) (eqb y.version highest) (ap not e) g in
      let v = (w.objects_fit (place_of c n)).version_32 in
      let q : y.version < highest = under y.version v (eqb-false y.version highest h) in
      simp (a, b, k1, k2, e, lt-ltb y.version highest q))
    where
      under : (n : ℕ) → n < 4294967296 → (n ≡ highest → ⊥) → n < highest
      under n h f = by_test (n < highest) (ltb n highest) (λ e. ltb-true n highest e)
          (λ e. absurd (f (let k = ltb-false n highest e in let z : n ≡ highest = omega arith in z)))

  module _ (me node object : ℕ) (hm : me < nodes) (hn : node < nodes) (own : get_or c.rivals me 0 ≡ 0) where
    begun_serial : (c.phase ≡ 0 → ⊥) → (1 ≤ c.serial) × (1 ≤ c.timestamp)
    begun_serial f =
        let used : c.serial ≡ 0 → ⊥ = (λ e. f (m.numbers.unused e).1.0) in
        (positive c.serial used, positive c.timestamp (m.numbers.used used))

    full_entries : Full s c.contacted c.count c.objects c.participants → (1 ≤ length (entries_of c)) × (length (entries_of c) ≤ most_open)
    full_entries f =
        let k = positive c.count f.some_object in
        let small = m.objects.eight_at_most in
        let e = entries_count s c m in
        (omega arith, omega arith)

    entries_fine : (kind : ℕ) → eqb kind 1 ≡ false → eqb kind 2 ≡ false → Full s c.contacted c.count c.objects c.participants
        → every (entry_ok kind) (entries_of c) ≡ true
    unfolding entries_of
    entries_fine kind a b f =
        every_all (entry_ok kind) (entries_of c)
        (every_entry s c m (λ (e : Entry). entry_ok kind e ≡ true) (entry_ok_lem kind a b f.none_used_up) objects)

    open_formed : c.phase ≡ open_phase → is_open c object ≡ true → well_formed (fetch_to c me node object) ≡ true
    open_formed e o =
        let p = open_place s c m object o in
        let x = m.objects.opened (place_of c object) p.0 in
        let b = begun_serial (λ z. omega arith) in
        let k = x.object_known in
        fetch_formed node me c.serial c.timestamp hn hm b.0 b.1 object (object_at c object).mode (omega (arith, p.1)) x.mode_known

    voting_formed : c.phase ≡ voting_phase → well_formed (ask_to c me node) ≡ true
    voting_formed e =
        let f = m.party.full (m.party.asked_for e) in
        let b = begun_serial (λ z. omega arith) in
        let n = full_entries f in
        ask_formed node me c.serial c.timestamp hn hm b.0 b.1 (entries_of c) n.0 n.1 (entries_ascend s c m) (entries_fine ask refl refl f)

    outcome_formed : c.phase ≡ finishing_phase → well_formed (outcome_to c me node) ≡ true
    outcome_formed e =
        let b = begun_serial (λ z. omega arith) in
        by_test (well_formed (outcome_to c me node) ≡ true) (eqb c.outcome committed)
        (λ t.
        let one : c.outcome ≡ 1 = eqb-true c.outcome committed t in
        let f = m.party.full (λ z. let two : c.outcome ≡ 2 = m.votes.else_aborted e (λ a. a.0 z) in let w : ⊥ = omega arith in w) in
        let n = full_entries f in
        simp t
        (commit_formed node me c.serial c.timestamp hn hm b.0 b.1 (entries_of c) n.0 n.1 (entries_ascend s c m)
        (entries_fine outcome refl refl f)))
        (λ t. simp t (abort_formed node me c.serial c.timestamp hn hm b.0 b.1))

    yield_due_formed : c.phase ≡ finishing_phase → (get_or c.rivals node 0 ≡ 0 → ⊥) → well_formed (yield_to c me node) ≡ true
    yield_due_formed e r =
        let b = begun_serial (λ z. omega arith) in
        yield_formed node me c.serial c.timestamp hn hm b.0 b.1 (get_or c.rivals node 0)
        (λ z. r (ap (λ (i : ℕ). get_or c.rivals i 0) z ∙ own)) r

    abbrev Goal : Type 0
    Goal = well_formed (message_due c me node object (due_kind s c node object)) ≡ true

    -- by the phase, then by what is owed
    kind_formed : (eqb c.phase open_phase ≡ true → is_open c object ≡ true) → ltb no_kind (due_kind s c node object) ≡ true
        → well_formed (message_due c me node object (due_kind s c node object)) ≡ true
    unfolding message_due due_kind open_due voting_due finishing_due
    kind_formed o k =
        by_test Goal (eqb c.phase open_phase)
        (λ e. let t = kind_when (contains c.quorum node && not (ready s (object_at c object))) fetch (simp e at k) in
        simp (e, t) (open_formed (eqb-true c.phase open_phase e) (o e)))
        (λ e. by_test Goal (eqb c.phase voting_phase)
        (λ f. let t = kind_when (contains c.participants node && not (contains c.yes node)) ask (simp (e, f) at k) in
        simp (e, f, t) (voting_formed (eqb-true c.phase voting_phase f)))
        (λ f. by_test Goal (eqb c.phase finishing_phase)
        (λ g. let h = eqb-true c.phase finishing_phase g in
        by_test Goal (contains (awaited c) node && not (contains c.done node)) (λ t. simp (e, f, g, t) (outcome_formed h))
        (λ t. let u = kind_when (eqb c.outcome committed && not (eqb (get_or c.rivals node 0) 0)) yield (simp (e, f, g, t) at k) in
        simp (e, f, g, t, u)
        (yield_due_formed h (eqb-false _ 0 (not-true _ (both_right (eqb c.outcome committed) (not (eqb (get_or c.rivals node 0) 0)) u))))))
        (λ g. no_kind_lem (simp (e, f, g) at k))))

    -- something is due: then it is well formed
    pub due_formed : (size : ℕ) → is_due s size c me node object ≡ true → well_formed (message_due c me node object (due_kind s c node object)) ≡ true
    unfolding is_due write_refusals due_refusals
    due_formed size d =
        let zero = eqb-true _ 0 (both_left _ (ltb no_kind (due_kind s c node object)) d) in
        let free = clear (write_refusals size c me node object) tt zero in
        kind_formed (λ e. not-false (is_open c object) (neither_right (not (ltb object objects)) (not (is_open c object)) (rest_false _ _ e free.1.1.0)))
        (both_right (eqb (first_of (write_refusals size c me node object)) 0) _ d)

    -- the buffer has room then
    due_long : (size : ℕ) → is_due s size c me node object ≡ true → ltb size longest_message ≡ false
    unfolding is_due write_refusals due_refusals
    due_long size d =
        (clear (write_refusals size c me node object) tt (eqb-true _ 0 (both_left _ (ltb no_kind (due_kind s c node object)) d))).0

    -- so it is written whole: the number is 0, and there are 15 to 128 bytes
    pub due_bytes : (size : ℕ) → is_due s size c me node object ≡ true
        → ((due_written s size c me node object).number ≡ 0)
        × ((15 ≤ (due_written s size c me node object).length) × ((due_written s size c me node object).length ≤ longest_message))
    unfolding due_written written_of
    due_bytes size d =
        let f = due_formed size d in
        simp (d, due_long size d, f) (refl, length_bounds (message_due c me node object (due_kind s c node object)) f)
