-- The coordinator's transitions with what the events tell: votes asked for, an abort, a commit; and the last done, after which the record is idle.
use mathlib.Core.Path.{◌≡◌, refl, sym, ◌∙◌, ap, subst}
use mathlib.Core.Logic.{◌≢◌, ◌⊎◌, inl, inr, by_cases}
use mathlib.Core.Bool.{Bool, true, false, cond, not, ◌||◌}
use mathlib.Core.List.{List, ◌∷◌}
use Prim.Native.Nat.{ℕ, ◌<◌}
use native.Mathlib.Decide.{ℕ_discrete}
use native.Mathlib.Omega.{arith}
use lib.Dec.{eqb, ltb, T_not}
use borrow.Author.Tests.{ltb-true, lt-ltb}
use Rattle.numbers.specs.Sizes.{most_open}
use Rattle.mask.specs.Mask.{contains, only, joined, within}
use Rattle.mask.proofs.Tests.{T_true, and_left, or_cases}
use Rattle.coordinator.specs.declared.Object.{Object}
use Rattle.coordinator.specs.declared.Coordinator.{Coordinator}
use Rattle.coordinator.specs.State.{idle_phase, open_phase, voting_phase, finishing_phase, place_of, object_at, is_open, ready, settled, all_settled}
use Rattle.coordinator.specs.State.{awaited, idle_after}
use Rattle.coordinator.specs.Calls.{with_phase, requested, ended_aborted}
use Rattle.clauses.proofs.Facts.{Meets}
use Rattle.clauses.proofs.Places.{place_open, across_at}
use Rattle.steps.specs.Station.{Station, system, put_at}
use Rattle.protocol.specs.Table.{put, In}
use Rattle.protocol.specs.Rules.{Mode, unused}
use Rattle.protocol.specs.State.{Tx, Tx-discrete, tx_path, Phase, fresh, voting, committed, aborted, Contents, History, State}
use Rattle.protocol.specs.Transitions.{do_ask, do_commit, do_abort, Step, ask, commit, abort}
use Rattle.protocol.specs.Proof.Tables.{clash}
use Rattle.protocol.proofs.Tables.{on, put_cases, put_here}
use Rattle.protocol.specs.Refine.Growth.{Late}
use Rattle.protocol.proofs.Refine.Growth.{step_grows}
use Rattle.history.specs.Ledger.{Ledger, current, with_participants}
use Rattle.history.specs.Claims.{Shows, Finds}
use Rattle.clauses.proofs.Parts.{true-T}
use Rattle.history.proofs.Quorums.{rules}
use Rattle.history.proofs.Sim.{tx, other_tx, mode_of, contents_of, Tells, Sim}
use Rattle.history.proofs.Carry.{put_all, onward, tells_on}
use Rattle.history.proofs.Quiet.{idle_owner}
use Rattle.history.proofs.Decide.{put_else, can_ask, can_abort, can_commit, sim_asked, sim_aborted, sim_committed}
use Rattle.history.proofs.Books.{Decided, Present, Past, More, Asked, World, changed, found_next, shown_mode, quiet}
use Rattle.history.proofs.Host.{SameTold, objects_still, present_on, same_decided}

-- ---- a transition that moves the phase of the owner's present transaction only
module _ (st : Station) (L : Ledger) (F : Past) (w : World st L F) (n : ℕ) where
  abbrev c : Coordinator
  c = st.records n

  abbrev x : Tx
  x = tx n c.serial

  abbrev h : History ℕ
  h = w.state.history

  -- what a fresh transaction found, other than the present one of n, is not touched by a change of n's record
  pub elsewhere : (c' : Coordinator) (y : Tx) (t v : ℕ) → (y ≡ x → ⊥) → Finds st y t v
      → Shows (system st) (put_at st.records n c' y.owner) y.serial t v
  elsewhere c' y t v e f = put_all (λ i d. (i ≡ y.owner) → Shows (system st) (st.records i) y.serial t v → Shows (system st) d y.serial t v)
      st.records n c'
      (λ q g. absurd (e (tx_path y x (sym q) (sym g.present)))) (λ i q r g. g) y.owner refl f

  -- whatever was put still tells the truth
  pub puts_on : {σ' : State ℕ} → Step (rules w.sane) w.state σ' → (b : List ℕ) → In b L.puts → Tells σ'.history σ'.votes σ'.sent b
  puts_on s b i = tells_on (onward (step_grows s)) b (w.books.puts_true b i)

  module _ (σ' : State ℕ) (l' : List Tx) (c' : Coordinator) (pool : List (List ℕ)) (sim' : Sim w.sane (changed st n c' pool) σ' l')
      (m : Meets (system st) c') where
    abbrev st' : Station
    st' = changed st n c' pool

    pub turned : (L' : Ledger) → ((b : List ℕ) → In b pool → In b st.pool) → L'.pool ≡ pool → L'.log ≡ l' → Decided L' σ'.history
        → ((i : ℕ) → Present L' i (put_at st.records n c' i)) → ((y : Tx) (m : ℕ) → L'.dones y m ≡ true → Late σ'.ends m y)
        → ((b : List ℕ) → In b L'.puts → Tells σ'.history σ'.votes σ'.sent b)
        → ((y : Tx) (t v : ℕ) → F y t v → σ'.history.phase y ≡ fresh → Finds st' y t v)
        → ((y : Tx) (t v : ℕ) → F y t v → Asked σ'.history y → ((σ'.history.contents y).found t ≡ v) × ((σ'.history.contents y).mode t ≢ unused))
        → ((y : Tx) (t : ℕ) → Asked σ'.history y → (σ'.history.contents y).mode t ≢ unused → More F st' y t ((σ'.history.contents y).found t))
        → World st' L' (More F st')
    turned L' sub a b d e f fp g i j =
        let meets = put_all (λ (k : ℕ) (z : Coordinator). Meets (system st) z) st.records n c' m (λ k q. w.valid.records k) in
        record {
          sane = w.sane;
          state = σ';
          log = l';
          sim = sim';
          valid = record { images = w.valid.images; records = meets; messages = λ y q. w.valid.messages y (sub y q) };
          books = record { pool_as = a; puts_true = fp; log_as = b; decided = d; present = e; dones = f; found = found_next F st' σ' l' sim' meets g i j };
        }

  -- ---- votes asked for
  module _ (party : ℕ) (phase_open : c.phase ≡ open_phase) (counts : (system st).is_write party ≡ true) (m : Meets (system st) (requested c party)) where
    placed : (t : ℕ) → is_open c t ≡ true → (object_at c t).object ≡ t
    placed t e = (place_open c.objects c.count t (ltb-true (place_of c t) most_open e)).1.1

    abbrev c₁ : Coordinator
    c₁ = requested c party

    abbrev k₁ : Contents ℕ
    k₁ = contents_of (requested c party)

    abbrev τ₁ : State ℕ
    τ₁ = do_ask w.state x k₁

    abbrev h₁ : History ℕ
    h₁ = τ₁.history

    sim₁ : Sim w.sane (changed st n c₁ st.pool) τ₁ w.log
    sim₁ = sim_asked st w.state w.log w.sim n party phase_open counts placed

    x_fresh : h.phase x ≡ fresh
    x_fresh = (w.sim.owners n).while_open phase_open

    -- a transaction is the present one, or its phase and contents are as they were
    moved : (y : Tx) → (y ≡ x) ⊎ ((y ≡ x → ⊥) × (h₁.phase y ≡ h.phase y) × (h₁.contents y ≡ h.contents y))
    moved y = by_cases (Tx-discrete y x) (λ e. inl e) (λ e. inr (e, put_else h.phase x voting y e, put_else h.contents x k₁ y e))

    is_voting : (y : Tx) → y ≡ x → h₁.phase y ≡ voting
    is_voting y e = ap h₁.phase e ∙ put_here Tx-discrete h.phase x voting

    has : (y : Tx) → y ≡ x → h₁.contents y ≡ k₁
    has y e = ap h₁.contents e ∙ put_here Tx-discrete h.contents x k₁

    asked_before : (y : Tx) → h₁.phase y ≡ h.phase y → Asked h₁ y → Asked h y
    asked_before y e a = on a (λ q. inl (sym e ∙ q)) (λ q. inr (sym e ∙ q))

    -- every open object is ready, by the clauses of the record after the call
    all_ready : (t : ℕ) → is_open c t ≡ true → ready (system st) (object_at c t) ≡ true
    unfolding requested all_settled
    all_ready t e =
        let p = place_of c t in
        let z = place_open c.objects c.count t (ltb-true p most_open e) in
        let a = across_at (λ i y. not (ltb i c.count) || settled (system st) y) c.objects
        (true-T _ (m.party.full (m.party.asked_for refl)).all_settled) p z.1.0 in
        or_cases (ready (system st) (object_at c t) ≡ true) (not (ltb p c.count)) (settled (system st) (object_at c t))
        (λ q. absurd (T_not (ltb p c.count) q (true-T _ (lt-ltb p c.count z.0))))
        (λ q. T_true _ (and_left (ready (system st) (object_at c t)) _ q)) a

    same_mode : (t : ℕ) → k₁.mode t ≡ (contents_of c).mode t
    unfolding requested
    same_mode t = refl

    same_open : (t : ℕ) → (is_open c₁ t ≡ is_open c t) × (object_at c₁ t ≡ object_at c t)
    unfolding requested
    same_open t = (refl, refl)

    shown₁ : (t : ℕ) → is_open c t ≡ true → Shows (system st) c₁ c.serial t (object_at c t).value
    unfolding requested
    shown₁ t e = record { begun = λ z. let q : ⊥ = omega arith in q; present = refl; opened = e; is_ready = all_ready t e; value = refl }

    -- what it touches is open
    touched : (t : ℕ) (b : Bool) → is_open c t ≡ b → cond b (mode_of (object_at c t).mode) unused ≢ unused → is_open c t ≡ true
    touched t true e q = e
    touched t false e q = absurd (q refl)

    is_now : current L n ≡ x
    is_now = ap (tx n) (w.books.present n).serial_as

    party_else : (y : Tx) → (y ≡ x → ⊥) → put Tx-discrete L.participants (current L n) party y ≡ L.participants y
    party_else y e = put_else L.participants (current L n) party y (λ q. e (q ∙ is_now))

    decided₁ : Decided (with_participants L n party) h₁
    decided₁ = let k = w.books.decided in record {
      told_so = λ y i. on (moved y) (λ e. let q = k.told_so y i in let r : h.phase y ≡ fresh = ap h.phase e ∙ x_fresh in absurd (clash (cc)))
          (λ z. z.1 ∙ k.told_so y i);
      is_told = λ y q. on (moved y) (λ e. let r = is_voting y e in absurd (clash (cc))) (λ z. k.is_told y (sym z.1 ∙ q));
      its_mode = λ y q t. on (moved y) (λ e. let r = is_voting y e in absurd (clash (cc)))
          (λ z. k.its_mode y (sym z.1 ∙ q) t ∙ ap (λ (u : Contents ℕ). u.mode t) (sym z.2));
      its_new = λ y q t. on (moved y) (λ e. let r = is_voting y e in absurd (clash (cc)))
          (λ z. k.its_new y (sym z.1 ∙ q) t ∙ ap (λ (u : Contents ℕ). u.new t) (sym z.2));
      its_party_lem = λ y q i. on (moved y) (λ e. let r = is_voting y e in absurd (clash (cc)))
          (λ z. ap (λ (u : ℕ). contains u i) (party_else y z.0) ∙ k.its_party_lem y (sym z.1 ∙ q) i
          ∙ ap (λ (u : Contents ℕ). u.participants i) (sym z.2));
    }

    here₁ : Present (with_participants L n party) n c₁
    unfolding requested
    here₁ = let p = w.books.present n in record {
      serial_as = p.serial_as;
      no_mode = p.no_mode;
      no_new = p.no_new;
      mode_now = λ e t. p.mode_now (λ z. let q : ⊥ = omega (arith, phase_open) in q) t;
      new_now = λ e t. p.new_now (λ z. let q : ⊥ = omega (arith, phase_open) in q) t;
      party_now = λ e. ap (put Tx-discrete L.participants (current L n) party) (sym is_now) ∙ put_here Tx-discrete L.participants (current L n) party;
    }

    else₁ : (i : ℕ) → (i ≡ n → ⊥) → Present (with_participants L n party) i (st.records i)
    else₁ i e = let r = w.books.present i in record {
      serial_as = r.serial_as;
      no_mode = r.no_mode;
      no_new = r.no_new;
      mode_now = r.mode_now;
      new_now = r.new_now;
      party_now = λ q. party_else _ (other_tx n i _ _ e) ∙ r.party_now q;
    }

    pub request_world : World (changed st n c₁ st.pool) (with_participants L n party) (More F (changed st n c₁ st.pool))
    request_world = turned τ₁ w.log c₁ st.pool sim₁ m (with_participants L n party) (λ b i. i) w.books.pool_as w.books.log_as decided₁
        (put_all (Present (with_participants L n party)) st.records n c₁ here₁ else₁) w.books.dones
        (puts_on (ask x k₁ (can_ask st w.state w.log w.sim n party phase_open counts placed)))
        (λ y t v f q. on (moved y) (λ e. let r = is_voting y e in absurd (clash (cc)))
        (λ z. elsewhere c₁ y t v z.0 (w.books.found.still y t v f (sym z.1 ∙ q))))
        (λ y t v f a. on (moved y)
        (λ e. let g = w.books.found.still y t v f (ap h.phase e ∙ x_fresh) in let s = subst (λ (u : Tx). Finds st u t v) e g in (
          ap (λ (u : Contents ℕ). u.found t) (has y e) ∙ ap (λ (u : Object). u.value) (same_open t).1 ∙ s.value,
          λ q. shown_mode c c.serial t v s (sym (ap (λ (u : Contents ℕ). u.mode t) (has y e) ∙ same_mode t) ∙ q),
        ))
        (λ z. let k = w.books.found.carried y t v f (asked_before y z.1 a) in
        (ap (λ (u : Contents ℕ). u.found t) z.2 ∙ k.0, λ q. k.1 (ap (λ (u : Contents ℕ). u.mode t) (sym z.2) ∙ q))))
        (λ y t a q. on (moved y)
        (λ e. let o = touched t (is_open c t) refl (λ r. q (ap (λ (u : Contents ℕ). u.mode t) (has y e) ∙ same_mode t ∙ r)) in
        subst (λ (u : Tx). More F (changed st n c₁ st.pool) u t ((h₁.contents u).found t)) (sym e)
        (inr (put_all (λ i d. (i ≡ n) → Shows (system st) d c.serial t ((h₁.contents x).found t)) st.records n c₁
        (λ r. subst (Shows (system st) c₁ c.serial t)
        (sym (ap (λ (u : Contents ℕ). u.found t) (has x refl) ∙ ap (λ (u : Object). u.value) (same_open t).1))
        (shown₁ t o))
        (λ i r s. absurd (r s)) n refl)))
        (λ z. subst (λ (u : Contents ℕ). More F (changed st n c₁ st.pool) y t (u.found t)) (sym z.2)
        (inl (w.books.found.had y t (asked_before y z.1 a) (λ r. q (ap (λ (u : Contents ℕ). u.mode t) z.2 ∙ r))))))

  -- ---- another ledger that tells the same of all others; an idle record
  others_told : (L' : Ledger) → SameTold L L' → (i : ℕ) → Present L' i (st.records i)
  others_told L' told i = present_on L L' i (st.records i) (st.records i) (objects_still (st.records i)) told (w.books.present i)

  idle_told : (L' : Ledger) → SameTold L L' → (stamp outcome : ℕ) → Present L' n (idle_after c.serial stamp outcome)
  unfolding idle_after
  idle_told L' told stamp outcome = let p = others_told L' told n in record {
    serial_as = p.serial_as;
    no_mode = p.no_mode;
    no_new = p.no_new;
    mode_now = λ e t. absurd (e refl);
    new_now = λ e t. absurd (e refl);
    party_now = λ e. absurd (e refl);
  }

  -- ---- only the phase of the present transaction moves, to an end
  module _ (end : Phase) (not-fresh : end ≢ fresh) where
    abbrev p₂ : Tx → Phase
    p₂ = put Tx-discrete h.phase x end

    pub phase_moved : (y : Tx) → ((y ≡ x) × (p₂ y ≡ end)) ⊎ ((y ≡ x → ⊥) × (p₂ y ≡ h.phase y))
    phase_moved y = put_cases Tx-discrete h.phase x end y

    -- who is fresh is not the present one
    pub fresh_else : (c' : Coordinator) (y : Tx) (t v : ℕ) → F y t v → p₂ y ≡ fresh → Shows (system st) (put_at st.records n c' y.owner) y.serial t v
    fresh_else c' y t v f q = on (phase_moved y) (λ z. absurd (not-fresh (sym z.1 ∙ q)))
        (λ z. elsewhere c' y t v z.0 (w.books.found.still y t v f (sym z.1 ∙ q)))

  -- ---- an abort
  module _ (undecided : (c.phase ≡ open_phase) ⊎ (c.phase ≡ voting_phase)) (pool : List (List ℕ)) (L' : Ledger) (told : SameTold L L')
      (m : Meets (system st) (ended_aborted c)) where
    abbrev τ₂ : State ℕ
    τ₂ = do_abort w.state x

    no_end : aborted ≢ fresh
    no_end e = clash (cc)

    asked_else : (y : Tx) → Asked τ₂.history y → Asked h y
    asked_else y a = on (phase_moved aborted no_end y) (λ z. let q = z.1 in on a (λ r. absurd (clash (cc))) (λ r. absurd (clash (cc))))
        (λ z. on a (λ r. inl (sym z.1 ∙ r)) (λ r. inr (sym z.1 ∙ r)))

    decided₂ : L'.committed ≡ L.committed → Decided L' τ₂.history
    decided₂ same = let k = w.books.decided in record {
      told_so = λ y i. on (phase_moved aborted no_end y)
          (λ z. absurd (undecided_yet y z.0 (k.told_so y (subst (In y) same i)))) (λ z. z.1 ∙ k.told_so y (subst (In y) same i));
      is_told = λ y q. subst (In y) (sym same) (k.is_told y (before y q));
      its_mode = λ y q t. ap (λ (f : Tx → ℕ → Mode). f y t) told.modes ∙ k.its_mode y (before y q) t;
      its_new = λ y q t. ap (λ (f : Tx → ℕ → ℕ). f y t) told.news ∙ k.its_new y (before y q) t;
      its_party_lem = λ y q i. ap (λ (f : Tx → ℕ). contains (f y) i) told.parties ∙ k.its_party_lem y (before y q) i;
    }
      where
        before : (y : Tx) → τ₂.history.phase y ≡ committed → h.phase y ≡ committed
        before y q = on (phase_moved aborted no_end y) (λ z. let r = z.1 in absurd (clash (cc))) (λ z. sym z.1 ∙ q)

        undecided_yet : (y : Tx) → y ≡ x → h.phase y ≡ committed → ⊥
        undecided_yet y e q = let r : h.phase x ≡ committed = ap h.phase (sym e) ∙ q in
            on undecided (λ o. let f = (w.sim.owners n).while_open o in clash (cc)) (λ o. let f = (w.sim.owners n).while_voting o in clash (cc))

    ended_told : (b : Bool) → Present L' n (cond b (idle_after c.serial c.timestamp 2)
        (with_phase c finishing_phase 2 c.participants c.yes c.done c.rivals))
    ended_told true = idle_told L' told c.timestamp 2
    ended_told false = present_on L L' n c _
        (record {
          serial = refl;
          phase = λ e. absurd (let z : ⊥ = omega arith in z);
          phase' = λ e. absurd (on undecided (λ o. let z : ⊥ = omega (arith, o, e) in z) (λ o. let z : ⊥ = omega (arith, o, e) in z));
          objects = refl;
          count = refl;
          participants = refl;
        })
        told (w.books.present n)

    here₂ : Present L' n (ended_aborted c)
    unfolding ended_aborted
    here₂ = ended_told (eqb (awaited c) 0)

    pub abort_world : ((b : List ℕ) → In b pool → In b st.pool) → L'.pool ≡ pool → L'.log ≡ L.log → L'.committed ≡ L.committed → L'.dones ≡ L.dones
        → L'.puts ≡ L.puts → World (changed st n (ended_aborted c) pool) L' (More F (changed st n (ended_aborted c) pool))
    abort_world sub a b d e ep = turned τ₂ w.log (ended_aborted c) pool (sim_aborted st w.state w.log w.sim n undecided pool sub) m L' sub a
        (b ∙ w.books.log_as) (decided₂ d)
        (put_all (Present L') st.records n (ended_aborted c) here₂ (λ i q. others_told L' told i))
        (λ z k i. w.books.dones z k (ap (λ (f : Tx → ℕ → Bool). f z k) (sym e) ∙ i))
        (λ y i. puts_on (abort x (can_abort st w.state w.log w.sim n undecided)) y (subst (In y) ep i)) (fresh_else aborted no_end (ended_aborted c))
        (λ y t v f q. w.books.found.carried y t v f (asked_else y q)) (λ y t q r. inl (w.books.found.had y t (asked_else y q) r))

  -- ---- a commit
  module _ (from : ℕ) (rivals : List ℕ) (small : from < 16) (is_voting : c.phase ≡ voting_phase)
      (said : w.state.votes.yes from x ≡ true) (all : within c.participants (joined c.yes (only from)) ≡ true)
      (pool : List (List ℕ)) (L' : Ledger) (told : SameTold L L') where
    abbrev c₃ : Coordinator
    c₃ = with_phase c finishing_phase 1 c.participants (joined c.yes (only from)) c.done rivals

    abbrev τ₃ : State ℕ
    τ₃ = do_commit w.state x

    some_party : c.participants ≡ 0 → ⊥
    some_party = (w.valid.records n).party.asked_for is_voting

    x_voting : h.phase x ≡ voting
    x_voting = (w.sim.owners n).while_voting is_voting

    x_contents : h.contents x ≡ contents_of c
    x_contents = (w.sim.owners n).asked some_party

    no_end' : committed ≢ fresh
    no_end' e = clash (cc)

    not_idle : c.phase ≢ idle_phase
    not_idle e = let z : ⊥ = omega (arith, is_voting, e) in z

    asked_as : (y : Tx) → Asked τ₃.history y → Asked h y
    asked_as y a = on (phase_moved committed no_end' y) (λ z. inl (ap h.phase z.0 ∙ x_voting))
        (λ z. on a (λ r. inl (sym z.1 ∙ r)) (λ r. inr (sym z.1 ∙ r)))

    decided₃ : L'.committed ≡ x ∷ L.committed → Decided L' τ₃.history
    decided₃ new = let k = w.books.decided in let p = w.books.present n in record {
      told_so = λ y i. on (phase_moved committed no_end' y) (λ z. z.1)
          (λ z. on (subst (In y) new i) (λ e. absurd (z.0 e)) (λ j. z.1 ∙ k.told_so y j));
      is_told = λ y q. subst (In y) (sym new) (on (phase_moved committed no_end' y) (λ z. inl z.0) (λ z. inr (k.is_told y (sym z.1 ∙ q))));
      its_mode = λ y q t. ap (λ (f : Tx → ℕ → Mode). f y t) told.modes ∙ on (phase_moved committed no_end' y)
          (λ z. ap (λ (u : Tx). L.mode u t) z.0 ∙ p.mode_now not_idle t ∙ sym (ap (λ (u : Contents ℕ). u.mode t) (of y z.0)))
          (λ z. k.its_mode y (sym z.1 ∙ q) t);
      its_new = λ y q t. ap (λ (f : Tx → ℕ → ℕ). f y t) told.news ∙ on (phase_moved committed no_end' y)
          (λ z. ap (λ (u : Tx). L.new u t) z.0 ∙ p.new_now not_idle t ∙ sym (ap (λ (u : Contents ℕ). u.new t) (of y z.0)))
          (λ z. k.its_new y (sym z.1 ∙ q) t);
      its_party_lem = λ y q i. ap (λ (f : Tx → ℕ). contains (f y) i) told.parties ∙ on (phase_moved committed no_end' y)
          (λ z. ap (λ (u : Tx). contains (L.participants u) i) z.0 ∙ ap (λ (u : ℕ). contains u i) (p.party_now some_party)
          ∙ sym (ap (λ (u : Contents ℕ). u.participants i) (of y z.0)))
          (λ z. k.its_party_lem y (sym z.1 ∙ q) i);
    }
      where
        of : (y : Tx) → y ≡ x → h.contents y ≡ contents_of c
        of y e = ap h.contents e ∙ x_contents

    pub commit_world : Meets (system st) c₃ → ((b : List ℕ) → In b pool → In b st.pool) → L'.pool ≡ pool → L'.log ≡ L.log
        → L'.committed ≡ x ∷ L.committed → L'.dones ≡ L.dones → L'.puts ≡ L.puts
        → World (changed st n c₃ pool) L' (More F (changed st n c₃ pool))
    commit_world m sub a b d e ep =
        turned τ₃ w.log c₃ pool (sim_committed st w.state w.log w.sim n from rivals small is_voting some_party said all pool sub) m L' sub a
        (b ∙ w.books.log_as) (decided₃ d)
        (put_all (Present L') st.records n c₃
        (present_on L L' n c c₃
        (record {
          serial = refl;
          phase = λ q. absurd (let z : ⊥ = omega arith in z);
          phase' = λ q. absurd
              (not_idle q);
          objects = refl;
          count = refl;
          participants = refl;
        })
        told (w.books.present n))
        (λ i q. others_told L' told i))
        (λ z k i. w.books.dones z k (ap (λ (f : Tx → ℕ → Bool). f z k) (sym e) ∙ i))
        (λ y i. puts_on (commit x (can_commit st w.state w.log w.sim n from rivals small is_voting some_party said all)) y (subst (In y) ep i))
        (fresh_else committed no_end' c₃)
        (λ y t v f q. w.books.found.carried y t v f (asked_as y q)) (λ y t q r. inl (w.books.found.had y t (asked_as y q) r))

  -- ---- the last done: idle again
  module _ (finishing : c.phase ≡ finishing_phase) (pool : List (List ℕ)) (L' : Ledger) (told : SameTold L L') where
    abbrev c₄ : Coordinator
    c₄ = idle_after c.serial c.timestamp c.outcome

    -- it is decided, so not fresh
    decided_now : h.phase x ≢ fresh
    decided_now e = let m = w.valid.records n in by_cases (ℕ_discrete c.outcome 1)
        (λ q. let p = (w.sim.owners n).when_committed finishing q in clash (cc))
        (λ q. let o = m.votes.else_aborted finishing (λ g. q (m.votes.agreed_commits finishing g)) in
        let p = (w.sim.owners n).when_aborted finishing o in clash (cc))

    pub idle_world : Meets (system st) c₄ → ((b : List ℕ) → In b pool → In b st.pool) → L'.pool ≡ pool → L'.log ≡ L.log → L'.committed ≡ L.committed
        → L'.dones ≡ L.dones → L'.puts ≡ L.puts → World (changed st n c₄ pool) L' (More F (changed st n c₄ pool))
    idle_world m sub a b d e ep = quiet st L F w n c₄ pool L'
        (idle_owner h w.state.votes w.state.sent n c (w.sim.owners n) c.timestamp c.outcome) m sub a b
        (same_decided st L F w n d told.modes told.news told.parties)
        (put_all (Present L') st.records n c₄ (idle_told L' told c.timestamp c.outcome) (λ i q. others_told L' told i)) e ep
        (λ t v f q. absurd (decided_now q))
