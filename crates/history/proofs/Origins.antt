-- An origin read as an abstract state: the transactions carried are its decisions and its log, each of them found what those before it left, and all that
-- was begun besides was given up. By crate protocol that state keeps the invariant; so an origin is good, and whatever holds of good ones goes on from
-- there. The blank station is an origin.
use mathlib.Core.Path.{◌≡◌, refl, sym, ◌∙◌, ap, subst}
use mathlib.Core.Logic.{◌≢◌, ◌⊎◌, inl, inr}
use mathlib.Core.Bool.{Bool, true, false, cond}
use mathlib.Core.List.{List, [], ◌∷◌, cons≢nil}
use mathlib.Core.Option.{none, some}
use Prim.Native.Nat.{ℕ, suc, ◌<◌, ◌≤◌}
use native.Mathlib.Omega.{arith}
use lib.Dec.{leb}
use borrow.Author.Tests.{lt-ltb, le-ltb, le-leb, lt-leb, eq-eqb}
use Rattle.numbers.specs.Sizes.{nobody, objects, most_open}
use Rattle.mask.specs.Mask.{contains}
use Rattle.wire.specs.Decode.{from_of, to_of, owner_of, serial_of}
use Rattle.image.specs.Layout.{shape, value, version, holder, serial, state, value_field, version_field, serial_field, state_field}
use Rattle.image.specs.Layout.{author_field, author_serial_field}
use Rattle.image.specs.Blank.{blank_as}
use Rattle.image.proofs.Blanks.{bytes_blank, blank_zero, blank_author, blank_sound}
use Rattle.image.proofs.Each.{lt_or_le}
use Rattle.image.proofs.Lens.{of_out}
use Rattle.image.proofs.Sound.{HolderSound, check_sound, sound_check}
use Rattle.coordinator.specs.declared.Coordinator.{Coordinator}
use Rattle.coordinator.specs.State.{idle_after}
use Rattle.arrivals.specs.Receive.{for_replica}
use Rattle.clauses.proofs.Facts.{Meets, meets_facts, facts_meet}
use Rattle.clauses.proofs.Fits.{blank_fits}
use Rattle.clauses.proofs.Keep.{blank_meets}
use Rattle.clauses.proofs.Laws.{idle_blank}
use Rattle.clauses.proofs.Parts.{true-T}
use Rattle.steps.specs.Station.{Station, system}
use Rattle.protocol.specs.Table.{In, Suffix}
use Rattle.protocol.specs.Rules.{Mode, unused, read, write}
use Rattle.protocol.specs.State.{Tx, Tx-discrete, Phase, fresh, voting, committed, aborted, Contents, nothing, Store, Ends, History, State}
use Rattle.protocol.specs.Replay.{replay, given}
use Rattle.protocol.specs.Invariant.{wrote, committed_write, count, effect}
use Rattle.protocol.specs.Proof.Tables.{clash}
use Rattle.protocol.proofs.Tables.{on, pick_cases}
use Rattle.protocol.proofs.Lists.{in_suffix, in_front, suffix_tail, suffix_whole, count_ext, replay_ext, given_at_lem}
use Rattle.protocol.specs.Refine.Growth.{Late}
use Rattle.protocol.specs.Refine.Origin.{values_of, Brought, origin}
use Rattle.protocol.proofs.Refine.Origin.{values_ext, origin_ok, origin_log}
use Rattle.protocol.specs.Refine.Authors.{unwritten, lost, by, AuthoredBy, Authored}
use Rattle.protocol.proofs.Refine.Authors.{one_author, names_cases}
use Rattle.history.specs.Ledger.{Ledger, tx_of, in?}
use Rattle.history.specs.Origin.{Carried, Origin, of_carried, ledger_of, ballots_of, is_writing, writes, writers_of, AuthorIs, Rested, blank_origin}
use Rattle.history.specs.Claims.{Known}
use Rattle.history.proofs.Quorums.{tree_sane, rules, top, of_mask}
use Rattle.history.proofs.Sim.{tx, state_of, holder_of, holders, author_of, authors, Owner, Gone, Sim}
use Rattle.history.proofs.Images.{author_out, author_none, author_lost, author_by}
use Rattle.history.proofs.Quiet.{found_blank, no_bit}
use Rattle.history.proofs.Books.{Decided, Present, Past, World}
use Rattle.history.proofs.Theorem.{Good}
use Rattle.history.proofs.Counted.{Untouched, Over, Counted}
use Rattle.history.proofs.Polls.{Counts}
use Rattle.history.proofs.Moves.{Behind, Bound}
use Rattle.history.proofs.InTurn.{Timely, InTurn}

-- a count as a running
count_runs : (w : Tx → ℕ → Bool) (l : List Tx) (t : ℕ) → replay 0 (λ x u n. cond (w x u) (suc n) n) l t ≡ count w l t
count_runs w [] t = refl
count_runs w (x ∷ l) t = ap (λ (n : ℕ). cond (w x t) (suc n) n) (count_runs w l t)

-- ---- what is carried, as a history
module _ (o : Origin) where
  abbrev st : Station
  st = o.station

  abbrev k : Carried
  k = o.carried

  abbrev l : List Tx
  l = k.txs

  -- a serial up to the record's was begun
  abbrev undone : Bool → Phase
  undone b = cond b aborted fresh

  -- what it found: the number of writers before it, and what they left
  abbrev carried_contents : Tx → Contents ℕ
  carried_contents x = record {
    mode = k.mode x;
    version = given Tx-discrete 0 (λ y t n. cond (writes k y t) (suc n) n) x l;
    found = given Tx-discrete 0 (λ y t a. cond (writes k y t) (k.new y t) a) x l;
    new = k.new x;
    participants = contains (k.participants x);
  }

  abbrev pub before : History ℕ
  before = record {
    phase = λ x. of_carried k x committed (undone (leb x.serial (st.records x.owner).serial));
    contents = λ x. of_carried k x (carried_contents x) (nothing 0);
    decisions = l;
  }

  abbrev store : Store ℕ
  store = record { version = λ n t. version (st.images n) t; value = λ n t. value (st.images n) t }

  abbrev ends : Ends
  ends = record { last = λ n w. serial (st.images n) w; state = λ n w. state_of (state (st.images n) w) }

  -- ---- who is carried, and who is not
  module _ {A : Type 0} (x : Tx) (a b : A) where
    pub is_carried : In x l → of_carried k x a b ≡ a
    is_carried i = on (pick_cases (in? x l) a b) (λ z. z.1) (λ z. absurd (z.0 i))

    pub not_carried : (In x l → ⊥) → of_carried k x a b ≡ b
    not_carried n = on (pick_cases (in? x l) a b) (λ z. absurd (n z.0)) (λ z. z.1)

  its_contents : (x : Tx) → In x l → before.contents x ≡ carried_contents x
  its_contents x i = is_carried x (carried_contents x) (nothing 0) i

  its_phase : (x : Tx) → In x l → before.phase x ≡ committed
  its_phase x i = is_carried x committed (undone (leb x.serial (st.records x.owner).serial)) i

  never_committed : (b : Bool) → undone b ≡ committed → ⊥
  never_committed true e = clash (cc)
  never_committed false e = clash (cc)

  committed_in : (x : Tx) → before.phase x ≡ committed → In x l
  committed_in x e = on (pick_cases (in? x l) committed (undone (leb x.serial (st.records x.owner).serial))) (λ z. z.0)
      (λ z. absurd (never_committed (leb x.serial (st.records x.owner).serial) (sym z.1 ∙ e)))

  ended : (x : Tx) (b : Bool) → undone b ≢ fresh → undone b ≡ aborted
  ended x true n = refl
  ended x false n = absurd (n refl)

  wrote_as : (x : Tx) (t : ℕ) → In x l → wrote before x t ≡ writes k x t
  wrote_as x t i = ap (λ (p : Phase). committed_write p ((before.contents x).mode t)) (its_phase x i)
      ∙ ap (λ (c : Contents ℕ). committed_write committed (c.mode t)) (its_contents x i) ∙ by (k.mode x t)
    where
      by : (m : Mode) → committed_write committed m ≡ is_writing m
      by unused = refl
      by read = refl
      by write = refl

  new_as : (x : Tx) (t : ℕ) → In x l → (before.contents x).new t ≡ k.new x t
  new_as x t i = ap (λ (c : Contents ℕ). c.new t) (its_contents x i)

  counts_as : (m : List Tx) (t : ℕ) → Suffix m l → count (wrote before) m t ≡ writers_of k m t
  counts_as m t s = count_ext (writes k) (wrote before) m t (λ x i. wrote_as x t (in_suffix x m l s i))

  -- what each of them found
  abbrev pub Had : Past
  Had x t v = In x l × ((before.contents x).mode t ≢ unused) × ((before.contents x).found t ≡ v)

  module _ (r : Rested o) where
    -- ---- that is what those before it left
    module _ (x : Tx) (m : List Tx) (t : ℕ) (s : Suffix (x ∷ m) l) where
      inside : In x l
      inside = in_suffix x (x ∷ m) l s (inl refl)

      rest : Suffix m l
      rest = suffix_tail x m l s

      version_is : (before.contents x).version t ≡ count (wrote before) m t
      version_is = ap (λ (c : Contents ℕ). c.version t) (its_contents x inside)
          ∙ given_at_lem Tx-discrete 0 (λ y u n. cond (writes k y u) (suc n) n) x l m t s (r.once x) ∙ count_runs (writes k) m t ∙ sym (counts_as m t rest)

      found_is : (before.contents x).found t ≡ replay 0 (effect before) m t
      found_is = ap (λ (c : Contents ℕ). c.found t) (its_contents x inside)
          ∙ given_at_lem Tx-discrete 0 (λ y u a. cond (writes k y u) (k.new y u) a) x l m t s (r.once x)
          ∙ sym (replay_ext 0 (λ y u a. cond (writes k y u) (k.new y u) a) (effect before) m t (λ y i a.
          let j = in_suffix y m l rest i in
          ap (λ (b : Bool). cond b ((before.contents y).new t) a) (wrote_as y t j) ∙ ap (λ (v : ℕ). cond (writes k y t) v a) (new_as y t j)))

      stored_is : (n : ℕ) → contains (k.participants x) n ≡ true → k.mode x t ≡ write → suc ((before.contents x).version t) ≤ version (st.images n) t
      stored_is n p w =
          let c : writers_of k (x ∷ m) t ≡ suc (writers_of k m t) = ap (λ (a : Mode). cond (is_writing a) (suc (writers_of k m t)) (writers_of k m t)) w in
          let v = version_is in
          let u = counts_as m t rest in
          let h = r.stored x m n t s p w in
          omega (arith, c, v, u, h)

    -- ---- all of it
    brought : Brought (rules r.sane) store ends before
    brought = record {
      b_committed = its_phase;
      b_decided = committed_in;
      b_once = r.once;
      b_good = λ x p. let i = committed_in x p in
          subst (λ (c : Contents ℕ). (rules r.sane).Good c.participants) (sym (its_contents x i))
          (of_mask (system st).is_write (k.participants x) (r.write_quorum x i));
      b_over = λ x p. on (pick_cases (in? x l) committed (undone (leb x.serial (st.records x.owner).serial))) (λ z. inl z.1)
          (λ z. inr (z.1 ∙ ended x (leb x.serial (st.records x.owner).serial) (λ e. p (z.1 ∙ e))));
      b_unused = λ x t p. ap (λ (c : Contents ℕ). c.mode t) (not_carried x (carried_contents x) (nothing 0) (λ i. p (its_phase x i)));
      b_version = λ x m t s u. version_is x m t s;
      b_found = λ x m t s u. found_is x m t s;
      b_copy = λ n t. (
        subst (λ (c : ℕ). version (st.images n) t ≤ c) (sym (counts_as l t (suffix_whole l))) (r.written n t),
        r.copies n t ∙ sym (values_ext (writes k) k.new 0 (wrote before) (λ x. (before.contents x).new) l t (version (st.images n) t)
            (λ x i. wrote_as x t i) (λ x i. new_as x t i)),
      );
      b_stored = λ n x t p q w. let i = committed_in x p in let e = its_contents x i in let z = in_front x l i in
          stored_is x z.0 t z.1 n (ap (λ (c : Contents ℕ). c.participants n) (sym e) ∙ q) (ap (λ (c : Contents ℕ). c.mode t) (sym e) ∙ w);
      b_last = λ n x p q. let i = committed_in x p in
          r.late x n i (ap (λ (c : Contents ℕ). c.participants n) (sym (its_contents x i)) ∙ q);
      b_rest = λ n w. ap state_of (r.all_over n w);
    }

    abbrev pub σ : State ℕ
    σ = origin (rules r.sane) store ends before

    -- ---- phases
    begun_phase : (x : Tx) → x.serial ≤ (st.records x.owner).serial → (before.phase x ≡ committed) ⊎ (before.phase x ≡ aborted)
    begun_phase x h = on (pick_cases (in? x l) committed (undone (leb x.serial (st.records x.owner).serial))) (λ z. inl z.1)
        (λ z. inr (z.1 ∙ ap undone (le-leb x.serial (st.records x.owner).serial h)))

    later_out : (n s : ℕ) → (st.records n).serial < s → In (tx n s) l → ⊥
    later_out n s h i = let g = r.begun (tx n s) i in let z : ⊥ = omega (arith, g, h) in z

    later_fresh : (n s : ℕ) → (st.records n).serial < s → before.phase (tx n s) ≡ fresh
    later_fresh n s h = not_carried (tx n s) committed (undone (leb s (st.records n).serial)) (later_out n s h)
        ∙ ap undone (lt-leb s (st.records n).serial h)

    -- ---- records: all idle, with nothing but what is lasting
    meets : (n : ℕ) → Meets (system st) (st.records n)
    meets n = meets_facts (system st) (st.records n) (r.clauses n)

    idle_as : (n : ℕ) → st.records n ≡ idle_after (st.records n).serial (st.records n).timestamp (st.records n).outcome
    idle_as n = idle_blank (system st) (st.records n) (meets n) (r.idle n)

    -- what holds of an idle record with this serial
    by_idle : (n : ℕ) (P : Coordinator → Type 0) → P (idle_after (st.records n).serial (st.records n).timestamp (st.records n).outcome)
        → P (st.records n)
    by_idle n P p = subst P (sym (idle_as n)) p

    owner : (n : ℕ) → Owner before σ.votes [] n (st.records n)
    unfolding idle_after
    owner n = by_idle n (Owner before σ.votes [] n) (record {
      later = later_fresh n;
      while_open = λ e. absurd (let z : ⊥ = omega (arith, e) in z);
      while_voting = λ e. absurd (let z : ⊥ = omega (arith, e) in z);
      when_committed = λ e f. absurd (let z : ⊥ = omega (arith, e) in z);
      when_aborted = λ e f. absurd (let z : ⊥ = omega (arith, e) in z);
      asked = λ e. absurd (e refl);
      agreed = λ m e. absurd (no_bit m e);
      found = found_blank [] most_open;
    })

    -- ---- nobody holds anything
    free : (n t : ℕ) → holder_of (st.images n) t ≡ none
    free n t = on (lt_or_le t objects) (λ h. by h ((check_sound (st.images n) (r.valid n)).clauses.copies_sound t h).holding) (λ h. rw (le-ltb t objects h))
      where
        by : t < objects → HolderSound (state (st.images n)) (holder (st.images n) t) → holder_of (st.images n) t ≡ none
        by h (inl e) = rw (lt-ltb t objects h, eq-eqb (holder (st.images n) t) nobody e)
        by h (inr z) = absurd (let p = r.all_over n (holder (st.images n) t) in let q = z.1 in let y : ⊥ = omega (arith, p, q) in y)

    -- ---- what is over is late
    late_at : (n : ℕ) (x : Tx) → x.serial ≤ serial (st.images n) x.owner → Late ends n x
    late_at n x h = on (lt_or_le x.serial (serial (st.images n) x.owner)) inl
        (λ g. inr (omega (arith, g, h), ap state_of (r.all_over n x.owner)))

    behind_at : (n w s : ℕ) → s ≤ serial (st.images n) w → Behind (st.images n) w s
    behind_at n w s h = on (lt_or_le s (serial (st.images n) w)) inl (λ g. inr (omega (arith, g, h), r.all_over n w))

    gone : (b : List ℕ) → In b st.pool → Gone before ends b
    gone b i = let z = r.waits b i in
        record { well = z.well; decided = begun_phase (tx_of b) z.begun; late = λ e. late_at (to_of b) (tx_of b) (z.arrives e) }

    -- ---- who wrote each copy
    is_write_lem : (m : Mode) → is_writing m ≡ true → m ≡ write
    is_write_lem unused e = absurd (clash (cc))
    is_write_lem read e = absurd (clash (cc))
    is_write_lem write e = refl

    wrote_it : (t v : ℕ) (x : Tx) (m : List Tx) → Suffix (x ∷ m) l → writes k x t ≡ true → v ≡ suc (writers_of k m t)
        → (before.phase x ≡ committed) × ((before.contents x).mode t ≡ write) × (v ≡ suc ((before.contents x).version t))
    wrote_it t v x m s e c = let i = inside x m t s in (
      its_phase x i,
      ap (λ (y : Contents ℕ). y.mode t) (its_contents x i) ∙ is_write_lem (k.mode x t) e,
      c ∙ ap suc (sym (version_is x m t s ∙ counts_as m t (suffix_tail x m l s))),
    )

    no_author : (t v : ℕ) → v ≡ 0 → AuthoredBy before t v unwritten
    no_author t v e = record { no_version = λ f. e; its_version = λ x f. absurd (clash (cc)) }

    authored : Authored (authors st) store before
    authored n t = on (lt_or_le t objects) here
        (λ h. subst (AuthoredBy before t (version (st.images n) t)) (sym (author_out (st.images n) t h)) (no_author t _ (of_out (version_field shape) _ t h)))
      where
        v : ℕ
        v = version (st.images n) t

        here : t < objects → AuthoredBy before t v (author_of (st.images n) t)
        here h = on (r.authors refl n t h) (λ a. on (names_cases (writes k) l t v (r.written n t))
            (λ z. let b : AuthorIs (st.images n) t none = subst (AuthorIs (st.images n) t) z.1 a in
            subst (AuthoredBy before t v) (sym (author_none (st.images n) t b.0)) (no_author t v z.0))
            (λ z. let x = z.0 in let b : AuthorIs (st.images n) t (some x) = subst (AuthorIs (st.images n) t) z.5 a in
            subst (AuthoredBy before t v) (sym (author_by (st.images n) t x.owner x.serial h b.0 b.1 b.2))
            (record {
              no_version = λ f. absurd (clash (cc));
              its_version = λ y f. subst
                  (λ (u : Tx). (before.phase u ≡ committed) × ((before.contents u).mode t ≡ write) × (v ≡ suc ((before.contents u).version t)))
                  (one_author f) (wrote_it t v x z.1 z.2 z.3 z.4);
            })))
            (λ e. subst (AuthoredBy before t v) (sym (author_lost (st.images n) t h e))
            (record { no_version = λ f. absurd (clash (cc)); its_version = λ y f. absurd (clash (cc)) }))

    sim : Sim r.sane st σ l
    sim = record {
      kept = record {
        inv = origin_ok (rules r.sane) store ends before brought;
        log = origin_log (rules r.sane) store ends before brought (top r.sane);
        holders = record {
          held_shown = λ n x t q w. absurd (let e = ap state_of (r.all_over n x.owner) in let f = q.1 in clash (cc));
          shown_held = λ n t w e. absurd (let f = free n t in clash (cc));
        };
      };
      authored = authored;
      reads = record { r_version = λ n t. refl; r_value = λ n t. refl; r_last = λ n w. refl; r_state = λ n w. refl };
      owners = owner;
      waits = λ b i. inr (gone b i);
    }

    -- ---- what is told of it
    abbrev L : Ledger
    L = ledger_of o

    decided : Decided L before
    decided = record {
      told_so = its_phase;
      is_told = committed_in;
      its_mode = λ x e t. let i = committed_in x e in is_carried x (k.mode x t) unused i ∙ ap (λ (c : Contents ℕ). c.mode t) (sym (its_contents x i));
      its_new = λ x e t. let i = committed_in x e in is_carried x (k.new x t) 0 i ∙ ap (λ (c : Contents ℕ). c.new t) (sym (its_contents x i));
      its_party_lem = λ x e m. let i = committed_in x e in
          ap (λ (p : ℕ). contains p m) (is_carried x (k.participants x) 0 i) ∙ ap (λ (c : Contents ℕ). c.participants m) (sym (its_contents x i));
    }

    present : (n : ℕ) → Present L n (st.records n)
    unfolding idle_after
    present n = record {
      serial_as = refl;
      no_mode = λ s t h. not_carried (tx n s) (k.mode (tx n s) t) unused (later_out n s h);
      no_new = λ s t h. not_carried (tx n s) (k.new (tx n s) t) 0 (later_out n s h);
      mode_now = λ e. absurd (e (r.idle n));
      new_now = λ e. absurd (e (r.idle n));
      party_now = λ e. absurd (e (ap (λ (c : Coordinator). c.participants) (idle_as n)));
    }

    done_late : (x : Tx) (n : ℕ) → L.dones x n ≡ true → Late ends n x
    done_late x n e = on (pick_cases (in? x l) (contains (k.participants x) n) false)
        (λ z. late_at n x (r.late x n z.0 (sym z.1 ∙ e))) (λ z. absurd (let f = z.1 in clash (cc)))

    not_voting : (x : Tx) → before.phase x ≡ voting → ⊥
    not_voting x e = on (pick_cases (in? x l) committed (undone (leb x.serial (st.records x.owner).serial)))
        (λ z. let f = z.1 in clash (cc)) (λ z. by (leb x.serial (st.records x.owner).serial) (sym z.1 ∙ e))
      where
        by : (b : Bool) → undone b ≡ voting → ⊥
        by true f = clash (cc)
        by false f = clash (cc)

    world : World st L Had
    world = record {
      sane = r.sane;
      state = σ;
      log = l;
      sim = sim;
      valid = record {
        images = λ n. (check_sound (st.images n) (r.valid n), r.bytes n);
        records = meets;
        messages = λ b i. (r.waits b i).bytes;
      };
      books = record {
        pool_as = refl;
        puts_true = λ b i. absurd i;
        log_as = refl;
        decided = decided;
        present = present;
        dones = done_late;
        found = record {
          still = λ x t v f e. absurd (let p = its_phase x f.0 in clash (cc));
          carried = λ x t v f a. (f.2, f.1);
          had = λ x t a q. on a (λ e. absurd (not_voting x e)) (λ e. (committed_in x e, q, refl));
        };
      };
    }

    pub rested_good : Good st L Had
    rested_good = record {
      world = world;
      wide = record { fits = r.widths; beyond = r.beyond };
      stamped = record { serial_below = λ b i. (r.waits b i).begun; stamp_as = λ b i. (r.waits b i).stamped };
    }

    -- ---- the votes
    over_told : (x : Tx) → Over L.participants l (ballots_of o).spoilt x
    over_told x = on (pick_cases (in? x l) (k.participants x) 0) (λ z. inl z.0) (λ z. inr (inl z.1))

    untouched : (n s : ℕ) → (st.records n).serial < s → Untouched L.participants (ballots_of o).agreed (ballots_of o).spoilt (tx n s)
    untouched n s h = let x = tx n s in let q = later_out n s h in record {
      unasked = not_carried x (k.participants x) 0 q;
      nobody = λ m. not_carried x _ false q;
      unspoilt = refl;
    }

    pub rested_counts : Counts st L (ballots_of o)
    unfolding idle_after
    rested_counts = record {
      up = refl;
      all_agreed = λ x i. record {
        is_asked = λ e. r.sane.choices.write_some (k.participants x) (true-T _ (r.write_quorum x i)) (sym (is_carried x (k.participants x) 0 i) ∙ e);
        everyone = λ m e. is_carried x (contains (k.participants x) m) false i
            ∙ ap (λ (p : ℕ). contains p m) (sym (is_carried x (k.participants x) 0 i)) ∙ e;
      };
      counted = λ n. by_idle n (λ c. Counted L.participants l (ballots_of o).agreed (ballots_of o).spoilt n c.serial c.phase c.yes) (record {
        later = untouched n;
        while_open = λ e. absurd (let z : ⊥ = omega (arith, e) in z);
        while_voting = λ e. absurd (let z : ⊥ = omega (arith, e) in z);
        ended = λ e. over_told (tx n (st.records n).serial);
        earlier = λ s h. over_told (tx n s);
      });
    }

    -- ---- nothing that waits is out of turn
    timely : (b : List ℕ) → In b st.pool → Timely st.images st.records b
    timely b i = let z = r.waits b i in record {
      to_replica = λ e. inl (behind_at (to_of b) (owner_of b) (serial_of b) (z.arrives e));
      a_commit_lem = λ e f. inl (behind_at (to_of b) (owner_of b) (serial_of b) (z.arrives (ap for_replica e)));
      a_yes = λ e f. inl (behind_at (from_of b) (owner_of b) (serial_of b) (z.said (rw (e, f) refl)));
      a_done_lem = λ e. behind_at (from_of b) (owner_of b) (serial_of b) (z.said (rw e refl));
    }

    pub rested_in_turn : InTurn st
    unfolding idle_after
    rested_in_turn = record {
      below = r.below;
      not_over = λ n w q. absurd (q (r.all_over n w));
      said_yes_lem = λ n w. by_idle w (λ c. contains c.yes n ≡ true → Bound (st.images n) w c.serial) (λ e. absurd (no_bit n e));
      said_done_lem = λ n w. by_idle w (λ c. contains c.done n ≡ true → Behind (st.images n) w c.serial) (λ e. absurd (no_bit n e));
      waits = timely;
    }

-- ---- the blank station is one, whichever nodes are on; every author is known there
pub blank_known : (up : ℕ) → Known (blank_origin up).station
blank_known up n t e = on (lt_or_le t objects) (λ h. let f = blank_author t h in let z : ⊥ = omega (arith, e, f) in z)
    (λ h. let f = of_out (author_field shape) (blank_as shape) t h in let z : ⊥ = omega (arith, e, f) in z)

pub blank_rested : (on : ℕ) → Rested (blank_origin on)
unfolding idle_after values_of
blank_rested up = record {
  sane = tree_sane;
  idle = λ n. refl;
  clauses = λ n. facts_meet (system (blank_origin up).station) _ (blank_meets (system (blank_origin up).station));
  widths = λ n. blank_fits (system (blank_origin up).station);
  valid = λ n. sound_check _ blank_sound;
  bytes = λ n. bytes_blank;
  beyond = λ n h. refl;
  all_over = λ n w. blank_zero (state_field shape) w tt tt tt tt;
  below = λ n w. subst (λ (s : ℕ). s ≤ 0) (sym (blank_zero (serial_field shape) w tt tt tt tt)) (omega arith);
  once = λ x m s. absurd (cons≢nil s);
  begun = λ x i. absurd i;
  write_quorum = λ x i. absurd i;
  late = λ x n i. absurd i;
  stored = λ x m n t s. absurd (cons≢nil s);
  written = λ n t. subst (λ (s : ℕ). s ≤ 0) (sym (blank_zero (version_field shape) t tt tt tt tt)) (omega arith);
  copies = λ n t. blank_zero (value_field shape) t tt tt tt tt;
  authors = λ e n t h. inl (blank_author t h, blank_zero (author_serial_field shape) t tt tt tt tt);
  waits = λ b i. absurd i;
  room = omega arith;
}
