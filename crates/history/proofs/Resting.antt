-- At rest nobody holds anything, so every participant has applied what was committed: every newest copy has replay's last value, and its author is replay's
-- last writer. And what is at rest is an origin again: it carries what replay is fed.
use mathlib.Core.Path.{◌≡◌, refl, sym, ◌∙◌, ap, subst}
use mathlib.Core.Logic.{◌≢◌, ◌⊎◌, inl, inr, by_cases}
use mathlib.Core.Bool.{Bool, true, false, cond}
use mathlib.Core.List.{List, [], ◌∷◌}
use mathlib.Core.Option.{Option, none, some}
use Prim.Native.Nat.{ℕ, suc, ◌≤◌, ◌<◌}
use native.Mathlib.Decide.{ℕ_discrete}
use native.Mathlib.Omega.{arith}
use lib.Dec.{T, eqb, eqb→eq}
use lib.ListN.{length}
use borrow.Author.Tests.{eqb-true, ne_eqb, le-ltb}
use Rattle.numbers.specs.Sizes.{nodes, objects, most_waiting, nobody, unknown}
use Rattle.mask.specs.Mask.{contains}
use Rattle.mask.proofs.Laws.{contains_within}
use Rattle.mask.proofs.Tests.{T_true, and_left, and_right}
use Rattle.wire.specs.Message.{vote, done}
use Rattle.wire.specs.Decode.{kind_of, owner_of}
use Rattle.wire.specs.Items.{word_of}
use Rattle.image.specs.Layout.{shape, value, version, author, author_serial, serial, state, state_field}
use Rattle.image.specs.Valid.{over, author_ok}
use Rattle.image.proofs.Each.{lt_or_le}
use Rattle.image.proofs.Lens.{of_out}
use Rattle.image.proofs.Sound.{sound_check}
use Rattle.coordinator.specs.State.{idle_phase}
use Rattle.clauses.proofs.Facts.{facts_meet}
use Rattle.clauses.proofs.Parts.{true-T}
use Rattle.steps.specs.Station.{Station, system, Quiescent}
use Rattle.steps.specs.Step.{Call}
use Rattle.protocol.specs.Table.{In, Suffix, AtMostOnce}
use Rattle.protocol.specs.Rules.{Mode, unused, read, write, Rules}
use Rattle.protocol.specs.State.{Tx, Tx-discrete, committed, Contents, History, State}
use Rattle.protocol.specs.Claims.{AllApplied, AppliedIn}
use Rattle.protocol.specs.Invariant.{wrote, committed_write, count}
use Rattle.protocol.specs.Log.{fed}
use Rattle.protocol.specs.Replay.{replay, given, after, committed?}
use Rattle.protocol.proofs.Core.{all_applied_in, committed_good}
use Rattle.protocol.specs.Proof.Tables.{clash}
use Rattle.protocol.proofs.Tables.{on}
use Rattle.protocol.proofs.Lists.{in_suffix, suffix_tail, suffix_whole, in_select, select_all, count_ext, replay_ext, given_ext}
use Rattle.protocol.specs.Refine.Origin.{held_in, Brought}
use Rattle.protocol.proofs.Refine.Origin.{values_ext}
use Rattle.protocol.specs.Refine.Rest.{earlier}
use Rattle.protocol.proofs.Refine.Rest.{same_contents, same_wrote, rest_brought}
use Rattle.protocol.specs.Refine.Authors.{unwritten, by, names_of, last_name}
use Rattle.protocol.proofs.Refine.Authors.{names_cases, author_named, newest_by, newest_unwritten}
use Rattle.history.specs.Ledger.{Ledger, in?, fed as fedBy, turn, given_to, last_value, signing, last_writer, is_done}
use Rattle.history.specs.Ballots.{is_yes}
use Rattle.history.specs.Origin.{Origin, Carried, ledger_of, is_writing, writes, writers_of, held_after, writer_after, AuthorIs, Spent, Rested, origin_of}
use Rattle.history.specs.Claims.{AllTyped, Settled, Newest, Known, LastWriters, reached, told, account}
use Rattle.history.proofs.Quorums.{rules, top}
use Rattle.history.proofs.Tests.{and-true, or-true}
use Rattle.history.proofs.Sim.{tx, state_of, author_of, authors, waits_well}
use Rattle.history.proofs.Images.{author_none, author_by}
use Rattle.history.proofs.Books.{Past, World}
use Rattle.history.proofs.Moves.{Behind, Bound}
use Rattle.history.proofs.InTurn.{InTurn}
use Rattle.history.proofs.Theorem.{Good}
use Rattle.history.proofs.Known.{known_next}
use Rattle.history.proofs.Spare.{Spare, spare_next}
use Rattle.history.proofs.Claimed.{read_meets, newest_there, applied_newest, fed_as, always_good}
use Rattle.history.proofs.Numbered.{always_in_turn, always_room}
use Rattle.history.proofs.Origins.{is_carried}

module _ (st : Station) (L : Ledger) (F : Past) (w : World st L F) (t : InTurn st) (rest : Quiescent st) where
  -- no node has a transaction that is not over: its owner would not be idle
  pub all_over : (n o : ℕ) → state (st.images n) o ≡ over
  all_over n o = by_cases (ℕ_discrete (state (st.images n) o) over) (λ e. e)
      (λ e. on (lt_or_le o nodes) (λ h. absurd ((t.not_over n o e).begun (rest o h))) (λ h. of_out (state_field shape) (st.images n) o h))

  pub rest_applied : AllApplied w.state.votes w.state.history
  rest_applied x n p q =
      let v = w.sim.kept.inv.votes in
      on (v.v_then n x (v.v_all n x p q))
      (λ h. let s = w.sim.reads.r_state n x.owner ∙ ap state_of (all_over n x.owner) in let k = h.1 in absurd (clash (cc)))
      (λ s. on s (λ a. absurd (clash (cc))) (λ a. a))

-- THE THEOREM: at rest, in every read quorum, whichever nodes are on, every newest copy of each object has replay's last value
pub rest_newest : (o : Origin) → Rested o → (cs : List Call) → AllTyped cs → Quiescent (reached o cs) → (q : ℕ)
    → (system (reached o cs)).is_read q ≡ true → (n t : ℕ) → Newest (reached o cs) q n t → value ((reached o cs).images n) t ≡ last_value (told o cs) t
rest_newest o r cs a rest q c n t new =
    let g = always_good o r cs a in
    applied_newest _ _ _ g (rest_applied (reached o cs) _ _ g.world (always_in_turn o r cs a) rest) q c n t new

-- ---- who wrote last
-- the author of a copy as it is read, by its owner and serial
author_cases : (l : List ℕ) (t : ℕ) → t < objects → T (author_ok (author l t) (author_serial l t))
    → ((author_of l t ≡ unwritten) × (author l t ≡ nobody) × (author_serial l t ≡ 0))
    ⊎ ((author l t ≡ unknown) ⊎ ((author_of l t ≡ by (tx (author l t) (author_serial l t))) × (author l t < nodes)))
author_cases l t h ok = on (lt_or_le (author l t) nodes)
    (λ k. inr (inr (author_by l t (author l t) (author_serial l t) h k refl refl, k)))
    (λ k. let z = rw (le-ltb (author l t) nodes k) at ok in
    by_cases (ℕ_discrete (author l t) unknown) (λ e. inr (inl e))
    (λ e. let y = rw (ne_eqb (author l t) unknown e) at z in
    let a = eqb→eq (author l t) nobody (and_left (eqb (author l t) nobody) _ y) in
    inl (author_none l t a, a, eqb→eq (author_serial l t) 0 (and_right (eqb (author l t) nobody) _ y))))

module _ (st : Station) (L : Ledger) (F : Past) (g : Good st L F) where
  abbrev D : World st L F
  D = g.world

  abbrev W : Tx → ℕ → Bool
  W = wrote D.state.history

  abbrev fed_there : List Tx
  fed_there = fed D.state D.log

  -- a committed transaction writes what it is told to write
  told_writes : (x : Tx) (t : ℕ) → D.state.history.phase x ≡ committed → is_writing (L.mode x t) ≡ W x t
  told_writes x t p = ap is_writing (D.books.decided.its_mode x p t) ∙ by_mode ((D.state.history.contents x).mode t)
      ∙ ap (λ q. committed_write q ((D.state.history.contents x).mode t)) (sym p)
    where
      by_mode : (m : Mode) → is_writing m ≡ committed_write committed m
      by_mode unused = refl
      by_mode read = refl
      by_mode write = refl

  -- in replay as the events tell it and in the abstract state the last writer is the same
  writer_as : (t : ℕ) → last_writer L t ≡ last_name W fed_there t
  unfolding last_writer
  writer_as t = ap (λ (m : List Tx). replay none (signing L) m t) (fed_as st L F g)
      ∙ replay_ext none (λ x u a. cond (W x u) (some x) a) (signing L) fed_there t
      (λ x i a. signs (L.mode x t) (some x) a
      ∙ ap (λ (b : Bool). cond b (some x) a) (told_writes x t (in_select (committed? D.state.history) D.log x i).1))
    where
      signs : (m : Mode) (x a : Option Tx) → after m x a ≡ cond (is_writing m) x a
      signs unused x a = refl
      signs read x a = refl
      signs write x a = refl

  -- where every participant has applied what was committed, the author of every newest copy, if it is known, is the last writer
  pub applied_author : AllApplied D.state.votes D.state.history → (q : ℕ) → (system st).is_read q ≡ true → (n t : ℕ) → t < objects → Newest st q n t
      → author (st.images n) t ≢ unknown → AuthorIs (st.images n) t (last_writer L t)
  applied_author applied q r n t small new known = on (author_cases (st.images n) t small ((D.valid.images n).0.authors t small))
      (λ z. subst (AuthorIs (st.images n) t) (sym (writer_as t ∙ newest_unwritten R (top D.sane) D.state D.log D.sim.kept.inv
      D.sim.kept.log (authors st) D.sim.authored (contains q) done n t (newest_there st L F g q n t new) z.0)) (z.1, z.2))
      (λ y. on y (λ e. absurd (known e))
      (λ z. subst (AuthorIs (st.images n) t) (sym (writer_as t ∙ newest_by R (top D.sane) D.state D.log D.sim.kept.inv
      D.sim.kept.log (authors st) D.sim.authored (contains q) done n t (newest_there st L F g q n t new) _ z.0)) (z.1, refl, refl)))
    where
      R : Rules ℕ
      R = rules D.sane

      done : AppliedIn D.state.votes D.state.history (contains q)
      done = all_applied_in R D.state D.sim.kept.inv applied (contains q) (read_meets st L F g q r)

-- THE THEOREM of 2.5: at rest, in every read quorum, whichever nodes are on, the author of every newest copy, if it is known, is replay's last writer
pub rest_author : (o : Origin) → Rested o → (cs : List Call) → AllTyped cs → Quiescent (reached o cs) → (q : ℕ)
    → (system (reached o cs)).is_read q ≡ true → (n t : ℕ) → t < objects → Newest (reached o cs) q n t → author ((reached o cs).images n) t ≢ unknown
    → AuthorIs ((reached o cs).images n) t (last_writer (told o cs) t)
rest_author o r cs a rest q c n t small new known =
    let g = always_good o r cs a in
    applied_author _ _ _ g (rest_applied (reached o cs) _ _ g.world (always_in_turn o r cs a) rest) q c n t small new known

-- no author becomes unknown
pub always_known : (o : Origin) → Rested o → Known o.station → (cs : List Call) → AllTyped cs → Known (reached o cs)
always_known o r k [] a = k
always_known o r k (c ∷ cs) a = known_next (reached o cs) (always_good o r cs a.1).world.valid (always_known o r k cs a.1) c

-- THE THEOREM of 2.5, whole
pub last_writers : (o : Origin) → Rested o → (cs : List Call) → AllTyped cs → LastWriters (account o) cs
last_writers o r cs a = record {
  known = λ k. always_known o r k cs a;
  newest_value = λ rest q c n t h i small new. rest_newest o r cs a rest q c n t new;
  newest_author = λ rest q c n t h i small new known. rest_author o r cs a rest q c n t small new known;
}

-- ---- what is late or held at a node where all is over, is no later than the last
behind_most : (l : List ℕ) (o s : ℕ) → Behind l o s → s ≤ serial l o
behind_most l o s (inl h) = omega (arith, h)
behind_most l o s (inr z) = omega (arith, z.0)

bound_most : (l : List ℕ) (o s : ℕ) → state l o ≡ over → Bound l o s → s ≤ serial l o
bound_most l o s e (inl b) = behind_most l o s b
bound_most l o s e (inr z) = omega (arith, z.0)

-- ---- a good station at rest, with room in its pool
module _ (st : Station) (L : Ledger) (F : Past) (g : Good st L F) (t : InTurn st) (spare : Spare st) (room : length st.pool ≤ most_waiting)
    (rest : Quiescent st) where
  abbrev w : World st L F
  w = g.world

  abbrev R : Rules ℕ
  R = rules w.sane

  abbrev σ : State ℕ
  σ = w.state

  abbrev k : Carried
  k = (origin_of st L).carried

  abbrev h' : History ℕ
  h' = earlier R σ w.log

  idle : (n : ℕ) → (st.records n).phase ≡ idle_phase
  idle n = on (lt_or_le n nodes) (rest n) (spare n)

  over_there : (n o : ℕ) → σ.ends.state n o ≡ Rattle.protocol.specs.State.over
  over_there n o = w.sim.reads.r_state n o ∙ ap state_of (all_over st L F w t rest n o)

  -- ---- what waits
  spent : (b : List ℕ) → In b st.pool → Spent st b
  spent b i = let z = t.waits b i in record {
    well = waits_well σ b (w.sim.waits b i);
    bytes = w.valid.messages b i;
    begun = g.stamped.serial_below b i;
    stamped = g.stamped.stamp_as b i;
    arrives = λ e. on (z.to_replica e) (behind_most _ _ _) (λ a. absurd (a.begun (idle (owner_of b))));
    said = λ e. on (or-true (is_yes b) (is_done b) e)
        (λ y. let q = and-true (eqb (kind_of b) vote) (eqb (word_of b) 1) y in
        bound_most _ _ _ (all_over st L F w t rest _ _) (z.a_yes (eqb-true (kind_of b) vote q.0) (eqb-true (word_of b) 1 q.1)))
        (λ y. behind_most _ _ _ (z.a_done_lem (eqb-true (kind_of b) done y)));
  }

  -- ---- what is carried
  brought : Brought R σ.store σ.ends h'
  brought = rest_brought R (top w.sane) σ w.log w.sim.kept.inv w.sim.kept.log
      over_there

  same_list : k.txs ≡ fed σ w.log
  same_list = fed_as st L F g

  is_committed_lem : (x : Tx) → In x k.txs → σ.history.phase x ≡ committed
  is_committed_lem x i = (in_select (committed? σ.history) w.log x (subst (In x) same_list i)).1

  module _ (x : Tx) (i : In x k.txs) where
    p : σ.history.phase x ≡ committed
    p = is_committed_lem x i

    its_mode : (u : ℕ) → L.mode x u ≡ (σ.history.contents x).mode u
    its_mode u = w.books.decided.its_mode x p u

    writes_as : (u : ℕ) → writes k x u ≡ wrote h' x u
    writes_as u = told_writes st L F g x u p ∙ sym (same x u)
      where
        same : (y : Tx) (v : ℕ) → wrote h' y v ≡ wrote σ.history y v
        same = same_wrote R (top w.sane) σ w.log w.sim.kept.inv w.sim.kept.log
            over_there

    contents_as : h'.contents x ≡ σ.history.contents x
    contents_as = same_contents R (top w.sane) σ w.log w.sim.kept.inv w.sim.kept.log
        over_there x p

    new_as : (u : ℕ) → L.new x u ≡ (h'.contents x).new u
    new_as u = w.books.decided.its_new x p u ∙ ap (λ (c : Contents ℕ). c.new u) (sym contents_as)

    began : x.serial ≤ (st.records x.owner).serial
    began = on (lt_or_le (st.records x.owner).serial x.serial)
        (λ h. absurd (let e = (w.sim.owners x.owner).later x.serial h in let q = p in clash (cc))) (λ h. h)

    write_quorum : (system st).is_write (k.participants x) ≡ true
    write_quorum = let q = committed_good R σ w.sim.kept.inv x p in
        T_true _ (w.sane.choices.write_larger q.mask (k.participants x)
        (contains_within q.mask (k.participants x) (λ j e. true-T _ (w.books.decided.its_party_lem x p j ∙ q.all j (T_true _ e)))) (true-T _ q.counts))

    module _ (n : ℕ) (named : contains (k.participants x) n ≡ true) where
      takes_part : (σ.history.contents x).participants n ≡ true
      takes_part = sym (w.books.decided.its_party_lem x p n) ∙ named

      is_late : x.serial ≤ serial (st.images n) x.owner
      is_late = let v = w.sim.kept.inv.votes in
          subst (λ (s : ℕ). x.serial ≤ s) (w.sim.reads.r_last n x.owner) (v.v_late n x (v.v_all n x p takes_part)).0

      applied : (u : ℕ) → L.mode x u ≡ write → suc ((σ.history.contents x).version u) ≤ version (st.images n) u
      applied u e = subst (λ (v : ℕ). suc ((σ.history.contents x).version u) ≤ v) (w.sim.reads.r_version n u)
          (w.sim.kept.inv.holds.h_applied n x u (rest_applied st L F w t rest x n p takes_part) (sym (its_mode u) ∙ e))

  counts_as : (m : List Tx) (u : ℕ) → Suffix m k.txs → writers_of k m u ≡ count (wrote h') m u
  counts_as m u s = count_ext (wrote h') (writes k) m u (λ x i. writes_as x (in_suffix x m k.txs s i) u)

  stored : (x : Tx) (m : List Tx) (n u : ℕ) → Suffix (x ∷ m) k.txs → contains (k.participants x) n ≡ true → k.mode x u ≡ write
      → writers_of k (x ∷ m) u ≤ version (st.images n) u
  stored x m n u s c e =
      let i = in_suffix x (x ∷ m) k.txs s (inl refl) in
      let a = applied x i n c u e in
      let v = brought.b_version x m u (subst (Suffix (x ∷ m)) same_list s) (λ q. touches i q) in
      let d = ap (λ (y : Contents ℕ). y.version u) (contents_as x i) in
      let f = counts_as m u (suffix_tail x m k.txs s) in
      let y : writers_of k (x ∷ m) u ≡ suc (writers_of k m u) = ap (λ (b : Mode). cond (is_writing b) (suc (writers_of k m u)) (writers_of k m u)) e in
      omega (arith, a, v, d, f, y)
    where
      touches : In x k.txs → (h'.contents x).mode u ≡ unused → ⊥
      touches i q = let f = sym e ∙ its_mode x i u ∙ ap (λ (y : Contents ℕ). y.mode u) (sym (contents_as x i)) ∙ q in clash (cc)

  written : (n u : ℕ) → version (st.images n) u ≤ writers_of k k.txs u
  written n u =
      let a = (brought.b_copy n u).0 in
      let b = w.sim.reads.r_version n u in
      let c = counts_as k.txs u (suffix_whole k.txs) ∙ ap (λ (m : List Tx). count (wrote h') m u) same_list in
      omega (arith, a, b, c)

  copies : (n u : ℕ) → value (st.images n) u ≡ held_after k u (version (st.images n) u)
  copies n u = sym (w.sim.reads.r_value n u) ∙ (brought.b_copy n u).1
      ∙ ap (held_in R h' (fed σ w.log) u) (w.sim.reads.r_version n u)
      ∙ ap (λ (m : List Tx). held_in R h' m u (version (st.images n) u)) (sym same_list)
      ∙ sym (values_ext (wrote h') (λ x. (h'.contents x).new) 0 (writes k) k.new k.txs u (version (st.images n) u)
      (λ x i. writes_as x i u) (λ x i. new_as x i u))

  -- each author is the writer of its copy's version
  names_as : (u v : ℕ) → writer_after k u v ≡ names_of (wrote σ.history) (fed σ w.log) u v
  names_as u v = values_ext (wrote σ.history) (λ x r. some x) none (writes k) (λ x r. some x) k.txs u v
      (λ x i. told_writes st L F g x u (is_committed_lem x i)) (λ x i. refl)
      ∙ ap (λ (m : List Tx). names_of (wrote σ.history) m u v) same_list

  authored : (n u : ℕ) → u < objects
      → AuthorIs (st.images n) u (writer_after k u (version (st.images n) u)) ⊎ (author (st.images n) u ≡ unknown)
  authored n u small = on (author_cases (st.images n) u small ((w.valid.images n).0.authors u small))
      (λ z. let e = sym (w.sim.reads.r_version n u) ∙ (w.sim.authored n u).no_version z.0 in
      inl (subst (AuthorIs (st.images n) u) (sym (none_of e)) (z.1, z.2)))
      (λ y. on y inr (λ z. inl (subst (AuthorIs (st.images n) u) (sym (names_as u (version (st.images n) u)
      ∙ ap (names_of (wrote σ.history) (fed σ w.log) u) (sym (w.sim.reads.r_version n u))
      ∙ author_named R (top w.sane) σ w.log w.sim.kept.inv w.sim.kept.log (authors st) w.sim.authored n u _ z.0)) (z.1, refl, refl))))
    where
      none_of : version (st.images n) u ≡ 0 → writer_after k u (version (st.images n) u) ≡ none
      none_of e = on (names_cases (writes k) k.txs u (version (st.images n) u) (written n u)) (λ z. z.1)
          (λ z. absurd (let f = z.4 in let y : ⊥ = omega (arith, e, f) in y))

  pub good_rests : Rested (origin_of st L)
  good_rests = record {
    sane = w.sane;
    idle = idle;
    clauses = λ n. facts_meet (system st) (st.records n) (w.valid.records n);
    widths = g.wide.fits;
    valid = λ n. sound_check (st.images n) (w.valid.images n).0;
    bytes = λ n. (w.valid.images n).1;
    beyond = g.wide.beyond;
    all_over = all_over st L F w t rest;
    below = t.below;
    once = λ x. subst (AtMostOnce x) (sym same_list) (brought.b_once x);
    begun = began;
    write_quorum = write_quorum;
    late = λ x n i. is_late x i n;
    stored = stored;
    written = written;
    copies = copies;
    authors = λ e. authored;
    waits = spent;
    room = room;
  }

-- THE THEOREM: what a list of steps from an origin leaves at rest is an origin again
module _ (o : Origin) (r : Rested o) where
  pub always_spare : (cs : List Call) → Spare (reached o cs)
  always_spare [] = λ n h. r.idle n
  always_spare (c ∷ cs) = spare_next (reached o cs) (always_spare cs) c

  pub rests : (cs : List Call) → AllTyped cs → Quiescent (reached o cs) → Rested (origin_of (reached o cs) (told o cs))
  rests cs a = good_rests (reached o cs) (told o cs) _ (always_good o r cs a) (always_in_turn o r cs a) (always_spare cs) (always_room o r cs)

-- ---- the running goes on where it was
module _ (o : Origin) where
  -- replay is fed those carried, in their order; and they are settled
  pub carried_fed : fedBy (ledger_of o) ≡ o.carried.txs
  carried_fed = select_all (λ x. in? x o.carried.txs) o.carried.txs (λ x i. i)

  pub carried_settled : Settled (ledger_of o)
  carried_settled x i n e = is_carried o x (contains (o.carried.participants x) n) false i
      ∙ ap (λ (p : ℕ). contains p n) (sym (is_carried o x (o.carried.participants x) 0 i)) ∙ e

module _ (st : Station) (L : Ledger) where
  turn_as : (t : ℕ) (x : Tx) → In x (fedBy L) → (a : ℕ) → turn (ledger_of (origin_of st L)) x t a ≡ turn L x t a
  turn_as t x i a = ap (λ (m : Mode). after m ((ledger_of (origin_of st L)).new x t) a) (is_carried (origin_of st L) x (L.mode x t) unused i)
      ∙ ap (λ (v : ℕ). after (L.mode x t) v a) (is_carried (origin_of st L) x (L.new x t) 0 i)

  -- its last values, and what it gives each of them, are as they were told
  pub carried_last : (t : ℕ) → last_value (ledger_of (origin_of st L)) t ≡ last_value L t
  unfolding last_value
  carried_last t = ap (λ (m : List Tx). replay 0 (turn (ledger_of (origin_of st L))) m t) (carried_fed (origin_of st L))
      ∙ replay_ext 0 (turn L) (turn (ledger_of (origin_of st L))) (fedBy L) t (turn_as t)

  pub carried_given : (x : Tx) (t : ℕ) → given_to (ledger_of (origin_of st L)) x t ≡ given_to L x t
  unfolding given_to
  carried_given x t = ap (λ (m : List Tx). given Tx-discrete 0 (turn (ledger_of (origin_of st L))) x m t) (carried_fed (origin_of st L))
      ∙ given_ext Tx-discrete 0 (turn L) (turn (ledger_of (origin_of st L))) x (fedBy L) t (turn_as t)
