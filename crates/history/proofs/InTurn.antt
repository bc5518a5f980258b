-- Why nothing that waits is out of turn, read off the station alone. No node's last serial is above the owner's; where a node's state is not over, the
-- transaction is the owner's present one and the node's done is awaited; who has said done is late; who has said yes is late or held; and so is,
-- for what waits, its receiver or its sender. Here: what is kept, and what one record, one image or another pool leaves true of it.
use mathlib.Core.Path.{◌≡◌, sym, subst}
use mathlib.Core.Logic.{◌≢◌, ◌⊎◌, inl, inr, by_cases}
use mathlib.Core.Bool.{true}
use mathlib.Core.List.{List}
use Prim.Native.Nat.{ℕ, ◌≤◌}
use native.Mathlib.Decide.{ℕ_discrete}
use native.Mathlib.Omega.{arith}
use Rattle.mask.specs.Mask.{contains}
use Rattle.wire.specs.Message.{vote, outcome, done}
use Rattle.wire.specs.Decode.{kind_of, from_of, to_of, owner_of, serial_of, decode}
use Rattle.wire.specs.Items.{word_of}
use Rattle.image.specs.Layout.{serial, state}
use Rattle.image.specs.Valid.{over}
use Rattle.coordinator.specs.declared.Coordinator.{Coordinator}
use Rattle.coordinator.specs.State.{idle_phase, awaited}
use Rattle.arrivals.specs.Receive.{for_replica}
use Rattle.steps.specs.Station.{Own, Station, put_at}
use Rattle.protocol.specs.Table.{In}
use Rattle.protocol.proofs.Tables.{on}
use Rattle.history.proofs.Carry.{put_all}
use Rattle.history.proofs.Words.{header}
use Rattle.history.proofs.Moves.{Behind, Bound, Moved, Moves, behind_on, bound_on, moved_other}

-- the node's done of the present transaction, of serial s, is awaited, now or once it is decided
pub record Awaited (c : Coordinator) (n s : ℕ) : Type 0 where
  pub present : c.serial ≡ s
  pub begun : c.phase ≢ idle_phase
  pub named : contains (awaited c) n ≡ true

-- a waiting message
pub record Timely (images : ℕ → List ℕ) (records : ℕ → Coordinator) (b : List ℕ) : Type 0 where
  -- what is for a replica is late there, or its owner awaits that node
  pub to_replica : for_replica (kind_of b) ≡ true → Behind (images (to_of b)) (owner_of b) (serial_of b)
      ⊎ Awaited (records (owner_of b)) (to_of b) (serial_of b)
  -- a commit is late or held there
  pub a_commit_lem : kind_of b ≡ outcome → word_of b ≡ 1 → Bound (images (to_of b)) (owner_of b) (serial_of b)
  -- a yes is late or held where it comes from, a done late
  pub a_yes : kind_of b ≡ vote → word_of b ≡ 1 → Bound (images (from_of b)) (owner_of b) (serial_of b)
  pub a_done_lem : kind_of b ≡ done → Behind (images (from_of b)) (owner_of b) (serial_of b)

-- what is for a replica, by the message that its bytes are
pub heard_of : (images : ℕ → List ℕ) (records : ℕ → Coordinator) (b : List ℕ) → Timely images records b → for_replica (kind_of b) ≡ true
    → Behind (images (to_of b)) (decode b).owner (decode b).serial ⊎ Awaited (records (decode b).owner) (to_of b) (decode b).serial
heard_of images records b w e =
    subst (λ (o : ℕ). Behind (images (to_of b)) o (decode b).serial ⊎ Awaited (records o) (to_of b) (decode b).serial) (sym (header b).3)
    (subst (λ (s : ℕ). Behind (images (to_of b)) (owner_of b) s ⊎ Awaited (records (owner_of b)) (to_of b) s) (sym (header b).4) (w.to_replica e))

pub record InTurn (st : Station) : Type 0 where
  pub below : (n o : ℕ) → serial (st.images n) o ≤ (st.records o).serial
  pub not_over : (n o : ℕ) → state (st.images n) o ≢ over → Awaited (st.records o) n (serial (st.images n) o)
  pub said_yes_lem : (n o : ℕ) → contains (st.records o).yes n ≡ true → Bound (st.images n) o (st.records o).serial
  pub said_done_lem : (n o : ℕ) → contains (st.records o).done n ≡ true → Behind (st.images n) o (st.records o).serial
  pub waits : (b : List ℕ) → In b st.pool → Timely st.images st.records b

-- the last transaction is not late while its state is not over
not_behind : (l : List ℕ) (o : ℕ) → state l o ≢ over → Behind l o (serial l o) → ⊥
not_behind l o q (inl h) = let z : ⊥ = omega (arith, h) in z
not_behind l o q (inr z) = q z.1

module _ (st : Station) (t : InTurn st) where
  -- a node whose state is not over has not said done
  pub not_done : (n o : ℕ) → state (st.images n) o ≢ over → contains (st.records o).done n ≡ true → ⊥
  not_done n o q e = not_behind (st.images n) o q
      (subst (Behind (st.images n) o) (t.not_over n o q).present (t.said_done_lem n o e))

  -- ---- another pool, whoever is on
  pub pool_turn : (pool : List (List ℕ)) (own : Own) → ((b : List ℕ) → In b pool → In b st.pool ⊎ Timely st.images st.records b)
      → InTurn (record { images = st.images; records = st.records; pool = pool; own = own })
  pool_turn pool own new = record {
    below = t.below;
    not_over = t.not_over;
    said_yes_lem = t.said_yes_lem;
    said_done_lem = t.said_done_lem;
    waits = λ b i. on (new b i) (t.waits b) (λ z. z);
  }

  -- ---- owner n's record is c' now
  pub record Goes (n : ℕ) (c' : Coordinator) : Type 0 where
    pub rises : (st.records n).serial ≤ c'.serial
    -- who was awaited is so still, or is late
    pub still : (i s : ℕ) → Awaited (st.records n) i s → Awaited c' i s ⊎ Behind (st.images i) n s
    pub yes : (i : ℕ) → contains c'.yes i ≡ true → Bound (st.images i) n c'.serial
    pub done : (i : ℕ) → contains c'.done i ≡ true → Behind (st.images i) n c'.serial

  module _ (n : ℕ) (c' : Coordinator) (g : Goes n c') (pool : List (List ℕ)) (own : Own) (sub : (b : List ℕ) → In b pool → In b st.pool) where
    abbrev records : ℕ → Coordinator
    records = put_at st.records n c'

    still_not_over : (o i : ℕ) → state (st.images i) o ≢ over → Awaited (records o) i (serial (st.images i) o)
    still_not_over = put_all (λ (o : ℕ) (c : Coordinator). (i : ℕ) → state (st.images i) o ≢ over → Awaited c i (serial (st.images i) o)) st.records n c'
        (λ i q. on (g.still i (serial (st.images i) n) (t.not_over i n q)) (λ a. a) (λ b. absurd (not_behind (st.images i) n q b)))
        (λ o e i q. t.not_over i o q)

    still_awaited : (o i s : ℕ) → Awaited (st.records o) i s → Awaited (records o) i s ⊎ Behind (st.images i) o s
    still_awaited = put_all (λ (o : ℕ) (c : Coordinator). (i s : ℕ) → Awaited (st.records o) i s → Awaited c i s ⊎ Behind (st.images i) o s)
        st.records n c' g.still (λ o e i s a. inl a)

    still_timely : (b : List ℕ) → Timely st.images st.records b → Timely st.images records b
    still_timely b w = record {
      to_replica = λ e. on (w.to_replica e) inl (λ a. on (still_awaited (owner_of b) (to_of b) (serial_of b) a) inr inl);
      a_commit_lem = w.a_commit_lem;
      a_yes = w.a_yes;
      a_done_lem = w.a_done_lem;
    }

    pub record_turn : InTurn (record { images = st.images; records = records; pool = pool; own = own })
    record_turn = record {
      below = λ i o. put_all (λ (o : ℕ) (c : Coordinator). serial (st.images i) o ≤ c.serial) st.records n c'
          (let h = t.below i n in let k = g.rises in omega (arith, h, k)) (λ o e. t.below i o) o;
      not_over = λ i o. still_not_over o i;
      said_yes_lem = λ i o. put_all (λ (o : ℕ) (c : Coordinator). contains c.yes i ≡ true → Bound (st.images i) o c.serial) st.records n c'
          (g.yes i) (λ o e. t.said_yes_lem i o) o;
      said_done_lem = λ i o. put_all (λ (o : ℕ) (c : Coordinator). contains c.done i ≡ true → Behind (st.images i) o c.serial) st.records n c'
          (g.done i) (λ o e. t.said_done_lem i o) o;
      waits = λ b i. still_timely b (t.waits b (sub b i));
    }

  -- ---- node n's image is k now, by a message of (o, s) that was late there, or its owner awaits the node
  module _ (n : ℕ) (k : List ℕ) (o s : ℕ) (moves : Moves (st.images n) k o s) (heard : Behind (st.images n) o s ⊎ Awaited (st.records o) n s) where
    abbrev l : List ℕ
    l = st.images n

    abbrev pub images : ℕ → List ℕ
    images = put_at st.images n k

    pub behind_still : (i w r : ℕ) → Behind (st.images i) w r → Behind (images i) w r
    behind_still = put_all (λ (i : ℕ) (j : List ℕ). (w r : ℕ) → Behind (st.images i) w r → Behind j w r) st.images n k
        (behind_on l k o s moves) (λ i e w r b. b)

    pub bound_still : (i w r : ℕ) → Bound (st.images i) w r → Bound (images i) w r
    bound_still = put_all (λ (i : ℕ) (j : List ℕ). (w r : ℕ) → Bound (st.images i) w r → Bound j w r) st.images n k
        (bound_on l k o s moves) (λ i e w r b. b)

    -- what moved was awaited
    was_awaited : (u : ℕ) → Moved l k o s u → Awaited (st.records o) n s
    was_awaited u m = on heard (λ b. absurd (m.not_late b)) (λ a. a)

    -- of each owner: a serial that is not above, and a state that is over unless the node is awaited
    abbrev Fair : ℕ → ℕ → ℕ → Type 0
    Fair w r u = (r ≤ (st.records w).serial) × (u ≢ over → Awaited (st.records w) n r)

    fair_before : (w : ℕ) → Fair w (serial l w) (state l w)
    fair_before w = (t.below n w, t.not_over n w)

    fair_after : Moves l k o s → (w : ℕ) → Fair w (serial k w) (state k w)
    fair_after (inl z) w = subst (λ (r : ℕ). Fair w r (state k w)) (sym (z.serials w))
        (subst (λ (u : ℕ). Fair w (serial l w) u) (sym (z.states w)) (fair_before w))
    fair_after (inr z) w = by_cases (ℕ_discrete w o)
        (λ e. let a = was_awaited z.0 z.1 in
        subst (λ (p : ℕ). Fair p (serial k p) (state k p)) (sym e)
        (subst (λ (r : ℕ). Fair o r (state k o)) (sym z.1.owner.its_serial) (let h = a.present in omega (arith, h), λ q. a)))
        (λ e. moved_other l k o s z.0 z.1 (Fair w) w e (fair_before w))

    still_heard : (b : List ℕ) → Timely st.images st.records b → Timely images st.records b
    still_heard b w = record {
      to_replica = λ e. on (w.to_replica e) (λ q. inl (behind_still (to_of b) (owner_of b) (serial_of b) q)) inr;
      a_commit_lem = λ e f. bound_still (to_of b) (owner_of b) (serial_of b) (w.a_commit_lem e f);
      a_yes = λ e f. bound_still (from_of b) (owner_of b) (serial_of b) (w.a_yes e f);
      a_done_lem = λ e. behind_still (from_of b) (owner_of b) (serial_of b) (w.a_done_lem e);
    }

    pub image_turn : (pool : List (List ℕ)) (own : Own) → ((b : List ℕ) → In b pool → In b st.pool ⊎ Timely images st.records b)
        → InTurn (record { images = images; records = st.records; pool = pool; own = own })
    image_turn pool own new = record {
      below = put_all (λ (i : ℕ) (j : List ℕ). (w : ℕ) → serial j w ≤ (st.records w).serial) st.images n k
          (λ w. (fair_after moves w).0) (λ i e. t.below i);
      not_over = put_all (λ (i : ℕ) (j : List ℕ). (w : ℕ) → state j w ≢ over → Awaited (st.records w) i (serial j w)) st.images n k
          (λ w. (fair_after moves w).1) (λ i e. t.not_over i);
      said_yes_lem = λ i w e. bound_still i w (st.records w).serial (t.said_yes_lem i w e);
      said_done_lem = λ i w e. behind_still i w (st.records w).serial (t.said_done_lem i w e);
      waits = λ b i. on (new b i) (λ j. still_heard b (t.waits b j)) (λ z. z);
    }
