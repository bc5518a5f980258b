-- A step that is not lent a buffer does not look at it: what it tells and leaves is the same whatever stands there.
use mathlib.Core.Path.{◌≡◌, refl, sym, ap, ◌∙◌}
use mathlib.Core.Bool.{Bool, true, false, cond, not}
use mathlib.Core.List.{List}
use Prim.Native.Nat.{ℕ}
use lib.Dec.{eqb, ltb}
use lib.ListN.{length}
use Rattle.mask.specs.Mask.{contains}
use Rattle.coordinator.specs.Step.{Step}
use Rattle.coordinator.specs.System.{tree}
use Rattle.coordinator.specs.Calls.{no_node}
use Rattle.due.specs.Kind.{due_kind}
use Rattle.due.specs.Due.{message_due}
use Rattle.pool.specs.Pool.{waiting}
use Rattle.wire.specs.Encode.{encode}
use Rattle.steps.specs.Station.{Station}
use Rattle.steps.specs.Step.{Call, Outcome, refused_with, taken, putting, hosted, send_number, send_of, drop_of, switch_of, step}
use Rattle.buffers.specs.Buffers.{on_of, record_in, station_of, told, records_after, ends, host_first, all}
use Rattle.station_calls.specs.Calls.{host_told, host_records, switching, switch_told, switch_own}
use Rattle.station.specs.Messages.{sending, send_first, send_told, pool_after, send_pool, dropping, drop_told, drop_pool}

module _ (I R P O : List ℕ) where
  -- ---- a host call
  -- a call that is settled at node n
  module _ (n : ℕ) (c : Call) (s : Step) (e : step (station_of (ends R O)) c ≡ hosted (station_of (ends R O)) n s)
      (a : step (station_of (all I R P O)) c ≡ hosted (station_of (all I R P O)) n s) where
    told_same : (f : ℕ) → told f (hosted (station_of (ends R O)) n s) ≡ told f (hosted (station_of (all I R P O)) n s)
    unfolding told hosted
    told_same f = by (contains (on_of O) n) (eqb s.number 0) refl refl
      where
        by : (a b : Bool) → contains (on_of O) n ≡ a → eqb s.number 0 ≡ b
            → told f (hosted (station_of (ends R O)) n s) ≡ told f (hosted (station_of (all I R P O)) n s)
        by true true p q = simp (p, q)
        by true false p q = simp (p, q)
        by false b p q = simp p

    records_same : (f : ℕ) → records_after f (hosted (station_of (ends R O)) n s) n R ≡ records_after f (hosted (station_of (all I R P O)) n s) n R
    unfolding records_after hosted
    records_same f = by (contains (on_of O) n) (eqb s.number 0) refl refl
      where
        by : (a b : Bool) → contains (on_of O) n ≡ a → eqb s.number 0 ≡ b
            → records_after f (hosted (station_of (ends R O)) n s) n R ≡ records_after f (hosted (station_of (all I R P O)) n s) n R
        by true true p q = simp (p, q)
        by true false p q = simp (p, q)
        by false b p q = simp p

    pub host_told_lem : host_told (ends R O) n c ≡ host_told (all I R P O) n c
    unfolding host_first
    host_told_lem = ap (told (host_first (ends R O) n)) e ∙ told_same (host_first (ends R O) n) ∙ ap (told (host_first (all I R P O) n)) (sym a)

    pub host_records_lem : host_records (ends R O) n c ≡ host_records (all I R P O) n c
    unfolding host_first
    host_records_lem = ap (λ (o : Outcome). records_after (host_first (ends R O) n) o n R) e ∙ records_same (host_first (ends R O) n)
        ∙ ap (λ (o : Outcome). records_after (host_first (all I R P O) n) o n R) (sym a)

  -- ---- a send
  module _ (n to t : ℕ) where
    abbrev kind : ℕ
    kind = due_kind tree (record_in R n) to t

    abbrev number : ℕ
    number = send_number (station_of (all I R P O)) n to t (message_due (record_in R n) n to t kind) (not (eqb kind 0))

    -- by whether the send is refused and whether a message is due
    sent_by : (st : Station) (m : List ℕ) (a b : Bool) → Outcome
    sent_by st m a b = cond a (cond (not b) (putting m st) (taken 0 st)) (refused_with number st)

    told_by_lem : (f : ℕ) (m : List ℕ) (a b : Bool) → told f (sent_by (station_of (sending R P O)) m a b) ≡ told f (sent_by (station_of (all I R P O)) m a b)
    unfolding told sent_by
    told_by_lem f m true true = refl
    told_by_lem f m true false = refl
    told_by_lem f m false b = refl

    pool_by : (f : ℕ) (m : List ℕ) (a b : Bool)
        → pool_after f (sent_by (station_of (sending R P O)) m a b) P ≡ pool_after f (sent_by (station_of (all I R P O)) m a b) P
    unfolding pool_after sent_by
    pool_by f m true true = refl
    pool_by f m true false = refl
    pool_by f m false b = refl

    pub send_same : (send_told (sending R P O) n to t ≡ send_told (all I R P O) n to t) × (send_pool (sending R P O) n to t ≡ send_pool (all I R P O) n to t)
    unfolding send_first host_first step send_of send_number sent_by
    send_same = (
      told_by_lem (send_first (all I R P O) n) (encode (message_due (record_in R n) n to t kind)) (eqb number 0) (eqb kind 0),
      pool_by (send_first (all I R P O) n) (encode (message_due (record_in R n) n to t kind)) (eqb number 0) (eqb kind 0),
    )

  -- ---- a drop and a switch
  pub drop_same : (k : ℕ) → (drop_told (dropping P) k ≡ drop_told (all I R P O) k) × (drop_pool (dropping P) k ≡ drop_pool (all I R P O) k)
  unfolding told drop_pool step drop_of
  drop_same k = by (ltb k (length (waiting P))) refl
    where
      by : (a : Bool) → ltb k (length (waiting P)) ≡ a
          → (drop_told (dropping P) k ≡ drop_told (all I R P O) k) × (drop_pool (dropping P) k ≡ drop_pool (all I R P O) k)
      by true p = (simp p, simp p)
      by false p = (simp p, simp p)

  pub switch_same : (n : ℕ) (up : Bool)
      → (switch_told (switching O) n up ≡ switch_told (all I R P O) n up) × (switch_own (switching O) n up ≡ switch_own (all I R P O) n up)
  unfolding told switch_own step switch_of
  switch_same n up = by (no_node n) refl
    where
      by : (a : Bool) → no_node n ≡ a
          → (switch_told (switching O) n up ≡ switch_told (all I R P O) n up) × (switch_own (switching O) n up ≡ switch_own (all I R P O) n up)
      by true p = (simp p, simp p)
      by false p = (simp p, simp p)
