-- A whole delivery over the buffers, by its cases: the buffers refuse it, no such message waits, the node is off, its replica or its coordinator
-- takes the message, or its record is damaged.
use mathlib.Core.Path.{◌≡◌, refl, sym, ap, ap₂, subst, ◌∙◌}
use mathlib.Core.Bool.{Bool, true, false, cond, not, ◌&&◌, ◌||◌}
use mathlib.Core.List.{List, []}
use Prim.Native.Nat.{ℕ, ◌<◌, ◌≤◌}
use native.Mathlib.Omega.{arith}
use lib.Dec.{eqb, ltb}
use lib.ListN.{length, get_or}
use borrow.Author.Tests.{eq-eqb, ne_eqb, eqb-true, eqb-false, lt-ltb, le-ltb, ltb-true, ltb-false}
use Rattle.numbers.specs.Sizes.{nodes}
use Rattle.numbers.specs.Refusal.{lower}
use Rattle.mask.specs.Mask.{contains}
use Rattle.wire.specs.Formed.{counts_ok, names_ok, well_formed}
use Rattle.wire.specs.Encode.{size_of}
use Rattle.wire.specs.Decode.{kind_of, to_of, decode, accepted, check_of}
use Rattle.wire.proofs.Theorems.{accepted_of_check}
use Rattle.replica.proofs.Spoken.{left_true, right_true}
use Rattle.replica.proofs.Delivered.{past, or_neither}
use Rattle.arrivals.specs.Receive.{for_replica}
use Rattle.pool.specs.Pool.{count, waiting, message_at, check}
use Rattle.pool.proofs.Laws.{length_waiting, get_d_waiting}
use Rattle.buffers.specs.declared.Answer.{Answer}
use Rattle.steps.specs.Station.{Station, put_at}
use Rattle.steps.specs.Step.{delivery, Outcome, refused_with, at_replica, at_coordinator, arriving, delivery_of, step}
use Rattle.buffers.specs.Buffers.{Buffers, wrong, own_number, on_of, record_damaged, record_first, station_of}
use Rattle.buffers.specs.Buffers.{answer_with, told, records_after, all, with_image_at, images_size, records_size}
use Rattle.station.specs.Messages.{lengths_number, buffers_number, message_in, reaches, delivery_first, delivery_told, images_after, delivery_images}
use Rattle.station.specs.Messages.{delivery_records, leaving, exchanged, put_into, delivery_pool}
use Rattle.buffers.proofs.First.{long}
use Rattle.numbers.proofs.Laws.{lower_none}
use Rattle.station.proofs.Delivering.{image_in_lem, image_same, Leaves, images_first}

-- ---- what the numbers of the buffers and of the message tell
pub buffers_are : (I R P O : List ℕ) → buffers_number (all I R P O) ≡ lower (lengths_number (length I) (length R)) (lower (check P) (own_number O))
unfolding buffers_number
buffers_are I R P O = refl

pub record Sized (I R P O : List ℕ) : Type 0 where
  pub images : length I ≡ images_size
  pub records : length R ≡ records_size
  pub pool : check P ≡ 0
  pub own : own_number O ≡ 0

pub sized : (I R P O : List ℕ) → buffers_number (all I R P O) ≡ 0 → Sized I R P O
unfolding lengths_number
sized I R P O z =
    let a = lower_none _ _ (sym (buffers_are I R P O) ∙ z) in
    let b = lower_none (check P) (own_number O) a.1 in
    let l = or_neither (wrong I images_size) (wrong R records_size) (past (wrong I images_size || wrong R records_size) 0 0 a.0).0 in
    record { images = long I images_size l.0; records = long R records_size l.1; pool = b.0; own = b.1 }

pub record Waits (P : List ℕ) (k : ℕ) : Type 0 where
  pub message : k < count P
  pub well : check_of (message_at P k) ≡ 0

pub waits_of : (P : List ℕ) (k : ℕ) → cond (ltb k (count P)) (check_of (message_at P k)) 5 ≡ 0 → Waits P k
waits_of P k = by (ltb k (count P)) refl
  where
    by : (t : Bool) → ltb k (count P) ≡ t → cond t (check_of (message_at P k)) 5 ≡ 0 → Waits P k
    by true t e = record { message = ltb-true k (count P) t; well = e }
    by false t e = absurd (let z : ⊥ = omega arith in z)

-- a message that is one names a node
pub receiver_node : (b : List ℕ) → check_of b ≡ 0 → to_of b < nodes
unfolding well_formed accepted decode
receiver_node b e =
    let m = decode b in
    let w = right_true (eqb (length b) (size_of m)) (well_formed m) (accepted_of_check b e) in
    let n = left_true (names_ok m) _ (right_true (counts_ok m.kind _ _ _ _) _ w) in
    ltb-true (to_of b) nodes (left_true (ltb m.to nodes) _ (right_true (ltb m.from nodes) _ n))

module _ (I R P O : List ℕ) (k : ℕ) (kept : Bool) where
  abbrev B : Buffers
  B = all I R P O

  abbrev st : Station
  st = station_of B

  abbrev m : List ℕ
  m = message_at P k

  -- what is told and left
  abbrev pub Left : Answer → List ℕ → List ℕ → List ℕ → Type 0
  Left a i r p = (a ≡ delivery_told B k kept) × ((i ≡ delivery_images B k kept) × ((r ≡ delivery_records B k kept) × (p ≡ delivery_pool B k kept)))

  -- by the buffers' number, whether a coordinator is reached, the node, and the outcome
  by_parts : (f : ℕ) (t : Bool) (n : ℕ) (o : Outcome) → delivery_first B k ≡ f → reaches B k ≡ t → to_of (message_in B k) ≡ n
      → step st (delivery k kept) ≡ o → (a : Answer) (i r p : List ℕ) → a ≡ told f o → i ≡ images_after f o n I → r ≡ cond t (records_after f o n R) R
      → p ≡ exchanged f o k kept P → Left a i r p
  unfolding delivery_records
  by_parts f t n o ef et en eo a i r p ha hi hr hp = (
    ha ∙ (λ j. told (sym ef j) (sym eo j)),
    (
      hi ∙ (λ j. images_after (sym ef j) (sym eo j) (sym en j) I),
      (hr ∙ (λ j. cond (sym et j) (records_after (sym ef j) (sym eo j) (sym en j) R) R), hp ∙ (λ j. exchanged (sym ef j) (sym eo j) k kept P)),
    ),
  )

  same_either : (t : Bool) → R ≡ cond t R R
  same_either true = refl
  same_either false = refl

  -- ---- the buffers refuse it
  pub bad_buffers : (b : ℕ) → b ≡ buffers_number B → (b ≡ 0 → ⊥) → Left (answer_with b 0) I R P
  unfolding delivery_first told images_after records_after exchanged
  bad_buffers b e h =
      let f = ne_eqb b 0 h in
      by_parts b (reaches B k) (to_of (message_in B k)) (step st (delivery k kept))
      (simp (ne_eqb (buffers_number B) 0 (λ z. h (e ∙ z))) (sym e)) refl refl refl (answer_with b 0) I R P
      (simp f) (simp f) (simp f (same_either (reaches B k))) (simp f)

  module _ (z : buffers_number B ≡ 0) where
    first_is : (t : Bool) → (reaches B k && record_damaged R (to_of (message_in B k))) ≡ t → delivery_first B k ≡ cond t 2 0
    unfolding delivery_first
    first_is t e = simp (eq-eqb (buffers_number B) 0 z) (ap (λ (b : Bool). cond b 2 0) e)

    -- ---- nothing is taken: no such message waits, or what waits is no message
    none_taken : (w : ℕ) → (w ≡ 0 → ⊥) → reaches B k ≡ false → step st (delivery k kept) ≡ refused_with w st → Left (answer_with w 0) I R P
    unfolding told images_after exchanged
    none_taken w h r s =
        let f = ne_eqb w 0 h in
        by_parts 0 false (to_of (message_in B k)) (refused_with w st)
        (first_is false (ap (λ (b : Bool). b && record_damaged R (to_of (message_in B k))) r)) r refl s
        (answer_with w 0) I R P refl (simp f) refl (simp f)

    pub no_message : (w : ℕ) → w ≡ cond (ltb k (count P)) (check_of m) 5 → (w ≡ 0 → ⊥) → Left (answer_with w 0) I R P
    unfolding reaches step delivery_of
    no_message w e h = go (ltb k (count P)) refl
      where
        go : (t : Bool) → ltb k (count P) ≡ t → Left (answer_with w 0) I R P
        go true t =
            let l = ltb-true k (count P) t in
            let n = length_waiting P in
            let q : ltb k (length (waiting P)) ≡ true = ap (ltb k) n ∙ t in
            let g = get_d_waiting P k l in
            let u : w ≡ check_of m = e ∙ simp t in
            let v = ne_eqb (check_of m) 0 (λ y. h (u ∙ y)) in
            none_taken w h (simp (q, g, v)) (simp (q, g, v) (ap (λ (y : ℕ). refused_with y st) (sym u)))
        go false t =
            let q : ltb k (length (waiting P)) ≡ false = ap (ltb k) (length_waiting P) ∙ t in
            let u : w ≡ 5 = e ∙ simp t in
            none_taken w h (simp q) (simp q (ap (λ (y : ℕ). refused_with y st) (sym u)))

    module _ (h : k < count P) (e : check_of m ≡ 0) where
      waits : ltb k (length (waiting P)) ≡ true
      waits = ap (ltb k) (length_waiting P) ∙ lt-ltb k (count P) h

      is_m : message_in B k ≡ m
      is_m = get_d_waiting P k h

      node : to_of m < nodes
      node = receiver_node m e

      arrives : step st (delivery k kept) ≡ arriving st k kept m
      unfolding step delivery_of
      arrives = simp (waits, is_m, eq-eqb (check_of m) 0 e)

      reaches_is : (up r : Bool) → contains (on_of O) (to_of m) ≡ up → for_replica (kind_of m) ≡ r → reaches B k ≡ (up && not r)
      unfolding reaches
      reaches_is up r a b = simp (waits, is_m, eq-eqb (check_of m) 0 e) (ap₂ (λ (x y : Bool). x && not y) a b)

      -- ---- the node is off
      pub off : contains (on_of O) (to_of m) ≡ false → Left (answer_with 0 0) I R (leaving P k kept)
      unfolding arriving told images_after exchanged put_into
      off u =
          let r = reaches_is false (for_replica (kind_of m)) u refl in
          by_parts 0 false (to_of m) (arriving st k kept m) (first_is false (ap (λ (b : Bool). b && record_damaged R (to_of (message_in B k))) r)) r
          (ap to_of is_m) arrives (answer_with 0 0) I R (leaving P k kept) (simp u)
          (simp u (sym (ap (with_image_at I (to_of m)) (image_in_lem I (to_of m) node) ∙ image_same I (to_of m)))) refl (simp u)

      module _ (u : contains (on_of O) (to_of m) ≡ true) where
        -- ---- at a replica
        pub at_replica_lem : for_replica (kind_of m) ≡ true → (y : ℕ) → y ≡ to_of m → (a : Answer) (i p : List ℕ)
            → Leaves I R P O y k kept a i p (at_replica st k kept y m) → Left a i R p
        unfolding arriving
        at_replica_lem v y j a i p t' =
            let t = subst (λ (y : ℕ). Leaves I R P O y k kept a i p (at_replica st k kept y m)) j t' in
            let r = reaches_is true true u v in
            by_parts 0 false (to_of m) (at_replica st k kept (to_of m) m)
            (first_is false (ap (λ (b : Bool). b && record_damaged R (to_of (message_in B k))) r)) r
            (ap to_of is_m) (arrives ∙ simp (u, v)) a i R p t.0 t.1.0 refl t.1.1

        -- ---- at a coordinator
        module _ (v : for_replica (kind_of m) ≡ false) where
          met : (t : Bool) → record_damaged R (to_of m) ≡ t → delivery_first B k ≡ cond t 2 0
          met t d = first_is t (ap (λ (b : Bool). b && record_damaged R (to_of (message_in B k))) (reaches_is true false u v)
              ∙ ap (λ (b : List ℕ). record_damaged R (to_of b)) is_m ∙ d)

          there : step st (delivery k kept) ≡ at_coordinator st k kept (to_of m) m
          unfolding arriving
          there = arrives ∙ simp (u, v)

          pub at_coordinator_lem : (y : ℕ) → y ≡ to_of m → (a : Answer) (r p : List ℕ)
              → a ≡ told (record_first R y) (at_coordinator st k kept y m) → r ≡ records_after (record_first R y) (at_coordinator st k kept y m) y R
              → p ≡ exchanged (record_first R y) (at_coordinator st k kept y m) k kept P → Left a I r p
          at_coordinator_lem y j a r p ha hr hp =
              by_parts (record_first R (to_of m)) true (to_of m) (at_coordinator st k kept (to_of m) m) (met (record_damaged R (to_of m)) refl)
              (reaches_is true false u v) (ap to_of is_m) there a I r p
              (ha ∙ ap (λ (n : ℕ). told (record_first R n) (at_coordinator st k kept n m)) j)
              (images_first I R P O (to_of m) k kept node (record_first R (to_of m)))
              (hr ∙ ap (λ (n : ℕ). records_after (record_first R n) (at_coordinator st k kept n m) n R) j)
              (hp ∙ ap (λ (n : ℕ). exchanged (record_first R n) (at_coordinator st k kept n m) k kept P) j)

          -- the same where the record is not damaged
          pub at_sound : (y : ℕ) → y ≡ to_of m → record_damaged R y ≡ false → (a : Answer) (r p : List ℕ)
              → a ≡ told 0 (at_coordinator st k kept y m) → r ≡ records_after 0 (at_coordinator st k kept y m) y R
              → p ≡ exchanged 0 (at_coordinator st k kept y m) k kept P → Left a I r p
          at_sound y j d a r p ha hr hp =
              let z : 0 ≡ record_first R y = ap (λ (b : Bool). cond b 2 0) (sym d) in
              at_coordinator_lem y j a r p (ha ∙ ap (λ (i : ℕ). told i (at_coordinator st k kept y m)) z)
              (hr ∙ ap (λ (i : ℕ). records_after i (at_coordinator st k kept y m) y R) z)
              (hp ∙ ap (λ (i : ℕ). exchanged i (at_coordinator st k kept y m) k kept P) z)
