-- Buffers that hold a station hold, after any step, the station after the step; and the caller is told the step's own number and answer.
use mathlib.Core.Path.{◌≡◌, refl, sym, ap, subst, ◌∙◌}
use mathlib.Core.Bool.{Bool, true, false, cond, not, ◌&&◌}
use mathlib.Core.Logic.{inl, inr}
use mathlib.Core.List.{List, ◌++◌, ◌∷◌, []}
use Prim.Native.Nat.{ℕ, ◌<◌, ◌≤◌, ◌^◌}
use native.Mathlib.Omega.{arith}
use lib.Dec.{T, eqb, ltb}
use lib.ListN.{length}
use lib.Pow.{pow_mono}
use borrow.Author.Tests.{eq-eqb, ne_eqb, eqb-true, eqb-false, lt-ltb, le-ltb, ltb-true, not-false}
use Rattle.image.specs.Layout.{image_size, shape}
use Rattle.numbers.specs.Sizes.{nodes, every_node, longest_message, most_waiting}
use Rattle.mask.specs.Mask.{contains, only, joined, minus}
use Rattle.mask.proofs.Laws.{only_small, contains_minus, contains_within}
use Rattle.mask.proofs.Tests.{and_left}
use Rattle.octets.specs.Octets.{put}
use Rattle.octets.proofs.Laws.{get_put, length_put}
use Rattle.numbers.specs.Refusal.{first_of, lower}
use Rattle.wire.specs.Message.{Message}
use Rattle.wire.specs.Formed.{well_formed}
use Rattle.wire.specs.Encode.{encode}
use Rattle.wire.specs.Decode.{kind_of, to_of, check_of}
use Rattle.wire.proofs.Theorems.{length_bounds}
use Rattle.replica.specs.Steps.{Answer, silent, says}
use Rattle.replica.specs.Receive.{Delivered, deliver, spoken}
use Rattle.replica.proofs.Spoken.{and-false}
use Rattle.replica.proofs.Delivered.{past, Fine}
use Rattle.coordinator.specs.Step.{Step}
use Rattle.coordinator.specs.System.{tree}
use Rattle.coordinator.specs.Calls.{no_node, begin_of, open_of, set_of, found_of, reselect_of, request_commit_of, abort_of}
use Rattle.due.specs.Kind.{due_kind, due_refusals}
use Rattle.arrivals.specs.Receive.{for_replica, receive_of}
use Rattle.due.specs.Due.{message_due}
use Rattle.clauses.proofs.Facts.{Meets}
use Rattle.clauses.proofs.Fits.{Fits}
use Rattle.clauses.proofs.Sets.{joined_known, within_known}
use Rattle.record.specs.Record.{bytes_of}
use Rattle.pool.specs.Pool.{count, waiting, message_at}
use Rattle.pool.specs.Pool.{check as checkPool}
use Rattle.pool.specs.Change.{added, removed}
use Rattle.pool.proofs.Numbers.{passed_number, Room, fine, add_after_lem}
use Rattle.pool.proofs.Laws.{length_waiting, get_d_waiting, waiting_added, check_added, waiting_removed, check_removed}
use Rattle.steps.specs.Station.{Station, system, put_at, with_image, with_record, now_on, sent, without}
use Rattle.steps.specs.Step.{Call, begin, open_read, open_write, set_value, found, reselect, request_commit, abort, send, delivery, drop, switch, Outcome}
use Rattle.steps.specs.Step.{refused_with, taken, putting, when_off, hosted, full, send_number, send_of, taken_out, answered, at_coordinator, arriving}
use Rattle.steps.specs.Step.{delivery_of, drop_of, switch_of, step}
use Rattle.buffers.specs.Buffers.{Buffers, image_at, image_in, with_image_at, record_in, with_record_at}
use Rattle.buffers.specs.Buffers.{record_damaged, on_of, own_of, own_number, own_size}
use Rattle.buffers.specs.Buffers.{station_of, answer_with, told, records_after, host_first, all, Whole}
use Rattle.station_calls.specs.Calls.{host_told, switch_own}
use Rattle.station.specs.Messages.{put_into, send_first, pool_after, drop_pool, message_in, reaches, buffers_number}
use Rattle.station.specs.Messages.{delivery_first, delivery_images, delivery_records, leaving, delivery_pool, answered_by}
use Rattle.steps.proofs.Nodes.{node_on, off_number_lem}
use Rattle.station.proofs.Waiting.{there_of, check_leaving}
use Rattle.station.proofs.Delivering.{none_said, all_said, not_said, Brought, brought, by, at_is, refused_all, blocked_all, has_room, taken_all, said, Leaves}
use Rattle.station.proofs.Delivering.{stopped_all, heard_all}
use Rattle.station.proofs.Arriving.{Waits, waits_of, receiver_node, Left, no_message, off, at_replica_lem, at_sound}
use Rattle.holding.specs.Left.{told_of, host_left, left_of}
use Rattle.holding.proofs.Kept.{Kept, same_kept, own_is, none_damaged, host_first_lem, buffers_first, image_kept, record_kept, pool_kept, own_kept}

-- what is known of a station that steps reached: its records are records, and its images have their length
pub record Proper (st : Station) : Type 0 where
  pub fits : (n : ℕ) → Fits (st.records n)
  pub meets : (n : ℕ) → Meets (system st) (st.records n)
  pub sized : (n : ℕ) → length (st.images n) ≡ image_size shape

told_zero : (f : ℕ) (o : Outcome) → f ≡ 0 → told f o ≡ answer_with o.number o.answer
unfolding told
told_zero f o e = simp (eq-eqb f 0 e)

-- a test that is the same as another's
same : (n : ℕ) → eqb n n ≡ true
same n = eq-eqb n n refl

-- what is left of a pool is read as what is left of the messages
left_waits : (P : List ℕ) (k : ℕ) (kept : Bool) → checkPool P ≡ 0 → k < count P → waiting (leaving P k kept) ≡ cond kept (waiting P) (without k (waiting P))
left_waits P k true e h = refl
left_waits P k false e h = waiting_removed P k (there_of P k e h)

mask_fine : (l : List ℕ) → length l ≡ own_size → on_of l ≤ every_node → own_number l ≡ 0
unfolding own_number
mask_fine l e h = simp (eq-eqb (length l) own_size e, le-ltb every_node (on_of l) h)

module _ (I R P O : List ℕ) (w : Whole (all I R P O)) where
  abbrev B : Buffers
  B = all I R P O

  abbrev st : Station
  st = station_of B

  -- ---- a host call
  module _ (n : ℕ) (s : Step) where
    abbrev o : Outcome
    o = hosted st n s

    hosted_kept : Proper o.station → Kept (all I (records_after 0 o n R) P O) o.station
    unfolding records_after hosted put_at
    hosted_kept z = go (contains (on_of O) n) (eqb s.number 0) refl refl
      where
        go : (a b : Bool) → contains (on_of O) n ≡ a → eqb s.number 0 ≡ b → Kept (all I (records_after 0 o n R) P O) o.station
        go true true p q =
            let e : o ≡ taken s.answer (with_record st n s.coordinator) = simp (p, q) in
            let y = subst (λ (x : Outcome). Proper x.station) e z in
            let c = s.coordinator in
            let i : put_at (record_in R) n c n ≡ c = simp (same n) in
            let k = record_kept I R P O w n c (node_on (on_of O) n (own_is I R P O w).mask p) (subst (Meets tree) i (y.meets n))
            (subst Fits i (y.fits n)) in
            simp (p, q, same n) k
        go true false p q = simp (p, q) (same_kept I R P O w)
        go false b p q = simp (p, ne_eqb (when_off s.number) 0 (off_number_lem s.number)) (same_kept I R P O w)

  abbrev Goes : Call → Type 0
  Goes c = Kept (left_of B c) (step st c).station × (told_of B c ≡ answer_with (step st c).number (step st c).answer)

  host_goes : (n : ℕ) (c : Call) (s : Step) → step st c ≡ hosted st n s → left_of B c ≡ host_left B n c → told_of B c ≡ host_told B n c
      → Proper (step st c).station → Goes c
  host_goes n c s e l t z =
      let f = host_first_lem I R P O w n in
      let k = hosted_kept n s (subst (λ (x : Outcome). Proper x.station) e z) in (
        subst (λ (b : Buffers). Kept b (step st c).station)
            (sym (l ∙ (λ j. all I (records_after (f j) (e j) n R) P O)))
            (subst (λ (x : Outcome). Kept (all I (records_after 0 (hosted st n s) n R) P O) x.station) (sym e) k),
        t ∙ told_zero (host_first B n) (step st c) f,
      )

  -- ---- a drop
  drop_goes : (k : ℕ) → Goes (drop k)
  unfolding left_of told_of step drop_of drop_pool
  drop_goes k = (go (ltb k (length (waiting P))) refl, told_zero (checkPool P) (step st (drop k)) w.pool_fine)
    where
      go : (t : Bool) → ltb k (length (waiting P)) ≡ t → Kept (all I R (drop_pool B k) O) (drop_of st k).station
      go true t =
          let n = length_waiting P in
          let h : k < count P = let l = ltb-true k (length (waiting P)) t in omega arith in
          let r = there_of P k w.pool_fine h in
          simp (t, w.pool_fine) (pool_kept I R P O w (removed P k) (without k (waiting P)) (check_removed P k r) (waiting_removed P k r))
      go false t = simp (t, w.pool_fine) (same_kept I R P O w)

  -- ---- a switch
  turned : ℕ → Bool → ℕ
  turned n up = cond up (joined (on_of O) (only n)) (minus (on_of O) (only n))

  turned_known : (n : ℕ) (up : Bool) → n < nodes → turned n up ≤ every_node
  unfolding turned
  turned_known n true h =
      let e = only_small n (omega arith) in
      let p : 2 ^ n ≤ 2 ^ 12 = pow_mono {i = n} {j = 12} (omega arith) in
      joined_known (on_of O) (only n) (own_is I R P O w).mask (omega arith)
  turned_known n false h = within_known (minus (on_of O) (only n)) (on_of O)
      (contains_within (minus (on_of O) (only n)) (on_of O)
      (λ i t. and_left (contains (on_of O) i) (not (contains (only n) i)) (subst T (contains_minus (on_of O) (only n) i) t)))
      (own_is I R P O w).mask

  switch_goes : (n : ℕ) (up : Bool) → Goes (switch n up)
  unfolding left_of told_of step switch_of switch_own turned
  switch_goes n up = (go (no_node n) refl, told_zero (own_number O) (step st (switch n up)) w.own_fine)
    where
      m : ℕ
      m = turned n up

      go : (t : Bool) → no_node n ≡ t → Kept (all I R P (switch_own B n up)) (switch_of st n up).station
      go true t = simp (t, w.own_fine) (same_kept I R P O w)
      go false t =
          let l : n < nodes = ltb-true n nodes (not-false (ltb n nodes) t) in
          let h = turned_known n up l in
          let z = (own_is I R P O w).size in
          let g = get_put 2 O 0 (turned n up) (omega arith) (omega arith) in
          simp (t, w.own_fine) (own_kept I R P O w (put 2 O 0 (turned n up)) (now_on (own_of O) (turned n up))
          (mask_fine (put 2 O 0 (turned n up)) (length_put 2 O 0 (turned n up) ∙ z)
          (subst (λ (k : ℕ). k ≤ every_node) (sym g) h)) (ap (now_on (own_of O)) g))

  -- ---- a send
  send_first_lem : (n : ℕ) → send_first B n ≡ 0
  unfolding send_first lower
  send_first_lem n = simp (host_first_lem I R P O w n, w.pool_fine)

  module _ (n to t : ℕ) where
    abbrev kind : ℕ
    kind = due_kind tree (record_in R n) to t

    abbrev message : Message
    message = message_due (record_in R n) n to t kind

    abbrev number : ℕ
    number = send_number st n to t message (not (eqb kind 0))

    -- a message that goes is well formed, and there is room for it
    may_go : number ≡ 0 → eqb kind 0 ≡ false → (well_formed message ≡ true) × (count P < most_waiting)
    unfolding send_number
    may_go e d = go (contains (on_of O) n) refl
      where
        rest : ℕ
        rest = cond (not (eqb kind 0) && not (well_formed message)) 3 (cond (full st) 12 0)

        formed : (f : Bool) → (not (eqb kind 0) && not f) ≡ false → f ≡ true
        formed true q = refl
        formed false q = sym (sym (ap (λ (b : Bool). not b && true) d) ∙ q)

        go : (a : Bool) → contains (on_of O) n ≡ a → (well_formed message ≡ true) × (count P < most_waiting)
        go true p =
            let a = passed_number (first_of (due_refusals (record_in R n) n to t)) rest (sym (simp p) ∙ e) in
            let b = past (not (eqb kind 0) && not (well_formed message)) 2 _ a.1 in
            let f = past (full st) 11 0 b.1 in
            let l = ltb-true (length (waiting P)) most_waiting (not-false (ltb (length (waiting P)) most_waiting) f.0) in
            let c = length_waiting P in
            (formed (well_formed message) b.0, omega arith)
        go false p = absurd (off_number_lem (first_of (due_refusals (record_in R n) n to t)) (sym (simp p) ∙ e))

    -- by whether the send is refused and whether a message is due
    out : Bool → Bool → Outcome
    out a b = cond a (cond (not b) (putting (encode message) st) (taken 0 st)) (refused_with number st)

    send_kept : (a b : Bool) → eqb number 0 ≡ a → eqb kind 0 ≡ b → Kept (all I R (pool_after 0 (out a b) P) O) (out a b).station
    unfolding pool_after put_into out
    send_kept true true p q = same_kept I R P O w
    send_kept true false p q =
        let m = may_go (eqb-true number 0 p) q in
        let r : Room P (length (encode message)) = record { pool = fine P w.pool_fine; size = (length_bounds message m.0).1; slot = m.1 } in
        pool_kept I R P O w (added P (encode message)) (waiting P ++ (encode message ∷ [])) (check_added P (encode message) r)
        (waiting_added P (encode message) r)
    send_kept false b p q = simp p (same_kept I R P O w)

    send_goes : Goes (send n to t)
    unfolding left_of told_of step send_of out
    send_goes = (
      subst (λ (f : ℕ). Kept (all I R (pool_after f (send_of st n to t) P) O) (send_of st n to t).station) (sym (send_first_lem n))
          (send_kept (eqb number 0) (eqb kind 0) refl refl),
      told_zero (send_first B n) (step st (send n to t)) (send_first_lem n),
    )

  -- ---- a delivery
  module _ (k : ℕ) (kept : Bool) where
    abbrev m : List ℕ
    m = message_at P k

    abbrev made : Outcome
    made = step st (delivery k kept)

    -- the buffers that a delivery leaves, where they are known
    from_left : (a : Rattle.buffers.specs.declared.Answer.Answer) (i r p : List ℕ) (s : Station) → Left I R P O k kept a i r p → Kept (all i r p O) s
        → Kept (all (delivery_images B k kept) (delivery_records B k kept) (delivery_pool B k kept) O) s
    from_left a i r p s l t = subst (λ (b : Buffers). Kept b s) (λ j. all (l.1.0 j) (l.1.1.0 j) (l.1.1.1 j) O) t

    delivered : Type 0
    delivered = Kept (all (delivery_images B k kept) (delivery_records B k kept) (delivery_pool B k kept) O) made.station

    -- a step that is refused leaves the station
    refused_kept : (a : Rattle.buffers.specs.declared.Answer.Answer) (n : ℕ) → Left I R P O k kept a I R P → made ≡ refused_with n st → delivered
    unfolding delivered
    refused_kept a n l e = from_left a I R P made.station l
        (subst (λ (x : Outcome). Kept B x.station) (sym e) (same_kept I R P O w))

    z0 : buffers_number B ≡ 0
    z0 = buffers_first I R P O w

    none_kept : (x : ℕ) → x ≡ cond (ltb k (count P)) (check_of m) 5 → (x ≡ 0 → ⊥) → delivered
    unfolding step delivery_of
    none_kept x e h = refused_kept (answer_with x 0) x (no_message I R P O k kept z0 x e h) (go (ltb k (count P)) refl)
      where
        go : (t : Bool) → ltb k (count P) ≡ t → made ≡ refused_with x st
        go true t =
            let q : ltb k (length (waiting P)) ≡ true = ap (ltb k) (length_waiting P) ∙ t in
            let g = get_d_waiting P k (ltb-true k (count P) t) in
            let u : x ≡ check_of m = e ∙ simp t in
            simp (q, g, ne_eqb (check_of m) 0 (λ y. h (u ∙ y))) (ap (λ (y : ℕ). refused_with y st) (sym u))
        go false t =
            let q : ltb k (length (waiting P)) ≡ false = ap (ltb k) (length_waiting P) ∙ t in
            simp q (ap (λ (y : ℕ). refused_with y st) (sym (e ∙ simp t)))

    module _ (h : k < count P) (e : check_of m ≡ 0) where
      abbrev n : ℕ
      n = to_of m

      small : n < nodes
      small = receiver_node m e

      arrives : made ≡ arriving st k kept m
      unfolding step delivery_of
      arrives = simp (ap (ltb k) (length_waiting P) ∙ lt-ltb k (count P) h, get_d_waiting P k h, eq-eqb (check_of m) 0 e)

      -- what is left of the pool, alone
      left_kept : Kept (all I R (leaving P k kept) O) (taken_out st k kept)
      left_kept = pool_kept I R P O w (leaving P k kept) _ (check_leaving P k kept w.pool_fine h) (left_waits P k kept w.pool_fine h)

      off_kept : contains (on_of O) n ≡ false → delivered
      unfolding delivered arriving
      off_kept u =
          let q : made ≡ taken 0 (taken_out st k kept) = arrives ∙ simp u in
          from_left (answer_with 0 0) I R (leaving P k kept) made.station (off I R P O k kept z0 h e u)
          (subst (λ (x : Outcome). Kept (all I R (leaving P k kept) O) x.station) (sym q) left_kept)

      module _ (u : contains (on_of O) n ≡ true) where
        -- ---- at a replica
        module _ (v : for_replica (kind_of m) ≡ true) where
          abbrev d : Delivered
          d = deliver longest_message (image_at I n) n m

          is_by : made ≡ by I R P O n k kept d
          unfolding arriving
          is_by = arrives ∙ simp (u, v) (at_is I R P O n k kept small)

          -- what the replica leaves of the buffers, told of the whole delivery
          as_left : (a : Rattle.buffers.specs.declared.Answer.Answer) (i p : List ℕ) → Leaves I R P O n k kept a i p (by I R P O n k kept d)
              → Left I R P O k kept a i R p
          as_left a i p t = at_replica_lem I R P O k kept z0 h e u v n refl a i p
              (subst (Leaves I R P O n k kept a i p) (sym (at_is I R P O n k kept small)) t)

          stopped_kept : (d.number ≡ 0 → ⊥) → delivered
          unfolding by
          stopped_kept y = refused_kept (answer_with d.number 0) d.number (as_left (answer_with d.number 0) I P (refused_all I R P O n k kept d y))
              (is_by ∙ simp (ne_eqb d.number 0 y))

          crowded : Bool
          crowded = kept && not (ltb (count P) most_waiting)

          -- as the station tests it
          crowded_is : (kept && full st) ≡ crowded
          unfolding crowded
          crowded_is = ap (λ (j : ℕ). kept && not (ltb j most_waiting)) (length_waiting P)

          blocked_kept : d.number ≡ 0 → (crowded && spoken d.answer) ≡ true → delivered
          unfolding by answered crowded spoken
          blocked_kept y t = refused_kept (answer_with 12 0) 12 (as_left (answer_with 12 0) I P (blocked_all I R P O n k kept d y t))
              (is_by ∙ go d.answer refl)
            where
              go : (a : Answer) → d.answer ≡ a → by I R P O n k kept d ≡ refused_with 12 st
              go silent q = absurd (none_said crowded (sym (ap (λ (a : Answer). crowded && spoken a) q) ∙ t))
              go (says x) q = simp (eq-eqb d.number 0 y, q, crowded_is, all_said crowded (sym (ap (λ (a : Answer). crowded && spoken a) q) ∙ t))

          -- taken: the image, then the pool with the answer at its end
          taken_kept : Proper made.station → d.number ≡ 0 → Fine d.answer → (crowded && spoken d.answer) ≡ false → delivered
          unfolding delivered by answered crowded spoken said put_at
          taken_kept z y f t =
              from_left (answer_with 0 0) (with_image_at I n d.image) R _ made.station
              (as_left (answer_with 0 0) (with_image_at I n d.image) _ (taken_all I R P O n k kept w.pool_fine h d y f t))
              (go d.answer refl)
            where
              q : eqb d.number 0 ≡ true
              q = eq-eqb d.number 0 y

              image_long : length (put_at (image_in I) n d.image n) ≡ image_size shape → length d.image ≡ image_size shape
              image_long l = subst (λ (b : Bool). length (cond b d.image (image_in I n)) ≡ image_size shape) (same n) l

              silent_is : d.answer ≡ silent → by I R P O n k kept d ≡ taken 0 (with_image (taken_out st k kept) n d.image)
              silent_is a = simp (q, a)

              go : (a : Answer) → d.answer ≡ a
                  → Kept (all (with_image_at I n d.image) R (answered_by (leaving P k kept) (said d.answer)) O) made.station
              go silent a =
                  let s = is_by ∙ silent_is a in
                  let l = subst (λ (x : Outcome). length (x.station.images n) ≡ image_size shape) s (z.sized n) in
                  let i = image_kept I R (leaving P k kept) O left_kept.0 n d.image small (image_long l) in
                  subst (λ (x : Outcome). Kept (all (with_image_at I n d.image) R (answered_by (leaving P k kept) (said d.answer)) O) x.station)
                  (sym s)
                  (simp a (i.0, i.1 ∙ ap (λ (x : Station). with_image x n d.image) left_kept.1))
              go (says x) a =
                  let c = not_said crowded (sym (ap (λ (y : Answer). crowded && spoken y) a) ∙ t) in
                  let g = length_bounds x (subst Fine a f) in
                  let g0 = g.0 in
                  let r = has_room I R P O n k kept w.pool_fine h c (length (encode x)) g.1 in
                  let b : by I R P O n k kept d ≡ putting (encode x) (with_image (taken_out st k kept) n d.image) = simp (q, a, crowded_is, c) in
                  let s = is_by ∙ b in
                  let l = subst (λ (y : Outcome). length (y.station.images n) ≡ image_size shape) s (z.sized n) in
                  let p = pool_kept I R (leaving P k kept) O left_kept.0 (added (leaving P k kept) (encode x)) _
                  (check_added (leaving P k kept) (encode x) r)
                  (waiting_added (leaving P k kept) (encode x) r
                  ∙ ap (λ (m : List (List ℕ)). m ++ (encode x ∷ [])) (left_waits P k kept w.pool_fine h)) in
                  let i = image_kept I R (added (leaving P k kept) (encode x)) O p.0 n d.image small (image_long l) in
                  let v : answered_by (leaving P k kept) (said d.answer) ≡ added (leaving P k kept) (encode x) = ap (answered_by (leaving P k kept))
                  (ap said a)
                  ∙ simp (lt-ltb 0 (length (encode x)) (omega arith)) (add_after_lem (leaving P k kept) (encode x) r) in
                  subst (λ (y : Outcome). Kept (all (with_image_at I n d.image) R (answered_by (leaving P k kept) (said d.answer)) O) y.station)
                  (sym s)
                  (subst (λ (m : List ℕ). Kept (all (with_image_at I n d.image) R m O) (sent (with_image (taken_out st k kept) n d.image) (encode x)))
                  (sym v)
                  (i.0, i.1 ∙ ap (λ (y : Station). with_image y n d.image) p.1))

          replica_kept : Proper made.station → delivered
          unfolding Brought
          replica_kept z = go (brought (image_at I n) n m)
            where
              either : d.number ≡ 0 → Fine d.answer → (t : Bool) → (crowded && spoken d.answer) ≡ t → delivered
              either y f true t = blocked_kept y t
              either y f false t = taken_kept z y f t

              go : Brought (image_at I n) d → delivered
              go (inl y) = stopped_kept y.0
              go (inr y) = either y.0 y.1 (crowded && spoken d.answer) refl

        -- ---- at a coordinator
        module _ (v : for_replica (kind_of m) ≡ false) where
          abbrev s : Step
          s = receive_of tree (record_in R n) n m

          is_there : made ≡ at_coordinator st k kept n m
          unfolding arriving
          is_there = arrives ∙ simp (u, v)

          coordinator_kept : Proper made.station → delivered
          unfolding delivered at_coordinator put_at
          coordinator_kept z = go (eqb s.number 0) refl
            where
              damaged : record_damaged R n ≡ false
              damaged = none_damaged I R P O w n

              go : (t : Bool) → eqb s.number 0 ≡ t → delivered
              go true t =
                  let x = heard_all I R P O n k kept s refl (eqb-true s.number 0 t) in
                  let c = s.coordinator in
                  let b : made ≡ taken s.answer (with_record (taken_out st k kept) n c) = is_there ∙ simp t in
                  let y = subst (λ (x : Outcome). Proper x.station) b z in
                  let i : put_at (record_in R) n c n ≡ c = simp (same n) in
                  let r = record_kept I R (leaving P k kept) O left_kept.0 n c small (subst (Meets tree) i (y.meets n)) (subst Fits i (y.fits n)) in
                  from_left _ I _ (leaving P k kept) made.station
                  (at_sound I R P O k kept z0 h e u v n refl damaged _ _ _ x.0 x.1.0 x.1.1)
                  (subst (λ (x : Outcome). Kept (all I (with_record_at R n (bytes_of c)) (leaving P k kept) O) x.station) (sym b)
                  (r.0, r.1 ∙ ap (λ (x : Station). with_record x n c) left_kept.1))
              go false t =
                  let x = stopped_all I R P O n k kept s refl (eqb-false s.number 0 t) in
                  refused_kept _ s.number (at_sound I R P O k kept z0 h e u v n refl damaged _ _ _ x.0 x.1.0 x.1.1) (is_there ∙ simp t)

    -- ---- whatever waits, and wherever it goes
    delivery_kept : Proper made.station → delivered
    delivery_kept z = go (eqb number 0) refl
      where
        number : ℕ
        number = cond (ltb k (count P)) (check_of m) 5

        at_node : Waits P k → (up r : Bool) → contains (on_of O) (to_of m) ≡ up → for_replica (kind_of m) ≡ r → delivered
        at_node x false r p q = off_kept x.message x.well p
        at_node x true true p q = replica_kept x.message x.well p q z
        at_node x true false p q = coordinator_kept x.message x.well p q z

        go : (t : Bool) → eqb number 0 ≡ t → delivered
        go true t = at_node (waits_of P k (eqb-true number 0 t)) (contains (on_of O) (to_of m)) (for_replica (kind_of m)) refl refl
        go false t = none_kept number refl (eqb-false number 0 t)

    first_none : delivery_first B k ≡ 0
    unfolding delivery_first
    first_none = simp (z0, none_damaged I R P O w (to_of (message_in B k)), and-false (reaches B k))

    delivery_goes : Proper made.station → Goes (delivery k kept)
    unfolding left_of told_of delivered
    delivery_goes z = (delivery_kept z, told_zero (delivery_first B k) made first_none)

  -- ---- every step
  pub goes : (c : Call) → Proper (step st c).station → Goes c
  unfolding left_of told_of step
  goes (begin n a) z = host_goes n (begin n a) (begin_of tree (record_in R n) n a) refl refl refl z
  goes (open_read n t) z = host_goes n (open_read n t) (open_of (record_in R n) n t 0) refl refl refl z
  goes (open_write n t) z = host_goes n (open_write n t) (open_of (record_in R n) n t 1) refl refl refl z
  goes (set_value n t v) z = host_goes n (set_value n t v) (set_of (record_in R n) n t v) refl refl refl z
  goes (found n t) z = host_goes n (found n t) (found_of tree (record_in R n) n t) refl refl refl z
  goes (reselect n live d) z = host_goes n (reselect n live d) (reselect_of tree (record_in R n) n live d) refl refl refl z
  goes (request_commit n) z = host_goes n (request_commit n) (request_commit_of tree (record_in R n) n) refl refl refl z
  goes (abort n) z = host_goes n (abort n) (abort_of (record_in R n) n) refl refl refl z
  goes (send n to t) z = send_goes n to t
  goes (delivery k kept) z = delivery_goes k kept z
  goes (drop k) z = drop_goes k
  goes (switch n up) z = switch_goes n up
