-- A send over the buffers, by what is due: a refusal, nothing, a message that is not well formed, or a message.
use mathlib.Core.Path.{◌≡◌, refl, sym, ap, ap₂, ◌∙◌, subst}
use mathlib.Core.Bool.{Bool, true, false, cond, not, ◌&&◌, ◌||◌}
use mathlib.Core.Logic.{◌⊎◌, inl, inr}
use mathlib.Core.List.{List, ◌++◌}
use Prim.Native.Nat.{ℕ, zero, suc, ◌<◌, ◌≤◌}
use native.Mathlib.Omega.{arith}
use lib.Dec.{eqb, ltb}
use lib.ListN.{length, take, drop}
use lib.Seq.{take-append_seam}
use borrow.Author.Tests.{eq-eqb, ne_eqb, eqb-true, eqb-false, lt-ltb, le-ltb, ltb-true, not-false}
use Rattle.numbers.specs.Sizes.{nodes, objects, longest_message, most_waiting}
use Rattle.mask.specs.Mask.{contains}
use Rattle.numbers.specs.Refusal.{first_of, lower}
use Rattle.letters.specs.declared.Written.{Written}
use Rattle.wire.specs.Message.{Message}
use Rattle.wire.specs.Formed.{well_formed}
use Rattle.wire.specs.Encode.{encode}
use Rattle.letters.specs.Write.{answer, written_of, buffer_after}
use Rattle.wire.proofs.Theorems.{length_bounds}
use Rattle.coordinator.specs.declared.Coordinator.{Coordinator}
use Rattle.coordinator.specs.System.{tree}
use Rattle.coordinator.specs.State.{is_open}
use Rattle.due.specs.Kind.{due_kind, due_refusals}
use Rattle.due.specs.Due.{message_due, write_refusals, is_due, due_written, due_buffer}
use Rattle.record.specs.Record.{check}
use Rattle.record_due.specs.Call.{due_first, record_due, record_due_buffer}
use Rattle.pool.specs.Pool as pool
use Rattle.pool.specs.Pool.{count, waiting, pool_size}
use Rattle.pool.specs.Change.{added, add_number, add_after}
use Rattle.pool.proofs.Numbers.{Room, fine, room_number, add_after_lem}
use Rattle.pool.proofs.Laws.{length_waiting}
use Rattle.steps.specs.Station.{Station}
use Rattle.steps.specs.Step.{Outcome, when_off, send_number, send_of, step}
use Rattle.buffers.specs.Buffers.{on_of, record_at, record_in, record_damaged, wrong, own_damaged}
use Rattle.buffers.specs.Buffers.{station_of, answer_with, told, host_first, ends_first, records_size, own_size}
use Rattle.station.specs.Messages.{pool_after, put_into, sending, send_first, send_told, send_pool, owed_at, owed_into}
use Rattle.buffers.proofs.Records.{damaged_two, damaged_is}
use Rattle.steps.proofs.Nodes.{off_number_lem}

above : (k : ℕ) → (k ≡ 0 → ⊥) → 0 < k
above zero h = absurd (h refl)
above (suc k) h = omega arith

-- ---- what is due, into a buffer of 128 bytes
module _ (c : Coordinator) (n to object : ℕ) where
  abbrev pub refusal : ℕ
  refusal = first_of (due_refusals c n to object)

  abbrev pub kind : ℕ
  kind = due_kind tree c to object

  abbrev pub message : Message
  message = message_due c n to object (due_kind tree c to object)

  abbrev written : Written
  written = due_written tree longest_message c n to object

  -- each case with what the writer gives
  pub Case : Written → Type 0
  Case w =
      ((refusal ≡ 0 → ⊥) × (w ≡ answer refusal 0))
      ⊎ (((refusal ≡ 0) × (kind ≡ 0) × (w ≡ answer 0 0))
      ⊎ (((refusal ≡ 0) × (kind ≡ 0 → ⊥) × (well_formed message ≡ false) × (w ≡ answer 3 0))
      ⊎ ((refusal ≡ 0) × (kind ≡ 0 → ⊥) × (well_formed message ≡ true) × (w ≡ answer 0 (length (encode message))))))

  pub cases : (w : Written) → w ≡ due_written tree longest_message c n to object → Case w
  unfolding Case due_written is_due write_refusals written_of
  cases w e = by (eqb refusal 0) (eqb kind 0) (well_formed message) refl refl refl
    where
      by : (a b f : Bool) → eqb refusal 0 ≡ a → eqb kind 0 ≡ b → well_formed message ≡ f → Case w
      by false b f p q r = inl (eqb-false refusal 0 p, e ∙ simp p)
      by true true f p q r =
          let z : kind ≡ 0 = eqb-true kind 0 q in
          inr (inl (eqb-true refusal 0 p, z, e ∙ simp (p, le-ltb 0 kind (omega arith)) (ap (λ (k : ℕ). answer k 0) (eqb-true refusal 0 p))))
      by true false false p q r =
          let z = eqb-false kind 0 q in
          inr (inr (inl (eqb-true refusal 0 p, z, r, e ∙ simp (p, lt-ltb 0 kind (above kind z), r))))
      by true false true p q r =
          let z = eqb-false kind 0 q in
          inr (inr (inr (eqb-true refusal 0 p, z, r, e ∙ simp (p, lt-ltb 0 kind (above kind z), r))))

  -- a message's bytes at the front of the buffer
  pub filled : (w : Written) → w ≡ due_written tree longest_message c n to object → 0 < w.length → (out : List ℕ) → length out ≡ longest_message
      → (well_formed message ≡ true) × (take w.length (due_buffer tree c n to object out) ≡ encode message)
  unfolding Case due_buffer is_due write_refusals buffer_after
  filled w e h out d = by (cases w e)
    where
      none : (k : ℕ) → w ≡ answer k 0 → ⊥
      none k p = let z : w.length ≡ 0 = ap (λ (x : Written). x.length) p in omega arith

      by : Case w → (well_formed message ≡ true) × (take w.length (due_buffer tree c n to object out) ≡ encode message)
      by (inl p) = absurd (none _ p.1)
      by (inr (inl p)) = absurd (none 0 p.2)
      by (inr (inr (inl p))) = absurd (none 3 p.3)
      by (inr (inr (inr p))) =
          let f = p.2 in
          let k : w.length ≡ length (encode message) = ap (λ (x : Written). x.length) p.3 in (
            f,
            simp (d, eq-eqb refusal 0 p.0, lt-ltb 0 kind (above kind p.1), f)
                (ap (λ (j : ℕ). take j (encode message ++ drop (length (encode message)) out)) k
                ∙ take-append_seam (encode message) (drop (length (encode message)) out)),
          )

  pub written_fits : (w : Written) → w ≡ due_written tree longest_message c n to object → w.length ≤ longest_message
  unfolding Case
  written_fits w e = by (cases w e)
    where
      none : (k : ℕ) → w ≡ answer k 0 → w.length ≤ longest_message
      none k p = let z : w.length ≡ 0 = ap (λ (x : Written). x.length) p in omega arith

      by : Case w → w.length ≤ longest_message
      by (inl p) = none _ p.1
      by (inr (inl p)) = none 0 p.2
      by (inr (inr (inl p))) = none 3 p.3
      by (inr (inr (inr p))) =
          let k : w.length ≡ length (encode message) = ap (λ (x : Written). x.length) p.3 in
          let b = (length_bounds message p.2).1 in
          omega arith

-- ---- what is due at a node, by whether its record is one
module _ (R : List ℕ) (n to object : ℕ) (h : n < nodes) (k : length R ≡ records_size) where
  pub due_here : (size : ℕ) → size ≡ longest_message → record_due (record_at R n) n to object size ≡ owed_at R n to object
  unfolding record_due due_first record_in owed_at
  due_here size e = by (eqb (check (record_at R n)) 0) refl
    where
      t : ltb n nodes ≡ true
      t = lt-ltb n nodes h

      by : (b : Bool) → eqb (check (record_at R n)) 0 ≡ b → record_due (record_at R n) n to object size ≡ owed_at R n to object
      by true q = simp (e, eqb-true (check (record_at R n)) 0 q, damaged_is R n h true q, t)
      by false q = simp (e, damaged_two R n h k (eqb-false (check (record_at R n)) 0 q), damaged_is R n h false q, t)

  pub put_here : (l : List ℕ) → length l ≡ longest_message → record_due_buffer (record_at R n) n to object l ≡ owed_into R n to object l
  unfolding record_due_buffer due_first record_in owed_into
  put_here l e = by (eqb (check (record_at R n)) 0) refl
    where
      t : ltb n nodes ≡ true
      t = lt-ltb n nodes h

      by : (b : Bool) → eqb (check (record_at R n)) 0 ≡ b → record_due_buffer (record_at R n) n to object l ≡ owed_into R n to object l
      by true q = simp (e, eqb-true (check (record_at R n)) 0 q, damaged_is R n h true q, t)
      by false q = simp (e, damaged_two R n h k (eqb-false (check (record_at R n)) 0 q), damaged_is R n h false q, t)

-- 2 says that the record is damaged: what is due has no such number
not_two : (a b : Bool) → ◌≡◌ {A = ℕ} (cond a 4 (cond b 6 0)) 2 → ⊥
not_two true b q = absurd (let z : ⊥ = omega arith in z)
not_two false true q = absurd (let z : ⊥ = omega arith in z)
not_two false false q = absurd (let z : ⊥ = omega arith in z)

refusal_two : (c : Coordinator) (n to object : ℕ) → first_of (due_refusals c n to object) ≡ 2 → ⊥
unfolding due_refusals
refusal_two c n to object =
    not_two (not (ltb n nodes) || not (ltb to nodes)) (eqb c.phase 1 && (not (ltb object objects) || not (is_open c object)))

module _ (R : List ℕ) (n to object : ℕ) (w : Written) (d : w ≡ owed_at R n to object) where
  due_two : (due_written tree longest_message (record_in R n) n to object).number ≡ 2 → ⊥
  unfolding Case
  due_two e = by (cases (record_in R n) n to object _ refl)
    where
      of : (k : ℕ) → due_written tree longest_message (record_in R n) n to object ≡ answer k 0 → k ≡ 2
      of k p = sym (ap (λ (x : Written). x.number) p) ∙ e

      by : Case (record_in R n) n to object (due_written tree longest_message (record_in R n) n to object) → ⊥
      by (inl p) = refusal_two (record_in R n) n to object (of (refusal (record_in R n) n to object) p.1)
      by (inr (inl p)) = let z : ◌≡◌ {A = ℕ} 0 2 = of 0 p.2 in absurd (let y : ⊥ = omega arith in y)
      by (inr (inr (inl p))) = let z : ◌≡◌ {A = ℕ} 3 2 = of 3 p.3 in absurd (let y : ⊥ = omega arith in y)
      by (inr (inr (inr p))) =
          let z : ◌≡◌ {A = ℕ} 0 2 = sym (ap (λ (x : Written). x.number) p.3) ∙ e in
          absurd (let y : ⊥ = omega arith in y)

  pub owed_two : w.number ≡ 2 → record_damaged R n ≡ true
  unfolding owed_at
  owed_two e = by (record_damaged R n) refl
    where
      by : (b : Bool) → record_damaged R n ≡ b → record_damaged R n ≡ true
      by true q = q
      by false q =
          let z : w ≡ due_written tree longest_message (record_in R n) n to object = d ∙ simp q in
          absurd (due_two (sym (ap (λ (x : Written). x.number) z) ∙ e))

  pub owed_due : (w.number ≡ 2 → ⊥) → (record_damaged R n ≡ false) × (w ≡ due_written tree longest_message (record_in R n) n to object)
  unfolding owed_at
  owed_due e = by (record_damaged R n) refl
    where
      by : (b : Bool) → record_damaged R n ≡ b → (record_damaged R n ≡ false) × (w ≡ due_written tree longest_message (record_in R n) n to object)
      by true q = absurd (e (ap (λ (x : Written). x.number) d ∙ simp q))
      by false q = (q, d ∙ simp q)

pub owed_put : (R : List ℕ) (n to object : ℕ) (l : List ℕ) → record_damaged R n ≡ false → owed_into R n to object l
    ≡ due_buffer tree (record_in R n) n to object l
unfolding owed_into
owed_put R n to object l e = simp e

-- ---- the buffers' number: of the lengths, of who is on and of the pool; then of the record
module _ (R P O : List ℕ) (n : ℕ) where
  abbrev early : ℕ
  early = lower (ends_first (length R) O) (pool.check P)

  -- with the tests as bools: of the records' and own lengths, of the mask, of the record, of the pool's length and count
  rest : (a m r p q : Bool)
      → (let f : ℕ = lower (cond a 1 (cond m 2 0)) (cond p 1 (cond q 2 0)) in
      let g : ℕ = lower (cond a 1 (cond m 2 (cond r 2 0))) (cond p 1 (cond q 2 0)) in
      ((f ≡ 0 → ⊥) → f ≡ g) × (f ≡ 0 → g ≡ cond r 2 0))
  unfolding lower
  rest true m r true q = ((λ h. refl), (λ e. absurd (let z : ⊥ = omega arith in z)))
  rest true m r false true = ((λ h. refl), (λ e. absurd (let z : ⊥ = omega arith in z)))
  rest true m r false false = ((λ h. refl), (λ e. absurd (let z : ⊥ = omega arith in z)))
  rest false true r true q = ((λ h. refl), (λ e. absurd (let z : ⊥ = omega arith in z)))
  rest false true r false true = ((λ h. refl), (λ e. absurd (let z : ⊥ = omega arith in z)))
  rest false true r false false = ((λ h. refl), (λ e. absurd (let z : ⊥ = omega arith in z)))
  rest false false true true q = ((λ h. refl), (λ e. absurd (let z : ⊥ = omega arith in z)))
  rest false false true false true = ((λ h. refl), (λ e. absurd (let z : ⊥ = omega arith in z)))
  rest false false true false false = ((λ h. absurd (h refl)), (λ e. refl))
  rest false false false true q = ((λ h. refl), (λ e. absurd (let z : ⊥ = omega arith in z)))
  rest false false false false true = ((λ h. refl), (λ e. absurd (let z : ⊥ = omega arith in z)))
  rest false false false false false = ((λ h. absurd (h refl)), (λ e. refl))

  pub send_first_lem : (lower (ends_first (length R) O) (pool.check P) ≡ 0 → ⊥) → lower (ends_first (length R) O) (pool.check P) ≡ send_first (sending R P O) n
  unfolding send_first host_first ends_first pool.check
  send_first_lem = (rest (wrong R records_size || wrong O own_size) (own_damaged O) (record_damaged R n) (not (eqb (length P) pool_size))
      (ltb most_waiting (count P))).0

  pub send_next : lower (ends_first (length R) O) (pool.check P) ≡ 0 → send_first (sending R P O) n ≡ cond (record_damaged R n) 2 0
  unfolding send_first host_first ends_first pool.check
  send_next = (rest (wrong R records_size || wrong O own_size) (own_damaged O) (record_damaged R n) (not (eqb (length P) pool_size))
      (ltb most_waiting (count P))).1

pub pool_first : (n m : ℕ) (o : Outcome) (l : List ℕ) → n ≡ m → (n ≡ 0 → ⊥) → l ≡ pool_after m o l
unfolding pool_after
pool_first n m o l e h = simp (ne_eqb m 0 (λ z. h (e ∙ z)))

-- ---- the send itself
module _ (R P O : List ℕ) (n to object : ℕ) where
  abbrev c : Coordinator
  c = record_in R n

  abbrev o : Outcome
  o = send_of (station_of (sending R P O)) n to object

  -- the node is off
  pub off_told_lem : contains (on_of O) n ≡ false → (w : Written) → w ≡ due_written tree longest_message c n to object → answer_with (when_off w.number) 0
      ≡ told 0 o
  unfolding told send_of send_number Case
  off_told_lem e w d =
      ap (λ (k : ℕ). answer_with k 0) (by (cases c n to object w d))
      ∙ simp (e, ne_eqb (when_off (refusal c n to object)) 0 (off_number_lem (refusal c n to object)))
    where
      by : Case c n to object w → when_off w.number ≡ when_off (refusal c n to object)
      by (inl p) = ap (λ (x : Written). when_off x.number) p.1
      by (inr (inl p)) = ap (λ (x : Written). when_off x.number) p.2 ∙ ap when_off (sym p.0)
      by (inr (inr (inl p))) = ap (λ (x : Written). when_off x.number) p.3 ∙ ap when_off (sym p.0)
      by (inr (inr (inr p))) = ap (λ (x : Written). when_off x.number) p.3 ∙ ap when_off (sym p.0)

  pub off_left : contains (on_of O) n ≡ false → P ≡ pool_after 0 o P
  unfolding pool_after send_of send_number
  off_left e = let h = ne_eqb (when_off (refusal c n to object)) 0 (off_number_lem (refusal c n to object)) in simp (e, h)

  module _ (e : contains (on_of O) n ≡ true) (w : Written) (d : w ≡ due_written tree longest_message c n to object) where
    -- the number where it is not the pool's
    stop_both : (w.number ≡ 0 → ⊥) → (answer_with w.number 0 ≡ told 0 o) × (P ≡ pool_after 0 o P)
    unfolding told pool_after send_of send_number Case
    stop_both h = by (cases c n to object w d)
      where
        by : Case c n to object w → (answer_with w.number 0 ≡ told 0 o) × (P ≡ pool_after 0 o P)
        by (inl p) =
            let t = ne_eqb (refusal c n to object) 0 p.0 in
            (ap (λ (x : Written). answer_with x.number 0) p.1 ∙ simp (e, t), simp (e, t))
        by (inr (inl p)) = absurd (h (ap (λ (x : Written). x.number) p.2))
        by (inr (inr (inl p))) =
            let t = eq-eqb (refusal c n to object) 0 p.0 in
            let u = ne_eqb (kind c n to object) 0 p.1 in
            (ap (λ (x : Written). answer_with x.number 0) p.3 ∙ simp (e, t, u, p.2), simp (e, t, u, p.2))
        by (inr (inr (inr p))) = absurd (h (ap (λ (x : Written). x.number) p.3))

    pub stop_told : (w.number ≡ 0 → ⊥) → answer_with w.number 0 ≡ told 0 o
    stop_told h = (stop_both h).0

    pub stop_left : (w.number ≡ 0 → ⊥) → P ≡ pool_after 0 o P
    stop_left h = (stop_both h).1

    -- the pool is full
    full_both : w.number ≡ 0 → most_waiting ≤ count P → (answer_with 12 0 ≡ told 0 o) × (P ≡ pool_after 0 o P)
    unfolding told pool_after send_of send_number Case
    full_both h f = by (cases c n to object w d)
      where
        s : ltb (length (waiting P)) most_waiting ≡ false
        s = ap (λ (k : ℕ). ltb k most_waiting) (length_waiting P) ∙ le-ltb (count P) most_waiting f

        by : Case c n to object w → (answer_with 12 0 ≡ told 0 o) × (P ≡ pool_after 0 o P)
        by (inl p) = absurd (p.0 (sym (ap (λ (x : Written). x.number) p.1) ∙ h))
        by (inr (inl p)) =
            let t = eq-eqb (refusal c n to object) 0 p.0 in
            let u = eq-eqb (kind c n to object) 0 p.1 in
            (simp (e, t, u, s), simp (e, t, u, s))
        by (inr (inr (inl p))) =
            let z : 3 ≡ w.number = sym (ap (λ (x : Written). x.number) p.3) in
            absurd (let y : ⊥ = omega arith in y)
        by (inr (inr (inr p))) =
            let t = eq-eqb (refusal c n to object) 0 p.0 in
            let u = ne_eqb (kind c n to object) 0 p.1 in
            (simp (e, t, u, p.2, s), simp (e, t, u, p.2, s))

    pub full_told : w.number ≡ 0 → most_waiting ≤ count P → answer_with 12 0 ≡ told 0 o
    full_told h f = (full_both h f).0

    pub full_left : w.number ≡ 0 → most_waiting ≤ count P → P ≡ pool_after 0 o P
    full_left h f = (full_both h f).1

    -- a message goes, or nothing is due
    gone_both : w.number ≡ 0 → count P < most_waiting → (answer_with 0 0 ≡ told 0 o)
        × ((w.length ≤ 0 → P ≡ pool_after 0 o P) × (0 < w.length → added P (encode (message c n to object)) ≡ pool_after 0 o P))
    unfolding told pool_after put_into send_of send_number Case
    gone_both h f = by (cases c n to object w d)
      where
        s : ltb (length (waiting P)) most_waiting ≡ true
        s = ap (λ (k : ℕ). ltb k most_waiting) (length_waiting P) ∙ lt-ltb (count P) most_waiting f

        by : Case c n to object w → (answer_with 0 0 ≡ told 0 o)
            × ((w.length ≤ 0 → P ≡ pool_after 0 o P) × (0 < w.length → added P (encode (message c n to object)) ≡ pool_after 0 o P))
        by (inl p) = absurd (p.0 (sym (ap (λ (x : Written). x.number) p.1) ∙ h))
        by (inr (inl p)) =
            let t = eq-eqb (refusal c n to object) 0 p.0 in
            let u = eq-eqb (kind c n to object) 0 p.1 in
            let z : w.length ≡ 0 = ap (λ (x : Written). x.length) p.2 in
            (simp (e, t, u, s), ((λ q. simp (e, t, u, s)), (λ q. absurd (let y : ⊥ = omega arith in y))))
        by (inr (inr (inl p))) =
            let z : 3 ≡ w.number = sym (ap (λ (x : Written). x.number) p.3) in
            absurd (let y : ⊥ = omega arith in y)
        by (inr (inr (inr p))) =
            let t = eq-eqb (refusal c n to object) 0 p.0 in
            let u = ne_eqb (kind c n to object) 0 p.1 in
            let v = p.2 in
            let z : w.length ≡ length (encode (message c n to object)) = ap (λ (x : Written). x.length) p.3 in
            let b = (length_bounds (message c n to object) v).0 in
            (simp (e, t, u, v, s), ((λ q. absurd (let y : ⊥ = omega arith in y)), (λ q. simp (e, t, u, v, s))))

    pub gone_told : w.number ≡ 0 → count P < most_waiting → answer_with 0 0 ≡ told 0 o
    gone_told h f = (gone_both h f).0

    pub idle_left : w.number ≡ 0 → count P < most_waiting → w.length ≤ 0 → P ≡ pool_after 0 o P
    idle_left h f = (gone_both h f).1.0

    pub sent_put : w.number ≡ 0 → count P < most_waiting → 0 < w.length → added P (encode (message c n to object)) ≡ pool_after 0 o P
    sent_put h f = (gone_both h f).1.1

  -- what the pool's own addition gives
  pub sent_both : contains (on_of O) n ≡ true → (w : Written) → w ≡ due_written tree longest_message c n to object → w.number ≡ 0
      → count P < most_waiting → 0 < w.length
      → pool.check P ≡ 0 → (out l : List ℕ) → length out ≡ longest_message → l ≡ due_buffer tree c n to object out → (j : ℕ) → j ≡ w.length
      → (answer_with (add_number P (length (take j l))) 0 ≡ told 0 o) × (add_after P (take j l) ≡ pool_after 0 o P)
  sent_both e w d h f g p out l u q j i =
      let m = encode (message c n to object) in
      let a = filled c n to object w d g out u in
      let t : take j l ≡ m = ap₂ (λ (k : ℕ) (x : List ℕ). take k x) i q ∙ a.1 in
      let r : Room P (length m) = record { pool = fine P p; size = (length_bounds (message c n to object) a.0).1; slot = f } in (
        ap (λ (x : List ℕ). answer_with (add_number P (length x)) 0) t ∙ ap (λ (k : ℕ). answer_with k 0) (room_number P (length m) r) ∙ gone_told e w d h f,
        ap (add_after P) t ∙ add_after_lem P m r ∙ sent_put e w d h f g,
      )

  -- where the buffers are sound the step is the send
  pub started_told : send_first (sending R P O) n ≡ 0 → told 0 o ≡ send_told (sending R P O) n to object
  unfolding step
  started_told e = ap (λ (k : ℕ). told k o) (sym e)

  pub started_pool : send_first (sending R P O) n ≡ 0 → pool_after 0 o P ≡ send_pool (sending R P O) n to object
  unfolding step
  started_pool e = ap (λ (k : ℕ). pool_after k o P) (sym e)
