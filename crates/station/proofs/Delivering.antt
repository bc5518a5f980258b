-- A delivery over the buffers, at a replica and at a coordinator: refused, blocked by a full pool, or taken; each with what is told and left.
use mathlib.Core.Path.{◌≡◌, refl, sym, ap, ap₂, subst, ◌∙◌}
use mathlib.Core.Bool.{Bool, true, false, cond, not, ◌&&◌}
use mathlib.Core.Logic.{◌⊎◌, inl, inr}
use mathlib.Core.List.{List, [], ◌++◌}
use Prim.Native.Nat.{ℕ, ◌+◌, ◌*◌, ◌<◌, ◌≤◌}
use native.Mathlib.Omega.{arith}
use lib.Dec.{eqb, ltb}
use lib.ListN.{length, take, drop, take-append-drop}
use lib.Seq.{take-append_seam}
use borrow.Author.Tests.{eq-eqb, ne_eqb, eqb-true, eqb-false, lt-ltb, ltb-true, not-false}
use Rattle.image.specs.Layout.{image_size, shape}
use Rattle.numbers.specs.Sizes.{nodes, longest_message, most_waiting}
use Rattle.wire.specs.Encode.{encode}
use Rattle.wire.specs.Decode.{decode, check_of}
use Rattle.wire.proofs.Theorems.{length_bounds}
use Rattle.replica.specs.declared.Received.{Received}
use Rattle.replica.specs.Steps.{Answer, silent, says}
use Rattle.replica.specs.Receive.{refusal, step, Delivered, deliver, length_of, filled, received_of, spoken}
use Rattle.replica.proofs.Spoken.{false_true, named_of}
use Rattle.replica.proofs.Delivered.{Fine, cleared, step_fine, entries_of_lem, refused_is, delivered_is}
use Rattle.coordinator.specs.declared.Coordinator.{Coordinator}
use Rattle.coordinator.specs.Step.{Step}
use Rattle.coordinator.specs.System.{tree}
use Rattle.arrivals.specs.Receive.{receive_of}
use Rattle.pool.specs.Pool.{count, waiting, message_at, check}
use Rattle.pool.specs.Change.{added, add_after}
use Rattle.pool.proofs.Numbers.{Room, fine, add_after_lem}
use Rattle.pool.proofs.Laws.{length_waiting, count_removed}
use Rattle.record.specs.declared.Called.{Called}
use Rattle.record.specs.Record.{bytes_of}
use Rattle.record.specs.Record.{check as checkRecord}
use Rattle.record.specs.Call.{called, told_by, called_of, kept, record_after}
use Rattle.record_arrive.specs.Call.{received_of as calledBy}
use Rattle.record_arrive.proofs.OnBytes.{long_answer}
use Rattle.steps.specs.Station.{Station, put_at}
use Rattle.steps.specs.Step.{Outcome, refused_with, answered, at_replica, at_coordinator}
use Rattle.buffers.specs.Buffers.{record_at, record_first, image_at, with_image_at, image_in, with_record_at}
use Rattle.buffers.specs.Buffers.{record_in, station_of, answer_with, told, records_after, records_size}
use Rattle.buffers.specs.Buffers.{all}
use Rattle.station.specs.Messages.{handed_over, images_after, leaving, exchanged, put_into, blocked}
use Rattle.station.proofs.Waiting.{there_of, check_leaving}
use Rattle.buffers.proofs.Records.{splice_same, record_same, damaged_two, damaged_is, same_called, same_after}

-- ---- tests joined
pub none_said : (b : Bool) → (b && false) ≡ true → ⊥
none_said true e = false_true e
none_said false e = false_true e

pub all_said : (b : Bool) → (b && true) ≡ true → b ≡ true
all_said true e = refl
all_said false e = e

pub not_said : (b : Bool) → (b && true) ≡ false → b ≡ false
not_said true e = e
not_said false e = refl

-- ---- a node's own image
pub image_in_lem : (I : List ℕ) (n : ℕ) → n < nodes → image_in I n ≡ image_at I n
unfolding image_in
image_in_lem I n h = simp (lt-ltb n nodes h)

pub image_same : (I : List ℕ) (n : ℕ) → with_image_at I n (image_at I n) ≡ I
unfolding with_image_at image_at
image_same I n = splice_same (image_size shape) (image_size shape * n) I

-- ---- what a replica brings about: a refusal that changes nothing, or a step whose answer is well formed
unfoldable pub Brought : List ℕ → Delivered → Type 0
Brought l d = ((d.number ≡ 0 → ⊥) × (d.image ≡ l) × (d.answer ≡ silent)) ⊎ ((d.number ≡ 0) × Fine d.answer)

pub brought : (l : List ℕ) (n : ℕ) (b : List ℕ) → Brought l (deliver longest_message l n b)
unfolding Brought
brought l n b = by (eqb (refusal longest_message l n b) 0) refl
  where
    by : (t : Bool) → eqb (refusal longest_message l n b) 0 ≡ t → Brought l (deliver longest_message l n b)
    by true e =
        let z = eqb-true (refusal longest_message l n b) 0 e in
        let k = cleared longest_message l n b z in
        let f = step_fine n l (decode b) (named_of n (decode b) k.node k.formed) (entries_of_lem (decode b) k.formed) in
        subst (Brought l) (sym (delivered_is longest_message l n b z)) (inr (f.1, f.0))
    by false e =
        let z = eqb-false (refusal longest_message l n b) 0 e in
        subst (Brought l) (sym (refused_is longest_message l n b z)) (inl (z, refl, refl))

-- the bytes of an answer, as they stand at the front of the buffer
unfoldable pub said : Answer → List ℕ
said silent = []
said (says m) = encode m

pub said_first : (a : Answer) (out : List ℕ) → take (length_of a) (filled a out) ≡ said a
unfolding length_of filled said
said_first silent out = refl
said_first (says m) out = take-append_seam (encode m) (drop (length (encode m)) out)

pub said_fits : (a : Answer) → Fine a → length (said a) ≤ longest_message
unfolding said
said_fits silent f = omega arith
said_fits (says m) f = (length_bounds m f).1

pub length_said : (a : Answer) → length_of a ≡ length (said a)
unfolding length_of said
length_said silent = refl
length_said (says m) = refl

-- ---- at a replica
module _ (I R P O : List ℕ) (n k : ℕ) (kept : Bool) where
  abbrev st : Station
  st = station_of (all I R P O)

  abbrev full : Bool
  full = not (ltb (count P) most_waiting)

  -- the outcome of what the replica brings about
  unfoldable pub by : Delivered → Outcome
  by d = cond (eqb d.number 0) (answered st k kept n d.image d.answer) (refused_with d.number st)

  pub at_is : n < nodes → at_replica st k kept n (message_at P k) ≡ by (deliver longest_message (image_at I n) n (message_at P k))
  unfolding at_replica by
  at_is h = ap (λ (l : List ℕ). by (deliver longest_message l n (message_at P k))) (image_in_lem I n h)

  full_is : not (ltb (length (waiting P)) most_waiting) ≡ full
  full_is = ap (λ (m : ℕ). not (ltb m most_waiting)) (length_waiting P)

  -- refused
  pub refused_all : (d : Delivered) → (d.number ≡ 0 → ⊥)
      → (answer_with d.number 0 ≡ told 0 (by d)) × ((I ≡ images_after 0 (by d) n I) × (P ≡ exchanged 0 (by d) k kept P))
  unfolding by told images_after exchanged
  refused_all d h = let e = ne_eqb d.number 0 h in (simp e, (simp e, simp e))

  -- no room for the answer
  pub blocked_all : (d : Delivered) → d.number ≡ 0 → ((kept && full) && spoken d.answer) ≡ true
      → (answer_with 12 0 ≡ told 0 (by d)) × ((I ≡ images_after 0 (by d) n I) × (P ≡ exchanged 0 (by d) k kept P))
  unfolding by told images_after exchanged answered spoken
  blocked_all d z h = go d.answer refl
    where
      go : (a : Answer) → d.answer ≡ a → (answer_with 12 0 ≡ told 0 (by d)) × ((I ≡ images_after 0 (by d) n I) × (P ≡ exchanged 0 (by d) k kept P))
      go silent e = absurd (none_said (kept && full) (sym (ap (λ (a : Answer). (kept && full) && spoken a) e) ∙ h))
      go (says m) e =
          let s = all_said (kept && full) (sym (ap (λ (a : Answer). (kept && full) && spoken a) e) ∙ h) in
          let f = full_is in
          let q = eq-eqb d.number 0 z in
          (simp (q, e, f, s), (simp (q, e, f, s), simp (q, e, f, s)))

  -- taken: the image changed, the answer at the end of what is left
  module _ (p : check P ≡ 0) (w : k < count P) where
    pub has_room : (kept && full) ≡ false → (m : ℕ) → m ≤ longest_message → Room (leaving P k kept) m
    has_room h m f = go kept h
      where
        go : (b : Bool) → (b && full) ≡ false → Room (leaving P k b) m
        go true q = record { pool = fine P p; size = f; slot = ltb-true (count P) most_waiting (not-false (ltb (count P) most_waiting) q) }
        go false q =
            let t = there_of P k p w in
            let n = count_removed P k t in
            let r = (fine P p).room in
            record { pool = fine (leaving P k false) (check_leaving P k false p w); size = f; slot = omega arith }

    pub taken_all : (d : Delivered) → d.number ≡ 0 → Fine d.answer → ((kept && full) && spoken d.answer) ≡ false
        → (answer_with 0 0 ≡ told 0 (by d)) × ((with_image_at I n d.image ≡ images_after 0 (by d) n I)
        × (cond (ltb 0 (length (said d.answer))) (add_after (leaving P k kept) (said d.answer)) (leaving P k kept) ≡ exchanged 0 (by d) k kept P))
    unfolding by told images_after exchanged answered spoken said put_into put_at
    taken_all d z f h = go d.answer refl
      where
        q : eqb d.number 0 ≡ true
        q = eq-eqb d.number 0 z

        same : eqb n n ≡ true
        same = eq-eqb n n refl

        go : (a : Answer) → d.answer ≡ a → (answer_with 0 0 ≡ told 0 (by d)) × ((with_image_at I n d.image ≡ images_after 0 (by d) n I)
            × (cond (ltb 0 (length (said d.answer))) (add_after (leaving P k kept) (said d.answer)) (leaving P k kept) ≡ exchanged 0 (by d) k kept P))
        go silent e = (simp (q, e), (simp (q, e, same), simp (q, e)))
        go (says m) e =
            let s = not_said (kept && full) (sym (ap (λ (a : Answer). (kept && full) && spoken a) e) ∙ h) in
            let g = length_bounds m (subst Fine e f) in
            let g0 = g.0 in
            let u = full_is in
            let r = has_room s (length (encode m)) g.1 in
            let t = lt-ltb 0 (length (encode m)) (omega arith) in
            (simp (q, e, u, s), (simp (q, e, u, s, same), simp (q, e, u, s, t) (add_after_lem (leaving P k kept) (encode m) r)))

  -- ---- what each end of a delivery at a replica leaves
  abbrev pub Leaves : Rattle.buffers.specs.declared.Answer.Answer → List ℕ → List ℕ → Outcome → Type 0
  Leaves a i p o = (a ≡ told 0 o) × ((i ≡ images_after 0 o n I) × (p ≡ exchanged 0 o k kept P))

  abbrev d : Delivered
  d = deliver longest_message (image_at I n) n (message_at P k)

  pub blocked_here : n < nodes → blocked I P n k kept ≡ true → Leaves (answer_with 12 0) I P (at_replica st k kept n (message_at P k))
  unfolding blocked Brought spoken
  blocked_here h b = subst (Leaves (answer_with 12 0) I P) (sym (at_is h)) (go (brought (image_at I n) n (message_at P k)))
    where
      go : Brought (image_at I n) d → Leaves (answer_with 12 0) I P (by d)
      go (inl z) = absurd (none_said (kept && full) (ap (λ (a : Answer). (kept && full) && spoken a) (sym z.2) ∙ b))
      go (inr z) = blocked_all d z.0 b

  pub refused_here : n < nodes → (r : Received) → r ≡ received_of d → (r.number ≡ 0 → ⊥)
      → Leaves (answer_with r.number 0) (with_image_at I n d.image) P (at_replica st k kept n (message_at P k))
  unfolding Brought
  refused_here h r e f = subst (Leaves (answer_with r.number 0) (with_image_at I n d.image) P) (sym (at_is h))
      (go (brought (image_at I n) n (message_at P k)))
    where
      number : r.number ≡ d.number
      number = ap (λ (x : Received). x.number) e

      go : Brought (image_at I n) d → Leaves (answer_with r.number 0) (with_image_at I n d.image) P (by d)
      go (inl z) = let t = refused_all d z.0 in
          (ap (λ (j : ℕ). answer_with j 0) number ∙ t.0, (ap (with_image_at I n) z.1 ∙ image_same I n ∙ t.1.0, t.1.1))
      go (inr z) = absurd (f (number ∙ z.0))

  pub taken_here : n < nodes → check P ≡ 0 → k < count P → (r : Received) → r ≡ received_of d → r.number ≡ 0 → blocked I P n k kept ≡ false
      → (out l : List ℕ) → l ≡ filled d.answer out → (j : ℕ) → j ≡ r.length
      → Leaves (answer_with 0 0) (with_image_at I n d.image)
      (cond (ltb 0 (length (take j l))) (add_after (leaving P k kept) (take j l)) (leaving P k kept)) (at_replica st k kept n (message_at P k))
  unfolding blocked Brought
  taken_here h p w r e f b out l i j q =
      subst (Leaves (answer_with 0 0) (with_image_at I n d.image) (ends (take j l))) (sym (at_is h)) (go (brought (image_at I n) n (message_at P k)))
    where
      ends : List ℕ → List ℕ
      ends m = cond (ltb 0 (length m)) (add_after (leaving P k kept) m) (leaving P k kept)

      bytes : take j l ≡ said d.answer
      bytes = ap₂ (λ (a : ℕ) (m : List ℕ). take a m) (q ∙ ap (λ (x : Received). x.length) e) i ∙ said_first d.answer out

      go : Brought (image_at I n) d → Leaves (answer_with 0 0) (with_image_at I n d.image) (ends (take j l)) (by d)
      go (inl z) = absurd (z.0 (sym (ap (λ (x : Received). x.number) e) ∙ f))
      go (inr z) = let t = taken_all p w d z.0 z.1 b in (t.0, (t.1.0, ap ends bytes ∙ t.1.1))

  pub fits_here : (r : Received) → r ≡ received_of d → r.length ≤ longest_message
  unfolding Brought
  fits_here r e = subst (λ (j : ℕ). j ≤ longest_message) (sym (ap (λ (x : Received). x.length) e ∙ length_said d.answer))
      (go (brought (image_at I n) n (message_at P k)))
    where
      go : Brought (image_at I n) d → length (said d.answer) ≤ longest_message
      go (inl z) = said_fits d.answer (subst Fine (sym z.2) tt)
      go (inr z) = said_fits d.answer z.1

-- ---- at a coordinator
module _ (I R P O : List ℕ) (n k : ℕ) (kept : Bool) where
  abbrev there : Outcome
  there = at_coordinator (station_of (all I R P O)) k kept n (message_at P k)

  abbrev got : Step
  got = receive_of tree (record_in R n) n (message_at P k)

  pub stopped_all : (s : Step) → s ≡ got → (s.number ≡ 0 → ⊥)
      → (answer_with s.number 0 ≡ told 0 there) × ((R ≡ records_after 0 there n R) × (P ≡ exchanged 0 there k kept P))
  unfolding told records_after exchanged at_coordinator
  stopped_all s i h =
      let e : eqb got.number 0 ≡ false = ap (λ (x : Step). eqb x.number 0) (sym i) ∙ ne_eqb s.number 0 h in
      (ap (λ (x : Step). answer_with x.number 0) i ∙ simp e, (simp e, simp e))

  pub heard_all : (s : Step) → s ≡ got → s.number ≡ 0
      → (answer_with 0 s.answer ≡ told 0 there)
      × ((with_record_at R n (bytes_of s.coordinator) ≡ records_after 0 there n R) × (leaving P k kept ≡ exchanged 0 there k kept P))
  unfolding told records_after exchanged at_coordinator put_into put_at
  heard_all s i h =
      let e : eqb got.number 0 ≡ true = ap (λ (x : Step). eqb x.number 0) (sym i) ∙ eq-eqb s.number 0 h in
      let same : eqb n n ≡ true = eq-eqb n n refl in (
        ap (λ (x : Step). answer_with 0 x.answer) i ∙ simp e,
        (ap (λ (x : Step). with_record_at R n (bytes_of x.coordinator)) i ∙ simp (e, same), simp e),
      )

  -- no image changes
  pub images_kept : n < nodes → I ≡ images_after 0 there n I
  unfolding images_after at_coordinator
  images_kept h = go (eqb got.number 0) refl
    where
      go : (t : Bool) → eqb got.number 0 ≡ t → I ≡ images_after 0 there n I
      go true e = simp e (sym (ap (with_image_at I n) (image_in_lem I n h) ∙ image_same I n))
      go false e = simp e

  -- whatever the record's number is
  pub images_first : n < nodes → (j : ℕ) → I ≡ images_after j there n I
  unfolding images_after
  images_first h j = by (eqb j 0) refl
    where
      by : (b : Bool) → eqb j 0 ≡ b → I ≡ images_after j there n I
      by true e = subst (λ (i : ℕ). I ≡ images_after i there n I) (sym (eqb-true j 0 e)) (images_kept h)
      by false e = simp e

-- ---- a coordinator that works on its record's bytes: damaged bytes are refused, else the call decides
module _ (I R P O : List ℕ) (n k : ℕ) (stays : Bool) (h : n < nodes) (long : length R ≡ records_size) (well : check_of (message_at P k) ≡ 0) where
  abbrev f : Coordinator → Step
  f c = receive_of tree c n (message_at P k)

  abbrev l : List ℕ
  l = record_at R n

  abbrev place : Outcome
  place = at_coordinator (station_of (all I R P O)) k stays n (message_at P k)

  abbrev by_value : Step
  by_value = f (record_in R n)

  -- the message is one, so only the record's bytes can be refused before the call
  asked : calledBy n (message_at P k) l ≡ called_of f l
  asked = sym (long_answer n (message_at P k) l (let z : check_of (message_at P k) ≡ 1 → ⊥ = (λ e. omega arith) in ne_eqb (check_of (message_at P k)) 1 z))

  -- the bytes are a record, or they are damaged
  sound_bytes : checkRecord l ≡ 0
      → (record_first R n ≡ 0) × ((calledBy n (message_at P k) l ≡ told_by by_value) × (record_after f l ≡ kept by_value l))
  sound_bytes e =
      let t = eq-eqb (checkRecord l) 0 e in
      (ap (λ (b : Bool). cond b 2 0) (damaged_is R n h true t), (asked ∙ same_called R n f h t, same_after R n f h t))

  broken_bytes : (checkRecord l ≡ 0 → ⊥) → (record_first R n ≡ 2) × ((calledBy n (message_at P k) l ≡ called 2 0) × (record_after f l ≡ l))
  unfolding called_of record_after
  broken_bytes e =
      let t = ne_eqb (checkRecord l) 0 e in
      let d = damaged_two R n h long e in
      (ap (λ (b : Bool). cond b 2 0) (damaged_is R n h false t), (asked ∙ simp t (ap (λ (j : ℕ). called j 0) d), simp t))

  pub away : (s : Called) → s ≡ calledBy n (message_at P k) l → (s.number ≡ 0 → ⊥)
      → (answer_with s.number 0 ≡ told (record_first R n) place)
      × ((handed_over R P n k ≡ records_after (record_first R n) place n R) × (P ≡ exchanged (record_first R n) place k stays P))
  unfolding told records_after exchanged kept
  away s i z = by (eqb (checkRecord l) 0) refl
    where
      by : (b : Bool) → eqb (checkRecord l) 0 ≡ b
          → (answer_with s.number 0 ≡ told (record_first R n) place)
          × ((handed_over R P n k ≡ records_after (record_first R n) place n R) × (P ≡ exchanged (record_first R n) place k stays P))
      by true e =
          let g = sound_bytes (eqb-true (checkRecord l) 0 e) in
          let same = i ∙ g.1.0 in
          let no : by_value.number ≡ 0 → ⊥ = λ q. z (ap (λ (x : Called). x.number) same ∙ q) in
          let w = stopped_all I R P O n k stays by_value refl no in (
            ap (λ (x : Called). answer_with x.number 0) same ∙ w.0 ∙ ap (λ (j : ℕ). told j place) (sym g.0),
            (
              ap (with_record_at R n) (g.1.1 ∙ simp (ne_eqb by_value.number 0 no)) ∙ record_same R n ∙ w.1.0
                  ∙ ap (λ (j : ℕ). records_after j place n R) (sym g.0),
              w.1.1 ∙ ap (λ (j : ℕ). exchanged j place k stays P) (sym g.0),
            ),
          )
      by false e =
          let g = broken_bytes (eqb-false (checkRecord l) 0 e) in (
            ap (λ (x : Called). answer_with x.number 0) (i ∙ g.1.0) ∙ ap (λ (j : ℕ). told j place) (sym g.0),
            (
              ap (with_record_at R n) g.1.1 ∙ record_same R n ∙ ap (λ (j : ℕ). records_after j place n R) (sym g.0),
              ap (λ (j : ℕ). exchanged j place k stays P) (sym g.0),
            ),
          )

  pub heard : (s : Called) → s ≡ calledBy n (message_at P k) l → s.number ≡ 0
      → (answer_with 0 s.answer ≡ told (record_first R n) place)
      × ((handed_over R P n k ≡ records_after (record_first R n) place n R) × (leaving P k stays ≡ exchanged (record_first R n) place k stays P))
  unfolding kept
  heard s i z = by (eqb (checkRecord l) 0) refl
    where
      by : (b : Bool) → eqb (checkRecord l) 0 ≡ b
          → (answer_with 0 s.answer ≡ told (record_first R n) place)
          × ((handed_over R P n k ≡ records_after (record_first R n) place n R) × (leaving P k stays ≡ exchanged (record_first R n) place k stays P))
      by true e =
          let g = sound_bytes (eqb-true (checkRecord l) 0 e) in
          let same = i ∙ g.1.0 in
          let yes : by_value.number ≡ 0 = sym (ap (λ (x : Called). x.number) same) ∙ z in
          let w = heard_all I R P O n k stays by_value refl yes in (
            ap (λ (x : Called). answer_with 0 x.answer) same ∙ w.0 ∙ ap (λ (j : ℕ). told j place) (sym g.0),
            (
              ap (with_record_at R n) (g.1.1 ∙ simp (eq-eqb by_value.number 0 yes)) ∙ w.1.0 ∙ ap (λ (j : ℕ). records_after j place n R) (sym g.0),
              w.1.1 ∙ ap (λ (j : ℕ). exchanged j place k stays P) (sym g.0),
            ),
          )
      by false e =
          let g = broken_bytes (eqb-false (checkRecord l) 0 e) in
          absurd (let q : ◌≡◌ {A = ℕ} 2 0 = sym (ap (λ (x : Called). x.number) (i ∙ g.1.0)) ∙ z in omega arith)
