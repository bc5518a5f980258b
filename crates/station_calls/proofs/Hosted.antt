-- A host call over the buffers: by whether the buffers refuse it, whether the node is on, and whether the call is refused.
use mathlib.Core.Path.{◌≡◌, refl, sym, ap, ◌∙◌}
use mathlib.Core.Bool.{Bool, true, false, cond, not, ◌||◌, ◌&&◌}
use mathlib.Core.List.{List, ◌++◌}
use Prim.Native.Nat.{ℕ, ◌+◌, ◌-◌, ◌*◌, ◌<◌, ◌≤◌}
use native.Mathlib.Omega.{arith}
use lib.Dec.{eqb}
use lib.ListN.{length, take, drop}
use borrow.Author.Tests.{eq-eqb, ne_eqb, eqb-true, eqb-false, le-ltb, ltb-false, not-true}
use Rattle.record.specs.Layout.{record_size}
use Rattle.numbers.specs.Sizes.{nodes, every_node}
use Rattle.mask.specs.Mask.{contains}
use Rattle.coordinator.specs.declared.Coordinator.{Coordinator}
use Rattle.coordinator.specs.Step.{Step}
use Rattle.parts.specs.Parts.{part, splice}
use Rattle.parts.proofs.Laws.{lent}
use Rattle.record.specs.declared.Called.{Called}
use Rattle.record.specs.Record.{bytes_of, check}
use Rattle.record.specs.Call.{called_of, kept, record_after}
use Rattle.replica.proofs.Delivered.{past, or_neither}
use Rattle.steps.specs.Station.{put_at}
use Rattle.steps.specs.Step.{Outcome, when_off, hosted}
use Rattle.buffers.specs.Buffers.{with_record_at, record_damaged, on_of, own_damaged, wrong, station_of, own_size}
use Rattle.buffers.specs.Buffers.{answer_with, told, records_after, ends, host_first, record_at, records_size}
use Rattle.buffers.specs.Buffers.{record_in}
use Rattle.buffers.specs.declared.Answer.{Answer}
use Rattle.station_calls.specs.Calls.{is_on, answer_of}
use Rattle.buffers.proofs.Records.{record_same, damaged_two, damaged_is, same_called, same_after}
use Rattle.buffers.proofs.First.{long}
use Rattle.steps.proofs.Nodes.{node_on, off_number_lem}

-- ---- what the buffers' number tells
pub records_first : (n m : ℕ) (o : Outcome) (k : ℕ) (l : List ℕ) → n ≡ m → (n ≡ 0 → ⊥) → l ≡ records_after m o k l
unfolding records_after
records_first n m o k l e h = simp (ne_eqb m 0 (λ z. h (e ∙ z)))

pub record Sound (records own : List ℕ) (n : ℕ) : Type 0 where
  pub records_long : length records ≡ records_size
  pub own_long : length own ≡ own_size
  pub mask : on_of own ≤ every_node
  pub fine : record_damaged records n ≡ false

pub sound : (R O : List ℕ) (n : ℕ) → host_first (ends R O) n ≡ 0 → Sound R O n
unfolding host_first
sound R O n e =
    let a = past (wrong R records_size || wrong O own_size) 0 _ e in
    let w = or_neither (wrong R records_size) (wrong O own_size) a.0 in
    let b = past (own_damaged O) 1 _ a.1 in
    let d = past (record_damaged R n) 1 0 b.1 in
    record {
      records_long = long R records_size w.0;
      own_long = long O own_size w.1;
      mask = ltb-false every_node (on_of O) b.0;
      fine = d.0;
    }

-- ---- a host call, by its cases
module _ (R O : List ℕ) (n : ℕ) (s : Step) where
  abbrev o : Outcome
  o = hosted (station_of (ends R O)) n s

  pub off_told_lem : contains (on_of O) n ≡ false → answer_with (when_off s.number) 0 ≡ told 0 o
  unfolding told hosted
  off_told_lem e = simp e

  pub off_left : contains (on_of O) n ≡ false → R ≡ records_after 0 o n R
  unfolding records_after hosted
  off_left e = simp (e, ne_eqb (when_off s.number) 0 (off_number_lem s.number))

  pub refused_told : contains (on_of O) n ≡ true → (s.number ≡ 0 → ⊥) → answer_with s.number 0 ≡ told 0 o
  unfolding told hosted
  refused_told e h = simp (e, ne_eqb s.number 0 h)

  pub refused_left : contains (on_of O) n ≡ true → (s.number ≡ 0 → ⊥) → R ≡ records_after 0 o n R
  unfolding records_after hosted
  refused_left e h = simp (e, ne_eqb s.number 0 h)

  pub taken_told : contains (on_of O) n ≡ true → s.number ≡ 0 → answer_with 0 s.answer ≡ told 0 o
  unfolding told hosted
  taken_told e h = simp (e, eq-eqb s.number 0 h)

  pub taken_written : contains (on_of O) n ≡ true → s.number ≡ 0 → with_record_at R n (bytes_of s.coordinator) ≡ records_after 0 o n R
  unfolding records_after hosted put_at
  taken_written e h = simp (e, eq-eqb s.number 0 h, eq-eqb n n refl)

-- ---- a node that is on, in buffers of their lengths
both : (a b : Bool) → (a && b) ≡ true → (a ≡ true) × (b ≡ true)
both true b e = (refl, e)
both false b e = absurd (let z : ◌≡◌ {A = ℕ} 0 1 = ap (λ (t : Bool). cond t 1 0) e in omega arith)

pub record On (R O : List ℕ) (n : ℕ) : Type 0 where
  pub records_long : length R ≡ records_size
  pub own_long : length O ≡ own_size
  pub mask : on_of O ≤ every_node
  pub on : contains (on_of O) n ≡ true
  pub node : n < nodes

pub on_is : (R O : List ℕ) (n : ℕ) → is_on (length R) O n ≡ true → On R O n
unfolding is_on
on_is R O n e =
    let a = both _ _ e in
    let w = or_neither (not (eqb (length R) records_size)) (wrong O own_size) (not-true _ a.0) in
    let d = both _ _ a.1 in
    let m = ltb-false every_node (on_of O) (not-true _ d.0) in
    record {
      records_long = long R records_size w.0;
      own_long = long O own_size w.1;
      mask = m;
      on = d.1;
      node = node_on (on_of O) n m d.1;
    }

-- sound buffers in which the node is not on
pub off_is : (R O : List ℕ) (n : ℕ) → host_first (ends R O) n ≡ 0 → is_on (length R) O n ≡ false → contains (on_of O) n ≡ false
unfolding is_on
off_is R O n z e =
    let s = sound R O n z in
    sym (simp (eq-eqb (length R) records_size s.records_long, eq-eqb (length O) own_size s.own_long, le-ltb every_node (on_of O) s.mask)) ∙ e

pub off_all : (R O : List ℕ) (n : ℕ) → host_first (ends R O) n ≡ 0 → is_on (length R) O n ≡ false
    → (s t : Step) → s ≡ t → (k : ℕ) → k ≡ when_off s.number → (a : Answer) → a ≡ answer_with k 0
    → (a ≡ told (host_first (ends R O) n) (hosted (station_of (ends R O)) n t))
    × (R ≡ records_after (host_first (ends R O) n) (hosted (station_of (ends R O)) n t) n R)
off_all R O n z e s t p k q a g =
    let h = off_is R O n z e in
    let o = hosted (station_of (ends R O)) n t in (
      g ∙ ap (λ (j : ℕ). answer_with j 0) (q ∙ ap (λ (x : Step). when_off x.number) p) ∙ off_told_lem R O n t h ∙ ap (λ (j : ℕ). told j o) (sym z),
      off_left R O n t h ∙ ap (λ (j : ℕ). records_after j o n R) (sym z),
    )

-- ---- a call on the bytes of a node's record: damaged bytes are refused, else the call decides
module _ (R O : List ℕ) (n : ℕ) (f : Coordinator → Step) (t : On R O n) where
  abbrev l : List ℕ
  l = record_at R n

  abbrev first : ℕ
  first = host_first (ends R O) n

  abbrev s : Step
  s = f (record_in R n)

  abbrev here : Outcome
  here = hosted (station_of (ends R O)) n s

  first_is : (b : Bool) → record_damaged R n ≡ b → first ≡ cond b 2 0
  unfolding host_first
  first_is true e = simp (eq-eqb (length R) records_size t.records_long, eq-eqb (length O) own_size t.own_long, le-ltb every_node (on_of O) t.mask, e)
  first_is false e = simp (eq-eqb (length R) records_size t.records_long, eq-eqb (length O) own_size t.own_long, le-ltb every_node (on_of O) t.mask, e)

  abbrev Goal : Type 0
  Goal = (answer_of (called_of f l) ≡ told first here) × (with_record_at R n (record_after f l) ≡ records_after first here n R)

  -- the bytes are no record
  broken : eqb (check l) 0 ≡ false → Goal
  unfolding called_of record_after answer_of told records_after
  broken e =
      let d = damaged_two R n t.node t.records_long (eqb-false (check l) 0 e) in
      let z = first_is true (damaged_is R n t.node false e) in
      (simp (e, d, z), simp (e, z) (record_same R n))

  -- they are one
  whole : eqb (check l) 0 ≡ true → Goal
  unfolding answer_of kept
  whole e = by (eqb s.number 0) refl
    where
      z : first ≡ 0
      z = first_is false (damaged_is R n t.node true e)

      by : (b : Bool) → eqb s.number 0 ≡ b → Goal
      by true q =
          let y = eqb-true s.number 0 q in (
            ap answer_of (same_called R n f t.node e) ∙ simp q (taken_told R O n s t.on y) ∙ ap (λ (k : ℕ). told k here) (sym z),
            ap (with_record_at R n) (same_after R n f t.node e ∙ simp q) ∙ taken_written R O n s t.on y ∙ ap (λ (k : ℕ). records_after k here n R) (sym z),
          )
      by false q =
          let y = eqb-false s.number 0 q in (
            ap answer_of (same_called R n f t.node e) ∙ simp q (refused_told R O n s t.on y) ∙ ap (λ (k : ℕ). told k here) (sym z),
            ap (with_record_at R n) (same_after R n f t.node e ∙ simp q) ∙ record_same R n ∙ refused_left R O n s t.on y
                ∙ ap (λ (k : ℕ). records_after k here n R) (sym z),
          )

  on_bytes : Goal
  on_bytes = by (eqb (check l) 0) refl
    where
      by : (b : Bool) → eqb (check l) 0 ≡ b → Goal
      by true e = whole e
      by false e = broken e

  -- the part is lent onward, and what the call leaves of it comes back
  pub on_lent : (w : ℕ) → w ≡ n → (r : Called) → r ≡ called_of f (take (record_size * w + record_size - record_size * w) (drop (record_size * w) R))
      → (m : List ℕ) → m ≡ record_after f (take (record_size * w + record_size - record_size * w) (drop (record_size * w) R)) → (a : Answer) → a ≡ answer_of r
      → (a ≡ told first here) × (take (record_size * w) R ++ (m ++ drop (record_size * w + record_size - record_size * w) (drop (record_size * w) R)) ≡
      records_after first here n R)
  unfolding record_at with_record_at part
  on_lent w i r p m q a g =
      let e : record_size * w + record_size - record_size * w ≡ record_size = omega arith in
      let j : take (record_size * w + record_size - record_size * w) (drop (record_size * w) R) ≡ record_at R n = rw (e, i) in (
        g ∙ ap answer_of (p ∙ ap (called_of f) j) ∙ on_bytes.0,
        lent (record_after f) record_size (record_size * w) (record_size * w + record_size - record_size * w) R m e q
            ∙ ap (λ (k : ℕ). splice record_size (record_size * k) (record_after f (part record_size (record_size * k) R)) R) i ∙ on_bytes.1,
      )
