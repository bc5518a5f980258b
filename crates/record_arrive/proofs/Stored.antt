-- What a delivery leaves: pieces stored over the bytes of a record give the bytes of the record changed.
use mathlib.Core.Path.{◌≡◌, refl, sym, ap, ◌∙◌}
use mathlib.Core.Bool.{Bool, true, false, not, ◌&&◌}
use mathlib.Core.List.{List}
use Prim.Native.Nat.{ℕ, zero, suc, ◌<◌}
use native.Mathlib.Omega.{arith}
use lib.Dec.{eqb}
use lib.ListN.{length, set}
use borrow.Author.Tests.{ltb-true, eqb-true}
use lib.Seq.{sets}
use Rattle.numbers.specs.Sizes.{nodes, most_open}
use Rattle.octets.proofs.Laws.{Bytes}
use Rattle.octets.specs.Octets.{put, le}
use Rattle.wire.specs.Encode.{together}
use Rattle.wire.specs.Decode.{from_of, rival_count}
use Rattle.mask.specs.Mask.{only, joined, within}
use Rattle.coordinator.specs.declared.Coordinator.{Coordinator}
use Rattle.coordinator.specs.State.{open_phase, place_of, object_at, is_open, ready}
use Rattle.coordinator.specs.Calls.{with_phase}
use Rattle.arrivals.specs.Receive.{answers, copy_fits, raise_from, with_yes}
use Rattle.coordinator.specs.System.{tree}
use Rattle.wire.specs.Items.{entry_of}
use Rattle.record.specs.Record.{record_of, bytes_of, check}
use Rattle.record.specs.Call.{called, told_by, kept}
use Rattle.record_arrive.specs.Change.{with_rivals, yes_taken}
use Rattle.record.proofs.Kept.{checked_meets, same_bytes}
use Rattle.record.proofs.Pieces.{turned}
use Rattle.record.proofs.Pieces.{yes_put, done_put, rivals_changed}

-- an answer fits its phase
pub answers_phase : (c : Coordinator) (phase nodes : ℕ) (m : List ℕ) → answers c phase nodes m ≡ true → c.phase ≡ phase
answers_phase c phase nodes m e = eqb-true c.phase phase (first (eqb c.phase phase) _ e)
  where
    first : (a d : Bool) → (a && d) ≡ true → a ≡ true
    first true d e = refl
    first false d e = e

-- a copy counts only for an object that is open
pub copied_open : (c : Coordinator) (m : List ℕ) → copy_fits tree c m ≡ true → place_of c (entry_of m 0).object < most_open
unfolding copy_fits
copied_open c m e =
    let x = object_at c (entry_of m 0).object in
    ltb-true (place_of c (entry_of m 0).object) most_open
    (middle (answers c open_phase c.contacted m) (is_open c (entry_of m 0).object) (eqb (entry_of m 0).mode x.mode && not (ready tree x)) e)
  where
    middle : (a b d : Bool) → (a && (b && d)) ≡ true → b ≡ true
    middle true true d e = refl
    middle true false d e = e
    middle false b d e = absurd (let z : ◌≡◌ {A = ℕ} 0 1 = cc in omega arith)

module _ (l : List ℕ) (b : Bytes l) (e : check l ≡ 0) where
  abbrev c : Coordinator
  c = record_of l

  -- who said done; the rivals
  pub done_stored : (v : ℕ)
      → put 2 l 247 v
      ≡ bytes_of (with_phase (record_of l) (record_of l).phase (record_of l).outcome (record_of l).participants (record_of l).yes v (record_of l).rivals)
  done_stored v =
      let z = (checked_meets l e).sizes in
      ap (λ (m : List ℕ). put 2 m 247 v) (sym (same_bytes l b e)) ∙ done_put c z.distances_13 z.objects_8 z.rivals_13 v

  pub rivals_stored : (rivals : List ℕ) → length rivals ≡ nodes → sets l 249 (together (le 4) rivals) ≡ bytes_of (with_rivals (record_of l) rivals)
  rivals_stored rivals n =
      let z = (checked_meets l e).sizes in
      ap (λ (m : List ℕ). sets m 249 (together (le 4) rivals)) (sym (same_bytes l b e))
      ∙ rivals_changed c z.distances_13 z.objects_8 z.rivals_13 rivals n

  -- a message that names no rivals raises none
  pub none_raised : (m : List ℕ) (n : ℕ) → n ≡ 0
      → (l ≡ bytes_of (with_rivals (record_of l) (raise_from m n 0 (record_of l).rivals))) × (length (raise_from m n 0 (record_of l).rivals) ≡ nodes)
  unfolding raise_from bytes_of
  none_raised m zero h = (sym (same_bytes l b e), (checked_meets l e).sizes.rivals_13)
  none_raised m (suc n) h = absurd (let z : ⊥ = omega arith in z)

  -- a yes with its rivals: the last one commits
  module _ (m : List ℕ) (n : length (raise_from m (rival_count m) 0 (record_of l).rivals) ≡ nodes) where
    abbrev rs : List ℕ
    rs = raise_from m (rival_count m) 0 (record_of l).rivals

    abbrev a : ℕ
    a = joined (record_of l).yes (only (from_of m))

    counted : put 2 (bytes_of (with_rivals c rs)) 245 a ≡ bytes_of (with_phase c c.phase c.outcome c.participants a c.done rs)
    counted = let z = (checked_meets l e).sizes in yes_put (with_rivals c rs) z.distances_13 z.objects_8 n a

    pub yes_commits : within (record_of l).participants (joined (record_of l).yes (only (from_of m))) ≡ true
        → (called 0 1 ≡ told_by (yes_taken (record_of l) m))
        × (set
        (set (put 2 (bytes_of (with_rivals (record_of l) (raise_from m (rival_count m) 0 (record_of l).rivals))) 245 (joined (record_of l).yes (only
        (from_of m)))) 8 1)
        9 3 ≡ bytes_of (yes_taken (record_of l) m).coordinator)
    unfolding with_yes
    yes_commits t =
        let z = (checked_meets l e).sizes in
        let d : Coordinator = with_phase c c.phase c.outcome c.participants a c.done rs in (
          simp t,
          ap (λ (k : List ℕ). set (set k 8 1) 9 3) counted ∙ turned d z.distances_13 z.objects_8 n 1 3 ∙ simp t,
        )

    pub yes_waits : within (record_of l).participants (joined (record_of l).yes (only (from_of m))) ≡ false → (record_of l).phase ≡ 2
        → (called 0 0 ≡ told_by (yes_taken (record_of l) m))
        × (put 2 (bytes_of (with_rivals (record_of l) (raise_from m (rival_count m) 0 (record_of l).rivals))) 245 (joined (record_of l).yes (only (from_of m)))
        ≡ bytes_of (yes_taken (record_of l) m).coordinator)
    unfolding with_yes
    yes_waits t f =
        (simp t, counted ∙ ap (λ (k : ℕ). bytes_of (with_phase c k c.outcome c.participants a c.done rs)) f ∙ simp t)

-- a yes has no number
pub yes_kept : (d : Coordinator) (m l : List ℕ) → bytes_of (yes_taken d m).coordinator ≡ kept (yes_taken d m) l
unfolding with_yes kept
yes_kept d m l = by (within d.participants (joined d.yes (only (from_of m)))) refl
  where
    by : (t : Bool) → within d.participants (joined d.yes (only (from_of m))) ≡ t → bytes_of (yes_taken d m).coordinator ≡ kept (yes_taken d m) l
    by true h = simp h
    by false h = simp h
