-- Bytes that pass the check are a record that meets the clauses and fits its widths, and back: so a call that keeps both leaves a record.
use mathlib.Core.Path.{◌≡◌, refl, ap, ◌∙◌}
use mathlib.Core.Bool.{Bool, true, false, cond, ◌&&◌}
use mathlib.Core.List.{List}
use Prim.Native.Nat.{ℕ, zero, suc, ◌+◌, ◌^◌, ◌<◌}
use native.Mathlib.Omega.{arith}
use lib.Dec.{eqb, lit<}
use lib.ListN.{length, get_or}
use borrow.Author.Tests.{eq-eqb}
use Rattle.record.specs.Layout.{record_size}
use Rattle.numbers.specs.Sizes.{nodes, most_open}
use Rattle.octets.specs.Octets.{get}
use Rattle.octets.proofs.Laws.{Bytes, get_small}
use Rattle.wire.specs.Decode.{items_from}
use Rattle.coordinator.specs.declared.Coordinator.{Coordinator}
use Rattle.coordinator.specs.Step.{Step}
use Rattle.coordinator.specs.System.{tree}
use Rattle.coordinator.specs.State.{no_object, blank_record}
use Rattle.clauses.specs.Clauses.{meets}
use Rattle.clauses.proofs.Parts.{on_cond}
use Rattle.clauses.proofs.Facts.{Meets, meets_facts, facts_meet}
use Rattle.clauses.proofs.Keep.{blank_meets}
use Rattle.clauses.proofs.Fits.{Valued, Widths, Fits, widths_fit, blank_fits}
use Rattle.record.specs.Record.{object_of, distances_of, objects_of, rivals_of, record_of, bytes_of, given_ok, check}
use Rattle.record.specs.Call.{kept, record_after}
use Rattle.record.proofs.Stores.{length_bytes}
use Rattle.record.proofs.OnBytes.{checked_length}
use Rattle.record.proofs.RoundTrip.{given_bytes, record_bytes, bytes_record, bytes_small}

-- ---- the record that bytes are fits its widths
items_hold : {A : Type 0} (P : A → Type 0) (at : List ℕ → ℕ → A) (size : ℕ) (l : List ℕ) (d : A) → P d → ((i : ℕ) → P (at l i))
    → (n base i : ℕ) → P (get_or (items_from at size n l base) i d)
unfolding items_from
items_hold P at size l d p f zero base i = p
items_hold P at size l d p f (suc n) base zero = f base
items_hold P at size l d p f (suc n) base (suc i) = items_hold P at size l d p f n (base + size) i

object_valued : (l : List ℕ) → Bytes l → (i : ℕ) → Valued (object_of l i)
unfolding object_of
object_valued l b i = record { version_32 = get_small 4 l (i + 4) b; value_64 = get_small 8 l (i + 8) b; new_64 = get_small 8 l (i + 17) b }

record_widths : (l : List ℕ) → Bytes l → Widths (record_of l)
unfolding record_of distances_of objects_of rivals_of
record_widths l b =
    record {
      serial_32 = get_small 4 l 0 b;
      timestamp_32 = get_small 4 l 4 b;
      distances_16 = items_hold (λ (n : ℕ). n < 2 ^ 16) (get 2) 2 l 0 (lit< tt) (λ i. get_small 2 l i b) nodes 12;
      objects_fit = items_hold Valued object_of 25 l no_object (record { version_32 = lit< tt; value_64 = lit< tt; new_64 = lit< tt })
          (object_valued l b) most_open 43;
      rivals_32 = items_hold (λ (n : ℕ). n < 2 ^ 32) (get 4) 4 l 0 (lit< tt) (λ i. get_small 4 l i b) nodes 249;
    }

-- ---- what passes the check
sound : (a g m : Bool) → ◌≡◌ {A = ℕ} (cond a (cond (g && m) 0 2) 1) 0 → m ≡ true
sound true true true e = refl
sound true true false e = absurd (let z : ⊥ = omega arith in z)
sound true false m e = absurd (let z : ⊥ = omega arith in z)
sound false g m e = absurd (let z : ⊥ = omega arith in z)

-- bytes that are a record: it meets the clauses and fits
pub checked_meets : (l : List ℕ) → check l ≡ 0 → Meets tree (record_of l)
unfolding check
checked_meets l e = meets_facts tree (record_of l) (sound (eqb (length l) record_size) (given_ok most_open l) (meets tree (record_of l)) e)

pub checked_fits : (l : List ℕ) → Bytes l → check l ≡ 0 → Fits (record_of l)
checked_fits l b e = widths_fit tree (record_of l) (checked_meets l e) (record_widths l b)

sound_given : (a g m : Bool) → ◌≡◌ {A = ℕ} (cond a (cond (g && m) 0 2) 1) 0 → g ≡ true
sound_given true true m e = refl
sound_given true false m e = absurd (let z : ⊥ = omega arith in z)
sound_given false g m e = absurd (let z : ⊥ = omega arith in z)

-- its bytes are the bytes
pub same_bytes : (l : List ℕ) → Bytes l → check l ≡ 0 → bytes_of (record_of l) ≡ l
unfolding check
same_bytes l b e =
    bytes_record l b (checked_length l e) (sound_given (eqb (length l) record_size) (given_ok most_open l) (meets tree (record_of l)) e)

-- and back: the bytes of such a record are one
pub bytes_checked : (c : Coordinator) → Meets tree c → Fits c → check (bytes_of c) ≡ 0
unfolding check
bytes_checked c m f =
    let n = eq-eqb (length (bytes_of c)) record_size (length_bytes c f.distances_13 f.objects_8 f.rivals_13) in
    let t : meets tree (record_of (bytes_of c)) ≡ true = ap (meets tree) (record_bytes c f) ∙ facts_meet tree c m in
    simp (n, given_bytes c f, t)

pub blank_checked : check (bytes_of blank_record) ≡ 0
blank_checked = bytes_checked blank_record (blank_meets tree) (blank_fits tree)

-- ---- a call that keeps clauses and widths leaves a record
abbrev pub Keeps : (Coordinator → Step) → Type 0
Keeps f = (c : Coordinator) → Meets tree c → Fits c → Meets tree (f c).coordinator × Fits (f c).coordinator

pub call_keeps : (f : Coordinator → Step) → Keeps f → (l : List ℕ) → Bytes l → check l ≡ 0 → (check (record_after f l) ≡ 0) × Bytes (record_after f l)
unfolding record_after kept
call_keeps f k l b e =
    let s : Step = f (record_of l) in
    let g = k (record_of l) (checked_meets l e) (checked_fits l b e) in
    let t = eq-eqb (check l) 0 e in
    simp t
    (on_cond (λ (x : List ℕ). (check x ≡ 0) × Bytes x) (eqb s.number 0) (bytes_of s.coordinator) l
    (λ z. (bytes_checked s.coordinator g.0 g.1, bytes_small s.coordinator g.1)) (λ z. (e, b)))
