-- A host call at a node that is off: by its number on the bytes of the node's record, where 2 stays and every other becomes that of a node that is off.
use mathlib.Core.Path.{◌≡◌, refl, sym, ap, ◌∙◌}
use mathlib.Core.Bool.{Bool, true, false, cond, not, ◌&&◌}
use mathlib.Core.List.{List, [], ◌∷◌}
use Prim.Native.Nat.{ℕ, ◌+◌, ◌-◌, ◌*◌, ◌≤◌, ◌<◌}
use native.Mathlib.Omega.{arith}
use lib.Dec.{T, eqb, T_not}
use lib.ListN.{length, take, drop}
use borrow.Author.Tests.{eq-eqb, ne_eqb, eqb-false, le-ltb}
use Rattle.record.specs.Layout.{record_size}
use Rattle.numbers.specs.Sizes.{nodes}
use Rattle.mask.proofs.Tests.{and_left, and_right}
use Rattle.numbers.specs.Refusal.{Refusal, first_of}
use Rattle.coordinator.specs.declared.Coordinator.{Coordinator}
use Rattle.coordinator.specs.Step.{Step}
use Rattle.coordinator.specs.State.{step_of}
use Rattle.clauses.proofs.Parts.{eq-T}
use Rattle.parts.specs.Parts.{part}
use Rattle.record.specs.declared.Called.{Called}
use Rattle.record.specs.Record.{check}
use Rattle.record.specs.Call.{called_of}
use Rattle.deeds.proofs.Number.{step_number}
use Rattle.steps.specs.Step.{Outcome, when_off, hosted}
use Rattle.buffers.specs.Buffers.{record_damaged, station_of, answer_with, told, records_after, ends, host_first, record_at, record_in}
use Rattle.buffers.specs.declared.Answer.{Answer}
use Rattle.station_calls.specs.Calls.{is_on}
use Rattle.buffers.specs.Buffers.{ends_first}
use Rattle.buffers.proofs.Records.{damaged_two, damaged_is, same_called}
use Rattle.buffers.proofs.First.{told_first, ends_next, ends_long}
use Rattle.station_calls.proofs.Hosted.{records_first, off_all}

-- ---- no call of the host has the number 2 of its own
abbrev pub none_two : List Refusal → Bool
none_two [] = true
none_two (r ∷ rs) = not (eqb r.number 2) && none_two rs

not_two : (b : Bool) (n m : ℕ) → T (not (eqb n 2)) → (m ≡ 2 → ⊥) → cond b n m ≡ 2 → ⊥
not_two true n m t f e = T_not (eqb n 2) t (eq-T n 2 e)
not_two false n m t f e = f e

never_two : (rs : List Refusal) → T (none_two rs) → first_of rs ≡ 2 → ⊥
never_two [] t e = omega arith
never_two (r ∷ rs) t e =
    not_two r.fits r.number (first_of rs) (and_left (not (eqb r.number 2)) (none_two rs) t)
    (never_two rs (and_right (not (eqb r.number 2)) (none_two rs) t)) e

pub step_not_two : (rs : List Refusal) (a : ℕ) (c d : Coordinator) → T (none_two rs) → (step_of (first_of rs) a c d).number ≡ 2 → ⊥
step_not_two rs a c d t e = never_two rs t (step_number (first_of rs) a c d ∙ e)

-- what is no node is a stranger at every call
pub step_stranger : (rs : List Refusal) (a : ℕ) (c d : Coordinator) → first_of rs ≡ 4 → (step_of (first_of rs) a c d).number ≡ 4
step_stranger rs a c d e = sym (step_number (first_of rs) a c d) ∙ e

module _ (R O : List ℕ) (n : ℕ) (e : ends_first (length R) O ≡ 0) (off : is_on (length R) O n ≡ false) where
  abbrev first : ℕ
  first = host_first (ends R O) n

  -- a number above 12
  pub off_stranger : (s : Step) → nodes ≤ n → s.number ≡ 4 → (a : Answer) → a ≡ answer_with 4 0
      → (a ≡ told (host_first (ends R O) n) (hosted (station_of (ends R O)) n s))
      × (R ≡ records_after (host_first (ends R O) n) (hosted (station_of (ends R O)) n s) n R)
  unfolding record_damaged
  off_stranger s h p a g =
      let z : first ≡ 0 = ends_next R O n e ∙ simp (le-ltb n nodes h) in
      off_all R O n z off s s refl 4 (ap when_off (sym p)) a g

  -- a node, by the number on the bytes of its record
  module _ (f : Coordinator → Step) (h : n < nodes) (other : (f (record_in R n)).number ≡ 2 → ⊥) where
    abbrev l : List ℕ
    l = record_at R n

    abbrev s : Step
    s = f (record_in R n)

    abbrev here : Outcome
    here = hosted (station_of (ends R O)) n s

    by_check : (b : Bool) → eqb (check l) 0 ≡ b → (m : ℕ) → m ≡ (called_of f l).number → (k : ℕ) → k ≡ cond (eqb m 2) 2 (when_off m)
        → (a : Answer) → a ≡ answer_with k 0 → (a ≡ told first here) × (R ≡ records_after first here n R)
    unfolding called_of
    by_check true t m p k q a g =
        let z : first ≡ 0 = ends_next R O n e ∙ ap (λ (b : Bool). cond b 2 0) (damaged_is R n h true t) in
        let i : m ≡ s.number = p ∙ ap (λ (c : Called). c.number) (same_called R n f h t) in
        let j : k ≡ when_off s.number = q ∙ simp (ne_eqb m 2 (λ y. other (sym i ∙ y))) (ap when_off i) in
        off_all R O n z off s s refl k j a g
    by_check false t m p k q a g =
        let d = damaged_two R n h (ends_long R O n e) (eqb-false (check l) 0 t) in
        let z : first ≡ 2 = ends_next R O n e ∙ ap (λ (b : Bool). cond b 2 0) (damaged_is R n h false t) in
        let i : m ≡ 2 = p ∙ simp (t, d) in
        let j : k ≡ first = q ∙ simp (eq-eqb m 2 i) (sym z) in
        let w : k ≡ 0 → ⊥ = λ y. (let x : ◌≡◌ {A = ℕ} 2 0 = sym z ∙ sym j ∙ y in omega arith) in
        (g ∙ told_first k first here j w, records_first k first here n R j w)

    pub off_lent : (w : ℕ) → w ≡ n → (m : ℕ) → m ≡ (called_of f (take (record_size * w + record_size - record_size * w) (drop (record_size * w) R))).number
        → (k : ℕ) → k ≡ cond (eqb m 2) 2 (when_off m) → (a : Answer) → a ≡ answer_with k 0
        → (a ≡ told (host_first (ends R O) n) (hosted (station_of (ends R O)) n (f (record_in R n))))
        × (R ≡ records_after (host_first (ends R O) n) (hosted (station_of (ends R O)) n (f (record_in R n))) n R)
    unfolding record_at part
    off_lent w i m p k q a g =
        let x : record_size * w + record_size - record_size * w ≡ record_size = omega arith in
        let y : take (record_size * w + record_size - record_size * w) (drop (record_size * w) R) ≡ record_at R n = rw (x, i) in
        by_check (eqb (check l) 0) refl m (p ∙ ap (λ (b : List ℕ). (called_of f b).number) y) k q a g
