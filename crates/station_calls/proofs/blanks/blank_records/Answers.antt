-- `station_calls::blanks::blank_records`: the records passed are blank.
use mathlib.Core.Path.{◌≡◌, refl, sym, ap, ◌∙◌}
use mathlib.Core.List.{List}
use Prim.Native.Nat.{ℕ, ◌+◌, ◌-◌, ◌*◌}
use native.Mathlib.Omega.{arith}
use native.Mathlib.Numerals.{add-one}
use lib.ListN.{length}
use borrow.Author.Tests.{eq-eqb}
use Rattle.record.specs.Layout.{record_size}
use Rattle.parts.specs.Parts.{part, splice}
use Rattle.parts.proofs.Laws.{lent, length_part}
use Rattle.coordinator.specs.State.{blank_record}
use Rattle.record.specs.Record.{bytes_of}
use Rattle.record.specs.Call.{blank_after}
use Rattle.station_calls.specs.Calls.{each_part, records_blank}
use Rattle.station_calls.proofs.blanks.blank_records.Goals as goal

made : (l : List ℕ) → length l ≡ record_size → blank_after l ≡ bytes_of blank_record
unfolding blank_after
made l e = simp (eq-eqb (length l) record_size e)

pub loop-n-init : goal.loop-n-init
unfolding each_part
loop-n-init c = refl

pub loop-n-preserved : goal.loop-n-preserved
unfolding each_part
loop-n-preserved c = let l = c.loop-n in
    let n = l.n in
    let t = c.loop-n-test.true in
    let k = l.auto.records ∙ c.requires in
    let e : record_size * n + record_size - record_size * n ≡ record_size = omega arith in
    let q : length (part record_size (record_size * n) l.records) ≡ record_size = length_part record_size (record_size * n) l.records (omega arith) in
    let b = lent blank_after record_size (record_size * n) (record_size * n + record_size - record_size * n) l.records _ e c.blank.ensures.bytes_after
    ∙ ap (λ (m : List ℕ). splice record_size (record_size * n) m l.records) (made (part record_size (record_size * n) l.records) q) in
    b ∙ ap (splice record_size (record_size * n) (bytes_of blank_record)) l.invariant
    ∙ ap (λ (j : ℕ). records_blank j c.args.records.now) (sym (add-one n))
