-- `intake::is_valid`: what is taken in is judged, and the counts beside it.
use mathlib.Core.Path.{◌≡◌, refl, sym, ap₂, ◌∙◌}
use mathlib.Core.Bool.{◌&&◌}
use native.Mathlib.Omega.{arith}
use lib.Dec.{eqb}
use borrow.Author.Tests.{ne_eqb}
use Rattle.std.specs.Prelude.{Result, Ok, Err, is_ok}
use Rattle.numbers.specs.declared.refusals.Refusal.{Refusal}
use Rattle.numbers.specs.Outcome.{code_of, number_of}
use Rattle.numbers.proofs.Outcome.{code_counts}
use Rattle.octets.proofs.Laws.{Bytes}
use Rattle.image.specs.Layout.{shape}
use Rattle.image.specs.Valid.{valid}
use Rattle.intake.specs.Take.{taken_in}
use Rattle.intake.specs.Pass.{shape_of}
use Rattle.intake.proofs.Taken.{length_taken}
use Rattle.intake.proofs.Judged.{taken_valid, check_says}
use Rattle.intake.proofs.is_valid.Goals as goal

-- what is refused has a number
ok_is : (r : Result (Unit {0}) Refusal) → is_ok r ≡ eqb (number_of r) 0
ok_is (Ok x) = refl
ok_is (Err e) = sym (ne_eqb (code_of e) 0 (code_counts e))

pub returns : goal.returns
returns c = let s = shape_of c.args.s in
    let l = c.args.old.now in
    let valid_is : eqb (number_of c.check.result) 0 ≡ valid shape (taken_in s l) =
    rw (c.check.ensures, c.requires.1) (check_says (taken_in s l) (length_taken s l)) in
    let said = c.is_ok.ensures.value ∙ ok_is c.check.result ∙ valid_is in
    let bytes : Bytes l = λ j. omega (arith, c.type_inv.old j) in
    c.both.ensures ∙ ap₂ ◌&&◌ c.counts_ok.ensures said ∙ sym (taken_valid s l c.requires.0.0 bytes)
