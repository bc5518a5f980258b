-- `closing::copies::by`: by the owner, a text of its own or two numbers one behind the other.
use mathlib.Core.Path.{◌≡◌, sym, ap, ◌∙◌}
use mathlib.Core.List.{[], ◌∷◌, ◌++◌}
use Prim.Native.Nat.{ℕ}
use borrow.Author.Tests.{eq-eqb, ne_eqb}
use Rattle.numbers.specs.Sizes.{nobody, unknown}
use Rattle.report.specs.Page.{page, inks, behind}
use Rattle.report.specs.Texts.{number_texts}
use Rattle.closing.specs.Texts.{by_text, by_nobody_text, by_unknown_text, slash_text, author_texts}
use Rattle.closing.proofs.copies.by.Goals as goal

by_nobody : (o s : ℕ) → o ≡ nobody → author_texts o s ≡ by_nobody_text ∷ []
unfolding author_texts
by_nobody o s e = rw (eq-eqb o nobody e)

by_unknown : (o s : ℕ) → (o ≡ nobody → ⊥) → o ≡ unknown → author_texts o s ≡ by_unknown_text ∷ []
unfolding author_texts
by_unknown o s n e = rw (ne_eqb o nobody n, eq-eqb o unknown e)

by_one : (o s : ℕ) → (o ≡ nobody → ⊥) → (o ≡ unknown → ⊥) → author_texts o s ≡ number_texts by_text o ++ number_texts slash_text s
unfolding author_texts
by_one o s n m = rw (ne_eqb o nobody n, ne_eqb o unknown m)

pub returns-then-owner-eq-NOBODY : goal.returns-then-owner-eq-NOBODY
unfolding inks
returns-then-owner-eq-NOBODY c = let x = c.args in
    c.text.ensures ∙ ap (inks (page x.out.now x.at)) (sym (by_nobody x.owner x.serial c.if-owner-eq-NOBODY.true))

pub returns-then-owner-eq-UNKNOWN : goal.returns-then-owner-eq-UNKNOWN
unfolding inks
returns-then-owner-eq-UNKNOWN c = let x = c.args in
    c.text-then-owner-eq-UNKNOWN.ensures
    ∙ ap (inks (page x.out.now x.at)) (sym (by_unknown x.owner x.serial c.if-owner-eq-NOBODY.false c.if-owner-eq-UNKNOWN.true))

pub returns : goal.returns
returns c = let x = c.args in
    let d = c.number-c in
    let e = c.number in
    behind (page x.out.now x.at) (page d.new.out d.result) (page e.new.out e.result) (number_texts by_text x.owner)
    (number_texts slash_text x.serial) (rw c.from.ensures at d.ensures) (rw c.from-2.ensures at e.ensures)
    ∙ ap (inks (page x.out.now x.at)) (sym (by_one x.owner x.serial c.if-owner-eq-NOBODY.false c.if-owner-eq-UNKNOWN.false))
