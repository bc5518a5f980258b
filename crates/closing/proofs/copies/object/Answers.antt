-- `closing::copies::object`: no text, or the line's texts one behind another.
use mathlib.Core.Path.{◌≡◌, sym, ap, ◌∙◌}
use mathlib.Core.Bool.{Bool, true, false, cond, ◌&&◌}
use mathlib.Core.List.{List, [], ◌∷◌, ◌++◌}
use Prim.Native.Nat.{ℕ}
use lib.Dec.{eqb}
use Rattle.report.specs.Page.{Page, page, inks, behind}
use Rattle.report.specs.Texts.{Text, value_texts}
use Rattle.closing.specs.declared.Best.{Best}
use Rattle.closing.specs.Texts.{replay_text, line_end, copy_texts, author_texts, object_texts}
use Rattle.closing.proofs.copies.object.Goals as goal

abbrev whole : ℕ → Best → ℕ → List Text
whole t b v = copy_texts t b ++ author_texts b.author b.serial ++ value_texts replay_text v ++ (line_end ∷ [])

never_written : (p : Page) (t : ℕ) (b : Best) (v : ℕ) → (eqb b.version 0 && eqb v 0) ≡ true → p ≡ inks p (object_texts t b v)
unfolding object_texts inks
never_written p t b v e = ap (λ (s : Bool). inks p (cond s [] (whole t b v))) (sym e)

its_line : (t : ℕ) (b : Best) (v : ℕ) → (eqb b.version 0 && eqb v 0) ≡ false → object_texts t b v ≡ whole t b v
unfolding object_texts
its_line t b v e = ap (λ (s : Bool). cond s [] (whole t b v)) e

pub returns-then-both : goal.returns-then-both
returns-then-both c = let x = c.args in
    never_written (page x.out.now x.at) x.t x.b x.replayed (sym c.both.ensures ∙ c.if-both.true)

pub returns : goal.returns
unfolding inks
returns c = let x = c.args in
    let d = c.copy-c in
    let y = c.by-w in
    let e = c.value-d in
    let f = c.text in
    let p = page x.out.now x.at in
    let q = page y.new.out y.result in
    let r = page e.new.out e.result in
    let one = copy_texts x.t x.b in
    let two = author_texts x.b.author x.b.serial in
    let three = value_texts replay_text x.replayed in
    let a : q ≡ inks p (one ++ two) = behind p (page d.new.out d.result) q one two d.ensures y.ensures in
    let b : r ≡ inks p (one ++ two ++ three) = behind p q r (one ++ two) three a e.ensures in
    behind p r (page f.new.out f.result) (one ++ two ++ three) (line_end ∷ []) b f.ensures
    ∙ ap (inks p) (sym (its_line x.t x.b x.replayed (sym c.both.ensures ∙ c.if-both.false)))
