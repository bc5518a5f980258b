-- `closing::tenths::node`: no text, or the line's texts one behind another.
use mathlib.Core.Path.{◌≡◌, sym, ap, ◌∙◌}
use mathlib.Core.Bool.{Bool, cond}
use mathlib.Core.List.{List, [], ◌∷◌, ◌++◌}
use Prim.Native.Nat.{ℕ}
use lib.Dec.{eqb}
use borrow.Author.Tests.{eq-eqb, ne_eqb}
use Rattle.classes.specs.Classes.{most_classes}
use Rattle.record.specs.declared.Called.{Called}
use Rattle.frontend.specs.Tell.{waiting_of}
use Rattle.report.specs.Page.{Page, page, inks, behind}
use Rattle.report.specs.Each.{each_from}
use Rattle.report.specs.Texts.{Text, number_texts}
use Rattle.closing.specs.Texts.{waiting_text, line_end, nth_class_texts, node_texts}
use Rattle.closing.proofs.tenths.node.Goals as goal

abbrev whole : List ℕ → List ℕ → ℕ → List Text
whole bytes settings n = number_texts waiting_text n ++ each_from (nth_class_texts bytes settings) most_classes 0 ++ (line_end ∷ [])

no_table_lem : (p : Page) (bytes settings : List ℕ) (n : ℕ) (w : Called) → w ≡ waiting_of bytes settings 0 → (w.number ≡ 0 → ⊥)
    → p ≡ inks p (node_texts bytes settings n)
unfolding node_texts inks
no_table_lem p bytes settings n w e f =
    ap (λ (s : Bool). inks p (cond s (whole bytes settings n) [])) (sym (ne_eqb w.number 0 f))
    ∙ ap (λ (v : Called). inks p (cond (eqb v.number 0) (whole bytes settings n) [])) e

its_line : (bytes settings : List ℕ) (n : ℕ) (w : Called) → w ≡ waiting_of bytes settings 0 → w.number ≡ 0
    → node_texts bytes settings n ≡ whole bytes settings n
unfolding node_texts
its_line bytes settings n w e f =
    ap (λ (v : Called). cond (eqb v.number 0) (whole bytes settings n) []) (sym e)
    ∙ ap (λ (s : Bool). cond s (whole bytes settings n) []) (eq-eqb w.number 0 f)

pub returns-then-first-ne0 : goal.returns-then-first-ne0
returns-then-first-ne0 c = let x = c.args in
    no_table_lem (page x.out.now x.at) x.bytes.now x.settings.now x.n _ c.waiting-first.ensures c.if-first-ne0.true

pub returns : goal.returns
unfolding inks
returns c = let x = c.args in
    let f = c.text in
    let p = page x.out.now x.at in
    let q = page c.classes-b.new.out c.classes-b.result in
    let one = number_texts waiting_text x.n in
    let two = each_from (nth_class_texts x.bytes.now x.settings.now) most_classes 0 in
    let a : q ≡ inks p (one ++ two) =
    behind p (page c.number-a.new.out c.number-a.result) q one two (rw c.from.ensures at c.number-a.ensures) c.classes-b.ensures in
    behind p q (page f.new.out f.result) (one ++ two) (line_end ∷ []) a f.ensures
    ∙ ap (inks p) (sym (its_line x.bytes.now x.settings.now x.n _ c.waiting-first.ensures c.if-first-ne0.false))
