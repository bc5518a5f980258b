-- A line that ended, by what it is.
use mathlib.Core.Path.{◌≡◌, sym, ap, ◌∙◌}
use mathlib.Core.Logic.{◌≢◌}
use mathlib.Core.List.{List}
use Prim.Native.Nat.{ℕ}
use borrow.Author.Tests.{ne_eqb}
use Rattle.report.specs.Page.{Page, inks, behind}
use Rattle.service_calls.specs.Lent.{Lent}
use Rattle.script.specs.declared.Parsed.{Parsed}
use Rattle.reading.specs.declared.Reader.{Reader}
use Rattle.scenario.specs.Lines.{Ways, pick, ended_texts, line_reader, line_buffers, line_sheet, line_texts, last_texts}

-- by what the line says: q, as it was found p
module _ {A : Type 0} (w : Ways A) (p q : Parsed) (e : p ≡ q) where
  pub by_blank : p.what ≡ 2 → w.blank p ≡ pick w q
  unfolding pick
  by_blank f = sym (simp f) ∙ ap (pick w) e

  pub by_step : p.what ≡ 3 → w.step p ≡ pick w q
  unfolding pick
  by_step f = sym (simp f) ∙ ap (pick w) e

  pub by_clock : p.what ≡ 4 → w.clock p ≡ pick w q
  unfolding pick
  by_clock f = sym (simp f) ∙ ap (pick w) e

  pub by_list : p.what ≡ 5 → w.list p ≡ pick w q
  unfolding pick
  by_list f = sym (simp f) ∙ ap (pick w) e

  pub by_laid : p.what ≡ 6 → w.laid p ≡ pick w q
  unfolding pick
  by_laid f = sym (simp f) ∙ ap (pick w) e

  pub by_other : p.what ≢ 2 → p.what ≢ 3 → p.what ≢ 4 → p.what ≢ 5 → p.what ≢ 6 → w.other ≡ pick w q
  unfolding pick
  by_other f g h i j = sym (simp (ne_eqb _ _ f, ne_eqb _ _ g, ne_eqb _ _ h, ne_eqb _ _ i, ne_eqb _ _ j)) ∙ ap (pick w) e

-- the last line, and the end of the scenario that then runs
pub last_texts_lem : (r s : Reader) (list : List ℕ) (b d : Lent) (l m : List ℕ) (p q u : Page) → s ≡ line_reader r list → d ≡ line_buffers r list b
    → m ≡ line_sheet r list b l → q ≡ inks p (line_texts r list b l)
    → u ≡ inks q (ended_texts s.going d.station.images d.station.records d.settings m)
    → u ≡ inks p (last_texts r list b l)
unfolding last_texts
last_texts_lem r s list b d l m p q u e f g x y =
    behind p q u (line_texts r list b l) _ x (y ∙ (λ i. inks q (ended_texts (e i).going (f i).station.images (f i).station.records (f i).settings (g i))))
