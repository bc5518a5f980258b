-- The lines of the input: what each leaves of the reader, the buffers, the list and replay's sheet, and what is printed for it.
use Rattle.std.specs.Prelude.{ℕ, Bool, true, cond, List, [], ◌++◌, eqb, ltb, take}
use Rattle.numbers.specs.Sizes.{every_node}
use Rattle.numbers.specs.Numbers.{stranger}
use Rattle.replay.specs.Sheet.{blank_after as sheetBlank}
use Rattle.lists.specs.declared.Shape.{Shape}
use Rattle.lists.specs.declared.Shape.TheVariants.{Hours, Classes, Weights}
use Rattle.lists.specs.Lists.{appended, fits, laid}
use Rattle.service_calls.specs.Lent.{Lent, blank_number, blank_after}
use Rattle.orders.specs.declared.Kind.{Kind}
use Rattle.orders.specs.declared.Kind.TheVariants.{Begin, Batch, OpenRead, OpenWrite, SetValue, Found, Reselect, RequestCommit, Abort}
use Rattle.orders.specs.declared.Kind.TheVariants.{LoadHours, LoadClasses, Send, Deliver, Drop, Switch}
use Rattle.orders.specs.declared.Order.{Order}
use Rattle.runs.specs.Order.{call_of}
use Rattle.runs.specs.Left.{left_of}
use Rattle.report.specs.Texts.{Text}
use Rattle.results.specs.Results.{refusal_texts}
use Rattle.closing.specs.Texts.{closing_texts}
use Rattle.script.specs.declared.Parsed.{Parsed}
use Rattle.script.specs.Parse.{parsed}
use Rattle.reading.specs.declared.Reader.{Reader}
use Rattle.reading.specs.Reading.{noted, next, kept, clocked, relisted, timed}
use Rattle.reading.specs.Notes.{echo_texts, complaint_texts, bad_texts, list_reader, list_texts}
use Rattle.performing.specs.Steps.{step_texts, step_sheet}

-- ---- what a line is: 1 bad, 2 `blank`, 3 a step, 4 `clock`, 5 `list`, 6 a step that takes what is listed, 0 nothing (crate script)
-- what is chosen by what a line says
pub record Ways (A : Type 0) : Type 0 where
  pub blank : Parsed → A
  pub step : Parsed → A
  pub clock : Parsed → A
  pub list : Parsed → A
  pub laid : Parsed → A
  pub other : A

unfoldable pub pick : {A : Type 0} → Ways A → Parsed → A
pick w p =
    cond (eqb p.what 2) (w.blank p)
    (cond (eqb p.what 3) (w.step p)
    (cond (eqb p.what 4) (w.clock p) (cond (eqb p.what 5) (w.list p) (cond (eqb p.what 6) (w.laid p) w.other))))

-- ---- the end of the scenario that runs
unfoldable pub ended_texts : Bool → List ℕ → List ℕ → List ℕ → List ℕ → List Text
ended_texts going images records settings sheet = cond going (closing_texts images records settings sheet) []

-- ---- a `blank`: the end of the scenario that runs, and a new one, with the clock at 0 and nothing listed. One that names what is no node is refused and
-- changes nothing
unfoldable pub started_texts : ℕ → List Text
started_texts number = cond (eqb number 0) [] (refusal_texts number)

unfoldable pub anew_texts : Reader → Lent → List ℕ → ℕ → List Text
anew_texts r b sheet mask =
    cond (ltb every_node mask) (echo_texts r ++ refusal_texts stranger)
    (ended_texts r.going b.station.images b.station.records b.settings sheet ++ (echo_texts r ++ started_texts (blank_number b mask)))

unfoldable pub anew_reader : Reader → ℕ → Reader
anew_reader r mask = cond (ltb every_node mask) (next r r.going) (next (kept r 0 0 0) true)

unfoldable pub anew_buffers : Lent → ℕ → Lent
anew_buffers b mask = cond (ltb every_node mask) b (blank_after b mask)

unfoldable pub anew_sheet : List ℕ → ℕ → List ℕ
anew_sheet sheet mask = cond (ltb every_node mask) sheet (sheetBlank sheet)

-- ---- `hours`, `classes`, `batch`: a step with what is listed, laid as its kind has it, after which nothing is listed. Where a number is too wide for its
-- place it is bad
unfoldable pub shape_of : Kind → Shape
shape_of LoadHours = Hours
shape_of LoadClasses = Classes
shape_of Batch = Weights
shape_of Begin = Hours
shape_of OpenRead = Hours
shape_of OpenWrite = Hours
shape_of SetValue = Hours
shape_of Found = Hours
shape_of Reselect = Hours
shape_of RequestCommit = Hours
shape_of Abort = Hours
shape_of Send = Hours
shape_of Deliver = Hours
shape_of Drop = Hours
shape_of Switch = Hours

abbrev pub laid_size : ℕ
laid_size = 16392

unfoldable pub is_laid : Reader → Shape → List ℕ → Bool
is_laid r shape list = fits shape laid_size (take r.listed list)

unfoldable pub laid_of : Reader → Shape → List ℕ → List ℕ
laid_of r shape list = laid shape (take r.listed list)

unfoldable pub laid_reader : Reader → List ℕ → Order → Reader
laid_reader r list o = cond (is_laid r (shape_of o.kind) list) (next (relisted r 0) true) (next r r.going)

unfoldable pub laid_buffers : Reader → List ℕ → Lent → Order → Lent
laid_buffers r list b o = cond (is_laid r (shape_of o.kind) list) (left_of b (call_of o (laid_of r (shape_of o.kind) list))) b

unfoldable pub laid_sheet : Reader → List ℕ → Lent → List ℕ → Order → List ℕ
laid_sheet r list b sheet o = cond (is_laid r (shape_of o.kind) list) (step_sheet b o (laid_of r (shape_of o.kind) list) sheet) sheet

unfoldable pub laid_texts : Reader → List ℕ → Lent → Order → List Text
laid_texts r list b o =
    cond (is_laid r (shape_of o.kind) list) (echo_texts r ++ step_texts b o (laid_of r (shape_of o.kind) list)) (bad_texts r)

-- ---- a line that ended, by what it is
abbrev pub mask_of : Parsed → ℕ
mask_of p = p.order.with.live

abbrev pub reader_ways : Reader → List ℕ → Ways Reader
reader_ways r list =
    record {
      blank = λ p. anew_reader r (mask_of p);
      step = λ p. next r true;
      clock = λ p. next (clocked r p.order.day p.order.minute) r.going;
      list = λ p. list_reader r list p.count;
      laid = λ p. laid_reader r list (timed r p.order);
      other = next r r.going;
    }

abbrev pub buffers_ways : Reader → List ℕ → Lent → Ways Lent
buffers_ways r list b =
    record {
      blank = λ p. anew_buffers b (mask_of p);
      step = λ p. left_of b (call_of (timed r p.order) []);
      clock = λ p. b;
      list = λ p. b;
      laid = λ p. laid_buffers r list b (timed r p.order);
      other = b;
    }

abbrev pub list_ways : Reader → List ℕ → Ways (List ℕ)
list_ways r list =
    record {
      blank = λ p. list;
      step = λ p. list;
      clock = λ p. list;
      list = λ p. appended list r.listed p.numbers p.count;
      laid = λ p. list;
      other = list;
    }

abbrev pub sheet_ways : Reader → List ℕ → Lent → List ℕ → Ways (List ℕ)
sheet_ways r list b sheet =
    record {
      blank = λ p. anew_sheet sheet (mask_of p);
      step = λ p. step_sheet b (timed r p.order) [] sheet;
      clock = λ p. sheet;
      list = λ p. sheet;
      laid = λ p. laid_sheet r list b sheet (timed r p.order);
      other = sheet;
    }

abbrev pub texts_ways : Reader → List ℕ → Lent → List ℕ → ℕ → Ways (List Text)
texts_ways r list b sheet what =
    record {
      blank = λ p. anew_texts r b sheet (mask_of p);
      step = λ p. echo_texts r ++ step_texts b (timed r p.order) [];
      clock = λ p. echo_texts r;
      list = λ p. list_texts r list p.count;
      laid = λ p. laid_texts r list b (timed r p.order);
      other = complaint_texts what r.line;
    }

unfoldable pub line_reader : Reader → List ℕ → Reader
line_reader r list = pick (reader_ways r list) (parsed r.said)

unfoldable pub line_buffers : Reader → List ℕ → Lent → Lent
line_buffers r list b = pick (buffers_ways r list b) (parsed r.said)

unfoldable pub line_list : Reader → List ℕ → List ℕ
line_list r list = pick (list_ways r list) (parsed r.said)

unfoldable pub line_sheet : Reader → List ℕ → Lent → List ℕ → List ℕ
line_sheet r list b sheet = pick (sheet_ways r list b sheet) (parsed r.said)

unfoldable pub line_texts : Reader → List ℕ → Lent → List ℕ → List Text
line_texts r list b sheet = pick (texts_ways r list b sheet (parsed r.said).what) (parsed r.said)

-- ---- one byte of the input: a newline (10) ends the line
unfoldable pub reader_after : Reader → ℕ → List ℕ → Reader
reader_after r byte list = cond (eqb byte 10) (line_reader r list) (noted r byte)

unfoldable pub buffers_after : Reader → ℕ → List ℕ → Lent → Lent
buffers_after r byte list b = cond (eqb byte 10) (line_buffers r list b) b

unfoldable pub list_after : Reader → ℕ → List ℕ → List ℕ
list_after r byte list = cond (eqb byte 10) (line_list r list) list

unfoldable pub sheet_after : Reader → ℕ → List ℕ → Lent → List ℕ → List ℕ
sheet_after r byte list b sheet = cond (eqb byte 10) (line_sheet r list b sheet) sheet

unfoldable pub texts_after : Reader → ℕ → List ℕ → Lent → List ℕ → List Text
texts_after r byte list b sheet = cond (eqb byte 10) (line_texts r list b sheet) []

-- ---- the end of the input: a last line without its newline counts, and the last scenario ends
unfoldable pub last_texts : Reader → List ℕ → Lent → List ℕ → List Text
last_texts r list b sheet =
    line_texts r list b sheet
    ++ ended_texts (line_reader r list).going (line_buffers r list b).station.images (line_buffers r list b).station.records
    (line_buffers r list b).settings (line_sheet r list b sheet)
