-- A whole input, byte by byte: the reader, the buffers, the list and replay's sheet after it; and, from the input alone, the scenario that runs at its end.
use Rattle.std.specs.Prelude.{ℕ, cond, List, [], ◌∷◌, ◌≡◌, eqb, ltb, length}
use Rattle.numbers.specs.Sizes.{every_node}
use Rattle.service.specs.Service.{Call}
use Rattle.service_calls.specs.Lent.{Lent}
use Rattle.replay.specs.Layout.{size as sheetSize}
use Rattle.replay.specs.Sheet.{blank_after as sheetBlank}
use Rattle.history.specs.Origin.{ledger_of}
use Rattle.history.specs.Running.{sheet}
use Rattle.steps.specs.Run.{trace}
use Rattle.accounts.specs.Accounts.{blank_origin, expand}
use Rattle.runs.specs.Order.{call_of}
use Rattle.runs.specs.Held.{Holds}
use Rattle.script.specs.Parse.{parsed}
use Rattle.reading.specs.declared.Reader.{Reader}
use Rattle.reading.specs.Reading.{fresh, timed}
use Rattle.scenario.specs.Lines.{Ways, pick, mask_of, shape_of, is_laid, laid_of, reader_after, buffers_after, list_after, sheet_after}

-- ---- what stands there
pub record Desk : Type 0 where
  pub reader : Reader
  pub buffers : Lent
  pub list : List ℕ
  pub sheet : List ℕ

-- after one byte more, as `take` leaves it; after several
unfoldable pub onto : Desk → ℕ → Desk
onto d byte =
    record {
      reader = reader_after d.reader byte d.list;
      buffers = buffers_after d.reader byte d.list d.buffers;
      list = list_after d.reader byte d.list;
      sheet = sheet_after d.reader byte d.list d.buffers d.sheet;
    }

unfoldable pub after : Desk → List ℕ → Desk
after d [] = d
after d (byte ∷ bytes) = after (onto d byte) bytes

-- ---- the scenario that runs: the nodes that were on when it began, and its steps, newest first
pub record Story : Type 0 where
  pub up : ℕ
  pub steps : List Call

abbrev pub longer : Story → Call → Story
longer s c = record { up = s.up; steps = c ∷ s.steps }

-- a `blank` begins another; a step makes it longer; any other line leaves it
abbrev pub story_ways : Reader → List ℕ → Story → Ways Story
story_ways r list s =
    record {
      blank = λ p. cond (ltb every_node (mask_of p)) s (record { up = mask_of p; steps = [] });
      step = λ p. longer s (call_of (timed r p.order) []);
      clock = λ p. s;
      list = λ p. s;
      laid = λ p. cond (is_laid r (shape_of p.order.kind) list) (longer s (call_of (timed r p.order) (laid_of r (shape_of p.order.kind) list))) s;
      other = s;
    }

unfoldable pub line_story : Reader → List ℕ → Story → Story
line_story r list s = pick (story_ways r list s) (parsed r.said)

unfoldable pub story_after : Reader → List ℕ → Story → List ℕ → Story
story_after r list s [] = s
story_after r list s (byte ∷ bytes) =
    story_after (reader_after r byte list) (list_after r byte list) (cond (eqb byte 10) (line_story r list s) s) bytes

-- ---- what is claimed of every input: the buffers hold what the steps of the running scenario left (so demand 3 holds of them: crate runs), and the
-- sheet is the one that the machine's steps, which they made, tell replay
pub record Faithful (d : Desk) (s : Story) : Type 0 where
  pub holds : Holds (blank_origin s.up) s.steps d.buffers
  pub blank : List ℕ
  pub size : length blank ≡ sheetSize
  pub told : d.sheet ≡ sheet (ledger_of (blank_origin s.up).machine) (sheetBlank blank)
      (trace (blank_origin s.up).machine.station (expand (blank_origin s.up) s.steps))

-- the start: nothing read, and a blank station whose nodes are all on
pub record Start (d : Desk) : Type 0 where
  pub reader : d.reader ≡ fresh
  pub buffers : Holds (blank_origin every_node) [] d.buffers
  pub blank : List ℕ
  pub size : length blank ≡ sheetSize
  pub sheet_blank : d.sheet ≡ sheetBlank blank

abbrev pub no_steps : Story
no_steps = record { up = every_node; steps = [] }
