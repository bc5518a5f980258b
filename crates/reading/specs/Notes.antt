-- Lines that are no steps: what is printed for them, and what a `list` leaves.
use Rattle.std.specs.Prelude.{ℕ, ◌+◌, cond, List, [], ◌∷◌, ◌++◌, eqb, ltb, length, take}
use Rattle.lists.specs.Lists.{has_room}
use Rattle.report.specs.Texts.{Text, space_text, number_texts}
use Rattle.results.specs.Results.{newline}
use Rattle.reading.specs.declared.Reader.{Reader}
use Rattle.reading.specs.Reading.{next, relisted}

-- `line `
abbrev pub line_text : Text
line_text = 108 ∷ 105 ∷ 110 ∷ 101 ∷ 32 ∷ []

-- `: no such step, nothing done` and the newline
abbrev pub no_step_text : Text
no_step_text =
    58 ∷ 32 ∷ 110 ∷ 111 ∷ 32 ∷ 115 ∷ 117 ∷ 99 ∷ 104 ∷ 32 ∷ 115 ∷ 116 ∷ 101 ∷ 112 ∷ 44 ∷ 32
    ∷ 110 ∷ 111 ∷ 116 ∷ 104 ∷ 105 ∷ 110 ∷ 103 ∷ 32 ∷ 100 ∷ 111 ∷ 110 ∷ 101 ∷ 10 ∷ []

-- the kind of a bad line (crate script)
abbrev pub bad_line : ℕ
bad_line = 1

-- ---- the line itself, with its number; a front that is not there is none
unfoldable pub front_texts : List ℕ → ℕ → List Text
front_texts text long = cond (ltb (length text) long) [] (take long text ∷ [])

unfoldable pub echo_texts : Reader → List Text
echo_texts r = number_texts [] r.line ++ (space_text ∷ (front_texts r.text r.long ++ (newline ∷ [])))

-- ---- a line that is no step
unfoldable pub complaint_texts : ℕ → ℕ → List Text
complaint_texts what line = cond (eqb what bad_line) (number_texts line_text line ++ (no_step_text ∷ [])) []

abbrev pub bad_texts : Reader → List Text
bad_texts r = complaint_texts bad_line r.line

-- ---- `list`: its numbers behind those that are listed; with no numbers, nothing is listed. Without room for them it is bad
abbrev pub listed_after : ℕ → ℕ → ℕ
listed_after listed count = cond (eqb count 0) 0 (listed + count)

unfoldable pub list_reader : Reader → List ℕ → ℕ → Reader
list_reader r list count =
    cond (has_room list r.listed count) (next (relisted r (listed_after r.listed count)) r.going) (next r r.going)

unfoldable pub list_texts : Reader → List ℕ → ℕ → List Text
list_texts r list count = cond (has_room list r.listed count) (echo_texts r) (bad_texts r)
