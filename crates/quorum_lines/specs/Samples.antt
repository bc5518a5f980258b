-- Computed from the definitions: the marked input and its output, whole, the reply to a line with an asker, and a table of lines that are bad.
-- Assumes nothing.
use Rattle.std.specs.Prelude.{ℕ, ◌≡◌, refl, Bool, true, false, ◌&&◌, List, [], ◌∷◌, ◌++◌, replicate}
use Rattle.numbers.specs.Sizes.{nodes}
use Rattle.decimal.specs.Decimal.{digits, decimal}
use Rattle.quorum.specs.Smallest.{smallest}
use Rattle.quorum_lines.specs.Line.{
  Reading,
  Good,
  Bad,
  fresh,
  most,
  spoil,
  keep,
  space,
  may_follow,
  more,
  digit,
  step_on,
  step,
  read_from,
  may_end,
  is_good,
  at_asker,
  says,
  ended,
  reading,
}
use Rattle.quorum_lines.specs.Reply.{chosen, choice_text, column, row, reply, header_text}
use Rattle.quorum_lines.specs.Output.{last_line, lines_from, replies, output}
use Rattle.quorum_lines.specs.Text.{spaced, line_text, asked_text}

-- thirteen distances of 1
abbrev ones : List ℕ
ones = replicate nodes 1

-- the lines `8191 1 1 ..` and `8190 1 1 ..`, and the rows `8191 1 1 439 7` and `8190 6 2 - -`
unfoldable pub marked : List ℕ
marked = line_text 8191 ones ++ (10 ∷ []) ++ line_text 8190 ones ++ (10 ∷ [])

unfoldable pub rows : List ℕ
rows =
    56 ∷ 49 ∷ 57 ∷ 49 ∷ 32 ∷ 49 ∷ 32 ∷ 49 ∷ 32 ∷ 52 ∷ 51 ∷ 57 ∷ 32 ∷ 55 ∷ 10
    ∷ 56 ∷ 49 ∷ 57 ∷ 48 ∷ 32 ∷ 54 ∷ 32 ∷ 50 ∷ 32 ∷ 45 ∷ 32 ∷ 45 ∷ 10 ∷ []

-- the marked input gives the header and the two rows
pub marked_output : output marked ≡ header_text ++ rows
unfolding marked rows output lines_from last_line replies reading read_from fresh step step_on space digit may_follow most more keep spoil may_end is_good
    at_asker says ended reply row column chosen smallest choice_text decimal digits spaced line_text header_text
marked_output = refl

-- node 3 asks: the line `8190 1 1 .. 1 3`, and the row `8190 10 2 - -`
pub own_copy : reply (reading (asked_text 8190 ones 3)) ≡ 56 ∷ 49 ∷ 57 ∷ 48 ∷ 32 ∷ 49 ∷ 48 ∷ 32 ∷ 50 ∷ 32 ∷ 45 ∷ 32 ∷ 45 ∷ 10 ∷ []
unfolding reading read_from fresh step step_on space digit may_follow most more keep spoil may_end is_good at_asker says ended
    reply row column chosen smallest choice_text decimal digits spaced line_text asked_text
own_copy = refl

-- lines that are bad, though each differs little from a good one
unfoldable pub bad_lines : List (List ℕ)
bad_lines =
    -- the empty line, a space before, a space behind, two spaces
    []
    ∷ ((32 ∷ []) ++ line_text 8191 ones)
    ∷ (line_text 8191 ones ++ (32 ∷ []))
    ∷ (decimal 8191 ++ (32 ∷ []) ++ spaced ones)
    -- a tab for a space, a carriage return behind, a sign, a leading zero
    ∷ (decimal 8191 ++ (9 ∷ []) ++ decimal 1 ++ spaced (replicate 12 1))
    ∷ (line_text 8191 ones ++ (13 ∷ []))
    ∷ ((43 ∷ []) ++ line_text 8191 ones)
    ∷ ((48 ∷ []) ++ line_text 8191 ones)
    -- a mask and a distance that are too large by one, one number too few, and one too many
    ∷ line_text 8192 ones
    ∷ line_text 8191 (65536 ∷ replicate 12 1)
    ∷ line_text 8191 (replicate 12 1)
    ∷ (asked_text 8191 ones 1 ++ (32 ∷ []) ++ decimal 1)
    -- an asker that is no node, one with a leading zero, and a space behind an asker
    ∷ asked_text 8191 ones 13
    ∷ (line_text 8191 ones ++ (32 ∷ 48 ∷ 51 ∷ []))
    ∷ (asked_text 8191 ones 3 ++ (32 ∷ []))
    ∷ []

unfoldable pub is_bad : Reading → Bool
is_bad (Good live ds asker) = false
is_bad Bad = true

unfoldable pub all_bad : List (List ℕ) → Bool
all_bad [] = true
all_bad (line ∷ rest) = is_bad (reading line) && all_bad rest

pub bad_lines_lem : all_bad bad_lines ≡ true
unfolding bad_lines is_bad all_bad reading read_from fresh step step_on space digit may_follow most more keep spoil may_end is_good at_asker says ended
    decimal digits spaced line_text asked_text
bad_lines_lem = refl
