-- The words of the numbers and of the kinds as one table of bytes and places. proofs/Rows.antt shows that each row is the word that Texts gives.
use Rattle.std.specs.Prelude.{ℕ, ◌+◌, ◌*◌, ◌-◌, cond, List, [], ◌∷◌, ◌++◌, ltb, eqb, get_or, take, drop}
use Rattle.report.specs.Texts.{Text, length_word, damaged_word, garbled_word, stranger_word, out_of_turn_word, no_such_word, eight_open_word, no_quorum_word}
use Rattle.report.specs.Texts.{used_up_word, busy_word, not_ready_word, pool_full_word, closed_word, bounds_word, tally_twice_word}
use Rattle.report.specs.Texts.{fetch_word, copy_word, ask_word, yes_word, no_word, commit_word, abort_word, done_word, yield_word}

-- the bytes, one row behind another
unfoldable pub words : Text
words =
    tally_twice_word ++ length_word ++ damaged_word ++ garbled_word ++ stranger_word ++ out_of_turn_word ++ no_such_word ++ eight_open_word ++ no_quorum_word
    ++ used_up_word
    ++ busy_word ++ not_ready_word ++ pool_full_word ++ closed_word ++ bounds_word
    ++ fetch_word ++ copy_word ++ ask_word ++ no_word ++ yes_word ++ abort_word ++ commit_word ++ done_word ++ yield_word

-- where each row begins, and the end
abbrev pub places : List ℕ
places =
    0 ∷ 11 ∷ 17 ∷ 24 ∷ 31 ∷ 39 ∷ 50 ∷ 63 ∷ 73 ∷ 82 ∷ 96 ∷ 100 ∷ 109 ∷ 118 ∷ 124 ∷ 130 ∷ 135 ∷ 139 ∷ 142 ∷ 144 ∷ 147 ∷ 152 ∷ 158 ∷ 162 ∷ 167 ∷ []

unfoldable pub row_at : ℕ → Text
row_at k = take (get_or places (k + 1) 0 - get_or places k 0) (drop (get_or places k 0) words)

-- a number below a limit, 0 for any other
abbrev pub cap : ℕ → ℕ → ℕ
cap limit n = cond (ltb n limit) n 0

-- the rows of each kind, for a word other than 1 and for 1
abbrev pub kinds : List ℕ
kinds = 23 ∷ 23 ∷ 15 ∷ 15 ∷ 16 ∷ 16 ∷ 17 ∷ 17 ∷ 18 ∷ 19 ∷ 20 ∷ 21 ∷ 22 ∷ 22 ∷ []

abbrev pub kind_row : ℕ → ℕ → ℕ
kind_row kind word = cond (eqb word 1) (get_or kinds (2 * cap 7 kind + 1) 0) (get_or kinds (2 * cap 7 kind) 0)
