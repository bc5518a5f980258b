-- The words by their letters: each number is its word packed.
use mathlib.Core.Path.{◌≡◌, refl}
use mathlib.Core.List.{[], ◌∷◌}
use Rattle.script.specs.Words.{packed, packed_from}
use Rattle.script.specs.Words.{blank_word, begin_word, reselect_word, read_word, write_word, set_word, found_word, ask_word, abort_word}
use Rattle.script.specs.Words.{send_word, deliver_word, keep_word, drop_word, on_word, off_word, clock_word, list_word, hours_word, classes_word, batch_word}

-- `blank`
pub blank_word_lem : blank_word ≡ packed (98 ∷ 108 ∷ 97 ∷ 110 ∷ 107 ∷ [])
unfolding packed packed_from
blank_word_lem = refl

-- `begin`
pub begin_word_lem : begin_word ≡ packed (98 ∷ 101 ∷ 103 ∷ 105 ∷ 110 ∷ [])
unfolding packed packed_from
begin_word_lem = refl

-- `reselect`
pub reselect_word_lem : reselect_word ≡ packed (114 ∷ 101 ∷ 115 ∷ 101 ∷ 108 ∷ 101 ∷ 99 ∷ 116 ∷ [])
unfolding packed packed_from
reselect_word_lem = refl

-- `read`
pub read_word_lem : read_word ≡ packed (114 ∷ 101 ∷ 97 ∷ 100 ∷ [])
unfolding packed packed_from
read_word_lem = refl

-- `write`
pub write_word_lem : write_word ≡ packed (119 ∷ 114 ∷ 105 ∷ 116 ∷ 101 ∷ [])
unfolding packed packed_from
write_word_lem = refl

-- `set`
pub set_word_lem : set_word ≡ packed (115 ∷ 101 ∷ 116 ∷ [])
unfolding packed packed_from
set_word_lem = refl

-- `found`
pub found_word_lem : found_word ≡ packed (102 ∷ 111 ∷ 117 ∷ 110 ∷ 100 ∷ [])
unfolding packed packed_from
found_word_lem = refl

-- `ask`
pub ask_word_lem : ask_word ≡ packed (97 ∷ 115 ∷ 107 ∷ [])
unfolding packed packed_from
ask_word_lem = refl

-- `abort`
pub abort_word_lem : abort_word ≡ packed (97 ∷ 98 ∷ 111 ∷ 114 ∷ 116 ∷ [])
unfolding packed packed_from
abort_word_lem = refl

-- `send`
pub send_word_lem : send_word ≡ packed (115 ∷ 101 ∷ 110 ∷ 100 ∷ [])
unfolding packed packed_from
send_word_lem = refl

-- `deliver`
pub deliver_word_lem : deliver_word ≡ packed (100 ∷ 101 ∷ 108 ∷ 105 ∷ 118 ∷ 101 ∷ 114 ∷ [])
unfolding packed packed_from
deliver_word_lem = refl

-- `keep`
pub keep_word_lem : keep_word ≡ packed (107 ∷ 101 ∷ 101 ∷ 112 ∷ [])
unfolding packed packed_from
keep_word_lem = refl

-- `drop`
pub drop_word_lem : drop_word ≡ packed (100 ∷ 114 ∷ 111 ∷ 112 ∷ [])
unfolding packed packed_from
drop_word_lem = refl

-- `on`
pub on_word_lem : on_word ≡ packed (111 ∷ 110 ∷ [])
unfolding packed packed_from
on_word_lem = refl

-- `off`
pub off_word_lem : off_word ≡ packed (111 ∷ 102 ∷ 102 ∷ [])
unfolding packed packed_from
off_word_lem = refl

-- `clock`
pub clock_word_lem : clock_word ≡ packed (99 ∷ 108 ∷ 111 ∷ 99 ∷ 107 ∷ [])
unfolding packed packed_from
clock_word_lem = refl

-- `list`
pub list_word_lem : list_word ≡ packed (108 ∷ 105 ∷ 115 ∷ 116 ∷ [])
unfolding packed packed_from
list_word_lem = refl

-- `hours`
pub hours_word_lem : hours_word ≡ packed (104 ∷ 111 ∷ 117 ∷ 114 ∷ 115 ∷ [])
unfolding packed packed_from
hours_word_lem = refl

-- `classes`
pub classes_word_lem : classes_word ≡ packed (99 ∷ 108 ∷ 97 ∷ 115 ∷ 115 ∷ 101 ∷ 115 ∷ [])
unfolding packed packed_from
classes_word_lem = refl

-- `batch`
pub batch_word_lem : batch_word ≡ packed (98 ∷ 97 ∷ 116 ∷ 99 ∷ 104 ∷ [])
unfolding packed packed_from
batch_word_lem = refl
