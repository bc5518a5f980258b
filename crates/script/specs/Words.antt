-- The words of the language, each as one number: its letters in base 256, the first letter the highest. No word has more than eight letters.
use Rattle.std.specs.Prelude.{ℕ, ◌+◌, ◌*◌, List, [], ◌∷◌}

unfoldable pub packed_from : ℕ → List ℕ → ℕ
packed_from v [] = v
packed_from v (b ∷ bs) = packed_from (v * 256 + b) bs

-- the number that a word is
unfoldable pub packed : List ℕ → ℕ
packed letters = packed_from 0 letters

abbrev pub blank_word : ℕ
blank_word = 422725119595

abbrev pub begin_word : ℕ
begin_word = 422608071022

abbrev pub reselect_word : ℕ
reselect_word = 8243121572419036020

abbrev pub read_word : ℕ
read_word = 1919246692

abbrev pub write_word : ℕ
write_word = 513020621925

abbrev pub set_word : ℕ
set_word = 7562612

abbrev pub found_word : ℕ
found_word = 439956631140

abbrev pub ask_word : ℕ
ask_word = 6386539

abbrev pub abort_word : ℕ
abort_word = 418263298676

abbrev pub send_word : ℕ
send_word = 1936027236

abbrev pub deliver_word : ℕ
deliver_word = 28259013971305842

abbrev pub keep_word : ℕ
keep_word = 1801807216

abbrev pub drop_word : ℕ
drop_word = 1685221232

abbrev pub on_word : ℕ
on_word = 28526

abbrev pub off_word : ℕ
off_word = 7300710

abbrev pub clock_word : ℕ
clock_word = 427021001579

abbrev pub list_word : ℕ
list_word = 1818850164

abbrev pub hours_word : ℕ
hours_word = 448546566771

abbrev pub classes_word : ℕ
classes_word = 27985188498924915

abbrev pub batch_word : ℕ
batch_word = 422541812584
