-- The texts that are printed: the kind and the fields of a message, and the word of a number. Each definition gives the texts in their order.
use Rattle.std.specs.Prelude.{ℕ, ◌+◌, ◌-◌, cond, List, [], ◌∷◌, ◌++◌, ltb, eqb}
use Rattle.decimal.specs.Decimal.{decimal}
use Rattle.wire.specs.declared.Entry.{Entry}
use Rattle.wire.specs.declared.Rival.{Rival}
use Rattle.wire.specs.Decode.{entry_count, rival_count}
use Rattle.wire.specs.Items.{entry_of, rival_of, word_of}
use Rattle.report.specs.Each.{each_from}
use Rattle.view.specs.declared.Header.{Header}
use Rattle.view.specs.Views.{header_of}

abbrev pub Text : Type 0
Text = List ℕ

-- `fetch`
abbrev pub fetch_word : Text
fetch_word = 102 ∷ 101 ∷ 116 ∷ 99 ∷ 104 ∷ []

-- `copy`
abbrev pub copy_word : Text
copy_word = 99 ∷ 111 ∷ 112 ∷ 121 ∷ []

-- `ask`
abbrev pub ask_word : Text
ask_word = 97 ∷ 115 ∷ 107 ∷ []

-- `yes`
abbrev pub yes_word : Text
yes_word = 121 ∷ 101 ∷ 115 ∷ []

-- `no`
abbrev pub no_word : Text
no_word = 110 ∷ 111 ∷ []

-- `commit`
abbrev pub commit_word : Text
commit_word = 99 ∷ 111 ∷ 109 ∷ 109 ∷ 105 ∷ 116 ∷ []

-- `abort`
abbrev pub abort_word : Text
abort_word = 97 ∷ 98 ∷ 111 ∷ 114 ∷ 116 ∷ []

-- `done`
abbrev pub done_word : Text
done_word = 100 ∷ 111 ∷ 110 ∷ 101 ∷ []

-- `yield`
abbrev pub yield_word : Text
yield_word = 121 ∷ 105 ∷ 101 ∷ 108 ∷ 100 ∷ []

-- ` `
abbrev pub space_text : Text
space_text = 32 ∷ []

-- ` to `
abbrev pub to_text : Text
to_text = 32 ∷ 116 ∷ 111 ∷ 32 ∷ []

-- ` for `
abbrev pub for_text : Text
for_text = 32 ∷ 102 ∷ 111 ∷ 114 ∷ 32 ∷ []

-- `.`
abbrev pub dot_text : Text
dot_text = 46 ∷ []

-- ` stamp `
abbrev pub stamp_text : Text
stamp_text = 32 ∷ 115 ∷ 116 ∷ 97 ∷ 109 ∷ 112 ∷ 32 ∷ []

-- ` read `
abbrev pub read_text : Text
read_text = 32 ∷ 114 ∷ 101 ∷ 97 ∷ 100 ∷ 32 ∷ []

-- ` write `
abbrev pub write_text : Text
write_text = 32 ∷ 119 ∷ 114 ∷ 105 ∷ 116 ∷ 101 ∷ 32 ∷ []

-- ` version `
abbrev pub version_text : Text
version_text = 32 ∷ 118 ∷ 101 ∷ 114 ∷ 115 ∷ 105 ∷ 111 ∷ 110 ∷ 32 ∷ []

-- ` value `
abbrev pub value_text : Text
value_text = 32 ∷ 118 ∷ 97 ∷ 108 ∷ 117 ∷ 101 ∷ 32 ∷ []

-- ` rival `
abbrev pub rival_text : Text
rival_text = 32 ∷ 114 ∷ 105 ∷ 118 ∷ 97 ∷ 108 ∷ 32 ∷ []

-- `-`
abbrev pub minus_text : Text
minus_text = 45 ∷ []

-- `length`
abbrev pub length_word : Text
length_word = 108 ∷ 101 ∷ 110 ∷ 103 ∷ 116 ∷ 104 ∷ []

-- `damaged`
abbrev pub damaged_word : Text
damaged_word = 100 ∷ 97 ∷ 109 ∷ 97 ∷ 103 ∷ 101 ∷ 100 ∷ []

-- `garbled`
abbrev pub garbled_word : Text
garbled_word = 103 ∷ 97 ∷ 114 ∷ 98 ∷ 108 ∷ 101 ∷ 100 ∷ []

-- `stranger`
abbrev pub stranger_word : Text
stranger_word = 115 ∷ 116 ∷ 114 ∷ 97 ∷ 110 ∷ 103 ∷ 101 ∷ 114 ∷ []

-- `out of turn`
abbrev pub out_of_turn_word : Text
out_of_turn_word = 111 ∷ 117 ∷ 116 ∷ 32 ∷ 111 ∷ 102 ∷ 32 ∷ 116 ∷ 117 ∷ 114 ∷ 110 ∷ []

-- `no such tally`
abbrev pub no_such_word : Text
no_such_word = 110 ∷ 111 ∷ 32 ∷ 115 ∷ 117 ∷ 99 ∷ 104 ∷ 32 ∷ 116 ∷ 97 ∷ 108 ∷ 108 ∷ 121 ∷ []

-- `eight open`
abbrev pub eight_open_word : Text
eight_open_word = 101 ∷ 105 ∷ 103 ∷ 104 ∷ 116 ∷ 32 ∷ 111 ∷ 112 ∷ 101 ∷ 110 ∷ []

-- `no quorum`
abbrev pub no_quorum_word : Text
no_quorum_word = 110 ∷ 111 ∷ 32 ∷ 113 ∷ 117 ∷ 111 ∷ 114 ∷ 117 ∷ 109 ∷ []

-- `number used up`
abbrev pub used_up_word : Text
used_up_word = 110 ∷ 117 ∷ 109 ∷ 98 ∷ 101 ∷ 114 ∷ 32 ∷ 117 ∷ 115 ∷ 101 ∷ 100 ∷ 32 ∷ 117 ∷ 112 ∷ []

-- `busy`
abbrev pub busy_word : Text
busy_word = 98 ∷ 117 ∷ 115 ∷ 121 ∷ []

-- `not ready`
abbrev pub not_ready_word : Text
not_ready_word = 110 ∷ 111 ∷ 116 ∷ 32 ∷ 114 ∷ 101 ∷ 97 ∷ 100 ∷ 121 ∷ []

-- `pool full`
abbrev pub pool_full_word : Text
pool_full_word = 112 ∷ 111 ∷ 111 ∷ 108 ∷ 32 ∷ 102 ∷ 117 ∷ 108 ∷ 108 ∷ []

-- `closed`
abbrev pub closed_word : Text
closed_word = 99 ∷ 108 ∷ 111 ∷ 115 ∷ 101 ∷ 100 ∷ []

-- `bounds`
abbrev pub bounds_word : Text
bounds_word = 98 ∷ 111 ∷ 117 ∷ 110 ∷ 100 ∷ 115 ∷ []

-- `tally twice`
abbrev pub tally_twice_word : Text
tally_twice_word = 116 ∷ 97 ∷ 108 ∷ 108 ∷ 121 ∷ 32 ∷ 116 ∷ 119 ∷ 105 ∷ 99 ∷ 101 ∷ []

-- ---- the word of a message: a vote is `yes` or `no`, an outcome `commit` or `abort`; any kind but 1 to 6 is `yield`
unfoldable pub kind_word : ℕ → ℕ → Text
kind_word kind word =
    cond (eqb kind 1) fetch_word
    (cond (eqb kind 2) copy_word
    (cond (eqb kind 3) ask_word
    (cond (eqb kind 4) (cond (eqb word 1) yes_word no_word)
    (cond (eqb kind 5) (cond (eqb word 1) commit_word abort_word) (cond (eqb kind 6) done_word yield_word)))))

-- ---- a number behind a label; a value of 64 bits with its sign
unfoldable pub number_texts : Text → ℕ → List Text
number_texts label n = label ∷ decimal n ∷ []

unfoldable pub value_texts : Text → ℕ → List Text
value_texts label v = cond (ltb v 9223372036854775808) (number_texts label v) (label ∷ number_texts minus_text (18446744073709551615 - v + 1))

-- ---- an entry and a rival of a message
unfoldable pub mode_text : ℕ → Text
mode_text mode = cond (eqb mode 0) read_text write_text

unfoldable pub entry_texts : Entry → List Text
entry_texts e = number_texts (mode_text e.mode) e.object ++ number_texts version_text e.version ++ value_texts value_text e.value

unfoldable pub rival_texts : Rival → List Text
rival_texts r = number_texts rival_text r.owner ++ number_texts dot_text r.serial

-- those of a message
abbrev pub nth_entry_texts : List ℕ → ℕ → List Text
nth_entry_texts m i = entry_texts (entry_of m i)

abbrev pub nth_rival_texts : List ℕ → ℕ → List Text
nth_rival_texts m i = rival_texts (rival_of m i)

-- ---- a message: `copy 0 to 4 for 4.1 stamp 10 read 7 version 0 value 0`
unfoldable pub route_texts : Header → ℕ → List Text
route_texts h word = (kind_word h.kind word ∷ []) ++ number_texts space_text h.from ++ number_texts to_text h.to

unfoldable pub name_texts : Header → List Text
name_texts h = number_texts for_text h.owner ++ number_texts dot_text h.serial ++ number_texts stamp_text h.stamp

unfoldable pub message_texts : List ℕ → List Text
message_texts m =
    route_texts (header_of m) (word_of m) ++ name_texts (header_of m) ++ each_from (nth_entry_texts m) (entry_count m) 0
    ++ each_from (nth_rival_texts m) (rival_count m) 0

-- ---- the words of the numbers; any number but 1 to 14 has that of 15
unfoldable pub word_of_number : ℕ → Text
word_of_number n =
    cond (eqb n 1) length_word
    (cond (eqb n 2) damaged_word
    (cond (eqb n 3) garbled_word
    (cond (eqb n 4) stranger_word
    (cond (eqb n 5) out_of_turn_word
    (cond (eqb n 6) no_such_word
    (cond (eqb n 7) eight_open_word
    (cond (eqb n 8) no_quorum_word
    (cond (eqb n 9) used_up_word
    (cond (eqb n 10) busy_word
    (cond (eqb n 11) not_ready_word
    (cond (eqb n 12) pool_full_word (cond (eqb n 13) closed_word (cond (eqb n 14) bounds_word tally_twice_word)))))))))))))
