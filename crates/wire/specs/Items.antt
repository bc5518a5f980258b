-- What the accessors give: the item that stands there, or zeros outside what is there.
use Rattle.std.specs.Prelude.{cond, List, ℕ, ◌+◌, ◌*◌, ltb}
use Rattle.wire.specs.declared.Entry.{Entry}
use Rattle.wire.specs.declared.Rival.{Rival}
use Rattle.wire.specs.Encode.{entry_size, rival_size}
use Rattle.wire.specs.Decode.{entry_count, entries_place, entry_at, rival_count, rivals_place, rival_at, word_count, words_place, word_at}

abbrev pub no_entry : Entry
no_entry = record { object = 0; mode = 0; version = 0; value = 0 }

abbrev pub no_rival : Rival
no_rival = record { owner = 0; serial = 0 }

abbrev pub entry_of : List ℕ → ℕ → Entry
entry_of l i = cond (ltb i (entry_count l)) (entry_at l (entries_place + entry_size * i)) no_entry

abbrev pub rival_of : List ℕ → ℕ → Rival
rival_of l i = cond (ltb i (rival_count l)) (rival_at l (rivals_place l + rival_size * i)) no_rival

abbrev pub word_of : List ℕ → ℕ
word_of l = cond (ltb 0 (word_count l)) (word_at l (words_place l)) 0
