-- What bytes mean as a message, and which bytes are accepted. A place that the bytes do not have reads as 0.
use Rattle.std.specs.Prelude.{Bool, cond, ◌&&◌, ◌||◌, List, [], ◌∷◌, ℕ, zero, suc, ◌+◌, ◌*◌, eqb, ltb, length, get_or}
use Rattle.numbers.specs.Sizes.{shortest_message, longest_message}
use Rattle.numbers.specs.Numbers.{wrong_length, garbled}
use Rattle.octets.specs.Octets.{get}
use Rattle.wire.specs.declared.Entry.{Entry}
use Rattle.wire.specs.declared.Rival.{Rival}
use Rattle.wire.specs.Message.{Message}
use Rattle.wire.specs.Formed.{well_formed}
use Rattle.wire.specs.Encode.{header_size, entry_size, rival_size, size_of}

-- ---- the header
abbrev pub kind_of : List ℕ → ℕ
kind_of l = get_or l 0 0

abbrev pub from_of : List ℕ → ℕ
from_of l = get_or l 1 0

abbrev pub to_of : List ℕ → ℕ
to_of l = get_or l 2 0

abbrev pub owner_of : List ℕ → ℕ
owner_of l = get_or l 3 0

abbrev pub serial_of : List ℕ → ℕ
serial_of l = get 4 l 4

abbrev pub stamp_of : List ℕ → ℕ
stamp_of l = get 4 l 8

-- ---- the sections: where each count stands, how many items there are, and where they start
abbrev pub entry_count : List ℕ → ℕ
entry_count l = get_or l header_size 0

abbrev pub entries_place : ℕ
entries_place = header_size + 1

abbrev pub rivals_place : List ℕ → ℕ
rivals_place l = entries_place + entry_size * entry_count l + 1

abbrev pub rival_count : List ℕ → ℕ
rival_count l = get_or l (entries_place + entry_size * entry_count l) 0

abbrev pub words_place : List ℕ → ℕ
words_place l = rivals_place l + rival_size * rival_count l + 1

abbrev pub word_count : List ℕ → ℕ
word_count l = get_or l (rivals_place l + rival_size * rival_count l) 0

-- ---- what stands at a place
unfoldable pub entry_at : List ℕ → ℕ → Entry
entry_at l i = record { object = get_or l i 0; mode = get_or l (i + 1) 0; version = get 4 l (i + 2); value = get 8 l (i + 6) }

unfoldable pub rival_at : List ℕ → ℕ → Rival
rival_at l i = record { owner = get_or l i 0; serial = get 4 l (i + 1) }

abbrev pub word_at : List ℕ → ℕ → ℕ
word_at l i = get_or l i 0

-- n items of a size from place i on
unfoldable pub items_from : {A : Type 0} → (List ℕ → ℕ → A) → ℕ → ℕ → List ℕ → ℕ → List A
items_from at size zero l i = []
items_from at size (suc n) l i = at l i ∷ items_from at size n l (i + size)

unfoldable pub decode : List ℕ → Message
decode l =
    record {
      kind = kind_of l;
      from = from_of l;
      to = to_of l;
      owner = owner_of l;
      serial = serial_of l;
      stamp = stamp_of l;
      entries = items_from entry_at entry_size (entry_count l) l entries_place;
      rivals = items_from rival_at rival_size (rival_count l) l (rivals_place l);
      words = items_from word_at 1 (word_count l) l (words_place l);
    }

-- ---- which bytes are accepted
-- the sections fill the bytes, none left over and none missing, and the message is well formed
unfoldable pub accepted : List ℕ → Bool
accepted l = eqb (length l) (size_of (decode l)) && well_formed (decode l)

-- the number of a received message: 1 length, 3 garbled, 0 neither
unfoldable pub check_of : List ℕ → ℕ
check_of l = cond (ltb (length l) shortest_message || ltb longest_message (length l)) wrong_length (cond (accepted l) 0 garbled)
