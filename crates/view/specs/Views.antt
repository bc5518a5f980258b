-- What a view shows. A section is named by the place of its count; its items stand behind it. What is not there reads as 0.
use Rattle.std.specs.Prelude.{cond, List, ℕ, ◌+◌, ◌*◌, ltb, get_or}
use Rattle.wire.specs.declared.Entry.{Entry}
use Rattle.wire.specs.declared.Rival.{Rival}
use Rattle.wire.specs.Encode.{header_size, entry_size, rival_size}
use Rattle.wire.specs.Decode.{kind_of, from_of, to_of, owner_of, serial_of, stamp_of, entry_count, rival_count, word_count}
use Rattle.wire.specs.Decode.{entries_place, rivals_place, entry_at, rival_at, word_at}
use Rattle.wire.specs.Items.{no_entry, no_rival, entry_of, rival_of, word_of}
use Rattle.std.specs.Borrow.{Bor}
use Rattle.view.specs.declared.View.{View}
use Rattle.view.specs.declared.Header.{Header}
use Rattle.view.specs.declared.Places.{Places}
use Rattle.view.specs.declared.Counts.{Counts}
use Rattle.view.specs.declared.Shown.{Shown}

abbrev pub header_of : List ℕ → Header
header_of l = record { kind = kind_of l; from = from_of l; to = to_of l; owner = owner_of l; serial = serial_of l; stamp = stamp_of l }

-- where the sections of a message stand: each begins behind the items of the one before
abbrev pub places_of : List ℕ → Places
places_of l =
    record {
      entries = header_size;
      rivals = entries_place + entry_size * entry_count l;
      words = rivals_place l + rival_size * rival_count l;
    }

-- a slice with those places
abbrev pub view_with : Bor (List ℕ) → Places → View
view_with s p = record { bytes = s; entries = p.entries; rivals = p.rivals; words = p.words }

abbrev pub view_of : Bor (List ℕ) → View
view_of s = view_with s (places_of s.now)

-- what stands in the sections at these places
abbrev pub counts_in : List ℕ → ℕ → ℕ → ℕ → Counts
counts_in l entries rivals words = record { entries = get_or l entries 0; rivals = get_or l rivals 0; words = get_or l words 0 }

abbrev pub entry_in : List ℕ → ℕ → ℕ → Entry
entry_in l at i = cond (ltb i (get_or l at 0)) (entry_at l (at + 1 + entry_size * i)) no_entry

abbrev pub rival_in : List ℕ → ℕ → ℕ → Rival
rival_in l at i = cond (ltb i (get_or l at 0)) (rival_at l (at + 1 + rival_size * i)) no_rival

abbrev pub word_in : List ℕ → ℕ → ℕ
word_in l at = cond (ltb 0 (get_or l at 0)) (word_at l (at + 1)) 0

-- what a message shows, by what its bytes mean (crate wire): the i-th entry, the i-th rival, the word
abbrev pub shown_of : List ℕ → ℕ → Shown
shown_of l i =
    record {
      header = header_of l;
      counts = record { entries = entry_count l; rivals = rival_count l; words = word_count l };
      entry = entry_of l i;
      rival = rival_of l i;
      word = word_of l;
    }
