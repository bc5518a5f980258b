-- Which messages are well formed: document 01's table of kinds and the sentences around it, one clause each.
use Rattle.std.specs.Prelude.{Bool, true, false, cond, not, ◌&&◌, ◌||◌, List, [], ◌∷◌, map, ℕ, ◌+◌, ◌%◌, eqb, ltb, leb, length, get_or}
use Rattle.numbers.specs.Sizes.{nodes, objects, most_open, highest}
use Rattle.wire.specs.declared.Entry.{Entry}
use Rattle.wire.specs.declared.Rival.{Rival}
use Rattle.wire.specs.Message.{Message, fetch, copy, ask, vote, outcome, done, yield}

-- lo ≤ n ≤ hi
abbrev pub between : ℕ → ℕ → ℕ → Bool
between lo hi n = leb lo n && leb n hi

-- the table of kinds: how many entries, rivals and words each has. A vote no (word 0) names no rivals; an abort (word 0) has no entries
unfoldable pub counts_ok : ℕ → ℕ → ℕ → ℕ → ℕ → Bool
counts_ok kind entries rivals words word =
    cond (between fetch copy kind) (eqb entries 1 && (eqb rivals 0 && eqb words 0))
    (cond (eqb kind ask) (between 1 most_open entries && (eqb rivals 0 && eqb words 0))
    (cond (eqb kind vote) (cond (eqb word 1) (leb rivals 12) (eqb word 0 && eqb rivals 0) && (eqb entries 0 && eqb words 1))
    (cond (eqb kind outcome) (cond (eqb word 1) (between 1 most_open entries) (eqb word 0 && eqb entries 0) && (eqb rivals 0 && eqb words 1))
    (cond (eqb kind done) (eqb entries 0 && (eqb rivals 0 && eqb words 0))
    (cond (eqb kind yield) (eqb rivals 1 && (eqb entries 0 && eqb words 0)) false)))))

-- the word, 0 where there is none
abbrev pub word_of : Message → ℕ
word_of m = get_or m.words 0 0

-- no node above 12 is named; serial and stamp are from 1
abbrev pub names_ok : Message → Bool
names_ok m = ltb m.from nodes && (ltb m.to nodes && (ltb m.owner nodes && (leb 1 m.serial && leb 1 m.stamp)))

-- kinds 1, 3, 5, 7 come from the owner; 2, 4, 6 go to it
abbrev pub direction_ok : Message → Bool
direction_ok m = cond (eqb (m.kind % 2) 1) (eqb m.from m.owner) (eqb m.to m.owner)

-- each number is at least lo and above the one before
unfoldable pub ascend : ℕ → List ℕ → Bool
ascend lo [] = true
ascend lo (x ∷ xs) = leb lo x && ascend (x + 1) xs

abbrev pub every : {A : Type 0} → (A → Bool) → List A → Bool
every f [] = true
every f (x ∷ xs) = f x && every f xs

-- in a fetch version and value are 0; in an ask or a commit a read's value is 0, and a write's version is below 4,294,967,295
abbrev pub content_ok : ℕ → Entry → Bool
content_ok kind e =
    cond (eqb kind fetch) (eqb e.version 0 && eqb e.value 0)
    (eqb kind copy || cond (eqb e.mode 0) (eqb e.value 0) (ltb e.version highest))

-- objects are 0 to 127, the mode is 0 to read or 1 to write
unfoldable pub entry_ok : ℕ → Entry → Bool
entry_ok kind e = ltb e.object objects && (ltb e.mode 2 && content_ok kind e)

-- a rival is another owner, with a serial from 1; a yield goes to its rival's owner
unfoldable pub rival_ok : ℕ → ℕ → ℕ → Rival → Bool
rival_ok kind owner to r = ltb r.owner nodes && (not (eqb r.owner owner) && (leb 1 r.serial && (not (eqb kind yield) || eqb r.owner to)))

-- entries and rivals ascend strictly
unfoldable pub entries_ok : Message → Bool
entries_ok m = ascend 0 (map (λ (e : Entry). e.object) m.entries) && every (entry_ok m.kind) m.entries

unfoldable pub rivals_ok : Message → Bool
rivals_ok m = ascend 0 (map (λ (r : Rival). r.owner) m.rivals) && every (rival_ok m.kind m.owner m.to) m.rivals

unfoldable pub well_formed : Message → Bool
well_formed m =
    counts_ok m.kind (length m.entries) (length m.rivals) (length m.words) (word_of m)
    && (names_ok m && (direction_ok m && (entries_ok m && rivals_ok m)))
