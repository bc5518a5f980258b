-- How a listed ask is judged: no, if any of its objects has another holder; or if any copy here has a higher version; or if some rival is older.
use Rattle.std.specs.Prelude.{Bool, false, cond, not, ◌&&◌, ◌||◌, List, [], ◌∷◌, ℕ, zero, suc, eqb, ltb, replicate, set}
use Rattle.numbers.specs.Sizes.{nodes, nobody}
use Rattle.mask.specs.Mask.{contains, only, joined, minus}
use Rattle.age.specs.Age.{older}
use Rattle.wire.specs.declared.Entry.{Entry}
use Rattle.wire.specs.Message.{Message}
use Rattle.image.specs.Layout.{version, holder, readers, writers, serial, stamp}
use Rattle.judge.specs.declared.Verdict.{Verdict}

-- p holds of some entry; of some number below n
unfoldable pub some : (Entry → Bool) → List Entry → Bool
some p [] = false
some p (e ∷ es) = p e || some p es

unfoldable pub some_below : ℕ → (ℕ → Bool) → Bool
some_below zero p = false
some_below (suc n) p = some_below n p || p n

-- ---- another than the owner o holds the entry's object
abbrev pub other_holds : List ℕ → ℕ → Entry → Bool
other_holds l o e = not (eqb (holder l e.object) nobody) && not (eqb (holder l e.object) o)

unfoldable pub held_by_another : List ℕ → Message → Bool
held_by_another l m = some (other_holds l m.owner) m.entries

-- ---- the copy here has a higher version than the entry
abbrev pub newer : List ℕ → Entry → Bool
newer l e = ltb e.version (version l e.object)

unfoldable pub newer_here : List ℕ → Message → Bool
newer_here l m = some (newer l) m.entries

-- ---- rivals: a read's are the writers, a write's are readers and writers
abbrev pub against : List ℕ → Entry → ℕ
against l e = cond (eqb e.mode 0) (writers l e.object) (joined (readers l e.object) (writers l e.object))

-- only at equal versions
abbrev pub rivals_at : List ℕ → Entry → ℕ
rivals_at l e = cond (eqb (version l e.object) e.version) (against l e) 0

-- those found so far, and those of the entries
unfoldable pub gathered : List ℕ → ℕ → List Entry → ℕ
gathered l found [] = found
gathered l found (e ∷ es) = gathered l (joined found (rivals_at l e)) es

-- of all entries, never the owner
unfoldable pub rivals_of : List ℕ → Message → ℕ
rivals_of l m = minus (gathered l 0 m.entries) (only m.owner)

-- ---- some of the rivals is older than the owner o, by the stored stamps
abbrev pub older_in : List ℕ → ℕ → ℕ → ℕ → Bool
older_in l rivals o r = contains rivals r && older (stamp l r) r (stamp l o) o

unfoldable pub older_among : List ℕ → ℕ → ℕ → Bool
older_among l rivals o = some_below nodes (older_in l rivals o)

-- ---- the vote is no
unfoldable pub votes_no : List ℕ → Message → Bool
votes_no l m = held_by_another l m || newer_here l m || older_among l (rivals_of l m) m.owner

-- the vote, and the rivals
abbrev pub verdict_of : List ℕ → Message → Verdict
verdict_of l m = record { no = votes_no l m; rivals = rivals_of l m }

-- ---- a yes names each rival with its last serial here: thirteen serials by owner, 0 for no rival
abbrev pub named : List ℕ → ℕ → ℕ → ℕ
named l rivals o = cond (contains rivals o) (serial l o) 0

abbrev pub no_serials : List ℕ
no_serials = replicate nodes 0

unfoldable pub named_below : List ℕ → ℕ → ℕ → List ℕ
named_below l rivals zero = no_serials
named_below l rivals (suc n) = set (named_below l rivals n) n (named l rivals n)

unfoldable pub serials_of : List ℕ → ℕ → List ℕ
serials_of l rivals = named_below l rivals nodes
