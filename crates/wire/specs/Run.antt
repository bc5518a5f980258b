-- What the functions of the check compute; proofs/Accepted.antt shows that it is `accepted`.
use Rattle.std.specs.Prelude.{Bool, true, cond, ◌&&◌, List, [], ◌∷◌, ℕ, ◌+◌, ◌*◌, eqb, ltb, leb, length, get_or}
use Rattle.wire.specs.declared.Entry.{Entry}
use Rattle.wire.specs.declared.Rival.{Rival}
use Rattle.wire.specs.Formed.{counts_ok}
use Rattle.wire.specs.Encode.{size_with}
use Rattle.wire.specs.Decode.{kind_of, entry_count, rival_count, word_count}
use Rattle.wire.specs.Items.{word_of}

-- one pass over items: each item's key is at least lo and above the one before, and each item passes a test.
unfoldable pub run : {A : Type 0} → (A → ℕ) → (A → Bool) → ℕ → List A → Bool
run key ok lo [] = true
run key ok lo (x ∷ xs) = leb lo (key x) && ok x && run key ok (key x + 1) xs

abbrev pub object_of : Entry → ℕ
object_of e = e.object

abbrev pub owner_in : Rival → ℕ
owner_in r = r.owner

-- the length is that of the sections, and the kind allows the counts
abbrev pub fitting_sections : List ℕ → Bool
fitting_sections l =
    eqb (length l) (size_with (entry_count l) (rival_count l) (word_count l))
    && counts_ok (kind_of l) (entry_count l) (rival_count l) (word_count l) (word_of l)

-- the word behind n entries, r rivals and the count w, 0 where there is none
abbrev pub word_with : List ℕ → ℕ → ℕ → ℕ → ℕ
word_with l n r w = cond (ltb 0 w) (get_or l (15 + 14 * n + 5 * r) 0) 0
