-- A loop over a message's entries that changes the image: what was done so far, and the rest from here, is the whole. By one step and the end.
use mathlib.Core.Path.{◌≡◌, refl, sym, ap, subst, ◌∙◌}
use mathlib.Core.Bool.{Bool, true, false, cond, not, ◌&&◌}
use mathlib.Core.List.{List}
use Prim.Native.Nat.{ℕ, zero, suc, ◌+◌, ◌≤◌, ◌<◌}
use native.Mathlib.Omega.{arith}
use borrow.Author.Tests.{lt-ltb, ltb-true, ne_eqb}
use lib.Dec.{T, ltb}
use lib.ListN.{get_or}
use Rattle.numbers.specs.Sizes.{highest}
use Rattle.wire.specs.declared.Entry.{Entry}
use Rattle.wire.specs.Encode.{entry_size}
use Rattle.wire.specs.Decode.{entry_count, entries_place, entry_at, word_count, words_place, word_at, items_from, decode}
use Rattle.wire.specs.Items.{no_entry, entry_of}
use Rattle.wire.specs.Items.{word_of as first_word}
use Rattle.wire.specs.Formed.{every, word_of}
use Rattle.judge.proofs.Passes.{rest, rest_step, rest_end}
use Rattle.replica.specs.Steps.{wanted, holding_one, holding, applied_one, applied}
use Rattle.replica.specs.Given.{raisable}

-- ---- copies held, and commits applied
pub holding_again : (l b : List ℕ) (o i : ℕ) → i < entry_count b → holding l o (rest b i) ≡ holding (holding_one l o (entry_of b i)) o (rest b (i + 1))
unfolding holding
holding_again l b o i h = ap (holding l o) (rest_step b i h)

pub holding_end : (l b : List ℕ) (o i : ℕ) → entry_count b ≤ i → holding l o (rest b i) ≡ l
unfolding holding
holding_end l b o i h = ap (holding l o) (rest_end b i h)

pub applied_again : (l b : List ℕ) (o n i : ℕ) → i < entry_count b
    → applied l o n (rest b i) ≡ applied (applied_one l o n (entry_of b i)) o n (rest b (i + 1))
unfolding applied
applied_again l b o n i h = ap (applied l o n) (rest_step b i h)

pub applied_end : (l b : List ℕ) (o n i : ℕ) → entry_count b ≤ i → applied l o n (rest b i) ≡ l
unfolding applied
applied_end l b o n i h = ap (applied l o n) (rest_end b i h)

-- ---- what holds of every entry holds of the next one, and of those behind it
and_first : (a b : Bool) → (a && b) ≡ true → (a ≡ true) × (b ≡ true)
and_first true b e = (refl, e)
and_first false b e = (e, absurd (subst (λ (x : Bool). T (not x)) e tt))

pub every_next : (p : Entry → Bool) (b : List ℕ) (i : ℕ) → i < entry_count b → every p (rest b i) ≡ true
    → (p (entry_of b i) ≡ true) × (every p (rest b (i + 1)) ≡ true)
every_next p b i h w = and_first (p (entry_of b i)) (every p (rest b (i + 1))) (sym (ap (every p) (rest_step b i h)) ∙ w)

pub raised : (e : Entry) → raisable e ≡ true → (e.mode ≡ 0 → ⊥) → e.version < highest
raised e w h = ltb-true e.version highest (rw (ne_eqb e.mode 0 h) at w)

-- ---- the first entry and the word, as the accessors give them
first : (b : List ℕ) (n i : ℕ) → get_or (items_from entry_at entry_size n b i) 0 no_entry ≡ cond (ltb 0 n) (entry_at b i) no_entry
unfolding items_from
first b zero i = refl
first b (suc n) i = sym (ap (λ (t : Bool). cond t (entry_at b i) no_entry) (lt-ltb 0 (suc n) (omega arith)))

pub first_entry : (b : List ℕ) → entry_of b 0 ≡ wanted (decode b)
unfolding decode
first_entry b = sym (first b (entry_count b) entries_place)

word : (b : List ℕ) (n i : ℕ) → get_or (items_from word_at 1 n b i) 0 0 ≡ cond (ltb 0 n) (word_at b i) 0
unfolding items_from
word b zero i = refl
word b (suc n) i = sym (ap (λ (t : Bool). cond t (word_at b i) 0) (lt-ltb 0 (suc n) (omega arith)))

pub first_word_lem : (b : List ℕ) → first_word b ≡ word_of (decode b)
unfolding decode
first_word_lem b = sym (word b (word_count b) (words_place b))
