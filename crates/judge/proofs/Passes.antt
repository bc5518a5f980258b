-- A loop over a message's entries or over the owners: what was found so far, and the rest from here, is the whole. By one step and the end.
use mathlib.Core.Path.{◌≡◌, refl, sym, ap, ap₂, ◌∙◌}
use mathlib.Core.Bool.{Bool, true, false, cond, ◌||◌}
use mathlib.Core.List.{List, [], ◌∷◌}
use Prim.Native.Nat.{ℕ, zero, suc, ◌+◌, ◌*◌, ◌-◌, ◌≤◌, ◌<◌}
use native.Mathlib.Numerals.{add-one}
use native.Mathlib.Omega.{arith}
use borrow.Author.Tests.{lt-ltb}
use lib.ListN.{set}
use Rattle.mask.specs.Mask.{joined}
use Rattle.wire.specs.declared.Entry.{Entry}
use Rattle.wire.specs.Encode.{entry_size}
use Rattle.wire.specs.Decode.{entry_count, entries_place, entry_at, items_from, decode}
use Rattle.wire.specs.Items.{no_entry, entry_of}
use Rattle.judge.specs.Judge.{some, some_below, gathered, rivals_at, named, named_below}

-- the entries from the i-th on
abbrev pub rest : List ℕ → ℕ → List Entry
rest b i = items_from entry_at entry_size (entry_count b - i) b (entries_place + entry_size * i)

step : (b : List ℕ) (n i : ℕ) → 0 < n → items_from entry_at entry_size n b i ≡ entry_at b i ∷ items_from entry_at entry_size (n - 1) b (i + entry_size)
unfolding items_from
step b zero i h = absurd (let z : ⊥ = omega arith in z)
step b (suc n) i h = let e : n ≡ suc n - 1 = omega arith in ap (λ (k : ℕ). entry_at b i ∷ items_from entry_at entry_size k b (i + entry_size)) e

none : (b : List ℕ) (n i : ℕ) → n ≤ 0 → items_from entry_at entry_size n b i ≡ []
unfolding items_from
none b zero i h = refl
none b (suc n) i h = absurd (let z : ⊥ = omega arith in z)

pub rest_first : (b : List ℕ) → rest b 0 ≡ (decode b).entries
unfolding decode
rest_first b =
    let n : entry_count b - 0 ≡ entry_count b = omega arith in
    let p : entries_place + entry_size * 0 ≡ entries_place = omega arith in
    ap₂ (λ (k i : ℕ). items_from entry_at entry_size k b i) n p

pub rest_step : (b : List ℕ) (i : ℕ) → i < entry_count b → rest b i ≡ entry_of b i ∷ rest b (i + 1)
rest_step b i h =
    let n : entry_count b - i - 1 ≡ entry_count b - (i + 1) = omega arith in
    let p : entries_place + entry_size * i + entry_size ≡ entries_place + entry_size * (i + 1) = omega arith in
    let e : entry_of b i ≡ entry_at b (entries_place + entry_size * i) =
    ap (λ (t : Bool). cond t (entry_at b (entries_place + entry_size * i)) no_entry) (lt-ltb i (entry_count b) h) in
    step b (entry_count b - i) (entries_place + entry_size * i) (omega arith)
    ∙ ap₂ (λ (x : Entry) (xs : List Entry). x ∷ xs) (sym e) (ap₂ (λ (k j : ℕ). items_from entry_at entry_size k b j) n p)

pub rest_end : (b : List ℕ) (i : ℕ) → entry_count b ≤ i → rest b i ≡ []
rest_end b i h = none b (entry_count b - i) (entries_place + entry_size * i) (omega arith)

-- ---- some entry
or_assoc : (a b c : Bool) → ((a || b) || c) ≡ (a || (b || c))
or_assoc true b c = refl
or_assoc false b c = refl

or-false : (a : Bool) → (a || false) ≡ a
or-false true = refl
or-false false = refl

-- one test or the other
pub some_either : (p q : Entry → Bool) (es : List Entry) → some (λ e. p e || q e) es ≡ (some p es || some q es)
unfolding some
some_either p q [] = refl
some_either p q (e ∷ es) = ap (◌||◌ (p e || q e)) (some_either p q es) ∙ by (p e) (q e) (some p es) (some q es)
  where
    by : (a b c d : Bool) → ((a || b) || (c || d)) ≡ ((a || c) || (b || d))
    by true b c d = refl
    by false true true d = refl
    by false true false d = refl
    by false false c d = refl

module _ (p : Entry → Bool) (b : List ℕ) where
  pub some_again : (i : ℕ) (found more : Bool) (e : Entry) (whole : Bool) → e ≡ entry_of b i → more ≡ (found || p e) → i < entry_count b
      → (found || some p (rest b i)) ≡ whole → (more || some p (rest b (i + 1))) ≡ whole
  unfolding some
  some_again i found more e whole q f h w =
      let g : more ≡ (found || p (entry_of b i)) = rw q at f in
      let s : some p (rest b i) ≡ (p (entry_of b i) || some p (rest b (i + 1))) = ap (some p) (rest_step b i h) in
      rw g (or_assoc found (p (entry_of b i)) (some p (rest b (i + 1))) ∙ ap (◌||◌ found) (sym s) ∙ w)

  pub some_end : (i : ℕ) (found : Bool) → entry_count b ≤ i → (found || some p (rest b i)) ≡ found
  unfolding some
  some_end i found h = ap (λ (es : List Entry). found || some p es) (rest_end b i h) ∙ or-false found

-- ---- some owner
pub some_more : (p : ℕ → Bool) (n : ℕ) → some_below (n + 1) p ≡ (some_below n p || p n)
unfolding some_below
some_more p n = ap (λ (k : ℕ). some_below k p) (add-one n)

-- ---- rivals gathered, and named
pub gathered_again : (l b : List ℕ) (i found : ℕ) → i < entry_count b
    → gathered l found (rest b i) ≡ gathered l (joined found (rivals_at l (entry_of b i))) (rest b (i + 1))
unfolding gathered
gathered_again l b i found h = ap (gathered l found) (rest_step b i h)

pub gathered_end : (l b : List ℕ) (i found : ℕ) → entry_count b ≤ i → gathered l found (rest b i) ≡ found
unfolding gathered
gathered_end l b i found h = ap (gathered l found) (rest_end b i h)

pub named_more : (l : List ℕ) (rivals n : ℕ) → named_below l rivals (n + 1) ≡ set (named_below l rivals n) n (named l rivals n)
unfolding named_below
named_more l rivals n = ap (named_below l rivals) (add-one n)
