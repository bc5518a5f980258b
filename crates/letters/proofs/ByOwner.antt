-- Rivals given by owner: one owner at a time.
use mathlib.Core.Path.{◌≡◌, refl, sym, ap, ap₂, ◌∙◌}
use mathlib.Core.Bool.{Bool, true, false, cond, not}
use mathlib.Core.List.{List, [], ◌∷◌, ◌++◌, append_assoc}
use Prim.Native.Nat.{ℕ, zero, suc, ◌+◌, ◌*◌, ◌≤◌, ◌<◌}
use native.Mathlib.Omega.{arith}
use native.Mathlib.Numerals.{add-one}
use lib.Dec.{eqb}
use mir.Val.{bool_byte}
use borrow.Author.Tests.{eq-eqb, ne_eqb}
use lib.ListN.{length, get_or, set, take, drop, replicate, length-append, drop_of_length-le}
use lib.Seq.{sets, drop-cons}
use Rattle.std.specs.List.{count_by}
use Rattle.std.proofs.lemmas.List.Sums.{sum_by-cons}
use Rattle.wire.specs.declared.Rival.{Rival}
use Rattle.wire.specs.Encode.{encode_entry, encode_rival, encode_word, together, section, encode_header, encode}
use Rattle.wire.specs.Message.{Message}
use Rattle.letters.specs.Write.{one_rival, rivals_by}
use Rattle.wire.proofs.Stores.{sets_then}
use Rattle.wire.proofs.RoundTrip.{length_entry, length_rival, length_together, length_header}

-- at most one rival for an owner, whichever owner it is
count_one : (b : Bool) (x y : Rival) → (length (cond b [] (x ∷ [])) ≡ length (cond b [] (y ∷ []))) × (length (cond b [] (x ∷ [])) ≤ 1)
count_one true x y = (refl, omega arith)
count_one false x y = (refl, omega arith)

pub one_count : (o p s : ℕ) → (length (one_rival o s) ≡ length (one_rival p s)) × (length (one_rival o s) ≤ 1)
one_count o p s = count_one (eqb s 0) (record { owner = o; serial = s }) (record { owner = p; serial = s })

-- the owner i first
pub rivals_step : (i : ℕ) (ss : List ℕ) → i < length ss → rivals_by i (drop i ss) ≡ one_rival i (get_or ss i 0) ++ rivals_by (i + 1) (drop (i + 1) ss)
unfolding rivals_by
rivals_step i ss h =
    ap (rivals_by i) (drop-cons ss i 0 h) ∙ ap (λ (j : ℕ). one_rival i (get_or ss i 0) ++ rivals_by (i + 1) (drop j ss)) (sym (add-one i))

pub rivals_end : (i : ℕ) (ss : List ℕ) → length ss ≤ i → rivals_by i (drop i ss) ≡ []
unfolding rivals_by
rivals_end i ss h = ap (rivals_by i) (drop_of_length-le ss h)

-- how many there are, counted by the serials that are not 0
pub rivals_count : (o : ℕ) (ss : List ℕ) → count_by (λ s. not (eqb s 0)) ss ≡ length (rivals_by o ss)
unfolding rivals_by
rivals_count o [] = refl
rivals_count o (s ∷ ss) =
    sum_by-cons (λ n. cond (not (eqb n 0)) 1 0) s ss
    ∙ ap₂ ◌+◌ (one (eqb s 0) (record { owner = o; serial = s })) (rivals_count (o + 1) ss)
    ∙ sym (length-append (one_rival o s) (rivals_by (o + 1) ss))
  where
    one : (b : Bool) (x : Rival) → cond (not b) 1 0 ≡ length (cond b [] (x ∷ []))
    one true x = refl
    one false x = refl

-- 1 for yes and 0 for no, as a byte and as a number
pub one_bit : (b : Bool) → (bool_byte b ≡ cond b 1 0) × (cond b 1 0 ≤ 1)
one_bit true = (refl, omega arith)
one_bit false = (refl, omega arith)

-- the owner i first
pub count_next : (i : ℕ) (ss : List ℕ) → i < length ss
    → count_by (λ s. not (eqb s 0)) (drop i ss)
    ≡ cond (not (eqb (get_or ss i 0) 0)) 1 0 + count_by (λ s. not (eqb s 0)) (drop (i + 1) ss)
count_next i ss h =
    ap (count_by (λ s. not (eqb s 0))) (drop-cons ss i 0 h ∙ ap (λ (j : ℕ). get_or ss i 0 ∷ drop j ss) (sym (add-one i)))
    ∙ sum_by-cons (λ n. cond (not (eqb n 0)) 1 0) (get_or ss i 0) (drop (i + 1) ss)

pub rivals_length : (o : ℕ) (ss : List ℕ) → length (rivals_by o ss) ≤ length ss
unfolding rivals_by
rivals_length o [] = omega arith
rivals_length o (s ∷ ss) = omega (arith, length-append (one_rival o s) (rivals_by (o + 1) ss), (one_count o o s).1, rivals_length (o + 1) ss)

together_append : (a b : List Rival) → together encode_rival (a ++ b) ≡ together encode_rival a ++ together encode_rival b
unfolding together
together_append [] b = refl
together_append (x ∷ a) b =
    ap (◌++◌ (encode_rival x)) (together_append a b) ∙ sym (append_assoc (encode_rival x) (together encode_rival a) (together encode_rival b))

-- some rivals stored, then the rest
pub rivals_then : (a b : List Rival) (s : List ℕ) (i : ℕ)
    → sets s i (together encode_rival (a ++ b)) ≡ sets (sets s i (together encode_rival a)) (i + 5 * length a) (together encode_rival b)
rivals_then a b s i =
    ap (sets s i) (together_append a b)
    ∙ sets_then (together encode_rival a) (together encode_rival b) s i (5 * length a) (length_together encode_rival 5 length_rival a)

-- a serial of 0 is no rival, any other is one
pub one_none : (o s : ℕ) → s ≡ 0 → one_rival o s ≡ []
one_none o s e = simp (eq-eqb s 0 e)

pub one_some : (o s : ℕ) → (s ≡ 0 → ⊥) → one_rival o s ≡ record { owner = o; serial = s } ∷ []
one_some o s f = simp (ne_eqb s 0 f)

-- a section: its count, then its items
pub section_stores : {A : Type 0} (enc : A → List ℕ) (xs : List A) (l : List ℕ) (i n : ℕ) → n ≡ length xs
    → sets (set l i n) (i + 1) (together enc xs) ≡ sets l i (section enc xs)
section_stores enc xs l i n e = ap₂ (λ (j k : ℕ). sets (set l i k) j (together enc xs)) (add-one i) e

-- no word, and one word
pub word_none : (l : List ℕ) (i words w : ℕ) → words ≡ 0 → set l i words ≡ sets l i (section encode_word (take words (w ∷ [])))
unfolding together
word_none l i words w e = rw e

pub word_one : (l : List ℕ) (i words w : ℕ) → words ≡ 1 → set (set l i words) (i + 1) w ≡ sets l i (section encode_word (take words (w ∷ [])))
unfolding together
word_one l i words w e = rw (e, add-one i)

pub at_most_one : (n : ℕ) → (n ≡ 0 → ⊥) → n ≤ 1 → n ≡ 1
at_most_one zero f h = absurd (f refl)
at_most_one (suc n) f h = omega arith

-- ---- the whole message, piece by piece
pub length_section : {A : Type 0} (enc : A → List ℕ) (size : ℕ) → ((x : A) → length (enc x) ≡ size) → (xs : List A)
    → length (section enc xs) ≡ 1 + size * length xs
length_section enc size f xs = omega (arith, length_together enc size f xs)

pub message_stores : (m : Message) (l : List ℕ) (e r : ℕ) → e ≡ 12 + 1 + 14 * length m.entries → r ≡ e + 1 + 5 * length m.rivals
    → sets (sets (sets (sets l 0 (encode_header m)) 12 (section encode_entry m.entries)) e (section encode_rival m.rivals)) r
    (section encode_word m.words)
    ≡ sets l 0 (encode m)
unfolding encode
message_stores m l e r p q =
    let es = section encode_entry m.entries in
    let rs = section encode_rival m.rivals in
    let ws = section encode_word m.words in
    let h = sets l 0 (encode_header m) in
    let e' : 12 + (1 + 14 * length m.entries) ≡ e = omega arith in
    let r' : e + (1 + 5 * length m.rivals) ≡ r = omega arith in
    sym
    (sets_then (encode_header m) (es ++ (rs ++ ws)) l 0 12 (length_header m)
    ∙ sets_then es (rs ++ ws) h 12 (1 + 14 * length m.entries) (length_section encode_entry 14 length_entry m.entries)
    ∙ ap (λ (j : ℕ). sets (sets h 12 es) j (rs ++ ws)) e'
    ∙ sets_then rs ws (sets h 12 es) e (1 + 5 * length m.rivals) (length_section encode_rival 5 length_rival m.rivals)
    ∙ ap (λ (j : ℕ). sets (sets (sets h 12 es) e rs) j ws) r')

-- at most one word
pub words_length : (n w : ℕ) → n ≤ 1 → length (take n (w ∷ [])) ≡ n
words_length zero w h = refl
words_length (suc zero) w h = refl
words_length (suc (suc n)) w h = absurd (omega arith)

-- no serials
pub rivals_none : (o n : ℕ) → rivals_by o (replicate n 0) ≡ []
unfolding rivals_by
rivals_none o zero = refl
rivals_none o (suc n) = rivals_none (o + 1) n
