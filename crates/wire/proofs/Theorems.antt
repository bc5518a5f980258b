-- What holds of messages: what is accepted is exactly what `encode` gives of a well-formed message, both ways round; and how long messages are.
use mathlib.Core.Path.{◌≡◌, refl, sym, ap, ◌∙◌, subst}
use mathlib.Core.Bool.{Bool, true, false, cond, not, ◌&&◌, ◌||◌}
use mathlib.Core.List.{List, [], ◌∷◌}
use Prim.Native.Nat.{ℕ, zero, suc, ◌+◌, ◌*◌, ◌≤◌}
use native.Mathlib.Omega.{arith}
use lib.Dec.{T, eqb, ltb, leb}
use borrow.Author.Tests.{eq-eqb, eqb-true, le-ltb, leb-true}
use lib.ListN.{length}
use Rattle.numbers.specs.Sizes.{most_open, longest_message}
use Rattle.octets.specs.Octets.{le}
use Rattle.octets.proofs.Laws.{Bytes, get_small}
use Rattle.wire.specs.declared.Entry.{Entry}
use Rattle.wire.specs.Message.{Message}
use Rattle.wire.specs.Formed.{between, counts_ok, word_of, ascend, entry_ok, entries_ok, rivals_ok, well_formed}
use Rattle.wire.specs.Encode.{encode_entry, together, encode, size_of, All, EntryFits, RivalFits, Fits}
use Rattle.wire.specs.Decode.{entry_at, rival_at, items_from, decode, accepted, check_of}
use Rattle.wire.proofs.RoundTrip.{length_encode, decode_encode, encode_decode}

-- ---- tests taken apart
both_left : (a b : Bool) → (a && b) ≡ true → a ≡ true
both_left true b e = refl
both_left false b e = e

both_right : (a b : Bool) → (a && b) ≡ true → b ≡ true
both_right true b e = e
both_right false b e = let z : ◌≡◌ {A = Bool} true false = sym e in absurd (subst T z tt)

cases : (P : Type 0) (b x y : Bool) → (b ≡ true → x ≡ true → P) → (y ≡ true → P) → cond b x y ≡ true → P
cases P true x y f g e = f refl e
cases P false x y f g e = g e

false_true : {P : Type 0} → false ≡ true → P
false_true e = absurd (subst (λ (b : Bool). T (not b)) e tt)

-- ---- lengths: the counts that a kind allows take at most 113 bytes beyond the shortest message
-- two counts that are given exactly
two : (a b c d : ℕ) → (eqb a c && eqb b d) ≡ true → (a ≡ c) × (b ≡ d)
two a b c d e = (eqb-true a c (both_left (eqb a c) (eqb b d) e), eqb-true b d (both_right (eqb a c) (eqb b d) e))

abbrev Small : ℕ → ℕ → ℕ → Type 0
Small n r w = 14 * n + 5 * r + w ≤ 113

-- a count of at most 8 or 12 on a word 1, none on a word 0
on_word_lem : (x n hi : ℕ) (b : Bool) → (b ≡ true → n ≤ hi) → cond (eqb x 1) b (eqb x 0 && eqb n 0) ≡ true → n ≤ hi
on_word_lem x n hi b f =
    cases (n ≤ hi) (eqb x 1) b (eqb x 0 && eqb n 0) (λ p e. f e) (λ e. let z = two x n 0 0 e in omega arith)

pub counts_small : (k n r w x : ℕ) → counts_ok k n r w x ≡ true → Small n r w
unfolding counts_ok
counts_small k n r w x =
    cases (Small n r w) (between 1 2 k) (eqb n 1 && (eqb r 0 && eqb w 0)) _
    (λ b e. let p = eqb-true n 1 (both_left (eqb n 1) _ e) in let q = two r w 0 0 (both_right (eqb n 1) _ e) in omega arith)
    (cases (Small n r w) (eqb k 3) (between 1 most_open n && (eqb r 0 && eqb w 0)) _
    (λ b e. let p = leb-true n most_open (both_right (leb 1 n) _ (both_left (between 1 most_open n) _ e)) in let q = two r w 0 0
    (both_right (between 1 most_open n) _ e) in omega arith)
    (cases (Small n r w) (eqb k 4) (cond (eqb x 1) (leb r 12) (eqb x 0 && eqb r 0) && (eqb n 0 && eqb w 1)) _
    (λ b e. let p = on_word_lem x r 12 (leb r 12) (leb-true r 12) (both_left _ (eqb n 0 && eqb w 1) e) in let q = two n w 0 1
    (both_right (cond (eqb x 1) (leb r 12) (eqb x 0 && eqb r 0)) _ e) in omega arith)
    (cases (Small n r w) (eqb k 5) (cond (eqb x 1) (between 1 most_open n) (eqb x 0 && eqb n 0) && (eqb r 0 && eqb w 1)) _
    (λ b e. let p = on_word_lem x n most_open (between 1 most_open n) (λ q. leb-true n most_open (both_right (leb 1 n) _ q))
    (both_left _ (eqb r 0 && eqb w 1) e) in let q = two r w 0 1 (both_right (cond (eqb x 1) (between 1 most_open n) (eqb x 0 && eqb n 0)) _ e) in omega arith)
    (cases (Small n r w) (eqb k 6) (eqb n 0 && (eqb r 0 && eqb w 0)) _
    (λ b e. let p = eqb-true n 0 (both_left (eqb n 0) _ e) in let q = two r w 0 0 (both_right (eqb n 0) _ e) in omega arith)
    (cases (Small n r w) (eqb k 7) (eqb r 1 && (eqb n 0 && eqb w 0)) _
    (λ b e. let p = eqb-true r 1 (both_left (eqb r 1) _ e) in let q = two n w 0 0 (both_right (eqb r 1) _ e) in omega arith) false_true)))))

-- the longest message has 128 bytes, the shortest 15
pub length_bounds : (m : Message) → well_formed m ≡ true → (15 ≤ length (encode m)) × (length (encode m) ≤ longest_message)
unfolding well_formed
length_bounds m e =
    let n = length m.entries in
    let r = length m.rivals in
    let w = length m.words in
    let s = counts_small m.kind n r w (word_of m) (both_left (counts_ok m.kind n r w (word_of m)) _ e) in
    (omega (arith, length_encode m), omega (arith, length_encode m))

-- and both lengths occur: a done, and a commit of eight objects
abbrev a_done : Message
a_done = record { kind = 6; from = 1; to = 0; owner = 0; serial = 1; stamp = 1; entries = []; rivals = []; words = [] }

abbrev write : ℕ → Entry
write o = record { object = o; mode = 1; version = 0; value = 0 }

abbrev a_commit : Message
a_commit =
    record {
      kind = 5;
      from = 0;
      to = 1;
      owner = 0;
      serial = 1;
      stamp = 1;
      entries = write 0 ∷ write 1 ∷ write 2 ∷ write 3 ∷ write 4 ∷ write 5 ∷ write 6 ∷ write 7 ∷ [];
      rivals = [];
      words = 1 ∷ [];
    }

pub shortest_occurs : (well_formed a_done ≡ true) × (length (encode a_done) ≡ 15)
unfolding well_formed counts_ok entries_ok rivals_ok ascend encode together le
shortest_occurs = (refl, refl)

pub longest_occurs : (well_formed a_commit ≡ true) × (length (encode a_commit) ≡ longest_message)
unfolding well_formed counts_ok entries_ok rivals_ok ascend entry_ok encode encode_entry together le
longest_occurs = (refl, refl)

-- ---- what is accepted is exactly what `encode` gives of a well-formed message
pub encoded_accepted : (m : Message) → Fits m → accepted (encode m) ≡ well_formed m
unfolding accepted
encoded_accepted m f =
    let d = decode_encode m f in
    ap (λ (x : Message). eqb (length (encode m)) (size_of x) && well_formed x) d
    ∙ ap (λ (b : Bool). b && well_formed m) (eq-eqb (length (encode m)) (size_of m) (length_encode m))

pub encoded_checked : (m : Message) → Fits m → well_formed m ≡ true → check_of (encode m) ≡ 0
unfolding check_of
encoded_checked m f e =
    let b = length_bounds m e in
    simp (le-ltb (length (encode m)) 15 b.0, le-ltb longest_message (length (encode m)) b.1, encoded_accepted m f ∙ e)

-- bytes that are read fit the bytes that they have
items_fit : {A : Type 0} (P : A → Type 0) (at : List ℕ → ℕ → A) (size : ℕ) (l : List ℕ) → ((i : ℕ) → P (at l i)) → (n i : ℕ) → All P
    (items_from at size n l i)
unfolding items_from
items_fit P at size l f zero i = tt
items_fit P at size l f (suc n) i = (f i, items_fit P at size l f n (i + size))

entry_fits : (l : List ℕ) → Bytes l → (i : ℕ) → EntryFits (entry_at l i)
unfolding entry_at
entry_fits l b i = record { object = b i; mode = b (i + 1); version = get_small 4 l (i + 2) b; value = get_small 8 l (i + 6) b }

rival_fits : (l : List ℕ) → Bytes l → (i : ℕ) → RivalFits (rival_at l i)
unfolding rival_at
rival_fits l b i = record { owner = b i; serial = get_small 4 l (i + 1) b }

pub decoded_fits : (l : List ℕ) → Bytes l → Fits (decode l)
unfolding decode
decoded_fits l b =
    record {
      serial = get_small 4 l 4 b;
      stamp = get_small 4 l 8 b;
      entries = items_fit EntryFits entry_at 14 l (entry_fits l b) _ _;
      rivals = items_fit RivalFits rival_at 5 l (rival_fits l b) _ _;
    }

checked_accepted : (a b : Bool) → ◌≡◌ {A = ℕ} (cond a 1 (cond b 0 3)) 0 → b ≡ true
checked_accepted true b e = absurd (let z : ⊥ = omega arith in z)
checked_accepted false true e = refl
checked_accepted false false e = absurd (let z : ⊥ = omega arith in z)

pub accepted_of_check : (l : List ℕ) → check_of l ≡ 0 → accepted l ≡ true
unfolding check_of
accepted_of_check l e = checked_accepted (ltb (length l) 15 || ltb longest_message (length l)) (accepted l) e

pub checked_encoded : (l : List ℕ) → Bytes l → check_of l ≡ 0 → (m : Message) × (well_formed m ≡ true) × Fits m × (encode m ≡ l)
unfolding accepted
checked_encoded l b e =
    let a : accepted l ≡ true = accepted_of_check l e in (
      decode l,
      both_right (eqb (length l) (size_of (decode l))) (well_formed (decode l)) a,
      decoded_fits l b,
      encode_decode l b (eqb-true (length l) (size_of (decode l)) (both_left (eqb (length l) (size_of (decode l))) (well_formed (decode l)) a)),
    )
