-- Decode of encode and encode of decode are the identity. Both walk the bytes from the front: what stands at a place is what `drop` leaves there.
use mathlib.Core.Path.{◌≡◌, refl, sym, ap, ap₂, ◌∙◌}
use mathlib.Core.List.{List, [], ◌∷◌, ◌++◌, append_assoc, append-nil}
use Prim.Native.Nat.{ℕ, zero, suc, ◌+◌, ◌*◌, ◌^◌, ◌≤◌, ◌<◌}
use native.Mathlib.Numerals.{add-one}
use native.Mathlib.Omega.{arith}
use lib.ListN.{length, get_or, take, drop, length-append, take-append-drop}
use lib.Seq.{drop-drop, drop_at, drop-cons, get_or-take, get_or-drop, drop-length}
use Rattle.octets.specs.Octets.{get, le}
use Rattle.octets.proofs.Laws.{Bytes, length_le, get_ext, get_drop, get_le, le_get}
use Rattle.wire.specs.declared.Entry.{Entry}
use Rattle.wire.specs.declared.Rival.{Rival}
use Rattle.wire.specs.Message.{Message}
use Rattle.wire.specs.Encode.{encode_entry, encode_rival, encode_word, together, section, encode_header, encode, size_of}
use Rattle.wire.specs.Encode.{All, EntryFits, RivalFits, Fits}
use Rattle.wire.specs.Decode.{entry_count, entries_place, rival_count, rivals_place, word_count, words_place}
use Rattle.wire.specs.Decode.{entry_at, rival_at, word_at, items_from, decode}
use Rattle.wire.proofs.Made.{made_entry, made_rival, made_message}
use Rattle.wire.proofs.Accepted.{length_items}

-- ---- lengths
pub length_entry : (e : Entry) → length (encode_entry e) ≡ 14
unfolding encode_entry
length_entry e = omega (arith, length-append (le 4 e.version) (le 8 e.value), length_le 4 e.version, length_le 8 e.value)

pub length_rival : (r : Rival) → length (encode_rival r) ≡ 5
unfolding encode_rival
length_rival r = omega (arith, length_le 4 r.serial)

pub length_together : {A : Type 0} (enc : A → List ℕ) (size : ℕ) → ((x : A) → length (enc x) ≡ size) → (xs : List A)
    → length (together enc xs) ≡ size * length xs
unfolding together
length_together enc size f [] = omega arith
length_together enc size f (x ∷ xs) = omega (arith, length-append (enc x) (together enc xs), f x, length_together enc size f xs)

pub length_header : (m : Message) → length (encode_header m) ≡ 12
length_header m = omega (arith, length-append (le 4 m.serial) (le 4 m.stamp), length_le 4 m.serial, length_le 4 m.stamp)

pub length_encode : (m : Message) → length (encode m) ≡ size_of m
unfolding encode
length_encode m =
    let e = section encode_entry m.entries in
    let r = section encode_rival m.rivals in
    let w = section encode_word m.words in
    omega (
      arith,
      length-append (encode_header m) (e ++ (r ++ w)),
      length-append e (r ++ w),
      length-append r w,
      length_header m,
      length_together encode_entry 14 length_entry m.entries,
      length_together encode_rival 5 length_rival m.rivals,
      length_together encode_word 1 (λ x. refl) m.words,
    )

-- ---- an item read from a part of its size is the item at the part's place
module _ (l : List ℕ) (i k : ℕ) where
  byte_in : (j : ℕ) → j < k → get_or (take k (drop i l)) j 0 ≡ get_or l (i + j) 0
  byte_in j h = get_or-take k (drop i l) j 0 h ∙ get_or-drop i l j 0

  number_in : (n j : ℕ) → j + n ≤ k → get n (take k (drop i l)) j ≡ get n l (i + j)
  number_in n j h = get_ext n (take k (drop i l)) (drop i l) j (λ m a b. get_or-take k (drop i l) m 0 (omega arith)) ∙ get_drop n l i j

  first : get_or l (i + 0) 0 ≡ get_or l i 0
  first = let z : i + 0 ≡ i = omega arith in ap (λ (j : ℕ). get_or l j 0) z

  pub entry_in : k ≡ 14 → entry_at (take k (drop i l)) 0 ≡ entry_at l i
  unfolding entry_at
  entry_in e = made_entry (byte_in 0 (omega arith) ∙ first) (byte_in 1 (omega arith)) (number_in 4 2 (omega arith)) (number_in 8 6 (omega arith))

  pub rival_in_lem : k ≡ 5 → rival_at (take k (drop i l)) 0 ≡ rival_at l i
  unfolding rival_at
  rival_in_lem e = made_rival (byte_in 0 (omega arith) ∙ first) (number_in 4 1 (omega arith))

-- ---- what stands at a place of a list
module _ (l : List ℕ) where
  -- past what stands there
  pub next : (i n : ℕ) (x y : List ℕ) → length x ≡ n → drop i l ≡ x ++ y → drop (i + n) l ≡ y
  next i n x y e h = sym (drop-drop n i l) ∙ ap (drop n) h ∙ drop_at x y n e

  pub byte_at : (i x : ℕ) (y : List ℕ) → drop i l ≡ x ∷ y → get_or l i 0 ≡ x
  byte_at i x y h =
      let z : i ≡ i + 0 = omega arith in
      ap (λ (j : ℕ). get_or l j 0) z ∙ sym (get_or-drop i l 0 0) ∙ ap (λ (m : List ℕ). get_or m 0 0) h

  pub number_at : (k i v : ℕ) (y : List ℕ) → v < 256 ^ k → drop i l ≡ le k v ++ y → get k l i ≡ v
  number_at k i v y f h =
      let z : i ≡ i + 0 = omega arith in
      ap (get k l) z ∙ sym (get_drop k l i 0) ∙ ap (λ (m : List ℕ). get k m 0) h ∙ get_le k v y f

  pub items_at : {A : Type 0} (at : List ℕ → ℕ → A) (enc : A → List ℕ) (size : ℕ) (P : A → Type 0) → ((x : A) → length (enc x) ≡ size)
      → ((x : A) (i : ℕ) (y : List ℕ) → P x → drop i l ≡ enc x ++ y → at l i ≡ x)
      → (xs : List A) (i : ℕ) (y : List ℕ) → All P xs → drop i l ≡ together enc xs ++ y → items_from at size (length xs) l i ≡ xs
  unfolding together items_from
  items_at at enc size P len read [] i y p h = refl
  items_at at enc size P len read (x ∷ xs) i y p h =
      let g : drop i l ≡ enc x ++ (together enc xs ++ y) = h ∙ append_assoc (enc x) (together enc xs) y in
      ap₂ ◌∷◌ (read x i (together enc xs ++ y) p.0 g)
      (items_at at enc size P len read xs (i + size) y p.1 (next i size (enc x) (together enc xs ++ y) (len x) g))

  -- an entry and a rival that stand at a place are read there
  entry_at_lem : (e : Entry) (i : ℕ) (y : List ℕ) → EntryFits e → drop i l ≡ encode_entry e ++ y → entry_at l i ≡ e
  unfolding encode_entry entry_at
  entry_at_lem e i y f h =
      let v = le 4 e.version in
      let u = le 8 e.value in
      let h1 : drop (i + 1) l ≡ e.mode ∷ ((v ++ u) ++ y) = next i 1 (e.object ∷ []) (e.mode ∷ ((v ++ u) ++ y)) refl h in
      let h2 : drop (i + 2) l ≡ v ++ (u ++ y) = next i 2 (e.object ∷ e.mode ∷ []) ((v ++ u) ++ y) refl h ∙ append_assoc v u y in
      let h6 : drop (i + 2 + 4) l ≡ u ++ y = next (i + 2) 4 v (u ++ y) (length_le 4 e.version) h2 in
      let z : i + 2 + 4 ≡ i + 6 = omega arith in
      made_entry (byte_at i e.object _ h) (byte_at (i + 1) e.mode _ h1) (number_at 4 (i + 2) e.version (u ++ y) f.version h2)
      (number_at 8 (i + 6) e.value y f.value (ap (λ (j : ℕ). drop j l) (sym z) ∙ h6))

  rival_at_lem : (r : Rival) (i : ℕ) (y : List ℕ) → RivalFits r → drop i l ≡ encode_rival r ++ y → rival_at l i ≡ r
  unfolding encode_rival rival_at
  rival_at_lem r i y f h =
      made_rival (byte_at i r.owner _ h)
      (number_at 4 (i + 1) r.serial y f.serial (next i 1 (r.owner ∷ []) (le 4 r.serial ++ y) refl h))

-- ---- decode of encode
all_words : (ws : List ℕ) → All (λ (w : ℕ). Unit {0}) ws
all_words [] = tt
all_words (w ∷ ws) = (tt, all_words ws)

module _ (m : Message) (f : Fits m) where
  abbrev bytes : List ℕ
  bytes = encode m

  abbrev es : List ℕ
  es = together encode_entry m.entries

  abbrev rs : List ℕ
  rs = together encode_rival m.rivals

  abbrev ws : List ℕ
  ws = together encode_word m.words

  abbrev tail3 : List ℕ
  tail3 = length m.words ∷ ws

  abbrev tail2 : List ℕ
  tail2 = length m.rivals ∷ (rs ++ tail3)

  abbrev tail1 : List ℕ
  tail1 = length m.entries ∷ (es ++ tail2)

  at4 : drop 4 bytes ≡ le 4 m.serial ++ (le 4 m.stamp ++ tail1)
  unfolding encode
  at4 = append_assoc (le 4 m.serial) (le 4 m.stamp) tail1

  at8 : drop 8 bytes ≡ le 4 m.stamp ++ tail1
  at8 = next bytes 4 4 (le 4 m.serial) (le 4 m.stamp ++ tail1) (length_le 4 m.serial) at4

  at12 : drop 12 bytes ≡ tail1
  at12 = next bytes 8 4 (le 4 m.stamp) tail1 (length_le 4 m.stamp) at8

  at13 : drop entries_place bytes ≡ es ++ tail2
  at13 = next bytes 12 1 (length m.entries ∷ []) (es ++ tail2) refl at12

  count_entries : entry_count bytes ≡ length m.entries
  count_entries = byte_at bytes 12 (length m.entries) (es ++ tail2) at12

  at_rivals : drop (entries_place + 14 * length m.entries) bytes ≡ tail2
  at_rivals = next bytes entries_place (14 * length m.entries) es tail2 (length_together encode_entry 14 length_entry m.entries) at13

  count_rivals : rival_count bytes ≡ length m.rivals
  count_rivals =
      ap (λ (n : ℕ). get_or bytes (entries_place + 14 * n) 0) count_entries
      ∙ byte_at bytes (entries_place + 14 * length m.entries) (length m.rivals) (rs ++ tail3) at_rivals

  place_rivals : rivals_place bytes ≡ entries_place + 14 * length m.entries + 1
  place_rivals = ap (λ (n : ℕ). entries_place + 14 * n + 1) count_entries

  at_rivals1 : drop (rivals_place bytes) bytes ≡ rs ++ tail3
  at_rivals1 =
      ap (λ (i : ℕ). drop i bytes) place_rivals
      ∙ next bytes (entries_place + 14 * length m.entries) 1 (length m.rivals ∷ []) (rs ++ tail3) refl at_rivals

  at_words : drop (rivals_place bytes + 5 * length m.rivals) bytes ≡ tail3
  at_words = next bytes (rivals_place bytes) (5 * length m.rivals) rs tail3 (length_together encode_rival 5 length_rival m.rivals) at_rivals1

  count_words : word_count bytes ≡ length m.words
  count_words =
      ap (λ (n : ℕ). get_or bytes (rivals_place bytes + 5 * n) 0) count_rivals
      ∙ byte_at bytes (rivals_place bytes + 5 * length m.rivals) (length m.words) ws at_words

  at_words1 : drop (words_place bytes) bytes ≡ ws ++ []
  at_words1 =
      ap (λ (n : ℕ). drop (rivals_place bytes + 5 * n + 1) bytes) count_rivals
      ∙ next bytes (rivals_place bytes + 5 * length m.rivals) 1 (length m.words ∷ []) ws refl at_words ∙ sym (append-nil ws)

  pub decode_encode : decode (encode m) ≡ m
  unfolding decode encode items_from rival_at entry_at
  decode_encode =
      made_message refl refl refl refl (number_at bytes 4 4 m.serial _ f.serial at4) (number_at bytes 4 8 m.stamp _ f.stamp at8)
      (ap (λ (n : ℕ). items_from entry_at 14 n bytes entries_place) count_entries
      ∙ items_at bytes entry_at encode_entry 14 EntryFits length_entry (entry_at_lem bytes) m.entries entries_place tail2 f.entries at13)
      (ap (λ (n : ℕ). items_from rival_at 5 n bytes (rivals_place bytes)) count_rivals
      ∙ items_at bytes rival_at encode_rival 5 RivalFits length_rival (rival_at_lem bytes) m.rivals (rivals_place bytes) tail3 f.rivals at_rivals1)
      (ap (λ (n : ℕ). items_from word_at 1 n bytes (words_place bytes)) count_words
      ∙ items_at bytes word_at encode_word 1 (λ (w : ℕ). Unit {0}) (λ x. refl) (λ x i y p h. byte_at bytes i x y h) m.words (words_place bytes) []
      (all_words m.words) at_words1)

-- ---- encode of decode: the bytes are peeled off from the front
module _ (l : List ℕ) (b : Bytes l) where
  pub peel_byte : (i : ℕ) → i < length l → drop i l ≡ get_or l i 0 ∷ drop (i + 1) l
  peel_byte i h = drop-cons l i 0 h ∙ ap (λ (j : ℕ). get_or l i 0 ∷ drop j l) (sym (add-one i))

  pub peel_number : (k i : ℕ) → i + k ≤ length l → drop i l ≡ le k (get k l i) ++ drop (i + k) l
  peel_number k i h = sym (take-append-drop k (drop i l)) ∙ ap₂ ◌++◌ (sym (le_get k l i h b)) (drop-drop k i l)

  -- the reading of one item gives the bytes back
  abbrev pub Peels : {A : Type 0} → (List ℕ → ℕ → A) → (A → List ℕ) → ℕ → Type 0
  Peels at enc size = (i : ℕ) → i + size ≤ length l → drop i l ≡ enc (at l i) ++ drop (i + size) l

  pub peel_items : {A : Type 0} (at : List ℕ → ℕ → A) (enc : A → List ℕ) (size : ℕ) → Peels at enc size → (n i : ℕ) → i + size * n ≤ length l
      → drop i l ≡ together enc (items_from at size n l i) ++ drop (i + size * n) l
  unfolding together items_from
  peel_items at enc size p zero i h = let z : i ≡ i + size * 0 = omega arith in ap (λ (j : ℕ). drop j l) z
  peel_items at enc size p (suc n) i h =
      let z : i + size + size * n ≡ i + size * suc n = omega arith in
      p i (omega arith) ∙ ap (◌++◌ (enc (at l i))) (peel_items at enc size p n (i + size) (omega arith)
      ∙ ap (λ (j : ℕ). together enc (items_from at size n l (i + size)) ++ drop j l) z)
      ∙ sym (append_assoc (enc (at l i)) (together enc (items_from at size n l (i + size))) (drop (i + size * suc n) l))

  peel_entry : Peels entry_at encode_entry 14
  unfolding encode_entry entry_at
  peel_entry i h =
      let z : i + 1 + 1 ≡ i + 2 = omega arith in
      let y : i + 2 + 4 ≡ i + 6 = omega arith in
      let x : i + 6 + 8 ≡ i + 14 = omega arith in
      let w = le 4 (get 4 l (i + 2)) in
      let v = le 8 (get 8 l (i + 6)) in
      peel_byte i (omega arith)
      ∙ ap (◌∷◌ (get_or l i 0))
      (peel_byte (i + 1) (omega arith)
      ∙ ap (◌∷◌ (get_or l (i + 1) 0))
      (ap (λ (j : ℕ). drop j l) z ∙ peel_number 4 (i + 2) (omega arith)
      ∙ ap (◌++◌ w) (ap (λ (j : ℕ). drop j l) y ∙ peel_number 8 (i + 6) (omega arith) ∙ ap (λ (j : ℕ). v ++ drop j l) x)
      ∙ sym (append_assoc w v (drop (i + 14) l))))

  peel_rival : Peels rival_at encode_rival 5
  unfolding encode_rival rival_at
  peel_rival i h =
      let z : i + 1 + 4 ≡ i + 5 = omega arith in
      peel_byte i (omega arith)
      ∙ ap (◌∷◌ (get_or l i 0)) (peel_number 4 (i + 1) (omega arith) ∙ ap (λ (j : ℕ). le 4 (get 4 l (i + 1)) ++ drop j l) z)

  peel_word : Peels word_at encode_word 1
  peel_word i h = peel_byte i (omega arith)

  -- a section from its count on
  peel_section : {A : Type 0} (at : List ℕ → ℕ → A) (enc : A → List ℕ) (size : ℕ) → Peels at enc size → (i : ℕ)
      → i + 1 + size * get_or l i 0 ≤ length l
      → drop i l ≡ section enc (items_from at size (get_or l i 0) l (i + 1)) ++ drop (i + 1 + size * get_or l i 0) l
  peel_section at enc size p i h =
      peel_byte i (omega arith)
      ∙ ap₂ ◌∷◌ (sym (length_items at size l (get_or l i 0) (i + 1))) (peel_items at enc size p (get_or l i 0) (i + 1) h)

  pub encode_decode : length l ≡ size_of (decode l) → encode (decode l) ≡ l
  unfolding decode encode
  encode_decode e =
      let n = entry_count l in
      let r = rival_count l in
      let w = word_count l in
      let size : length l ≡ 15 + 14 * n + 5 * r + w =
      e ∙ ap₂ (λ (x : ℕ) (y : ℕ × ℕ). 15 + 14 * x + 5 * y.0 + y.1) (length_items entry_at 14 l n entries_place)
      (ap₂ (λ (x y : ℕ). (x, y)) (length_items rival_at 5 l r (rivals_place l)) (length_items word_at 1 l w (words_place l))) in
      let es = section encode_entry (items_from entry_at 14 n l entries_place) in
      let rs = section encode_rival (items_from rival_at 5 r l (rivals_place l)) in
      let ws = section encode_word (items_from word_at 1 w l (words_place l)) in
      let s4 = le 4 (get 4 l 4) in
      let s8 = le 4 (get 4 l 8) in
      let z : words_place l + 1 * w ≡ length l = omega arith in
      let p3 : drop (rivals_place l + 5 * r) l ≡ ws =
      peel_section word_at encode_word 1 peel_word (rivals_place l + 5 * r) (omega arith)
      ∙ ap (λ (j : ℕ). ws ++ drop j l) z ∙ ap (◌++◌ ws) (drop-length l) ∙ append-nil ws in
      let p2 : drop (entries_place + 14 * n) l ≡ rs ++ ws =
      peel_section rival_at encode_rival 5 peel_rival (entries_place + 14 * n) (omega arith) ∙ ap (◌++◌ rs) p3 in
      let p1 : drop 12 l ≡ es ++ (rs ++ ws) = peel_section entry_at encode_entry 14 peel_entry 12 (omega arith) ∙ ap (◌++◌ es) p2 in
      let p0 : drop 4 l ≡ (s4 ++ s8) ++ (es ++ (rs ++ ws)) =
      peel_number 4 4 (omega arith) ∙ ap (◌++◌ s4) (peel_number 4 8 (omega arith) ∙ ap (◌++◌ s8) p1) ∙ sym (append_assoc s4 s8 (es ++ (rs ++ ws))) in
      sym
      (peel_byte 0 (omega arith)
      ∙ ap (◌∷◌ (get_or l 0 0))
      (peel_byte 1 (omega arith)
      ∙ ap (◌∷◌ (get_or l 1 0)) (peel_byte 2 (omega arith) ∙ ap (◌∷◌ (get_or l 2 0)) (peel_byte 3 (omega arith) ∙ ap (◌∷◌ (get_or l 3 0)) p0))))
