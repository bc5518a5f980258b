-- The bytes of a record are read as it, and the record that bytes are has these bytes. Both walk the bytes from the front.
use mathlib.Core.Path.{◌≡◌, refl, sym, ap, ◌∙◌, subst}
use mathlib.Core.Bool.{Bool, true, false, cond, ◌&&◌}
use mathlib.Core.List.{List, [], ◌∷◌, ◌++◌, append_assoc, append-nil}
use Prim.Native.Nat.{ℕ, zero, suc, ◌+◌, ◌*◌, ◌/◌, ◌%◌, ◌^◌, ◌<◌, ◌≤◌}
use native.Mathlib.Nat.{mod-lt}
use native.Mathlib.Omega.{arith}
use lib.Dec.{eqb, leb, lit<, lit≤, leb→le}
use borrow.Author.Tests.{eqb-true, eqb-false, le-leb}
use lib.ListN.{length, get_or, drop, drop_of_length-le}
use lib.Seq.{get_or-drop}
use Rattle.record.specs.Layout.{record_size}
use Rattle.numbers.specs.Sizes.{nodes, most_open}
use Rattle.mask.proofs.Tests.{and_left, and_right, T_true, compared}
use Rattle.octets.specs.Octets.{get, le}
use Rattle.octets.proofs.Laws.{Bytes, length_le}
use Rattle.wire.specs.Encode.{together, All}
use Rattle.wire.specs.Decode.{items_from}
use Rattle.wire.proofs.RoundTrip.{length_together, next, byte_at, number_at, items_at, peel_byte, peel_number, peel_items}
use Rattle.wire.proofs.Stores.{all_append}
use Rattle.coordinator.specs.declared.Object.{Object}
use Rattle.coordinator.specs.declared.Coordinator.{Coordinator}
use Rattle.clauses.proofs.Parts.{by_test, true-T}
use Rattle.clauses.proofs.Places.{at}
use Rattle.clauses.proofs.Fits.{ObjectFits, Fits}
use Rattle.record.specs.Record.{front_of, quorum_of, votes_of}
use Rattle.record.specs.Record.{object_of, distances_of, objects_of, rivals_of, record_of, object_bytes, front_bytes, quorum_bytes, vote_bytes, bytes_of}
use Rattle.record.specs.Record.{given_ok}
use Rattle.record.proofs.Made.{made_object, made_record}
use Rattle.record.proofs.Stores.{length_object, length_front, length_quorum, length_votes}

-- ---- one field after the other
module _ (l : List ℕ) where
  -- past a byte, and past a number
  after_byte : (i j x : ℕ) (y : List ℕ) → i + 1 ≡ j → drop i l ≡ x ∷ y → drop j l ≡ y
  after_byte i j x y e h = ap (λ (k : ℕ). drop k l) (sym e) ∙ next l i 1 (x ∷ []) y refl h

  after_number : (k i j v : ℕ) (y : List ℕ) → i + k ≡ j → drop i l ≡ le k v ++ y → drop j l ≡ y
  after_number k i j v y e h = ap (λ (n : ℕ). drop n l) (sym e) ∙ next l i k (le k v) y (length_le k v) h

  after_piece : (n i j : ℕ) (x y : List ℕ) → length x ≡ n → i + n ≡ j → drop i l ≡ x ++ y → drop j l ≡ y
  after_piece n i j x y f e h = ap (λ (k : ℕ). drop k l) (sym e) ∙ next l i n x y f h

given_read : (b : Bool) → eqb (cond b 1 0) 1 ≡ b
given_read true = refl
given_read false = refl

-- an object that stands at a place is read there
object_at_lem : (l : List ℕ) (x : Object) (i : ℕ) (y : List ℕ) → ObjectFits x → drop i l ≡ object_bytes x ++ y → object_of l i ≡ x
unfolding object_of object_bytes
object_at_lem l x i y f h =
    let t6 : List ℕ = le 8 x.new in
    let t5 : List ℕ = cond x.given 1 0 ∷ t6 in
    let t4 : List ℕ = le 8 x.value ++ t5 in
    let t3 : List ℕ = le 4 x.version ++ t4 in
    let t2 : List ℕ = le 2 x.came ++ t3 in
    let h1 : drop (i + 1) l ≡ x.mode ∷ (t2 ++ y) = after_byte l i (i + 1) x.object _ refl h in
    let h2 : drop (i + 2) l ≡ le 2 x.came ++ (t3 ++ y) =
    after_byte l (i + 1) (i + 2) x.mode _ (omega arith) h1 ∙ append_assoc (le 2 x.came) t3 y in
    let h4 : drop (i + 4) l ≡ le 4 x.version ++ (t4 ++ y) =
    after_number l 2 (i + 2) (i + 4) x.came _ (omega arith) h2 ∙ append_assoc (le 4 x.version) t4 y in
    let h8 : drop (i + 8) l ≡ le 8 x.value ++ (t5 ++ y) =
    after_number l 4 (i + 4) (i + 8) x.version _ (omega arith) h4 ∙ append_assoc (le 8 x.value) t5 y in
    let h16 : drop (i + 16) l ≡ cond x.given 1 0 ∷ (t6 ++ y) = after_number l 8 (i + 8) (i + 16) x.value _ (omega arith) h8 in
    let h17 : drop (i + 17) l ≡ le 8 x.new ++ y = after_byte l (i + 16) (i + 17) (cond x.given 1 0) _ (omega arith) h16 in
    made_object (byte_at l i x.object _ h) (byte_at l (i + 1) x.mode _ h1) (number_at l 2 (i + 2) x.came _ f.came_16 h2)
    (number_at l 4 (i + 4) x.version _ f.valued.version_32 h4) (number_at l 8 (i + 8) x.value _ f.valued.value_64 h8)
    (ap (λ (n : ℕ). eqb n 1) (byte_at l (i + 16) (cond x.given 1 0) _ h16) ∙ given_read x.given)
    (number_at l 8 (i + 17) x.new y f.valued.new_64 h17)

-- whether a value was given is 0 or 1
given_at_lem : (l : List ℕ) (x : Object) (i : ℕ) (y : List ℕ) → drop i l ≡ object_bytes x ++ y → get_or l (i + 16) 0 ≡ cond x.given 1 0
unfolding object_bytes le
given_at_lem l x i y h = sym (get_or-drop i l 16 0) ∙ ap (λ (m : List ℕ). get_or m 16 0) h

given_low : (b : Bool) → cond b 1 0 ≤ 1
given_low true = lit≤ tt
given_low false = lit≤ tt

given_in : (l : List ℕ) (xs : List Object) (i : ℕ) (y : List ℕ) → drop i l ≡ together object_bytes xs ++ y → (j : ℕ) → j < length xs
    → get_or l (i + 25 * j + 16) 0 ≤ 1
unfolding together
given_in l [] i y h j k = absurd (let z : ⊥ = omega arith in z)
given_in l (x ∷ xs) i y h zero k =
    let z : i + 16 ≡ i + 25 * 0 + 16 = omega arith in
    let g = given_at_lem l x i (together object_bytes xs ++ y) (h ∙ append_assoc (object_bytes x) (together object_bytes xs) y) in
    subst (λ (n : ℕ). n ≤ 1) (sym g ∙ ap (λ (n : ℕ). get_or l n 0) z) (given_low x.given)
given_in l (x ∷ xs) i y h (suc j) k =
    let z : i + 25 + 25 * j + 16 ≡ i + 25 * suc j + 16 = omega arith in
    let t = h ∙ append_assoc (object_bytes x) (together object_bytes xs) y in
    subst (λ (n : ℕ). get_or l n 0 ≤ 1) z
    (given_in l xs (i + 25) y (next l i 25 (object_bytes x) (together object_bytes xs ++ y) (length_object x) t) j (omega arith))

given_all : (n : ℕ) (l : List ℕ) → ((j : ℕ) → j < n → get_or l (43 + 25 * j + 16) 0 ≤ 1) → given_ok n l ≡ true
unfolding given_ok
given_all zero l h = refl
given_all (suc n) l h = simp (given_all n l (λ j k. h j (omega arith)), le-leb (get_or l (43 + 25 * n + 16) 0) 1 (h n (omega arith)))

-- a fact about every place is one about every element
all_numbers : (n : ℕ) (l : List ℕ) → ((i : ℕ) → get_or l i 0 < n) → All (λ (v : ℕ). v < n) l
all_numbers n [] h = tt
all_numbers n (x ∷ l) h = (h 0, all_numbers n l (λ i. h (suc i)))

all_objects : (l : List Object) → ((i : ℕ) → ObjectFits (at l i)) → All ObjectFits l
all_objects [] h = tt
all_objects (x ∷ l) h = (h 0, all_objects l (λ i. h (suc i)))

module _ (c : Coordinator) (f : Fits c) where
  abbrev l : List ℕ
  l = bytes_of c

  abbrev D : List ℕ
  D = together (le 2) c.distances

  abbrev O : List ℕ
  O = together object_bytes c.objects

  abbrev R : List ℕ
  R = together (le 4) c.rivals

  -- what is left at each piece
  abbrev votes : List ℕ
  votes = vote_bytes c ++ R

  abbrev objects : List ℕ
  objects = O ++ votes

  abbrev quorums : List ℕ
  quorums = quorum_bytes c ++ objects

  at12 : drop 12 l ≡ D ++ quorums
  unfolding bytes_of
  at12 = after_piece l 12 0 12 (front_bytes c) (D ++ quorums) (length_front c) refl refl

  at38 : drop 38 l ≡ quorums
  at38 =
      let n : length D ≡ 26 = omega (arith, length_together (le 2) 2 (length_le 2) c.distances, f.distances_13) in
      after_piece l 26 12 38 D quorums n refl at12

  at43 : drop 43 l ≡ objects
  at43 = after_piece l 5 38 43 (quorum_bytes c) objects (length_quorum c) refl at38

  pub given_bytes : given_ok most_open (bytes_of c) ≡ true
  given_bytes = given_all most_open l (λ j k. given_in l c.objects 43 votes at43 j (omega (arith, f.objects_8)))

  at243 : drop 243 l ≡ votes
  at243 =
      let n : length O ≡ 200 = omega (arith, length_together object_bytes 25 length_object c.objects, f.objects_8) in
      after_piece l 200 43 243 O votes n refl at43

  at249 : drop 249 l ≡ R
  at249 = after_piece l 6 243 249 (vote_bytes c) R (length_votes c) refl at243

  -- the numbers of each piece
  front_read : ((get 4 l 0 ≡ c.serial) × (get 4 l 4 ≡ c.timestamp))
      × ((get_or l 8 0 ≡ c.outcome) × ((get_or l 9 0 ≡ c.phase) × (get 2 l 10 ≡ c.live)))
  unfolding bytes_of front_of
  front_read =
      let t8 : List ℕ = c.outcome ∷ c.phase ∷ le 2 c.live in
      let t4 : List ℕ = le 4 c.timestamp ++ t8 in
      let h0 : drop 0 l ≡ le 4 c.serial ++ (t4 ++ (D ++ quorums)) = append_assoc (le 4 c.serial) t4 (D ++ quorums) in
      let h4 : drop 4 l ≡ le 4 c.timestamp ++ (t8 ++ (D ++ quorums)) =
      after_number l 4 0 4 c.serial _ refl h0 ∙ append_assoc (le 4 c.timestamp) t8 (D ++ quorums) in
      let h8 : drop 8 l ≡ c.outcome ∷ c.phase ∷ (le 2 c.live ++ (D ++ quorums)) = after_number l 4 4 8 c.timestamp _ refl h4 in
      let h9 : drop 9 l ≡ c.phase ∷ (le 2 c.live ++ (D ++ quorums)) = after_byte l 8 9 c.outcome _ refl h8 in
      let h10 : drop 10 l ≡ le 2 c.live ++ (D ++ quorums) = after_byte l 9 10 c.phase _ refl h9 in (
        (number_at l 4 0 c.serial _ f.widths.serial_32 h0, number_at l 4 4 c.timestamp _ f.widths.timestamp_32 h4),
        (byte_at l 8 c.outcome _ h8, (byte_at l 9 c.phase _ h9, number_at l 2 10 c.live _ f.live_16 h10)),
      )

  quorum_read : (get 2 l 38 ≡ c.quorum) × ((get 2 l 40 ≡ c.contacted) × (get_or l 42 0 ≡ c.count))
  unfolding quorum_of
  quorum_read =
      let t42 : List ℕ = c.count % 256 ∷ [] in
      let t40 : List ℕ = le 2 c.contacted ++ t42 in
      let h38 : drop 38 l ≡ le 2 c.quorum ++ (t40 ++ objects) = at38 ∙ append_assoc (le 2 c.quorum) t40 objects in
      let h40 : drop 40 l ≡ le 2 c.contacted ++ (t42 ++ objects) =
      after_number l 2 38 40 c.quorum _ refl h38 ∙ append_assoc (le 2 c.contacted) t42 objects in
      let h42 : drop 42 l ≡ c.count % 256 ∷ objects = after_number l 2 40 42 c.contacted _ refl h40 in
      let small = f.count_8 in (
        number_at l 2 38 c.quorum _ f.quorum_16 h38,
        (number_at l 2 40 c.contacted _ f.contacted_16 h40, byte_at l 42 (c.count % 256) _ h42 ∙ omega arith),
      )

  votes_read : (get 2 l 243 ≡ c.participants) × ((get 2 l 245 ≡ c.yes) × (get 2 l 247 ≡ c.done))
  unfolding votes_of
  votes_read =
      let t245 : List ℕ = le 2 c.yes ++ le 2 c.done in
      let h243 : drop 243 l ≡ le 2 c.participants ++ (t245 ++ R) = at243 ∙ append_assoc (le 2 c.participants) t245 R in
      let h245 : drop 245 l ≡ le 2 c.yes ++ (le 2 c.done ++ R) =
      after_number l 2 243 245 c.participants _ refl h243 ∙ append_assoc (le 2 c.yes) (le 2 c.done) R in
      let h247 : drop 247 l ≡ le 2 c.done ++ R = after_number l 2 245 247 c.yes _ refl h245 in (
        number_at l 2 243 c.participants _ f.participants_16 h243,
        (number_at l 2 245 c.yes _ f.yes_16 h245, number_at l 2 247 c.done _ f.done_16 h247),
      )

  distances_read : distances_of l ≡ c.distances
  unfolding distances_of
  distances_read =
      ap (λ (n : ℕ). items_from (get 2) 2 n l 12) (sym f.distances_13)
      ∙ items_at l (get 2) (le 2) 2 (λ (v : ℕ). v < 256 ^ 2) (length_le 2) (λ v i y p h. number_at l 2 i v y p h) c.distances 12 quorums
      (all_numbers (256 ^ 2) c.distances f.widths.distances_16) at12

  objects_read : objects_of l ≡ c.objects
  unfolding objects_of
  objects_read =
      ap (λ (n : ℕ). items_from object_of 25 n l 43) (sym f.objects_8)
      ∙ items_at l object_of object_bytes 25 ObjectFits length_object (object_at_lem l) c.objects 43 votes (all_objects c.objects f.objects_fit) at43

  rivals_read : rivals_of l ≡ c.rivals
  unfolding rivals_of
  rivals_read =
      ap (λ (n : ℕ). items_from (get 4) 4 n l 249) (sym f.rivals_13)
      ∙ items_at l (get 4) (le 4) 4 (λ (v : ℕ). v < 256 ^ 4) (length_le 4) (λ v i y p h. number_at l 4 i v y p h) c.rivals 249 []
      (all_numbers (256 ^ 4) c.rivals f.widths.rivals_32) (at249 ∙ sym (append-nil R))

  -- the bytes of a record are read as it
  pub record_bytes : record_of (bytes_of c) ≡ c
  unfolding record_of
  record_bytes =
      let a = front_read in
      let q = quorum_read in
      let v = votes_read in
      made_record a.0.0 a.0.1 a.1.0 a.1.1.0 a.1.1.1 distances_read q.0 q.1.0 q.1.1 objects_read v.0 v.1.0
      v.1.1 rivals_read

-- ---- the other way
-- a byte that says whether a value was given
given_back : (n : ℕ) → n ≤ 1 → cond (eqb n 1) 1 0 ≡ n
given_back n h =
    by_test (cond (eqb n 1) 1 0 ≡ n) (eqb n 1) (λ e. simp e (sym (eqb-true n 1 e)))
    (λ e. simp e (let f = eqb-false n 1 e in low n h f))
  where
    low : (n : ℕ) → n ≤ 1 → (n ≡ 1 → ⊥) → 0 ≡ n
    low zero h f = refl
    low (suc n) h f = absurd (f (omega arith))

module _ (l : List ℕ) (b : Bytes l) where
  -- one byte or one number, then what follows
  byte_then : (i j : ℕ) (t : List ℕ) → i + 1 ≡ j → j ≤ length l → drop j l ≡ t → drop i l ≡ get_or l i 0 ∷ t
  byte_then i j t e h k = peel_byte l b i (omega arith) ∙ ap (λ (n : ℕ). get_or l i 0 ∷ drop n l) e ∙ ap (◌∷◌ (get_or l i 0)) k

  number_then : (k i j : ℕ) (t : List ℕ) → i + k ≡ j → j ≤ length l → drop j l ≡ t → drop i l ≡ le k (get k l i) ++ t
  number_then k i j t e h q = peel_number l b k i (omega arith) ∙ ap (λ (n : ℕ). le k (get k l i) ++ drop n l) e ∙ ap (◌++◌ (le k (get k l i))) q

  peel_object : (i : ℕ) → i + 25 ≤ length l → get_or l (i + 16) 0 ≤ 1 → drop i l ≡ object_bytes (object_of l i) ++ drop (i + 25) l
  unfolding object_bytes object_of
  peel_object i h g =
      let h17 = number_then 8 (i + 17) (i + 25) _ (omega arith) h refl in
      let h16 = byte_then (i + 16) (i + 17) _ (omega arith) (omega arith) h17 in
      let h8 = number_then 8 (i + 8) (i + 16) _ (omega arith) (omega arith) h16 in
      let h4 = number_then 4 (i + 4) (i + 8) _ (omega arith) (omega arith) h8 in
      let h2 = number_then 2 (i + 2) (i + 4) _ (omega arith) (omega arith) h4 in
      let h1 = byte_then (i + 1) (i + 2) _ (omega arith) (omega arith) h2 in
      byte_then i (i + 1) _ refl (omega arith) h1 ∙ simp (append_assoc, given_back (get_or l (i + 16) 0) g)

  peel_objects : (n i : ℕ) → ((j : ℕ) → j < n → get_or l (i + 25 * j + 16) 0 ≤ 1) → i + 25 * n ≤ length l
      → drop i l ≡ together object_bytes (items_from object_of 25 n l i) ++ drop (i + 25 * n) l
  unfolding together items_from
  peel_objects zero i g h = let z : i ≡ i + 25 * 0 = omega arith in ap (λ (j : ℕ). drop j l) z
  peel_objects (suc n) i g h =
      let z : i + 25 + 25 * n ≡ i + 25 * suc n = omega arith in
      let first : i + 25 * 0 + 16 ≡ i + 16 = omega arith in
      let x = object_bytes (object_of l i) in
      let rest = together object_bytes (items_from object_of 25 n l (i + 25)) in
      peel_object i (omega arith) (subst (λ (k : ℕ). get_or l k 0 ≤ 1) first (g 0 (omega arith)))
      ∙ ap (◌++◌ x) (peel_objects n (i + 25) (λ j k. subst (λ (m : ℕ). get_or l m 0 ≤ 1) (moved i j) (g (suc j) (omega arith))) (omega arith)
      ∙ ap (λ (j : ℕ). rest ++ drop j l) z)
      ∙ sym (append_assoc x rest (drop (i + 25 * suc n) l))
    where
      moved : (i j : ℕ) → i + 25 * suc j + 16 ≡ i + 25 + 25 * j + 16
      moved i j = omega arith

-- the tests of `given_ok`, one by one
given_each : (n : ℕ) (l : List ℕ) → given_ok n l ≡ true → (j : ℕ) → j < n → get_or l (43 + 25 * j + 16) 0 ≤ 1
unfolding given_ok
given_each zero l e j h = absurd (let z : ⊥ = omega arith in z)
given_each (suc n) l e j h =
    let t = true-T (given_ok n l && leb (get_or l (43 + 25 * n + 16) 0) 1) e in
    by_test (get_or l (43 + 25 * j + 16) 0 ≤ 1) (eqb j n)
    (λ f. subst (λ (k : ℕ). get_or l (43 + 25 * k + 16) 0 ≤ 1) (sym (eqb-true j n f)) (leb→le _ 1 (and_right (given_ok n l) _ t)))
    (λ f. given_each n l (T_true (given_ok n l) (and_left (given_ok n l) _ t)) j (less j n h (eqb-false j n f)))
  where
    less : (j n : ℕ) → j < suc n → (j ≡ n → ⊥) → j < n
    less j n h f = compared (j < n) j n (λ z. z) (λ z. absurd (f z)) (λ z. absurd (let w : ⊥ = omega arith in w))

-- the record that bytes are has these bytes
pub bytes_record : (l : List ℕ) → Bytes l → length l ≡ record_size → given_ok most_open l ≡ true → bytes_of (record_of l) ≡ l
unfolding bytes_of front_of quorum_of votes_of record_of distances_of objects_of rivals_of
bytes_record l b n g =
    let end : drop record_size l ≡ [] = drop_of_length-le l (let z : length l ≤ record_size = omega arith in z) in
    let rivals : drop 249 l ≡ together (le 4) (items_from (get 4) 4 nodes l 249) =
    peel_items l b (get 4) (le 4) 4 (λ i h. peel_number l b 4 i h) nodes 249 (omega arith)
    ∙ ap (◌++◌ (together (le 4) (items_from (get 4) 4 nodes l 249))) end ∙ append-nil (together (le 4) (items_from (get 4) 4 nodes l 249)) in
    let h247 = number_then l b 2 247 249 _ refl (omega arith) rivals in
    let h245 = number_then l b 2 245 247 _ refl (omega arith) h247 in
    let h243 = number_then l b 2 243 245 _ refl (omega arith) h245 in
    let h43 = peel_objects l b most_open 43 (given_each most_open l g) (omega arith)
    ∙ ap (◌++◌ (together object_bytes (items_from object_of 25 most_open l 43))) h243 in
    let h42 = byte_then l b 42 43 _ refl (omega arith) h43 in
    let h40 = number_then l b 2 40 42 _ refl (omega arith) h42 in
    let h38 = number_then l b 2 38 40 _ refl (omega arith) h40 in
    let h12 = peel_items l b (get 2) (le 2) 2 (λ i h. peel_number l b 2 i h) nodes 12 (omega arith)
    ∙ ap (◌++◌ (together (le 2) (items_from (get 2) 2 nodes l 12))) h38 in
    let h10 = number_then l b 2 10 12 _ refl (omega arith) h12 in
    let h9 = byte_then l b 9 10 _ refl (omega arith) h10 in
    let h8 = byte_then l b 8 9 _ refl (omega arith) h9 in
    let h4 = number_then l b 4 4 8 _ refl (omega arith) h8 in
    let h0 = number_then l b 4 0 4 _ refl (omega arith) h4 in
    let small : get_or l 42 0 % 256 ≡ get_or l 42 0 = omega (arith, b 42) in
    sym (h0 ∙ simp (append_assoc, small))

-- ---- each byte of a record is one
all_le : (k v : ℕ) → All (λ (x : ℕ). x < 256) (le k v)
unfolding le
all_le zero v = tt
all_le (suc k) v = (mod-lt v (lit< tt), all_le k (v / 256))

all_together_lem : {A : Type 0} (P : A → Type 0) (enc : A → List ℕ) → ((x : A) → P x → All (λ (n : ℕ). n < 256) (enc x)) → (xs : List A) → All P xs
    → All (λ (n : ℕ). n < 256) (together enc xs)
unfolding together
all_together_lem P enc f [] a = tt
all_together_lem P enc f (x ∷ xs) a =
    all_append (λ (n : ℕ). n < 256) (enc x) (together enc xs) (f x a.0) (all_together_lem P enc f xs a.1)

join : (a b : List ℕ) → All (λ (n : ℕ). n < 256) a → All (λ (n : ℕ). n < 256) b → All (λ (n : ℕ). n < 256) (a ++ b)
join a b p q = all_append (λ (n : ℕ). n < 256) a b p q

given_small : (b : Bool) → cond b 1 0 < 256
given_small true = lit< tt
given_small false = lit< tt

object_small : (x : Object) → ObjectFits x → All (λ (n : ℕ). n < 256) (object_bytes x)
unfolding object_bytes
object_small x f = (
  f.object_8,
  (
    f.mode_8,
    join (le 2 x.came) _ (all_le 2 x.came)
        (join (le 4 x.version) _ (all_le 4 x.version) (join (le 8 x.value) _ (all_le 8 x.value) (given_small x.given, all_le 8 x.new))),
  ),
)

all_numbers_small : (k : ℕ) (xs : List ℕ) → All (λ (n : ℕ). n < 256) (together (le k) xs)
all_numbers_small k xs = all_together_lem (λ (v : ℕ). Unit {0}) (le k) (λ v p. all_le k v) xs (units xs)
  where
    units : (xs : List ℕ) → All (λ (v : ℕ). Unit {0}) xs
    units [] = tt
    units (x ∷ xs) = (tt, units xs)

all_bytes : (l : List ℕ) → All (λ (n : ℕ). n < 256) l → Bytes l
all_bytes [] a j = lit< tt
all_bytes (x ∷ l) a zero = a.0
all_bytes (x ∷ l) a (suc j) = all_bytes l a.1 j

pub bytes_small : (c : Coordinator) → Fits c → Bytes (bytes_of c)
unfolding bytes_of front_of quorum_of votes_of
bytes_small c f =
    all_bytes (bytes_of c)
    (join (front_bytes c) _
    (join (le 4 c.serial) _ (all_le 4 c.serial) (join (le 4 c.timestamp) _ (all_le 4 c.timestamp)
    (f.outcome_8, (f.phase_8, all_le 2 c.live))))
    (join (together (le 2) c.distances) _ (all_numbers_small 2 c.distances)
    (join (quorum_bytes c) _
    (join (le 2 c.quorum) _ (all_le 2 c.quorum) (join (le 2 c.contacted) _ (all_le 2 c.contacted) (mod-lt c.count (lit< tt), tt)))
    (join (together object_bytes c.objects) _ (all_together_lem ObjectFits object_bytes object_small c.objects (all_objects c.objects f.objects_fit))
    (join (vote_bytes c) _
    (join (le 2 c.participants) _ (all_le 2 c.participants) (join (le 2 c.yes) _ (all_le 2 c.yes) (all_le 2 c.done)))
    (all_numbers_small 4 c.rivals))))))
