-- A message's bytes and its record: what the accessors read of the bytes is what the decoded message has; and of an encoded message, its own fields.
use mathlib.Core.Path.{◌≡◌, refl, sym, ◌∙◌, ap, subst}
use mathlib.Core.Bool.{Bool, true, false, cond, not, ◌&&◌, ◌||◌}
use mathlib.Core.List.{List, [], ◌∷◌, ◌++◌, append_assoc, map}
use mathlib.Core.Logic.{◌⊎◌, inl, inr}
use Prim.Native.Nat.{ℕ, zero, suc, ◌+◌, ◌*◌, ◌^◌, ◌<◌}
use lib.Dec.{eqb, ltb, leb}
use lib.ListN.{length, get_or, drop}
use borrow.Author.Tests.{lt-ltb, eqb-true}
use native.Mathlib.Omega.{arith}
use Rattle.numbers.specs.Sizes.{nodes, most_open}
use Rattle.octets.specs.Octets.{le}
use Rattle.octets.proofs.Laws.{length_le}
use Rattle.wire.specs.declared.Rival.{Rival}
use Rattle.wire.specs.Message.{Message}
use Rattle.wire.specs.Formed.{between, counts_ok, names_ok, direction_ok, ascend, every, rival_ok, entries_ok, rivals_ok, well_formed}
use Rattle.wire.specs.Encode.{encode_entry, encode_rival, encode_word, section, encode, size_of, Fits}
use Rattle.wire.specs.Decode.{kind_of, from_of, to_of, owner_of, serial_of, stamp_of, entry_count, entries_place, entry_at, word_count, words_place, word_at}
use Rattle.wire.specs.Decode.{items_from}
use Rattle.wire.specs.Decode.{rival_count, rivals_place, rival_at, decode, accepted, check_of}
use Rattle.wire.specs.Items.{no_entry, no_rival, entry_of, rival_of, word_of}
use Rattle.wire.proofs.RoundTrip.{next, number_at, decode_encode}
use Rattle.wire.proofs.Theorems.{encoded_checked, accepted_of_check}
use Rattle.protocol.specs.State.{Tx}
use Rattle.protocol.proofs.Tables.{on}
use Rattle.history.specs.Ledger.{tx_of}
use Rattle.history.proofs.Tests.{and-true}

-- the first of n items
first_item : {A : Type 0} (at : List ℕ → ℕ → A) (size n : ℕ) (l : List ℕ) (i : ℕ) (d : A)
    → cond (ltb 0 n) (at l i) d ≡ get_or (items_from at size n l i) 0 d
unfolding items_from
first_item at size zero l i d = refl
first_item at size (suc n) l i d = ap (λ (b : Bool). cond b (at l i) d) (lt-ltb 0 (suc n) (omega arith))

pub word_decoded : (b : List ℕ) → word_of b ≡ Rattle.wire.specs.Formed.word_of (decode b)
unfolding decode
word_decoded b = first_item word_at 1 (word_count b) b (words_place b) 0

pub entry_decoded : (b : List ℕ) → entry_of b 0 ≡ get_or (decode b).entries 0 no_entry
unfolding decode
entry_decoded b = first_item entry_at 14 (entry_count b) b entries_place no_entry

-- the header
module _ (b : List ℕ) where
  pub header : ((decode b).kind ≡ kind_of b) × ((decode b).from ≡ from_of b) × ((decode b).to ≡ to_of b) × ((decode b).owner ≡ owner_of b)
      × ((decode b).serial ≡ serial_of b) × ((decode b).stamp ≡ stamp_of b)
  unfolding decode
  header = (refl, refl, refl, refl, refl, refl)

-- the transaction that a message names
abbrev pub tx_in : Message → Tx
tx_in m = record { owner = m.owner; serial = m.serial }

pub tx_decoded : (b : List ℕ) → tx_of b ≡ tx_in (decode b)
unfolding decode
tx_decoded b = refl

-- an encoded message
module _ (m : Message) (f : Fits m) where
  abbrev bytes : List ℕ
  bytes = encode m

  back : decode bytes ≡ m
  back = decode_encode m f

  pub kind_of_lem : kind_of bytes ≡ m.kind
  kind_of_lem = sym (header bytes).0 ∙ ap (λ (x : Message). x.kind) back

  pub from_of_lem : from_of bytes ≡ m.from
  from_of_lem = sym (header bytes).1 ∙ ap (λ (x : Message). x.from) back

  pub to_of_lem : to_of bytes ≡ m.to
  to_of_lem = sym (header bytes).2 ∙ ap (λ (x : Message). x.to) back

  pub tx_of_lem : tx_of bytes ≡ tx_in m
  tx_of_lem = tx_decoded bytes ∙ ap tx_in back

  pub word_of_lem : word_of bytes ≡ Rattle.wire.specs.Formed.word_of m
  word_of_lem = word_decoded bytes ∙ ap Rattle.wire.specs.Formed.word_of back

  pub entry_of_lem : entry_of bytes 0 ≡ get_or m.entries 0 no_entry
  entry_of_lem = entry_decoded bytes ∙ ap (λ (x : Message). get_or x.entries 0 no_entry) back

  pub entries_of_lem : (decode bytes).entries ≡ m.entries
  entries_of_lem = ap (λ (x : Message). x.entries) back

  pub fits_of : Fits (decode bytes)
  fits_of = subst Fits (sym back) f

  pub check_of_lem : well_formed m ≡ true → check_of bytes ≡ 0
  check_of_lem w = encoded_checked m f w

-- the header of an encoded message is the message's, where its numbers fit their bytes
pub header_owner : (m : Message) → owner_of (encode m) ≡ m.owner
unfolding encode
header_owner m = refl

module _ (m : Message) (small : (m.serial < 256 ^ 4) × (m.stamp < 256 ^ 4)) where
  abbrev sections : List ℕ
  sections = section encode_entry m.entries ++ (section encode_rival m.rivals ++ section encode_word m.words)

  at_serial : drop 4 (encode m) ≡ le 4 m.serial ++ (le 4 m.stamp ++ sections)
  unfolding encode
  at_serial = append_assoc (le 4 m.serial) (le 4 m.stamp) sections

  pub header_serial : serial_of (encode m) ≡ m.serial
  header_serial = number_at (encode m) 4 4 m.serial (le 4 m.stamp ++ sections) small.0 at_serial

  pub header_stamp : stamp_of (encode m) ≡ m.stamp
  header_stamp = number_at (encode m) 4 8 m.stamp sections small.1
      (next (encode m) 4 4 (le 4 m.serial) (le 4 m.stamp ++ sections) (length_le 4 m.serial) at_serial)

-- an accepted message is well formed
pub formed_of : (b : List ℕ) → check_of b ≡ 0 → well_formed (decode b) ≡ true
unfolding accepted
formed_of b e = (and-true (eqb (length b) (size_of (decode b))) (well_formed (decode b)) (accepted_of_check b e)).1

-- ---- the word of a vote or an outcome is 0 or 1: what the table of kinds says of either, with the counts x at 1 and y at 0
word_by : (w : ℕ) (x y : Bool) → cond (eqb w 1) x (eqb w 0 && y) ≡ true → (w ≡ 0) ⊎ (w ≡ 1)
word_by w x y = by (eqb w 1) refl
  where
    by : (b : Bool) → eqb w 1 ≡ b → cond b x (eqb w 0 && y) ≡ true → (w ≡ 0) ⊎ (w ≡ 1)
    by true q f = inr (eqb-true w 1 q)
    by false q f = inl (eqb-true w 0 (and-true (eqb w 0) y f).0)

counts_word : (kind entries rivals words w : ℕ) → (kind ≡ 4) ⊎ (kind ≡ 5) → counts_ok kind entries rivals words w ≡ true → (w ≡ 0) ⊎ (w ≡ 1)
unfolding counts_ok
counts_word kind entries rivals words w (inl e) f =
    let g = subst (λ (k : ℕ). counts_ok k entries rivals words w ≡ true) e f in
    word_by w (leb rivals 12) (eqb rivals 0) (and-true (cond (eqb w 1) (leb rivals 12) (eqb w 0 && eqb rivals 0)) _ g).0
counts_word kind entries rivals words w (inr e) f =
    let g = subst (λ (k : ℕ). counts_ok k entries rivals words w ≡ true) e f in
    word_by w (between 1 most_open entries) (eqb entries 0) (and-true (cond (eqb w 1) (between 1 most_open entries) (eqb w 0 && eqb entries 0)) _ g).0

pub formed_word : (m : Message) → well_formed m ≡ true → (m.kind ≡ 4) ⊎ (m.kind ≡ 5)
    → (Rattle.wire.specs.Formed.word_of m ≡ 0) ⊎ (Rattle.wire.specs.Formed.word_of m ≡ 1)
unfolding well_formed
formed_word m f k = counts_word m.kind _ _ _ (Rattle.wire.specs.Formed.word_of m) k
    (and-true (counts_ok m.kind _ _ _ (Rattle.wire.specs.Formed.word_of m)) _ f).0

-- the same of a vote's bytes
pub word_known : (b : List ℕ) → check_of b ≡ 0 → kind_of b ≡ 4 → (word_of b ≡ 0) ⊎ (word_of b ≡ 1)
word_known b e k = on (formed_word (decode b) (formed_of b e) (inl ((header b).0 ∙ k))) (λ q. inl (word_decoded b ∙ q)) (λ q. inr (word_decoded b ∙ q))

-- ---- the one rival that a yield names is the owner that it goes to
rival_decoded : (b : List ℕ) → rival_of b 0 ≡ get_or (decode b).rivals 0 no_rival
unfolding decode
rival_decoded b = let z : rivals_place b + 5 * 0 ≡ rivals_place b = omega arith in
    ap (λ (i : ℕ). cond (ltb 0 (rival_count b)) (rival_at b i) no_rival) z ∙ first_item rival_at 5 (rival_count b) b (rivals_place b) no_rival

one_rival_lem : (ok : Rival → Bool) (rs : List Rival) → length rs ≡ 1 → every ok rs ≡ true → ok (get_or rs 0 no_rival) ≡ true
one_rival_lem ok [] e f = absurd (let z : ⊥ = omega arith in z)
one_rival_lem ok (r ∷ rs) e f = (and-true (ok r) (every ok rs) f).0

pub formed_yield : (m : Message) → well_formed m ≡ true → m.kind ≡ 7 → (get_or m.rivals 0 no_rival).owner ≡ m.to
unfolding well_formed counts_ok rivals_ok rival_ok
formed_yield m f k =
    let counts : Bool = counts_ok m.kind (length m.entries) (length m.rivals) (length m.words) (Rattle.wire.specs.Formed.word_of m) in
    let a = and-true counts (names_ok m && (direction_ok m && (entries_ok m && rivals_ok m))) f in
    let b = and-true (names_ok m) (direction_ok m && (entries_ok m && rivals_ok m)) a.1 in
    let c = and-true (direction_ok m) (entries_ok m && rivals_ok m) b.1 in
    let d = and-true (entries_ok m) (rivals_ok m) c.1 in
    let ok : Rival → Bool = rival_ok m.kind m.owner m.to in
    let one : length m.rivals ≡ 1 = eqb-true (length m.rivals) 1 (and-true (eqb (length m.rivals) 1) _
    (subst (λ (k : ℕ). counts_ok k (length m.entries) (length m.rivals) (length m.words) (Rattle.wire.specs.Formed.word_of m) ≡ true) k a.0)).0 in
    let r = get_or m.rivals 0 no_rival in
    let g : ok r ≡ true = one_rival_lem ok m.rivals one (and-true (ascend 0 (map (λ (r : Rival). r.owner) m.rivals)) (every ok m.rivals) d.1).1 in
    let h = and-true (ltb r.owner nodes) _ g in
    let i = and-true (not (eqb r.owner m.owner)) _ h.1 in
    let j = and-true (leb 1 r.serial) _ i.1 in
    eqb-true r.owner m.to (subst (λ (k : ℕ). (not (eqb k 7) || eqb r.owner m.to) ≡ true) k j.1)

pub yield_names : (b : List ℕ) → check_of b ≡ 0 → kind_of b ≡ 7 → (rival_of b 0).owner ≡ to_of b
yield_names b e k = ap (λ (r : Rival). r.owner) (rival_decoded b) ∙ formed_yield (decode b) (formed_of b e) ((header b).0 ∙ k) ∙ (header b).2
