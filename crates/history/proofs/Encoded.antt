-- An encoded message is bytes: every number in it is below 256.
use mathlib.Core.Path.{◌≡◌}
use mathlib.Core.Bool.{true}
use mathlib.Core.List.{List, [], ◌∷◌, ◌++◌}
use Prim.Native.Nat.{ℕ, zero, suc, ◌+◌, ◌/◌, ◌%◌, ◌<◌, ◌≤◌}
use native.Mathlib.Omega.{arith}
use native.Mathlib.Nat.{mod-lt}
use lib.Dec.{ltb, lit<}
use lib.ListN.{length}
use borrow.Author.Tests.{ltb-true}
use Rattle.numbers.specs.Sizes.{nodes, longest_message}
use Rattle.octets.specs.Octets.{le}
use Rattle.octets.proofs.Laws.{Bytes}
use Rattle.wire.specs.declared.Entry.{Entry}
use Rattle.wire.specs.declared.Rival.{Rival}
use Rattle.wire.specs.Message.{Message}
use Rattle.wire.specs.Formed.{well_formed, counts_ok, names_ok, word_of}
use Rattle.history.proofs.Tests.{and-true}
use Rattle.wire.proofs.RoundTrip.{length_encode}
use Rattle.wire.proofs.Theorems.{length_bounds}
use Rattle.wire.specs.Encode.{encode_entry, encode_rival, encode_word, together, section, encode_header, encode, All, EntryFits, RivalFits, Fits}

-- ---- lists of bytes
bytes_none : Bytes []
bytes_none j = lit< tt

pub bytes_cons : (x : ℕ) (l : List ℕ) → x < 256 → Bytes l → Bytes (x ∷ l)
bytes_cons x l h b zero = h
bytes_cons x l h b (suc j) = b j

pub bytes_append : (a b : List ℕ) → Bytes a → Bytes b → Bytes (a ++ b)
bytes_append [] b p q = q
bytes_append (x ∷ a) b p q = bytes_cons x (a ++ b) (p zero) (bytes_append a b (λ j. p (suc j)) q)

bytes_le : (k v : ℕ) → Bytes (le k v)
unfolding le
bytes_le zero v = bytes_none
bytes_le (suc k) v = bytes_cons (v % 256) (le k (v / 256)) (mod-lt v (lit< tt)) (bytes_le k (v / 256))

-- ---- sections
bytes_together : {A : Type 0} (P : A → Type 0) (enc : A → List ℕ) → ((x : A) → P x → Bytes (enc x)) → (xs : List A) → All P xs → Bytes (together enc xs)
unfolding together
bytes_together P enc f [] a = bytes_none
bytes_together P enc f (x ∷ xs) a = bytes_append (enc x) (together enc xs) (f x a.0) (bytes_together P enc f xs a.1)

bytes_section : {A : Type 0} (P : A → Type 0) (enc : A → List ℕ) → ((x : A) → P x → Bytes (enc x)) → (xs : List A) → length xs < 256 → All P xs → Bytes
    (section enc xs)
bytes_section P enc f xs h a = bytes_cons (length xs) (together enc xs) h (bytes_together P enc f xs a)

entry_bytes : (e : Entry) → EntryFits e → Bytes (encode_entry e)
unfolding encode_entry
entry_bytes e f =
    let r = le 4 e.version ++ le 8 e.value in
    bytes_cons e.object (e.mode ∷ r) f.object (bytes_cons e.mode r f.mode
    (bytes_append (le 4 e.version) (le 8 e.value) (bytes_le 4 e.version) (bytes_le 8 e.value)))

rival_bytes : (r : Rival) → RivalFits r → Bytes (encode_rival r)
unfolding encode_rival
rival_bytes r f = bytes_cons r.owner (le 4 r.serial) f.owner (bytes_le 4 r.serial)

-- three sections after the header, each count below 256
module _ (m : Message) (f : Fits m) (w : well_formed m ≡ true) where
  size : length (encode m) ≤ longest_message
  size = (length_bounds m w).1

  names : (m.from < 256) × ((m.to < 256) × (m.owner < 256))
  unfolding well_formed
  names =
      let a = (and-true (names_ok m) _ (and-true (counts_ok m.kind _ _ _ (word_of m)) _ w).1).0 in
      let b = and-true (ltb m.from nodes) _ a in
      let c = and-true (ltb m.to nodes) _ b.1 in
      let d = and-true (ltb m.owner nodes) _ c.1 in
      (omega (arith, ltb-true m.from nodes b.0), (omega (arith, ltb-true m.to nodes c.0), omega (arith, ltb-true m.owner nodes d.0)))

  pub bytes_encode : m.kind < 256 → All (λ (x : ℕ). x < 256) m.words → Bytes (encode m)
  unfolding encode
  bytes_encode k ws =
      let l = length_encode m in
      let n = le 4 m.serial ++ le 4 m.stamp in
      let ww = section encode_word m.words in
      let rr = section encode_rival m.rivals in
      bytes_append (encode_header m) (section encode_entry m.entries ++ (rr ++ ww))
      (bytes_cons m.kind (m.from ∷ m.to ∷ m.owner ∷ n) k (bytes_cons m.from (m.to ∷ m.owner ∷ n) names.0
      (bytes_cons m.to (m.owner ∷ n) names.1.0 (bytes_cons m.owner n names.1.1
      (bytes_append (le 4 m.serial) (le 4 m.stamp) (bytes_le 4 m.serial) (bytes_le 4 m.stamp))))))
      (bytes_append (section encode_entry m.entries) (rr ++ ww)
      (bytes_section EntryFits encode_entry entry_bytes m.entries (omega (arith, size, l)) f.entries)
      (bytes_append (section encode_rival m.rivals) (section encode_word m.words)
      (bytes_section RivalFits encode_rival rival_bytes m.rivals (omega (arith, size, l)) f.rivals)
      (bytes_section (λ (x : ℕ). x < 256) encode_word (λ x h. bytes_cons x [] h bytes_none) m.words (omega (arith, size, l)) ws)))
