-- A message's header, entries and rivals stored number by number are their bytes; and a part that is lent comes back with its bytes in place.
use mathlib.Core.Path.{◌≡◌, sym, ap, ap₂, ◌∙◌}
use mathlib.Core.List.{List, [], ◌∷◌, ◌++◌, append_assoc, append-nil}
use Prim.Native.Nat.{ℕ, suc, ◌+◌, ◌≤◌}
use native.Mathlib.Omega.{arith}
use lib.ListN.{length, set, take, drop, length-drop, drop_of_length-le}
use lib.Seq.{sets, sets-eq, drop-drop, length-take-le}
use Rattle.octets.specs.Octets.{put, le}
use Rattle.octets.proofs.Laws.{put_le}
use Rattle.wire.specs.declared.Entry.{Entry}
use Rattle.wire.specs.declared.Rival.{Rival}
use Rattle.wire.specs.Message.{Message}
use Rattle.wire.specs.Encode.{encode_entry, encode_rival, encode_header, together, section}
use Rattle.wire.proofs.Stores.{put_then}

-- what a lender has of a part, `&mut l[a..a + k]`, that comes back filled with bytes
pub part_stores : (k a : ℕ) (l p x : List ℕ) → a + k ≤ length l → length x ≡ k → p ≡ sets (take k (drop a l)) 0 x
    → take a l ++ (p ++ drop k (drop a l)) ≡ sets l a x
part_stores k a l p x h e f =
    let d = length-drop a l in
    let t : length (take k (drop a l)) ≡ k = length-take-le k (drop a l) (omega arith) in
    let s : 0 + length x ≤ length (take k (drop a l)) = omega arith in
    let none : drop (0 + length x) (take k (drop a l)) ≡ [] = drop_of_length-le (take k (drop a l)) {i = 0 + length x} (omega arith) in
    let same : a + k ≡ a + length x = omega arith in
    ap (λ (y : List ℕ). take a l ++ (y ++ drop k (drop a l)))
    (f ∙ sets-eq x (take k (drop a l)) 0 s ∙ ap (◌++◌ x) none ∙ append-nil x)
    ∙ ap (λ (y : List ℕ). take a l ++ (x ++ y)) (drop-drop k a l ∙ ap (λ (j : ℕ). drop j l) same)
    ∙ sym (append_assoc (take a l) x (drop (a + length x) l)) ∙ sym (sets-eq x l a (omega arith))

pub entry_stores : (e : Entry) (l : List ℕ) (i : ℕ)
    → put 8 (put 4 (set (set l i e.object) (i + 1) e.mode) (i + 2) e.version) (i + 6) e.value ≡ sets l i (encode_entry e)
unfolding encode_entry
entry_stores e l i =
    let a : suc i ≡ i + 1 = omega arith in
    let b : suc (suc i) ≡ i + 2 = omega arith in
    let c : i + 2 + 4 ≡ i + 6 = omega arith in
    let m : List ℕ = set (set l i e.object) (i + 1) e.mode in
    sym
    (ap₂ (λ (j k : ℕ). sets (set (set l i e.object) j e.mode) k (le 4 e.version ++ le 8 e.value)) a b
    ∙ put_then 4 e.version (le 8 e.value) m (i + 2)
    ∙ ap (λ (j : ℕ). sets (put 4 m (i + 2) e.version) j (le 8 e.value)) c
    ∙ sym (put_le 8 (put 4 m (i + 2) e.version) (i + 6) e.value))

pub rival_stores : (r : Rival) (l : List ℕ) (i : ℕ) → put 4 (set l i r.owner) (i + 1) r.serial ≡ sets l i (encode_rival r)
unfolding encode_rival
rival_stores r l i =
    let a : i + 1 ≡ suc i = omega arith in
    put_le 4 (set l i r.owner) (i + 1) r.serial ∙ ap (λ (j : ℕ). sets (set l i r.owner) j (le 4 r.serial)) a

-- a section of one item
pub single_stores : {A : Type 0} (enc : A → List ℕ) (x : A) (l : List ℕ) (i : ℕ) → sets (set l i 1) (i + 1) (enc x) ≡ sets l i (section enc (x ∷ []))
unfolding together
single_stores enc x l i =
    let z : i + 1 ≡ suc i = omega arith in
    ap₂ (λ (j : ℕ) (y : List ℕ). sets (set l i 1) j y) z (sym (append-nil (enc x)))

pub header_stores : (m : Message) (l : List ℕ)
    → put 4 (put 4 (set (set (set (set l 0 m.kind) 1 m.from) 2 m.to) 3 m.owner) 4 m.serial) 8 m.stamp ≡ sets l 0 (encode_header m)
header_stores m l =
    let h = set (set (set (set l 0 m.kind) 1 m.from) 2 m.to) 3 m.owner in
    sym (put_then 4 m.serial (le 4 m.stamp) h 4 ∙ sym (put_le 4 (put 4 h 4 m.serial) 8 m.stamp))
