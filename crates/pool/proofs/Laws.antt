-- What waits after each change, by the bytes of each slot: a message added stands at the end, a message removed is gone and the others keep their order.
use mathlib.Core.Path.{◌≡◌, refl, sym, ap, ap₂, ◌∙◌}
use mathlib.Core.Bool.{Bool, true, false, cond}
use mathlib.Core.Logic.{inl, ⊎_elim}
use mathlib.Core.List.{List, [], ◌∷◌, ◌++◌}
use Prim.Native.Nat.{ℕ, zero, suc, ◌+◌, ◌-◌, ◌*◌, ◌<◌, ◌≤◌}
use native.Mathlib.Omega.{arith}
use native.Mathlib.Numerals.{add-one}
use lib.Dec.{leb}
use lib.ListN.{length, get_or, set, take, drop}
use lib.ListN.{length-append, length-drop, length-set, length-replicate, get_or-replicate, get_or-append}
use lib.Seq.{get_or-set_same, get_or-set_other, get_or-take, get_or-drop, get_or-append-add, get_or_at, length-take-le, length-paste, ext_get_or}
use borrow.Author.Tests.{leb-true, le-leb}
use Rattle.numbers.specs.Sizes.{longest_message, most_waiting}
use Rattle.octets.proofs.Laws.{lt_or_le}
use Rattle.parts.specs.Parts.{part}
use Rattle.parts.proofs.Laws.{length_part, get_d_part, part_ext, get_d_paste_in, get_d_paste_out}
use Rattle.pool.specs.Pool.{slot_size, pool_size, slot_place, message_place, count, length_at, message_at, listed, waiting, check}
use Rattle.pool.specs.Change.{stored, added, moved, removed, blank}
use Rattle.pool.proofs.Numbers.{fine_check, Room, There}

-- ---- f of the numbers below n
module _ {A : Type 0} where
  pub length_listed : (n : ℕ) (f : ℕ → A) → length (listed n f) ≡ n
  unfolding listed
  length_listed zero f = refl
  length_listed (suc n) f =
      let e = length_listed n f in
      let a : length (listed n f ++ (f n ∷ [])) ≡ length (listed n f) + 1 = length-append (listed n f) (f n ∷ []) in
      omega arith

  pub get_d_listed : (n : ℕ) (f : ℕ → A) (i : ℕ) (d : A) → i < n → get_or (listed n f) i d ≡ f i
  unfolding listed
  get_d_listed zero f i d h = absurd (let z : ⊥ = omega arith in z)
  get_d_listed (suc n) f i d h =
      let e = length_listed n f in
      ⊎_elim
      (λ p. get_or-append (listed n f) (f n ∷ []) d i (omega arith) ∙ get_d_listed n f i d p)
      (λ p. let q : i ≡ n = omega arith in
      get_or_at (listed n f) (f n) [] d i (e ∙ sym q) ∙ ap f (sym q))
      (lt_or_le i n)

  pub listed_ext : (n : ℕ) (f g : ℕ → A) → ((i : ℕ) → i < n → f i ≡ g i) → listed n f ≡ listed n g
  unfolding listed
  listed_ext zero f g h = refl
  listed_ext (suc n) f g h =
      ap₂ (λ (l : List A) (x : A). l ++ (x ∷ [])) (listed_ext n f g (λ i p. h i (omega arith))) (h n (omega arith))

-- ---- what waits, message by message
pub length_waiting : (l : List ℕ) → length (waiting l) ≡ count l
unfolding waiting
length_waiting l = length_listed (count l) (message_at l)

pub get_d_waiting : (l : List ℕ) (k : ℕ) → k < count l → get_or (waiting l) k [] ≡ message_at l k
unfolding waiting
get_d_waiting l k h = get_d_listed (count l) (message_at l) k [] h

pub length_fits : (l : List ℕ) (k : ℕ) → length_at l k ≤ longest_message
unfolding length_at
length_fits l k = by (get_or l (slot_place k) 0) (leb (get_or l (slot_place k) 0) longest_message) refl
  where
    by : (n : ℕ) (b : Bool) → leb n longest_message ≡ b → cond b n 0 ≤ longest_message
    by n true e = leb-true n longest_message e
    by n false e = omega arith

pub length_message : (l : List ℕ) (k : ℕ) → length l ≡ pool_size → k < most_waiting → length (message_at l k) ≡ length_at l k
unfolding message_at
length_message l k e h = let f = length_fits l k in length_part (length_at l k) (message_place k) l (omega arith)

-- two slots with the same bytes hold the same message
slot_ext : (l m : List ℕ) (i k : ℕ) → length l ≡ pool_size → length m ≡ pool_size → i < most_waiting → k < most_waiting
    → ((j : ℕ) → j < slot_size → get_or l (slot_place i + j) 0 ≡ get_or m (slot_place k + j) 0) → message_at l i ≡ message_at m k
unfolding message_at length_at
slot_ext l m i k u v p q h =
    let a : slot_place i + 0 ≡ slot_place i = omega arith in
    let b : slot_place k + 0 ≡ slot_place k = omega arith in
    let e : get_or l (slot_place i) 0 ≡ get_or m (slot_place k) 0 =
    ap (λ (n : ℕ). get_or l n 0) (sym a) ∙ h 0 (omega arith) ∙ ap (λ (n : ℕ). get_or m n 0) b in
    let s : length_at l i ≡ length_at m k = ap (λ (n : ℕ). cond (leb n longest_message) n 0) e in
    let f = length_fits m k in
    ap (λ (n : ℕ). part n (message_place i) l) s
    ∙ part_ext (length_at m k) (message_place i) (message_place k) l m (omega arith) (omega arith)
    (λ j r. let x : message_place i + j ≡ slot_place i + (1 + j) = omega arith in
    let y : slot_place k + (1 + j) ≡ message_place k + j = omega arith in
    ap (λ (n : ℕ). get_or l n 0) x ∙ h (1 + j) (omega arith) ∙ ap (λ (n : ℕ). get_or m n 0) y)

-- ---- a message added
module _ (l m : List ℕ) (r : Room l (length m)) where
  at : ℕ
  at = slot_place (count l)

  inside : at + slot_size ≤ length l
  unfolding at
  inside = let a = r.pool.long in let b = r.slot in omega arith

  length_stored : length (stored l at m) ≡ length l
  unfolding stored
  length_stored =
      let s : length (set l at (length m)) ≡ length l = length-set l at (length m) in
      let a = inside in
      let b = r.size in
      length-paste (set l at (length m)) (at + 1) m (length m) (omega arith) (omega arith) ∙ s

  pub length_added : length (added l m) ≡ length l
  unfolding added at
  length_added = length-set (stored l at m) 0 (count l + 1) ∙ length_stored

  pub count_added : count (added l m) ≡ count l + 1
  unfolding added at
  count_added =
      let a = length_stored in
      let b = inside in
      get_or-set_same (stored l at m) 0 (count l + 1) 0 (omega arith)

  -- a byte before the slot
  byte_before : (j : ℕ) → 0 < j → j < at → get_or (added l m) j 0 ≡ get_or l j 0
  unfolding added stored at
  byte_before j p q =
      let s : length (set l at (length m)) ≡ length l = length-set l at (length m) in
      let a = inside in
      let b = r.size in
      get_or-set_other (stored l at m) 0 j (count l + 1) 0 (λ e. omega arith)
      ∙ get_d_paste_out (set l at (length m)) (at + 1) m (length m) (omega arith) (omega arith) j (inl (omega arith))
      ∙ get_or-set_other l at j (length m) 0 (λ e. omega arith)

  -- the slot's length, and its message
  slot_length : length_at (added l m) (count l) ≡ length m
  unfolding length_at added stored at
  slot_length =
      let s : length (set l at (length m)) ≡ length l = length-set l at (length m) in
      let a = inside in
      let b = r.size in
      let e : get_or (added l m) at 0 ≡ length m =
      get_or-set_other (stored l at m) 0 at (count l + 1) 0 (λ e. omega arith)
      ∙ get_d_paste_out (set l at (length m)) (at + 1) m (length m) (omega arith) (omega arith) at (inl (omega arith))
      ∙ get_or-set_same l at (length m) 0 (omega arith) in
      ap (λ (n : ℕ). cond (leb n longest_message) n 0) e ∙ ap (λ (t : Bool). cond t (length m) 0) (le-leb (length m) longest_message b)

  slot_message : message_at (added l m) (count l) ≡ m
  unfolding message_at added stored at
  slot_message =
      let s : length (set l at (length m)) ≡ length l = length-set l at (length m) in
      let a = inside in
      let b = r.size in
      let n = length_added in
      let w : length (part (length m) (at + 1) (added l m)) ≡ length m = length_part (length m) (at + 1) (added l m) (omega arith) in
      ap (λ (k : ℕ). part k (at + 1) (added l m)) slot_length
      ∙ ext_get_or 0 (part (length m) (at + 1) (added l m)) m w
      (λ j p. let q : j < length m = omega arith in
      get_d_part (length m) (at + 1) (added l m) j q
      ∙ get_or-set_other (stored l at m) 0 (at + 1 + j) (count l + 1) 0 (λ e. omega arith)
      ∙ get_d_paste_in (set l at (length m)) (at + 1) m (length m) (omega arith) (omega arith) j q)

  pub waiting_added : waiting (added l m) ≡ waiting l ++ (m ∷ [])
  unfolding waiting listed at
  waiting_added =
      let a = r.pool.long in
      let b = r.slot in
      let n = length_added in
      ap (λ (k : ℕ). listed k (message_at (added l m))) (count_added ∙ add-one (count l))
      ∙ ap₂ (λ (w : List (List ℕ)) (x : List ℕ). w ++ (x ∷ []))
      (listed_ext (count l) (message_at (added l m)) (message_at l)
      (λ i p. slot_ext (added l m) l i i (n ∙ a) a (omega arith) (omega arith) (λ j q. byte_before (slot_place i + j) (omega arith) (omega arith))))
      slot_message

  pub check_added : check (added l m) ≡ 0
  check_added =
      let a = r.pool.long in
      let b = r.slot in
      let n = count_added in
      fine_check (added l m) (record { long = length_added ∙ a; room = omega arith })

-- ---- a message removed
module _ (l : List ℕ) (k : ℕ) (t : There l k) where
  from : ℕ
  from = slot_place k

  many : ℕ
  many = slot_size * (count l - 1 - k)

  behind : from + many + slot_size ≤ length l
  unfolding from many
  behind = let a = t.pool.long in let b = t.pool.room in let d = t.message in omega arith

  rest : length (drop (from + slot_size) l) ≡ length l - (from + slot_size)
  rest = length-drop (from + slot_size) l

  length_moved : length (moved l from many) ≡ length l
  unfolding moved
  length_moved = let a = behind in let b = rest in length-paste l from (drop (from + slot_size) l) many (omega arith) (omega arith)

  pub length_removed : length (removed l k) ≡ length l
  unfolding removed from many
  length_removed = length-set (moved l from many) 0 (count l - 1) ∙ length_moved

  pub count_removed : count (removed l k) ≡ count l - 1
  unfolding removed from many
  count_removed = let a = behind in let b = length_moved in get_or-set_same (moved l from many) 0 (count l - 1) 0 (omega arith)

  byte_kept : (j : ℕ) → 0 < j → j < from → get_or (removed l k) j 0 ≡ get_or l j 0
  unfolding removed moved from many
  byte_kept j p q =
      let a = behind in
      let b = rest in
      get_or-set_other (moved l from many) 0 j (count l - 1) 0 (λ e. omega arith)
      ∙ get_d_paste_out l from (drop (from + slot_size) l) many (omega arith) (omega arith) j (inl q)

  byte_moved : (j : ℕ) → j < many → get_or (removed l k) (from + j) 0 ≡ get_or l (from + slot_size + j) 0
  unfolding removed moved from many
  byte_moved j p =
      let a = behind in
      let b = rest in
      get_or-set_other (moved l from many) 0 (from + j) (count l - 1) 0 (λ e. omega arith)
      ∙ get_d_paste_in l from (drop (from + slot_size) l) many (omega arith) (omega arith) j p
      ∙ get_or-drop (from + slot_size) l j 0

  slot_kept : (i : ℕ) → i < k → message_at (removed l k) i ≡ message_at l i
  unfolding from
  slot_kept i p =
      let a = t.pool.long in
      let b = t.pool.room in
      let d = t.message in
      slot_ext (removed l k) l i i (length_removed ∙ a) a (omega arith) (omega arith)
      (λ j q. byte_kept (slot_place i + j) (omega arith) (omega arith))

  slot_moved : (i : ℕ) → k ≤ i → i < count l - 1 → message_at (removed l k) i ≡ message_at l (i + 1)
  unfolding from many
  slot_moved i p q =
      let a = t.pool.long in
      let b = t.pool.room in
      slot_ext (removed l k) l i (i + 1) (length_removed ∙ a) a (omega arith) (omega arith)
      (λ j r. let n = slot_size * (i - k) + j in
      let x : slot_place i + j ≡ from + n = omega arith in
      let y : from + slot_size + n ≡ slot_place (i + 1) + j = omega arith in
      ap (λ (m : ℕ). get_or (removed l k) m 0) x ∙ byte_moved n (omega arith) ∙ ap (λ (m : ℕ). get_or l m 0) y)

  abbrev others : List (List ℕ)
  others = take k (waiting l) ++ drop (k + 1) (waiting l)

  head : length (take k (waiting l)) ≡ k
  head = let d = t.message in let e = length_waiting l in length-take-le k (waiting l) (omega arith)

  other_kept : (i : ℕ) → i < k → get_or others i [] ≡ message_at l i
  other_kept i p =
      let h = head in
      let d = t.message in
      get_or-append (take k (waiting l)) (drop (k + 1) (waiting l)) [] i (omega arith) ∙ get_or-take k (waiting l) i [] p
      ∙ get_d_waiting l i (omega arith)

  other_moved : (i : ℕ) → k ≤ i → i < count l - 1 → get_or others i [] ≡ message_at l (i + 1)
  other_moved i p q =
      let h = head in
      let x : i ≡ length (take k (waiting l)) + (i - k) = omega arith in
      let y : k + 1 + (i - k) ≡ i + 1 = omega arith in
      ap (λ (m : ℕ). get_or others m []) x
      ∙ get_or-append-add (take k (waiting l)) (drop (k + 1) (waiting l)) (i - k) []
      ∙ get_or-drop (k + 1) (waiting l) (i - k) []
      ∙ ap (λ (m : ℕ). get_or (waiting l) m []) y
      ∙ get_d_waiting l (i + 1) (omega arith)

  pub waiting_removed : waiting (removed l k) ≡ take k (waiting l) ++ drop (k + 1) (waiting l)
  waiting_removed =
      let h = head in
      let d = t.message in
      let w = length_waiting l in
      let n = length_waiting (removed l k) in
      let c = count_removed in
      let s : length (drop (k + 1) (waiting l)) ≡ length (waiting l) - (k + 1) = length-drop (k + 1) (waiting l) in
      let o : length others ≡ length (take k (waiting l)) + length (drop (k + 1) (waiting l)) =
      length-append (take k (waiting l)) (drop (k + 1) (waiting l)) in
      ext_get_or [] (waiting (removed l k)) others (omega arith)
      (λ i p. let q : i < count l - 1 = omega arith in
      get_d_waiting (removed l k) i (omega arith)
      ∙ ⊎_elim (λ u. slot_kept i u ∙ sym (other_kept i u)) (λ u. slot_moved i u q ∙ sym (other_moved i u q)) (lt_or_le i k))

  pub check_removed : check (removed l k) ≡ 0
  check_removed =
      let a = t.pool.long in
      let b = t.pool.room in
      let n = count_removed in
      fine_check (removed l k) (record { long = length_removed ∙ a; room = omega arith })

-- ---- nothing waits in a blank pool
pub length_blank : length blank ≡ pool_size
unfolding blank
length_blank = length-replicate {A = ℕ} pool_size 0

count_blank : count blank ≡ 0
unfolding blank
count_blank = get_or-replicate {A = ℕ} pool_size 0 0 0 (omega arith)

pub waiting_blank : waiting blank ≡ []
unfolding waiting listed
waiting_blank = ap (λ (n : ℕ). listed n (message_at blank)) count_blank

pub check_blank : check blank ≡ 0
check_blank = let c = count_blank in fine_check blank (record { long = length_blank; room = omega arith })
