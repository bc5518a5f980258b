-- The ends of a writer: what its fields refuse leaves the buffer alone, and what they allow is written to the front of it.
use mathlib.Core.Path.{◌≡◌, refl, sym, ap, ap₂, subst, ◌∙◌}
use mathlib.Core.Bool.{Bool, true, false, cond, ◌&&◌, and-true}
use mathlib.Core.List.{List, [], ◌∷◌, ◌++◌, append_assoc}
use Prim.Native.Nat.{ℕ, zero, suc, ◌+◌, ◌≤◌, ◌<◌, min}
use native.Mathlib.Omega.{arith}
use lib.Dec.{eqb, ltb}
use borrow.Author.Tests.{ltb-false, le-ltb, eq-eqb, ne_eqb}
use lib.ListN.{length, get_or, take, drop, take-append-drop}
use lib.Seq.{sets, sets-eq, length-take-le, drop-append-le}
use Rattle.numbers.specs.Sizes.{most_open, longest_message}
use Rattle.numbers.specs.Numbers.{garbled}
use Rattle.wire.specs.declared.Entry.{Entry}
use Rattle.wire.specs.declared.Head.{Head}
use Rattle.wire.specs.declared.Rival.{Rival}
use Rattle.wire.specs.Message.{Message}
use Rattle.wire.specs.Formed.{counts_ok, entry_ok, rival_ok, well_formed}
use Rattle.wire.specs.Encode.{encode, size_of}
use Rattle.wire.specs.Headed.{headed, head_ok}
use Rattle.wire.specs.Run.{run, object_of, owner_in}
use Rattle.letters.specs.Write.{write_number, answer, written_of, buffer_after, first_entries}
use Rattle.wire.proofs.Accepted.{counts_eq, formed_by, run_one}
use Rattle.wire.proofs.RoundTrip.{length_encode}
use Rattle.wire.proofs.Theorems.{counts_small, length_bounds}
use Rattle.letters.proofs.ByOwner.{words_length}

-- ---- the first entries: as many as are said, and those that are there
pub entries_length : (n : ℕ) (es : List Entry) → length (first_entries n es) ≡ n
entries_length zero es = refl
entries_length (suc n) [] = ap suc (entries_length n [])
entries_length (suc n) (e ∷ es) = ap suc (entries_length n es)

pub entries_take : (n : ℕ) (es : List Entry) → length (take n es) ≡ n → first_entries n es ≡ take n es
entries_take zero es h = refl
entries_take (suc n) [] h = absurd (let z : ⊥ = omega arith in z)
entries_take (suc n) (e ∷ es) h = ap (◌∷◌ e) (entries_take n es (omega arith))

-- ---- what `formed` says of a message: with entries alone, and with rivals alone
pub entries_formed : (h : Head) (es : List Entry) (ws : List ℕ) (listed r : Bool)
    → r ≡ (counts_ok h.kind (length es) 0 (length ws) (get_or ws 0 0) && (head_ok h && listed)) → listed ≡ run object_of (entry_ok h.kind) 0 es
    → r ≡ well_formed (headed h es [] ws)
unfolding run
entries_formed h es ws listed r e q =
    e ∙ ap (λ (b : Bool). counts_ok h.kind (length es) 0 (length ws) (get_or ws 0 0) && (head_ok h && b)) (q ∙ sym (and-true _)) ∙ sym (formed_by h es [] ws)

pub rivals_formed : (h : Head) (rs : List Rival) (ws : List ℕ) (listed r : Bool)
    → r ≡ (counts_ok h.kind 0 (length rs) (length ws) (get_or ws 0 0) && (head_ok h && listed))
    → (head_ok h && listed) ≡ (head_ok h && run owner_in (rival_ok h.kind h.owner h.to) 0 rs) → r ≡ well_formed (headed h [] rs ws)
unfolding run
rivals_formed h rs ws listed r e q =
    e ∙ ap (◌&&◌ (counts_ok h.kind 0 (length rs) (length ws) (get_or ws 0 0))) q ∙ sym (formed_by h [] rs ws)

-- one entry, one rival, nothing
pub entry_formed : (h : Head) (e : Entry) (one r : Bool) → r ≡ (counts_ok h.kind 1 0 0 0 && (head_ok h && one)) → one ≡ entry_ok h.kind e
    → r ≡ well_formed (headed h (e ∷ []) [] [])
entry_formed h e one r p q = entries_formed h (e ∷ []) [] one r p (q ∙ sym (run_one object_of (entry_ok h.kind) e))

pub rival_formed : (h : Head) (x : Rival) (one r : Bool) → r ≡ (counts_ok h.kind 0 1 0 0 && (head_ok h && one))
    → one ≡ rival_ok h.kind h.owner h.to x → r ≡ well_formed (headed h [] (x ∷ []) [])
rival_formed h x one r p q =
    rivals_formed h (x ∷ []) [] one r p (ap (◌&&◌ (head_ok h)) (q ∙ sym (run_one owner_in (rival_ok h.kind h.owner h.to) x)))

pub nothing_formed : (h : Head) (r : Bool) → r ≡ (counts_ok h.kind 0 0 0 0 && (head_ok h && true)) → r ≡ well_formed (headed h [] [] [])
unfolding run
nothing_formed h r p = rivals_formed h [] [] true r p refl

-- ---- the first n of eight entries, of which k are looked at: where the counts are right they are all there, and with wrong counts nothing is well formed
few : (k n w x : ℕ) → counts_ok k n 0 w x ≡ true → n ≤ most_open
few k n w x t = omega (arith, counts_small k n 0 w x t)

pub all_there : (es : List Entry) (n k : ℕ) → k ≡ min n most_open → length (take k es) ≡ k → n ≤ most_open
    → (length (take n es) ≡ n) × (take n es ≡ first_entries n es)
all_there es n k at len g =
    let z : k ≡ n = omega arith in
    let full = subst (λ (i : ℕ). length (take i es) ≡ i) z len in
    (full, sym (entries_take n es full))

module _ (h : Head) (es : List Entry) (n k words word : ℕ) (listed r : Bool) (at : k ≡ min n most_open) (len : length (take k es) ≡ k) (one : words ≤ 1)
    (same : get_or (take words (word ∷ [])) 0 0 ≡ word) (kind : entry_ok h.kind ≡ entry_ok 3)
    (e : r ≡ (counts_ok h.kind n 0 words word && (head_ok h && listed))) (q : listed ≡ run object_of (entry_ok 3) 0 (take k es)) where
  abbrev ws : List ℕ
  ws = take words (word ∷ [])

  abbrev firsts : List Entry
  firsts = first_entries n es

  same_counts : counts_ok h.kind n 0 words word ≡ counts_ok h.kind (length firsts) 0 (length ws) (get_or ws 0 0)
  same_counts =
      counts_eq h.kind n 0 words word (length firsts) 0 (length ws) (get_or ws 0 0) (sym (entries_length n es)) refl (sym (words_length words word one))
      (sym same)

  same_items : n ≤ most_open → listed ≡ run object_of (entry_ok h.kind) 0 firsts
  same_items g =
      let z : k ≡ n = omega arith in
      q ∙ ap₂ (λ (ok : Entry → Bool) (l : List Entry). run object_of ok 0 l) (sym kind) (ap (λ (i : ℕ). take i es) z ∙ (all_there es n k at len g).1)

  abbrev rest : Bool
  rest = head_ok h && listed

  pub first_formed : r ≡ well_formed (headed h firsts [] ws)
  first_formed = by (counts_ok h.kind n 0 words word) refl
    where
      by : (b : Bool) → counts_ok h.kind n 0 words word ≡ b → r ≡ well_formed (headed h firsts [] ws)
      by true t =
          entries_formed h firsts ws listed r (e ∙ ap (λ (b : Bool). b && rest) same_counts) (same_items (few h.kind n words word t))
      by false t =
          e ∙ ap (λ (b : Bool). b && rest) t
          ∙ sym (formed_by h firsts [] ws ∙ ap (λ (b : Bool). b && (head_ok h && (run object_of (entry_ok h.kind) 0 firsts
          && run owner_in (rival_ok h.kind h.owner h.to) 0 []))) (sym same_counts ∙ t))

none_refuses : (a b : Bool) → ◌≡◌ {A = ℕ} (cond a 1 (cond b 0 3)) 0 → (a ≡ false) × (b ≡ true)
none_refuses true b e = absurd (let z : ⊥ = omega arith in z)
none_refuses false true e = (refl, refl)
none_refuses false false e = absurd (let z : ⊥ = omega arith in z)

-- a buffer that is not refused has room
pub room : (l : List ℕ) (formed : Bool) (n : ℕ) → n ≡ cond (ltb (length l) longest_message) 1 (cond formed 0 3) → n ≡ 0 → longest_message ≤ length l
room l formed n e z = ltb-false (length l) longest_message (none_refuses (ltb (length l) longest_message) formed (sym e ∙ z)).0

pub room_in_front : (l : List ℕ) (formed : Bool) (n : ℕ) → n ≡ cond (ltb (length l) longest_message) 1 (cond formed 0 3) → n ≡ 0
    → length (take longest_message l) ≡ longest_message
room_in_front l formed n e z = length-take-le longest_message l (room l formed n e z)

left : (a b : Bool) → (a && b) ≡ true → a ≡ true
left true b t = refl
left false b t = t

-- entries that are not refused are at most eight
pub few_entries : (l : List ℕ) (formed : Bool) (z k n w x : ℕ) (rest : Bool) → z ≡ cond (ltb (length l) longest_message) 1 (cond formed 0 3) → z ≡ 0
    → formed ≡ (counts_ok k n 0 w x && rest) → n ≤ most_open
few_entries l formed z k n w x rest e y f =
    few k n w x (left (counts_ok k n 0 w x) rest (sym f ∙ (none_refuses (ltb (length l) longest_message) formed (sym e ∙ y)).1))

-- a message of more than eight entries is not well formed, so a buffer with room gets 3 and stays as it was
many_unformed : (h : Head) (es : List Entry) (n : ℕ) (ws : List ℕ) → most_open < n → well_formed (headed h (first_entries n es) [] ws) ≡ false
many_unformed h es n ws g = by (well_formed (headed h (first_entries n es) [] ws)) refl
  where
    by : (b : Bool) → well_formed (headed h (first_entries n es) [] ws) ≡ b → well_formed (headed h (first_entries n es) [] ws) ≡ false
    by false t = t
    by true t =
        let c = left (counts_ok h.kind (length (first_entries n es)) 0 (length ws) (get_or ws 0 0)) _ (sym (formed_by h (first_entries n es) [] ws) ∙ t) in
        absurd (let z : ⊥ = omega (arith, few h.kind _ (length ws) (get_or ws 0 0) c, entries_length n es) in z)

pub many_refused : (h : Head) (es : List Entry) (n : ℕ) (ws l : List ℕ) → most_open < n → longest_message ≤ length l
    → (written_of (length l) (headed h (first_entries n es) [] ws) ≡ answer garbled 0) × (buffer_after (headed h (first_entries n es) [] ws) l ≡ l)
unfolding written_of buffer_after
many_refused h es n ws l g room =
    let a = le-ltb (length l) longest_message room in
    let b = many_unformed h es n ws g in
    (simp (a, b), simp (a, b))

-- a message, a buffer, and the number that the writer found from the message's fields
module _ (m : Message) (l : List ℕ) (formed : Bool) (n : ℕ) (f : formed ≡ well_formed m)
    (e : n ≡ cond (ltb (length l) longest_message) 1 (cond formed 0 3)) where
  number : n ≡ write_number (length l) m
  number = e ∙ ap (λ (b : Bool). cond (ltb (length l) longest_message) 1 (cond b 0 3)) f

  -- ---- refused
  refuses : (n ≡ 0 → ⊥) → eqb (write_number (length l) m) 0 ≡ false
  refuses g = ne_eqb _ 0 (λ z. g (number ∙ z))

  pub refused_written : (n ≡ 0 → ⊥) → answer n 0 ≡ written_of (length l) m
  unfolding written_of
  refused_written g = ap₂ answer number (sym (ap (λ (b : Bool). cond b (length (encode m)) 0) (refuses g)))

  pub refused_buffer : (n ≡ 0 → ⊥) → l ≡ buffer_after m l
  unfolding buffer_after
  refused_buffer g = sym (ap (λ (b : Bool). cond b (encode m ++ drop (length (encode m)) l) l) (refuses g))

  -- ---- written
  module _ (z : n ≡ 0) where
    allowed : (ltb (length l) longest_message ≡ false) × (well_formed m ≡ true)
    allowed = none_refuses (ltb (length l) longest_message) (well_formed m) (sym number ∙ z)

    allows : eqb (write_number (length l) m) 0 ≡ true
    allows = eq-eqb _ 0 (sym number ∙ z)

    pub good_written : (k : ℕ) → k ≡ size_of m → answer 0 k ≡ written_of (length l) m
    unfolding written_of
    good_written k s =
        ap₂ answer (sym z ∙ number) (s ∙ sym (length_encode m) ∙ sym (ap (λ (b : Bool). cond b (length (encode m)) 0) allows))

    -- the front of the buffer, lent and given back
    pub good_buffer : (last : List ℕ) → last ≡ sets (take longest_message l) 0 (encode m) → last ++ drop longest_message l ≡ buffer_after m l
    unfolding buffer_after
    good_buffer last p =
        let k = length (encode m) in
        let h = room_in_front l formed n e z in
        let s : 0 + k ≤ length (take longest_message l) = omega (arith, (length_bounds m allowed.1).1) in
        let t : 0 + k ≡ k = omega arith in
        ap (λ (x : List ℕ). x ++ drop longest_message l) (p ∙ sets-eq (encode m) (take longest_message l) 0 s)
        ∙ append_assoc (encode m) (drop (0 + k) (take longest_message l)) (drop longest_message l)
        ∙ ap (◌++◌ (encode m))
        (sym (drop-append-le (0 + k) (take longest_message l) (drop longest_message l) s)
        ∙ ap₂ (λ (i : ℕ) (x : List ℕ). drop i x) t (take-append-drop longest_message l))
        ∙ sym (ap (λ (b : Bool). cond b (encode m ++ drop k l) l) allows)
