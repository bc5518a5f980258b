-- The check's passes over the items are the clauses of `accepted`: how a list of items read from bytes unfolds, and how one pass splits into
-- ascent and tests.
use mathlib.Core.Path.{◌≡◌, refl, sym, ap, ap₂, ◌∙◌}
use mathlib.Core.Bool.{Bool, true, false, cond, ◌&&◌, and_assoc, and-true}
use mathlib.Core.List.{List, [], ◌∷◌, map}
use Prim.Native.Nat.{ℕ, zero, suc, ◌+◌, ◌-◌, ◌*◌, ◌≤◌, ◌<◌}
use native.Mathlib.Omega.{arith}
use lib.Dec.{eqb, ltb, leb}
use borrow.Author.Tests.{lt-ltb, le-leb, eqb-true}
use lib.ListN.{length, get_or}
use Rattle.wire.specs.declared.Entry.{Entry}
use Rattle.wire.specs.declared.Head.{Head}
use Rattle.wire.specs.declared.Rival.{Rival}
use Rattle.wire.specs.Headed.{headed, head_of, head_ok}
use Rattle.wire.specs.Formed.{counts_ok, names_ok, direction_ok, ascend, every, entry_ok, rival_ok, entries_ok, rivals_ok, well_formed}
use Rattle.wire.specs.Encode.{entry_size, rival_size, size_with}
use Rattle.wire.specs.Decode.{kind_of, to_of, owner_of, entry_count, entries_place, rival_count, rivals_place, word_count, words_place}
use Rattle.wire.specs.Decode.{entry_at, rival_at, word_at, items_from, decode, accepted}
use Rattle.wire.specs.Items.{word_of}
use Rattle.wire.specs.Run.{run, object_of, owner_in, fitting_sections, word_with}

module _ {A : Type 0} (at : List ℕ → ℕ → A) (size : ℕ) (l : List ℕ) where
  pub length_items : (n i : ℕ) → length (items_from at size n l i) ≡ n
  unfolding items_from
  length_items zero i = refl
  length_items (suc n) i = ap suc (length_items n (i + size))

  -- one turn, and the end, of a loop over items
  pub items_step : (n i : ℕ) → 0 < n → items_from at size n l i ≡ at l i ∷ items_from at size (n - 1) l (i + size)
  unfolding items_from
  items_step zero i h = absurd (let z : ⊥ = omega arith in z)
  items_step (suc n) i h = let e : n ≡ suc n - 1 = omega arith in ap (λ (k : ℕ). at l i ∷ items_from at size k l (i + size)) e

  pub items_end : (n i : ℕ) → n ≤ 0 → items_from at size n l i ≡ []
  unfolding items_from
  items_end zero i h = refl
  items_end (suc n) i h = absurd (let z : ⊥ = omega arith in z)

-- ---- one pass over items
module _ {A : Type 0} (key : A → ℕ) (ok : A → Bool) where
  -- a pass goes on behind an item that fits, and ends at one that does not
  pub run_again : (lo : ℕ) (fits : Bool) (lo' : ℕ) (x : A) (xs rest : List A) (whole : Bool) → xs ≡ x ∷ rest → fits ≡ (leb lo (key x) && ok x)
      → fits ≡ true → lo' ≡ key x + 1 → run key ok lo xs ≡ whole → run key ok lo' rest ≡ whole
  unfolding run
  run_again lo fits lo' x xs rest whole e f t g w =
      ap₂ (λ (b : Bool) (k : ℕ). b && run key ok k rest) (sym t ∙ f) g ∙ ap (run key ok lo) (sym e) ∙ w

  pub run_stop : (lo : ℕ) (fits : Bool) (x : A) (xs rest : List A) (whole : Bool) → xs ≡ x ∷ rest → fits ≡ (leb lo (key x) && ok x)
      → fits ≡ false → run key ok lo xs ≡ whole → false ≡ whole
  unfolding run
  run_stop lo fits x xs rest whole e f t w =
      ap (λ (b : Bool). b && run key ok (key x + 1) rest) (sym t ∙ f) ∙ ap (run key ok lo) (sym e) ∙ w

  pub run_end : (lo : ℕ) (xs : List A) (whole : Bool) → xs ≡ [] → run key ok lo xs ≡ whole → true ≡ whole
  unfolding run
  run_end lo xs whole e w = ap (run key ok lo) (sym e) ∙ w

  pub run_one : (x : A) → run key ok 0 (x ∷ []) ≡ ok x
  unfolding run
  run_one x = simp (le-leb 0 (key x) (omega arith), and-true)

-- ---- one pass is ascent and a test of each item
swap : (a b c d : Bool) → (a && b && (c && d)) ≡ (a && c && (b && d))
swap true true c d = refl
swap true false true d = refl
swap true false false d = refl
swap false b c d = refl

pub run_ascend : {A : Type 0} (key : A → ℕ) (ok : A → Bool) (lo : ℕ) (xs : List A) → run key ok lo xs ≡ (ascend lo (map key xs) && every ok xs)
unfolding run ascend
run_ascend key ok lo [] = refl
run_ascend key ok lo (x ∷ xs) =
    ap (λ (b : Bool). leb lo (key x) && ok x && b) (run_ascend key ok (key x + 1) xs)
    ∙ swap (leb lo (key x)) (ok x) (ascend (key x + 1) (map key xs)) (every ok xs)

-- ---- the word
first_word_lem : (n : ℕ) (l : List ℕ) (i : ℕ) → get_or (items_from word_at 1 n l i) 0 0 ≡ cond (ltb 0 n) (word_at l i) 0
unfolding items_from
first_word_lem zero l i = refl
first_word_lem (suc n) l i = sym (ap (λ (b : Bool). cond b (word_at l i) 0) (lt-ltb 0 (suc n) (omega arith)))

-- ---- the whole
front : (c a b : Bool) → a ≡ c → (a && b) ≡ (c && b)
front c a b e = ap (λ (x : Bool). x && b) e

pub counts_eq : (k a b c d e f g h : ℕ) → a ≡ e → b ≡ f → c ≡ g → d ≡ h → counts_ok k a b c d ≡ counts_ok k e f g h
counts_eq k a b c d e f g h p q r s = cc

size_eq : (n a b c e f g : ℕ) → a ≡ e → b ≡ f → c ≡ g → eqb n (size_with a b c) ≡ eqb n (size_with e f g)
size_eq n a b c e f g p q r = cc

-- a message is well formed by its counts, its header and one pass over each section
pub formed_by : (h : Head) (es : List Entry) (rs : List Rival) (ws : List ℕ)
    → well_formed (headed h es rs ws)
    ≡ (counts_ok h.kind (length es) (length rs) (length ws) (get_or ws 0 0)
    && (head_ok h && (run object_of (entry_ok h.kind) 0 es && run owner_in (rival_ok h.kind h.owner h.to) 0 rs)))
unfolding well_formed entries_ok rivals_ok
formed_by h es rs ws =
    let m = headed h es rs ws in
    ap (◌&&◌ (counts_ok h.kind (length es) (length rs) (length ws) (get_or ws 0 0)))
    (ap (λ (b : Bool). names_ok m && (direction_ok m && b))
    (ap₂ ◌&&◌ (sym (run_ascend object_of (entry_ok h.kind) 0 es)) (sym (run_ascend owner_in (rival_ok h.kind h.owner h.to) 0 rs)))
    ∙ sym (and_assoc (names_ok m) (direction_ok m) _))

pub accepted_by : (l : List ℕ)
    → accepted l
    ≡ (fitting_sections l
    && (head_ok (head_of l)
    && (run object_of (entry_ok (kind_of l)) 0 (items_from entry_at entry_size (entry_count l) l entries_place)
    && run owner_in (rival_ok (kind_of l) (owner_of l) (to_of l)) 0 (items_from rival_at rival_size (rival_count l) l (rivals_place l)))))
unfolding accepted decode
accepted_by l =
    let n = length_items entry_at entry_size l (entry_count l) entries_place in
    let r = length_items rival_at rival_size l (rival_count l) (rivals_place l) in
    let w = length_items word_at 1 l (word_count l) (words_place l) in
    ap₂ ◌&&◌ (size_eq (length l) _ _ _ (entry_count l) (rival_count l) (word_count l) n r w)
    (formed_by (head_of l) (items_from entry_at entry_size (entry_count l) l entries_place) (items_from rival_at rival_size (rival_count l) l (rivals_place l))
    (items_from word_at 1 (word_count l) l (words_place l))
    ∙ front _ _ _
    (counts_eq (kind_of l) _ _ _ _ (entry_count l) (rival_count l) (word_count l) (word_of l) n r w (first_word_lem (word_count l) l (words_place l))))
    ∙ sym (and_assoc (eqb (length l) (size_with (entry_count l) (rival_count l) (word_count l)))
    (counts_ok (kind_of l) (entry_count l) (rival_count l) (word_count l) (word_of l)) _)

-- the counts read one behind the other are the definition's
pub sized_fits : (l : List ℕ) (n r w : ℕ) → n ≡ entry_count l → r ≡ rival_count l → w ≡ word_count l
    → (eqb (length l) (size_with n r w) && counts_ok (kind_of l) n r w (word_with l n r w)) ≡ fitting_sections l
sized_fits l n r w p q s =
    let place : 15 + 14 * n + 5 * r ≡ words_place l = omega arith in
    ap₂ ◌&&◌ (size_eq (length l) n r w (entry_count l) (rival_count l) (word_count l) p q s)
    (counts_eq (kind_of l) n r w (word_with l n r w) (entry_count l) (rival_count l) (word_count l) (word_of l) p q s
    (ap₂ (λ (k : ℕ) (j : ℕ). cond (ltb 0 k) (get_or l j 0) 0) s place))

pub sized_length : (l : List ℕ) (n r w : ℕ) (x : Bool) → x ≡ (eqb (length l) (size_with n r w) && counts_ok (kind_of l) n r w (word_with l n r w))
    → x ≡ true → length l ≡ size_with n r w
sized_length l n r w x e t = eqb-true (length l) (size_with n r w) (left (eqb (length l) (size_with n r w)) _ (sym e ∙ t))
  where
    left : (a b : Bool) → (a && b) ≡ true → a ≡ true
    left true b e = refl
    left false b e = e

-- the parts found by the check's functions
pub accepted_when : (l : List ℕ) (head entries rivals : Bool) → fitting_sections l ≡ true → head ≡ head_ok (head_of l)
    → entries ≡ run object_of (entry_ok (kind_of l)) 0 (items_from entry_at entry_size (entry_count l) l entries_place)
    → rivals ≡ run owner_in (rival_ok (kind_of l) (owner_of l) (to_of l)) 0 (items_from rival_at rival_size (rival_count l) l (rivals_place l))
    → (head && (entries && rivals)) ≡ accepted l
accepted_when l head entries rivals f p r s =
    ap₂ ◌&&◌ p (ap₂ ◌&&◌ r s) ∙ sym (accepted_by l ∙ front true (fitting_sections l) _ f)

pub not_accepted : (l : List ℕ) → fitting_sections l ≡ false → accepted l ≡ false
not_accepted l f = accepted_by l ∙ front false (fitting_sections l) _ f
