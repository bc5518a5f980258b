-- The laws of the decimal text. Assumes nothing.
use Rattle.std.specs.Prelude.{ℕ, zero, suc, ◌+◌, ◌*◌, ◌-◌, ◌/◌, ◌%◌, ◌^◌, ◌≤◌, ◌<◌, ◌≡◌, refl, Bool, true, false, ◌&&◌, ◌⊎◌, List, [], ◌∷◌, ◌++◌, ltb, leb}
use Rattle.std.specs.Prelude.{length, take, drop, set, get_or}
use Rattle.std.proofs.Common.{arith, sym, ap, ◌∙◌, inl, inr, ⊎_elim, append_assoc, append-nil, ltb-true, ltb-false, lt-ltb, le-ltb, le-leb, length-append}
use Rattle.std.proofs.Common.{length-drop, take-append-drop, length-take-le, take_at, drop-drop, drop-cons, get_or-set_same, drop-set-lt, lt-length-set}
use Rattle.std.proofs.Common.{add-zero, add_assoc, pow-suc, mod-lt}
use Rattle.std.proofs.Math.Bool.{and_assoc}
use Rattle.std.proofs.lemmas.Bool.{lt-leb}
use Rattle.std.proofs.Math.ListN.{get_or-append}
use Rattle.std.proofs.Math.Seq.{drop-append-add, append_snoc}
use Rattle.decimal.specs.Decimal.{digits, decimal, value_from, fits, put_at, next_at}

-- below a bound or not
pub less_or_not : (n m : ℕ) → (n < m) ⊎ (m ≤ n)
less_or_not n m = from (ltb n m) refl
  where
    from : (t : Bool) → ltb n m ≡ t → (n < m) ⊎ (m ≤ n)
    from true e = inl (ltb-true n m e)
    from false e = inr (ltb-false n m e)

-- a text that fits is put, and the position is behind it
pub put_fits : (l : List ℕ) (at : ℕ) (t : List ℕ) → at + length t ≤ length l → put_at l at t ≡ take at l ++ t ++ drop (at + length t) l
unfolding fits put_at
put_fits l at t h = simp (le-leb _ _ h)

pub next_fits : (l : List ℕ) (at : ℕ) (t : List ℕ) → at + length t ≤ length l → next_at l at t ≡ at + length t
unfolding fits next_at
next_fits l at t h = simp (le-leb _ _ h)

-- a text that does not fit changes nothing
pub put_over : (l : List ℕ) (at : ℕ) (t : List ℕ) → length l < at + length t → put_at l at t ≡ l
unfolding fits put_at
put_over l at t h = simp (lt-leb _ _ h)

pub next_over : (l : List ℕ) (at : ℕ) (t : List ℕ) → length l < at + length t → next_at l at t ≡ at
unfolding fits next_at
next_over l at t h = simp (lt-leb _ _ h)

-- the position stays within the buffer
pub next_within : (l : List ℕ) (at : ℕ) (t : List ℕ) → at ≤ length l → next_at l at t ≤ length l
next_within l at t h =
    ⊎_elim (λ i. rw (next_over l at t i) h) (λ i. rw (next_fits l at t i) i) (less_or_not (length l) (at + length t))

-- a buffer keeps its length
pub length_put : (l : List ℕ) (at : ℕ) (t : List ℕ) → length (put_at l at t) ≡ length l
length_put l at t =
    ⊎_elim
    (λ h. ap length (put_over l at t h))
    (λ h.
    rw (put_fits l at t h, length-append (take at l ++ t) (drop (at + length t) l), length-append (take at l) t)
    (omega (arith, length-take-le at l (omega arith), length-drop (at + length t) l)))
    (less_or_not (length l) (at + length t))

-- nothing put changes nothing
pub put_nothing : (l : List ℕ) (at : ℕ) → at ≤ length l → put_at l at [] ≡ l
put_nothing l at h = rw (put_fits l at [] (omega arith)) ((λ j. append-nil (take at l) j ++ drop (add-zero at j) l) ∙ take-append-drop at l)

-- a text put behind another is the two put as one
pub put_put : (l : List ℕ) (at : ℕ) (a b : List ℕ) → at + length (a ++ b) ≤ length l → put_at (put_at l at a) (at + length a) b ≡ put_at l at (a ++ b)
put_put l at a b h =
    let e : length (a ++ b) ≡ length a + length b = length-append a b in
    let p = take at l ++ a in
    let q : length p ≡ at + length a = length-append (take at l) a ∙ ap (λ (k : ℕ). k + length a) (length-take-le at l (omega arith)) in
    put_fits (put_at l at a) (at + length a) b (rw (length_put l at a) (omega arith))
    ∙ ap (λ (m : List ℕ). take (at + length a) m ++ b ++ drop (at + length a + length b) m) (put_fits l at a (omega arith))
    ∙ (λ j.
    take_at p (drop (at + length a) l) (at + length a) q j
    ++ b
    ++ (ap (λ (k : ℕ). drop (k + length b) (p ++ drop (at + length a) l)) (sym q)
    ∙ drop-append-add p (drop (at + length a) l) (length b)
    ∙ drop-drop (length b) (at + length a) l) j)
    ∙ (λ j. append_assoc (take at l) a b j ++ drop ((add_assoc at (length a) (length b) ∙ ap (λ (k : ℕ). at + k) (sym e)) j) l)
    ∙ sym (put_fits l at (a ++ b) h)

-- the position `to` is behind the text t that was put into the buffer l at a position, and the buffer is m now
abbrev pub Behind : List ℕ → ℕ → List ℕ → List ℕ → ℕ → Type 0
Behind l at t m to = (to ≡ at + length t) × (m ≡ put_at l at t)

pub behind_length : (l : List ℕ) (at : ℕ) (t : List ℕ) {m : List ℕ} {to : ℕ} → Behind l at t m to → length m ≡ length l
behind_length l at t p = ap length p.1 ∙ length_put l at t

-- a first text, and a text behind another
pub put_first : (l : List ℕ) (at : ℕ) (t : List ℕ) {m : List ℕ} {to : ℕ}
    → at + length t ≤ length l
    → to ≡ next_at l at t
    → m ≡ put_at l at t
    → Behind l at t m to
put_first l at t h p q = (p ∙ next_fits l at t h, q)

pub put_next : (l : List ℕ) (at : ℕ) (a b : List ℕ) {m n : List ℕ} {to end : ℕ}
    → at + length (a ++ b) ≤ length l
    → Behind l at a m to
    → Behind m to b n end
    → Behind l at (a ++ b) n end
put_next l at a b h p q = (omega (arith, length-append a b), q.1 ∙ (λ j. put_at (p.1 j) (p.0 j) b) ∙ put_put l at a b h)

pub put_behind : (l : List ℕ) (at : ℕ) (a b : List ℕ) {m n : List ℕ} {to end : ℕ}
    → at + length (a ++ b) ≤ length l
    → Behind l at a m to
    → end ≡ next_at m to b
    → n ≡ put_at m to b
    → Behind l at (a ++ b) n end
put_behind l at a b {m} {n} {to} {end} h p q r =
    let e : length m ≡ length l = behind_length l at a p in
    put_next l at a b h p (put_first m to b (omega (arith, length-append a b)) q r)

-- the text of a number of one digit, and of a number of more
pub digits_one : (k n : ℕ) → n < 10 → digits (suc k) n ≡ (48 + n) ∷ []
unfolding digits
digits_one k n h = simp (lt-ltb _ _ h)

pub digits_more : (k n : ℕ) → 10 ≤ n → digits (suc k) n ≡ digits k (n / 10) ++ ((48 + n % 10) ∷ [])
unfolding digits
digits_more k n h = simp (le-ltb _ _ h)

-- a list from an element on that was set
pub drop_set : (l : List ℕ) (i a : ℕ) → i < length l → drop i (set l i a) ≡ a ∷ drop (suc i) l
drop_set l i a h =
    drop-cons (set l i a) i 0 (lt-length-set l i a h)
    ∙ (λ j. get_or-set_same l i a 0 h j ∷ drop-set-lt (suc i) l i a (omega arith) j)

-- written from the last digit on: a digit set in front of those written, and the last of them, the most significant
pub digits_turn : (k n : ℕ) (l : List ℕ) → 10 ≤ n → k < length l → digits k (n / 10) ++ drop k (set l k (48 + n % 10)) ≡ digits (suc k) n ++ drop (suc k) l
digits_turn k n l h i = rw (digits_more k n h, drop_set l k (48 + n % 10) i) (sym (append_snoc (digits k (n / 10)) (48 + n % 10) (drop (suc k) l)))

pub digits_last : (k n : ℕ) (l : List ℕ) → n < 10 → k < length l → drop k (set l k (48 + n)) ≡ digits (suc k) n ++ drop (suc k) l
digits_last k n l h i = rw (digits_one k n h, drop_set l k (48 + n) i)

-- a tenth part has a digit less
pub tenth : (k n : ℕ) → n < 10 ^ suc k → n / 10 < 10 ^ k
tenth k n h = let p : 10 ^ suc k ≡ 10 ^ k * 10 = pow-suc 10 k in omega arith

-- a number of two digits or more does not fit one
pub one_more : (k n : ℕ) → n < 10 ^ suc k → 10 ≤ n → 0 < k
one_more zero n h i = omega arith
one_more (suc k) n h i = omega arith

-- reading a text behind another
pub value_append : (v : ℕ) (a b : List ℕ) → value_from v (a ++ b) ≡ value_from (value_from v a) b
unfolding value_from
value_append v [] b = refl
value_append v (x ∷ a) b = value_append (v * 10 + (x - 48)) a b

-- whether every byte of a text is a digit
unfoldable pub only_digits : List ℕ → Bool
only_digits [] = true
only_digits (b ∷ bs) = leb 48 b && (leb b 57 && only_digits bs)

only_append : (a b : List ℕ) → only_digits (a ++ b) ≡ (only_digits a && only_digits b)
unfolding only_digits
only_append [] b = refl
only_append (x ∷ a) b =
    rw (only_append a b, and_assoc (leb 48 x) (leb x 57 && only_digits a) (only_digits b), and_assoc (leb x 57) (only_digits a) (only_digits b))

only_one : (d : ℕ) → d < 10 → only_digits ((48 + d) ∷ []) ≡ true
unfolding only_digits
only_one d h = rw (le-leb 48 (48 + d) (omega arith), le-leb (48 + d) 57 (omega arith))

-- at least one digit
digits_some : (k n : ℕ) → 0 < k → 0 < length (digits k n)
digits_some zero n p = omega arith
digits_some (suc k) n p =
    ⊎_elim
    (λ i. rw (digits_one k n i) (omega arith))
    (λ i. rw (digits_more k n i, length-append (digits k (n / 10)) ((48 + n % 10) ∷ [])) (omega arith))
    (less_or_not n 10)

-- at most k digits for a number below 10 ^ k
digits_short : (k j n : ℕ) → 0 < k → n < 10 ^ k → length (digits j n) ≤ k
unfolding digits
digits_short k zero n p h = omega arith
digits_short zero (suc j) n p h = omega arith
digits_short (suc k) (suc j) n p h =
    ⊎_elim
    (λ i. rw (digits_one j n i) (omega arith))
    (λ i.
    let q : length (digits j (n / 10)) ≤ k = digits_short k j (n / 10) (one_more k n h i) (tenth k n h) in
    rw (digits_more j n i, length-append (digits j (n / 10)) ((48 + n % 10) ∷ [])) (omega arith))
    (less_or_not n 10)

-- every byte is a digit
digits_only : (k n : ℕ) → only_digits (digits k n) ≡ true
unfolding digits only_digits
digits_only zero n = refl
digits_only (suc k) n =
    ⊎_elim
    (λ i. ap only_digits (digits_one k n i) ∙ only_one n i)
    (λ i.
    ap only_digits (digits_more k n i)
    ∙ only_append (digits k (n / 10)) ((48 + n % 10) ∷ [])
    ∙ (λ j. digits_only k (n / 10) j && only_one (n % 10) (mod-lt n (omega arith)) j))
    (less_or_not n 10)

-- no leading zero
digits_first : (k n : ℕ) → 0 < n → n < 10 ^ k → 48 < get_or (digits k n) 0 0
digits_first zero n p h = omega arith
digits_first (suc k) n p h =
    ⊎_elim
    (λ i. rw (digits_one k n i) (omega arith))
    (λ i.
    rw (digits_more k n i, get_or-append (digits k (n / 10)) ((48 + n % 10) ∷ []) 0 0 (digits_some k (n / 10) (one_more k n h i)))
    (digits_first k (n / 10) (omega arith) (tenth k n h)))
    (less_or_not n 10)

-- read back
digits_value : (k n : ℕ) → n < 10 ^ k → value_from 0 (digits k n) ≡ n
unfolding digits value_from
digits_value zero n h = omega arith
digits_value (suc k) n h =
    ⊎_elim
    (λ i. rw (digits_one k n i) (omega arith))
    (λ i. rw (digits_more k n i, value_append 0 (digits k (n / 10)) ((48 + n % 10) ∷ []), digits_value k (n / 10) (tenth k n h)) (omega arith))
    (less_or_not n 10)

-- more room for digits changes nothing
digits_room : (k n : ℕ) → 0 < n → n < 10 ^ k → digits k n ≡ digits (suc k) n
digits_room zero n p h = absurd (omega arith)
digits_room (suc k) n p h =
    ⊎_elim
    (λ i. digits_one k n i ∙ sym (digits_one (suc k) n i))
    (λ i.
    digits_more k n i
    ∙ ap (λ (l : List ℕ). l ++ ((48 + n % 10) ∷ [])) (digits_room k (n / 10) (omega arith) (tenth k n h))
    ∙ sym (digits_more (suc k) n i))
    (less_or_not n 10)

-- The laws of `decimal`, for every number below 10 ^ 20, and so for every u64.

-- at least one byte, and at most k for a number below 10 ^ k: so up to twenty
pub decimal_some : (n : ℕ) → 0 < length (decimal n)
unfolding decimal
decimal_some n = digits_some 20 n (omega arith)

pub decimal_short : (k n : ℕ) → 0 < k → n < 10 ^ k → length (decimal n) ≤ k
unfolding decimal
decimal_short k n p h = digits_short k 20 n p h

-- every byte is a digit
pub decimal_only : (n : ℕ) → only_digits (decimal n) ≡ true
unfolding decimal
decimal_only n = digits_only 20 n

-- only 0 begins with the digit 0
pub decimal_first : (n : ℕ) → 0 < n → n < 10 ^ 20 → 48 < get_or (decimal n) 0 0
unfolding decimal
decimal_first n p h = digits_first 20 n p h

pub decimal_zero : decimal 0 ≡ 48 ∷ []
unfolding decimal digits
decimal_zero = refl

-- reading the text gives the number
pub decimal_value : (n : ℕ) → n < 10 ^ 20 → value_from 0 (decimal n) ≡ n
unfolding decimal
decimal_value n h = digits_value 20 n h

-- a digit alone, and a digit behind the text of a number that is not 0
pub decimal_digit : (d : ℕ) → d < 10 → decimal d ≡ (48 + d) ∷ []
unfolding decimal
decimal_digit d h = digits_one 19 d h

pub decimal_more : (n d : ℕ) → 0 < n → n < 10 ^ 19 → d < 10 → decimal (n * 10 + d) ≡ decimal n ++ ((48 + d) ∷ [])
unfolding decimal
decimal_more n d p h i =
    let a : (n * 10 + d) / 10 ≡ n = omega arith in
    let b : (n * 10 + d) % 10 ≡ d = omega arith in
    digits_more 19 (n * 10 + d) (omega arith)
    ∙ (λ j. digits 19 (a j) ++ ((48 + b j) ∷ []))
    ∙ ap (λ (l : List ℕ). l ++ ((48 + d) ∷ [])) (digits_room 19 n p h)
