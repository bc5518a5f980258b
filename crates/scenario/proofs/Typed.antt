-- Whatever a line says fits its C types: numbers of 64 bits, distances of 16.
use mathlib.Core.Path.{◌≡◌, refl, sym, ap, subst, ◌∙◌}
use mathlib.Core.Logic.{by_cases, ◌⊎◌, inl, inr}
use mathlib.Core.Bool.{Bool, true, false, cond}
use mathlib.Core.List.{List}
use Prim.Native.Nat.{ℕ, zero, suc, ◌+◌, ◌-◌, ◌*◌, ◌^◌, ◌<◌, ◌≤◌}
use native.Mathlib.Omega.{arith}
use native.Mathlib.Decide.{ℕ_discrete}
use native.Mathlib.Nat.{mod-lt}
use lib.Dec.{eqb, ltb, lit<}
use lib.ListN.{length, get_or, set, replicate}
use lib.Seq.{get_or-set_same, get_or-set_other, set_out}
use borrow.Author.Tests.{ltb-false, eqb-false}
use Rattle.numbers.specs.Sizes.{nodes}
use Rattle.octets.proofs.Laws.{lt_or_le}
use Rattle.accounts.specs.Accounts.{Typed}
use Rattle.orders.specs.declared.Kind.{Kind}
use Rattle.orders.specs.declared.Kind.TheVariants.{Begin, Batch, OpenRead, OpenWrite, SetValue, Found, Reselect, RequestCommit, Abort}
use Rattle.orders.specs.declared.Kind.TheVariants.{LoadHours, LoadClasses, Send, Deliver, Drop, Switch}
use Rattle.runs.specs.Order.{call_by, call_of}
use Rattle.script.specs.declared.Said.{Said}
use Rattle.script.specs.Said.{in_word, between, behind_minus, in_comment, spoilt, most_numbers}
use Rattle.script.specs.Said.{in_number, in_negative, in_part, bad, letter, with_letter, most, digit, with_digit, negated, bits, with_number}
use Rattle.script.specs.Said.{complete, space, silenced, minus, sign, letter_or_none, step}
use Rattle.script.specs.Said.{fresh as nothingSaid}
use Rattle.script.specs.Parse.{arity, fill_from, distances_of, with_of, order_of, parsed}
use Rattle.reading.specs.declared.Reader.{Reader}
use Rattle.reading.specs.Reading.{timed}

pub record Fit (s : Said) : Type 0 where
  pub value : s.value < 2 ^ 64
  pub numbers : (i : ℕ) → get_or s.numbers i 0 < 2 ^ 64

-- a number stored where all are below m
stored : (m : ℕ) (l : List ℕ) (k v : ℕ) → v < m → ((i : ℕ) → get_or l i 0 < m) → (i : ℕ) → get_or (set l k v) i 0 < m
stored m l k v h f i = by_cases (ℕ_discrete i k) here (λ e. subst (λ (x : ℕ). x < m) (sym (get_or-set_other l k i v 0 e)) (f i))
  where
    here : i ≡ k → get_or (set l k v) i 0 < m
    here e = go (lt_or_le k (length l))
      where
        go : (k < length l) ⊎ (length l ≤ k) → get_or (set l k v) i 0 < m
        go (inl p) = subst (λ (x : ℕ). x < m) (sym (ap (λ (j : ℕ). get_or (set l k v) j 0) e ∙ get_or-set_same l k v 0 p)) h
        go (inr p) = subst (λ (x : List ℕ). get_or x i 0 < m) (sym (set_out l k v p)) (f i)

-- all of a list that repeats one number
alike : (m n a d i : ℕ) → a < m → d < m → get_or (replicate n a) i d < m
alike m zero a d i h g = g
alike m (suc n) a d zero h g = h
alike m (suc n) a d (suc i) h g = alike m n a d i h g

-- a line of which nothing is read
pub fit_fresh : Fit nothingSaid
unfolding nothingSaid
fit_fresh = record { value = lit< tt; numbers = λ i. alike (2 ^ 64) most_numbers 0 0 i (lit< tt) (lit< tt) }

-- ---- by tests
choice : (b : Bool) (x y : Said) → (b ≡ true → Fit x) → (b ≡ false → Fit y) → Fit (cond b x y)
choice true x y f g = f refl
choice false x y f g = g refl

fit_part : (s : Said) (p : ℕ) → Fit s → Fit (in_part s p)
unfolding in_part
fit_part s p f = record { value = f.value; numbers = f.numbers }

fit_letter : (s : Said) (b : ℕ) → Fit s → Fit (letter s b)
unfolding letter with_letter
fit_letter s b f =
    choice (ltb in_word s.part) (bad s) _ (λ e. fit_part s spoilt f)
    (λ e. choice (ltb 72057594037927935 s.word) (bad s) (with_letter s b) (λ g. fit_part s spoilt f) (λ g. with_letter_lem))
  where
    with_letter_lem : Fit (with_letter s b)
    with_letter_lem = record { value = f.value; numbers = f.numbers }

most_small : (p : ℕ) → most p ≤ 9223372036854775808
unfolding most
most_small p = go (ltb p 4)
  where
    go : (b : Bool) → cond b 9223372036854775807 9223372036854775808 ≤ 9223372036854775808
    go true = omega arith
    go false = omega arith

fit_digit : (s : Said) (d : ℕ) → Fit s → Fit (digit s d)
unfolding digit with_digit
fit_digit s d f =
    choice (ltb s.part between) (bad s) _ (λ e. fit_part s spoilt f)
    (λ e. choice (ltb 922337203685477580 s.value) (bad s) _ (λ g. fit_part s spoilt f)
    (λ g. choice (ltb (most s.part) v) (bad s) (with_digit s v) (λ h. fit_part s spoilt f) (λ h. with_digit_lem h)))
  where
    v : ℕ
    v = s.value * 10 + d

    with_digit_lem : ltb (most s.part) v ≡ false → Fit (with_digit s v)
    with_digit_lem h = record { value = omega (arith, ltb-false (most s.part) v h, most_small s.part); numbers = f.numbers }

-- a complete number
bits_small : (p v : ℕ) → v < 2 ^ 64 → bits p v < 2 ^ 64
unfolding bits negated
bits_small p v h = go (eqb p 5) (eqb v 0) refl
  where
    go : (a b : Bool) → eqb v 0 ≡ b → cond a (cond b 0 (18446744073709551615 - v + 1)) v < 2 ^ 64
    go true true q = lit< tt
    go true false q = let z = eqb-false v 0 q in omega (arith, z)
    go false b q = h

fit_number : (s : Said) (v : ℕ) → v < 2 ^ 64 → Fit s → Fit (with_number s v)
unfolding with_number
fit_number s v h f = record { value = lit< tt; numbers = stored (2 ^ 64) s.numbers s.count v h f.numbers }

fit_complete : (s : Said) → Fit s → Fit (complete s)
unfolding complete
fit_complete s f =
    let v = bits s.part s.value in
    choice (ltb s.count most_numbers) (with_number s v) (bad s) (λ e. fit_number s v (bits_small s.part s.value f.value) f)
    (λ e. fit_part s spoilt f)

pub fit_space : (s : Said) → Fit s → Fit (space s)
unfolding space
fit_space s f =
    choice (eqb s.part in_word) (in_part s between) _ (λ e. fit_part s between f)
    (λ e. choice (eqb s.part in_number) (complete s) _ (λ g. fit_complete s f)
    (λ g. choice (eqb s.part in_negative) (complete s) _ (λ h. fit_complete s f)
    (λ h. choice (eqb s.part behind_minus) (bad s) s (λ k. fit_part s spoilt f) (λ k. f))))

pub fit_bad : (s : Said) → Fit s → Fit (bad s)
fit_bad s f = fit_part s spoilt f

fit_silenced : (s : Said) → Fit s → Fit (silenced s)
unfolding silenced
fit_silenced s f = choice (eqb s.part spoilt) s (in_part s in_comment) (λ e. f) (λ e. fit_part s in_comment f)

fit_minus : (s : Said) → Fit s → Fit (minus s)
unfolding minus
fit_minus s f = choice (eqb s.part between) (in_part s behind_minus) (bad s) (λ e. fit_part s behind_minus f) (λ e. fit_part s spoilt f)

fit_sign : (s : Said) (b : ℕ) → Fit s → Fit (sign s b)
unfolding sign
fit_sign s b f =
    choice (eqb b 32) (space s) _ (λ h. fit_space s f)
    (λ h. choice (eqb b 35) (silenced (space s)) _ (λ k. fit_silenced (space s) (fit_space s f))
    (λ k. choice (eqb b 45) (minus s) (bad s) (λ m. fit_minus s f) (λ m. fit_part s spoilt f)))

fit_letter_or_none : (s : Said) (b : ℕ) → Fit s → Fit (letter_or_none s b)
unfolding letter_or_none
fit_letter_or_none s b f =
    choice (ltb b 97) (bad s) _ (λ k. fit_part s spoilt f)
    (λ k. choice (ltb 122 b) (bad s) (letter s b) (λ m. fit_part s spoilt f) (λ m. fit_letter s b f))

-- one byte more
pub fit_step : (s : Said) (b : ℕ) → Fit s → Fit (step s b)
unfolding step
fit_step s b f =
    choice (ltb in_negative s.part) s _ (λ e. f)
    (λ e. choice (ltb b 48) (sign s b) _ (λ g. fit_sign s b f)
    (λ g. choice (ltb 57 b) (letter_or_none s b) (digit s (b - 48)) (λ h. fit_letter_or_none s b f) (λ h. fit_digit s (b - 48) f)))

-- ---- so the step that a line names has arguments of their types: the distances are thirteen, of 16 bits each
fill_long : (k i : ℕ) (l : List ℕ) → length (fill_from k i l) ≡ k
unfolding fill_from
fill_long zero i l = refl
fill_long (suc k) i l = ap suc (fill_long k (i + 1) l)

fill_small : (k i : ℕ) (l : List ℕ) (j : ℕ) → get_or (fill_from k i l) j 0 < 2 ^ 16
unfolding fill_from
fill_small zero i l j = lit< tt
fill_small (suc k) i l zero = mod-lt (get_or l i 0) (lit< tt)
fill_small (suc k) i l (suc j) = fill_small k (i + 1) l j

abbrev Thirteen : List ℕ → Type 0
Thirteen d = (length d ≡ nodes) × ((i : ℕ) → get_or d i 0 < 2 ^ 16)

thirteen : (s : Said) → Thirteen (distances_of s)
unfolding distances_of
thirteen s = go (eqb s.count (arity s.word))
  where
    go : (b : Bool) → Thirteen (cond b (replicate nodes 1) (fill_from nodes (arity s.word) s.numbers))
    go true = (refl, λ i. alike (2 ^ 16) nodes 1 0 i (lit< tt) (lit< tt))
    go false = (fill_long nodes (arity s.word) s.numbers, fill_small nodes (arity s.word) s.numbers)

typed_by : (k : Kind) (r : Reader) (s : Said) (list : List ℕ) → Fit s → Typed (call_by k (timed r (order_of s)) list)
unfolding call_by timed order_of with_of
typed_by Begin r s list f = (omega arith, thirteen s)
typed_by Batch r s list f = (omega arith, thirteen s)
typed_by OpenRead r s list f = tt
typed_by OpenWrite r s list f = tt
typed_by SetValue r s list f = f.numbers 2
typed_by Found r s list f = tt
typed_by Reselect r s list f = thirteen s
typed_by RequestCommit r s list f = tt
typed_by Abort r s list f = tt
typed_by LoadHours r s list f = tt
typed_by LoadClasses r s list f = tt
typed_by Send r s list f = tt
typed_by Deliver r s list f = tt
typed_by Drop r s list f = tt
typed_by Switch r s list f = tt

pub typed : (r : Reader) (s : Said) (list : List ℕ) → Fit s → Typed (call_of (timed r (parsed s).order) list)
unfolding parsed
typed r s list f = typed_by (timed r (order_of (space s))).kind r (space s) list (fit_space s f)
