-- Lists of transactions, newest first: the place of each in the list, what replay holds of the committed ones, and what one more commit makes of that.
-- The place of the last writer decides: a committed writer that stands higher in the list hides every one below it.
use mathlib.Core.Path.{◌≡◌, refl, sym, ◌∙◌, ap, subst}
use mathlib.Core.Logic.{◌≢◌, ◌⊎◌, inl, inr}
use mathlib.Core.Bool.{Bool, true, false, cond, ◌&&◌}
use mathlib.Core.List.{List, [], ◌∷◌}
use Prim.Native.Nat.{ℕ, suc, ◌<◌, ◌≤◌}
use native.Mathlib.Omega.{arith}
use lib.Dec.{ltb}
use lib.ListN.{length}
use borrow.Author.Tests.{lt-ltb, le-ltb}
use Rattle.protocol.specs.Table.{pick, In, select, times}
use Rattle.protocol.specs.Rules.{Mode, unused, read, write}
use Rattle.protocol.specs.State.{Tx, Tx-discrete}
use Rattle.protocol.specs.Replay.{after, replay}
use Rattle.protocol.proofs.Tables.{on, pick_cases}
use Rattle.protocol.proofs.Lists.{select_cases, select_ext, in_select}
use Rattle.history.specs.Ledger.{in?}
use Rattle.history.specs.Origin.{is_writing}

-- ---- places, from 1 for the oldest; 0 for one that is not there
abbrev pub rank : List Tx → Tx → ℕ
rank [] x = 0
rank (y ∷ l) x = pick (Tx-discrete x y) (suc (length l)) (rank l x)

pub rank_top : (x : Tx) (l : List Tx) → rank (x ∷ l) x ≡ suc (length l)
rank_top x l = on (pick_cases (Tx-discrete x x) (suc (length l)) (rank l x)) (λ z. z.1) (λ z. absurd (z.0 refl))

pub rank_under : (x y : Tx) (l : List Tx) → x ≢ y → rank (y ∷ l) x ≡ rank l x
rank_under x y l e = on (pick_cases (Tx-discrete x y) (suc (length l)) (rank l x)) (λ z. absurd (e z.0)) (λ z. z.1)

pub rank_none : (x : Tx) (l : List Tx) → (In x l → ⊥) → rank l x ≡ 0
rank_none x [] e = refl
rank_none x (y ∷ l) e = rank_under x y l (λ q. e (inl q)) ∙ rank_none x l (λ i. e (inr i))

rank_most : (x : Tx) (l : List Tx) → rank l x ≤ length l
rank_most x [] = omega arith
rank_most x (y ∷ l) = let h = rank_most x l in on (pick_cases (Tx-discrete x y) (suc (length l)) (rank l x)) (λ z. rw z.1 (omega arith))
    (λ z. rw z.1 (omega arith))

pub rank_some : (x : Tx) (l : List Tx) → In x l → 0 < rank l x
rank_some x [] i = absurd i
rank_some x (y ∷ l) i = on (pick_cases (Tx-discrete x y) (suc (length l)) (rank l x)) (λ z. rw z.1 (omega arith))
    (λ z. subst (λ (k : ℕ). 0 < k) (sym z.1) (rank_some x l (on i (λ e. absurd (z.0 e)) (λ j. j))))

-- ---- none stands twice
abbrev pub Distinct : List Tx → Type 0
Distinct [] = Unit {0}
Distinct (y ∷ l) = (In y l → ⊥) × Distinct l

-- places fall along the list
abbrev pub Down : (Tx → ℕ) → List Tx → Type 0
Down r [] = Unit {0}
Down r (y ∷ l) = ((z : Tx) → In z l → r z < r y) × Down r l

down_ext : (r s : Tx → ℕ) (l : List Tx) → ((z : Tx) → In z l → s z ≡ r z) → Down r l → Down s l
down_ext r s [] e d = tt
down_ext r s (y ∷ l) e d = (
  λ z i. let a = e z (inr i) in let b = e y (inl refl) in let c = d.0 z i in omega (arith, a, b, c),
  down_ext r s l (λ z i. e z (inr i)) d.1,
)

pub rank_down : (l : List Tx) → Distinct l → Down (rank l) l
rank_down [] d = tt
rank_down (y ∷ l) d = (
  λ z i. let a = under z i in let b = rank_most z l in let c = rank_top y l in omega (arith, a, b, c),
  down_ext (rank l) (rank (y ∷ l)) l under (rank_down l d.1),
)
  where
    under : (z : Tx) → In z l → rank (y ∷ l) z ≡ rank l z
    under z i = rank_under z y l (λ e. d.0 (subst (λ (x : Tx). In x l) e i))

-- ---- how often one stands
pub times_some : (x : Tx) (l : List Tx) → In x l → times Tx-discrete x l ≡ 0 → ⊥
times_some x [] i e = i
times_some x (y ∷ l) i e = on (pick_cases (Tx-discrete x y) (suc (times Tx-discrete x l)) (times Tx-discrete x l))
    (λ z. let a = z.1 in let c : ⊥ = omega (arith, a, e) in c)
    (λ z. times_some x l (on i (λ q. absurd (z.0 q)) (λ j. j)) (sym z.1 ∙ e))

pub is_in : (x : Tx) (l : List Tx) → (times Tx-discrete x l ≡ 0 → ⊥) → In x l
is_in x [] e = e refl
is_in x (y ∷ l) e = on (pick_cases (Tx-discrete x y) (suc (times Tx-discrete x l)) (times Tx-discrete x l)) (λ z. inl z.0)
    (λ z. inr (is_in x l (λ q. e (z.1 ∙ q))))

-- ---- what is held for an object after the turns of a list, whatever each writer gives it
abbrev pub held : (Tx → ℕ → Mode) → (Tx → ℕ → ℕ) → List Tx → ℕ → ℕ
held m g l t = replay 0 (λ x o a. after (m x o) (g x o) a) l t

-- a place that is held is below every place above
held_below : (m : Tx → ℕ → Mode) (r : Tx → ℕ) (l : List Tx) (t b : ℕ) → 0 < b → ((z : Tx) → In z l → r z < b) → held m (λ x o. r x) l t < b
held_below m r [] t b h f = h
held_below m r (z ∷ l) t b h f = by (m z t) (f z (inl refl)) (held_below m r l t b h (λ y i. f y (inr i)))
  where
    by : (k : Mode) → r z < b → held m (λ x o. r x) l t < b → after k (r z) (held m (λ x o. r x) l t) < b
    by unused p q = q
    by read p q = q
    by write p q = p

-- ---- the committed ones
abbrev pub among : List Tx → List Tx → List Tx
among c l = select (λ x. in? x c) l

module _ (m : Tx → ℕ → Mode) (r : Tx → ℕ) (c : List Tx) (x : Tx) (fresh : In x c → ⊥) (t : ℕ) where
  -- the transaction writes, and it stands above the last writer of the list
  abbrev takes : List Tx → Bool
  takes l = is_writing (m x t) && ltb (held m (λ y o. r y) (among c l) t) (r x)

  not_under : (l : List Tx) → (In x l → ⊥) → among (x ∷ c) l ≡ among c l
  not_under l e = select_ext (λ y. in? y (x ∷ c)) (λ y. in? y c) l
      (λ y i. (λ j. on j (λ q. absurd (e (subst (λ (z : Tx). In z l) q i))) (λ k. k), λ j. inr j))

  pub one_more : (g : Tx → ℕ → ℕ) (l : List Tx) → In x l → Down r l → 0 < r x
      → held m g (among (x ∷ c) l) t ≡ cond (takes l) (g x t) (held m g (among c l) t)
  one_more g [] i d h = absurd i
  one_more g (y ∷ l) i d h = at_front (Tx-discrete x y) (λ j. one_more g l j d.1 h)
    where
      -- the front's turn
      turned : (k : Mode) (a b : ℕ) → ltb b (r x) ≡ true → after k (g x t) a ≡ cond (is_writing k && ltb b (r x)) (g x t) a
      turned unused a b e = refl
      turned read a b e = refl
      turned write a b e = simp e

      -- another at the front: it hides what is below, or does nothing
      hidden : (k : Mode) (a' a b : ℕ) → r x < r y → a' ≡ cond (is_writing (m x t) && ltb b (r x)) (g x t) a
          → after k (g y t) a' ≡ cond (is_writing (m x t) && ltb (after k (r y) b) (r x)) (g x t) (after k (g y t) a)
      hidden unused a' a b p e = e
      hidden read a' a b p e = e
      hidden write a' a b p e = simp (le-ltb (r y) (r x) (omega arith)) (sym (never (is_writing (m x t))))
        where
          never : (w : Bool) → cond (w && false) (g x t) (g y t) ≡ g y t
          never true = refl
          never false = refl

      at_front : Dec (x ≡ y) → (In x l → held m g (among (x ∷ c) l) t ≡ cond (takes l) (g x t) (held m g (among c l) t))
          → held m g (among (x ∷ c) (y ∷ l)) t ≡ cond (takes (y ∷ l)) (g x t) (held m g (among c (y ∷ l)) t)
      at_front (yes e) below =
          let out : In x l → ⊥ = λ j. let z = d.0 x j in let q = ap r e in let n : ⊥ = omega (arith, z, q) in n in
          let new : among (x ∷ c) (y ∷ l) ≡ y ∷ among c l = on (select_cases (λ z. in? z (x ∷ c)) y l) (λ z. z.1 ∙ ap (λ k. y ∷ k) (not_under l out))
          (λ z. absurd (z.0 (inl (sym e)))) in
          let old : among c (y ∷ l) ≡ among c l = on (select_cases (λ z. in? z c) y l) (λ z. absurd (fresh (subst (λ (z : Tx). In z c) (sym e) z.0)))
          (λ z. z.1) in
          let low : held m (λ y o. r y) (among c l) t < r x = held_below m r (among c l) t (r x) h
          (λ z j. let p = d.0 z (in_select (λ z. in? z c) l z j).0 in let q = ap r e in omega (arith, p, q)) in
          ap (λ k. held m g k t) new
          ∙ subst (λ (z : Tx). after (m z t) (g z t) (held m g (among c l) t) ≡ cond (takes l) (g x t) (held m g (among c l) t)) e
          (turned (m x t) (held m g (among c l) t) (held m (λ y o. r y) (among c l) t) (lt-ltb _ _ low))
          ∙ ap (λ k. cond (is_writing (m x t) && ltb (held m (λ y o. r y) k t) (r x)) (g x t) (held m g k t)) (sym old)
      at_front (no e) below =
          let j : In x l = on i (λ q. absurd (e q)) (λ q. q) in
          let next = below j in
          on (select_cases (λ z. in? z c) y l)
          (λ z. let new : among (x ∷ c) (y ∷ l) ≡ y ∷ among (x ∷ c) l = on (select_cases (λ z. in? z (x ∷ c)) y l) (λ u. u.1)
          (λ u. absurd (u.0 (inr z.0))) in
          ap (λ k. held m g k t) new
          ∙ hidden (m y t) (held m g (among (x ∷ c) l) t) (held m g (among c l) t) (held m (λ y o. r y) (among c l) t) (d.0 x j) next
          ∙ ap (λ k. cond (is_writing (m x t) && ltb (held m (λ y o. r y) k t) (r x)) (g x t) (held m g k t)) (sym z.1))
          (λ z. let new : among (x ∷ c) (y ∷ l) ≡ among (x ∷ c) l = on (select_cases (λ z. in? z (x ∷ c)) y l)
          (λ u. absurd (on u.0 (λ q. e (sym q)) z.0)) (λ u. u.1) in
          ap (λ k. held m g k t) new ∙ next
          ∙ ap (λ k. cond (is_writing (m x t) && ltb (held m (λ y o. r y) k t) (r x)) (g x t) (held m g k t)) (sym z.1))

-- ---- a list with some left out
abbrev pub Thin : (Tx → Type 0) → List Tx → List Tx → Type 0
Thin out [] p = p ≡ []
Thin out (y ∷ l) p = (out y × Thin out l p) ⊎ ((q : List Tx) × (p ≡ (y ∷ q)) × Thin out l q)

pub thin_more : (out out' : Tx → Type 0) → ((y : Tx) → out y → out' y) → (l p : List Tx) → Thin out l p → Thin out' l p
thin_more out out' f [] p e = e
thin_more out out' f (y ∷ l) p (inl z) = inl (f y z.0, thin_more out out' f l p z.1)
thin_more out out' f (y ∷ l) p (inr z) = inr (z.0, z.1, thin_more out out' f l z.0 z.2)

pub thin_in : (out : Tx → Type 0) (x : Tx) (l p : List Tx) → Thin out l p → In x p → In x l
thin_in out x [] p e i = subst (In x) e i
thin_in out x (y ∷ l) p (inl z) i = inr (thin_in out x l p z.1 i)
thin_in out x (y ∷ l) p (inr z) i = on (subst (In x) z.1 i) (λ q. inl q) (λ j. inr (thin_in out x l z.0 z.2 j))

pub in_thin : (out : Tx → Type 0) (x : Tx) → (out x → ⊥) → (l p : List Tx) → Thin out l p → In x l → In x p
in_thin out x n [] p e i = absurd i
in_thin out x n (y ∷ l) p (inl z) i = on i (λ q. absurd (n (subst out (sym q) z.0))) (λ j. in_thin out x n l p z.1 j)
in_thin out x n (y ∷ l) p (inr z) i = subst (In x) (sym z.1) (on i (λ q. inl q) (λ j. inr (in_thin out x n l z.0 z.2 j)))

-- those left out are not committed: the committed ones of both are the same
pub thin_among : (out : Tx → Type 0) (c : List Tx) → ((y : Tx) → out y → In y c → ⊥) → (l p : List Tx) → Thin out l p → among c l ≡ among c p
thin_among out c n [] p e = ap (among c) (sym e)
thin_among out c n (y ∷ l) p (inl z) =
    on (select_cases (λ z. in? z c) y l) (λ u. absurd (n y z.0 u.0)) (λ u. u.1) ∙ thin_among out c n l p z.1
thin_among out c n (y ∷ l) p (inr z) =
    on (select_cases (λ z. in? z c) y l)
    (λ u. on (select_cases (λ z. in? z c) y z.0) (λ v. u.1 ∙ ap (λ k. y ∷ k) (thin_among out c n l z.0 z.2) ∙ sym v.1)
    (λ v. absurd (v.0 u.0)))
    (λ u. on (select_cases (λ z. in? z c) y z.0) (λ v. absurd (u.0 v.0)) (λ v. u.1 ∙ thin_among out c n l z.0 z.2 ∙ sym v.1))
    ∙ ap (among c) (sym z.1)
