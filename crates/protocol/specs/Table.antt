-- Tools: a function changed at one place, a list's members, a list's ends. Lists of what happened are kept newest first.
use Rattle.std.specs.Prelude.{◌≡◌, ◌⊎◌, List, [], ◌∷◌, ℕ, suc}
use Rattle.std.proofs.Math.Decide.{ℕ_discrete}

-- One of two values, by a decided question.
unfoldable pub pick : {P X : Type 0} → Dec P → X → X → X
pick (yes p) a b = a
pick (no p) a b = b

-- Two questions decided together.
unfoldable pub both : {P Q : Type 0} → Dec P → Dec Q → Dec (P × Q)
both (yes p) (yes q) = yes (p, q)
both (yes p) (no q) = no (λ h. q h.1)
both (no p) d = no (λ h. p h.0)

-- The function f, but v at k.
unfoldable pub put : {A X : Type 0} → Discrete A → (A → X) → A → X → A → X
put d f k v i = pick (d i k) v (f i)

-- The table f, but v in row r and column k.
unfoldable pub put2 : {A B X : Type 0} → Discrete A → Discrete B → (A → B → X) → A → B → X → A → B → X
put2 d e f r k v i j = pick (both (d i r) (e j k)) v (f i j)

-- The table f, but in row r the values v wherever P holds of the column.
unfoldable pub put_row : {X : Type 0} {P : ℕ → Type 0} → ((j : ℕ) → Dec (P j)) → (ℕ → ℕ → X) → ℕ → (ℕ → X) → ℕ → ℕ → X
put_row d f r v i j = pick (both (ℕ_discrete i r) (d j)) (v j) (f i j)

-- a is a member of the list.
abbrev pub In : {A : Type 0} → A → List A → Type 0
In a [] = ⊥
In a (x ∷ l) = (a ≡ x) ⊎ In a l

-- The first list is what the second one was at some earlier time: its end from some place on.
abbrev pub Suffix : {A : Type 0} → List A → List A → Type 0
Suffix l [] = l ≡ []
Suffix l (x ∷ m) = (l ≡ (x ∷ m)) ⊎ Suffix l m

-- a does not stand behind any of its places: it is in the list once at most.
abbrev pub AtMostOnce : {A : Type 0} → A → List A → Type 0
AtMostOnce {A} a l = (m : List A) → Suffix (a ∷ m) l → In a m → ⊥

-- The members of which P holds, in the list's order.
abbrev pub select : {A : Type 0} {P : A → Type 0} → ((a : A) → Dec (P a)) → List A → List A
select d [] = []
select d (x ∷ l) = pick (d x) (x ∷ select d l) (select d l)

-- How often a stands in the list.
abbrev pub times : {A : Type 0} → Discrete A → A → List A → ℕ
times d a [] = 0
times d a (x ∷ l) = pick (d a x) (suc (times d a l)) (times d a l)
