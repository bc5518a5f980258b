-- A changed function has the new value at the place of the change and the old one elsewhere: one lemma of cases for each way of changing.
use Rattle.std.specs.Prelude.{◌≡◌, refl, ◌⊎◌, Bool, true, ℕ}
use Rattle.std.proofs.Common.{◌∙◌, inl, inr}
use Rattle.std.proofs.Math.Decide.{ℕ_discrete}
use Rattle.protocol.specs.Table.{pick, both, put, put2, put_row}

-- The cases of a sum, the sum first.
pub on : {A B C : Type 0} → A ⊎ B → (A → C) → (B → C) → C
on (inl a) f g = f a
on (inr b) f g = g b

-- A value was changed: where P holds it is the new one, elsewhere the old one.
abbrev pub Changed : {X : Type 0} → Type 0 → X → X → X → Type 0
Changed P now new old = (P × (now ≡ new)) ⊎ ((P → ⊥) × (now ≡ old))

-- Two values were, at the same places.
abbrev pub Changed2 : {X Y : Type 0} → Type 0 → X → X → X → Y → Y → Y → Type 0
Changed2 P now new old now' new' old' = (P × (now ≡ new) × (now' ≡ new')) ⊎ ((P → ⊥) × (now ≡ old) × (now' ≡ old'))

pub pick_cases : {P X : Type 0} (d : Dec P) (a b : X) → Changed P (pick d a b) a b
unfolding pick
pick_cases (yes p) a b = inl (p, refl)
pick_cases (no p) a b = inr (p, refl)

pub pick_both : {P X Y : Type 0} (d : Dec P) (a b : X) (c e : Y) → Changed2 P (pick d a b) a b (pick d c e) c e
unfolding pick
pick_both (yes p) a b c e = inl (p, refl, refl)
pick_both (no p) a b c e = inr (p, refl, refl)

module _ {A X : Type 0} (d : Discrete A) (f : A → X) (k : A) (v : X) where
  pub put_cases : (i : A) → Changed (i ≡ k) (put d f k v i) v (f i)
  unfolding put
  put_cases i = pick_cases (d i k) v (f i)

  pub put_here : put d f k v k ≡ v
  put_here = on (put_cases k) (λ z. z.1) (λ z. absurd (z.0 refl))

module _ {A B X : Type 0} (d : Discrete A) (e : Discrete B) (f : A → B → X) (r : A) (k : B) (v : X) where
  pub put2_cases : (i : A) (j : B) → Changed ((i ≡ r) × (j ≡ k)) (put2 d e f r k v i j) v (f i j)
  unfolding put2
  put2_cases i j = pick_cases (both (d i r) (e j k)) v (f i j)

  pub put2_here : put2 d e f r k v r k ≡ v
  put2_here = on (put2_cases r k) (λ z. z.1) (λ z. absurd (z.0 (refl, refl)))

-- A mark stays when one is put.
pub mark_stays : {A B : Type 0} (d : Discrete A) (e : Discrete B) (f : A → B → Bool) (r : A) (k : B) (i : A) (j : B)
    → f i j ≡ true → put2 d e f r k true i j ≡ true
mark_stays d e f r k i j v = on (put2_cases d e f r k true i j) (λ z. z.1) (λ z. z.1 ∙ v)

-- Two tables changed at one place.
pub put2_both : {A B X Y : Type 0} (d : Discrete A) (e : Discrete B) (f : A → B → X) (g : A → B → Y) (r : A) (k : B) (v : X) (w : Y) (i : A) (j : B)
    → Changed2 ((i ≡ r) × (j ≡ k)) (put2 d e f r k v i j) v (f i j) (put2 d e g r k w i j) w (g i j)
unfolding put2
put2_both d e f g r k v w i j = pick_both (both (d i r) (e j k)) v (f i j) w (g i j)

module _ {X : Type 0} {P : ℕ → Type 0} (d : (j : ℕ) → Dec (P j)) (f : ℕ → ℕ → X) (r : ℕ) (v : ℕ → X) where
  pub put_row_cases : (i j : ℕ) → Changed ((i ≡ r) × P j) (put_row d f r v i j) (v j) (f i j)
  unfolding put_row
  put_row_cases i j = pick_cases (both (ℕ_discrete i r) (d j)) (v j) (f i j)

  pub put_row_both : {Y : Type 0} (g : ℕ → ℕ → Y) (w : ℕ → Y) (i j : ℕ)
      → Changed2 ((i ≡ r) × P j) (put_row d f r v i j) (v j) (f i j) (put_row d g r w i j) (w j) (g i j)
  unfolding put_row
  put_row_both g w i j = pick_both (both (ℕ_discrete i r) (d j)) (v j) (f i j) (w j) (g i j)
