-- What a delivery that nothing refuses has: a valid image, a message that is well formed and in turn. And the cases of its step.
use mathlib.Core.Path.{◌≡◌, refl, sym, subst, ◌∙◌}
use mathlib.Core.Bool.{Bool, true, false, cond, not, ◌||◌}
use mathlib.Core.Logic.{◌⊎◌, inl, inr}
use mathlib.Core.List.{List}
use Prim.Native.Nat.{ℕ, zero, suc, ◌≤◌, ◌<◌}
use native.Mathlib.Omega.{arith}
use borrow.Author.Tests.{ltb-true, leb-true, eqb-true}
use lib.Dec.{eqb, ltb}
use lib.ListN.{length}
use Rattle.numbers.specs.Sizes.{nodes, longest_message}
use Rattle.octets.proofs.Laws.{Bytes}
use Rattle.wire.specs.Message.{Message}
use Rattle.wire.specs.Formed.{word_of, well_formed}
use Rattle.wire.specs.Encode.{Fits}
use Rattle.wire.specs.Decode.{decode, check_of}
use Rattle.wire.proofs.Theorems.{decoded_fits}
use Rattle.image.specs.Layout.{shape, image_size, serial, state}
use Rattle.image.specs.Valid.{check, check_as, valid}
use Rattle.image.proofs.Sound.{Sound, check_sound}
use Rattle.judge.specs.Standing.{above_of, standing, active}
use Rattle.replica.specs.Steps.{fetch_image, ask_image, outcome_image}
use Rattle.replica.specs.Given.{Clear}
use Rattle.replica.specs.Receive.{outcome_wrong_turn, wrong_turn, refusals, refusal, Delivered, step}
use Rattle.replica.proofs.Spoken.{false_true, named_of}
use Rattle.replica.proofs.Delivered.{cleared, past, or_neither}

pub record Taken (l : List ℕ) (m : Message) : Type 0 where
  pub sound : Sound l
  pub owner : m.owner < nodes
  pub serial : 1 ≤ m.serial
  pub stamp : 1 ≤ m.stamp
  pub fits : Fits m
  pub formed : well_formed m ≡ true
  pub turn : wrong_turn l m ≡ false

neither_number : (a b : Bool) → eqb (cond a 1 (cond b 2 0)) 1 ≡ false → eqb (cond a 1 (cond b 2 0)) 2 ≡ false
    → ◌≡◌ {A = ℕ} (cond a 1 (cond b 2 0)) 0
neither_number true b p q = false_true (sym p)
neither_number false true p q = false_true (sym q)
neither_number false false p q = refl

whole_image : (l : List ℕ) → eqb (check l) 1 ≡ false → eqb (check l) 2 ≡ false → check l ≡ 0
unfolding check_as
whole_image l p q = neither_number (not (eqb (length l) (image_size shape))) (not (valid shape l)) p q

clear : (size : ℕ) (l : List ℕ) (me : ℕ) (b : List ℕ) → refusal size l me b ≡ 0 → (check l ≡ 0) × (wrong_turn l (decode b) ≡ false)
unfolding refusal refusals
clear size l me b e =
    let lengths = eqb (check l) 1 || eqb (check_of b) 1 in
    let a = past (ltb size longest_message || lengths) 0 _ e in
    let d = past (eqb (check l) 2) 1 _ a.1 in
    let g = past (eqb (check_of b) 3) 2 _ d.1 in
    let s = past (ltb 12 me || not (eqb (decode b).to me)) 3 _ g.1 in
    let t = past (wrong_turn l (decode b)) 4 _ s.1 in
    let n = or_neither (ltb size longest_message) lengths a.0 in
    (whole_image l (or_neither (eqb (check l) 1) (eqb (check_of b) 1) n.1).0 d.0, t.0)

pub clear_is : (size : ℕ) (l : List ℕ) (me : ℕ) (b : List ℕ) → refusal size l me b ≡ 0 → Clear l (decode b)
clear_is size l me b e =
    let k = cleared size l me b e in
    let n = named_of me (decode b) k.node k.formed in
    ((clear size l me b e).0, ltb-true (decode b).owner nodes n.owner, leb-true 1 (decode b).serial n.serial)

-- the refusals of `receive` are passed
pub taken : (size : ℕ) (l : List ℕ) (me : ℕ) (b : List ℕ) → Bytes b → refusal size l me b ≡ 0 → Taken l (decode b)
taken size l me b y e =
    let k = cleared size l me b e in
    let c = clear size l me b e in
    let n = named_of me (decode b) k.node k.formed in
    record {
      sound = check_sound l c.0;
      owner = ltb-true (decode b).owner nodes n.owner;
      serial = leb-true 1 (decode b).serial n.serial;
      stamp = leb-true 1 (decode b).stamp n.stamp;
      fits = decoded_fits b y;
      formed = k.formed;
      turn = c.1;
    }

-- ---- the cases of a step
picked : (P : List ℕ → Type 0) (x y z : Bool) (f a c d : Delivered) → (x ≡ true → P f.image) → (y ≡ true → P a.image)
    → (z ≡ true → P c.image) → (x ≡ false → y ≡ false → z ≡ false → P d.image) → P (cond x f (cond y a (cond z c d))).image
picked P true y z f a c d p q r w = p refl
picked P false true z f a c d p q r w = q refl
picked P false false true f a c d p q r w = r refl
picked P false false false f a c d p q r w = w refl refl refl

other_kind : (l : List ℕ) (m : Message) → eqb m.kind 1 ≡ false → eqb m.kind 3 ≡ false → eqb m.kind 5 ≡ false → wrong_turn l m ≡ true
unfolding wrong_turn
other_kind l m p q r = simp (p, q, r)

pub by_kind : (P : List ℕ → Type 0) (l : List ℕ) (me : ℕ) (m : Message) → Taken l m → (m.kind ≡ 1 → P (fetch_image l m))
    → (m.kind ≡ 3 → P (ask_image l m)) → (m.kind ≡ 5 → P (outcome_image l m)) → P (step l me m).image
unfolding step
by_kind P l me m k f a c =
    picked P (eqb m.kind 1) (eqb m.kind 3) (eqb m.kind 5) _ _ _ _ (λ e. f (eqb-true m.kind 1 e)) (λ e. a (eqb-true m.kind 3 e))
    (λ e. c (eqb-true m.kind 5 e)) (λ p q r. false_true (sym k.turn ∙ other_kind l m p q r))

-- fetches and asks that are not active change nothing
pub fetch_still : (l : List ℕ) (m : Message) → active l m ≡ false → fetch_image l m ≡ l
unfolding fetch_image
fetch_still l m e = simp e

pub ask_still : (l : List ℕ) (m : Message) → active l m ≡ false → ask_image l m ≡ l
unfolding ask_image
ask_still l m e = simp e

-- an outcome in turn is late, early in state 0, or of the transaction that is here
standing_by : (a b : Bool) (st : ℕ) → st ≤ 3 → cond a (above_of st) (cond b st 0) ≤ 5
unfolding above_of
standing_by true b st h = by (eqb st 0)
  where
    by : (t : Bool) → cond t 4 5 ≤ 5
    by true = omega arith
    by false = omega arith
standing_by false true st h = omega arith
standing_by false false st h = omega arith

standing_most : (l : List ℕ) (m : Message) → state l m.owner ≤ 3 → standing l m ≤ 5
unfolding standing
standing_most l m h = standing_by (ltb (serial l m.owner) m.serial) (eqb (serial l m.owner) m.serial) (state l m.owner) h

not_ahead : (word s : ℕ) → outcome_wrong_turn word s ≡ false → s ≡ 5 → ⊥
unfolding outcome_wrong_turn
not_ahead word s e q = by (eqb word 1) (subst (λ (k : ℕ). outcome_wrong_turn word k ≡ false) q e)
  where
    by : (b : Bool) → cond b (not (eqb 5 0 || eqb 5 2)) (eqb 5 5) ≡ false → ⊥
    by true f = false_true (sym f)
    by false f = false_true (sym f)

abbrev Late+Early+Here : ℕ → Type 0
Late+Early+Here s = (s ≡ 0) ⊎ ((s ≡ 4) ⊎ ((1 ≤ s) × (s ≤ 3)))

number_cases : (s : ℕ) → s ≤ 5 → (s ≡ 5 → ⊥) → Late+Early+Here s
number_cases zero h n = inl refl
number_cases (suc zero) h n = inr (inr (omega arith, omega arith))
number_cases (suc (suc zero)) h n = inr (inr (omega arith, omega arith))
number_cases (suc (suc (suc zero))) h n = inr (inr (omega arith, omega arith))
number_cases (suc (suc (suc (suc zero)))) h n = inr (inl refl)
number_cases (suc (suc (suc (suc (suc zero))))) h n = absurd (n refl)
number_cases (suc (suc (suc (suc (suc (suc s)))))) h n = absurd (let z : ⊥ = omega arith in z)

pub turn_outcome : (l : List ℕ) (m : Message) → m.kind ≡ 5 → wrong_turn l m ≡ false → outcome_wrong_turn (word_of m) (standing l m) ≡ false
unfolding wrong_turn standing
turn_outcome l m e w = rw e at w

pub outcome_cases : (l : List ℕ) (m : Message) → Taken l m → m.kind ≡ 5
    → (standing l m ≡ 0) ⊎ ((standing l m ≡ 4) ⊎ ((1 ≤ standing l m) × (standing l m ≤ 3)))
outcome_cases l m k e =
    number_cases (standing l m) (standing_most l m (k.sound.clauses.owners_sound m.owner k.owner).small)
    (not_ahead (word_of m) (standing l m) (turn_outcome l m e k.turn))
