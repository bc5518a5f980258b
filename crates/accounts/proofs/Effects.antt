-- Replay that adds to the values held is replay that sets them to the machine's new values: each transaction's turn is the same from what replay gives it.
-- For a transaction that adds, the machine's new value is what it found with the amount added (Bookings), and what it found is what replay gives it.
use mathlib.Core.Path.{◌≡◌, refl, sym, ap, ap₂, subst, ◌∙◌}
use mathlib.Core.Logic.{◌≢◌, inl, inr}
use mathlib.Core.Bool.{false}
use mathlib.Core.List.{List, [], ◌∷◌}
use Prim.Native.Nat.{ℕ, suc}
use native.Mathlib.Omega.{arith}
use lib.ListN.{length}
use lib.IntN.{ℤ, ◌+ℤ◌}
use Rattle.octets.specs.Signed.{signed_of}
use Rattle.increments.specs.Sums.{sum64, past}
use Rattle.increments.proofs.Sums.{sum_exact}
use Rattle.protocol.specs.Table.{pick, In, times}
use Rattle.protocol.specs.Rules.{Object, Mode, unused, read, write}
use Rattle.protocol.specs.State.{Tx, Tx-discrete}
use Rattle.protocol.specs.Replay.{replay, given}
use Rattle.protocol.specs.Replay.{after as afterMode}
use Rattle.protocol.proofs.Lists.{in_select}
use Rattle.protocol.proofs.Tables.{on, pick_cases}
use Rattle.settings.specs.Settings.{settings_size}
use Rattle.history.specs.Ledger.{Ledger, in?, fed}
use Rattle.history.specs.Ledger.{given_to as machineGiven, last_value as machineLast, turn as machineTurn}
use Rattle.history.specs.Origin.{Rested as MachineRested}
use Rattle.history.specs.Claims.{Demand3}
use Rattle.history.specs.Claims.{AllTyped as AllStepsTyped}
use Rattle.history.proofs.Claimed.{always_counts}
use Rattle.service.specs.Service.{Call}
use Rattle.accounts.specs.Accounts.{Origin, Effect, sets, adds, effect_on, turn, given_to, last_value, gave_to, reached, expand, told, effects}
use Rattle.accounts.proofs.OnMachine.{plain_account, plain_demand}
use Rattle.accounts.proofs.Bookings.{always_booked}

-- ---- lists in which none stands twice
abbrev Distinct : {X : Type 0} → List X → Type 0
Distinct [] = Unit {0}
Distinct (x ∷ l) = (In x l → ⊥) × Distinct l

module _ {X : Type 0} (d : Discrete X) where
  stands : (x : X) (l : List X) → In x l → times d x l ≡ 0 → ⊥
  stands x [] i e = i
  stands x (y ∷ l) i e = on (pick_cases (d x y) (suc (times d x l)) (times d x l)) (λ z. let q = sym z.1 ∙ e in let w : ⊥ = omega (arith, q) in w)
      (λ z. on i (λ q. z.0 q) (λ j. stands x l j (sym z.1 ∙ e)))

  distinct_of : (l : List X) → ((x : X) → In x l → times d x l ≡ 1) → Distinct l
  distinct_of [] h = tt
  distinct_of (x ∷ l) h = (
    alone,
    distinct_of l (λ y i. on (pick_cases (d y x) (suc (times d y l)) (times d y l))
        (λ z. absurd (alone (subst (λ (w : X). In w l) z.0 i))) (λ z. sym z.1 ∙ h y (inr i))),
  )
    where
      alone : In x l → ⊥
      alone i = on (pick_cases (d x x) (suc (times d x l)) (times d x l))
          (λ z. stands x l i (let q = sym z.1 ∙ h x (inl refl) in omega (arith, q))) (λ z. z.0 refl)

-- ---- replay by another turn
module _ {X A : Type 0} (d : Discrete X) (z : A) (set add : X → Object → A → A) (o : Object) where
  -- the turn of each is the same from what replay by `set` gives it
  abbrev Agrees : List X → Type 0
  Agrees l = (x : X) → In x l → add x o (given d z set x l o) ≡ set x o (given d z set x l o)

  first_given : (x : X) (l : List X) → given d z set x (x ∷ l) o ≡ replay z set l o
  first_given x l = on (pick_cases (d x x) (replay z set l o) (given d z set x l o)) (λ w. w.1) (λ w. absurd (w.0 refl))

  later_given : (x y : X) (l : List X) → x ≢ y → given d z set x (y ∷ l) o ≡ given d z set x l o
  later_given x y l n = on (pick_cases (d x y) (replay z set l o) (given d z set x l o)) (λ w. absurd (n w.0)) (λ w. w.1)

  agrees_before : (x : X) (l : List X) → (In x l → ⊥) → Agrees (x ∷ l) → Agrees l
  agrees_before x l u a y i =
      let n : y ≢ x = λ e. u (subst (λ (w : X). In w l) e i) in
      let e = later_given y x l n in
      ap (add y o) (sym e) ∙ a y (inr i) ∙ ap (set y o) e

  replay_effects : (l : List X) → Distinct l → Agrees l → replay z add l o ≡ replay z set l o
  replay_effects [] u a = refl
  replay_effects (x ∷ l) u a =
      ap (add x o) (replay_effects l u.1 (agrees_before x l u.0 a))
      ∙ ap (add x o) (sym (first_given x l)) ∙ a x (inl refl) ∙ ap (set x o) (first_given x l)

  given_effects : (x : X) (l : List X) → Distinct l → Agrees l → given d z add x l o ≡ given d z set x l o
  given_effects x [] u a = refl
  given_effects x (y ∷ l) u a = let b = agrees_before y l u.0 a in
      ap₂ (pick (d x y)) (replay_effects l u.1 b) (given_effects x l u.1 b)

-- ---- after every list
module _ (o : Origin) (r : MachineRested o.machine) (long : (cs : List Call) (n : ℕ) → length ((reached o cs).settings n) ≡ settings_size)
    (cs : List Call) (a : AllStepsTyped (expand o cs)) where
  abbrev L : Ledger
  L = told o cs

  abbrev E : Tx → Effect
  E = effects o cs

  claims : Demand3 (plain_account o) cs
  claims = plain_demand o r cs a

  -- the machine's new value of a committed transaction that adds
  module _ (x : Tx) (i : In x L.committed) (t : ℕ) (m : L.mode x t ≡ write) (g : ℕ → ℕ) (e : E x ≡ adds g) where
    added : (L.new x t ≡ sum64 (machineGiven L x t) (g t)) × (past (machineGiven L x t) (g t) ≡ false)
    added = on ((always_booked o r long cs a).summed x g e)
        (λ p. absurd (((always_counts o.machine r (expand o cs) a).all_agreed x i).is_asked p))
        (λ f. let z = f t m in let q = claims.serial x t z.value z.when i z.earlier z.finds in
        (z.is_sum ∙ ap (λ (v : ℕ). sum64 v (g t)) q, ap (λ (v : ℕ). past v (g t)) (sym q) ∙ z.in_range))

  -- its effect on what the machine's replay gives it
  effect_same : (x : Tx) → In x L.committed → (t : ℕ) → L.mode x t ≡ write → effect_on (E x) (L.new x t) t (machineGiven L x t) ≡ L.new x t
  effect_same x i t m = by (E x) refl
    where
      by : (f : Effect) → E x ≡ f → effect_on f (L.new x t) t (machineGiven L x t) ≡ L.new x t
      by sets e = refl
      by (adds g) e = sym (added x i t m g e).0

  is_committed_lem : (x : Tx) → In x (fed L) → In x L.committed
  is_committed_lem x i = (in_select (λ y. in? y L.committed) L.log x i).1

  turn_same : (x : Tx) → In x (fed L) → (t : ℕ) → turn L E x t (machineGiven L x t) ≡ machineTurn L x t (machineGiven L x t)
  turn_same x i t = by (L.mode x t) refl
    where
      v : ℕ
      v = machineGiven L x t

      by : (m : Mode) → L.mode x t ≡ m → afterMode m (effect_on (E x) (L.new x t) t v) v ≡ afterMode m (L.new x t) v
      by unused e = refl
      by read e = refl
      by write e = effect_same x (is_committed_lem x i) t e

  once : Distinct (fed L)
  once = distinct_of Tx-discrete (fed L) (λ x i. claims.fed_once x (is_committed_lem x i))

  -- replay is the same
  pub last_same : (t : ℕ) → last_value L E t ≡ machineLast L t
  unfolding last_value machineLast machineGiven
  last_same t = replay_effects Tx-discrete 0 (machineTurn L) (turn L E) t (fed L) once (λ x i. turn_same x i t)

  pub given_same : (x : Tx) (t : ℕ) → given_to L E x t ≡ machineGiven L x t
  unfolding given_to machineGiven
  given_same x t = given_effects Tx-discrete 0 (machineTurn L) (turn L E) t x (fed L) once (λ y i. turn_same y i t)

  pub gave_same : (x : Tx) → In x L.committed → (t : ℕ) → L.mode x t ≡ write → gave_to L E x t ≡ L.new x t
  unfolding gave_to
  gave_same x i t m = ap (effect_on (E x) (L.new x t) t) (given_same x t) ∙ effect_same x i t m

  pub gives_exactly : (x : Tx) (t : ℕ) (g : ℕ → ℕ) → In x L.committed → L.mode x t ≡ write → E x ≡ adds g
      → signed_of (gave_to L E x t) ≡ signed_of (given_to L E x t) +ℤ signed_of (g t)
  gives_exactly x t g i m e =
      let z = added x i t m g e in
      ap signed_of (gave_same x i t m ∙ z.0) ∙ sum_exact (machineGiven L x t) (g t) z.1
      ∙ ap (λ (v : ℕ). signed_of v +ℤ signed_of (g t)) (sym (given_same x t))
