-- What the code finds and puts, in the words of the definitions.
use mathlib.Core.Path.{◌≡◌, refl, sym, ap, ap₂, ◌∙◌}
use mathlib.Core.Bool.{Bool, true, false, cond, not, ◌&&◌, ◌||◌}
use mathlib.Core.List.{List, [], ◌∷◌, ◌++◌, append_assoc}
use Prim.Native.Nat.{ℕ, ◌+◌}
use native.Mathlib.Omega.{arith}
use lib.Dec.{eqb, ltb}
use lib.ListN.{length, take, drop, set, length-append}
use lib.Seq.{sets, sets-eq, drop-drop}
use borrow.Author.Tests.{eq-eqb, ne_eqb}
use Rattle.numbers.specs.Refusal.{lower}
use Rattle.numbers.proofs.Laws.{lower_none}
use Rattle.parts.specs.Parts.{splice}
use Rattle.parts.proofs.Laws.{length_part}
use Rattle.hours.specs.Hours.{table_number}
use Rattle.hours.specs.Kept.{kept_size, kept_number}
use Rattle.hours.specs.Kept.{load_number as hoursNumber, load_after as hoursAfter}
use Rattle.classes.specs.Classes.{most_classes, sound}
use Rattle.coordinator.specs.declared.Coordinator.{Coordinator}
use Rattle.record.specs.declared.Called.{Called}
use Rattle.record.specs.Call.{called}
use Rattle.settings.specs.Settings.{settings_size, hours_in, classes_in, kind_in, adds, waited_in, left_in, decided_committed, tenths, below10, unsound}
use Rattle.settings.specs.Settings.{with_hours, settings_number, load_number, load_after, kind_of}
use Rattle.settings.proofs.Sound.{sound_parts}

-- ---- damaged settings
pub unsound_is : (s : List ℕ) (h g : ℕ) (k a b t z e r : Bool) → h ≡ kept_number (hours_in s) → k ≡ sound (classes_in s) → a ≡ below10 (waited_in s)
    → b ≡ below10 (left_in s) → t ≡ (a && b) → g ≡ kind_in s → z ≡ (ltb 1 g || not t) → e ≡ (not k || z) → r ≡ (not (eqb h 0) || e) → r ≡ unsound s
unfolding unsound
unsound_is s h g k a b t z e r p q u v w x y i j =
    j ∙ ap₂ (λ (m : ℕ) (n : Bool). not (eqb m 0) || n) p (i ∙ ap₂ (λ (m n : Bool). not m || n) q
    (y ∙ ap₂ (λ (m : ℕ) (n : Bool). ltb 1 m || not n) x (w ∙ ap₂ (λ (m n : Bool). m && n) u v)))

-- ---- their number
pub number_short : (s : List ℕ) → (length s ≡ settings_size → ⊥) → 1 ≡ settings_number s
unfolding settings_number
number_short s h = sym (simp (ne_eqb (length s) settings_size h))

pub number_long : (s : List ℕ) (u : Bool) (r : ℕ) → length s ≡ settings_size → u ≡ unsound s → r ≡ cond u 2 0 → r ≡ settings_number s
unfolding settings_number
number_long s u r h e f = f ∙ ap (λ (b : Bool). cond b 2 0) e ∙ sym (simp (eq-eqb (length s) settings_size h))

-- ---- their kind
pub kind_refused : (s : List ℕ) (k : ℕ) (r : Called) → k ≡ settings_number s → (k ≡ 0 → ⊥) → r ≡ called k 0 → r ≡ kind_of s
unfolding kind_of
kind_refused s k r e h f = f ∙ ap (λ (n : ℕ). called n 0) e ∙ sym (simp (ne_eqb (settings_number s) 0 (λ z. h (e ∙ z))))

pub kind_told : (s : List ℕ) (k a : ℕ) (r : Called) → k ≡ settings_number s → k ≡ 0 → a ≡ kind_in s → r ≡ called 0 a → r ≡ kind_of s
unfolding kind_of
kind_told s k a r e z p f = f ∙ ap (called 0) p ∙ sym (simp (eq-eqb (settings_number s) 0 (sym e ∙ z)))

-- ---- the tenths
module _ (c : Coordinator) (s : List ℕ) (a d : Bool) (p : a ≡ adds s) (q : d ≡ decided_committed c) where
  tests : (t : Bool) → t ≡ (a && d) → t ≡ (adds s && decided_committed c)
  tests t e = e ∙ ap₂ (λ (m n : Bool). m && n) p q

  pub tenths_left : (t : Bool) → t ≡ (a && d) → t ≡ true → left_in s ≡ tenths c s
  unfolding tenths
  tenths_left t e f = sym (simp (sym (tests t e) ∙ f))

  pub tenths_waited : (t : Bool) → t ≡ (a && d) → t ≡ false → waited_in s ≡ tenths c s
  unfolding tenths
  tenths_waited t e f = sym (simp (sym (tests t e) ∙ f))

-- as the code tests it
pub decided_is : (c : Coordinator) (o p : ℕ) (e d : Bool) → o ≡ c.outcome → p ≡ c.phase → e ≡ (eqb p 0 || eqb p 3) → d ≡ (eqb o 1 && e)
    → d ≡ decided_committed c
decided_is c o p e d u v w x = x ∙ ap₂ (λ (m : ℕ) (n : Bool). eqb m 1 && n) u (w ∙ ap (λ (m : ℕ). eqb m 0 || eqb m 3) v)

-- ---- kind and tenths put
sets_more : (a b l : List ℕ) (i j : ℕ) → j ≡ i + length a → sets (sets l i a) j b ≡ sets l i (a ++ b)
sets_more [] b l i j e = ap (λ (k : ℕ). sets l k b) (let z : i + 0 ≡ i = omega arith in e ∙ z)
sets_more (v ∷ a) b l i j e = sets_more a b (set l i v) _ j (omega (arith, e))

pub settled : (s w l : List ℕ) (k : ℕ) → length s ≡ settings_size → length w ≡ most_classes → length l ≡ most_classes
    → sets (sets (set s 211 k) 212 w) 220 l ≡ splice 17 211 (k ∷ (w ++ l)) s
unfolding splice
settled s w l k e p q =
    let n : length (w ++ l) ≡ 16 = length-append w l ∙ omega (arith, p, q) in
    let m : length (k ∷ (w ++ l)) ≡ 17 = omega (arith, n) in
    sets_more w l (set s 211 k) 212 220 (omega (arith, p))
    ∙ sets-eq (k ∷ (w ++ l)) s 211 (omega (arith, m, e)) ∙ append_assoc (take 211 s) (k ∷ (w ++ l)) (drop (211 + length (k ∷ (w ++ l))) s)
    ∙ ap (λ (d : List ℕ). take 211 s ++ ((k ∷ (w ++ l)) ++ d)) (ap (λ (i : ℕ). drop (211 + i) s) m ∙ sym (drop-drop 17 211 s))

-- ---- a table of hours in place of the one before
pub load_refused : (s l : List ℕ) (k : ℕ) → k ≡ lower (settings_number s) (table_number l) → (k ≡ 0 → ⊥) → (k ≡ load_number s l) × (s ≡ load_after s l)
unfolding load_number load_after
load_refused s l k e h = simp (ne_eqb (lower (settings_number s) (table_number l)) 0 (λ z. h (e ∙ z))) (e, refl)

pub load_taken : (s l : List ℕ) → lower (settings_number s) (table_number l) ≡ 0
    → (hoursNumber (hours_in s) l ≡ load_number s l) × (with_hours s (hoursAfter (hours_in s) l) ≡ load_after s l)
unfolding load_number load_after lower hoursNumber hoursAfter
load_taken s l z =
    let y = lower_none (settings_number s) (table_number l) z in
    let n = (sound_parts s y.0).long in
    let p = length_part kept_size 0 s (omega (arith, n)) in
    simp (eq-eqb (length (hours_in s)) kept_size p, y.0, y.1) (refl, refl)
