-- Sound settings, part by part; what begins and what is loaded leaves them sound.
use mathlib.Core.Path.{◌≡◌, refl, sym, ap, subst, ◌∙◌}
use mathlib.Core.Logic.{◌⊎◌, inl, inr, ⊎_elim}
use mathlib.Core.Bool.{Bool, true, false, cond, not, ◌&&◌, ◌||◌}
use mathlib.Core.List.{List, ◌∷◌, ◌++◌}
use Prim.Native.Nat.{ℕ, ◌+◌, ◌≤◌, ◌<◌}
use native.Mathlib.Omega.{arith}
use lib.Dec.{eqb, ltb}
use lib.ListN.{length, get_or, take, length-append, length-replicate, get_or-replicate, get_or-eq_default}
use lib.Seq.{take_at, drop_at, take_all, ext_get_or}
use borrow.Author.Tests.{eq-eqb, eqb-true, ltb-false, le-ltb}
use Rattle.numbers.proofs.Laws.{lower_none}
use Rattle.parts.specs.Parts.{part, splice, padded}
use Rattle.parts.proofs.Laws.{length_part, get_d_part, part_ext, length_splice, get_d_splice, part_splice, length_padded, padded_at}
use Rattle.hours.specs.Hours.{table_number}
use Rattle.hours.specs.Kept.{kept_size, stored, kept_number}
use Rattle.hours.proofs.Theorems.{length_stored, loaded_sound, blank_sound}
use Rattle.classes.specs.Classes.{most_classes, length_number, no_table, sound}
use Rattle.classes.specs.Classes.{table_number as classNumber}
use Rattle.classes.proofs.Table.{accepted_bounded, table_fits}
use Rattle.classes.proofs.Theorems.{stored_sound}
use Rattle.coordinator.specs.declared.Coordinator.{Coordinator}
use Rattle.settings.specs.Settings.{settings_size, hours_in, classes_in, batch_kind, kind_in, adds, waited_in, left_in, blank_settings, decided_committed}
use Rattle.settings.specs.Settings.{tenths, settled_as, no_tenths, below10, unsound, settings_number, loaded, classed}

clash : false ≡ true → ⊥
clash e = subst (λ (x : Bool). cond x ⊥ (Unit {0})) e tt

-- ---- sound settings
pub record Sound (s : List ℕ) : Type 0 where
  pub long : length s ≡ settings_size
  pub hours : kept_number (hours_in s) ≡ 0
  pub classes : sound (classes_in s) ≡ true
  pub kind : kind_in s ≤ batch_kind
  pub waited : below10 (waited_in s) ≡ true
  pub left : below10 (left_in s) ≡ true

pub sound_parts : (s : List ℕ) → settings_number s ≡ 0 → Sound s
unfolding settings_number unsound
sound_parts s =
    by (eqb (length s) settings_size) (eqb (kept_number (hours_in s)) 0) (sound (classes_in s)) (ltb batch_kind (kind_in s)) (below10 (waited_in s))
    (below10 (left_in s))
    refl refl refl refl refl refl
  where
    by : (a b c d e f : Bool) → eqb (length s) settings_size ≡ a → eqb (kept_number (hours_in s)) 0 ≡ b → sound (classes_in s) ≡ c → ltb batch_kind (kind_in s)
        ≡ d
        → below10 (waited_in s) ≡ e → below10 (left_in s) ≡ f
        → ◌≡◌ {A = ℕ} (cond (not a) 1 (cond (not b || (not c || (d || not (e && f)))) 2 0)) 0 → Sound s
    by true true true false true true p q r t u v z =
        record {
          long = eqb-true (length s) settings_size p;
          hours = eqb-true (kept_number (hours_in s)) 0 q;
          classes = r;
          kind = ltb-false batch_kind (kind_in s) t;
          waited = u;
          left = v;
        }
    by true true true false true false p q r t u v z = absurd (let y : ⊥ = omega (arith, z) in y)
    by true true true false false f p q r t u v z = absurd (let y : ⊥ = omega (arith, z) in y)
    by true true true true e f p q r t u v z = absurd (let y : ⊥ = omega (arith, z) in y)
    by true true false d e f p q r t u v z = absurd (let y : ⊥ = omega (arith, z) in y)
    by true false c d e f p q r t u v z = absurd (let y : ⊥ = omega (arith, z) in y)
    by false b c d e f p q r t u v z = absurd (let y : ⊥ = omega (arith, z) in y)

pub sound_number : (s : List ℕ) → Sound s → settings_number s ≡ 0
unfolding settings_number unsound
sound_number s z =
    simp (
      eq-eqb (length s) settings_size z.long,
      eq-eqb (kept_number (hours_in s)) 0 z.hours,
      z.classes,
      le-ltb batch_kind (kind_in s)
          z.kind,
      z.waited,
      z.left,
    )

-- ---- a part beside a spliced one, and a part of it
pub part_apart : (n b m a : ℕ) (x l : List ℕ) → length x ≡ m → a + m ≤ length l → b + n ≤ length l → (b + n ≤ a) ⊎ (a + m ≤ b)
    → part n b (splice m a x l) ≡ part n b l
part_apart n b m a x l e h u o =
    let s = length_splice m a x l e h in
    part_ext n b b (splice m a x l) l (omega arith) u
    (λ j p. get_d_splice m a x l e h (b + j) (⊎_elim (λ s. inl (omega arith)) (λ s. inr (omega arith)) o))

pub splice_at : (m a : ℕ) (x l : List ℕ) → length x ≡ m → a + m ≤ length l → (j : ℕ) → j < m → get_or (splice m a x l) (a + j) 0 ≡ get_or x j 0
splice_at m a x l e h j k =
    sym (get_d_part m a (splice m a x l) j k) ∙ ap (λ (y : List ℕ). get_or y j 0) (part_splice m a x l e h)

pub part_within : (n b m a : ℕ) (x l : List ℕ) → length x ≡ m → a + m ≤ length l → b + n ≤ m → part n (a + b) (splice m a x l) ≡ part n b x
part_within n b m a x l e h u =
    let s = length_splice m a x l e h in
    part_ext n (a + b) b (splice m a x l) x (omega arith) (omega arith)
    (λ j p. let k : a + b + j ≡ a + (b + j) = omega arith in
    ap (λ (i : ℕ). get_or (splice m a x l) i 0) k ∙ splice_at m a x l e h (b + j) (omega arith))

-- ---- the tenths that wait
pub tenths_is : (c : Coordinator) (s : List ℕ) → (tenths c s ≡ left_in s) ⊎ (tenths c s ≡ waited_in s)
unfolding tenths
tenths_is c s = by (adds s && decided_committed c) refl
  where
    by : (b : Bool) → (adds s && decided_committed c) ≡ b → (tenths c s ≡ left_in s) ⊎ (tenths c s ≡ waited_in s)
    by true e = inl (simp e)
    by false e = inr (simp e)

module _ (c : Coordinator) (s : List ℕ) (long : length s ≡ settings_size) where
  pub tenths_long : length (tenths c s) ≡ most_classes
  tenths_long = ⊎_elim
      (λ e. ap length e ∙ length_part most_classes 220 s (omega (arith, long)))
      (λ e. ap length e ∙ length_part most_classes 212 s (omega (arith, long)))
      (tenths_is c s)

  -- ---- settled: hours and classes stay
  module _ (kind : ℕ) (l : List ℕ) (size : length l ≡ most_classes) where
    abbrev x : List ℕ
    x = kind ∷ (tenths c s ++ l)

    x_long : length x ≡ 17
    x_long = let t = tenths_long in let a = length-append (tenths c s) l in omega (arith, t, a, size)

    room : 211 + 17 ≤ length s
    room = omega (arith, long)

    pub settled_long : length (settled_as kind l c s) ≡ settings_size
    unfolding settled_as
    settled_long = length_splice 17 211 x s x_long room ∙ long

    pub settled_hours : hours_in (settled_as kind l c s) ≡ hours_in s
    unfolding settled_as
    settled_hours = part_apart kept_size 0 17 211 x s x_long room (omega (arith, long)) (inl (omega arith))

    pub settled_classes : classes_in (settled_as kind l c s) ≡ classes_in s
    unfolding settled_as
    settled_classes = part_apart 24 187 17 211 x s x_long room (omega (arith, long)) (inl (omega arith))

    pub settled_kind : kind_in (settled_as kind l c s) ≡ kind
    unfolding settled_as
    settled_kind = splice_at 17 211 x s x_long room 0 (omega arith)

    pub settled_waited : waited_in (settled_as kind l c s) ≡ tenths c s
    unfolding settled_as part
    settled_waited = part_within most_classes 1 17 211 x s x_long room (omega arith) ∙ take_at (tenths c s) l most_classes tenths_long

    pub settled_left : left_in (settled_as kind l c s) ≡ l
    unfolding settled_as part
    settled_left = part_within most_classes 9 17 211 x s x_long room (omega arith)
        ∙ ap (take most_classes) (drop_at (tenths c s) l most_classes tenths_long) ∙ take_all most_classes l (omega (arith, size))

pub settled_sound : (c : Coordinator) (s : List ℕ) → Sound s → (kind : ℕ) → kind ≤ batch_kind → (l : List ℕ) → length l ≡ most_classes
    → below10 l ≡ true → Sound (settled_as kind l c s)
settled_sound c s z kind h l size fine = record {
  long = settled_long c s z.long kind l size;
  hours = ap kept_number (settled_hours c s z.long kind l size) ∙ z.hours;
  classes = ap sound (settled_classes c s z.long kind l size) ∙ z.classes;
  kind = subst (λ (k : ℕ). k ≤ batch_kind) (sym (settled_kind c s z.long kind l size)) h;
  waited = ap below10 (settled_waited c s z.long kind l size) ∙ ⊎_elim (λ e. ap below10 e ∙ z.left) (λ e. ap below10 e ∙ z.waited) (tenths_is c s);
  left = ap below10 (settled_left c s z.long kind l size) ∙ fine;
}

-- ---- hours loaded
pub hours_sound : (s list : List ℕ) → Sound s → table_number list ≡ 0 → Sound (loaded s list)
hours_sound s list z t =
    let n = length_stored list in
    let h : 0 + kept_size ≤ length s = omega (arith, z.long) in
    let long = length_splice kept_size 0 (stored list) s n h in record {
      long = long ∙ z.long;
      hours = ap kept_number (part_splice kept_size 0 (stored list) s n h) ∙ loaded_sound list t;
      classes = ap sound (part_apart 24 187 kept_size 0 (stored list) s n h (omega (arith, z.long)) (inr (omega arith))) ∙ z.classes;
      kind = subst (λ (k : ℕ). k ≤ batch_kind) (sym (get_d_splice kept_size 0 (stored list) s n h 211 (inr (omega arith)))) z.kind;
      waited = ap below10 (part_apart most_classes 212 kept_size 0 (stored list) s n h (omega (arith, z.long)) (inr (omega arith))) ∙ z.waited;
      left = ap below10 (part_apart most_classes 220 kept_size 0 (stored list) s n h (omega (arith, z.long)) (inr (omega arith))) ∙ z.left;
    }

-- ---- classes loaded
module _ (s list : List ℕ) (z : Sound s) (e : length_number list ≡ 0) (t : classNumber false list ≡ 0) where
  abbrev y : List ℕ
  y = padded 41 list

  y_long : length y ≡ 41
  y_long = length_padded 41 list

  fits : 187 + 41 ≤ length s
  fits = omega (arith, z.long)

  short : length list ≤ 24
  short = table_fits list e (accepted_bounded false list t)

  -- behind the table there are zeros
  zero_at : (j : ℕ) → j < 41 → 24 ≤ j → get_or y j 0 ≡ 0
  zero_at j h k = let n = short in padded_at 41 list j h ∙ get_or-eq_default list 0 {n = j} (omega (arith, n, k))

  zeros_behind : (b : ℕ) → 24 ≤ b → b + most_classes ≤ 41 → part most_classes b y ≡ no_tenths
  zeros_behind b h k =
      let n = y_long in
      let p = length_part most_classes b y (omega (arith, n, k)) in
      ext_get_or 0 (part most_classes b y) no_tenths (p ∙ sym (length-replicate {A = ℕ} most_classes 0))
      (λ j i. let u : j < most_classes = omega (arith, p, i) in
      get_d_part most_classes b y j u ∙ zero_at (b + j) (omega (arith, u, k)) (omega (arith, h)) ∙ sym (get_or-replicate {A = ℕ} most_classes j 0 0 u))

  table_is : part 24 0 y ≡ padded 24 list
  table_is =
      let n = y_long in
      let p = length_part 24 0 y (omega (arith, n)) in
      ext_get_or 0 (part 24 0 y) (padded 24 list) (p ∙ sym (length_padded 24 list))
      (λ j i. let u : j < 24 = omega (arith, p, i) in
      let z : 0 + j ≡ j = omega arith in
      get_d_part 24 0 y j u ∙ ap (λ (k : ℕ). get_or y k 0) z ∙ padded_at 41 list j (omega (arith, u)) ∙ sym (padded_at 24 list j u))

  pub classed_sound : Sound (classed s list)
  classed_sound = record {
    long = length_splice 41 187 y s y_long fits ∙ z.long;
    hours = ap kept_number (part_apart kept_size 0 41 187 y s y_long fits (omega (arith, z.long)) (inl (omega arith))) ∙ z.hours;
    classes = ap sound (part_within 24 0 41 187 y s y_long fits (omega arith) ∙ table_is) ∙ stored_sound list e t;
    kind = subst (λ (k : ℕ). k ≤ batch_kind) (sym (splice_at 41 187 y s y_long fits 24 (omega arith) ∙ zero_at 24 (omega arith) (omega arith))) (omega arith);
    waited = ap below10 (part_within most_classes 25 41 187 y s y_long fits (omega arith) ∙ zeros_behind 25 (omega arith) (omega arith));
    left = ap below10 (part_within most_classes 33 41 187 y s y_long fits (omega arith) ∙ zeros_behind 33 (omega arith) (omega arith));
  }

-- ---- blank settings
pub blank_number_lem : settings_number blank_settings ≡ 0
unfolding settings_number unsound sound no_table part
blank_number_lem = simp blank_sound

-- what settings that nothing refuses have
pub ruleset loads = (lower_none, sound_parts)
