-- Settings stay sound after every list of steps, and the machine's steps that a typed list makes are typed: amounts and sums are of 64 bits.
use mathlib.Core.Path.{◌≡◌, refl, sym, ap, subst, ◌∙◌}
use mathlib.Core.Bool.{Bool, true, false, cond, not}
use mathlib.Core.List.{List, [], ◌∷◌, ◌++◌}
use Prim.Native.Nat.{ℕ, zero, suc, ◌≤◌, ◌<◌, ◌^◌}
use native.Mathlib.Omega.{arith}
use lib.Dec.{eqb, ltb, leb}
use lib.ListN.{length, get_or, get_or-eq_default}
use borrow.Author.Tests.{eqb-true, ltb-true, ltb-false, leb-true}
use Rattle.replica.proofs.Delivered.{either_way}
use Rattle.hours.specs.Hours.{table_number}
use Rattle.classes.specs.Classes.{most_classes, tallies}
use Rattle.classes.specs.Weights.{overweight, grams_of}
use Rattle.classes.proofs.Theorems.{grams_small, length_grams, grams_at}
use Rattle.wire.specs.Formed.{every}
use Rattle.clauses.proofs.Parts.{by_test, on_cond}
use Rattle.coordinator.specs.declared.Object.{Object}
use Rattle.coordinator.specs.declared.Coordinator.{Coordinator}
use Rattle.coordinator.specs.System.{System}
use Rattle.coordinator.specs.Calls.{begin_of}
use Rattle.increments.specs.Sums.{sum64}
use Rattle.increments.proofs.Sums.{sum_small}
use Rattle.increments.proofs.Deeds.{AllFit}
use Rattle.increments.specs.Deeds.{Edit, reads, writes, values, Deed, begins, edits, Amount, amounts, adding, in_use, summing}
use Rattle.steps.specs.Station.{system}
use Rattle.steps.specs.Step.{Call as Step}
use Rattle.settings.specs.Settings.{settings_size, classes_in, tenths, below10, settings_number, loaded}
use Rattle.settings.proofs.Sound.{Sound, sound_parts, sound_number, tenths_is, tenths_long, hours_sound}
use Rattle.frontend.proofs.Plans.{plan_sound}
use Rattle.frontend.specs.Plan.{begin, batch, edit, request, load_classes, Plan, booked, plan}
use Rattle.frontend.specs.Plan.{Call as Front}
use Rattle.history.specs.Claims.{AllTyped as AllStepsTyped}
use Rattle.protocol.proofs.Tables.{on}
use Rattle.history.proofs.Tests.{and-true}
use Rattle.history.proofs.Carry.{put_all}
use Rattle.service.specs.Service.{Service, Call, front, load_hours, plain, is_on, plan_at, steps_at, load_number, made, settings_of}
use Rattle.accounts.specs.Accounts.{Origin, Rested, FrontTyped, Typed, AllTyped, reached, expand}
use Rattle.accounts.proofs.Plans.{begin_cases, batch_cases, edit_cases, load_cases, request_cases}
use Rattle.accounts.proofs.Facts.{batch_none}

-- ---- the amounts of a batch
pub every_at : (f : ℕ → Bool) (l : List ℕ) → every f l ≡ true → (i : ℕ) → i < length l → f (get_or l i 0) ≡ true
every_at f [] e i h = absurd (let z : ⊥ = omega (arith, h) in z)
every_at f (x ∷ l) e zero h = (and-true (f x) (every f l) e).0
every_at f (x ∷ l) e (suc i) h = every_at f l (and-true (f x) (every f l) e).1 i (omega (arith, h))

-- the tenths that wait are below 10
pub tenth_small : (c : Coordinator) (s : List ℕ) → Sound s → (i : ℕ) → i < most_classes → get_or (tenths c s) i 0 ≤ 9
tenth_small c s z i h =
    let n = tenths_long c s z.long in
    let e : below10 (tenths c s) ≡ true = on (tenths_is c s) (λ q. ap below10 q ∙ z.left) (λ q. ap below10 q ∙ z.waited) in
    leb-true (get_or (tenths c s) i 0) 9 (every_at (λ (t : ℕ). leb t 9) (tenths c s) e i (omega (arith, n, h)))

amounts_fit : (ts gs : List ℕ) → ((i : ℕ) → get_or gs i 0 < 2 ^ 64) → AllFit (amounts ts gs)
unfolding amounts
amounts_fit [] gs h = tt
amounts_fit (t ∷ ts) [] h = (omega arith, amounts_fit ts [] h)
amounts_fit (t ∷ ts) (g ∷ gs) h = (h 0, amounts_fit ts gs (λ i. h (suc i)))

grams_fit : (c : Coordinator) (s list : List ℕ) → settings_number s ≡ 0 → overweight list ≡ false → AllFit (booked c s list)
grams_fit c s list e o =
    let k = classes_in s in
    let w = tenths c s in
    amounts_fit (tallies k) (grams_of k w list) (λ i. by_test (get_or (grams_of k w list) i 0 < 2 ^ 64) (ltb i most_classes)
    (λ p. let h = ltb-true i most_classes p in
    let t = tenth_small c s (sound_parts s e) i h in
    let z = grams_small k w list i o (omega (arith, t)) in
    subst (λ (x : ℕ). x < 2 ^ 64) (sym (grams_at k w list i h)) (omega (arith, z)))
    (λ p. let h = ltb-false i most_classes p in
    let n = length_grams k w list in
    subst (λ (x : ℕ). x < 2 ^ 64) (sym (get_or-eq_default (grams_of k w list) 0 {n = i} (omega (arith, n, h)))) (omega arith)))

load_none : (v : Service) (n : ℕ) (list : List ℕ) → load_number v n list ≡ 0 → table_number list ≡ 0
unfolding load_number
load_none v n list = by (eqb (table_number list) 0) refl _
  where
    by : (b : Bool) → eqb (table_number list) 0 ≡ b → (k : ℕ) → cond (not b) (table_number list) k ≡ 0 → table_number list ≡ 0
    by true e k q = eqb-true (table_number list) 0 e
    by false e k q = q

-- ---- typed deeds
module _ (n : ℕ) where
  abbrev DeedsTyped : List Deed → Type 0
  DeedsTyped ds = AllStepsTyped (steps_at n ds)

  adding_typed : (l : List Amount) (ds : List Deed) → AllFit l → DeedsTyped ds → DeedsTyped (adding l ds)
  unfolding adding
  adding_typed [] ds h t = t
  adding_typed (a ∷ l) ds h t = adding_typed l (edits (values a.object a.grams) ∷ edits (writes a.object) ∷ ds) h.1 (h.0, (tt, t))

  summing_typed : (l : List Object) (ds : List Deed) → DeedsTyped ds → DeedsTyped (summing l ds)
  unfolding summing
  summing_typed [] ds t = t
  summing_typed (x ∷ l) ds t = summing_typed l (edits (values x.object (sum64 x.value x.new)) ∷ ds) (sum_small x.value x.new, t)

  edit_typed : (e : Edit) → FrontTyped n (edit e) → DeedsTyped (edits e ∷ [])
  edit_typed (reads t) h = (tt, tt)
  edit_typed (writes t) h = (tt, tt)
  edit_typed (values t v) h = (h, tt)

typed_append : (k l : List Step) → AllStepsTyped k → AllStepsTyped l → AllStepsTyped (k ++ l)
typed_append [] l a b = b
typed_append (c ∷ k) l a b = (a.0, typed_append k l a.1 b)

-- ---- plans and lists
plan_typed : (y : System) (c : Coordinator) (s : List ℕ) (n : ℕ) (a : Front) → settings_number s ≡ 0 → FrontTyped n a
    → DeedsTyped n (plan y c s n a).deeds
unfolding plan
plan_typed y c s n (begin w day minute) e h = begin_cases (λ (p : Plan). DeedsTyped n p.deeds) y c s n w day minute (λ q. (h, tt)) (λ q. tt)
plan_typed y c s n (batch w day minute list) e h = batch_cases (λ (p : Plan). DeedsTyped n p.deeds) y c s n w day minute list
    (λ q. adding_typed n (booked c s list) (begins w ∷ [])
    (grams_fit c s list e (batch_none s day minute list (begin_of y c n w).number q).0) (h, tt)) (λ q. tt)
plan_typed y c s n (edit d) e h = edit_cases (λ (p : Plan). DeedsTyped n p.deeds) c s n d (λ q. edit_typed n d h) (λ q. tt)
plan_typed y c s n request e h = request_cases (λ (p : Plan). DeedsTyped n p.deeds) y c s n (λ a q f. (tt, tt))
    (λ a q f. (tt, summing_typed n (in_use c) [] tt)) (λ a q. (tt, tt)) (λ q. tt)
plan_typed y c s n (load_classes list) e h = load_cases (λ (p : Plan). DeedsTyped n p.deeds) c s n list (λ q. tt) (λ q. tt)

module _ (o : Origin) (r : Rested o) where
  pub settings_sound : (cs : List Call) (n : ℕ) → settings_number ((reached o cs).settings n) ≡ 0
  unfolding settings_of
  settings_sound [] n = r.settings n
  settings_sound (front m a ∷ cs) n = let v = reached o cs in let f = settings_sound cs in
      either_way (λ (g : ℕ → List ℕ). settings_number (g n) ≡ 0) (is_on v m) _ _
      (put_all (λ (i : ℕ) (s : List ℕ). settings_number s ≡ 0) v.settings m (plan_at v m a).settings
      (plan_sound (system v.machine) (v.machine.records m) (v.settings m) m a (f m)) (λ i e. f i) n)
      (f n)
  settings_sound (load_hours m list ∷ cs) n = let v = reached o cs in let f = settings_sound cs in
      on_cond (λ (g : ℕ → List ℕ). settings_number (g n) ≡ 0) (eqb (load_number v m list) 0) _ _
      (λ e. put_all (λ (i : ℕ) (s : List ℕ). settings_number s ≡ 0) v.settings m (loaded (v.settings m) list)
      (sound_number _ (hours_sound (v.settings m) list (sound_parts (v.settings m) (f m)) (load_none v m list (eqb-true (load_number v m list) 0 e))))
      (λ i e. f i) n)
      (λ e. f n)
  settings_sound (plain c p ∷ cs) n = settings_sound cs n

  pub settings_long : (cs : List Call) (n : ℕ) → length ((reached o cs).settings n) ≡ settings_size
  settings_long cs n = (sound_parts ((reached o cs).settings n) (settings_sound cs n)).long

  made_typed : (cs : List Call) (c : Call) → Typed c → AllStepsTyped (made (reached o cs) c)
  unfolding made
  made_typed cs (front n a) h = let v = reached o cs in
      either_way AllStepsTyped (is_on v n) _ _
      (plan_typed (system v.machine) (v.machine.records n) (v.settings n) n a (settings_sound cs n) h) tt
  made_typed cs (load_hours n list) h = tt
  made_typed cs (plain c p) h = (h, tt)

  pub expand_typed : (cs : List Call) → AllTyped cs → AllStepsTyped (expand o cs)
  expand_typed [] a = tt
  expand_typed (c ∷ cs) a = typed_append (made (reached o cs) c) (expand o cs) (made_typed cs c a.0) (expand_typed cs a.1)
