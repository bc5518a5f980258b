-- Five buffers that hold a service hold, after any step, the service after the step; and the caller is told the step's own number and answer. The machine's
-- part is crate holding's; what is new are the front ends.
use mathlib.Core.Path.{◌≡◌, refl, sym, ap, subst, subst₂, ◌∙◌}
use mathlib.Core.Bool.{Bool, true, false}
use mathlib.Core.Logic.{⊎_elim}
use mathlib.Core.List.{List}
use Prim.Native.Nat.{ℕ, ◌<◌}
use native.Mathlib.Omega.{arith}
use lib.Dec.{eqb, ltb}
use borrow.Author.Tests.{eq-eqb, eqb-true, lt-ltb, ltb-true}
use Rattle.numbers.specs.Sizes.{nodes}
use Rattle.numbers.specs.Refusal.{lower}
use Rattle.hours.specs.Hours.{table_number}
use Rattle.coordinator.specs.declared.Coordinator.{Coordinator}
use Rattle.coordinator.specs.System.{tree}
use Rattle.clauses.proofs.Facts.{Meets}
use Rattle.clauses.proofs.Fits.{Fits}
use Rattle.record.specs.Record.{bytes_of}
use Rattle.increments.specs.Deeds.{ran}
use Rattle.steps.specs.Station.{Station, put_at, with_record}
use Rattle.steps.specs.Step.{Call as Step, step as step_of}
use Rattle.steps.proofs.Nodes.{node_on}
use Rattle.history.specs.Claims.{Typed as StepTyped}
use Rattle.buffers.specs.Buffers.{Buffers, all, station_of, answer_with, on_of, with_record_at}
use Rattle.buffers.specs.Buffers.{Whole as StationWhole}
use Rattle.holding.specs.Left.{told_of as stepTold, left_of as stepLeft}
use Rattle.holding.proofs.Kept.{own_is, host_first_lem, record_kept}
use Rattle.holding.proofs.After.{Proper}
use Rattle.settings.specs.Settings.{settings_number, loaded}
use Rattle.frontend.specs.Plan.{Plan, refused_plan, off_number, list_number}
use Rattle.frontend.specs.Plan.{Call as Front}
use Rattle.settings.proofs.Sound.{Sound, sound_parts, sound_number, hours_sound}
use Rattle.frontend.proofs.Plans.{plan_sound, list_refuses}
use Rattle.service.specs.Service.{Service, Call, front, load_hours, plain, is_front, plan_at, is_on, made, number_of, answer_of, settings_of}
use Rattle.service.specs.Service.{load_number, Outcome, step}
use Rattle.service.proofs.Laws.{put_here, put_same, after_at}
use Rattle.service_calls.specs.Lent.{Lent, service_of, settings_at, with_settings_at, settings_in, settings_first, Whole, told, front_first, front_told}
use Rattle.service_calls.specs.Lent.{front_records, front_settings, load_first, load_told, load_settings}
use Rattle.accounts.specs.Accounts.{Typed}
use Rattle.runs.specs.Left.{told_of, left_of}
use Rattle.runs.proofs.Settings.{settings_first_lem, put_long, put_at_lem, put_in}

-- buffers hold a service
abbrev pub Kept : Lent → Service → Type 0
Kept b v = Whole b × (service_of b ≡ v)

-- what a step of the machine leaves of whole buffers, and tells
pub record Stepped (B : Buffers) (m : Step) : Type 0 where
  pub whole : StationWhole (stepLeft B m)
  pub station : station_of (stepLeft B m) ≡ (step_of (station_of B) m).station
  pub number : (stepTold B m).number ≡ (step_of (station_of B) m).number
  pub answer : (stepTold B m).answer ≡ (step_of (station_of B) m).answer

-- what a step of the service does
pub record Goes (b : Lent) (c : Call) : Type 0 where
  pub kept : Kept (left_of b c) (step (service_of b) c).service
  pub told : told_of b c ≡ answer_with (step (service_of b) c).number (step (service_of b) c).answer

told_zero : (f : ℕ) (o : Outcome) → f ≡ 0 → told f o ≡ answer_with o.number o.answer
unfolding told
told_zero f o e = simp (eq-eqb f 0 e)

module _ (b : Lent) (w : Whole b) where
  abbrev B : Buffers
  B = b.station

  abbrev S : List ℕ
  S = b.settings

  abbrev v : Service
  v = service_of b

  first_zero : (n : ℕ) → settings_first S n ≡ 0
  first_zero = settings_first_lem S w.settings_long w.settings_fine

  -- ---- one node's settings changed, with buffers of a station that are whole
  module _ (C : Buffers) (st : Station) (k : StationWhole C) (e : station_of C ≡ st) (n : ℕ) (small : n < nodes) (s : List ℕ) (z : Sound s) where
    put_kept : Kept (record { station = C; settings = with_settings_at S n s }) (record { machine = st; settings = put_at v.settings n s })
    put_kept = (
      record {
        station = k;
        settings_long = put_long S w.settings_long n s small z.long;
        settings_fine = λ i h. ⊎_elim
            (λ y. ap settings_number y.1 ∙ sound_number s z)
            (λ y. ap settings_number y.1 ∙ w.settings_fine i h)
            (put_at_lem S w.settings_long n s small z.long i h);
      },
      λ j. record { machine = e j; settings = λ i. put_in S w.settings_long n s small z.long i j },
    )

  its_own : (n : ℕ) → n < nodes → v.settings n ≡ settings_at S n
  unfolding settings_in
  its_own n small = simp (lt-ltb n nodes small)

  its_sound : (n : ℕ) → n < nodes → Sound (v.settings n)
  its_sound n small = sound_parts (v.settings n) (ap settings_number (its_own n small) ∙ w.settings_fine n small)

  -- ---- a front end's call
  module _ (n : ℕ) (a : Front) where
    abbrev o : Outcome
    o = step v (front n a)

    first_list : front_first b n a ≡ list_number a
    unfolding front_first lower
    first_list = simp (host_first_lem B.images B.records B.pool B.own w.station n, first_zero n)

    -- a list of another length is what the plan refuses first, too
    module _ (t : eqb (list_number a) 0 ≡ false) where
      refused : plan_at v n a ≡ refused_plan (list_number a) (v.settings n)
      refused = (list_refuses tree (v.machine.records n) (v.settings n) n a t).0

      refused_number : o.number ≡ list_number a
      unfolding number_of
      refused_number = go (is_on v n) refl
        where
          go : (x : Bool) → is_on v n ≡ x → number_of v (front n a) ≡ list_number a
          go true x = simp x (ap (λ (p : Plan). p.number) refused)
          go false x = simp x (ap (λ (p : Plan). off_number a p.number) refused ∙ (list_refuses tree (v.machine.records n) (v.settings n) n a t).1)

      refused_answer : o.answer ≡ 0
      unfolding answer_of
      refused_answer = go (is_on v n) refl
        where
          go : (x : Bool) → is_on v n ≡ x → answer_of v (front n a) ≡ 0
          go true x = simp x (ap (λ (p : Plan). p.answer) refused)
          go false x = simp x

      refused_service : v ≡ o.service
      unfolding made settings_of
      refused_service = go (is_on v n) refl
        where
          go : (x : Bool) → is_on v n ≡ x → v ≡ o.service
          go true x = simp (x, refused) (λ i. record { machine = v.machine; settings = put_same v.settings n i })
          go false x = simp x

    front_told_lem : front_told b n a ≡ answer_with o.number o.answer
    unfolding told
    front_told_lem = go (eqb (list_number a) 0) refl
      where
        go : (t : Bool) → eqb (list_number a) 0 ≡ t → front_told b n a ≡ answer_with o.number o.answer
        go true t = told_zero (front_first b n a) o (first_list ∙ eqb-true (list_number a) 0 t)
        go false t =
            let p : front_told b n a ≡ answer_with (list_number a) 0 = simp (first_list, t) in
            p ∙ (λ i. answer_with (sym (refused_number t) i) (sym (refused_answer t) i))

    abbrev with : List ℕ → List ℕ → Lent
    with R s = record { station = all B.images R B.pool B.own; settings = s }

    -- at a node that is on: its record and its settings
    on_left : is_on v n ≡ true → Proper o.service.machine
        → Kept (with (with_record_at B.records n (bytes_of (o.service.machine.records n))) (with_settings_at S n (o.service.settings n))) o.service
    unfolding made settings_of
    on_left on z =
        let small = node_on (on_of B.own) n (own_is B.images B.records B.pool B.own w.station).mask on in
        let ds = (plan_at v n a).deeds in
        let c = ran tree (v.machine.records n) n ds in
        let m : o.service.machine ≡ with_record v.machine n c = simp on (after_at v.machine n ds on) in
        let i : o.service.machine.records n ≡ c = ap (λ (st : Station). st.records n) m ∙ put_here v.machine.records n c in
        let f : o.service.settings ≡ put_at v.settings n (plan_at v n a).settings = simp on in
        let j : o.service.settings n ≡ (plan_at v n a).settings = ap (λ (g : ℕ → List ℕ). g n) f ∙ put_here v.settings n _ in
        let y = subst Proper m z in
        let h : put_at v.machine.records n c n ≡ c = put_here v.machine.records n c in
        let k = record_kept B.images B.records B.pool B.own w.station n c small (subst (Meets tree) h (y.meets n)) (subst Fits h
        (y.fits n)) in
        let q = sound_parts _ (plan_sound tree (v.machine.records n) (v.settings n) n a (sound_number _ (its_sound n small))) in
        let r = put_kept (all B.images (with_record_at B.records n (bytes_of c)) B.pool B.own) (with_record v.machine n c) k.0 k.1 n small
        (plan_at v n a).settings q in
        subst₂ (λ (l : Coordinator) (s : List ℕ). Kept (with (with_record_at B.records n (bytes_of l)) (with_settings_at S n s)) o.service) (sym i) (sym j)
        (subst (Kept (with (with_record_at B.records n (bytes_of c)) (with_settings_at S n (plan_at v n a).settings)))
        (λ x. record { machine = sym m x; settings = sym f x }) r)

    off_same : is_on v n ≡ false → v ≡ o.service
    unfolding made settings_of
    off_same x = simp x

    front_left : Proper o.service.machine → Kept (with (front_records b n a) (front_settings b n a)) o.service
    unfolding front_records front_settings
    front_left z = go (eqb (list_number a) 0) (is_on v n) refl refl
      where
        go : (t x : Bool) → eqb (list_number a) 0 ≡ t → is_on v n ≡ x → Kept (with (front_records b n a) (front_settings b n a)) o.service
        go true true t x = simp (first_list, t, x) (on_left x z)
        go true false t x = simp (first_list, t, x) (w, off_same x)
        go false x t y = simp (first_list, t) (w, refused_service t)

    front_goes : Proper o.service.machine → Goes b (front n a)
    unfolding left_of told_of
    front_goes z = record { kept = front_left z; told = front_told_lem }

  -- ---- a load
  load_first_lem : (n : ℕ) (list : List ℕ) → load_first b n list ≡ table_number list
  unfolding load_first lower
  load_first_lem n list = simp (w.station.own_fine, first_zero n)

  module _ (n : ℕ) (list : List ℕ) where
    abbrev s : List ℕ
    s = loaded (v.settings n) list

    abbrev u : Outcome
    u = step v (load_hours n list)

    abbrev having : List ℕ → Lent
    having l = record { station = B; settings = l }

    -- a faulty table is refused first
    faulty_number : eqb (table_number list) 0 ≡ false → load_number v n list ≡ table_number list
    unfolding load_number
    faulty_number t = simp t

    load_told_lem : load_told b n list ≡ answer_with u.number u.answer
    unfolding told number_of answer_of
    load_told_lem = go (eqb (table_number list) 0) refl
      where
        go : (t : Bool) → eqb (table_number list) 0 ≡ t → load_told b n list ≡ answer_with u.number u.answer
        go true t = told_zero (load_first b n list) u (load_first_lem n list ∙ eqb-true (table_number list) 0 t)
        go false t = simp (load_first_lem n list, t) (ap (λ (k : ℕ). answer_with k 0) (sym (faulty_number t)))

    -- refused: the settings stay
    load_refused : eqb (load_number v n list) 0 ≡ false → (S ≡ load_settings b n list) × (v ≡ u.service)
    unfolding load_settings number_of settings_of made
    load_refused t = go (eqb (load_first b n list) 0) refl
      where
        go : (f : Bool) → eqb (load_first b n list) 0 ≡ f → (S ≡ load_settings b n list) × (v ≡ u.service)
        go true f = simp (f, t) (refl, refl)
        go false f = simp (f, t) (refl, refl)

    -- taken: the table is accepted, the node is one, and its settings have the table
    module _ (t : eqb (load_number v n list) 0 ≡ true) where
      none : load_number v n list ≡ 0
      none = eqb-true (load_number v n list) 0 t

      table_fine : table_number list ≡ 0
      table_fine = go (eqb (table_number list) 0) refl
        where
          go : (f : Bool) → eqb (table_number list) 0 ≡ f → table_number list ≡ 0
          go true f = eqb-true (table_number list) 0 f
          go false f = sym (faulty_number f) ∙ none

      small : n < nodes
      unfolding load_number
      small = go (ltb n nodes) refl
        where
          go : (f : Bool) → ltb n nodes ≡ f → n < nodes
          go true f = ltb-true n nodes f
          go false f = absurd (let z : ◌≡◌ {A = ℕ} 4 0 = sym (simp (table_fine, f)) ∙ none in omega (arith, z))

      load_taken : load_settings b n list ≡ with_settings_at S n s
      unfolding load_settings number_of settings_of put_at
      load_taken = simp (load_first_lem n list, table_fine, t, eq-eqb n n refl)

      service_is : u.service ≡ record { machine = v.machine; settings = put_at v.settings n s }
      unfolding settings_of made
      service_is = simp t

    load_left : Kept (having (load_settings b n list)) u.service
    load_left = go (eqb (load_number v n list) 0) refl
      where
        go : (t : Bool) → eqb (load_number v n list) 0 ≡ t → Kept (having (load_settings b n list)) u.service
        go true t = subst₂ (λ (l : List ℕ) (u : Service). Kept (having l) u) (sym (load_taken t)) (sym (service_is t))
            (put_kept B v.machine w.station refl n (small t) s (hours_sound (v.settings n) list (its_sound n (small t)) (table_fine t)))
        go false t = let z = load_refused t in subst₂ (λ (l : List ℕ) (u : Service). Kept (having l) u) z.0 z.1 (w, refl)

    load_goes : Goes b (load_hours n list)
    unfolding left_of told_of
    load_goes = record { kept = load_left; told = load_told_lem }

  -- ---- a step of the machine
  plain_goes : (c : Step) (p : is_front c ≡ false) → Stepped B c → Goes b (plain c p)
  unfolding left_of told_of number_of answer_of made settings_of
  plain_goes c p s = record {
    kept = (
      record { station = s.whole; settings_long = w.settings_long; settings_fine = w.settings_fine },
      λ i. record { machine = s.station i; settings = v.settings },
    );
    told = λ i. answer_with (s.number i) (s.answer i);
  }

  -- any step
  pub goes : ((m : Step) → StepTyped m → Stepped B m) → (c : Call) → Typed c → Proper (step v c).service.machine → Goes b c
  goes f (front n a) t z = front_goes n a z
  goes f (load_hours n list) t z = load_goes n list
  goes f (plain c p) t z = plain_goes c p (f c t)
