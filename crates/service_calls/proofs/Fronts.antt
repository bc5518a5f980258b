-- A front end's call over the buffers: refused for a length, at what is no node, at a node that is on by the call on its record and settings, and at one
-- that is off by the number on them.
use mathlib.Core.Path.{◌≡◌, refl, sym, ap, ap₂, subst, ◌∙◌}
use mathlib.Core.Bool.{Bool, true, false, cond, not, ◌&&◌, ◌||◌}
use mathlib.Core.Logic.{◌⊎◌, inl, inr}
use mathlib.Core.List.{List, []}
use Prim.Native.Nat.{ℕ, ◌*◌, ◌≤◌, ◌<◌}
use native.Mathlib.Omega.{arith}
use lib.Dec.{T, eqb, ltb}
use lib.ListN.{length}
use borrow.Author.Tests.{eq-eqb, ne_eqb, eqb-true, eqb-false, lt-ltb, le-ltb, ltb-false}
use Rattle.numbers.specs.Sizes.{nodes, every_node}
use Rattle.numbers.specs.Refusal.{lower}
use Rattle.numbers.proofs.Laws.{lower_none}
use Rattle.mask.specs.Mask.{contains}
use Rattle.parts.proofs.Laws.{length_part}
use Rattle.clauses.proofs.Sets.{node_known}
use Rattle.coordinator.specs.declared.Coordinator.{Coordinator}
use Rattle.coordinator.specs.System.{tree}
use Rattle.record.specs.declared.Called.{Called}
use Rattle.record.specs.Record.{record_of, bytes_of, check}
use Rattle.increments.specs.Deeds.{ran}
use Rattle.steps.specs.Station.{Station}
use Rattle.buffers.specs.declared.Answer.{Answer}
use Rattle.buffers.specs.Buffers.{station_of, ends, record_at, with_record_at, record_in, record_damaged, records_size, own_size, on_of, own_damaged, wrong}
use Rattle.buffers.specs.Buffers.{host_first, ends_first, answer_with}
use Rattle.buffers.proofs.First.{ends_next, ends_long}
use Rattle.buffers.proofs.Records.{splice_same, record_same, damaged_two, damaged_is}
use Rattle.settings.specs.Settings.{settings_size, unsound, settings_number}
use Rattle.frontend.specs.Plan.{Plan, plan, off_number, nowhere, list_number, lent_number, first_number, plan_on, off_told}
use Rattle.frontend.specs.Plan.{Call as Front, front_told as toldHere, front_record as recordHere, front_settings as settingsHere}
use Rattle.frontend.proofs.Numbers.{list_one, nowhere_is}
use Rattle.service.specs.Service.{Service, front, is_on, plan_at, number_of, answer_of, made, settings_of, Outcome, step}
use Rattle.service.proofs.Laws.{put_here, after_at}
use Rattle.service_calls.specs.Lent.{Lent, lent, service_of, all_settings, settings_at, with_settings_at, settings_in, settings_first, told}
use Rattle.service_calls.specs.Lent.{front_first, front_told, front_records, front_settings}
use Rattle.service_calls.proofs.Lending.{lower_zero}

-- the lengths and who is on come before the record's clauses and the settings; a list has a length, too
by_tests : (a m r q d : Bool) → (lower (cond a 1 (cond m 2 0)) (cond q 1 0) ≡ 0 → ⊥)
    → lower (cond a 1 (cond m 2 0)) (cond q 1 0) ≡ lower (cond a 1 (cond m 2 (cond r 2 0))) (cond q 1 (cond d 2 0))
unfolding lower
by_tests true m r true d h = refl
by_tests true m r false true h = refl
by_tests true m r false false h = refl
by_tests false true r true d h = refl
by_tests false true r false true h = refl
by_tests false true r false false h = refl
by_tests false false true true d h = refl
by_tests false false false true d h = refl
by_tests false false r false d h = absurd (h refl)

one_first : (a m r q d : Bool) → lower (lower (cond a 1 (cond m 2 (cond r 2 0))) (cond q 1 (cond d 2 0))) 1 ≡ 1
unfolding lower
one_first true m r true d = refl
one_first true m r false true = refl
one_first true m r false false = refl
one_first false true r true d = refl
one_first false true r false true = refl
one_first false true r false false = refl
one_first false false true true d = refl
one_first false false true false true = refl
one_first false false true false false = refl
one_first false false false true d = refl
one_first false false false false true = refl
one_first false false false false false = refl

module _ (R O S : List ℕ) (n : ℕ) (a : Front) where
  abbrev b : Lent
  b = lent [] R [] O S

  abbrev v : Service
  v = service_of b

  abbrev o : Outcome
  o = step v (front n a)

  -- what the call tells and leaves
  pub record Did (r : Answer) (R' S' : List ℕ) : Type 0 where
    pub told : r ≡ front_told b n a
    pub records : R' ≡ front_records b n a
    pub settings : S' ≡ front_settings b n a

  abbrev first : ℕ
  first = front_first b n a

  -- ---- refused, with the buffers left
  stays : (k : ℕ) → (eqb first 0 ≡ false) × (k ≡ first) → Did (answer_with k 0) R S
  unfolding told front_records front_settings
  stays k e = record {
    told = ap (λ (j : ℕ). answer_with j 0) e.1 ∙ sym (simp e.0);
    records = sym (simp e.0);
    settings = sym (simp e.0);
  }

  -- a node that is off, or what is no node
  off_stays : (k : ℕ) → is_on v n ≡ false → k ≡ cond (eqb first 0) (off_number a (plan_at v n a).number) first → Did (answer_with k 0) R S
  unfolding told front_records front_settings number_of answer_of
  off_stays k off e = go (eqb first 0) refl
    where
      go : (x : Bool) → eqb first 0 ≡ x → Did (answer_with k 0) R S
      go true p = let q : k ≡ off_number a (plan_at v n a).number = e ∙ simp p in record {
        told = ap (λ (j : ℕ). answer_with j 0) q ∙ sym (simp (p, off));
        records = sym (simp (p, off));
        settings = sym (simp (p, off));
      }
      go false p = stays k (p, e ∙ simp p)

  -- ---- the lengths
  abbrev lens : ℕ
  lens = lower (lower (ends_first (length R) O) (cond (wrong S all_settings) 1 0)) (list_number a)

  -- what the lengths, who is on, the record and the settings are tested for
  abbrev A : Bool
  A = wrong R records_size || wrong O own_size

  abbrev M : Bool
  M = own_damaged O

  abbrev D : Bool
  D = record_damaged R n

  abbrev Q : Bool
  Q = wrong S all_settings

  abbrev F : Bool
  F = ltb n nodes && not (eqb (settings_number (settings_at S n)) 0)

  pub refused_first : (k : ℕ) → k ≡ lens → (k ≡ 0 → ⊥) → Did (answer_with k 0) R S
  unfolding front_first host_first ends_first settings_first
  refused_first k e h = go (list_one a)
    where
      same : first ≡ k → Did (answer_with k 0) R S
      same f = stays k (ne_eqb first 0 (λ z. h (sym f ∙ z)), sym f)

      go : (list_number a ≡ 0) ⊎ (list_number a ≡ 1) → Did (answer_with k 0) R S
      go (inl z) =
          let x = lower (cond A 1 (cond M 2 0)) (cond Q 1 0) in
          let y = lower (cond A 1 (cond M 2 (cond D 2 0))) (cond Q 1 (cond F 2 0)) in
          let p : k ≡ x = e ∙ ap (lower x) z ∙ lower_zero x in
          same (ap (lower y) z ∙ lower_zero y ∙ sym (by_tests A M D Q F (λ q. h (p ∙ q))) ∙ sym p)
      go (inr z) =
          let x = lower (cond A 1 (cond M 2 0)) (cond Q 1 0) in
          let y = lower (cond A 1 (cond M 2 (cond D 2 0))) (cond Q 1 (cond F 2 0)) in
          same (ap (lower y) z ∙ one_first A M D Q F ∙ sym (e ∙ ap (lower x) z ∙ one_first A M false Q false))

  module _ (z : lens ≡ 0) where
    both_none : lower (ends_first (length R) O) (cond (wrong S all_settings) 1 0) ≡ 0
    both_none = (lower_none _ (list_number a) z).0

    pub list_none : list_number a ≡ 0
    list_none = (lower_none _ (list_number a) z).1

    ends_none : ends_first (length R) O ≡ 0
    ends_none = (lower_none (ends_first (length R) O) _ both_none).0

    pub records_long : length R ≡ records_size
    records_long = ends_long R O n ends_none

    pub settings_long : length S ≡ all_settings
    settings_long = go (eqb (length S) all_settings) refl
      where
        go : (x : Bool) → eqb (length S) all_settings ≡ x → length S ≡ all_settings
        go true e = eqb-true (length S) all_settings e
        go false e = absurd (let y : ◌≡◌ {A = ℕ} 1 0 = sym (simp e) ∙ (lower_none (ends_first (length R) O) _ both_none).1 in omega (arith, y))

    first_is : first ≡ lower (cond (record_damaged R n) 2 0) (settings_first S n)
    unfolding front_first
    first_is = ap (lower (lower (host_first (ends R O) n) (settings_first S n))) list_none ∙ lower_zero _
        ∙ ap (λ (k : ℕ). lower k (settings_first S n)) (ends_next R O n ends_none)

    own_known : on_of O ≤ every_node
    unfolding ends_first
    own_known = go (ltb every_node (on_of O)) (wrong R records_size || wrong O own_size) refl ends_none
      where
        go : (x y : Bool) → ltb every_node (on_of O) ≡ x → ◌≡◌ {A = ℕ} (cond y 1 (cond x 2 0)) 0 → on_of O ≤ every_node
        go true true p q = absurd (let w : ⊥ = omega (arith, q) in w)
        go true false p q = absurd (let w : ⊥ = omega (arith, q) in w)
        go false y p q = ltb-false every_node (on_of O) p

    -- ---- what is no node
    pub no_node : nodes ≤ n → (k : ℕ) → k ≡ nowhere a → Did (answer_with k 0) R S
    unfolding settings_first record_damaged lower
    no_node h k e =
        let f : first ≡ 0 = first_is ∙ simp (le-ltb n nodes h, eq-eqb (length S) all_settings settings_long) in
        off_stays k (go (contains (on_of O) n) refl)
        (e ∙ sym (nowhere_is tree (record_in R n) (settings_in S n) n a h) ∙ sym (simp (eq-eqb first 0 f)))
      where
        go : (x : Bool) → contains (on_of O) n ≡ x → contains (on_of O) n ≡ false
        go false p = p
        go true p = absurd (let w = node_known (on_of O) n own_known (subst T (sym p) tt) in let y : ⊥ = omega (arith, w, h) in y)

    -- ---- a node
    module _ (h : n < nodes) where
      abbrev rec : List ℕ
      rec = record_at R n

      abbrev set : List ℕ
      set = settings_at S n

      record_is : record_in R n ≡ record_of rec
      unfolding record_in
      record_is = simp (lt-ltb n nodes h)

      settings_is : settings_in S n ≡ set
      unfolding settings_in
      settings_is = simp (lt-ltb n nodes h)

      plan_is : plan_at v n a ≡ plan_on rec set n a
      plan_is = ap₂ (λ (c : Coordinator) (s : List ℕ). plan tree c s n a) record_is settings_is

      settings_size_lem : length set ≡ settings_size
      unfolding settings_at
      settings_size_lem = length_part settings_size (settings_size * n) S (let l = settings_long in omega (arith, l, h))

      settings_number_lem : cond (not (eqb (settings_number set) 0)) 2 0 ≡ settings_number set
      unfolding settings_number
      settings_number_lem = go (eqb (length set) settings_size) (unsound set) refl
        where
          go : (x y : Bool) → eqb (length set) settings_size ≡ x
              → ◌≡◌ {A = ℕ} (cond (not (eqb (cond (not x) 1 (cond y 2 0)) 0)) 2 0) (cond (not x) 1 (cond y 2 0))
          go true true p = refl
          go true false p = refl
          go false y p = absurd (eqb-false (length set) settings_size p settings_size_lem)

      record_number : cond (record_damaged R n) 2 0 ≡ check rec
      record_number = go (eqb (check rec) 0) refl
        where
          go : (x : Bool) → eqb (check rec) 0 ≡ x → cond (record_damaged R n) 2 0 ≡ check rec
          go true p = ap (λ (t : Bool). cond t 2 0) (damaged_is R n h true p) ∙ sym (eqb-true (check rec) 0 p)
          go false p = ap (λ (t : Bool). cond t 2 0) (damaged_is R n h false p) ∙ sym (damaged_two R n h records_long (eqb-false (check rec) 0 p))

      first_here : first ≡ first_number rec set a
      unfolding first_number lent_number settings_first
      first_here =
          let q : settings_first S n ≡ settings_number set = simp (eq-eqb (length S) all_settings settings_long, lt-ltb n nodes h) settings_number_lem in
          first_is ∙ ap₂ lower record_number q ∙ sym (ap (lower (lower (check rec) (settings_number set))) list_none ∙ lower_zero _)

      pub off_node : contains (on_of O) n ≡ false → (k : ℕ) → k ≡ off_told rec set n a → Did (answer_with k 0) R S
      unfolding off_told
      off_node off k e =
          off_stays k off (e ∙ ap₂ (λ (f : ℕ) (p : Plan). cond (eqb f 0) (off_number a p.number) f) (sym first_here) (sym plan_is))

      -- what the step leaves of the node's record and settings
      record_after_lem : contains (on_of O) n ≡ true → o.service.machine.records n ≡ ran tree (record_of rec) n (plan_on rec set n a).deeds
      unfolding made
      record_after_lem on =
          let st = station_of (ends R O) in
          simp on (ap (λ (s : Station). s.records n) (after_at st n (plan_at v n a).deeds on) ∙ put_here (record_in R) n _
          ∙ ap₂ (λ (c : Coordinator) (p : Plan). ran tree c n p.deeds) record_is plan_is)

      settings_after : contains (on_of O) n ≡ true → o.service.settings n ≡ (plan_on rec set n a).settings
      unfolding settings_of
      settings_after on = simp on (put_here (settings_in S) n (plan_at v n a).settings ∙ ap (λ (p : Plan). p.settings) plan_is)

      pub on_node : contains (on_of O) n ≡ true → (r : Called) → r ≡ toldHere rec set n a
          → Did (answer_with r.number r.answer) (with_record_at R n (recordHere rec set n a)) (with_settings_at S n (settingsHere rec set n a))
      unfolding told toldHere recordHere settingsHere front_records front_settings number_of answer_of with_settings_at settings_at
      on_node on r e = go (eqb first 0) refl
        where
          go : (x : Bool) → eqb first 0 ≡ x
              → Did (answer_with r.number r.answer) (with_record_at R n (recordHere rec set n a)) (with_settings_at S n (settingsHere rec set n a))
          go true p =
              let q : eqb (first_number rec set a) 0 ≡ true = ap (λ (k : ℕ). eqb k 0) (sym first_here) ∙ p in
              let t : r ≡ record { number = (plan_on rec set n a).number; answer = (plan_on rec set n a).answer } = e ∙ simp q in
              record {
                told = ap (λ (k : Called). answer_with k.number k.answer) t
                    ∙ ap (λ (k : Plan). answer_with k.number k.answer) (sym plan_is) ∙ sym (simp (p, on));
                records = simp q (ap (λ (c : Coordinator). with_record_at R n (bytes_of c)) (sym (record_after_lem on)) ∙ sym (simp (p, on)));
                settings = simp q (ap (with_settings_at S n) (sym (settings_after on)) ∙ sym (simp (p, on)));
              }
          go false p =
              let q : eqb (first_number rec set a) 0 ≡ false = ap (λ (k : ℕ). eqb k 0) (sym first_here) ∙ p in
              let t : r ≡ record { number = first_number rec set a; answer = 0 } = e ∙ simp q in
              record {
                told = ap (λ (k : Called). answer_with k.number k.answer) t ∙ ap (λ (k : ℕ). answer_with k 0) (sym first_here) ∙ sym (simp p);
                records = simp q (record_same R n ∙ sym (simp p));
                settings = simp q (splice_same settings_size (settings_size * n) S ∙ sym (simp p));
              }
