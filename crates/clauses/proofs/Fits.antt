-- The widths: every field of a record fits the bytes that it has. The clauses bound phase, masks and objects; the rest is kept call by call.
use mathlib.Core.Path.{◌≡◌, refl, sym, subst}
use mathlib.Core.List.{List, [], ◌∷◌}
use Prim.Native.Nat.{ℕ, zero, suc, ◌^◌, ◌<◌, ◌≤◌}
use native.Mathlib.Omega.{arith}
use lib.Dec.{eqb, ltb, lit<}
use lib.ListN.{length, get_or, set, replicate}
use borrow.Author.Tests.{eqb-true, eqb-false, ltb-true, ltb-false, not-false}
use Rattle.numbers.specs.Sizes.{nodes, every_node, most_open, highest}
use Rattle.mask.specs.Mask.{joined}
use Rattle.quorum.specs.Nearest.{mask_of}
use Rattle.coordinator.specs.declared.Object.{Object}
use Rattle.coordinator.specs.declared.Coordinator.{Coordinator}
use Rattle.coordinator.specs.declared.BeginWith.{BeginWith}
use Rattle.coordinator.specs.System.{System}
use Rattle.coordinator.specs.State.{finishing_phase, aborted, no_object, idle_after, blank_record, object_at, place_of, awaited}
use Rattle.coordinator.specs.Calls.{fresh, renewed, begin_refusals, begun, begin_of, open_refusals, opened, open_of, set_refusals, with_new, set_of}
use Rattle.coordinator.specs.Calls.{reselect_refusals, reselected, reselect_of, request_commit_refusals, requested, request_commit_of, abort_of}
use Rattle.clauses.proofs.Parts.{by_test}
use Rattle.clauses.proofs.Sets.{within_known}
use Rattle.clauses.proofs.Places.{at, at_blank}
use Rattle.clauses.proofs.Facts.{Meets}
use Rattle.clauses.proofs.Quorums.{Quorums}
use Rattle.clauses.proofs.Cases.{step_keeps, Endings, abort_cases}
use Rattle.clauses.proofs.Keep.{blank_meets, awaited_known, begin_keeps, open_keeps, set_keeps, reselect_keeps, request_keeps, abort_keeps}

-- ---- the facts
abbrev pub AllBelow : ℕ → List ℕ → Type 0
AllBelow n l = (i : ℕ) → get_or l i 0 < n

-- what was found of an object, and its new value
pub record Valued (x : Object) : Type 0 where
  pub version_32 : x.version < 2 ^ 32
  pub value_64 : x.value < 2 ^ 64
  pub new_64 : x.new < 2 ^ 64

-- what no clause bounds
pub record Widths (c : Coordinator) : Type 0 where
  pub serial_32 : c.serial < 2 ^ 32
  pub timestamp_32 : c.timestamp < 2 ^ 32
  pub distances_16 : AllBelow (2 ^ 16) c.distances
  pub objects_fit : (i : ℕ) → Valued (at c.objects i)
  pub rivals_32 : AllBelow (2 ^ 32) c.rivals

pub record ObjectFits (x : Object) : Type 0 where
  pub object_8 : x.object < 256
  pub mode_8 : x.mode < 256
  pub came_16 : x.came < 2 ^ 16
  pub valued : Valued x

-- all of them
pub record Fits (c : Coordinator) : Type 0 where
  pub widths : Widths c
  pub outcome_8 : c.outcome < 256
  pub phase_8 : c.phase < 256
  pub live_16 : c.live < 2 ^ 16
  pub quorum_16 : c.quorum < 2 ^ 16
  pub contacted_16 : c.contacted < 2 ^ 16
  pub count_8 : c.count < 256
  pub objects_fit : (i : ℕ) → ObjectFits (at c.objects i)
  pub participants_16 : c.participants < 2 ^ 16
  pub yes_16 : c.yes < 2 ^ 16
  pub done_16 : c.done < 2 ^ 16
  pub distances_13 : length c.distances ≡ nodes
  pub objects_8 : length c.objects ≡ most_open
  pub rivals_13 : length c.rivals ≡ nodes

-- ---- the clauses bound the rest
module _ (s : System) (c : Coordinator) (m : Meets s c) where
  done_known : c.done ≤ every_node
  done_known =
      by_test (c.done ≤ every_node) (eqb c.phase finishing_phase)
      (λ e. within_known c.done (awaited c) (m.dones.of_awaited (eqb-true c.phase finishing_phase e)) (awaited_known s c m))
      (λ e. let z : c.done ≡ 0 = m.dones.no_done (eqb-false c.phase finishing_phase e) in omega arith)

  object_fits : (i : ℕ) → Valued (at c.objects i) → ObjectFits (at c.objects i)
  object_fits i v =
      by_test (ObjectFits (at c.objects i)) (ltb i c.count)
      (λ e. let o = m.objects.opened i (ltb-true i c.count e) in
      let k = within_known (at c.objects i).came c.contacted o.from_contacted m.nodes.contacted_known in
      let a = o.object_known in
      let b = o.mode_known in
      record { object_8 = omega arith; mode_8 = omega arith; came_16 = omega arith; valued = v })
      (λ e. subst ObjectFits (sym (m.objects.past i (ltb-false i c.count e))) none)
    where
      none : ObjectFits no_object
      none =
          record {
            object_8 = lit< tt;
            mode_8 = lit< tt;
            came_16 = lit< tt;
            valued = record { version_32 = lit< tt; value_64 = lit< tt; new_64 = lit< tt };
          }

  pub widths_fit : Widths c → Fits c
  widths_fit w =
      let a = m.numbers.outcome_known in
      let b = m.numbers.phase_known in
      let d = m.nodes.live_known in
      let e = m.nodes.quorum_known in
      let f = m.nodes.contacted_known in
      let g = m.party.participants_known in
      let h = within_known c.yes c.participants m.votes.of_participants g in
      let i = done_known in
      let j = m.objects.eight_at_most in
      record {
        widths = w;
        outcome_8 = omega arith;
        phase_8 = omega arith;
        live_16 = omega arith;
        quorum_16 = omega arith;
        contacted_16 = omega arith;
        count_8 = omega arith;
        objects_fit = λ i. object_fits i (w.objects_fit i);
        participants_16 = omega arith;
        yes_16 = omega arith;
        done_16 = omega arith;
        distances_13 = m.sizes.distances_13;
        objects_8 = m.sizes.objects_8;
        rivals_13 = m.sizes.rivals_13;
      }

-- ---- lists
-- what holds of a new element and of the old ones holds of each afterwards
pub after_set : {A : Type 0} (P : A → Type 0) (d : A) (l : List A) (p i : ℕ) (x : A) → P x → ((j : ℕ) → P (get_or l j d)) → P (get_or (set l p x) i d)
after_set P d [] p i x a f = f i
after_set P d (y ∷ l) zero zero x a f = a
after_set P d (y ∷ l) zero (suc i) x a f = f (suc i)
after_set P d (y ∷ l) (suc p) zero x a f = f 0
after_set P d (y ∷ l) (suc p) (suc i) x a f = after_set P d l p i x a (λ j. f (suc j))

all_zero : (b n i : ℕ) → 0 < b → get_or (replicate n 0) i 0 < b
all_zero b zero i h = h
all_zero b (suc n) zero h = h
all_zero b (suc n) (suc i) h = all_zero b n i h

none_valued : Valued no_object
none_valued = record { version_32 = lit< tt; value_64 = lit< tt; new_64 = lit< tt }

blank_valued : (i : ℕ) → Valued (at (replicate most_open no_object) i)
blank_valued i = subst Valued (sym (at_blank most_open i)) none_valued

-- ---- an idle record, and the blank one
idle_widths : (serial timestamp outcome : ℕ) → serial < 2 ^ 32 → timestamp < 2 ^ 32 → Widths (idle_after serial timestamp outcome)
unfolding idle_after
idle_widths serial timestamp outcome a b =
    record {
      serial_32 = a;
      timestamp_32 = b;
      distances_16 = λ i. all_zero (2 ^ 16) nodes i (lit< tt);
      objects_fit = blank_valued;
      rivals_32 = λ i. all_zero (2 ^ 32) nodes i (lit< tt);
    }

pub blank_fits : (s : System) → Fits blank_record
blank_fits s = widths_fit s blank_record (blank_meets s) (idle_widths 0 0 0 (lit< tt) (lit< tt))

-- ---- the calls keep what no clause bounds
module _ (s : System) (c : Coordinator) (me : ℕ) (w : Widths c) where
  pub over_widths : (outcome : ℕ) → Widths (idle_after c.serial c.timestamp outcome)
  over_widths outcome = idle_widths c.serial c.timestamp outcome w.serial_32 w.timestamp_32

  begin_widths : (b : BeginWith) → b.timestamp < 2 ^ 32 → AllBelow (2 ^ 16) b.distances → Widths (begin_of s c me b).coordinator
  unfolding begin_of begin_refusals begun
  begin_widths b t d =
      let chosen = s.nearest_read me b.live b.distances in
      step_keeps Widths (begin_refusals c me b chosen) (mask_of chosen) c (begun c b (mask_of chosen)) tt w
      (λ k. let n : c.serial < highest = ltb-true c.serial highest (not-false (ltb c.serial highest) k.1.1.1.1.0) in
      record {
        serial_32 = omega arith;
        timestamp_32 = t;
        distances_16 = d;
        objects_fit = blank_valued;
        rivals_32 = λ i. all_zero (2 ^ 32) nodes i (lit< tt);
      })

  open_widths : (object mode : ℕ) → Widths (open_of c me object mode).coordinator
  unfolding open_of open_refusals opened
  open_widths object mode =
      step_keeps Widths (open_refusals c me object) 0 c (opened c object mode) tt w
      (λ k. record {
        serial_32 = w.serial_32;
        timestamp_32 = w.timestamp_32;
        distances_16 = w.distances_16;
        objects_fit = λ i. after_set Valued no_object c.objects c.count i (fresh object mode)
            (record { version_32 = lit< tt; value_64 = lit< tt; new_64 = lit< tt }) w.objects_fit;
        rivals_32 = w.rivals_32;
      })

  set_widths : (object value : ℕ) → value < 2 ^ 64 → Widths (set_of c me object value).coordinator
  unfolding set_of set_refusals with_new
  set_widths object value h =
      let v = w.objects_fit (place_of c object) in
      step_keeps Widths (set_refusals c me object) 0 c (with_new c object value) tt w
      (λ k. record {
        serial_32 = w.serial_32;
        timestamp_32 = w.timestamp_32;
        distances_16 = w.distances_16;
        objects_fit = λ i. after_set Valued no_object c.objects (place_of c object) i (renewed (object_at c object) value)
            (record { version_32 = v.version_32; value_64 = v.value_64; new_64 = h }) w.objects_fit;
        rivals_32 = w.rivals_32;
      })

  reselect_widths : (live : ℕ) (distances : List ℕ) → AllBelow (2 ^ 16) distances → Widths (reselect_of s c me live distances).coordinator
  unfolding reselect_of reselect_refusals reselected
  reselect_widths live distances d =
      let chosen = s.nearest_read me live distances in
      step_keeps Widths (reselect_refusals c me live chosen) (mask_of chosen) c (reselected c live distances (mask_of chosen)) tt w
      (λ k. record {
        serial_32 = w.serial_32;
        timestamp_32 = w.timestamp_32;
        distances_16 = d;
        objects_fit = w.objects_fit;
        rivals_32 = w.rivals_32;
      })

  pub same_widths : (d : Coordinator) → d.serial ≡ c.serial → d.timestamp ≡ c.timestamp → d.distances ≡ c.distances → d.objects ≡ c.objects
      → AllBelow (2 ^ 32) d.rivals → Widths d
  same_widths d a b e f r =
      record {
        serial_32 = subst (λ (n : ℕ). n < 2 ^ 32) (sym a) w.serial_32;
        timestamp_32 = subst (λ (n : ℕ). n < 2 ^ 32) (sym b) w.timestamp_32;
        distances_16 = subst (AllBelow (2 ^ 16)) (sym e) w.distances_16;
        objects_fit = subst (λ (l : List Object). (i : ℕ) → Valued (at l i)) (sym f) w.objects_fit;
        rivals_32 = r;
      }

  request_widths : Widths (request_commit_of s c me).coordinator
  unfolding request_commit_of request_commit_refusals requested
  request_widths =
      let chosen = s.nearest_write me c.live c.distances in
      let all = joined (mask_of chosen) c.contacted in
      step_keeps Widths (request_commit_refusals s c me chosen) all c (requested c all) tt w
      (λ k. same_widths (requested c all) refl refl refl refl w.rivals_32)

  pub endings_widths : Endings Widths c
  endings_widths = record { gone = λ a e. over_widths aborted; aborting = λ a e. same_widths _ refl refl refl refl w.rivals_32 }

  abort_widths : Widths (abort_of c me).coordinator
  abort_widths = abort_cases Widths c me w endings_widths

-- ---- and so all widths
module _ (s : System) (q : Quorums s) (c : Coordinator) (me : ℕ) (m : Meets s c) (f : Fits c) where
  abbrev W : Widths c
  W = f.widths

  pub begin_fits : (b : BeginWith) → length b.distances ≡ nodes → b.timestamp < 2 ^ 32 → AllBelow (2 ^ 16) b.distances
      → Fits (begin_of s c me b).coordinator
  begin_fits b n t d = widths_fit s _ (begin_keeps s q c me m b n) (begin_widths s c me W b t d)

  pub open_fits : (object mode : ℕ) → mode < 2 → Fits (open_of c me object mode).coordinator
  open_fits object mode h = widths_fit s _ (open_keeps s q c me m object mode h) (open_widths s c me W object mode)

  pub set_fits : (object value : ℕ) → value < 2 ^ 64 → Fits (set_of c me object value).coordinator
  set_fits object value h = widths_fit s _ (set_keeps s q c me m object value) (set_widths s c me W object value h)

  pub reselect_fits : (live : ℕ) (distances : List ℕ) → length distances ≡ nodes → AllBelow (2 ^ 16) distances
      → Fits (reselect_of s c me live distances).coordinator
  reselect_fits live distances n d = widths_fit s _ (reselect_keeps s q c me m live distances n) (reselect_widths s c me W live distances d)

  pub request_fits : Fits (request_commit_of s c me).coordinator
  request_fits = widths_fit s _ (request_keeps s q c me m) (request_widths s c me W)

  pub abort_fits : Fits (abort_of c me).coordinator
  abort_fits = widths_fit s _ (abort_keeps s c m me) (abort_widths s c me W)
