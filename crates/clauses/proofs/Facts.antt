-- The clauses as facts, a record for each part, over the fields that it reads. `meets` computes exactly them: by the parts of the tests.
use mathlib.Core.Path.{◌≡◌, sym, ap, ◌∙◌, subst}
use mathlib.Core.Bool.{Bool, true, false, cond, not, ◌&&◌}
use mathlib.Core.List.{List}
use Prim.Native.Nat.{ℕ, ◌<◌, ◌≤◌}
use native.Mathlib.Omega.{arith}
use lib.Dec.{T, eqb, ltb, leb, eqb→eq, ltb→lt, lt→ltb, leb→le, le→leb, nltb→le, T_not, not_T}
use borrow.Author.Tests.{ltb-false}
use lib.ListN.{length, replicate, get_or-eq_default}
use Rattle.numbers.specs.Sizes.{nodes, every_node, objects as objectsEnd, most_open}
use Rattle.mask.specs.Mask.{within}
use Rattle.mask.proofs.Tests.{and_both, and_left, and_right, T_true}
use Rattle.coordinator.specs.declared.Object.{Object}
use Rattle.coordinator.specs.declared.Coordinator.{Coordinator}
use Rattle.coordinator.specs.System.{System}
use Rattle.coordinator.specs.State.{idle_phase, open_phase, voting_phase, finishing_phase, committed, aborted}
use Rattle.coordinator.specs.State.{no_object, across, place_in, all_settled, any_used_up, awaited}
use Rattle.clauses.specs.Clauses.{implies, zeros, object_meets, object_blank, place_meets, and_meets, objects_meet, sizes_meet, numbers_meet}
use Rattle.clauses.specs.Clauses.{no_nodes, nodes_meet, party_full, party_meets, agreed, votes_meet, dones_meet, meets}
use Rattle.clauses.proofs.Zeros.{zeros_are, are_zeros}
use Rattle.clauses.proofs.Parts.{eq-T, true-T, T_false, false-T, implies_out, implies_in, cond_first, cond_second, cond_in, by_test}
use Rattle.clauses.proofs.Places.{at, across_at, across_all, Once, place_at, at_place}

-- ---- the facts
pub record Sizes (distances : List ℕ) (objects : List Object) (rivals : List ℕ) : Type 0 where
  pub distances_13 : length distances ≡ nodes
  pub objects_8 : length objects ≡ most_open
  pub rivals_13 : length rivals ≡ nodes

pub record Numbers (serial timestamp outcome phase : ℕ) : Type 0 where
  pub phase_known : phase ≤ finishing_phase
  pub outcome_known : outcome ≤ aborted
  pub unused : serial ≡ 0 → (timestamp ≡ 0) × ((phase ≡ idle_phase) × (outcome ≡ 0))
  pub used : (serial ≡ 0 → ⊥) → timestamp ≡ 0 → ⊥

-- an opened object
pub record Opened (contacted : ℕ) (x : Object) : Type 0 where
  pub object_known : x.object < objectsEnd
  pub mode_known : x.mode < 2
  pub from_contacted : T (within x.came contacted)
  pub unseen : x.came ≡ 0 → (x.version ≡ 0) × (x.value ≡ 0)
  pub written : x.given ≡ true → x.mode ≡ 1
  pub not_given : x.given ≡ false → x.new ≡ 0

pub record Objects (contacted count : ℕ) (objects : List Object) : Type 0 where
  pub eight_at_most : count ≤ most_open
  pub opened : (i : ℕ) → i < count → Opened contacted (at objects i)
  pub once : Once objects count
  pub past : (i : ℕ) → count ≤ i → at objects i ≡ no_object

pub record NoNodes (live : ℕ) (distances : List ℕ) (quorum count : ℕ) : Type 0 where
  pub no_live : live ≡ 0
  pub no_quorum_lem : quorum ≡ 0
  pub no_distance : distances ≡ replicate nodes 0
  pub no_object_lem : count ≡ 0

pub record Nodes (s : System) (phase live : ℕ) (distances : List ℕ) (quorum contacted count : ℕ) : Type 0 where
  pub live_known : live ≤ every_node
  pub quorum_known : quorum ≤ every_node
  pub contacted_known : contacted ≤ every_node
  pub at_idle : phase ≡ idle_phase → NoNodes live distances quorum count
  pub present : (phase ≡ idle_phase → ⊥) → T (s.is_read quorum)
  pub nobody : count ≡ 0 → contacted ≡ 0
  pub asked : (count ≡ 0 → ⊥) → T (within quorum contacted)

-- participants that votes are asked of
pub record Full (s : System) (contacted count : ℕ) (objects : List Object) (participants : ℕ) : Type 0 where
  pub write_quorum : T (s.is_write participants)
  pub everyone : T (within contacted participants)
  pub some_object : count ≡ 0 → ⊥
  pub all_settled : all_settled s objects count ≡ true
  pub none_used_up : any_used_up objects count ≡ false

pub record Party (s : System) (phase contacted count : ℕ) (objects : List Object) (participants : ℕ) (rivals : List ℕ) : Type 0 where
  pub participants_known : participants ≤ every_node
  pub no_rivals_lem : participants ≡ 0 → rivals ≡ replicate nodes 0
  pub full : (participants ≡ 0 → ⊥) → Full s contacted count objects participants
  pub not_asked : phase ≤ open_phase → participants ≡ 0
  pub asked_for : phase ≡ voting_phase → participants ≡ 0 → ⊥

-- every participant has voted yes
abbrev pub Agreed : ℕ → ℕ → Type 0
Agreed participants said = (participants ≡ 0 → ⊥) × T (within participants said)

pub record Votes (phase outcome participants said : ℕ) : Type 0 where
  pub of_participants : T (within said participants)
  pub vote_missing : phase ≡ voting_phase → Agreed participants said → ⊥
  pub agreed_commits : phase ≡ finishing_phase → Agreed participants said → outcome ≡ committed
  pub else_aborted : phase ≡ finishing_phase → (Agreed participants said → ⊥) → outcome ≡ aborted

-- who must say done
abbrev pub waited : ℕ → ℕ → ℕ
waited contacted participants = cond (eqb participants 0) contacted participants

pub record Dones (phase contacted participants done : ℕ) : Type 0 where
  pub of_awaited : phase ≡ finishing_phase → T (within done (waited contacted participants))
  pub done_missing : phase ≡ finishing_phase → T (within (waited contacted participants) done) → ⊥
  pub no_done : (phase ≡ finishing_phase → ⊥) → done ≡ 0

-- all of them
pub record Meets (s : System) (c : Coordinator) : Type 0 where
  pub sizes : Sizes c.distances c.objects c.rivals
  pub numbers : Numbers c.serial c.timestamp c.outcome c.phase
  pub objects : Objects c.contacted c.count c.objects
  pub nodes : Nodes s c.phase c.live c.distances c.quorum c.contacted c.count
  pub party : Party s c.phase c.contacted c.count c.objects c.participants c.rivals
  pub votes : Votes c.phase c.outcome c.participants c.yes
  pub dones : Dones c.phase c.contacted c.participants c.done

-- ---- two steps that most tests have
-- the last of two tests, and both
ne-T : (n : ℕ) → (n ≡ 0 → ⊥) → T (not (eqb n 0))
ne-T n f = not_T (eqb n 0) (λ t. f (eqb→eq n 0 t))

T-ne : (n : ℕ) → T (not (eqb n 0)) → n ≡ 0 → ⊥
T-ne n t e = T_not (eqb n 0) t (eq-T n 0 e)

pub two_in : (a b : Bool) → T (a && b) → T a × T b
two_in a b t = (and_left a b t, and_right a b t)

-- ---- sizes
module _ (c : Coordinator) where
  sizes_out : T (sizes_meet c) → Sizes c.distances c.objects c.rivals
  unfolding sizes_meet
  sizes_out t =
      let a = two_in (eqb (length c.distances) nodes) _ t in
      let b = two_in (eqb (length c.objects) most_open) (eqb (length c.rivals) nodes) a.1 in
      record { distances_13 = eqb→eq _ nodes a.0; objects_8 = eqb→eq _ most_open b.0; rivals_13 = eqb→eq _ nodes b.1 }

  sizes_in : Sizes c.distances c.objects c.rivals → T (sizes_meet c)
  unfolding sizes_meet
  sizes_in f =
      and_both (eqb (length c.distances) nodes) _ (eq-T _ nodes f.distances_13)
      (and_both (eqb (length c.objects) most_open) _ (eq-T _ most_open f.objects_8) (eq-T _ nodes f.rivals_13))

  -- ---- numbers
  abbrev fresh : Bool
  fresh = eqb c.timestamp 0 && (eqb c.phase idle_phase && eqb c.outcome 0)

  numbers_out : T (numbers_meet c) → Numbers c.serial c.timestamp c.outcome c.phase
  unfolding numbers_meet
  numbers_out t =
      let a = two_in (leb c.phase finishing_phase) _ t in
      let b = two_in (leb c.outcome aborted) (cond (eqb c.serial 0) fresh (not (eqb c.timestamp 0))) a.1 in
      record {
        phase_known = leb→le c.phase finishing_phase a.0;
        outcome_known = leb→le c.outcome aborted b.0;
        unused = λ e.
            let u = two_in (eqb c.timestamp 0) _ (cond_first (eqb c.serial 0) fresh _ b.1 (eq-T c.serial 0 e)) in
            let v = two_in (eqb c.phase idle_phase) (eqb c.outcome 0) u.1 in
            (eqb→eq c.timestamp 0 u.0, (eqb→eq c.phase idle_phase v.0, eqb→eq c.outcome 0 v.1));
        used = λ f. T-ne c.timestamp (cond_second (eqb c.serial 0) fresh _ b.1 (λ s. f (eqb→eq c.serial 0 s)));
      }

  numbers_in : Numbers c.serial c.timestamp c.outcome c.phase → T (numbers_meet c)
  unfolding numbers_meet
  numbers_in f =
      and_both (leb c.phase finishing_phase) _ (le→leb c.phase finishing_phase f.phase_known)
      (and_both (leb c.outcome aborted) _ (le→leb c.outcome aborted f.outcome_known)
      (cond_in (eqb c.serial 0) fresh (not (eqb c.timestamp 0))
      (λ s. let u = f.unused (eqb→eq c.serial 0 s) in
      and_both (eqb c.timestamp 0) _ (eq-T c.timestamp 0 u.0)
      (and_both (eqb c.phase idle_phase) _ (eq-T c.phase idle_phase u.1.0) (eq-T c.outcome 0 u.1.1)))
      (λ n. ne-T c.timestamp (f.used (λ e. n (eq-T c.serial 0 e))))))

-- ---- objects
module _ (contacted : ℕ) (x : Object) where
  abbrev unfound : Bool
  unfound = eqb x.version 0 && eqb x.value 0

  abbrev new_ok : Bool
  new_ok = cond x.given (eqb x.mode 1) (eqb x.new 0)

  opened_out : T (object_meets contacted x) → Opened contacted x
  unfolding object_meets
  opened_out t =
      let a = two_in (ltb x.object objectsEnd) _ t in
      let b = two_in (ltb x.mode 2) _ a.1 in
      let d = two_in (within x.came contacted) _ b.1 in
      let e = two_in (implies (eqb x.came 0) unfound) new_ok d.1 in
      record {
        object_known = ltb→lt x.object objectsEnd a.0;
        mode_known = ltb→lt x.mode 2 b.0;
        from_contacted = d.0;
        unseen = λ z.
            let u = two_in (eqb x.version 0) (eqb x.value 0) (implies_out (eqb x.came 0) unfound e.0 (eq-T x.came 0 z)) in
            (eqb→eq x.version 0 u.0, eqb→eq x.value 0 u.1);
        written = λ g. eqb→eq x.mode 1 (cond_first x.given (eqb x.mode 1) _ e.1 (true-T x.given g));
        not_given = λ g. eqb→eq x.new 0 (cond_second x.given (eqb x.mode 1) _ e.1 (false-T x.given g));
      }

  opened_in : Opened contacted x → T (object_meets contacted x)
  unfolding object_meets
  opened_in f =
      and_both (ltb x.object objectsEnd) _ (lt→ltb x.object objectsEnd f.object_known)
      (and_both (ltb x.mode 2) _ (lt→ltb x.mode 2 f.mode_known)
      (and_both (within x.came contacted) _ f.from_contacted
      (and_both (implies (eqb x.came 0) unfound) new_ok
      (implies_in (eqb x.came 0) unfound (λ s. let u = f.unseen (eqb→eq x.came 0 s) in
      and_both (eqb x.version 0) _ (eq-T x.version 0 u.0) (eq-T x.value 0 u.1)))
      (cond_in x.given (eqb x.mode 1) (eqb x.new 0) (λ s. eq-T x.mode 1 (f.written (T_true x.given s)))
      (λ n. eq-T x.new 0 (f.not_given (T_false x.given n)))))))

made : (x : Object) → x.object ≡ 0 → x.mode ≡ 0 → x.came ≡ 0 → x.version ≡ 0 → x.value ≡ 0 → x.given ≡ false → x.new ≡ 0 → x ≡ no_object
made x a b c d e f g = λ i. record { object = a i; mode = b i; came = c i; version = d i; value = e i; given = f i; new = g i }

pub blank_out : (x : Object) → T (object_blank x) → x ≡ no_object
unfolding object_blank
blank_out x t =
    let a = two_in (eqb x.object 0) _ t in
    let b = two_in (eqb x.mode 0) _ a.1 in
    let c = two_in (eqb x.came 0) _ b.1 in
    let d = two_in (eqb x.version 0) _ c.1 in
    let e = two_in (eqb x.value 0) _ d.1 in
    let f = two_in (not x.given) (eqb x.new 0) e.1 in
    made x (eqb→eq _ 0 a.0) (eqb→eq _ 0 b.0) (eqb→eq _ 0 c.0) (eqb→eq _ 0 d.0) (eqb→eq _ 0 e.0)
    (T_false x.given (T_not x.given f.0)) (eqb→eq _ 0 f.1)

pub blank_in : (x : Object) → x ≡ no_object → T (object_blank x)
unfolding object_blank
blank_in x e = subst (λ (y : Object). T (object_blank y)) (sym e) tt

module _ (c : Coordinator) (eights : length c.objects ≡ most_open) where
  abbrev X : ℕ → Object
  X i = at c.objects i

  abbrev place_ok : ℕ → Bool
  place_ok i = eqb (place_in c.objects c.count (X i).object) i

  objects_out : T (objects_meet c) → Objects c.contacted c.count c.objects
  unfolding objects_meet
  objects_out t =
      let a = two_in (leb c.count most_open) (across (and_meets c) true 0 c.objects) t in
      let n : c.count ≤ most_open = leb→le c.count most_open a.0 in
      let each : (i : ℕ) → i < length c.objects → T (place_meets c i (X i)) = across_at (place_meets c) c.objects a.1 in
      let here : (i : ℕ) → i < c.count → T (object_meets c.contacted (X i) && place_ok i) =
      λ i h. cond_first (ltb i c.count) _ (object_blank (X i)) (each i (omega arith)) (lt→ltb i c.count h) in
      record {
        eight_at_most = n;
        opened = λ i h. opened_out c.contacted (X i) (and_left (object_meets c.contacted (X i)) (place_ok i) (here i h));
        once = at_place c.objects c.count eights n
            (λ i h. eqb→eq (place_in c.objects c.count (X i).object) i (and_right (object_meets c.contacted (X i)) (place_ok i) (here i h)));
        past = λ i h. by_test (X i ≡ no_object) (ltb i most_open)
            (λ e. let k : i < most_open = ltb→lt i most_open (true-T (ltb i most_open) e) in
            blank_out (X i) (cond_second (ltb i c.count) _ (object_blank (X i)) (each i (omega arith)) (λ u. let v = ltb→lt i c.count u in omega arith)))
            (λ e. let k : most_open ≤ i = ltb-false i most_open e in get_or-eq_default c.objects no_object (omega arith));
      }

  objects_in : Objects c.contacted c.count c.objects → T (objects_meet c)
  unfolding objects_meet
  objects_in f =
      and_both (leb c.count most_open) (across (and_meets c) true 0 c.objects) (le→leb c.count most_open f.eight_at_most)
      (across_all (place_meets c) c.objects (λ i h. cond_in (ltb i c.count) (object_meets c.contacted (X i) && place_ok i) (object_blank (X i))
      (λ s. let k = ltb→lt i c.count s in
      and_both (object_meets c.contacted (X i)) (place_ok i) (opened_in c.contacted (X i) (f.opened i k))
      (eq-T (place_in c.objects c.count (X i).object) i (place_at c.objects c.count eights f.eight_at_most f.once i k)))
      (λ n. blank_in (X i) (f.past i (nltb→le i c.count (not_T (ltb i c.count) n))))))

-- ---- nodes
module _ (s : System) (c : Coordinator) (sized : Sizes c.distances c.objects c.rivals) where
  abbrev idle : Bool
  idle = eqb c.phase idle_phase

  abbrev none : Bool
  none = no_nodes c

  nodes_out : T (nodes_meet s c) → Nodes s c.phase c.live c.distances c.quorum c.contacted c.count
  unfolding nodes_meet no_nodes
  nodes_out t =
      let a = two_in (leb c.live every_node) _ t in
      let b = two_in (leb c.quorum every_node) _ a.1 in
      let d = two_in (leb c.contacted every_node) _ b.1 in
      let e = two_in (cond idle none (s.is_read c.quorum)) (cond (eqb c.count 0) (eqb c.contacted 0) (within c.quorum c.contacted)) d.1 in
      record {
        live_known = leb→le c.live every_node a.0;
        quorum_known = leb→le c.quorum every_node b.0;
        contacted_known = leb→le c.contacted every_node d.0;
        at_idle = λ p.
            let u = two_in (eqb c.live 0) _ (cond_first idle none _ e.0 (eq-T c.phase idle_phase p)) in
            let v = two_in (eqb c.quorum 0) _ u.1 in
            let w = two_in (zeros c.distances) (eqb c.count 0) v.1 in
            record {
              no_live = eqb→eq c.live 0 u.0;
              no_quorum_lem = eqb→eq c.quorum 0 v.0;
              no_distance = zeros_are c.distances w.0 ∙ ap (λ (n : ℕ). replicate n 0) sized.distances_13;
              no_object_lem = eqb→eq c.count 0 w.1;
            };
        present = λ n. cond_second idle none _ e.0 (λ p. n (eqb→eq c.phase idle_phase p));
        nobody = λ p. eqb→eq c.contacted 0 (cond_first (eqb c.count 0) (eqb c.contacted 0) _ e.1 (eq-T c.count 0 p));
        asked = λ n. cond_second (eqb c.count 0) (eqb c.contacted 0) _ e.1 (λ p. n (eqb→eq c.count 0 p));
      }

  nodes_in : Nodes s c.phase c.live c.distances c.quorum c.contacted c.count → T (nodes_meet s c)
  unfolding nodes_meet no_nodes
  nodes_in f =
      and_both (leb c.live every_node) _ (le→leb c.live every_node f.live_known)
      (and_both (leb c.quorum every_node) _ (le→leb c.quorum every_node f.quorum_known)
      (and_both (leb c.contacted every_node) _ (le→leb c.contacted every_node f.contacted_known)
      (and_both (cond idle none (s.is_read c.quorum)) _
      (cond_in idle none (s.is_read c.quorum)
      (λ p. let g = f.at_idle (eqb→eq c.phase idle_phase p) in
      and_both (eqb c.live 0) _ (eq-T c.live 0 g.no_live)
      (and_both (eqb c.quorum 0) _ (eq-T c.quorum 0 g.no_quorum_lem)
      (and_both (zeros c.distances) _ (subst (λ (l : List ℕ). T (zeros l)) (sym g.no_distance) (are_zeros nodes))
      (eq-T c.count 0 g.no_object_lem))))
      (λ n. f.present (λ p. n (eq-T c.phase idle_phase p))))
      (cond_in (eqb c.count 0) (eqb c.contacted 0) (within c.quorum c.contacted)
      (λ p. eq-T c.contacted 0 (f.nobody (eqb→eq c.count 0 p))) (λ n. f.asked (λ p. n (eq-T c.count 0 p)))))))

  -- ---- the participants
  full_out : T (party_full s c) → Full s c.contacted c.count c.objects c.participants
  unfolding party_full
  full_out t =
      let a = two_in (s.is_write c.participants) _ t in
      let b = two_in (within c.contacted c.participants) _ a.1 in
      let d = two_in (not (eqb c.count 0)) _ b.1 in
      let e = two_in (all_settled s c.objects c.count) (not (any_used_up c.objects c.count)) d.1 in
      record {
        write_quorum = a.0;
        everyone = b.0;
        some_object = T-ne c.count d.0;
        all_settled = T_true (all_settled s c.objects c.count) e.0;
        none_used_up = T_false (any_used_up c.objects c.count) (T_not (any_used_up c.objects c.count) e.1);
      }

  full_in : Full s c.contacted c.count c.objects c.participants → T (party_full s c)
  unfolding party_full
  full_in f =
      and_both (s.is_write c.participants) _ f.write_quorum
      (and_both (within c.contacted c.participants) _ f.everyone
      (and_both (not (eqb c.count 0)) _ (ne-T c.count f.some_object)
      (and_both (all_settled s c.objects c.count) _ (true-T (all_settled s c.objects c.count) f.all_settled)
      (not_T (any_used_up c.objects c.count) (false-T (any_used_up c.objects c.count) f.none_used_up)))))

  abbrev nobody_in : Bool
  nobody_in = eqb c.participants 0

  abbrev voting : Bool
  voting = eqb c.phase voting_phase

  party_out : T (party_meets s c) → Party s c.phase c.contacted c.count c.objects c.participants c.rivals
  unfolding party_meets
  party_out t =
      let a = two_in (leb c.participants every_node) _ t in
      let b = two_in (cond nobody_in (zeros c.rivals) (party_full s c)) _ a.1 in
      let d = two_in (implies (leb c.phase open_phase) nobody_in) (implies voting (not nobody_in)) b.1 in
      record {
        participants_known = leb→le c.participants every_node a.0;
        no_rivals_lem = λ e. zeros_are c.rivals (cond_first nobody_in (zeros c.rivals) _ b.0 (eq-T c.participants 0 e))
            ∙ ap (λ (n : ℕ). replicate n 0) sized.rivals_13;
        full = λ n. full_out (cond_second nobody_in (zeros c.rivals) _ b.0 (λ e. n (eqb→eq c.participants 0 e)));
        not_asked = λ h. eqb→eq c.participants 0 (implies_out (leb c.phase open_phase) nobody_in d.0 (le→leb c.phase open_phase h));
        asked_for = λ e. T-ne c.participants (implies_out voting (not nobody_in) d.1 (eq-T c.phase voting_phase e));
      }

  party_in : Party s c.phase c.contacted c.count c.objects c.participants c.rivals → T (party_meets s c)
  unfolding party_meets
  party_in f =
      and_both (leb c.participants every_node) _ (le→leb c.participants every_node f.participants_known)
      (and_both (cond nobody_in (zeros c.rivals) (party_full s c)) _
      (cond_in nobody_in (zeros c.rivals) (party_full s c)
      (λ e. subst (λ (l : List ℕ). T (zeros l)) (sym (f.no_rivals_lem (eqb→eq c.participants 0 e))) (are_zeros nodes))
      (λ n. full_in (f.full (λ e. n (eq-T c.participants 0 e)))))
      (and_both (implies (leb c.phase open_phase) nobody_in) _
      (implies_in (leb c.phase open_phase) nobody_in (λ h. eq-T c.participants 0 (f.not_asked (leb→le c.phase open_phase h))))
      (implies_in voting (not nobody_in) (λ e. ne-T c.participants (f.asked_for (eqb→eq c.phase voting_phase e))))))

-- ---- the votes and the dones
module _ (c : Coordinator) where
  agreed_out : T (agreed c) → Agreed c.participants c.yes
  agreed_out t =
      let a = two_in (not (eqb c.participants 0)) (within c.participants c.yes) t in
      (T-ne c.participants a.0, a.1)

  agreed_in : Agreed c.participants c.yes → T (agreed c)
  agreed_in f = and_both (not (eqb c.participants 0)) _ (ne-T c.participants f.0) f.1

  abbrev asking : Bool
  asking = eqb c.phase voting_phase

  abbrev finishing : Bool
  finishing = eqb c.phase finishing_phase

  abbrev ended : Bool
  ended = cond (agreed c) (eqb c.outcome committed) (eqb c.outcome aborted)

  votes_out : T (votes_meet c) → Votes c.phase c.outcome c.participants c.yes
  unfolding votes_meet
  votes_out t =
      let a = two_in (within c.yes c.participants) _ t in
      let b = two_in (implies asking (not (agreed c))) (implies finishing ended) a.1 in
      let over : c.phase ≡ finishing_phase → T ended = λ e. implies_out finishing ended b.1 (eq-T c.phase finishing_phase e) in
      record {
        of_participants = a.0;
        vote_missing = λ e f. T_not (agreed c) (implies_out asking (not (agreed c)) b.0 (eq-T c.phase voting_phase e)) (agreed_in f);
        agreed_commits = λ e f. eqb→eq c.outcome committed (cond_first (agreed c) (eqb c.outcome committed) _ (over e) (agreed_in f));
        else_aborted = λ e n. eqb→eq c.outcome aborted (cond_second (agreed c) (eqb c.outcome committed) _ (over e) (λ g. n (agreed_out g)));
      }

  votes_in : Votes c.phase c.outcome c.participants c.yes → T (votes_meet c)
  unfolding votes_meet
  votes_in f =
      and_both (within c.yes c.participants) _ f.of_participants
      (and_both (implies asking (not (agreed c))) _
      (implies_in asking (not (agreed c)) (λ e. not_T (agreed c) (λ g. f.vote_missing (eqb→eq c.phase voting_phase e) (agreed_out g))))
      (implies_in finishing ended (λ e. let p = eqb→eq c.phase finishing_phase e in
      cond_in (agreed c) (eqb c.outcome committed) (eqb c.outcome aborted) (λ g. eq-T c.outcome committed (f.agreed_commits p (agreed_out g)))
      (λ n. eq-T c.outcome aborted (f.else_aborted p (λ g. n (agreed_in g)))))))

  abbrev lasting : Bool
  lasting = within c.done (awaited c) && not (within (awaited c) c.done)

  dones_out : T (dones_meet c) → Dones c.phase c.contacted c.participants c.done
  unfolding dones_meet
  dones_out t =
      let a : c.phase ≡ finishing_phase → T (within c.done (awaited c)) × T (not (within (awaited c) c.done)) =
      λ e. two_in (within c.done (awaited c)) _ (cond_first finishing lasting _ t (eq-T c.phase finishing_phase e)) in
      record {
        of_awaited = λ e. (a e).0;
        done_missing = λ e. T_not (within (awaited c) c.done) (a e).1;
        no_done = λ n. eqb→eq c.done 0 (cond_second finishing lasting _ t (λ e. n (eqb→eq c.phase finishing_phase e)));
      }

  dones_in : Dones c.phase c.contacted c.participants c.done → T (dones_meet c)
  unfolding dones_meet
  dones_in f =
      cond_in finishing lasting (eqb c.done 0)
      (λ e. let p = eqb→eq c.phase finishing_phase e in
      and_both (within c.done (awaited c)) _ (f.of_awaited p) (not_T (within (awaited c) c.done) (f.done_missing p)))
      (λ n. eq-T c.done 0 (f.no_done (λ e. n (eq-T c.phase finishing_phase e))))

-- ---- all of them
module _ (s : System) (c : Coordinator) where
  pub meets_facts : meets s c ≡ true → Meets s c
  unfolding meets
  meets_facts e =
      let a = two_in (sizes_meet c) _ (true-T (meets s c) e) in
      let b = two_in (numbers_meet c) _ a.1 in
      let d = two_in (objects_meet c) _ b.1 in
      let f = two_in (nodes_meet s c) _ d.1 in
      let g = two_in (party_meets s c) _ f.1 in
      let h = two_in (votes_meet c) (dones_meet c) g.1 in
      let z = sizes_out c a.0 in
      record {
        sizes = z;
        numbers = numbers_out c b.0;
        objects = objects_out c z.objects_8 d.0;
        nodes = nodes_out s c z f.0;
        party = party_out s c z g.0;
        votes = votes_out c h.0;
        dones = dones_out c h.1;
      }

  pub facts_meet : Meets s c → meets s c ≡ true
  unfolding meets
  facts_meet m =
      let z = m.sizes in
      T_true (meets s c) (and_both (sizes_meet c) _ (sizes_in c z) (and_both (numbers_meet c) _ (numbers_in c m.numbers)
      (and_both (objects_meet c) _ (objects_in c z.objects_8 m.objects) (and_both (nodes_meet s c) _ (nodes_in s c z m.nodes)
      (and_both (party_meets s c) _ (party_in s c z m.party) (and_both (votes_meet c) _ (votes_in c m.votes) (dones_in c m.dones)))))))

  -- a record whose lists are arrays has the sizes
  pub sized_meets : length c.distances ≡ nodes → length c.objects ≡ most_open → length c.rivals ≡ nodes
      → meets s c ≡ (numbers_meet c && (objects_meet c && (nodes_meet s c && (party_meets s c && (votes_meet c && dones_meet c)))))
  unfolding meets
  sized_meets a b d = simp (T_true (sizes_meet c) (sizes_in c (record { distances_13 = a; objects_8 = b; rivals_13 = d })))

-- what keeps the facts keeps the test
pub keeps_meeting : (s : System) (c d : Coordinator) → (Meets s c → Meets s d) → meets s c ≡ true → meets s d ≡ true
keeps_meeting s c d f e = facts_meet s d (f (meets_facts s c e))
