-- What a delivered message is, from the call's own checks: well formed, to this node, and a vote's rivals are others.
use mathlib.Core.Path.{◌≡◌, refl, sym, ◌∙◌, subst}
use mathlib.Core.Bool.{Bool, true, false, cond, not, ◌&&◌, ◌||◌}
use mathlib.Core.List.{List, map}
use Prim.Native.Nat.{ℕ, zero, suc, ◌+◌, ◌*◌, ◌%◌, ◌<◌}
use native.Mathlib.Omega.{arith}
use lib.Dec.{T, eqb, ltb, eqb→eq, ltb→lt, T_not}
use lib.ListN.{length}
use borrow.Author.Tests.{eqb-true, lt-ltb, not-false}
use Rattle.numbers.specs.Sizes.{nodes, shortest_message, longest_message}
use Rattle.mask.proofs.Tests.{and_left, and_right}
use Rattle.numbers.specs.Numbers.{wrong_length, garbled}
use Rattle.wire.specs.declared.Rival.{Rival}
use Rattle.wire.specs.Message.{vote}
use Rattle.wire.specs.Formed.{counts_ok, names_ok, direction_ok, ascend, every, rival_ok, entries_ok, rivals_ok, well_formed, word_of}
use Rattle.wire.specs.Encode.{rival_size, size_of}
use Rattle.wire.specs.Decode.{kind_of, from_of, to_of, owner_of, rival_count, rivals_place, rival_at, items_from, decode, accepted, check_of}
use Rattle.wire.specs.Items.{no_rival, rival_of}
use Rattle.wire.proofs.Theorems.{accepted_of_check}
use Rattle.coordinator.specs.declared.Coordinator.{Coordinator}
use Rattle.coordinator.specs.Calls.{no_node}
use Rattle.arrivals.specs.Receive.{receive_refusals}
use Rattle.coordinator.proofs.Refusals.{Clear}
use Rattle.clauses.proofs.Parts.{eq-T, true-T, on_cond, neither_left, neither_right}

-- ---- what is true of every item is true of each
item_ok : {A : Type 0} (p : A → Bool) (at : List ℕ → ℕ → A) (size : ℕ) (l : List ℕ) (n i j : ℕ) → T (every p (items_from at size n l i)) → j < n
    → T (p (at l (i + size * j)))
unfolding items_from
item_ok p at size l zero i j t h = absurd (omega arith)
item_ok p at size l (suc n) i zero t h =
    subst (λ (k : ℕ). T (p (at l k))) (omega arith) (and_left (p (at l i)) (every p (items_from at size n l (i + size))) t)
item_ok p at size l (suc n) i (suc j) t h =
    subst (λ (k : ℕ). T (p (at l k))) (omega arith)
    (item_ok p at size l n (i + size) j (and_right (p (at l i)) (every p (items_from at size n l (i + size))) t) (omega arith))

-- ---- a message that the call did not refuse
check_zero : (a b : Bool) → eqb (cond a wrong_length (cond b 0 garbled)) wrong_length ≡ false → eqb (cond a wrong_length (cond b 0 garbled)) garbled ≡ false
    → cond a wrong_length (cond b 0 garbled) ≡ 0
check_zero true b e f = absurd (subst T e tt)
check_zero false true e f = refl
check_zero false false e f = absurd (subst T f tt)

pub record Taken (me : ℕ) (m : List ℕ) : Type 0 where
  pub checked : check_of m ≡ 0
  pub to_me : to_of m ≡ me
  pub a_node : me < nodes

pub taken_of : (c : Coordinator) (me : ℕ) (m : List ℕ) → Clear (receive_refusals c me m) → Taken me m
unfolding receive_refusals check_of
taken_of c me m k =
    record {
      checked = check_zero (ltb (length m) shortest_message || ltb longest_message (length m)) (accepted m) k.0 k.1.0;
      to_me = eqb-true (to_of m) me (not-false (eqb (to_of m) me) (neither_right (no_node me) (not (eqb (to_of m) me)) k.1.1.0));
      a_node = ltb→lt me nodes (true-T (ltb me nodes) (not-false (ltb me nodes) (neither_left (no_node me) (not (eqb (to_of m) me)) k.1.1.0)));
    }

-- ---- the rivals that a vote names are others
module _ (me : ℕ) (m : List ℕ) (g : Taken me m) where
  formed : T (well_formed (decode m))
  unfolding accepted
  formed = and_right (eqb (length m) (size_of (decode m))) (well_formed (decode m)) (true-T (accepted m) (accepted_of_check m g.checked))

  parts : T (direction_ok (decode m)) × T (rivals_ok (decode m))
  unfolding well_formed
  parts =
      let d = decode m in
      let a = and_right (counts_ok d.kind (length d.entries) (length d.rivals) (length d.words) (word_of d)) _ formed in
      let b = and_right (names_ok d) _ a in
      (and_left (direction_ok d) _ b, and_right (entries_ok d) (rivals_ok d) (and_right (direction_ok d) (entries_ok d && rivals_ok d) b))

  -- an answer, which has an even kind, goes to its owner
  pub answer_owner : (k : ℕ) → eqb (k % 2) 1 ≡ false → kind_of m ≡ k → owner_of m ≡ me
  unfolding decode
  answer_owner k even e =
      let t : T (cond (eqb (kind_of m % 2) 1) (eqb (from_of m) (owner_of m)) (eqb (to_of m) (owner_of m))) = parts.0 in
      let u : T (cond (eqb (k % 2) 1) (eqb (from_of m) (owner_of m)) (eqb (to_of m) (owner_of m))) =
      subst (λ (j : ℕ). T (cond (eqb (j % 2) 1) (eqb (from_of m) (owner_of m)) (eqb (to_of m) (owner_of m)))) e t in
      let v : T (eqb (to_of m) (owner_of m)) = subst (λ (b : Bool). T (cond b (eqb (from_of m) (owner_of m)) (eqb (to_of m) (owner_of m)))) even u in
      sym (eqb→eq (to_of m) (owner_of m) v) ∙ g.to_me

  pub vote_owner : kind_of m ≡ vote → owner_of m ≡ me
  vote_owner = answer_owner vote refl

  rival_ok_lem : (i : ℕ) → i < rival_count m → T (rival_ok (kind_of m) (owner_of m) (to_of m) (rival_of m i))
  unfolding rivals_ok decode
  rival_ok_lem i h =
      let ok : Rival → Bool = rival_ok (kind_of m) (owner_of m) (to_of m) in
      let rs = items_from rival_at rival_size (rival_count m) m (rivals_place m) in
      let t : T (every ok rs) = and_right (ascend 0 (map (λ (r : Rival). r.owner) rs)) (every ok rs) parts.1 in
      on_cond (λ (r : Rival). T (ok r)) (ltb i (rival_count m)) (rival_at m (rivals_place m + rival_size * i)) no_rival
      (λ e. item_ok ok rival_at rival_size m (rival_count m) (rivals_place m) i t h)
      (λ e. absurd (subst T (sym (lt-ltb i (rival_count m) h) ∙ e) tt))

  pub rival_other : kind_of m ≡ vote → (i : ℕ) → i < rival_count m → (rival_of m i).owner ≡ me → ⊥
  unfolding rival_ok
  rival_other e i h d =
      let r = rival_of m i in
      let a = and_right (ltb r.owner nodes) _ (rival_ok_lem i h) in
      T_not (eqb r.owner (owner_of m)) (and_left (not (eqb r.owner (owner_of m))) _ a) (eq-T r.owner (owner_of m) (d ∙ sym (vote_owner e)))
