-- A station at rest goes over from the base's rules to 2.9's: "bookings committed under the earlier rule, before a conversion at rest, come
-- first and in their earlier order". Its decisions become what the base's replay was fed; nobody is held, so nothing else has to be shown.
use Rattle.std.specs.Prelude.{◌≡◌, refl, List, [], ◌∷◌}
use Rattle.std.proofs.Common.{sym, ◌∙◌, ap, subst, inl, inr}
use Rattle.protocol.specs.Table.{Suffix}
use Rattle.protocol.specs.Rules.{Node, Object}
use Rattle.protocol.specs.State.{Tx, History, State, Held}
use Rattle.protocol.specs.Replay.{replay, turn, committed?, committed_of}
use Rattle.protocol.specs.Invariant.{wrote, count, effect, Inv}
use Rattle.protocol.specs.Proof.Tables.{clash}
use Rattle.protocol.proofs.Tables.{on}
use Rattle.protocol.proofs.Lists.{in_suffix, not_committed, select_cases, select_in, in_select}
use Rattle.protocol.proofs.Lists.{in_front_of_select, select_once, replay_committed_of, select_all}
use Rattle.protocol.specs.Proof.Log.{LogInv}
use Rattle.protocol.proofs.Log.{root_voted}
use Rattle.protocol.specs.Tree.{TreeQuorums, tree_rules}
use Rattle.protocol.specs.Own.{own_rules}
use Rattle.protocol.specs.Refine.Convert.{tree_as_own, converted}

module _ {A : Type 0} (h : History A) where
  -- who is not committed neither counts nor changes what is held
  pub count_committed_of : (l : List Tx) (o : Object) → count (wrote h) (committed_of h l) o ≡ count (wrote h) l o
  count_committed_of [] o = refl
  count_committed_of (x ∷ l) o = on (select_cases (committed? h) x l)
      (λ z. rw (z.1, count_committed_of l o))
      (λ z. rw (z.1, not_committed (h.phase x) ((h.contents x).mode o) z.0) (count_committed_of l o))

  pub replay_committed : (z : A) (l : List Tx) (o : Object) → replay z (effect h) (committed_of h l) o ≡ replay z (effect h) l o
  replay_committed z l o = let again = select_all (committed? h) (committed_of h l) (λ x i. (in_select (committed? h) l x i).1) in
      replay_committed_of h z (committed_of h l) o ∙ ap (λ m. replay z (turn h.contents) m o) again ∙ sym (replay_committed_of h z l o)

  pub committed_of_end : (k l : List Tx) → Suffix k (committed_of h l) → (m : List Tx) × Suffix m l × (k ≡ committed_of h m)
  committed_of_end k [] s = ([], refl, s)
  committed_of_end k (x ∷ l) s = on (select_cases (committed? h) x l)
      (λ z. let r : Suffix k (x ∷ committed_of h l) = subst (Suffix k) z.1 s in
      on r (λ e. (x ∷ l, inl refl, e ∙ sym z.1)) (λ q. let w = committed_of_end k l q in (w.0, inr w.1, w.2)))
      (λ z. let w = committed_of_end k l (subst (Suffix k) z.1 s) in (w.0, inr w.1, w.2))

pub convert_ok : {A : Type 0} (z : A) (T : TreeQuorums) (σ : State A) (l : List Tx) → Inv (tree_rules z T) σ
    → LogInv (tree_rules z T) σ.votes σ.history σ.chain l → ((n : Node) (x : Tx) → Held σ.ends n x → ⊥)
    → Inv (own_rules z (tree_as_own T)) (converted σ l)
convert_ok z T σ l iv g rest = let v = iv.votes in let c = iv.chain in let h = σ.history in record {
  votes = record {
    v_asked = v.v_asked;
    v_all = v.v_all;
    v_good = v.v_good;
    v_then = v.v_then;
    v_late = v.v_late;
    v_held = v.v_held;
    v_applied = v.v_applied;
  };
  holds = record { h_one = λ n x y o p q w k. absurd (rest n x p); h_version = λ n x o p k. absurd (rest n x p); h_applied = iv.holds.h_applied };
  chain = record { c_copy = c.c_copy; c_sent = c.c_sent; c_found = c.c_found; c_blank = c.c_blank; c_source = c.c_source; c_new = c.c_new };
  order = record {
    o_committed = λ x i. (in_select (committed? h) l x i).1;
    o_decided = λ x p. select_in (committed? h) l x p (g.l_in x (root_voted (tree_rules z T) T.root_in σ iv x p));
    o_once = λ x m s i. select_once (committed? h) x l (g.l_once x) m s i;
    o_found = λ x m o s k. let e = in_front_of_select (committed? h) x m l s in
        let p = (in_select (committed? h) l x (in_suffix x (x ∷ m) (committed_of h l) s (inl refl))).1 in
        g.l_found x e.0 o e.1 k (λ a. clash (cc)) ∙ sym (ap (λ u. count (wrote h) u o) e.2 ∙ count_committed_of h e.0 o);
    o_value = λ m o s. let e = committed_of_end h m l s in
        rw (e.2, count_committed_of h e.0 o, replay_committed h z e.0 o) (g.l_value e.0 o e.1);
    o_length = λ o. g.l_length o ∙ sym (count_committed_of h l o);
  };
}
