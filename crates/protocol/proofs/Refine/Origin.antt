-- A state that did not begin blank: at rest, with a list of transactions that committed before, newest first. From what it brings along (Brought)
-- follow the invariant and the log, with that list as the decisions and as the log; so the claims hold of it and of whatever follows.
use Rattle.std.specs.Prelude.{◌≡◌, Bool, ℕ, suc, ◌≤◌}
use Rattle.std.proofs.Math.Path.{refl, ap}
use Rattle.std.proofs.Common.{sym, ◌∙◌, subst, inr, arith}
use Rattle.std.proofs.Math.Logic.{inl}
use mathlib.Core.List.{List, [], ◌∷◌}
use Rattle.std.proofs.Math.Bool.{true, false, cond}
use Rattle.std.proofs.Math.Decide.{ℕ_discrete}
use Rattle.protocol.specs.Table.{pick, In, Suffix}
use Rattle.protocol.specs.Rules.{Node, Object, Mode, unused, read, write, Rules}
use Rattle.protocol.specs.State.{Tx, Phase, committed, Store, Ends, History, Writes, Touches}
use Rattle.protocol.specs.Replay.{replay}
use Rattle.protocol.specs.Chain.{Entry}
use Rattle.protocol.specs.Claims.{Sourced}
use Rattle.protocol.specs.Invariant.{committed_write, wrote, count, Inv}
use Rattle.protocol.specs.Proof.Tables.{clash}
use Rattle.protocol.proofs.Tables.{on, pick_cases}
use Rattle.protocol.proofs.Yes.{writes_touches}
use Rattle.protocol.specs.Log.{RootInAll}
use Rattle.protocol.specs.Rules.{root}
use Rattle.protocol.specs.Proof.Log.{LogInv}
use Rattle.protocol.proofs.Lists.{in_suffix, in_front, suffix_whole, suffix_tail, count_ext, count_suffix}
use Rattle.protocol.specs.Refine.Origin.{values_of, chain_of, Brought, is_committed, cast_by, origin}

module _ {A : Type 0} (w : Tx → Object → Bool) (new : Tx → Object → A) (z : A) where
  -- the values of a list that grew are those that it had
  values_more : (x : Tx) (l : List Tx) (o : Object) (i : ℕ) → i ≤ count w l o → values_of w new z (x ∷ l) o i ≡ values_of w new z l o i
  unfolding values_of
  values_more x l o i le = by (w x o)
    where
      by : (b : Bool)
          → cond b (pick (ℕ_discrete i (suc (count w l o))) (new x o) (values_of w new z l o i)) (values_of w new z l o i) ≡ values_of w new z l o i
      by true = on (pick_cases (ℕ_discrete i (suc (count w l o))) (new x o) (values_of w new z l o i))
          (λ y. let e = y.0 in absurd (let q : ⊥ = omega (arith, e, le) in q)) (λ y. y.1)
      by false = refl

  pub values_end : (m l : List Tx) (o : Object) (i : ℕ) → Suffix m l → i ≤ count w m o → values_of w new z l o i ≡ values_of w new z m o i
  values_end m [] o i e le = ap (λ (k : List Tx). values_of w new z k o i) (sym e)
  values_end m (x ∷ l) o i (inl e) le = ap (λ (k : List Tx). values_of w new z k o i) (sym e)
  values_end m (x ∷ l) o i (inr s) le =
      let c = count_suffix w m l o s in values_more x l o i (omega (arith, c, le)) ∙ values_end m l o i s le

  -- what a writer wrote stands behind those before it
  pub values_at : (x : Tx) (m l : List Tx) (o : Object) → Suffix (x ∷ m) l → w x o ≡ true → values_of w new z l o (suc (count w m o)) ≡ new x o
  unfolding values_of
  values_at x m l o q v = values_end (x ∷ m) l o (suc (count w m o)) q one_more
      ∙ ap (λ (t : Bool). cond t (pick (ℕ_discrete (suc (count w m o)) (suc (count w m o))) (new x o) rest) rest) v
      ∙ on (pick_cases (ℕ_discrete (suc (count w m o)) (suc (count w m o))) (new x o) rest) (λ y. y.1) (λ y. absurd (y.0 refl))
    where
      rest : A
      rest = values_of w new z m o (suc (count w m o))

      one_more : suc (count w m o) ≤ count w (x ∷ m) o
      one_more = let c = ap (λ (t : Bool). cond t (suc (count w m o)) (count w m o)) v in omega (arith, c)

  -- the last of them is what is held after all turns
  pub values_last : (l : List Tx) (o : Object) → values_of w new z l o (count w l o) ≡ replay z (λ x t a. cond (w x t) (new x t) a) l o
  unfolding values_of
  values_last [] o = refl
  values_last (x ∷ l) o = by (w x o) (values_last l o)
    where
      rest : List Tx → Object → A
      rest k t = replay z (λ y u a. cond (w y u) (new y u) a) k t

      by : (b : Bool) → values_of w new z l o (count w l o) ≡ rest l o → cond b
          (pick (ℕ_discrete (cond b (suc (count w l o)) (count w l o)) (suc (count w l o))) (new x o)
          (values_of w new z l o (cond b (suc (count w l o)) (count w l o))))
          (values_of w new z l o (cond b (suc (count w l o)) (count w l o)))
          ≡ cond b (new x o) (rest l o)
      by true ih = on (pick_cases (ℕ_discrete (suc (count w l o)) (suc (count w l o))) (new x o)
          (values_of w new z l o (suc (count w l o)))) (λ y. y.1) (λ y. absurd (y.0 refl))
      by false ih = ih

  -- they read only the members of the list
  pub values_ext : (w' : Tx → Object → Bool) (new' : Tx → Object → A) (l : List Tx) (o : Object) (i : ℕ)
      → ((x : Tx) → In x l → w' x o ≡ w x o) → ((x : Tx) → In x l → new' x o ≡ new x o) → values_of w' new' z l o i ≡ values_of w new z l o i
  unfolding values_of
  values_ext w' new' [] o i p q = refl
  values_ext w' new' (x ∷ l) o i p q = rw (
    p x (inl refl),
    q x (inl refl),
    count_ext w w' l o (λ y j. p y (inr j)),
    values_ext w' new' l o i (λ y j. p y (inr j)) (λ y j. q y (inr j)),
  )

module _ {A : Type 0} (R : Rules A) (s : Store A) (e : Ends) (h : History A) (b : Brought R s e h) where
  abbrev l : List Tx
  l = h.decisions

  abbrev w : Tx → Object → Bool
  w = wrote h

  abbrev new : Tx → Object → A
  new x = (h.contents x).new

  cast_true : (n : Node) (x : Tx) → cast_by h n x ≡ true → (h.phase x ≡ committed) × ((h.contents x).participants n ≡ true)
  cast_true n x = by (h.phase x) refl
    where
      by : (p : Phase) → h.phase x ≡ p → cond (is_committed p) ((h.contents x).participants n) false ≡ true
          → (h.phase x ≡ committed) × ((h.contents x).participants n ≡ true)
      by Phase.fresh q v = absurd (clash (cc))
      by Phase.voting q v = absurd (clash (cc))
      by Phase.committed q v = (q, v)
      by Phase.aborted q v = absurd (clash (cc))

  cast_by_lem : (n : Node) (x : Tx) → h.phase x ≡ committed → (h.contents x).participants n ≡ true → cast_by h n x ≡ true
  cast_by_lem n x p q = rw (p) q

  -- a committed writer counts
  writer_counts : (x : Tx) (o : Object) → h.phase x ≡ committed → Writes h.contents x o → w x o ≡ true
  writer_counts x o p q = rw (p, q) refl

  -- who writes an entry
  entry_sourced : (m : List Tx) (o : Object) (i : ℕ) → Suffix m l → Sourced R h o (values_of w new R.blank m o i)
  unfolding values_of
  entry_sourced [] o i q = inl refl
  entry_sourced (x ∷ m) o i q = by (entry_sourced m o i (suffix_tail x m l q)) (w x o) refl
    where
      wrote_it : committed_write (h.phase x) ((h.contents x).mode o) ≡ true → (h.phase x ≡ committed) × Writes h.contents x o
      wrote_it = go (h.phase x) ((h.contents x).mode o) refl refl
        where
          go : (p : Phase) (k : Mode) → h.phase x ≡ p → (h.contents x).mode o ≡ k → committed_write p k ≡ true
              → (h.phase x ≡ committed) × Writes h.contents x o
          go Phase.fresh k a c v = absurd (clash (cc))
          go Phase.voting k a c v = absurd (clash (cc))
          go Phase.aborted k a c v = absurd (clash (cc))
          go Phase.committed unused a c v = absurd (clash (cc))
          go Phase.committed read a c v = absurd (clash (cc))
          go Phase.committed write a c v = (a, c)

      by : Sourced R h o (values_of w new R.blank m o i) → (t : Bool) → w x o ≡ t
          → Sourced R h o (cond t (pick (ℕ_discrete i (suc (count w m o))) (new x o) (values_of w new R.blank m o i)) (values_of w new R.blank m o i))
      by rest true v = on (pick_cases (ℕ_discrete i (suc (count w m o))) ((h.contents x).new o) (values_of w new R.blank m o i))
          (λ y. let k = wrote_it v in inr (x, k.0, k.1, y.1)) (λ y. subst (Sourced R h o) (sym y.1) rest)
      by rest false v = rest

  -- the first entry is blank
  values_zero : (m : List Tx) (o : Object) → values_of w new R.blank m o 0 ≡ R.blank
  unfolding values_of
  values_zero [] o = refl
  values_zero (x ∷ m) o = by (values_zero m o) (w x o)
    where
      by : values_of w new R.blank m o 0 ≡ R.blank → (t : Bool)
          → cond t (pick (ℕ_discrete 0 (suc (count w m o))) (new x o) (values_of w new R.blank m o 0)) (values_of w new R.blank m o 0) ≡ R.blank
      by ih true = on (pick_cases (ℕ_discrete 0 (suc (count w m o))) ((h.contents x).new o) (values_of w new R.blank m o 0))
          (λ y. let q = y.0 in absurd (let v : ⊥ = omega (arith, q) in v)) (λ y. y.1 ∙ ih)
      by ih false = ih

  -- what a writer wrote stands behind what it found
  writer_entry : (x : Tx) (m : List Tx) (o : Object) → Suffix (x ∷ m) l → w x o ≡ true
      → (suc (count w m o) ≤ count w l o) × ((h.contents x).new o ≡ values_of w new R.blank l o (suc (count w m o)))
  writer_entry x m o q v =
      let c : count w (x ∷ m) o ≡ suc (count w m o) = ap (λ (t : Bool). cond t (suc (count w m o)) (count w m o)) v in
      let d = count_suffix w (x ∷ m) l o q in
      (omega (arith, c, d), sym (values_at w new R.blank x m l o q v))

  pub origin_ok : Inv R (origin R s e h)
  origin_ok = record {
    votes = record {
      v_asked = λ n x v f. let k = cast_true n x v in clash (cc);
      v_all = cast_by_lem;
      v_good = λ x a. on (b.b_over x a) (λ p. inl (b.b_good x p)) (λ p. inr p);
      v_then = λ n x v. inr (inr v);
      v_late = λ n x v. let k = cast_true n x v in (b.b_last n x k.0 k.1, λ q f. let r = b.b_rest n x.owner in clash (cc));
      v_held = λ n x q. let r = b.b_rest n x.owner in let f = q.1 in absurd (clash (cc));
      v_applied = λ n x v. (cast_true n x v).0;
    };
    holds = record {
      h_one = λ n x y o p q f g. let r = b.b_rest n x.owner in let u = p.1 in absurd (clash (cc));
      h_version = λ n x o p k. let r = b.b_rest n x.owner in let u = p.1 in absurd (clash (cc));
      h_applied = λ n x o v f. let k = cast_true n x v in b.b_stored n x o k.0 k.1 f;
    };
    chain = record {
      c_copy = b.b_copy;
      c_sent = λ c i. absurd i;
      c_found = λ x o t. found_entry x o t;
      c_blank = λ o. values_zero l o;
      c_source = λ o i q. entry_sourced l o i (suffix_whole l);
      c_new = λ x o p f. let y = in_front x l (b.b_decided x p) in let c = writer_entry x y.0 o y.1 (writer_counts x o p f) in
          let v = b.b_version x y.0 o y.1 (writes_touches h.contents x o f) in
          (subst (λ (k : ℕ). suc k ≤ count w l o) (sym v) c.0, c.1 ∙ ap (λ (k : ℕ). values_of w new R.blank l o (suc k)) (sym v));
    };
    order = record {
      o_committed = b.b_committed;
      o_decided = b.b_decided;
      o_once = b.b_once;
      o_found = λ x m o q k. b.b_version x m o q (R.keeps_touched ((h.contents x).mode o) k);
      o_value = λ m o q. values_end w new R.blank m l o (count w m o) q (omega arith) ∙ values_last w new R.blank m o;
      o_length = λ o. refl;
    };
  }
    where
      not_unused : (x : Tx) (o : Object) → Touches h.contents x o
          → (h.phase x ≡ committed → Entry (chain_of R h) o ((h.contents x).version o) ((h.contents x).found o))
          → Entry (chain_of R h) o ((h.contents x).version o) ((h.contents x).found o)
      not_unused x o t f = go (h.phase x) refl
        where
          go : (p : Phase) → h.phase x ≡ p → Entry (chain_of R h) o ((h.contents x).version o) ((h.contents x).found o)
          go Phase.fresh q = absurd (t (b.b_unused x o (λ c. clash (cc))))
          go Phase.voting q = absurd (t (b.b_unused x o (λ c. clash (cc))))
          go Phase.committed q = f q
          go Phase.aborted q = absurd (t (b.b_unused x o (λ c. clash (cc))))

      found_entry : (x : Tx) (o : Object) → Touches h.contents x o → Entry (chain_of R h) o ((h.contents x).version o) ((h.contents x).found o)
      found_entry x o t = not_unused x o t (λ p.
          let y = in_front x l (b.b_decided x p) in let m = y.0 in
          let v = b.b_version x m o y.1 t in let f = b.b_found x m o y.1 t in
          let q = suffix_tail x m l y.1 in
          let c = count_suffix w m l o q in (
            omega (arith, v, c),
            f ∙ sym (values_last w new R.blank m o) ∙ sym (values_end w new R.blank m l o (count w m o) q (omega arith))
                ∙ ap (values_of w new R.blank l o) (sym v),
          ))

  -- the same list as the base's log
  pub origin_log : RootInAll R → LogInv R (origin R s e h).votes h (chain_of R h) h.decisions
  origin_log top = record {
    l_in = λ x v. b.b_decided x (cast_true root x v).0;
    l_voted = voted;
    l_once = b.b_once;
    l_found = λ x m o q t a. b.b_version x m o q t;
    l_lock = λ x m y o q i f t. inr (voted y (in_suffix y m l (suffix_tail x m l q) i));
    l_value = λ m o q. values_end w new R.blank m l o (count w m o) q (omega arith) ∙ values_last w new R.blank m o;
    l_length = λ o. refl;
  }
    where
      voted : (x : Tx) → In x l → cast_by h root x ≡ true
      voted x i = let p = b.b_committed x i in cast_by_lem root x p (top (h.contents x).participants (b.b_good x p))
