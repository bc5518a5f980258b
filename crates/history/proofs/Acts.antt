-- A message at a replica is none, one or two transitions there. A fetch or a first ask lists the transaction; then the copy is sent, or the vote given.
use mathlib.Core.Path.{◌≡◌, refl, sym, ◌∙◌, ap, subst}
use mathlib.Core.Logic.{◌≢◌, ◌⊎◌, inl, inr, by_cases}
use mathlib.Core.Bool.{Bool, true, false, cond}
use mathlib.Core.List.{List, ◌∷◌}
use mathlib.Core.Option.{none, some}
use Prim.Native.Nat.{ℕ, zero, suc, ◌<◌, ◌≤◌}
use native.Mathlib.Decide.{ℕ_discrete}
use native.Mathlib.Numerals.{add-one}
use native.Mathlib.Omega.{arith}
use lib.Dec.{eqb, ltb}
use borrow.Author.Tests.{eqb-true, eqb-false, ltb-true, ltb-false, eq-eqb, ne_eqb, le-ltb}
use Rattle.numbers.specs.Sizes.{nodes, nobody, objects}
use Rattle.image.proofs.Each.{lt_or_le}
use Rattle.wire.specs.declared.Entry.{Entry}
use Rattle.wire.specs.Message.{Message}
use Rattle.wire.specs.Formed.{word_of}
use Rattle.image.specs.declared.Copy.{Copy}
use Rattle.image.specs.declared.Owner.{Owner}
use Rattle.image.specs.Layout.{shape, value, version, holder, author, author_serial, serial, state, copy_of, owner_of}
use Rattle.image.specs.Layout.{version_field, value_field}
use Rattle.image.specs.Change.{freeing}
use Rattle.image.proofs.Lens.{of_out}
use Rattle.judge.specs.Standing.{above_of, standing, active, entered}
use Rattle.judge.specs.Judge.{votes_no}
use Rattle.replica.specs.Steps.{fetch_image, ask_image, outcome_image}
use Rattle.replica.proofs.Delivered.{entries_of_lem, commit_raises}
use Rattle.replica.proofs.Fields.{restated, owner_with, mark_in}
use Rattle.replica.proofs.Holders.{writes_in, yes_passes, yes_only_free}
use Rattle.replica.proofs.Commits.{version_rises, commit_writes, commit_others}
use Rattle.replica.proofs.Kept.{keeps_entered, fresh_state, or_split}
use Rattle.replica.proofs.Taken.{Taken}
use Rattle.replica.proofs.After.{here_last, listed_owner, entered_copy, entered_owner, fetch_copy, fetch_owner, no_copy, no_owner, yes_copy, yes_owner}
use Rattle.replica.proofs.After.{commit_copy, abort_copy, outcome_owner, early_copy, early_owner}
use Rattle.coordinator.specs.System.{System}
use Rattle.steps.specs.Station.{Station, put_at, with_image}
use Rattle.protocol.specs.Table.{pick, In}
use Rattle.protocol.specs.State.{Tx, Tx-discrete, fresh, committed, aborted, over, listed, History, State, Writes, Touches, Held}
use Rattle.protocol.specs.Transitions.{do_list, CanList, list, do_copy, copy, do_no, vote_no, do_yes, CanYes, vote_yes, do_apply, CanApply, apply, do_drop}
use Rattle.protocol.specs.Transitions.{CanDrop}
use Rattle.protocol.specs.Transitions.{drop}
use Rattle.protocol.specs.Log.{logged}
use Rattle.protocol.proofs.Tree.{tree_free}
use Rattle.protocol.specs.Proof.Tables.{clash}
use Rattle.protocol.proofs.Tables.{on, put2_here}
use Rattle.protocol.proofs.Yes.{first_yes_lem}
use Rattle.protocol.specs.Refine.Authors.{by}
use Rattle.protocol.proofs.Refine.Holders.{nobody_else}
use Rattle.protocol.specs.Refine.Growth.{Late, Grows}
use Rattle.protocol.proofs.Refine.Growth.{step_grows, grows_same, grows_then}
use Rattle.history.specs.Sane.{Sane}
use Rattle.history.proofs.Quorums.{quorums, rules}
use Rattle.history.proofs.Sim.{state_of, holder_of, holders, author_of, Match, Sim}
use Rattle.history.proofs.Words.{tx_in}
use Rattle.history.proofs.Rows.{SameCopies, OneOwner, sim_lists, sim_listed, sim_sent, sim_refused, sim_held, sim_applied, sim_dropped, sim_twice}
use Rattle.history.proofs.Images.{copies_from, holders_from, owner_from, holder_some, holder_none, all_in, small_object, its_entry, written_in, not_in}
use Rattle.history.proofs.Images.{mark_taken, mark_left, freed_from, content_of, same_author, author_out, author_by}

-- ---- standings
fresh_by : (a b : Bool) (st : ℕ) → st ≤ 3 → cond a (above_of st) (cond b st 0) ≡ 4 → a ≡ true
fresh_by true b st h e = refl
fresh_by false true st h e = absurd (let z : ⊥ = omega arith in z)
fresh_by false false st h e = absurd (let z : ⊥ = omega arith in z)

pub fresh_above : (l : List ℕ) (m : Message) → state l m.owner ≤ 3 → standing l m ≡ 4 → serial l m.owner < m.serial
unfolding standing
fresh_above l m h e = ltb-true (serial l m.owner) m.serial
    (fresh_by (ltb (serial l m.owner) m.serial) (eqb (serial l m.owner) m.serial) (state l m.owner) h e)

pub active_cases : (l : List ℕ) (m : Message) → active l m ≡ true → (standing l m ≡ 1) ⊎ (standing l m ≡ 4)
unfolding active
active_cases l m = or_split ((standing l m ≡ 1) ⊎ (standing l m ≡ 4)) (eqb (standing l m) 1) (eqb (standing l m) 4)
    (λ e. inl (eqb-true (standing l m) 1 e)) (λ e. inr (eqb-true (standing l m) 4 e))

entered_listed : (l : List ℕ) (m : Message) → standing l m ≡ 1 → entered l m ≡ l
unfolding entered
entered_listed l m e = simp e

late_by : (a b : Bool) (st n s : ℕ) → ltb n s ≡ a → eqb n s ≡ b → cond a (above_of st) (cond b st 0) ≡ 0 → (s < n) ⊎ ((n ≡ s) × (st ≡ 0))
unfolding above_of
late_by true b st n s p q e = absurd (above_zero (eqb st 0) e)
  where
    above_zero : (t : Bool) → ◌≡◌ {A = ℕ} (cond t 4 5) 0 → ⊥
    above_zero true f = let z : ⊥ = omega arith in z
    above_zero false f = let z : ⊥ = omega arith in z
late_by false true st n s p q e = inr (eqb-true n s q, e)
late_by false false st n s p q e = inl (below n s (ltb-false n s p) (eqb-false n s q))
  where
    below : (n s : ℕ) → s ≤ n → (n ≡ s → ⊥) → s < n
    below n s h f = on (lt_or_le s n) (λ g. g) (λ g. absurd (f (omega arith)))

pub late_standing : (l : List ℕ) (m : Message) → standing l m ≡ 0 → (m.serial < serial l m.owner) ⊎
    ((serial l m.owner ≡ m.serial) × (state l m.owner ≡ 0))
unfolding standing
late_standing l m e = late_by (ltb (serial l m.owner) m.serial) (eqb (serial l m.owner) m.serial) (state l m.owner) (serial l m.owner)
    m.serial refl refl e

-- and the other way: how a transaction stands, from what is here
stands_by : (a b : Bool) (n s st : ℕ) → ltb n s ≡ a → eqb n s ≡ b → n ≡ s → cond a (above_of st) (cond b st 0) ≡ st
stands_by true b n s st p q e = absurd (let h = ltb-true n s p in let z : ⊥ = omega (arith, h, e) in z)
stands_by false true n s st p q e = refl
stands_by false false n s st p q e = absurd (eqb-false n s q e)

module _ (l : List ℕ) (m : Message) where
  -- the last one has its owner's state
  pub last_stands : serial l m.owner ≡ m.serial → standing l m ≡ state l m.owner
  unfolding standing
  last_stands e = stands_by (ltb (serial l m.owner) m.serial) (eqb (serial l m.owner) m.serial) (serial l m.owner) m.serial
      (state l m.owner) refl refl e

  pub behind_stands : (m.serial < serial l m.owner) ⊎ ((serial l m.owner ≡ m.serial) × (state l m.owner ≡ 0)) → standing l m ≡ 0
  unfolding standing
  behind_stands (inl h) = simp (
    le-ltb (serial l m.owner) m.serial (omega (arith, h)),
    ne_eqb (serial l m.owner) m.serial (λ e. let z : ⊥ = omega (arith, h, e) in z),
  )
  behind_stands (inr z) = last_stands z.0 ∙ z.1

-- what is read at the node whose image was changed
pub put_same : {A : Type 0} (f : ℕ → A) (n : ℕ) (v : A) → put_at f n v n ≡ v
unfolding put_at
put_same f n v = ap (λ (b : Bool). cond b v (f n)) (eq-eqb n n refl)

module _ {s : System} {sane : Sane s} (st : Station) (σ : State ℕ) (log : List Tx) (sim : Sim sane st σ log) (n : ℕ) (m : Message)
    (k : Taken (st.images n) m) where
  abbrev l : List ℕ
  l = st.images n

  abbrev o : ℕ
  o = m.owner

  abbrev x : Tx
  x = tx_in m

  small_state : state l o ≤ 3
  small_state = (k.sound.clauses.owners_sound o k.owner).small

  -- ---- listed, by a transition where it was not
  pub record Listing : Type 0 where
    pub state' : State ℕ
    pub sim' : Sim sane (with_image st n (entered l m)) state' log
    pub grown : Grows σ state'
    pub same_history : state'.history ≡ σ.history
    pub same_votes : state'.votes ≡ σ.votes

  still_listed : standing l m ≡ 1 → Listing
  still_listed e = record {
    state' = σ;
    sim' = subst (λ (i : List ℕ). Sim sane (with_image st n i) σ log) (sym (entered_listed l m e))
        (sim_lists st σ log sim n l (record { versions = λ t. refl; values = λ t. refl; authors = λ t. refl }) (λ t. refl) (λ w. refl) (λ w. refl));
    grown = grows_same σ;
    same_history = refl;
    same_votes = refl;
  }

  can_list : standing l m ≡ 4 → CanList σ n x
  can_list e = record {
    over = sim.reads.r_state n o ∙ ap state_of (fresh_state l m small_state e);
    above = subst (λ (s : ℕ). s < m.serial) (sym (sim.reads.r_last n o)) (fresh_above l m small_state e);
  }

  entered_same : SameCopies l (entered l m)
  entered_same = copies_from l (entered l m)
      (λ t p. ap content_of (entered_copy l m k.sound k.owner k.serial k.stamp k.fits t p))

  now_listed : active l m ≡ true → standing l m ≡ 4 → Listing
  now_listed a e =
      let s = list n x (can_list e) in
      record {
        state' = do_list σ n x;
        sim' = sim_listed st σ log sim n (entered l m) x (can_list e) entered_same
            (holders_from l (entered l m) (λ t p. ap (λ (y : Copy). y.holder) (entered_copy l m k.sound k.owner k.serial k.stamp k.fits t p)))
            (owner_from l (entered l m) o (listed_owner l m) k.owner
            (entered_owner l m k.sound k.owner k.serial k.stamp k.fits a));
        grown = step_grows {R = rules sane} s;
        same_history = refl;
        same_votes = refl;
      }

  pub listing : active l m ≡ true → Listing
  listing a = on (active_cases l m a) (λ e. still_listed e) (λ e. now_listed a e)

  -- ---- what a message brings about: the image k', and P of the state and the log after it
  pub record Acted (image : List ℕ) (P : State ℕ → List Tx → Type 0) : Type 0 where
    pub after : State ℕ
    pub log_after : List Tx
    pub sim_after : Sim sane (with_image st n image) after log_after
    pub grows : Grows σ after
    pub history_same : after.history ≡ σ.history
    pub told : P after log_after

  -- a message that changes nothing
  pub unmoved : (P : State ℕ → List Tx → Type 0) → P σ log → Acted l P
  unmoved P p = record {
    after = σ;
    log_after = log;
    sim_after = sim_lists st σ log sim n l (record { versions = λ t. refl; values = λ t. refl; authors = λ t. refl }) (λ t. refl) (λ w. refl) (λ w. refl);
    grows = grows_same σ;
    history_same = refl;
    told = p;
  }

  -- what is read of owner o at the node, in a station whose image there is i
  module _ (i : List ℕ) (τ : State ℕ) (l' : List Tx) (r : Sim sane (with_image st n i) τ l') where
    pub last_read : (w : ℕ) → τ.ends.last n w ≡ serial i w
    last_read w = r.reads.r_last n w ∙ ap (λ (y : List ℕ). serial y w) (put_same st.images n i)

    pub state_read : (w : ℕ) → τ.ends.state n w ≡ state_of (state i w)
    state_read w = r.reads.r_state n w ∙ ap (λ (y : List ℕ). state_of (state y w)) (put_same st.images n i)

    pub version_read : (t : ℕ) → τ.store.version n t ≡ version i t
    version_read t = r.reads.r_version n t ∙ ap (λ (y : List ℕ). version y t) (put_same st.images n i)

    pub value_read : (t : ℕ) → τ.store.value n t ≡ value i t
    value_read t = r.reads.r_value n t ∙ ap (λ (y : List ℕ). value y t) (put_same st.images n i)

  -- ---- fetch
  module _ (a : active l m ≡ true) where
    abbrev Z : Listing
    Z = listing a

    abbrev i₁ : List ℕ
    i₁ = entered l m

    abbrev st₁ : Station
    st₁ = with_image st n i₁

    -- an image that differs from the listed one as its law says, read at the node in st₁
    at_node : st₁.images n ≡ i₁
    at_node = put_same st.images n i₁

    -- an image whose copies have the content of those before, against the listed one; and its holders
    copies_of : (i j : List ℕ) → j ≡ i₁ → ((t : ℕ) → t < shape.objects → content_of (copy_of i t) ≡ content_of (copy_of l t)) → SameCopies j i
    copies_of i j e h = copies_from j i (λ t p.
        h t p ∙ sym (ap (λ (y : List ℕ). content_of (copy_of y t)) e
        ∙ ap content_of (entered_copy l m k.sound k.owner k.serial k.stamp k.fits t p)))

    holders_of : (i j : List ℕ) → j ≡ i₁ → ((t : ℕ) → t < shape.objects → (copy_of i t).holder ≡ (copy_of l t).holder) → (t : ℕ) → holder i t ≡ holder j t
    holders_of i j e h = holders_from j i (λ t p.
        h t p ∙ sym (ap (λ (y : List ℕ). (copy_of y t).holder) e
        ∙ ap (λ (y : Copy). y.holder) (entered_copy l m k.sound k.owner k.serial k.stamp k.fits t p)))

    fetch_view : (j : List ℕ) → j ≡ i₁ → SameCopies j (fetch_image l m)
    fetch_view j e = copies_of (fetch_image l m) j e (λ t p.
        ap content_of (fetch_copy l m k.sound k.owner k.serial k.stamp k.fits a t p))

    fetch_holders : (j : List ℕ) → j ≡ i₁ → (t : ℕ) → holder (fetch_image l m) t ≡ holder j t
    fetch_holders j e = holders_of (fetch_image l m) j e
        (λ t p. ap (λ (y : Copy). y.holder) (fetch_copy l m k.sound k.owner k.serial k.stamp k.fits a t p))

    fetch_owners : (j : List ℕ) → j ≡ i₁ → OneOwner j (fetch_image l m) o (serial j o) (state j o)
    unfolding owner_of
    fetch_owners j e = owner_from j (fetch_image l m) o (owner_of j o) k.owner (λ p q.
        fetch_owner l m k.sound k.owner k.serial k.stamp k.fits a p q
        ∙ sym (entered_owner l m k.sound k.owner k.serial k.stamp k.fits a p q)
        ∙ sym (ap (λ (y : List ℕ). owner_of y p) e) ∙ by p (eqb p o) refl)
      where
        by : (p : ℕ) (b : Bool) → eqb p o ≡ b → owner_of j p ≡ cond b (owner_of j o) (owner_of j p)
        by p true q = ap (owner_of j) (eqb-true p o q)
        by p false q = refl

    every_owner : {X : Type 0} (g : List ℕ → ℕ → X) (j i : List ℕ) → g i o ≡ g j o → ((w : ℕ) → (w ≡ o → ⊥) → g i w ≡ g j w) → (w : ℕ) → g i w ≡ g j w
    every_owner g j i here else w = by_cases (ℕ_discrete w o) (λ e. ap (g i) e ∙ here ∙ ap (g j) (sym e)) (λ e. else w e)

    joined_sim : Sim sane (with_image st n (fetch_image l m)) Z.state' log
    joined_sim =
        let f = fetch_owners (st₁.images n) at_node in
        sim_twice st Z.state' log n i₁ (fetch_image l m)
        (sim_lists st₁ Z.state' log Z.sim' n (fetch_image l m) (fetch_view _ at_node) (fetch_holders _ at_node)
        (every_owner (λ y w. serial y w) _ _ f.its_serial f.serials) (every_owner (λ y w. state y w) _ _ f.its_state f.states))

    -- the copy here, as it is sent
    pub fetched : (t : ℕ) → Acted (fetch_image l m) (λ τ l'. (l' ≡ log) × In (record { object = t; version = version l t; value = value l t }) τ.sent)
    fetched t = record {
      after = do_copy Z.state' n t;
      log_after = log;
      sim_after = sim_sent (with_image st n (fetch_image l m)) Z.state' log joined_sim n t;
      grows = grows_then Z.grown (step_grows {R = rules sane} (copy n t));
      history_same = Z.same_history;
      told = (
        refl,
        inl (λ i. record {
          object = t;
          version = sym (version_read i₁ Z.state' log Z.sim' t ∙ entered_same.versions t) i;
          value = sym (value_read i₁ Z.state' log Z.sim' t ∙ entered_same.values t) i;
        }),
      );
    }

    -- ---- a vote no
    no_view : (j : List ℕ) → j ≡ i₁ → votes_no i₁ m ≡ true → SameCopies j (ask_image l m)
    no_view j e v = copies_of (ask_image l m) j e (λ t p.
        ap content_of (no_copy l m k.sound k.owner k.serial k.stamp k.fits a v t p))

    no_holders : (j : List ℕ) → j ≡ i₁ → votes_no i₁ m ≡ true → (t : ℕ) → holder (ask_image l m) t ≡ holder j t
    no_holders j e v = holders_of (ask_image l m) j e
        (λ t p. ap (λ (y : Copy). y.holder) (no_copy l m k.sound k.owner k.serial k.stamp k.fits a v t p))

    -- a vote's owner: the serial stays, the state is the vote's
    voted_owner : (j : List ℕ) → j ≡ i₁ → (u : ℕ)
        → ((p : ℕ) → p < nodes → owner_of (ask_image l m) p ≡ cond (eqb p o) (restated u (listed_owner l m)) (owner_of l p))
        → OneOwner j (ask_image l m) o (serial j o) u
    unfolding owner_of
    voted_owner j e u h =
        let f : (p : ℕ) → p < nodes → owner_of j p ≡ cond (eqb p o) (listed_owner l m) (owner_of l p) =
        λ p q. ap (λ (y : List ℕ). owner_of y p) e ∙ entered_owner l m k.sound k.owner k.serial k.stamp k.fits a p q in
        let here : owner_of j o ≡ listed_owner l m = f o k.owner ∙ ap (λ (b : Bool). cond b (listed_owner l m) (owner_of l o)) (eq-eqb o o refl) in
        subst (λ (s : ℕ). OneOwner j (ask_image l m) o s u) (sym (ap (λ (y : Owner). y.serial) here))
        (owner_from j (ask_image l m) o (restated u (listed_owner l m)) k.owner
        (λ p q. h p q ∙ by p q (eqb p o) refl (f p q)))
      where
        by : (p : ℕ) → p < nodes → (b : Bool) → eqb p o ≡ b → owner_of j p ≡ cond b (listed_owner l m) (owner_of l p)
            → cond b (restated u (listed_owner l m)) (owner_of l p) ≡ cond b (restated u (listed_owner l m)) (owner_of j p)
        by p q true r f = refl
        by p q false r f = sym f

    is_listed : Z.state'.ends.state n o ≡ listed
    is_listed = state_read i₁ Z.state' log Z.sim' o ∙ ap state_of (keeps_entered l m k.sound k.owner k.serial k.stamp k.fits a).1

    pub voted_no : votes_no i₁ m ≡ true → Acted (ask_image l m) (λ τ l'. l' ≡ log)
    voted_no v = record {
      after = do_no Z.state' n x;
      log_after = log;
      sim_after = sim_twice st _ log n i₁ (ask_image l m)
          (sim_refused st₁ Z.state' log Z.sim' n (ask_image l m) x is_listed (no_view _ at_node v) (no_holders _ at_node v)
          (voted_owner _ at_node 3 (no_owner l m k.sound k.owner k.serial k.stamp k.fits a v)));
      grows = grows_then Z.grown (step_grows {R = rules sane} (vote_no n x is_listed));
      history_same = Z.same_history;
      told = refl;
    }

    -- ---- a vote yes
    module _ (v : votes_no i₁ m ≡ false) (asked : σ.history.phase x ≢ fresh) (match : Match (σ.history.contents x) m.entries) where
      abbrev τ : State ℕ
      τ = Z.state'

      match' : Match (τ.history.contents x) m.entries
      match' = subst (λ (h : History ℕ). Match (h.contents x) m.entries) (sym Z.same_history) match

      -- the entry of an object that is touched
      touched : (t : ℕ) → Touches τ.history.contents x t → (e : Entry) × In e m.entries × (e.object ≡ t)
      touched t w = match'.lists t w

      -- nobody else holds what is touched
      free_there : (e : Entry) → In e m.entries → (holder_of i₁ e.object ≡ none) ⊎ (holder_of i₁ e.object ≡ some o)
      free_there e i = on (all_in _ m.entries (yes_only_free i₁ m v) e i)
          (λ q. inl (holder_none e.object (holder i₁ e.object) q))
          (λ q. inr (ap (λ (h : ℕ). cond (ltb e.object objects) (cond (eqb h nobody) none (some h)) none) q
          ∙ holder_some e.object o (small_object m.kind m.entries (entries_of_lem m k.formed) e i) (λ z. let w : ⊥ = omega (arith, z, k.owner) in w)))

      nobody_holds : (t : ℕ) (y : Tx) → Held τ.ends n y → Writes τ.history.contents y t → Touches τ.history.contents x t → ⊥
      nobody_holds t y q w u =
          let z = touched t u in
          nobody_else (holders st₁) τ.ends τ.history.contents Z.sim'.kept.holders n x is_listed t
          (subst (λ (g : ℕ). (holder_of (st₁.images n) g ≡ none) ⊎ (holder_of (st₁.images n) g ≡ some o)) z.2
          (subst (λ (y : List ℕ). (holder_of y z.0.object ≡ none) ⊎ (holder_of y z.0.object ≡ some o)) (sym at_node) (free_there z.0 z.1)))
          y q w

      not_newer : (t : ℕ) → Touches τ.history.contents x t → τ.store.version n t ≤ (τ.history.contents x).version t
      not_newer t u =
          let z = touched t u in
          let a₁ = all_in _ m.entries (version_rises i₁ m (yes_passes i₁ m v).1.0) z.0 z.1 in
          let b₁ = match'.version_as z.0 z.1 in
          subst (λ (g : ℕ). τ.store.version n g ≤ (τ.history.contents x).version g) z.2
          (omega (arith, a₁, b₁, version_read i₁ τ log Z.sim' z.0.object))

      can_yes : CanYes (rules sane) τ n x
      can_yes = record {
        asked = λ e. asked (sym (ap (λ (h : History ℕ). h.phase x) Z.same_history) ∙ e);
        listed = is_listed;
        last = last_read i₁ τ log Z.sim' o ∙ entered_serial;
        free = tree_free 0 (quorums sane) τ.ends τ.history.contents n x nobody_holds;
        current = not_newer;
      }
        where
          entered_serial : serial i₁ o ≡ m.serial
          entered_serial = (owner_from l i₁ o (listed_owner l m) k.owner
              (entered_owner l m k.sound k.owner k.serial k.stamp k.fits a)).its_serial

      yes_view : (j : List ℕ) → j ≡ i₁ → SameCopies j (ask_image l m)
      yes_view j e = copies_of (ask_image l m) j e (λ t p.
          ap content_of (yes_copy l m k.sound k.owner k.serial k.stamp k.fits a v t p))

      -- the holder of an object that is there
      held_holder : (j : List ℕ) → j ≡ i₁ → (t : ℕ) → t < objects → holder (ask_image l m) t ≡ mark_in o m.entries t (holder j t)
      unfolding copy_of
      held_holder j e t p =
          ap (λ (y : Copy). y.holder) (yes_copy l m k.sound k.owner k.serial k.stamp k.fits a v t p)
          ∙ ap (mark_in o m.entries t) (sym (ap (λ (y : List ℕ). holder y t) e
          ∙ ap (λ (y : Copy). y.holder) (entered_copy l m k.sound k.owner k.serial k.stamp k.fits t p)))

      -- what is written is held by the owner, all else as it was
      holds_now : (t : ℕ) → Writes τ.history.contents x t → holder_of (ask_image l m) t ≡ some o
      holds_now t w =
          let z = its_entry (τ.history.contents x) m.entries match' t w in
          let p : t < objects = subst (λ (g : ℕ). g < objects) z.2 (small_object m.kind m.entries (entries_of_lem m k.formed) z.0 z.1) in
          ap (λ (h : ℕ). cond (ltb t objects) (cond (eqb h nobody) none (some h)) none)
          (held_holder i₁ refl t p ∙ mark_taken o t m.entries (holder i₁ t) (written_in (τ.history.contents x) m.entries match' t w))
          ∙ holder_some t o p (λ q. let y : ⊥ = omega (arith, q, k.owner) in y)

      holds_still : (j : List ℕ) → j ≡ i₁ → (t : ℕ) → (Writes τ.history.contents x t → ⊥) → holder_of (ask_image l m) t ≡ holder_of j t
      holds_still j e t w = on (lt_or_le t objects)
          (λ p. ap (λ (h : ℕ). cond (ltb t objects) (cond (eqb h nobody) none (some h)) none)
          (held_holder j e t p ∙ mark_left o t m.entries (holder j t) (not_in (τ.history.contents x) m.entries match' t w)))
          (λ p. let q = le-ltb t objects p in
          ap (λ (b : Bool). cond b (cond (eqb (holder (ask_image l m) t) nobody) none (some (holder (ask_image l m) t))) none) q
          ∙ sym (ap (λ (b : Bool). cond b (cond (eqb (holder j t) nobody) none (some (holder j t))) none) q))

      pub voted_yes_lem : Acted (ask_image l m) (λ τ' l'. (l' ≡ pick (ℕ_discrete n 0) (x ∷ log) log) × (τ'.votes.yes n x ≡ true) × (n ≡ 0 → In x log → ⊥))
      voted_yes_lem = record {
        after = do_yes τ n x;
        log_after = logged (vote_yes n x can_yes) log;
        sim_after = sim_twice st _ _ n i₁ (ask_image l m)
            (sim_held st₁ τ log Z.sim' n (ask_image l m) x can_yes (yes_view _ at_node)
            (voted_owner _ at_node 2 (yes_owner l m k.sound k.owner k.serial k.stamp k.fits a v)) holds_now (holds_still _ at_node));
        grows = grows_then Z.grown (step_grows (vote_yes n x can_yes));
        history_same = Z.same_history;
        told = (
          refl,
          put2_here ℕ_discrete Tx-discrete τ.votes.yes n x true,
          λ e i. first_yes_lem (rules sane) τ n x can_yes Z.sim'.kept.inv (ap (λ (g : ℕ). τ.votes.yes g x) e ∙ Z.sim'.kept.log.l_voted x i),
        );
      }

  -- ---- a vote again: what was voted stays so
  module _ (held-now : standing l m ≡ 2) where
    held_here : Held σ.ends n x
    held_here = let z = here_last l m (omega (arith, held-now)) (omega (arith, held-now)) in
        (sim.reads.r_last n o ∙ z.0, sim.reads.r_state n o ∙ ap state_of (sym z.1 ∙ held-now))

    pub voted_before : (σ.votes.yes n x ≡ true) × (n ≡ 0 → In x log)
    voted_before = let v = sim.kept.inv.votes.v_held n x held_here in
        (v, λ e. sim.kept.log.l_in x (ap (λ (g : ℕ). σ.votes.yes g x) (sym e) ∙ v))

  -- ---- an outcome
  -- late: nothing changes
  pub late_here : standing l m ≡ 0 → Late σ.ends n x
  late_here e = on (late_standing l m e)
      (λ q. inl (subst (λ (s : ℕ). m.serial < s) (sym (sim.reads.r_last n o)) q))
      (λ q. inr (sim.reads.r_last n o ∙ q.0, sim.reads.r_state n o ∙ ap state_of q.1))

  -- and the other way
  pub here_late : Late σ.ends n x → standing l m ≡ 0
  here_late z = behind_stands l m (on z
      (λ q. inl (subst (λ (s : ℕ). m.serial < s) (sim.reads.r_last n o) q))
      (λ q. inr (sym (sim.reads.r_last n o) ∙ q.0, over_zero (state l o) (sym (sim.reads.r_state n o) ∙ q.1))))
    where
      over_zero : (k : ℕ) → state_of k ≡ over → k ≡ 0
      over_zero zero e = refl
      over_zero (suc zero) e = absurd (clash (cc))
      over_zero (suc (suc zero)) e = absurd (clash (cc))
      over_zero (suc (suc (suc k))) e = absurd (clash (cc))

  -- an image after which the owner is over with the message's serial: the done is true
  over_late : (i : List ℕ) (τ : State ℕ) (l' : List Tx) → Sim sane (with_image st n i) τ l' → serial i o ≡ m.serial → state i o ≡ 0 → Late τ.ends n x
  over_late i τ l' s a b = inr (last_read i τ l' s o ∙ a, state_read i τ l' s o ∙ ap state_of b)

  -- the owner is over: serial s, all others as they were
  over_owner : (s : ℕ) (w : Owner) → w.serial ≡ s → w.state ≡ 0 → ((p : ℕ) → p < nodes → owner_of (outcome_image l m) p ≡ cond (eqb p o) w (owner_of l p))
      → OneOwner l (outcome_image l m) o s 0
  over_owner s w a b h = subst (λ (u : ℕ). OneOwner l (outcome_image l m) o s u) b
      (subst (λ (g : ℕ). OneOwner l (outcome_image l m) o g w.state) a (owner_from l (outcome_image l m) o w k.owner h))

  -- an early abort
  module _ (early : standing l m ≡ 4) (aborted-now : σ.history.phase x ≡ aborted) where
    early_drop : CanDrop σ n x
    early_drop = record { phase = aborted-now; fits = inr ((can_list early).above, (can_list early).over) }

    not_holder : (t : ℕ) → t < objects → holder l t ≡ o → ⊥
    not_holder t p e = on (k.sound.clauses.copies_sound t p).holding
        (λ q. let z : ⊥ = omega (arith, e, q, k.owner) in z)
        (λ q. let r = fresh_state l m small_state early in let z : state l o ≡ 2 = ap (state l) (sym e) ∙ q.1 in let y : ⊥ = omega (arith, r, z) in y)

    unfreed : (t : ℕ) → t < objects → (copy_of (outcome_image l m) t).holder ≡ freeing o (copy_of l t).holder
    unfolding copy_of
    unfreed t p = ap (λ (y : Copy). y.holder) (early_copy l m k.sound k.owner k.serial k.stamp k.fits early t p)
        ∙ sym (ap (λ (b : Bool). cond b nobody (holder l t)) (ne_eqb (holder l t) o (not_holder t p)))

    one_early : OneOwner l (outcome_image l m) o m.serial 0
    one_early = over_owner m.serial (owner_with m.serial 0 m.stamp) refl refl
        (early_owner l m k.sound k.owner k.serial k.stamp k.fits early)

    early_sim : Sim sane (with_image st n (outcome_image l m)) (do_drop σ n x) log
    early_sim = sim_dropped st σ log sim n (outcome_image l m) x early_drop
        (copies_from l (outcome_image l m) (λ t p. ap content_of (early_copy l m k.sound k.owner k.serial k.stamp k.fits early t p)))
        one_early (freed_from l (outcome_image l m) o k.owner unfreed)

    pub dropped_early : Acted (outcome_image l m) (λ τ l'. (l' ≡ log) × Late τ.ends n x)
    dropped_early = record {
      after = do_drop σ n x;
      log_after = log;
      sim_after = early_sim;
      grows = step_grows {R = rules sane} (drop n x early_drop);
      history_same = refl;
      told = (refl, over_late (outcome_image l m) (do_drop σ n x) log early_sim one_early.its_serial one_early.its_state);
    }

  -- an outcome of the transaction that is here
  module _ (low : 1 ≤ standing l m) (high : standing l m ≤ 3) where
    abbrev last : (serial l o ≡ m.serial) × (standing l m ≡ state l o)
    last = here_last l m low high

    one_over : OneOwner l (outcome_image l m) o (serial l o) 0
    unfolding owner_of
    one_over = over_owner (serial l o) (restated 0 (owner_of l o)) refl refl (λ p q.
        outcome_owner l m k.sound k.owner k.serial k.stamp k.fits low high p q ∙ by p (eqb p o) refl)
      where
        by : (p : ℕ) (b : Bool) → eqb p o ≡ b → cond b (restated 0 (owner_of l p)) (owner_of l p) ≡ cond b (restated 0 (owner_of l o)) (owner_of l p)
        by p true q = ap (λ (y : ℕ). restated 0 (owner_of l y)) (eqb-true p o q)
        by p false q = refl

    -- an abort
    module _ (word : word_of m ≡ 0) (aborted-now : σ.history.phase x ≡ aborted) where
      here_drop : CanDrop σ n x
      here_drop = record { phase = aborted-now; fits = inl (sim.reads.r_last n o ∙ last.0) }

      abort_sim : Sim sane (with_image st n (outcome_image l m)) (do_drop σ n x) log
      abort_sim = sim_dropped st σ log sim n (outcome_image l m) x here_drop
          (copies_from l (outcome_image l m) (λ t p. ap content_of (abort_copy l m k.sound k.owner k.serial k.stamp k.fits low high word t p)))
          (subst (λ (s : ℕ). OneOwner l (outcome_image l m) o s 0) last.0 one_over)
          (freed_from l (outcome_image l m) o k.owner
          (λ t p. ap (λ (y : Copy). y.holder) (abort_copy l m k.sound k.owner k.serial k.stamp k.fits low high word t p)))

      pub dropped_here : Acted (outcome_image l m) (λ τ l'. (l' ≡ log) × Late τ.ends n x)
      dropped_here = record {
        after = do_drop σ n x;
        log_after = log;
        sim_after = abort_sim;
        grows = step_grows {R = rules sane} (drop n x here_drop);
        history_same = refl;
        told = (refl, over_late (outcome_image l m) (do_drop σ n x) log abort_sim (one_over.its_serial ∙ last.0) one_over.its_state);
      }

    -- a commit, which is held
    module _ (kind : m.kind ≡ 5) (is_held_lem : standing l m ≡ 2) (word : word_of m ≡ 1) (committed-now : σ.history.phase x ≡ committed)
        (match : Match (σ.history.contents x) m.entries) where
      can_apply : CanApply σ n x
      can_apply = record { phase = committed-now; here = held_here is_held_lem }

      -- the author of each copy, by what the entries write
      signed_now : (t : ℕ) → t < objects
          → (author (outcome_image l m) t ≡ mark_in o m.entries t (author l t))
          × (author_serial (outcome_image l m) t ≡ mark_in m.serial m.entries t (author_serial l t))
      unfolding copy_of
      signed_now t p =
          let c = commit_copy l m k.sound k.owner k.serial k.stamp k.fits is_held_lem word (commit_raises m k.formed kind) t p in
          (ap (λ (y : Copy). y.author) c, ap (λ (y : Copy). y.serial) c)

      is_author : (t : ℕ) → t < objects → Writes σ.history.contents x t → author_of (outcome_image l m) t ≡ by x
      is_author t p w =
          let a = signed_now t p in
          let e = written_in (σ.history.contents x) m.entries match t w in
          author_by (outcome_image l m) t o m.serial p k.owner (a.0 ∙ mark_taken o t m.entries (author l t) e)
          (a.1 ∙ mark_taken m.serial t m.entries (author_serial l t) e)

      still_author : (t : ℕ) → t < objects → writes_in m.entries t ≡ false → author_of (outcome_image l m) t ≡ author_of l t
      still_author t p e =
          let a = signed_now t p in
          same_author l (outcome_image l m) t (a.0 ∙ mark_left o t m.entries (author l t) e)
          (a.1 ∙ mark_left m.serial t m.entries (author_serial l t) e)

      now_stored : (t : ℕ) → Writes σ.history.contents x t
          → (version (outcome_image l m) t ≡ suc ((σ.history.contents x).version t)) × (value (outcome_image l m) t ≡ (σ.history.contents x).new t)
          × (author_of (outcome_image l m) t ≡ by x)
      now_stored t w =
          let z = its_entry (σ.history.contents x) m.entries match t w in
          let c = all_in _ m.entries (commit_writes l m k kind is_held_lem word) z.0 z.1 (eqb-false z.0.mode 0 z.3) in
          let v = match.version_as z.0 z.1 in
          let u = match.new_as z.0 z.1 (ap (σ.history.contents x).mode z.2 ∙ w) in
          let a = subst (λ (g : ℕ). (version (outcome_image l m) g ≡ suc ((σ.history.contents x).version g)) ×
          (value (outcome_image l m) g ≡ (σ.history.contents x).new g))
          z.2 (c.1 ∙ add-one z.0.version ∙ ap suc (sym v), c.0 ∙ sym u) in
          let p : t < objects = subst (λ (g : ℕ). g < objects) z.2 (small_object m.kind m.entries (entries_of_lem m k.formed) z.0 z.1) in
          (a.0, a.1, is_author t p w)

      still_stored : (t : ℕ) → (Writes σ.history.contents x t → ⊥)
          → (version (outcome_image l m) t ≡ version l t) × (value (outcome_image l m) t ≡ value l t)
          × (author_of (outcome_image l m) t ≡ author_of l t)
      still_stored t w = on (lt_or_le t objects)
          (λ p. let e = not_in (σ.history.contents x) m.entries match t w in
          let c = commit_others l m k kind is_held_lem word t p e in (c.1, c.0, still_author t p e))
          (λ p. (
            of_out (version_field shape) _ t p ∙ sym (of_out (version_field shape) l t p),
            of_out (value_field shape) _ t p ∙ sym (of_out (value_field shape) l t p),
            author_out (outcome_image l m) t p ∙ sym (author_out l t p),
          ))

      freed_now : (t : ℕ) → t < objects → (copy_of (outcome_image l m) t).holder ≡ freeing o (copy_of l t).holder
      freed_now t p = ap (λ (y : Copy). y.holder)
          (commit_copy l m k.sound k.owner k.serial k.stamp k.fits is_held_lem word (commit_raises m k.formed kind) t p)

      commit_sim : Sim sane (with_image st n (outcome_image l m)) (do_apply σ n x) log
      commit_sim = sim_applied st σ log sim n (outcome_image l m) x can_apply one_over
          (freed_from l (outcome_image l m) o k.owner freed_now) now_stored still_stored

      pub applied_here : Acted (outcome_image l m) (λ τ l'. (l' ≡ log) × Late τ.ends n x)
      applied_here = record {
        after = do_apply σ n x;
        log_after = log;
        sim_after = commit_sim;
        grows = step_grows {R = rules sane} (apply n x can_apply);
        history_same = refl;
        told = (refl, over_late (outcome_image l m) (do_apply σ n x) log commit_sim (one_over.its_serial ∙ last.0) one_over.its_state);
      }
