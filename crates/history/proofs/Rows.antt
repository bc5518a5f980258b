-- A replica's transition: one node's image changes, and what is read off it is what the transition says. One lemma for each transition, over any
-- image that reads so.
use mathlib.Core.Path.{◌≡◌, refl, sym, ◌∙◌, ap, subst}
use mathlib.Core.Logic.{inl, by_cases}
use mathlib.Core.Bool.{Bool, true, false, cond}
use mathlib.Core.List.{List}
use mathlib.Core.Option.{none, some}
use Prim.Native.Nat.{ℕ, suc}
use native.Mathlib.Decide.{ℕ_discrete}
use lib.Dec.{eqb, ltb}
use borrow.Author.Tests.{eqb-true, eqb-false}
use Rattle.numbers.specs.Sizes.{nobody, objects}
use Rattle.image.specs.Layout.{value, version, holder, serial, state}
use Rattle.coordinator.specs.System.{System}
use Rattle.steps.specs.Station.{Station, put_at, with_image}
use Rattle.protocol.specs.Table.{put2, put_row}
use Rattle.protocol.specs.State.{Tx, State, Writes, writes?}
use Rattle.protocol.specs.Transitions.{do_list, CanList, do_copy, do_yes, CanYes, do_no, CanNo, do_apply, CanApply, do_drop, CanDrop}
use Rattle.protocol.specs.Transitions.{Step, list, copy, vote_yes, vote_no, apply, drop}
use Rattle.protocol.specs.Log.{logged}
use Rattle.protocol.proofs.Tables.{on, put2_cases, put_row_cases}
use Rattle.protocol.proofs.Refine.Growth.{step_grows}
use Rattle.protocol.specs.Refine.Authors.{by}
use Rattle.protocol.proofs.Refine.Authors.{authored_as_read}
use Rattle.protocol.specs.Refine.Holders.{holds?, freed}
use Rattle.protocol.proofs.Refine.Holders.{holders_as_read}
use Rattle.history.specs.Sane.{Sane}
use Rattle.history.proofs.Quorums.{rules}
use Rattle.history.proofs.Sim.{state_of, holder_of, holders, author_of, authors, Owner, Sim}
use Rattle.history.proofs.Carry.{onward, owner_on, by_one}

-- ---- one image changed, as rows of tables: f is the table, g what is read off an image
put_at_lem : {A : Type 0} (P : A → Type 0) (f : ℕ → A) (n : ℕ) (v : A) (i : ℕ) → (i ≡ n → P v) → ((i ≡ n → ⊥) → P (f i)) → P (put_at f n v i)
unfolding put_at
put_at_lem P f n v i p q = by (eqb i n) refl
  where
    by : (t : Bool) → eqb i n ≡ t → P (cond t v (f i))
    by true e = p (eqb-true i n e)
    by false e = q (eqb-false i n e)

module _ {X : Type 0} (g : List ℕ → ℕ → X) (f : ℕ → ℕ → X) (images : ℕ → List ℕ) (n : ℕ) (l : List ℕ) (reads : (i j : ℕ) → f i j ≡ g (images i) j) where
  pub row_same : ((j : ℕ) → g l j ≡ g (images n) j) → (i j : ℕ) → f i j ≡ g (put_at images n l i) j
  row_same same i j =
      put_at_lem (λ (m : List ℕ). f i j ≡ g m j) images n l i
      (λ e. reads i j ∙ ap (λ (k : ℕ). g (images k) j) e ∙ sym (same j)) (λ e. reads i j)

  pub row_put2 : (o : ℕ) (v : X) → g l o ≡ v → ((j : ℕ) → (j ≡ o → ⊥) → g l j ≡ g (images n) j)
      → (i j : ℕ) → put2 ℕ_discrete ℕ_discrete f n o v i j ≡ g (put_at images n l i) j
  row_put2 o v here else i j = on (put2_cases ℕ_discrete ℕ_discrete f n o v i j)
      (λ z. z.1 ∙ put_at_lem (λ (m : List ℕ). v ≡ g m j) images n l i (λ e. sym (ap (g l) z.0.1 ∙ here)) (λ e. absurd (e z.0.0)))
      (λ z. z.1 ∙ put_at_lem (λ (m : List ℕ). f i j ≡ g m j) images n l i
      (λ e. reads i j ∙ ap (λ (k : ℕ). g (images k) j) e ∙ sym (else j (λ q. z.0 (e, q)))) (λ e. reads i j))

  pub row_put_row : {P : ℕ → Type 0} (d : (j : ℕ) → Dec (P j)) (v : ℕ → X) → ((j : ℕ) → P j → g l j ≡ v j)
      → ((j : ℕ) → (P j → ⊥) → g l j ≡ g (images n) j) → (i j : ℕ) → put_row d f n v i j ≡ g (put_at images n l i) j
  row_put_row d v here else i j = on (put_row_cases d f n v i j)
      (λ z. z.1 ∙ put_at_lem (λ (m : List ℕ). v j ≡ g m j) images n l i (λ e. sym (here j z.0.1)) (λ e. absurd (e z.0.0)))
      (λ z. z.1 ∙ put_at_lem (λ (m : List ℕ). f i j ≡ g m j) images n l i
      (λ e. reads i j ∙ ap (λ (k : ℕ). g (images k) j) e ∙ sym (else j (λ q. z.0 (e, q)))) (λ e. reads i j))

-- ---- how an image may differ from another
-- the copies are the same in version, value and author; the holders are
pub record SameCopies (l k : List ℕ) : Type 0 where
  pub versions : (t : ℕ) → version k t ≡ version l t
  pub values : (t : ℕ) → value k t ≡ value l t
  pub authors : (t : ℕ) → author_of k t ≡ author_of l t

abbrev pub SameHolders : List ℕ → List ℕ → Type 0
SameHolders l k = (t : ℕ) → holder k t ≡ holder l t

-- owner o has serial s and state u, the others have what they had
pub record OneOwner (l k : List ℕ) (o s u : ℕ) : Type 0 where
  pub its_serial : serial k o ≡ s
  pub its_state : state k o ≡ u
  pub serials : (w : ℕ) → (w ≡ o → ⊥) → serial k w ≡ serial l w
  pub states : (w : ℕ) → (w ≡ o → ⊥) → state k w ≡ state l w

-- what owner w held is free
pub record FreedHolders (l k : List ℕ) (w : ℕ) : Type 0 where
  pub its : (t : ℕ) → holder_of l t ≡ some w → holder_of k t ≡ none
  pub other : (t : ℕ) → (holder_of l t ≡ some w → ⊥) → holder_of k t ≡ holder_of l t

holder_as : (l k : List ℕ) → SameHolders l k → (t : ℕ) → holder_of k t ≡ holder_of l t
holder_as l k same t = ap (λ (h : ℕ). cond (ltb t objects) (cond (eqb h nobody) none (some h)) none) (same t)

-- ---- the transitions
module _ {s : System} {sane : Sane s} (st : Station) (σ : State ℕ) (l : List Tx) (sim : Sim sane st σ l) (n : ℕ) (k : List ℕ) where
  abbrev old : List ℕ
  old = st.images n

  abbrev next : Station
  next = with_image st n k

  owners_on : {σ' : State ℕ} (s : Step (rules sane) σ σ') → ((y : Tx) → σ'.history.phase y ≡ σ.history.phase y)
      → ((y : Tx) → σ'.history.contents y ≡ σ.history.contents y)
      → (i : ℕ) → Owner σ'.history σ'.votes σ'.sent i (st.records i)
  owners_on s p q i = owner_on (onward (step_grows s)) i (st.records i) (λ r. p _) (λ r. q _) (sim.owners i)

  -- what stays as it was is read as it was
  versions_same : SameCopies old k → (i j : ℕ) → σ.store.version i j ≡ version (put_at st.images n k i) j
  versions_same a = row_same (λ m t. version m t) _ st.images n k sim.reads.r_version a.versions

  values_same : SameCopies old k → (i j : ℕ) → σ.store.value i j ≡ value (put_at st.images n k i) j
  values_same a = row_same (λ m t. value m t) _ st.images n k sim.reads.r_value a.values

  authors_same : SameCopies old k → (i j : ℕ) → authors st i j ≡ authors next i j
  authors_same a = row_same (λ m t. author_of m t) (authors st) st.images n k (λ i t. refl) a.authors

  holders_same : SameHolders old k → (i j : ℕ) → holders st i j ≡ holders next i j
  holders_same b = row_same (λ m t. holder_of m t) (holders st) st.images n k (λ i t. refl) (holder_as old k b)

  -- nothing that is read changes: lists of readers and writers
  pub sim_lists : SameCopies old k → SameHolders old k → ((w : ℕ) → serial k w ≡ serial old w) → ((w : ℕ) → state k w ≡ state old w) → Sim sane next σ l
  sim_lists a b c d =
      let r = sim.reads in
      record {
        kept = record {
          inv = sim.kept.inv;
          log = sim.kept.log;
          holders = holders_as_read _ _ _ _ (holders_same b) sim.kept.holders;
        };
        authored = authored_as_read _ _ σ.store _ (authors_same a) sim.authored;
        reads = record {
          r_version = versions_same a;
          r_value = values_same a;
          r_last = row_same (λ m t. serial m t) _ st.images n k r.r_last c;
          r_state = row_same (λ m t. state_of (state m t)) _ st.images n k r.r_state (λ j. ap state_of (d j));
        };
        owners = sim.owners;
        waits = sim.waits;
      }

  -- the serial of owner o, its state
  serial_put : (o s u : ℕ) → OneOwner old k o s u → (i j : ℕ) → put2 ℕ_discrete ℕ_discrete σ.ends.last n o s i j ≡ serial (put_at st.images n k i) j
  serial_put o s u b = row_put2 (λ m t. serial m t) _ st.images n k sim.reads.r_last o s b.its_serial b.serials

  serial_kept : (o u : ℕ) → OneOwner old k o (serial old o) u → (i j : ℕ) → σ.ends.last i j ≡ serial (put_at st.images n k i) j
  serial_kept o u b = row_same (λ m t. serial m t) _ st.images n k sim.reads.r_last
      (λ j. by_cases (ℕ_discrete j o) (λ e. ap (serial k) e ∙ b.its_serial ∙ ap (serial old) (sym e)) (λ e. b.serials j e))

  state_put : (o s u : ℕ) → OneOwner old k o s u
      → (i j : ℕ) → put2 ℕ_discrete ℕ_discrete σ.ends.state n o (state_of u) i j ≡ state_of (state (put_at st.images n k i) j)
  state_put o s u b = row_put2 (λ m t. state_of (state m t)) _ st.images n k sim.reads.r_state o (state_of u) (ap state_of b.its_state)
      (λ w e. ap state_of (b.states w e))

  -- listed, with a new serial
  pub sim_listed : (x : Tx) → CanList σ n x → SameCopies old k → SameHolders old k → OneOwner old k x.owner x.serial 1 → Sim sane next (do_list σ n x) l
  sim_listed x g a b c = by_one st next l sim (list n x g)
      (record { r_version = versions_same a; r_value = values_same a; r_last = serial_put _ _ _ c; r_state = state_put _ _ _ c })
      (holders_same b) (authors_same a) (owners_on (list n x g) (λ y. refl) (λ y. refl)) (λ y i. inl i)

  -- voted no
  pub sim_refused : (x : Tx) → CanNo σ n x → SameCopies old k → SameHolders old k → OneOwner old k x.owner (serial old x.owner) 3
      → Sim sane next (do_no σ n x) l
  sim_refused x g a b c = by_one st next l sim (vote_no n x g)
      (record { r_version = versions_same a; r_value = values_same a; r_last = serial_kept _ _ c; r_state = state_put _ _ _ c })
      (holders_same b) (authors_same a) (owners_on (vote_no n x g) (λ y. refl) (λ y. refl)) (λ y i. inl i)

  -- voted yes: what is written is held
  pub sim_held : (x : Tx) → (g : CanYes (rules sane) σ n x) → SameCopies old k → OneOwner old k x.owner (serial old x.owner) 2
      → ((t : ℕ) → Writes σ.history.contents x t → holder_of k t ≡ some x.owner)
      → ((t : ℕ) → (Writes σ.history.contents x t → ⊥) → holder_of k t ≡ holder_of old t)
      → Sim sane next (do_yes σ n x) (logged (vote_yes n x g) l)
  sim_held x g a c here else = by_one st next l sim (vote_yes n x g)
      (record { r_version = versions_same a; r_value = values_same a; r_last = serial_kept _ _ c; r_state = state_put _ _ _ c })
      (row_put_row (λ m t. holder_of m t) (holders st) st.images n k (λ i t. refl) (writes? (σ.history.contents x)) (λ t. some x.owner) here else)
      (authors_same a) (owners_on (vote_yes n x g) (λ y. refl) (λ y. refl)) (λ y i. inl i)

  holders_freed : (w : ℕ) → FreedHolders old k w → (i j : ℕ) → freed (holders st) n w i j ≡ holders next i j
  holders_freed w f =
      row_put_row (λ m t. holder_of m t) (holders st) st.images n k (λ i t. refl) (λ t. holds? (holder_of old t) w) (λ t. none) f.its f.other

  -- a commit applied
  pub sim_applied : (x : Tx) → CanApply σ n x → OneOwner old k x.owner (serial old x.owner) 0 → FreedHolders old k x.owner
      → ((t : ℕ) → Writes σ.history.contents x t
      → (version k t ≡ suc ((σ.history.contents x).version t)) × (value k t ≡ (σ.history.contents x).new t) × (author_of k t ≡ by x))
      → ((t : ℕ) → (Writes σ.history.contents x t → ⊥) → (version k t ≡ version old t) × (value k t ≡ value old t) × (author_of k t ≡ author_of old t))
      → Sim sane next (do_apply σ n x) l
  sim_applied x g c f here else = by_one st next l sim (apply n x g)
      (record {
        r_version = row_put_row (λ m t. version m t) _ st.images n k sim.reads.r_version (writes? (σ.history.contents x))
            (λ t. suc ((σ.history.contents x).version t)) (λ t w. (here t w).0) (λ t w. (else t w).0);
        r_value = row_put_row (λ m t. value m t) _ st.images n k sim.reads.r_value (writes? (σ.history.contents x))
            (σ.history.contents x).new (λ t w. (here t w).1) (λ t w. (else t w).1);
        r_last = serial_kept _ _ c;
        r_state = state_put _ _ _ c;
      })
      (holders_freed x.owner f)
      (row_put_row (λ m t. author_of m t) (authors st) st.images n k (λ i t. refl) (writes? (σ.history.contents x)) (λ t. by x)
      (λ t w. (here t w).2) (λ t w. (else t w).2))
      (owners_on (apply n x g) (λ y. refl) (λ y. refl)) (λ y i. inl i)

  -- an abort taken
  pub sim_dropped : (x : Tx) → CanDrop σ n x → SameCopies old k → OneOwner old k x.owner x.serial 0 → FreedHolders old k x.owner → Sim sane next
      (do_drop σ n x) l
  sim_dropped x g a c f = by_one st next l sim (drop n x g)
      (record { r_version = versions_same a; r_value = values_same a; r_last = serial_put _ _ _ c; r_state = state_put _ _ _ c })
      (holders_freed x.owner f) (authors_same a) (owners_on (drop n x g) (λ y. refl) (λ y. refl)) (λ y i. inl i)

-- a copy sent: no image changes
pub sim_sent : {s : System} {sane : Sane s} (st : Station) (σ : State ℕ) (l : List Tx) → Sim sane st σ l → (n t : ℕ) → Sim sane st (do_copy σ n t) l
sim_sent {sane = sane} st σ l sim n t =
    let r = sim.reads in
    let s : Step (rules sane) σ (do_copy σ n t) = copy n t in
    by_one st st l sim s (record { r_version = r.r_version; r_value = r.r_value; r_last = r.r_last; r_state = r.r_state }) (λ i j. refl) (λ i j. refl)
    (λ i. owner_on (onward (step_grows s)) i (st.records i) (λ u. refl) (λ u. refl) (sim.owners i)) (λ b i. inl i)

-- ---- an image changed twice at one node
pub put_put : {A : Type 0} (f : ℕ → A) (n : ℕ) (a b : A) → put_at (put_at f n a) n b ≡ put_at f n b
unfolding put_at
put_put f n a b = λ k i. same (eqb i n) (f i) k
  where
    same : (t : Bool) (y : _) → cond t b (cond t a y) ≡ cond t b y
    same true y = refl
    same false y = refl

pub sim_twice : {s : System} {sane : Sane s} (st : Station) (σ : State ℕ) (l : List Tx) (n : ℕ) (a b : List ℕ)
    → Sim sane (with_image (with_image st n a) n b) σ l → Sim sane (with_image st n b) σ l
sim_twice {sane = sane} st σ l n a b s =
    subst (λ (f : ℕ → List ℕ). Sim sane (record { images = f; records = st.records; pool = st.pool; own = st.own }) σ l) (put_put st.images n a b) s
