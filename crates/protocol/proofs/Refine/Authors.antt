-- Who wrote each copy last (document 02, 2.5), a table beside the state: only an applied commit changes it. A copy that nobody wrote has version 0; one that x
-- wrote has the version that x found, plus 1; one that is lost was written before authors were kept. Hence in every set where each commit was applied the
-- newest copy's author, if it is not lost, is the last writer of the list that replay is fed.
use Rattle.std.specs.Prelude.{◌≡◌, ◌⊎◌, Bool, ℕ, suc, ◌≤◌}
use Rattle.std.proofs.Math.Path.{refl}
use Rattle.std.proofs.Common.{sym, ◌∙◌, ap, arith}
use Rattle.std.proofs.Math.Logic.{inl, inr}
use Rattle.std.proofs.Math.Option.{Option, none, some}
use mathlib.Core.List.{List, [], ◌∷◌}
use Rattle.std.proofs.Math.Bool.{true, false, cond}
use Rattle.std.proofs.Math.Decide.{ℕ_discrete}
use Rattle.protocol.specs.Table.{pick, Suffix}
use Rattle.protocol.specs.Rules.{Node, Nodes, Object, Rules}
use Rattle.protocol.specs.State.{Tx, committed, Contents, Store, History, State, Writes, writes?}
use Rattle.protocol.specs.Transitions.{Step, ask, commit, abort, list, copy, vote_yes, vote_no, apply, drop}
use Rattle.protocol.specs.Replay.{committed?}
use Rattle.protocol.specs.Claims.{AppliedIn, Newest}
use Rattle.protocol.specs.Log.{RootInAll, fed}
use Rattle.protocol.specs.Invariant.{wrote, count, Inv}
use Rattle.protocol.specs.Proof.Tables.{clash}
use Rattle.protocol.proofs.Tables.{on, pick_cases, put_row_both}
use Rattle.protocol.specs.Proof.AskAbort.{Forward}
use Rattle.protocol.proofs.AskAbort.{committed_asked}
use Rattle.protocol.proofs.Lists.{select_in, in_front, in_front_of_select}
use Rattle.protocol.proofs.Core.{newest_version}
use Rattle.protocol.specs.Proof.Log.{LogInv}
use Rattle.protocol.proofs.Log.{root_voted}
use Rattle.protocol.proofs.Yes.{writes_touches}
use Rattle.protocol.proofs.Refine.Growth.{step_grows}
use Rattle.protocol.proofs.Refine.Convert.{count_committed_of}
use Rattle.protocol.specs.Refine.Origin.{values_of}
use Rattle.protocol.proofs.Refine.Origin.{values_at, values_last}
use Rattle.protocol.proofs.Refine.Rest.{below}
use Rattle.protocol.specs.Refine.Authors.{Author, AuthorTable, AuthoredBy, Authored, signed, names_of, last_name, unwritten, by}

-- a table that is equal entry by entry
pub authored_as_read : {A : Type 0} (t t' : AuthorTable) (s : Store A) (h : History A) → ((n : Node) (o : Object) → t n o ≡ t' n o)
    → Authored t s h → Authored t' s h
authored_as_read t t' s h same w n o =
    record { no_version = λ e. (w n o).no_version (same n o ∙ e); its_version = λ x e. (w n o).its_version x (same n o ∙ e) }

-- history goes on: who wrote stays committed with its contents
on_forward : {A : Type 0} (h h' : History A) → Forward h h' → (o : Object) (v : ℕ) (a : Author) → AuthoredBy h o v a → AuthoredBy h' o v a
on_forward h h' f o v a w = record {
  no_version = w.no_version;
  its_version = λ x e. let z = w.its_version x e in let k = f.f_contents x (committed_asked h x z.0) in
      (f.f_committed x z.0, rw k z.1, z.2 ∙ ap (λ (c : Contents _). suc (c.version o)) (sym k));
}

pub one_author : {x y : Tx} → by x ≡ by y → x ≡ y
one_author e = cc

pub step_authored : {A : Type 0} {R : Rules A} {σ σ' : State A} (s : Step R σ σ') (t : AuthorTable)
    → Authored t σ.store σ.history → Authored (signed s t) σ'.store σ'.history
step_authored {R = R} {σ = σ} (ask x c g) t w n o = on_forward σ.history _ (step_grows {R = R} {σ = σ} (ask x c g)).g_history o _ _ (w n o)
step_authored {R = R} {σ = σ} (commit x g) t w n o = on_forward σ.history _ (step_grows {R = R} {σ = σ} (commit x g)).g_history o _ _ (w n o)
step_authored {R = R} {σ = σ} (abort x g) t w n o = on_forward σ.history _ (step_grows {R = R} {σ = σ} (abort x g)).g_history o _ _ (w n o)
step_authored (list n x g) t w m p = w m p
step_authored (copy n o) t w m p = w m p
step_authored (vote_yes n x g) t w m p = w m p
step_authored (vote_no n x g) t w m p = w m p
step_authored (drop n x g) t w m p = w m p
step_authored {σ = σ} (apply n x g) t w m o = let c = σ.history.contents x in
    on (put_row_both (writes? c) t n (λ o. by x) σ.store.version (λ o. suc (c.version o)) m o)
    (λ z. record {
      no_version = λ e. absurd (let a = z.1 in clash (cc));
      its_version = λ y e. let a : y ≡ x = one_author (sym e ∙ z.1) in rw a (g.phase, z.0.1, z.2);
    })
    (λ z. record {
      no_version = λ e. z.2 ∙ (w m o).no_version (sym z.1 ∙ e);
      its_version = λ y e. let k = (w m o).its_version y (sym z.1 ∙ e) in (k.0, k.1, z.2 ∙ k.2);
    })

module _ (w : Tx → Object → Bool) where
  -- number i names nobody and is 0, or names a writer of the list and is its number
  abbrev pub Named : List Tx → Object → ℕ → Option Tx → Type 0
  Named l o i a =
      ((i ≡ 0) × (a ≡ none))
      ⊎ ((x : Tx) × (m : List Tx) × Suffix (x ∷ m) l × (w x o ≡ true) × (i ≡ suc (count w m o)) × (a ≡ some x))

  longer : (x : Tx) (l : List Tx) (o : Object) (i : ℕ) (a b : Option Tx) → a ≡ b → Named l o i b → Named (x ∷ l) o i a
  longer x l o i a b e (inl z) = inl (z.0, e ∙ z.1)
  longer x l o i a b e (inr z) = inr (z.0, z.1, inr z.2, z.3, z.4, e ∙ z.5)

  pub names_cases : (l : List Tx) (o : Object) (i : ℕ) → i ≤ count w l o → Named l o i (names_of w l o i)
  unfolding values_of
  names_cases [] o i le = inl (omega (arith, le), refl)
  names_cases (x ∷ l) o i le = go (w x o) refl le (names_cases l o i)
    where
      go : (b : Bool) → w x o ≡ b → i ≤ cond b (suc (count w l o)) (count w l o) → (i ≤ count w l o → Named l o i (names_of w l o i))
          → Named (x ∷ l) o i (cond b (pick (ℕ_discrete i (suc (count w l o))) (some x) (names_of w l o i)) (names_of w l o i))
      go true e h ih = on (pick_cases (ℕ_discrete i (suc (count w l o))) (some x) (names_of w l o i))
          (λ z. inr (x, l, inl refl, e, z.0, z.1)) (λ z. longer x l o i _ _ z.1 (ih (below i (count w l o) z.0 h)))
      go false e h ih = longer x l o i _ _ refl (ih h)

module _ {A : Type 0} (R : Rules A) (top : RootInAll R) (σ : State A) (l : List Tx) (iv : Inv R σ) (g : LogInv R σ.votes σ.history σ.chain l)
    (t : AuthorTable) (w : Authored t σ.store σ.history) where
  abbrev h : History A
  h = σ.history

  abbrev W : Tx → Object → Bool
  W = wrote h

  -- a committed transaction in what replay is fed, and how many writers of an object it has found
  pub writer_at : (x : Tx) (o : Object) → h.phase x ≡ committed → Writes h.contents x o
      → (m : List Tx) × Suffix (x ∷ m) (fed σ l) × (W x o ≡ true) × ((h.contents x).version o ≡ count W m o)
  writer_at x o p k =
      let z = in_front x (fed σ l) (select_in (committed? h) l x p (g.l_in x (root_voted R top σ iv x p))) in
      let e = in_front_of_select (committed? h) x z.0 l z.1 in
      let f = g.l_found x e.0 o e.1 (writes_touches h.contents x o k) (λ a. clash (cc)) in
      (z.0, z.1, rw (p, k) refl, f ∙ sym (ap (λ (u : List Tx). count W u o) e.2 ∙ count_committed_of h e.0 o))

  -- each author is the writer of its copy's version
  pub author_named : (n : Node) (o : Object) (x : Tx) → t n o ≡ by x → names_of W (fed σ l) o (σ.store.version n o) ≡ some x
  author_named n o x e =
      let k = (w n o).its_version x e in
      let z = writer_at x o k.0 k.1 in
      ap (names_of W (fed σ l) o) (k.2 ∙ ap suc z.3) ∙ values_at W (λ y u. some y) none x z.0 (fed σ l) o z.1 z.2

  -- THE STATEMENT of 2.5: in a set where each commit was applied, every newest copy's author, if it is not lost, is the last writer
  module _ (q : Nodes) (done : AppliedIn σ.votes h q) (n : Node) (o : Object) (new : Newest σ.store q n o) where
    all_counted : σ.store.version n o ≡ count W (fed σ l) o
    all_counted = newest_version R σ iv q done n o new ∙ g.l_length o ∙ sym (count_committed_of h l o)

    last_is : names_of W (fed σ l) o (σ.store.version n o) ≡ last_name W (fed σ l) o
    last_is = ap (names_of W (fed σ l) o) all_counted ∙ values_last W (λ y u. some y) none (fed σ l) o

    pub newest_by : (x : Tx) → t n o ≡ by x → last_name W (fed σ l) o ≡ some x
    newest_by x e = sym last_is ∙ author_named n o x e

    pub newest_unwritten : t n o ≡ unwritten → last_name W (fed σ l) o ≡ none
    newest_unwritten e = sym last_is ∙ on (names_cases W (fed σ l) o (σ.store.version n o) (omega (arith, all_counted)))
        (λ z. z.1) (λ z. absurd (let a = (w n o).no_version e in let b = z.4 in let y : ⊥ = omega (arith, a, b) in y))
