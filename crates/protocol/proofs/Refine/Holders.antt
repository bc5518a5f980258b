-- An image's holders against the abstract holds: a copy's holder is the owner of the one transaction that is held there and writes the object.
use Rattle.std.specs.Prelude.{◌≡◌, refl, ◌⊎◌}
use Rattle.std.proofs.Common.{sym, ◌∙◌, ap, subst, inl}
use Rattle.std.proofs.Math.Option.{none, some}
use Rattle.protocol.specs.Table.{put}
use Rattle.protocol.specs.Rules.{Node, Object, Rules}
use Rattle.protocol.specs.State.{Tx, Tx-discrete, over, listed, held, refused, Contents, Ends, State, blank_state, Writes, writes?, Held}
use Rattle.protocol.specs.Transitions.{with_state, with_last}
use Rattle.protocol.specs.Transitions.{Step, ask, commit, abort, list, copy, vote_yes, vote_no, apply, drop}
use Rattle.protocol.specs.Invariant.{Inv}
use Rattle.protocol.specs.Proof.Tables.{clash}
use Rattle.protocol.proofs.Tables.{on, Changed, put_row_cases}
use Rattle.protocol.proofs.AskAbort.{ask_moves}
use Rattle.protocol.proofs.ListNoDropCopy.{state_cases, last_cases, SameHeld, listed_holds, refused_holds}
use Rattle.protocol.proofs.Yes.{writes_touches, held_after_yes, still_held_after_yes, now_held_after_yes}
use Rattle.protocol.specs.Refine.Holders.{HolderTable, Holders, holds?, taken, freed, shown}

pub blank_holders : {A : Type 0} (R : Rules A) → Holders (λ n o. none) (blank_state R).ends (blank_state R).history.contents
blank_holders R = record { held_shown = λ n x o q w. absurd (clash (cc)); shown_held = λ n o w e. absurd (clash (cc)) }

-- A table that is equal entry by entry.
pub holders_as_read : {A : Type 0} (t t' : HolderTable) (e : Ends) (k : Tx → Contents A) → ((n : Node) (o : Object) → t n o ≡ t' n o)
    → Holders t e k → Holders t' e k
holders_as_read t t' e k same h = record {
  held_shown = λ n x o q w. sym (same n o) ∙ h.held_shown n x o q w;
  shown_held = λ n o w f. h.shown_held n o w (same n o ∙ f);
}

-- "any tally has another holder": where no object that x touches has, nobody who writes such an object is held.
pub nobody_else : {A : Type 0} (t : HolderTable) (e : Ends) (k : Tx → Contents A) → Holders t e k → (n : Node) (x : Tx) → e.state n x.owner ≡ listed
    → (o : Object) → (t n o ≡ none) ⊎ (t n o ≡ some x.owner) → (y : Tx) → Held e n y → Writes k y o → ⊥
nobody_else t e k h n x l o free y q w = let p = h.held_shown n y o q w in let q1 = q.1 in
    on free (λ f. clash (cc)) (λ f. let u : y.owner ≡ x.owner = cc in clash (cc))

-- Where the same transactions are held as before, and their contents are as before.
holders_same : {A : Type 0} (t : HolderTable) (e e' : Ends) (k k' : Tx → Contents A) → Holders t e k
    → SameHeld e e' → ((n : Node) (x : Tx) → Held e n x → k' x ≡ k x) → Holders t e' k'
holders_same t e e' k k' h held_as same = record {
  held_shown = λ n x o q w. let p = (held_as n x).0 q in h.held_shown n x o p (rw (same n x p) at w);
  shown_held = λ n o w f. let z = h.shown_held n o w f in (z.0, z.1, (held_as n z.0).1 z.2, rw (same n z.0 z.2) z.3);
}

holders_yes : {A : Type 0} (t : HolderTable) (e : Ends) (k : Tx → Contents A) (n : Node) (x : Tx) → Holders t e k → e.last n x.owner ≡ x.serial
    → ((o : Object) (y : Tx) → Held e n y → Writes k y o → Writes k x o → ⊥) → Holders (taken t (k x) n x.owner) (with_state e n x.owner held) k
holders_yes t e k n x h l free = record { held_shown = holder_of_lem; shown_held = held_by }
  where
    cases : (m : Node) (o : Object) → Changed ((m ≡ n) × Writes k x o) (taken t (k x) n x.owner m o) (some x.owner) (t m o)
    cases m o = put_row_cases (writes? (k x)) t n (λ o. some x.owner) m o

    holder_of_lem : (m : Node) (y : Tx) (o : Object) → Held (with_state e n x.owner held) m y → Writes k y o → taken t (k x) n x.owner m o ≡ some y.owner
    holder_of_lem m y o q w = on (held_after_yes e n x l m y q)
        (λ a. on (cases m o) (λ z. absurd (free o y (subst (λ u. Held e u y) z.0.0 a) w z.0.1)) (λ z. z.1 ∙ h.held_shown m y o a w))
        (λ a. on (cases m o) (λ z. z.1 ∙ ap (λ (u : Tx). some u.owner) (sym a.1)) (λ z. absurd (z.0 (a.0, subst (λ u. Writes k u o) a.1 w))))

    held_by : (m : Node) (o : Object) (w : Node) → taken t (k x) n x.owner m o ≡ some w
        → (y : Tx) × (y.owner ≡ w) × Held (with_state e n x.owner held) m y × Writes k y o
    held_by m o w f = on (cases m o)
        (λ z. let a = z.1 in (x, cc, now_held_after_yes e n x l m x (z.0.0, refl), z.0.1))
        (λ z. let y = h.shown_held m o w (sym z.1 ∙ f) in (y.0, y.1, still_held_after_yes e n x.owner m y.0 y.2, y.3))

-- An owner is over at the node, and nothing else changed.
holders_over : {A : Type 0} (t : HolderTable) (e e' : Ends) (k : Tx → Contents A) (n w : Node) → Holders t e k → e'.state n w ≡ over
    → ((m u : Node) → ((m ≡ n) × (u ≡ w) → ⊥) → (e'.last m u ≡ e.last m u) × (e'.state m u ≡ e.state m u)) → Holders (freed t n w) e' k
holders_over t e e' k n w h is-over same = record { held_shown = holder_of_lem; shown_held = held_by }
  where
    cases : (m : Node) (o : Object) → Changed ((m ≡ n) × (t n o ≡ some w)) (freed t n w m o) none (t m o)
    cases m o = put_row_cases (λ o. holds? (t n o) w) t n (λ o. none) m o

    holder_of_lem : (m : Node) (y : Tx) (o : Object) → Held e' m y → Writes k y o → freed t n w m o ≡ some y.owner
    holder_of_lem m y o q v =
        let other : (m ≡ n) × (y.owner ≡ w) → ⊥ = λ a. let a0 = a.0 in let a1 = a.1 in let q1 = q.1 in clash (cc) in
        let z = same m y.owner other in let p = h.held_shown m y o (sym z.0 ∙ q.0, sym z.1 ∙ q.1) v in
        on (cases m o) (λ u. let a = u.0.0 in let b = u.0.1 in let c : some y.owner ≡ some w = cc in absurd (other (a, cc))) (λ u. u.1 ∙ p)

    held_by : (m : Node) (o : Object) (u : Node) → freed t n w m o ≡ some u → (y : Tx) × (y.owner ≡ u) × Held e' m y × Writes k y o
    held_by m o u f = on (cases m o) (λ z. let a = z.1 in absurd (clash (cc)))
        (λ z. let y = h.shown_held m o u (sym z.1 ∙ f) in let q = y.2 in
        let r = same m y.0.owner (λ a. let a0 = a.0 in let b = y.1 in let c = a.1 in let d = z.1 in z.0 (a0, cc)) in
        (y.0, y.1, (r.0 ∙ q.0, r.1 ∙ q.1), y.3))

pub step_holders : {A : Type 0} {R : Rules A} {σ σ' : State A} (s : Step R σ σ') → Inv R σ → (t : HolderTable)
    → Holders t σ.ends σ.history.contents → Holders (shown s t) σ'.ends σ'.history.contents
step_holders {R = R} {σ = σ} (ask x c g) iv t h = holders_same t σ.ends σ.ends σ.history.contents (put Tx-discrete σ.history.contents x c) h
    (λ n y. ((λ q. q), (λ q. q))) (λ n y q. (ask_moves R σ x c g).forward.f_contents y (iv.votes.v_asked n y (iv.votes.v_held n y q)))
step_holders (commit x g) iv t h = h
step_holders (abort x g) iv t h = h
step_holders {σ = σ} (list n x g) iv t h = let e = σ.ends in let k = σ.history.contents in
    holders_same t e (with_last e n x listed) k k h (listed_holds e n x g.over) (λ m y q. refl)
step_holders (copy n o) iv t h = h
step_holders {σ = σ} (vote_yes n x g) iv t h = holders_yes t σ.ends σ.history.contents n x h g.last
    (λ o y q w v. g.free o y (q, inl (w, writes_touches σ.history.contents x o v)))
step_holders {σ = σ} (vote_no n x g) iv t h = let e = σ.ends in let k = σ.history.contents in
    holders_same t e (with_state e n x.owner refused) k k h (refused_holds e n x.owner g) (λ m y q. refl)
step_holders {σ = σ} (apply n x g) iv t h = let e = σ.ends in let w = x.owner in holders_over t e (with_state e n w over) σ.history.contents n w h
    (on (state_cases e n w over n w) (λ z. z.1) (λ z. absurd (z.0 (refl, refl))))
    (λ m u a. (refl, on (state_cases e n w over m u) (λ z. absurd (a z.0)) (λ z. z.1)))
step_holders {σ = σ} (drop n x g) iv t h = let e = σ.ends in let w = x.owner in holders_over t e (with_last e n x over) σ.history.contents n w h
    (on (last_cases e n x over n w) (λ z. z.2) (λ z. absurd (z.0 (refl, refl))))
    (λ m u a. on (last_cases e n x over m u) (λ z. absurd (a z.0)) (λ z. (z.1, z.2)))
