-- What a step tells of transactions: a step that no front end stands before tells nothing of serials, modes, new values and participants; a deed at a node
-- tells of the node's present transaction alone, and only a begin makes another one that.
use mathlib.Core.Path.{◌≡◌, refl, ap, ◌∙◌}
use mathlib.Core.Logic.{◌≢◌}
use mathlib.Core.Bool.{false}
use mathlib.Core.List.{List, [], ◌∷◌, ◌++◌}
use mathlib.Core.Option.{Option}
use Prim.Native.Nat.{ℕ, ◌+◌}
use native.Mathlib.Decide.{ℕ_discrete}
use lib.Dec.{eqb}
use Rattle.replica.proofs.Delivered.{either_way}
use Rattle.increments.specs.Deeds.{Edit, reads, writes, values, Deed, begins, edits, asks, aborts}
use Rattle.coordinator.specs.declared.BeginWith.{BeginWith}
use Rattle.steps.specs.Step.{Call as Step, begin, open_read, open_write, set_value, found, reselect, request_commit, abort, send, delivery, drop, switch}
use Rattle.steps.specs.Run.{Event}
use Rattle.protocol.specs.Rules.{read, write}
use Rattle.protocol.specs.State.{Tx, Tx-discrete}
use Rattle.protocol.proofs.Tables.{on, put_cases}
use Rattle.history.specs.Ledger.{Ledger, current, noted, note, ledger_from}
use Rattle.history.specs.Origin.{Origin as Machine}
use Rattle.history.specs.Claims.{told as machineTold}
use Rattle.history.proofs.Tests.{no_both}
use Rattle.history.proofs.Host.{SameTold, told_else}
use Rattle.service.specs.Service.{is_front, step_at, steps_at}

abbrev pub event : Step → ℕ → ℕ → Option (List ℕ) → Event
event c number answer p = record { call = c; number = number; answer = answer; put = p }

-- ---- a step that no front end stands before
same_told : (L : Ledger) → SameTold L L
same_told L = record { serials = refl; modes = refl; news = refl; parties = refl }

noted_same : (L : Ledger) (c : Step) (answer : ℕ) (p : Option (List ℕ)) → is_front c ≡ false → SameTold L (noted L c answer p)
unfolding noted
noted_same L (begin n w) answer p e = absurd (no_both refl e)
noted_same L (open_read n t) answer p e = absurd (no_both refl e)
noted_same L (open_write n t) answer p e = absurd (no_both refl e)
noted_same L (set_value n t v) answer p e = absurd (no_both refl e)
noted_same L (found n t) answer p e = same_told L
noted_same L (reselect n live d) answer p e = same_told L
noted_same L (request_commit n) answer p e = absurd (no_both refl e)
noted_same L (abort n) answer p e = same_told L
noted_same L (send n to t) answer p e = record { serials = refl; modes = refl; news = refl; parties = refl }
noted_same L (delivery k kept) answer p e = record { serials = refl; modes = refl; news = refl; parties = refl }
noted_same L (drop k) answer p e = record { serials = refl; modes = refl; news = refl; parties = refl }
noted_same L (switch n up) answer p e = same_told L

pub plain_told : (L : Ledger) (c : Step) (number answer : ℕ) (p : Option (List ℕ)) → is_front c ≡ false → SameTold L (note L (event c number answer p))
unfolding note
plain_told L c number answer p e = either_way (SameTold L) (eqb number 0) _ _ (noted_same L c answer p e) (same_told L)

-- ---- the same is told but of a node's present transaction
pub record SameElse (L L' : Ledger) (n : ℕ) : Type 0 where
  pub serials : L'.serials ≡ L.serials
  pub modes : (x : Tx) → x ≢ current L n → (t : ℕ) → L'.mode x t ≡ L.mode x t
  pub news : (x : Tx) → x ≢ current L n → (t : ℕ) → L'.new x t ≡ L.new x t
  pub parties : (x : Tx) → x ≢ current L n → L'.participants x ≡ L.participants x

pub else_same : (L : Ledger) (n : ℕ) → SameElse L L n
else_same L n = record { serials = refl; modes = λ x e t. refl; news = λ x e t. refl; parties = λ x e. refl }

-- a node's present transaction is the one it was
pub current_same : (L L' : Ledger) (n : ℕ) → L'.serials ≡ L.serials → current L' n ≡ current L n
current_same L L' n e = ap (λ (f : ℕ → ℕ). record { owner = n; serial = f n }) e

pub else_on : (L L₁ L₂ : Ledger) (n : ℕ) → SameElse L L₁ n → SameElse L₁ L₂ n → SameElse L L₂ n
else_on L L₁ L₂ n a b =
    let back : (x : Tx) → x ≢ current L n → x ≢ current L₁ n = λ x e q. e (q ∙ current_same L L₁ n a.serials) in
    record {
      serials = b.serials ∙ a.serials;
      modes = λ x e t. b.modes x (back x e) t ∙ a.modes x e t;
      news = λ x e t. b.news x (back x e) t ∙ a.news x e t;
      parties = λ x e. b.parties x (back x e) ∙ a.parties x e;
    }

module _ (L : Ledger) (n number answer : ℕ) (p : Option (List ℕ)) where
  abbrev Noted : Deed → Type 0
  Noted d = SameElse L (note L (event (step_at n d) number answer p)) n

  pub edit_else : (e : Edit) → Noted (edits e)
  unfolding note noted
  edit_else (reads t) = either_way (λ (K : Ledger). SameElse L K n) (eqb number 0) _ _
      (record {
        serials = refl;
        modes = λ x e u. told_else L.mode (current L n) t read x u e;
        news = λ x e u. refl;
        parties = λ x e. refl;
      })
      (else_same L n)
  edit_else (writes t) = either_way (λ (K : Ledger). SameElse L K n) (eqb number 0) _ _
      (record {
        serials = refl;
        modes = λ x e u. told_else L.mode (current L n) t write x u e;
        news = λ x e u. refl;
        parties = λ x e. refl;
      })
      (else_same L n)
  edit_else (values t v) = either_way (λ (K : Ledger). SameElse L K n) (eqb number 0) _ _
      (record {
        serials = refl;
        modes = λ x e u. refl;
        news = λ x e u. told_else L.new (current L n) t v x u e;
        parties = λ x e. refl;
      })
      (else_same L n)

  pub asks_else : Noted asks
  unfolding note noted
  asks_else = either_way (λ (K : Ledger). SameElse L K n) (eqb number 0) _ _
      (record {
        serials = refl;
        modes = λ x e u. refl;
        news = λ x e u. refl;
        parties = λ x e. on (put_cases Tx-discrete L.participants (current L n) answer x) (λ z. absurd (e z.0)) (λ z. z.1);
      })
      (else_same L n)

  pub aborts_told : SameTold L (note L (event (step_at n aborts) number answer p))
  unfolding note noted
  aborts_told = either_way (SameTold L) (eqb number 0) _ _ (same_told L) (same_told L)

  -- a begin tells of a serial alone
  pub record Begun (L' : Ledger) : Type 0 where
    pub modes : L'.mode ≡ L.mode
    pub news : L'.new ≡ L.new
    pub parties : L'.participants ≡ L.participants
    pub serials : (i : ℕ) → i ≢ n → L'.serials i ≡ L.serials i

  pub begins_told : (w : BeginWith) → Begun (note L (event (step_at n (begins w)) number answer p))
  unfolding note noted
  begins_told w = either_way Begun (eqb number 0) _ _
      (record {
        modes = refl;
        news = refl;
        parties = refl;
        serials = λ i e. on (put_cases ℕ_discrete L.serials n (L.serials n + 1) i) (λ z. absurd (e z.0)) (λ z. z.1);
      })
      (record { modes = refl; news = refl; parties = refl; serials = λ i e. refl })

-- no deed tells one committed, and none tells of another node's serial
module _ (L : Ledger) (n number answer : ℕ) (p : Option (List ℕ)) where
  abbrev After : Deed → Ledger
  After d = note L (event (step_at n d) number answer p)

  deed_committed : (d : Deed) → (After d).committed ≡ L.committed
  unfolding note noted
  deed_committed (begins w) = either_way (λ (K : Ledger). K.committed ≡ L.committed) (eqb number 0) _ _ refl refl
  deed_committed (edits (reads t)) = either_way (λ (K : Ledger). K.committed ≡ L.committed) (eqb number 0) _ _ refl refl
  deed_committed (edits (writes t)) = either_way (λ (K : Ledger). K.committed ≡ L.committed) (eqb number 0) _ _ refl refl
  deed_committed (edits (values t v)) = either_way (λ (K : Ledger). K.committed ≡ L.committed) (eqb number 0) _ _ refl refl
  deed_committed asks = either_way (λ (K : Ledger). K.committed ≡ L.committed) (eqb number 0) _ _ refl refl
  deed_committed aborts = either_way (λ (K : Ledger). K.committed ≡ L.committed) (eqb number 0) _ _ refl refl

  deed_serials : (d : Deed) (i : ℕ) → i ≢ n → (After d).serials i ≡ L.serials i
  deed_serials (begins w) i e = (begins_told L n number answer p w).serials i e
  deed_serials (edits d) i e = ap (λ (f : ℕ → ℕ). f i) (edit_else L n number answer p d).serials
  deed_serials asks i e = ap (λ (f : ℕ → ℕ). f i) (asks_else L n number answer p).serials
  deed_serials aborts i e = ap (λ (f : ℕ → ℕ). f i) (aborts_told L n number answer p).serials

-- ---- deeds after the machine's steps
module _ (o : Machine) (n : ℕ) (es : List Step) where
  pub deeds_committed : (ds : List Deed) → (machineTold o (steps_at n ds ++ es)).committed ≡ (machineTold o es).committed
  unfolding ledger_from
  deeds_committed [] = refl
  deeds_committed (d ∷ ds) = deed_committed (machineTold o (steps_at n ds ++ es)) n _ _ _ d ∙ deeds_committed ds

  pub deeds_serials : (ds : List Deed) (i : ℕ) → i ≢ n → (machineTold o (steps_at n ds ++ es)).serials i ≡ (machineTold o es).serials i
  unfolding ledger_from
  deeds_serials [] i e = refl
  deeds_serials (d ∷ ds) i e = deed_serials (machineTold o (steps_at n ds ++ es)) n _ _ _ d i e ∙ deeds_serials ds i e

-- ---- one more deed after the machine's steps
module _ (o : Machine) (base : Ledger) (n : ℕ) (es : List Step) where
  abbrev pub ElseAfter : List Deed → Type 0
  ElseAfter ds = SameElse base (machineTold o (steps_at n ds ++ es)) n

  pub edit_after : (e : Edit) (ds : List Deed) → ElseAfter ds → ElseAfter (edits e ∷ ds)
  unfolding ledger_from
  edit_after e ds k = else_on base (machineTold o (steps_at n ds ++ es)) _ n k (edit_else (machineTold o (steps_at n ds ++ es)) n _ _ _ e)

  pub asks_after : (ds : List Deed) → ElseAfter ds → ElseAfter (asks ∷ ds)
  unfolding ledger_from
  asks_after ds k = else_on base (machineTold o (steps_at n ds ++ es)) _ n k (asks_else (machineTold o (steps_at n ds ++ es)) n _ _ _)
