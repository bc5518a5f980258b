-- What a sent message tells stays true, whatever happens meanwhile: so a message may be delivered late, twice or never.
use Rattle.std.specs.Prelude.{◌≡◌, true}
use Rattle.std.proofs.Common.{◌∙◌}
use Rattle.protocol.specs.Rules.{Node, Rules}
use Rattle.protocol.specs.State.{Tx, committed, State}
use Rattle.protocol.specs.Invariant.{Inv}
use Rattle.protocol.specs.Proof.Tables.{clash}
use Rattle.protocol.proofs.Tables.{on}
use Rattle.protocol.proofs.AskAbort.{committed_asked}
use Rattle.protocol.specs.Refine.Growth.{Grows}
use Rattle.protocol.proofs.Refine.Growth.{late_not_held}
use Rattle.protocol.specs.Refine.Messages.{Message, Tells, copied, asked, voted_yes, committing, aborting, done}

pub tells_still : {A : Type 0} {σ σ' : State A} → Grows σ σ' → (m : Message A) → Tells σ m → Tells σ' m
tells_still g (copied c) t = g.g_sent c t
tells_still g (asked x c) t = (g.g_history.f_asked x t.0, g.g_history.f_contents x t.0 ∙ t.1)
tells_still g (voted_yes n x) t = g.g_yes n x t
tells_still {σ = σ} g (committing x c) t =
    (g.g_history.f_committed x t.0, g.g_history.f_contents x (committed_asked σ.history x t.0) ∙ t.1)
tells_still g (aborting x) t = g.g_history.f_aborted x t
tells_still g (done n x) t = g.g_late n x t

-- A participant that said done to a commit has applied it: so "every participant said done" is AllApplied of Claims.
pub done_applied : {A : Type 0} (R : Rules A) (σ : State A) → Inv R σ → (n : Node) (x : Tx)
    → σ.history.phase x ≡ committed → (σ.history.contents x).participants n ≡ true → Tells σ (done n x) → σ.votes.applied n x ≡ true
done_applied R σ iv n x p q late = on (iv.votes.v_then n x (iv.votes.v_all n x p q))
    (λ h. absurd (late_not_held σ.ends n x late h)) (λ s. on s (λ a. absurd (clash (cc))) (λ a. a))
