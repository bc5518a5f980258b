-- What proofs/Refine/Messages speaks of.
use Rattle.std.specs.Prelude.{◌≡◌, ◌≢◌, true}
use Rattle.protocol.specs.Table.{In}
use Rattle.protocol.specs.Rules.{Node}
use Rattle.protocol.specs.State.{Tx, fresh, committed, aborted, Contents, Copy, State}
use Rattle.protocol.specs.Refine.Growth.{Late}

-- The messages whose words safety relies on, by document 01's kinds (copy, ask, vote yes, outcome, done). A fetch, a no and a yield tell
-- nothing here: whatever they bring about is allowed anyway.
pub data Message (A : Type 0) : Type 0 where
  copied : Copy A → Message A
  asked : Tx → Contents A → Message A
  voted_yes : Node → Tx → Message A
  committing : Tx → Contents A → Message A
  aborting : Tx → Message A
  done : Node → Tx → Message A

-- What each tells.
abbrev pub Tells : {A : Type 0} → State A → Message A → Type 0
Tells σ (copied c) = In c σ.sent
Tells σ (asked x c) = (σ.history.phase x ≢ fresh) × (σ.history.contents x ≡ c)
Tells σ (voted_yes n x) = σ.votes.yes n x ≡ true
Tells σ (committing x c) = (σ.history.phase x ≡ committed) × (σ.history.contents x ≡ c)
Tells σ (aborting x) = σ.history.phase x ≡ aborted
Tells σ (done n x) = Late σ.ends n x
