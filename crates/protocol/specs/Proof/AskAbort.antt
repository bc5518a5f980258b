-- What proofs/AskAbort speaks of.
use Rattle.std.specs.Prelude.{◌≡◌, ◌≢◌}
use Rattle.protocol.specs.Table.{Suffix}
use Rattle.protocol.specs.State.{Tx, fresh, committed, aborted, History}

-- What a history never takes back.
pub record Forward {A : Type 0} (h h' : History A) : Type 0 where
  pub f_asked : (x : Tx) → h.phase x ≢ fresh → h'.phase x ≢ fresh
  pub f_contents : (x : Tx) → h.phase x ≢ fresh → h'.contents x ≡ h.contents x
  pub f_committed : (x : Tx) → h.phase x ≡ committed → h'.phase x ≡ committed
  pub f_aborted : (x : Tx) → h.phase x ≡ aborted → h'.phase x ≡ aborted
  pub f_decisions : Suffix h.decisions h'.decisions
