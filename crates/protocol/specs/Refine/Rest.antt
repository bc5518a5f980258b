-- What proofs/Refine/Rest speaks of.
use Rattle.std.specs.Prelude.{List}
use Rattle.protocol.specs.Table.{pick}
use Rattle.protocol.specs.Rules.{Rules}
use Rattle.protocol.specs.State.{Tx, Phase, committed, aborted, Contents, nothing, History, State}
use Rattle.protocol.specs.Replay.{committed?}
use Rattle.protocol.specs.Log.{fed}

-- only the committed ones keep their contents; nobody else will commit
abbrev pub kept_phase : {A : Type 0} → History A → Tx → Phase
kept_phase h x = pick (committed? h x) committed aborted

abbrev pub kept_contents : {A : Type 0} → A → History A → Tx → Contents A
kept_contents z h x = pick (committed? h x) (h.contents x) (nothing z)

abbrev pub earlier : {A : Type 0} → Rules A → State A → List Tx → History A
earlier R σ l = record { phase = kept_phase σ.history; contents = kept_contents R.blank σ.history; decisions = fed σ l }
