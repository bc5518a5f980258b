-- What a definition takes of proofs/Yes.
use Rattle.std.specs.Prelude.{◌≡◌, ◌≢◌}
use Rattle.protocol.specs.Rules.{Mode, unused, write}
use Rattle.protocol.specs.Proof.Tables.{clash}

pub write_used : (m : Mode) → m ≡ write → m ≢ unused
write_used m w u = clash (cc)
