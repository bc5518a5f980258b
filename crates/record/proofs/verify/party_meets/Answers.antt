-- `record::verify::party_meets`: the tests in the definition's order.
use Rattle.record.specs.Record.{record_of}
use Rattle.record.specs.Valid.{party_ok}
use Rattle.record.proofs.verify.party_meets.Goals as goal

pub returns : goal.returns
unfolding party_ok record_of
returns c = cc
