-- A checked record is handed on as a part that is all of it.
use Rattle.record.proofs.OnBytes.{all_of, checked_length}

pub ruleset whole = (all_of, checked_length)
