-- `record_calls::calls::found`: no byte is altered, and those of a record are written back as they were.
use mathlib.Core.Path.{sym}
use native.Mathlib.Omega.{arith}
use Rattle.octets.proofs.Laws.{Bytes}
use Rattle.deeds.proofs.Kept.{found_bytes}
use Rattle.record_calls.proofs.calls.found.Goals as goal

pub returns-clause-bytes_after : goal.returns-clause-bytes_after
returns-clause-bytes_after c = let x = c.args in
    let l = x.bytes.now in
    let small : Bytes l = λ j. omega (arith, c.slice_known-1.given j) in
    sym (found_bytes x.me x.object l small)
