-- `record::store::blank`: a blank record is all zeros.
use mathlib.Core.Path.{◌≡◌, refl, ap, ◌∙◌}
use Prim.Native.Nat.{ℕ}
use borrow.Author.Rules.{rules}
use lib.ListN.{length, replicate}
use borrow.Author.Tests.{eq-eqb}
use Rattle.octets.specs.Octets.{le}
use Rattle.wire.specs.Encode.{together}
use Rattle.coordinator.specs.State.{idle_after, blank_record}
use Rattle.record.specs.Layout.{record_size}
use Rattle.record.specs.Record.{object_bytes, front_of, quorum_of, votes_of, bytes_of}
use Rattle.record.specs.Call.{blank_after}
use Rattle.record.proofs.store.blank.Goals as goal

zeros : replicate record_size 0 ≡ bytes_of blank_record
unfolding bytes_of front_of quorum_of object_bytes votes_of idle_after le together
zeros = refl

pub returns-clause-bytes_after : goal.returns-clause-bytes_after
unfolding blank_after
returns-clause-bytes_after c =
    let e = c.if-bytes-ne-SIZE.false in
    let filled : c.fill.new.self ≡ replicate (length c.args.bytes.now) 0 = search rules in
    simp (eq-eqb _ _ e) (filled ∙ ap (λ (n : ℕ). replicate n 0) e ∙ zeros)
