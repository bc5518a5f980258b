-- `record::store::become_idle`: zeros but for serial, timestamp and outcome.
use mathlib.Core.Path.{◌≡◌, refl, ap, ◌∙◌}
use mathlib.Core.List.{List}
use Prim.Native.Nat.{ℕ}
use borrow.Author.Rules.{rules}
use lib.ListN.{length, replicate}
use lib.Seq.{sets}
use Rattle.octets.specs.Octets.{get, le}
use Rattle.wire.specs.Encode.{together}
use Rattle.coordinator.specs.State.{idle_after}
use Rattle.record.specs.Layout.{record_size}
use Rattle.record.specs.Record.{object_bytes, front_of, quorum_of, votes_of, record_of, bytes_of}
use Rattle.record.proofs.store.become_idle.Goals as goal

idle : (serial timestamp outcome : ℕ)
    → sets (replicate record_size 0) 0 (front_of serial timestamp outcome 0 0) ≡ bytes_of (idle_after serial timestamp outcome)
unfolding bytes_of front_of quorum_of object_bytes votes_of idle_after le together
idle serial timestamp outcome = refl

pub returns : goal.returns
unfolding record_of
returns c =
    let filled : c.fill.new.self ≡ replicate (length c.args.bytes.now) 0 = search rules in
    let zeros : c.fill.new.self ≡ replicate record_size 0 = filled ∙ ap (λ (n : ℕ). replicate n 0) c.requires in
    rw c.put_front.ensures
    (ap (λ (l : List ℕ). sets l 0 (front_of c.get_u32-serial.result c.get_u32-timestamp.result c.args.outcome 0 0)) zeros
    ∙ rw (c.get_u32-serial.ensures, c.get_u32-timestamp.ensures) (idle (get 4 c.args.bytes.now 0) (get 4 c.args.bytes.now 4) c.args.outcome))
