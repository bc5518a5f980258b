-- `letters::write::fill_nothing`: the header and three counts of 0 are the bytes of the message.
use mathlib.Core.Path.{ap, ◌∙◌}
use Prim.Native.Nat.{ℕ}
use native.Mathlib.Omega.{arith}
use mathlib.Core.List.{List, []}
use lib.ListN.{set}
use Rattle.wire.specs.Decode.{entries_place}
use Rattle.wire.specs.Encode.{together}
use Rattle.wire.specs.Headed.{headed}
use Rattle.letters.proofs.ByOwner.{message_stores}
use Rattle.letters.proofs.write.fill_nothing.Goals as goal

pub returns : goal.returns
unfolding together
returns c = let a = c.args in
    c.put_u8-3.ensures
    ∙ ap (λ (m : List ℕ). set m 14 0)
    (c.put_u8-2.ensures
    ∙ ap (λ (m : List ℕ). set m entries_place 0) (c.put_u8.ensures ∙ ap (λ (m : List ℕ). set m 12 0)
    c.put_head.ensures))
    ∙ message_stores (headed a.h [] [] []) a.out.now entries_place 14 (omega arith) (omega arith)
