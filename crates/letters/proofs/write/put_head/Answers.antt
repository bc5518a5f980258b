-- `letters::write::put_head`: the six stores are the bytes of the header.
use mathlib.Core.Path.{ap, ◌∙◌}
use mathlib.Core.List.{List, []}
use Prim.Native.Nat.{ℕ}
use lib.ListN.{set}
use Rattle.octets.specs.Octets.{put}
use Rattle.wire.specs.Headed.{headed}
use Rattle.letters.proofs.Pieces.{header_stores}
use Rattle.letters.proofs.write.put_head.Goals as goal

pub returns : goal.returns
returns c = let a = c.args in
    c.put_u32-2.ensures
    ∙ ap (λ (m : List ℕ). put 4 m 8 a.h.stamp)
    (c.put_u32.ensures
    ∙ ap (λ (m : List ℕ). put 4 m 4 a.h.serial)
    (c.put_u8-4.ensures
    ∙ ap (λ (m : List ℕ). set m 3 a.h.owner)
    (c.put_u8-3.ensures
    ∙ ap (λ (m : List ℕ). set m 2 a.h.to)
    (c.put_u8-2.ensures ∙ ap (λ (m : List ℕ). set m 1 a.h.from)
    c.put_u8.ensures))))
    ∙ header_stores (headed a.h [] [] []) a.out.now
