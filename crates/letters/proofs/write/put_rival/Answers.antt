-- `letters::write::put_rival`: the two stores are the bytes of the rival.
use mathlib.Core.Path.{ap, ◌∙◌}
use mathlib.Core.List.{List}
use Prim.Native.Nat.{ℕ}
use Rattle.octets.specs.Octets.{put}
use Rattle.letters.proofs.Pieces.{rival_stores}
use Rattle.letters.proofs.write.put_rival.Goals as goal

pub returns : goal.returns
returns c = let a = c.args in
    c.put_u32.ensures ∙ ap (λ (m : List ℕ). put 4 m 1 a.r.serial)
    c.put_u8.ensures ∙ rival_stores a.r a.out.now 0
