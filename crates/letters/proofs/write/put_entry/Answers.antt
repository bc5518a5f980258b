-- `letters::write::put_entry`: the four stores are the bytes of the entry.
use mathlib.Core.Path.{ap, ◌∙◌}
use mathlib.Core.List.{List}
use Prim.Native.Nat.{ℕ}
use lib.ListN.{set}
use Rattle.octets.specs.Octets.{put}
use Rattle.letters.proofs.Pieces.{entry_stores}
use Rattle.letters.proofs.write.put_entry.Goals as goal

pub returns : goal.returns
returns c = let a = c.args in
    c.put_u64.ensures
    ∙ ap (λ (m : List ℕ). put 8 m 6 a.e.value)
    (c.put_u32.ensures
    ∙ ap (λ (m : List ℕ). put 4 m 2 a.e.version)
    (c.put_u8-2.ensures ∙ ap (λ (m : List ℕ). set m 1 a.e.mode) c.put_u8.ensures))
    ∙ entry_stores a.e a.out.now 0
