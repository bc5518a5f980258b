-- `settings::put_eight`: the bytes are those before the place, the list, and those behind it.
use Rattle.std.proofs.Common.{ℕ, ◌≡◌, ◌+◌, ◌-◌, List, ◌++◌, length, take, drop, sym, ap, ◌∙◌, arith, rules, append_assoc}
use borrow.Rule.Slice.PartMut.{put_mid, Post-is}
use lib.Seq.{sets-eq}
use Rattle.classes.specs.Classes.{most_classes}
use Rattle.settings.proofs.put_eight.Goals as goal

pub returns-clause-bytes_after : goal.returns-clause-bytes_after
returns-clause-bytes_after c =
    let x = c.args in
    let l = x.bytes.now in
    let full : length x.list ≡ most_classes = search rules in
    let e : x.at + most_classes ≡ x.at + length x.list = omega arith in
    ap (put_mid x.at (x.at + most_classes - x.at) l) c.copy_from_slice.ensures.after
    ∙ ap (λ (m : List ℕ). take x.at l ++ (x.list ++ m)) (Post-is x.at (x.at + most_classes) l (omega arith) ∙ ap (λ (k : ℕ). drop k l) e)
    ∙ sym (append_assoc (take x.at l) x.list (drop (x.at + length x.list) l))
    ∙ sym (sets-eq x.list l x.at (omega (arith, c.requires)))
