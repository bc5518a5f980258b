-- `letters::write::put_words`: the count, then the word if there is one.
use mathlib.Core.Path.{◌≡◌, ap, ◌∙◌}
use Prim.Native.Nat.{ℕ, ◌+◌}
use native.Mathlib.Omega.{arith}
use mathlib.Core.List.{List}
use lib.ListN.{set}
use Rattle.letters.proofs.ByOwner.{word_none, word_one, at_most_one}
use Rattle.letters.proofs.write.put_words.Goals as goal

pub returns-then-words-eq0-clause-out_after : goal.returns-then-words-eq0-clause-out_after
returns-then-words-eq0-clause-out_after c = let a = c.args in c.put_u8.ensures ∙ word_none a.out.now a.at a.words a.word c.if-words-eq0.true

pub returns-clause-out_after : goal.returns-clause-out_after
returns-clause-out_after c = let a = c.args in
    let one : a.words ≡ 1 = let ne = c.if-words-eq0.false in at_most_one a.words ne (omega arith) in
    c.put_u8-2.ensures ∙ ap (λ (m : List ℕ). set m (a.at + 1) a.word)
    c.put_u8.ensures
    ∙ word_one a.out.now a.at a.words a.word one
