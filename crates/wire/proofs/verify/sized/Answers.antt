-- `wire::verify::sized`: the word and the counts are the definition's.
use Rattle.wire.proofs.verify.sized.Goals as goal

pub returns : goal.returns
returns c = simp (c.both.ensures, c.counts_ok.ensures, c.kind.ensures, c.word_at-word.ensures)
