-- `quorum::leaf_counts`: one of each three leaves three times, added.
use Rattle.quorum.proofs.Threes.{counted}
use Rattle.quorum.proofs.leaf_counts.Goals as goal

pub returns : goal.returns
returns c = counted c.args.m
