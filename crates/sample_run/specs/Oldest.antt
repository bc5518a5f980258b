-- What crate progress claims (document 02, 2.8), of the sample run: node 4's request for votes is unopposed there, and the steps behind it are rounds of an
-- ask and its vote, then of an outcome and its done, with each of its 7 participants. So the claim is not about nothing.
use Rattle.std.specs.Prelude.{◌≡◌, List, ◌++◌, ℕ}
use Rattle.protocol.specs.Table.{In}
use Rattle.history.specs.Claims.{account, reached}
use Rattle.progress.specs.Deliveries.{is_turn, count}
use Rattle.progress.specs.Oldest.{Unopposed, Undisturbed, Ended, deliveries, acts}
use Rattle.progress.specs.Schedule.{rounds}
use Rattle.sample_run.specs.Sample.{asking, mask, sample, blank, tells, left, transaction}

-- what these rounds hand over
abbrev pub handed : List (List ℕ)
handed = deliveries (account blank) (acts blank) asking (rounds 4 0 mask)

pub record GoesThrough : Type 0 where
  pub unopposed : Unopposed (reached blank asking) 4
  pub is_sample : rounds 4 0 mask ++ asking ≡ sample
  pub undisturbed : Undisturbed (account blank) (acts blank) transaction mask asking (rounds 4 0 mask)
  pub commits : In transaction tells.committed
  pub ended : Ended left transaction
  pub turns : count (is_turn transaction) handed ≡ 28
