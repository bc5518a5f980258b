-- What the private functions gather: the first `count` of eight entries are the entries of a list.
use Rattle.std.specs.Prelude.{◌≡◌, List, ◌≤◌, length, take}
use Rattle.numbers.specs.Sizes.{most_open}
use Rattle.wire.specs.declared.Entry.{Entry}
use Rattle.due.specs.declared.Gathered.{Gathered}

pub record Lists (g : Gathered) (es : List Entry) : Type 0 where
  pub same : take g.count g.entries ≡ es
  pub count : g.count ≡ length es
  pub room : g.count ≤ most_open
