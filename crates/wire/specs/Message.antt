-- A message as a record. A transaction is named by its owner and serial; entries are document 01's tallies of a message.
use Rattle.std.specs.Prelude.{List, ℕ}
use Rattle.wire.specs.declared.Entry.{Entry}
use Rattle.wire.specs.declared.Rival.{Rival}

pub record Message : Type 0 where
  pub kind : ℕ
  pub from : ℕ
  pub to : ℕ
  pub owner : ℕ
  pub serial : ℕ
  pub stamp : ℕ
  pub entries : List Entry
  pub rivals : List Rival
  pub words : List ℕ

-- the kinds
abbrev pub fetch : ℕ
fetch = 1

abbrev pub copy : ℕ
copy = 2

abbrev pub ask : ℕ
ask = 3

abbrev pub vote : ℕ
vote = 4

abbrev pub outcome : ℕ
outcome = 5

abbrev pub done : ℕ
done = 6

abbrev pub yield : ℕ
yield = 7
