-- `host::stations::ask_begin`: the distances of the bytes, and the rest as it is.
use mathlib.Core.Path.{ap}
use mathlib.Core.List.{List}
use Prim.Native.Nat.{ℕ}
use Rattle.frontend.specs.declared.Ask.{Ask}
use Rattle.host.specs.Stations.{ask_begin}
use Rattle.host.proofs.stations.ask_begin.Goals as goal

pub returns : goal.returns
returns c = let x = c.args in
    let f : List ℕ → Ask = λ y. ask_begin x.act (record { live = x.live; distances = y; timestamp = x.timestamp }) x.day x.minute in
    ap f c.distances_of-d.ensures
