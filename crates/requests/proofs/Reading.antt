-- A function that only reads is no step. Lent one node's part of buffers that hold what a list of steps left, senna_coordinator_waiting tells the tenths
-- that wait there, those of the law of weight classes, and senna_settings_kind the kind of what the node began last.
use mathlib.Core.Path.{◌≡◌, sym, ap, ap₂, ◌∙◌}
use mathlib.Core.Bool.{cond}
use mathlib.Core.List.{List}
use Prim.Native.Nat.{ℕ, ◌<◌}
use lib.Dec.{ltb}
use lib.ListN.{get_or}
use borrow.Author.Tests.{lt-ltb}
use Rattle.numbers.specs.Sizes.{nodes}
use Rattle.numbers.specs.Numbers.{no_such_object}
use Rattle.numbers.specs.Refusal.{lower}
use Rattle.classes.specs.Classes.{tally_count}
use Rattle.coordinator.specs.declared.Coordinator.{Coordinator}
use Rattle.record.specs.declared.Called.{Called}
use Rattle.record.specs.Record.{record_of}
use Rattle.record.specs.Call.{called}
use Rattle.settings.specs.Settings.{classes_in, kind_in, tenths, kind_of}
use Rattle.buffers.specs.Buffers.{record_at, record_in}
use Rattle.frontend.specs.Plan.{lent_number}
use Rattle.frontend.specs.Tell.{waiting_of}
use Rattle.service.specs.Service.{Service, Call}
use Rattle.service_calls.specs.Lent.{Lent, settings_at, settings_in}
use Rattle.accounts.specs.Accounts.{Origin, reached}
use Rattle.accounts.specs.Weighed.{table, tenths_waiting}
use Rattle.runs.specs.Held.{Holds}

module _ (o : Origin) (cs : List Call) (b : Lent) (h : Holds o cs b) (n : ℕ) (small : n < nodes) where
  abbrev R : List ℕ
  R = record_at b.station.records n

  abbrev S : List ℕ
  S = settings_at b.settings n

  record_is : record_of R ≡ (reached o cs).machine.records n
  unfolding record_in
  record_is =
      let p : record_in b.station.records n ≡ record_of R = simp (lt-ltb n nodes small) in sym p ∙ ap (λ (v : Service). v.machine.records n) h.service

  settings_are : S ≡ (reached o cs).settings n
  unfolding settings_in
  settings_are = let p : settings_in b.settings n ≡ S = simp (lt-ltb n nodes small) in sym p ∙ ap (λ (v : Service). v.settings n) h.service

  pub waiting_told : (i : ℕ) → waiting_of R S i ≡ cond (ltb i (tally_count (table o cs n))) (called 0 (tenths_waiting o cs n i)) (called no_such_object 0)
  unfolding waiting_of lent_number lower
  waiting_told i =
      let f : Coordinator → List ℕ → Called =
      λ c s. cond (ltb i (tally_count (classes_in s))) (called 0 (get_or (tenths c s) i 0)) (called no_such_object 0) in
      simp (h.whole.station.records_fine n small, h.whole.settings_fine n small) (ap₂ f record_is settings_are)

  pub kind_told : kind_of S ≡ called 0 (kind_in ((reached o cs).settings n))
  unfolding kind_of
  kind_told = simp (h.whole.settings_fine n small) (ap (λ (s : List ℕ). called 0 (kind_in s)) settings_are)
