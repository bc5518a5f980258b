-- What `settled` means of a station.
use Rattle.std.specs.Prelude.{◌≡◌, true, List, ℕ, ◌<◌}
use Rattle.numbers.specs.Sizes.{nodes}
use Rattle.mask.specs.Mask.{contains}
use Rattle.image.specs.Layout.{state, serial}
use Rattle.image.specs.Valid.{held}
use Rattle.coordinator.specs.State.{finishing_phase, committed}
use Rattle.steps.specs.Station.{Station}

-- an image holds the transaction of an owner with a serial
pub record Holding (l : List ℕ) (o s : ℕ) : Type 0 where
  pub is_held : state l o ≡ held
  pub of_serial : serial l o ≡ s

-- no participant of a committed transaction holds it still
abbrev pub Released : Station → Type 0
Released st = (o n : ℕ) → o < nodes → n < nodes → (st.records o).phase ≡ finishing_phase → (st.records o).outcome ≡ committed
    → contains (st.records o).participants n ≡ true → Holding (st.images n) o (st.records o).serial → ⊥
