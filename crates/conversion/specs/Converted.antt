-- Document 02, 2.6: "A station converted whole at rest": the image of each of its nodes is taken in, of all of them; what it has besides, its records, the
-- messages that wait, the nodes that are on, the settings, is as it was. At rest it is an origin with images of the older shape (`RestedAs`, crates history
-- and accounts), as the older program left it by its own `rests`.
use Rattle.std.specs.Prelude.{◌≡◌, cond, ◌≤◌, ltb}
use Rattle.numbers.specs.Sizes.{nodes}
use Rattle.image.specs.Layout.{Shape, shape}
use Rattle.image.specs.Blank.{blank_as}
use Rattle.intake.specs.Take.{taken_in}
use Rattle.steps.specs.Station.{Station}
use Rattle.history.specs.Origin.{Origin as Machine}
use Rattle.accounts.specs.Accounts.{Origin}

-- Which shapes can be converted from: today's image has room for their objects, and their blank image is taken in as today's. All older ones are such
-- (`older_shapes_fit`, proofs/Older).
pub record Convertible (s : Shape) : Type 0 where
  pub room : s.objects ≤ shape.objects
  pub blank : taken_in s (blank_as s) ≡ blank_as shape

-- the station; the image of what is no node is blank, as ever
abbrev pub taken_station : Shape → Station → Station
taken_station s st =
    record {
      images = λ n. cond (ltb n nodes) (taken_in s (st.images n)) (blank_as shape);
      records = st.records;
      pool = st.pool;
      own = st.own;
    }

-- a station with what it brings along, which it still brings
abbrev pub taken_origin : Shape → Machine → Machine
taken_origin s o = record { station = taken_station s o.station; carried = o.carried }

-- and with settings, and what was booked and weighed since their tables were loaded
abbrev pub taken_service : Shape → Origin → Origin
taken_service s o = record { machine = taken_origin s o.machine; settings = o.settings; booked = o.booked; weighed = o.weighed }
