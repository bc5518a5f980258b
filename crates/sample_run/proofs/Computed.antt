-- The sample run, computed.
use mathlib.Core.Path.{◌≡◌, refl, ap}
use mathlib.Core.Bool.{Bool, cond}
use mathlib.Core.List.{List, [], ◌∷◌}
use mathlib.Core.Option.{Option, some}
use Prim.Native.Nat.{ℕ}
use native.Mathlib.Decide.{ℕ_discrete}
use Rattle.numbers.specs.Sizes.{nodes, nobody}
use Rattle.mask.specs.Mask.{contains}
use Rattle.image.specs.Layout.{value, version, author, author_serial}
use Rattle.steps.specs.Station.{Station}
use Rattle.steps.specs.Step.{begin, open_read, open_write, set_value, found, request_commit, send}
use Rattle.protocol.specs.State.{Tx}
use Rattle.history.specs.Origin.{ledger_of}
use Rattle.history.specs.Ledger.{Ledger, given_to, last_value, last_writer}
use Rattle.sample_run.specs.Sample.{beginning, participants, mask, blank, transaction, Shown}
use Rattle.sample_run.proofs.Listed.{listed}
use Rattle.worked.proofs.Quick.{quick_blank, blank_quick}
use Rattle.sample_run.proofs.Quick.{accepted}
use Rattle.sample_run.proofs.Both.{Both, at_first, noted, stepped, oldest, delivered, both_exchanged}
use Rattle.sample_run.proofs.Opened.{computed}

-- what the run starts from, with the blank image in few walks
abbrev start_from : List ℕ → Both
start_from l = record { ledger = ledger_of blank; station = record { images = λ n. l; records = st.records; pool = st.pool; own = st.own } }
  where
    st : Station
    st = blank.station

unfoldable pub start : Both
start = start_from quick_blank

pub is_start : at_first blank ≡ start
unfolding at_first start
is_start = ap start_from blank_quick

-- the passes of its parts
unfoldable pub when_ready : Both
when_ready = delivered (delivered (stepped (stepped (stepped start (begin 4 beginning)) (open_write 4 7)) (send 4 0 7)))

unfoldable pub when_valued : Both
when_valued = stepped (stepped when_ready (found 4 7)) (set_value 4 7 500)

unfoldable pub when_asked : Both
when_asked = stepped when_valued (request_commit 4)

unfoldable pub at_last : Both
at_last = both_exchanged participants (both_exchanged participants when_asked)

-- what is looked at in the end; of the nodes, in a list
pub record Seen : Type 0 where
  pub committed : List Tx
  pub log : List Tx
  pub party : ℕ
  pub dones : List Bool
  pub given : ℕ
  pub last : ℕ
  pub writer : Option Tx
  pub values : List ℕ
  pub versions : List ℕ
  pub authors : List ℕ
  pub serials : List ℕ
  pub phases : List ℕ

unfoldable pub seen : Both → Seen
seen b = record {
  committed = b.ledger.committed;
  log = b.ledger.log;
  party = b.ledger.participants transaction;
  dones = listed (b.ledger.dones transaction) nodes;
  given = given_to b.ledger transaction 7;
  last = last_value b.ledger 7;
  writer = last_writer b.ledger 7;
  values = listed (λ n. value (b.station.images n) 7) nodes;
  versions = listed (λ n. version (b.station.images n) 7) nodes;
  authors = listed (λ n. author (b.station.images n) 7) nodes;
  serials = listed (λ n. author_serial (b.station.images n) 7) nodes;
  phases = listed (λ n. (b.station.records n).phase) nodes;
}

pub is_seen : seen at_last
    ≡ record {
      committed = transaction ∷ [];
      log = transaction ∷ [];
      party = mask;
      dones = listed (contains mask) nodes;
      given = 0;
      last = 500;
      writer = some transaction;
      values = listed (λ n. cond (contains mask n) 500 0) nodes;
      versions = listed (λ n. cond (contains mask n) 1 0) nodes;
      authors = listed (λ n. cond (contains mask n) 4 nobody) nodes;
      serials = listed (λ n. cond (contains mask n) 1 0) nodes;
      phases = listed (λ n. 0) nodes;
    }
unfolding computed ℕ_discrete start accepted noted stepped oldest delivered both_exchanged when_ready when_valued when_asked at_last seen
is_seen = refl

pub is_shown : Shown when_ready.station 4 0
unfolding computed ℕ_discrete start accepted noted stepped oldest delivered when_ready
is_shown = record { number = refl; answer = refl }

-- ---- from an origin with that station
unfoldable pub when_read : Both → Both
when_read b = delivered (delivered (stepped (stepped (stepped b (begin 5 beginning)) (open_read 5 7)) (send 5 0 7)))

pub is_read : (L : Ledger) → Shown (when_read (record { ledger = L; station = at_last.station })).station 5 500
unfolding computed ℕ_discrete start accepted noted stepped oldest delivered both_exchanged when_ready when_valued when_asked at_last when_read
is_read L = record { number = refl; answer = refl }
