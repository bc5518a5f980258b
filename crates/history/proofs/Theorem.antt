-- A good history and state, and that whatever is good is good after one more step.
use Prim.Native.Nat.{ℕ}
use Rattle.steps.specs.Station.{Station}
use Rattle.steps.specs.Step.{Call, begin, open_read, open_write, set_value, found, reselect, request_commit, abort, send, delivery, drop, switch, step}
use Rattle.steps.specs.Run.{event_of}
use Rattle.protocol.specs.State.{Tx}
use Rattle.history.specs.Ledger.{Ledger, note}
use Rattle.history.specs.Claims.{Typed}
use Rattle.history.proofs.Books.{Past, More, World}
use Rattle.history.proofs.Calls.{begin_next, read_next, write_next, set_next, found_next', reselect_next, request_next, abort_next}
use Rattle.history.proofs.Served.{delivery_next, drop_next, switch_next}
use Rattle.history.proofs.Sends.{send_next}
use Rattle.history.proofs.Wide.{Wide, wide_next}
use Rattle.history.proofs.Stamped.{Stamped, stamped_next}

-- ---- a good history and state: st the station, L what the events told, F what was found so far
pub record Good (st : Station) (L : Ledger) (F : Past) : Type 0 where
  pub world : World st L F
  pub wide : Wide st
  pub stamped : Stamped st

-- ---- one more step
world_next : (st : Station) (L : Ledger) (F : Past) (w : World st L F) → Wide st → (c : Call) → Typed c
    → World (step st c).station (note L (event_of c (step st c))) (More F (step st c).station)
unfolding step
world_next st L F w g (begin n a) t = begin_next st L F w n a t.1.0
world_next st L F w g (open_read n x) t = read_next st L F w n x
world_next st L F w g (open_write n x) t = write_next st L F w n x
world_next st L F w g (set_value n x v) t = set_next st L F w n x v
world_next st L F w g (found n x) t = found_next' st L F w n x
world_next st L F w g (reselect n live d) t = reselect_next st L F w n live d t.0
world_next st L F w g (request_commit n) t = request_next st L F w n
world_next st L F w g (abort n) t = abort_next st L F w n
world_next st L F w g (send n to x) t = send_next st L F w n to x (g.fits n)
world_next st L F w g (delivery k kept) t = delivery_next st L F w k kept
world_next st L F w g (drop k) t = drop_next st L F w k
world_next st L F w g (switch n up) t = switch_next st L F w n up

pub good_next : (st : Station) (L : Ledger) (F : Past) → Good st L F → (c : Call) → Typed c
    → Good (step st c).station (note L (event_of c (step st c))) (More F (step st c).station)
good_next st L F g c t = record {
  world = world_next st L F g.world g.wide c t;
  wide = wide_next st g.wide g.world.valid g.world.sane.choices c t;
  stamped = stamped_next st g.stamped g.world.valid g.wide c t;
}

-- ---- what was found, told in other words
pub good_past : (st : Station) (L : Ledger) (F G : Past) → ((x : Tx) (t v : ℕ) → F x t v → G x t v) → ((x : Tx) (t v : ℕ) → G x t v → F x t v)
    → Good st L F → Good st L G
good_past st L F G to from g = let w = g.world in let b = w.books in record {
  world = record {
    sane = w.sane;
    state = w.state;
    log = w.log;
    sim = w.sim;
    valid = w.valid;
    books = record {
      pool_as = b.pool_as;
      puts_true = b.puts_true;
      log_as = b.log_as;
      decided = b.decided;
      present = b.present;
      dones = b.dones;
      found = record {
        still = λ x t v f. b.found.still x t v (from x t v f);
        carried = λ x t v f. b.found.carried x t v (from x t v f);
        had = λ x t a q. to x t _ (b.found.had x t a q);
      };
    };
  };
  wide = g.wide;
  stamped = g.stamped;
}
