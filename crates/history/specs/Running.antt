-- What the events tell in bounded memory: crate replay's digest or sheet, kept event by event beside the ledger. An accepted step tells one thing, and
-- the message that it put another; a refused one tells nothing. Only the pool is asked of the ledger: a delivery's message is the k-th of it.
use Rattle.std.specs.Prelude.{cond, List, [], ◌∷◌, ℕ, eqb, get_or}
use Rattle.std.proofs.Math.Option.{Option, none, some}
use Rattle.wire.specs.Decode.{owner_of}
use Rattle.coordinator.specs.State.{committed}
use Rattle.replay.specs.Digest.{Digest}
use Rattle.replay.specs.Sheet.{begun_after, opened_after, valued_after, put_after, committed_after}
use Rattle.steps.specs.Step.{Call, begin, open_read, open_write, set_value, found, reselect, request_commit, abort, send, delivery, drop, switch}
use Rattle.steps.specs.Run.{Event}
use Rattle.history.specs.Ledger.{Ledger, ledger_from}

-- what is made of each thing that may be told: a begin; an object opened, to read (0) or to write (1); a new value; a message put; a commit
pub record Keeper (A : Type 0) : Type 0 where
  pub begun : A → ℕ → A
  pub opened : A → ℕ → ℕ → ℕ → A
  pub valued : A → ℕ → ℕ → ℕ → A
  pub put : A → List ℕ → A
  pub committed : A → ℕ → A

module _ {A : Type 0} (k : Keeper A) where
  abbrev pub put_in : A → Option (List ℕ) → A
  put_in a none = a
  put_in a (some b) = k.put a b

  -- an accepted step, case by case as the ledger's `noted`
  unfoldable pub telling : Ledger → A → Call → ℕ → Option (List ℕ) → A
  telling L a (begin n w) answer p = k.begun a n
  telling L a (open_read n t) answer p = k.opened a n t 0
  telling L a (open_write n t) answer p = k.opened a n t 1
  telling L a (set_value n t v) answer p = k.valued a n t v
  telling L a (found n t) answer p = a
  telling L a (reselect n live distances) answer p = a
  telling L a (request_commit n) answer p = a
  telling L a (abort n) answer p = a
  telling L a (send n to t) answer p = put_in a p
  telling L a (delivery j kept) answer p = cond (eqb answer committed) (k.committed (put_in a p) (owner_of (get_or L.pool j []))) (put_in a p)
  telling L a (drop j) answer p = put_in a p
  telling L a (switch n up) answer p = a

  unfoldable pub keeping : Ledger → A → Event → A
  keeping L a e = cond (eqb e.number 0) (telling L a e.call e.answer e.put) a

  -- the events of a list, newest first, on top of what was told and kept before it
  unfoldable pub kept_from : Ledger → A → List Event → A
  kept_from L a [] = a
  kept_from L a (e ∷ es) = keeping (ledger_from L es) (kept_from L a es) e

-- ---- as tables
abbrev pub digest_keeper : Keeper Digest
digest_keeper =
    record {
      begun = Rattle.replay.specs.Digest.begun;
      opened = Rattle.replay.specs.Digest.opened;
      valued = Rattle.replay.specs.Digest.valued;
      put = Rattle.replay.specs.Digest.put;
      committed = Rattle.replay.specs.Digest.committed;
    }

abbrev pub digest : Ledger → Digest → List Event → Digest
digest L d es = kept_from digest_keeper L d es

-- ---- as the numbers that crate replay's functions leave in a slice
abbrev pub sheet_keeper : Keeper (List ℕ)
sheet_keeper = record { begun = begun_after; opened = opened_after; valued = valued_after; put = put_after; committed = committed_after }

abbrev pub sheet : Ledger → List ℕ → List Event → List ℕ
sheet L l es = kept_from sheet_keeper L l es
