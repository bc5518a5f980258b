-- What is kept of a list of events, so that replay's last values (document 01: the one-by-one running) are known after each of them. A transaction
-- that is over is forgotten: of each owner only the present one is kept, of each object only its last committed writer by the order of the log.
use Rattle.std.specs.Prelude.{Bool, cond, ◌&&◌, List, ℕ, ◌+◌, eqb, ltb}
use Rattle.wire.specs.Message.{vote}
use Rattle.wire.specs.Decode.{kind_of, from_of, owner_of, serial_of, check_of}
use Rattle.wire.specs.Items.{word_of}

pub record Digest : Type 0 where
  -- how many log places were given: the first is 1
  pub places : ℕ
  -- by owner: its serial (accepted begins counted); the log place of its present transaction, 0 for none yet
  pub serial : ℕ → ℕ
  pub place : ℕ → ℕ
  -- by owner and object: 1 where its present transaction has it open to be written, else 0; the last new value
  pub writes : ℕ → ℕ → ℕ
  pub new : ℕ → ℕ → ℕ
  -- by object: log place and new value of its last committed writer, the one with the highest place; 0 for none
  pub last_place : ℕ → ℕ
  pub last_value : ℕ → ℕ

abbrev pub blank_digest : Digest
blank_digest =
    record {
      places = 0;
      serial = λ o. 0;
      place = λ o. 0;
      writes = λ o t. 0;
      new = λ o t. 0;
      last_place = λ t. 0;
      last_value = λ t. 0;
    }

-- ---- counting stops at the largest number of 64 bits
abbrev pub largest : ℕ
largest = 18446744073709551615

unfoldable pub next : ℕ → ℕ
next n = cond (ltb n largest) (n + 1) n

-- ---- tables changed at one place
unfoldable pub at : (ℕ → ℕ) → ℕ → ℕ → ℕ → ℕ
at f o v i = cond (eqb i o) v (f i)

unfoldable pub at2 : (ℕ → ℕ → ℕ) → ℕ → ℕ → ℕ → ℕ → ℕ → ℕ
at2 f o t v i j = cond (eqb i o && eqb j t) v (f i j)

-- a whole row of zeros
unfoldable pub zero_row : (ℕ → ℕ → ℕ) → ℕ → ℕ → ℕ → ℕ
zero_row f o i j = cond (eqb i o) 0 (f i j)

-- ---- what an event tells, one definition for each
-- an owner began: the next serial, with no place, nothing opened and no new value yet
abbrev pub begun : Digest → ℕ → Digest
begun d o =
    record {
      places = d.places;
      serial = at d.serial o (next (d.serial o));
      place = at d.place o 0;
      writes = zero_row d.writes o;
      new = zero_row d.new o;
      last_place = d.last_place;
      last_value = d.last_value;
    }

-- its present transaction opened an object, to read (0) or to write (1)
abbrev pub opened : Digest → ℕ → ℕ → ℕ → Digest
opened d o t mode =
    record {
      places = d.places;
      serial = d.serial;
      place = d.place;
      writes = at2 d.writes o t mode;
      new = d.new;
      last_place = d.last_place;
      last_value = d.last_value;
    }

-- it gave an object a new value
abbrev pub valued : Digest → ℕ → ℕ → ℕ → Digest
valued d o t v =
    record {
      places = d.places;
      serial = d.serial;
      place = d.place;
      writes = d.writes;
      new = at2 d.new o t v;
      last_place = d.last_place;
      last_value = d.last_value;
    }

-- a message was put into the pool: the root's first yes to its owner's present transaction, seen by the owner's serial and place. (The root is node 0.)
unfoldable pub first_yes : ℕ → ℕ → List ℕ → Bool
first_yes serial place b =
    eqb (check_of b) 0
    && (eqb (kind_of b) vote && (eqb (word_of b) 1 && (eqb (from_of b) 0 && (eqb (serial_of b) serial && eqb place 0))))

-- it gets the next place
abbrev pub placed : Digest → ℕ → Digest
placed d o =
    record {
      places = next d.places;
      serial = d.serial;
      place = at d.place o (next d.places);
      writes = d.writes;
      new = d.new;
      last_place = d.last_place;
      last_value = d.last_value;
    }

abbrev pub put : Digest → List ℕ → Digest
put d b = cond (first_yes (d.serial (owner_of b)) (d.place (owner_of b)) b) (placed d (owner_of b)) d

-- an owner's present transaction committed: what it writes takes its place and new value, unless a later place of the log wrote it already
unfoldable pub takes : ℕ → ℕ → ℕ → Bool
takes writes place last = eqb writes 1 && ltb last place

abbrev pub committed : Digest → ℕ → Digest
committed d o =
    record {
      places = d.places;
      serial = d.serial;
      place = d.place;
      writes = d.writes;
      new = d.new;
      last_place = λ t. cond (takes (d.writes o t) (d.place o) (d.last_place t)) (d.place o) (d.last_place t);
      last_value = λ t. cond (takes (d.writes o t) (d.place o) (d.last_place t)) (d.new o t) (d.last_value t);
    }
