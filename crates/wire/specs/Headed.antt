-- A message as a header and its sections, as the tests and the writers take it.
use Rattle.std.specs.Prelude.{Bool, ◌&&◌, List, [], ℕ}
use Rattle.wire.specs.declared.Entry.{Entry}
use Rattle.wire.specs.declared.Head.{Head}
use Rattle.wire.specs.declared.Rival.{Rival}
use Rattle.wire.specs.Message.{Message}
use Rattle.wire.specs.Formed.{names_ok, direction_ok}
use Rattle.wire.specs.Decode.{kind_of, from_of, to_of, owner_of, serial_of, stamp_of}

abbrev pub headed : Head → List Entry → List Rival → List ℕ → Message
headed h es rs ws =
    record {
      kind = h.kind;
      from = h.from;
      to = h.to;
      owner = h.owner;
      serial = h.serial;
      stamp = h.stamp;
      entries = es;
      rivals = rs;
      words = ws;
    }

-- what the bytes have as a header
abbrev pub head_of : List ℕ → Head
head_of l = record { kind = kind_of l; from = from_of l; to = to_of l; owner = owner_of l; serial = serial_of l; stamp = stamp_of l }

-- the clauses that speak of the header alone
abbrev pub head_ok : Head → Bool
head_ok h = names_ok (headed h [] [] []) && direction_ok (headed h [] [] [])
