-- A line that is being read: what its bytes say so far, the bytes themselves, and its number; and what is kept from line to line: whether a scenario
-- runs, the clock, and how many numbers are listed.
use Rattle.std.specs.Prelude.{ℕ, ◌+◌, Bool, false, cond, ltb, set, replicate}
use Rattle.orders.specs.declared.Order.{Order}
use Rattle.script.specs.Said.{step, bad}
use Rattle.script.specs.Said.{fresh as nothingSaid}
use Rattle.reading.specs.declared.Reader.{Reader}

-- the longest line, in bytes
abbrev pub longest_line : ℕ
longest_line = 160

-- nothing is read yet, and no scenario runs
unfoldable pub fresh : Reader
fresh = record { said = nothingSaid; text = replicate longest_line 0; long = 0; line = 1; going = false; day = 0; minute = 0; listed = 0 }

-- one byte more. A line that is too long is bad
unfoldable pub noted : Reader → ℕ → Reader
noted r b =
    cond (ltb r.long longest_line)
    (record {
      said = step r.said b;
      text = set r.text r.long b;
      long = r.long + 1;
      line = r.line;
      going = r.going;
      day = r.day;
      minute = r.minute;
      listed = r.listed;
    })
    (record {
      said = bad r.said;
      text = r.text;
      long = r.long;
      line = r.line;
      going = r.going;
      day = r.day;
      minute = r.minute;
      listed = r.listed;
    })

-- the next line
unfoldable pub next : Reader → Bool → Reader
next r going =
    record {
      said = nothingSaid;
      text = r.text;
      long = 0;
      line = cond (ltb r.line 18446744073709551615) (r.line + 1) r.line;
      going = going;
      day = r.day;
      minute = r.minute;
      listed = r.listed;
    }

-- ---- another clock, and another count of what is listed
unfoldable pub kept : Reader → ℕ → ℕ → ℕ → Reader
kept r day minute listed =
    record {
      said = r.said;
      text = r.text;
      long = r.long;
      line = r.line;
      going = r.going;
      day = day;
      minute = minute;
      listed = listed;
    }

abbrev pub clocked : Reader → ℕ → ℕ → Reader
clocked r day minute = kept r day minute r.listed

abbrev pub relisted : Reader → ℕ → Reader
relisted r listed = kept r r.day r.minute listed

-- ---- an order with the clock
unfoldable pub timed : Reader → Order → Order
timed r o =
    record {
      kind = o.kind;
      node = o.node;
      to = o.to;
      object = o.object;
      place = o.place;
      flag = o.flag;
      value = o.value;
      day = r.day;
      minute = r.minute;
      with = o.with;
    }
