-- The message that is due to a node, and while open for an object. Its kind is the coordinator's (`due_kind`).
use Rattle.std.specs.Prelude.{Bool, cond, ◌&&◌, List, [], ◌∷◌, ◌++◌, ℕ, zero, suc, eqb, ltb, get_or, length}
use Rattle.numbers.specs.Sizes.{objects, most_open, longest_message}
use Rattle.numbers.specs.Numbers.{wrong_length}
use Rattle.numbers.specs.Refusal.{Refusal, refuse, first_of}
use Rattle.wire.specs.declared.Entry.{Entry}
use Rattle.letters.specs.declared.Written.{Written}
use Rattle.wire.specs.Message.{Message, fetch, ask, outcome}
use Rattle.letters.specs.Write.{sent, fetch_of, yield_of, written_of, buffer_after}
use Rattle.coordinator.specs.declared.Object.{Object}
use Rattle.coordinator.specs.declared.Coordinator.{Coordinator}
use Rattle.coordinator.specs.System.{System}
use Rattle.coordinator.specs.State.{committed, object_at, is_open}
use Rattle.due.specs.Kind.{no_kind, due_kind, due_refusals}

-- ---- the entries of an ask or a commit
-- of an opened object: the version found; a read's value is 0, a write's is the new one
abbrev pub entry_for : Object → Entry
entry_for x = record { object = x.object; mode = x.mode; version = x.version; value = cond (eqb x.mode 0) 0 x.new }

-- the open objects below n, ascending whatever the order of opening; a record has eight places, so there are no more
abbrev pub lists_next : Coordinator → ℕ → List Entry → Bool
lists_next c n es = is_open c n && ltb (length es) most_open

unfoldable pub with_next : Coordinator → ℕ → List Entry → List Entry
with_next c n es = cond (lists_next c n es) (es ++ (entry_for (object_at c n) ∷ [])) es

unfoldable pub entries_below : Coordinator → ℕ → List Entry
entries_below c zero = []
entries_below c (suc n) = with_next c n (entries_below c n)

unfoldable pub entries_of : Coordinator → List Entry
entries_of c = entries_below c objects

-- ---- the messages, from node `me` to `node`, with the transaction's serial and timestamp
abbrev pub fetch_to : Coordinator → ℕ → ℕ → ℕ → Message
fetch_to c me node object = fetch_of node me c.serial c.timestamp object (object_at c object).mode

abbrev pub ask_to : Coordinator → ℕ → ℕ → Message
ask_to c me node = sent node me c.serial c.timestamp ask (entries_of c) [] []

-- a commit (word 1) has the entries of the ask, an abort (word 0) none
abbrev pub outcome_to : Coordinator → ℕ → ℕ → Message
outcome_to c me node =
    cond (eqb c.outcome committed) (sent node me c.serial c.timestamp outcome (entries_of c) [] (1 ∷ []))
    (sent node me c.serial c.timestamp outcome [] [] (0 ∷ []))

-- a yield names the rival's serial to its owner
abbrev pub yield_to : Coordinator → ℕ → ℕ → Message
yield_to c me node = yield_of node me c.serial c.timestamp (get_or c.rivals node 0)

unfoldable pub message_due : Coordinator → ℕ → ℕ → ℕ → ℕ → Message
message_due c me node object kind =
    cond (eqb kind fetch) (fetch_to c me node object)
    (cond (eqb kind ask) (ask_to c me node) (cond (eqb kind outcome) (outcome_to c me node) (yield_to c me node)))

-- ---- what the caller sees: 1 for a buffer under 128 bytes, then the coordinator's refusals
unfoldable pub write_refusals : ℕ → Coordinator → ℕ → ℕ → ℕ → List Refusal
write_refusals size c me node object = refuse wrong_length (ltb size longest_message) ∷ due_refusals c me node object

-- something is due: nothing refuses, and there is a kind
unfoldable pub is_due : System → ℕ → Coordinator → ℕ → ℕ → ℕ → Bool
is_due s size c me node object = eqb (first_of (write_refusals size c me node object)) 0 && ltb no_kind (due_kind s c node object)

-- the number and the length; nothing due, nothing written. A record that breaks its clauses, or names its own
-- node as a rival, may have no well-formed message: 3
unfoldable pub due_written : System → ℕ → Coordinator → ℕ → ℕ → ℕ → Written
due_written s size c me node object =
    cond (is_due s size c me node object) (written_of size (message_due c me node object (due_kind s c node object)))
    (record { number = first_of (write_refusals size c me node object); length = 0 })

-- each byte of the buffer after it
unfoldable pub due_buffer : System → Coordinator → ℕ → ℕ → ℕ → List ℕ → List ℕ
due_buffer s c me node object l =
    cond (is_due s (length l) c me node object) (buffer_after (message_due c me node object (due_kind s c node object)) l) l
