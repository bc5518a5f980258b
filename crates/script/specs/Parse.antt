-- The step that a line names: which word it begins with, how many numbers follow it and how large each may be. Any other line is bad.
use Rattle.std.specs.Prelude.{ℕ, zero, suc, ◌+◌, ◌%◌, Bool, true, cond, not, ◌&&◌, ◌||◌, List, [], ◌∷◌, leb, eqb, get_or, replicate}
use Rattle.numbers.specs.Sizes.{nodes}
use Rattle.coordinator.specs.declared.BeginWith.{BeginWith}
use Rattle.orders.specs.declared.Order.{Order}
use Rattle.orders.specs.declared.Kind.{Kind}
use Rattle.orders.specs.declared.Kind.TheVariants.{Begin, Batch, OpenRead, OpenWrite, SetValue, Found, Reselect, RequestCommit, Abort}
use Rattle.orders.specs.declared.Kind.TheVariants.{LoadHours, LoadClasses, Send, Deliver, Drop, Switch}
use Rattle.script.specs.declared.Said.{Said}
use Rattle.script.specs.declared.Parsed.{Parsed}
use Rattle.script.specs.Words.{blank_word, begin_word, reselect_word, read_word, write_word, set_word, found_word, ask_word, abort_word}
use Rattle.script.specs.Words.{send_word, deliver_word, keep_word, drop_word, on_word, off_word, clock_word, list_word, hours_word}
use Rattle.script.specs.Words.{classes_word, batch_word}
use Rattle.script.specs.Said.{spoilt, space}

-- ---- how many numbers follow a word, without distances; 0 for `list`, behind which any may stand, and for what is no word of the language
unfoldable pub has_three : ℕ → Bool
has_three w = eqb w begin_word || (eqb w set_word || (eqb w send_word || eqb w batch_word))

unfoldable pub has_two : ℕ → Bool
has_two w = eqb w read_word || (eqb w write_word || (eqb w found_word || (eqb w reselect_word || eqb w clock_word)))

unfoldable pub has_one : ℕ → Bool
has_one w =
    eqb w ask_word || (eqb w abort_word || (eqb w on_word || (eqb w off_word
    || (eqb w deliver_word || (eqb w keep_word || (eqb w drop_word || (eqb w blank_word || (eqb w hours_word || eqb w classes_word))))))))

unfoldable pub arity : ℕ → ℕ
arity w = cond (has_three w) 3 (cond (has_two w) 2 (cond (has_one w) 1 0))

-- behind those of `begin` and `reselect` thirteen distances may stand
unfoldable pub may_measure : ℕ → Bool
may_measure w = eqb w begin_word || eqb w reselect_word

-- ---- how large each number may be: nodes, objects and places are of 8 bits, masks, distances and minutes of 16, stamps, days and what is listed of 32
unfoldable pub first_most : ℕ → ℕ
first_most w = cond (eqb w blank_word) 65535 (cond (eqb w clock_word) 4294967295 255)

unfoldable pub second_most : ℕ → ℕ
second_most w = cond (eqb w begin_word || eqb w batch_word) 4294967295 (cond (eqb w reselect_word || eqb w clock_word) 65535 255)

unfoldable pub third_most : ℕ → ℕ
third_most w = cond (eqb w set_word) 18446744073709551615 (cond (eqb w begin_word || eqb w batch_word) 65535 255)

-- by the number's place
unfoldable pub most_at : ℕ → ℕ → ℕ
most_at w i =
    cond (eqb w list_word) 4294967295
    (cond (may_measure w && leb (arity w) i) 65535 (cond (eqb i 0) (first_most w) (cond (eqb i 1) (second_most w) (third_most w))))

-- ---- whether the numbers are as the word wants them; what is not given is 0, and fits
unfoldable pub count_fits : ℕ → ℕ → Bool
count_fits w n = eqb w list_word || (not (eqb (arity w) 0) && (eqb n (arity w) || (may_measure w && eqb n (arity w + nodes))))

unfoldable pub fit_from : ℕ → ℕ → List ℕ → Bool
fit_from w i [] = true
fit_from w i (v ∷ numbers) = leb v (most_at w i) && fit_from w (i + 1) numbers

unfoldable pub is_good : Said → Bool
is_good s = count_fits s.word s.count && fit_from s.word 0 s.numbers

-- ---- the step
unfoldable pub kind_of : ℕ → Kind
kind_of w =
    cond (eqb w begin_word) Begin
    (cond (eqb w read_word) OpenRead
    (cond (eqb w write_word) OpenWrite
    (cond (eqb w set_word) SetValue
    (cond (eqb w found_word) Found
    (cond (eqb w reselect_word) Reselect
    (cond (eqb w ask_word) RequestCommit
    (cond (eqb w abort_word) Abort
    (cond (eqb w send_word) Send
    (cond (eqb w drop_word) Drop
    (cond (eqb w hours_word) LoadHours
    (cond (eqb w classes_word) LoadClasses
    (cond (eqb w batch_word) Batch (cond (eqb w deliver_word || eqb w keep_word) Deliver Switch)))))))))))))

-- the distances: the numbers behind the others; where none are given, all are 1
unfoldable pub fill_from : ℕ → ℕ → List ℕ → List ℕ
fill_from zero i numbers = []
fill_from (suc k) i numbers = get_or numbers i 0 % 65536 ∷ fill_from k (i + 1) numbers

unfoldable pub distances_of : Said → List ℕ
distances_of s = cond (eqb s.count (arity s.word)) (replicate nodes 1) (fill_from nodes (arity s.word) s.numbers)

unfoldable pub with_of : Said → BeginWith
with_of s =
    let a = get_or s.numbers 0 0 in
    let b = get_or s.numbers 1 0 in
    let c = get_or s.numbers 2 0 in
    record {
      live = cond (eqb s.word begin_word || eqb s.word batch_word) c (cond (eqb s.word reselect_word) b a) % 65536;
      distances = distances_of s;
      timestamp = b % 4294967296;
    }

unfoldable pub order_of : Said → Order
order_of s =
    let a = get_or s.numbers 0 0 in
    let b = get_or s.numbers 1 0 in
    let c = get_or s.numbers 2 0 in
    record {
      kind = kind_of s.word;
      node = a % 256;
      to = b % 256;
      object = cond (eqb s.word send_word) c b % 256;
      place = a % 256;
      flag = eqb s.word keep_word || eqb s.word on_word;
      value = c;
      day = cond (eqb s.word clock_word) a 0 % 4294967296;
      minute = cond (eqb s.word clock_word) b 0 % 65536;
      with = with_of s;
    }

-- ---- what a line is: 0 it says nothing, 1 it is bad, 2 `blank` with its mask as the order's live mask, 3 a step, 4 `clock` with its day and its minute as
-- the order's, 5 `list` with its numbers, 6 `hours`, `classes` or `batch`, a step that takes what is listed
unfoldable pub takes_list : ℕ → Bool
takes_list w = eqb w hours_word || (eqb w classes_word || eqb w batch_word)

unfoldable pub line_of : ℕ → ℕ
line_of w = cond (eqb w blank_word) 2 (cond (eqb w clock_word) 4 (cond (eqb w list_word) 5 (cond (takes_list w) 6 3)))

unfoldable pub what_of : Said → ℕ
what_of s = cond (eqb s.part spoilt) 1 (cond (eqb s.word 0) 0 (cond (is_good s) (line_of s.word) 1))

unfoldable pub parsed : Said → Parsed
parsed s = record { what = what_of (space s); order = order_of (space s); count = (space s).count; numbers = (space s).numbers }
