-- The end of a scenario has at most 22,366 bytes, whatever the buffers are: an object's line has at most 156, and there are 128 of them; a node's line of
-- tenths has at most 182.
use mathlib.Core.Path.{◌≡◌, refl, sym, subst}
use mathlib.Core.Bool.{Bool, true, false, cond, ◌&&◌}
use mathlib.Core.List.{List, [], ◌∷◌, ◌++◌}
use Prim.Native.Nat.{ℕ, zero, suc, ◌+◌, ◌*◌, ◌^◌, ◌<◌, ◌≤◌}
use native.Mathlib.Omega.{arith}
use lib.Bits.{or_lt}
use lib.Dec.{eqb}
use lib.ListN.{length, length-append}
use lib.Pow.{pow-lt}
use Rattle.classes.specs.Classes.{most_classes}
use Rattle.record.specs.declared.Called.{Called}
use Rattle.buffers.specs.Buffers.{images_size, records_size, record_at}
use Rattle.frontend.specs.Tell.{waiting_of}
use Rattle.service_calls.specs.Lent.{all_settings, settings_at}
use Rattle.numbers.specs.Sizes.{nodes, objects, nobody, unknown}
use Rattle.mask.specs.Mask.{only}
use Rattle.mask.proofs.Laws.{only_small}
use Rattle.decimal.specs.Decimal.{decimal, put_at}
use Rattle.decimal.specs.Laws.{decimal_short}
use Rattle.replay.specs.Sheet.{value_of}
use Rattle.report.specs.Page.{page, joined, inks_fit}
use Rattle.report.specs.Each.{each_from}
use Rattle.report.specs.Texts.{Text, space_text, number_texts, value_texts, version_text, value_text}
use Rattle.report.proofs.Long.{long, long_append, number_as, number_long, value_long, each_long}
use Rattle.closing.specs.declared.Best.{Best}
use Rattle.closing.specs.Copies.{no_copy, copy_at, newer_of, newest_of, newest}
use Rattle.closing.specs.State.{at_rest, settled}
use Rattle.closing.specs.Texts.{end_text, object_text, nodes_text, replay_text, line_end, rest_text, settled_text, yes_text, no_text, copy_texts, object_texts}
use Rattle.closing.specs.Texts.{nth_object_texts, objects_texts, waiting_text, class_texts, nth_class_texts, node_texts, nth_node_texts, waiting_texts}
use Rattle.closing.specs.Texts.{by_text, by_nobody_text, by_unknown_text, slash_text, author_texts, answer_texts, closing_texts, closed}
use Rattle.closing.proofs.Newest.{Newer, second, both, first, newer}

-- ---- the nodes are a mask of thirteen
only_lt : (n : ℕ) → n < nodes → only n < 2 ^ nodes
only_lt n h = subst (λ (m : ℕ). m < 2 ^ nodes) (sym (only_small n (omega arith))) (pow-lt {i = n} {j = nodes} h)

nodes_of : (l : List ℕ) (t k : ℕ) → k ≤ nodes → (newest_of l t k).nodes < 2 ^ nodes
unfolding newest_of copy_at
nodes_of l t zero h = omega arith
nodes_of l t (suc k) h = by (newer (newest_of l t k) (copy_at l t k)) (nodes_of l t k (omega arith)) (only_lt k (omega arith))
  where
    by : Newer (newest_of l t k) (copy_at l t k) → (newest_of l t k).nodes < 2 ^ nodes → only k < 2 ^ nodes
        → (newer_of (newest_of l t k) (copy_at l t k)).nodes < 2 ^ nodes
    by (second p e) a b = subst (λ (x : Best). x.nodes < 2 ^ nodes) (sym e) b
    by (both p e) a b = subst (λ (x : Best). x.nodes < 2 ^ nodes) (sym e) (or_lt nodes (newest_of l t k).nodes (only k) a b)
    by (first p e) a b = subst (λ (x : Best). x.nodes < 2 ^ nodes) (sym e) a

nodes_lt : (l : List ℕ) (t : ℕ) → (newest l t).nodes < 2 ^ nodes
unfolding newest
nodes_lt l t = by (eqb (length l) images_size)
  where
    by : (b : Bool) → (cond b (newest_of l t nodes) no_copy).nodes < 2 ^ nodes
    by true = nodes_of l t nodes (omega arith)
    by false = omega arith

-- ---- a line
copy_long : (t : ℕ) (b : Best) → t < objects → b.nodes < 2 ^ nodes → long (copy_texts t b) ≤ 81
unfolding copy_texts
copy_long t b h g =
    let one = number_texts object_text t in
    let two = number_texts version_text b.version in
    let three = value_texts value_text b.value in
    let four = number_texts nodes_text b.nodes in
    let e = long_append (one ++ two ++ three) four in
    let f = long_append (one ++ two) three in
    let k = long_append one two in
    let p = number_as object_text t in
    let short : length (decimal t) ≤ 3 = decimal_short 3 t (omega arith) (omega arith) in
    let q = number_long version_text b.version in
    let r = value_long value_text b.value in
    let s = number_as nodes_text b.nodes in
    let brief : length (decimal b.nodes) ≤ 5 = decimal_short 5 b.nodes (omega arith) (omega arith) in
    omega arith

author_long : (owner serial : ℕ) → long (author_texts owner serial) ≤ 45
unfolding author_texts joined
author_long owner serial = by (eqb owner nobody) (eqb owner unknown)
  where
    by : (x y : Bool)
        → long (cond x (by_nobody_text ∷ []) (cond y (by_unknown_text ∷ []) (number_texts by_text owner ++ number_texts slash_text serial))) ≤ 45
    by true y = omega arith
    by false true = omega arith
    by false false =
        let e = long_append (number_texts by_text owner) (number_texts slash_text serial) in
        let p = number_long by_text owner in
        let q = number_long slash_text serial in
        omega arith

object_long : (t : ℕ) (b : Best) (v : ℕ) → t < objects → b.nodes < 2 ^ nodes → long (object_texts t b v) ≤ 156
unfolding object_texts joined
object_long t b v h g = by (eqb b.version 0 && eqb v 0)
  where
    by : (x : Bool) → long (cond x [] (copy_texts t b ++ author_texts b.author b.serial ++ value_texts replay_text v ++ (line_end ∷ []))) ≤ 156
    by true = omega arith
    by false =
        let one = copy_texts t b in
        let two = author_texts b.author b.serial in
        let e = long_append (one ++ two ++ value_texts replay_text v) (line_end ∷ []) in
        let f = long_append (one ++ two) (value_texts replay_text v) in
        let k = long_append one two in
        let p = copy_long t b h g in
        let a = author_long b.author b.serial in
        let q = value_long replay_text v in
        omega arith

answer_long : (label : Text) (said : Bool) → length label ≡ 9 → long (answer_texts label said) ≤ 14
unfolding answer_texts joined
answer_long label true h = let e = length-append label (yes_text ++ []) in omega arith
answer_long label false h = let e = length-append label (no_text ++ []) in omega arith

-- ---- the tenths of a node
class_long : (w : Called) → long (class_texts w) ≤ 21
unfolding class_texts joined
class_long w = by (eqb w.number 0)
  where
    by : (x : Bool) → long (cond x (number_texts space_text w.answer) []) ≤ 21
    by true = number_long space_text w.answer
    by false = omega arith

node_long : (bytes settings : List ℕ) (n : ℕ) → n < nodes → long (node_texts bytes settings n) ≤ 182
unfolding node_texts joined
node_long bytes settings n h = by (eqb (waiting_of bytes settings 0).number 0)
  where
    by : (x : Bool)
        → long (cond x (number_texts waiting_text n ++ each_from (nth_class_texts bytes settings) most_classes 0 ++ (line_end ∷ [])) []) ≤ 182
    by true =
        let one = number_texts waiting_text n in
        let two = each_from (nth_class_texts bytes settings) most_classes 0 in
        let e = long_append (one ++ two) (line_end ∷ []) in
        let f = long_append one two in
        let p = number_as waiting_text n in
        let short : length (decimal n) ≤ 2 = decimal_short 2 n (omega arith) (omega arith) in
        let q : long two ≤ 21 * most_classes = each_long (nth_class_texts bytes settings) 21 most_classes 0 (λ j k. class_long (waiting_of bytes settings j))
        in
        omega arith
    by false = omega arith

waiting_long : (records settings : List ℕ) → long (waiting_texts records settings) ≤ 182 * nodes
unfolding waiting_texts joined
waiting_long records settings = by (eqb (length records) records_size && eqb (length settings) all_settings)
  where
    by : (x : Bool) → long (cond x (each_from (nth_node_texts records settings) nodes 0) []) ≤ 182 * nodes
    by true = each_long (nth_node_texts records settings) 182 nodes 0 (λ n h. node_long (record_at records n) (settings_at settings n) n (omega arith))
    by false = omega arith

-- THEOREM
pub closing_long : (images records settings sheet : List ℕ) → long (closing_texts images records settings sheet) ≤ 22366
unfolding closing_texts objects_texts joined
closing_long images records settings sheet =
    let lines = objects_texts images sheet in
    let tenths = waiting_texts records settings in
    let third = answer_texts rest_text (at_rest records) in
    let last = answer_texts settled_text (settled images records) in
    let e = long_append ((end_text ∷ []) ++ lines ++ tenths ++ third) last in
    let f = long_append ((end_text ∷ []) ++ lines ++ tenths) third in
    let k = long_append ((end_text ∷ []) ++ lines) tenths in
    let g = long_append (end_text ∷ []) lines in
    let t = waiting_long records settings in
    let p : long lines ≤ 156 * objects = each_long (nth_object_texts images sheet) 156 objects 0
    (λ t h. object_long t (newest images t) (value_of sheet t) (omega arith) (nodes_lt images t)) in
    let q = answer_long rest_text (at_rest records) refl in
    let r = answer_long settled_text (settled images records) refl in
    omega arith

-- so in a buffer with that much room all of it is put, and nothing else is changed
pub closing_fits : (images records settings sheet out : List ℕ) (at : ℕ) → at + 22366 ≤ length out → closed (page out at) images records settings sheet
    ≡ page (put_at out at (joined (closing_texts images records settings sheet))) (at + long (closing_texts images records settings sheet))
closing_fits images records settings sheet out at h =
    inks_fit (closing_texts images records settings sheet) out at (let k = closing_long images records settings sheet in omega arith)
