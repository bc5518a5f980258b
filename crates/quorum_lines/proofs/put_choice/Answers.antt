-- `quorum_lines::put_choice` meets its contract: three texts put one behind another are the whole text, which fits.
use Prim.Native.Nat.{◌≤◌}
use native.Mathlib.Omega.{arith}
use mathlib.Core.Path.{sym, ◌∙◌}
use mathlib.Core.List.{[], ◌∷◌, ◌++◌}
use lib.ListN.{length, length-append}
use Rattle.decimal.specs.Decimal.{decimal}
use Rattle.decimal.specs.Laws.{next_fits, put_first, put_behind, decimal_short}
use Rattle.quorum_lines.specs.Reply.{choice_text}
use Rattle.quorum_lines.proofs.put_choice.Goals as goal

pub returns-in-None-clause-next : goal.returns-in-None-clause-next
unfolding choice_text
returns-in-None-clause-next c = let x = c.args in
    let r = c.append in
    let e = c.in-None.is in
    rw e (r.ensures.next ∙ next_fits x.out.now x.at (45 ∷ 32 ∷ 45 ∷ []) (omega arith))

pub returns-in-None-clause-buffer : goal.returns-in-None-clause-buffer
unfolding choice_text
returns-in-None-clause-buffer c = let x = c.args in
    let r = c.append in
    let e = c.in-None.is in
    rw e r.ensures.buffer

pub returns-in-None-clause-within : goal.returns-in-None-clause-within
unfolding choice_text
returns-in-None-clause-within c = let x = c.args in
    let r = c.append in
    let e = c.in-None.is in
    rw e (omega arith)

pub returns-in-Some-clause-next : goal.returns-in-Some-clause-next
unfolding choice_text
returns-in-Some-clause-next c = let x = c.args in
    let m = c.from-mask.result in
    let s = c.from-sum.result in
    let e = c.in-Some.is in
    let hm : length (decimal m) ≤ 5 = decimal_short 5 m (omega (arith, c.from-mask.ensures)) (omega arith) in
    let hs : length (decimal s) ≤ 10 = decimal_short 10 s (omega (arith, c.from-sum.ensures)) (omega arith) in
    let a1 = length-append (decimal m) (32 ∷ []) in
    let a2 = length-append (decimal m ++ (32 ∷ [])) (decimal s) in
    let one = put_first x.out.now x.at (decimal m) (omega arith) c.put-a.ensures.next c.put-a.ensures.buffer in
    let two = put_behind x.out.now x.at (decimal m) (32 ∷ []) (omega arith) one c.append-b.ensures.next c.append-b.ensures.buffer in
    let r = c.put.ensures in
    let three = put_behind x.out.now x.at (decimal m ++ (32 ∷ [])) (decimal s) (omega arith) two r.next r.buffer in
    rw (e, sym c.from-mask.ensures, sym c.from-sum.ensures) three.0

pub returns-in-Some-clause-buffer : goal.returns-in-Some-clause-buffer
unfolding choice_text
returns-in-Some-clause-buffer c = let x = c.args in
    let m = c.from-mask.result in
    let s = c.from-sum.result in
    let e = c.in-Some.is in
    let hm : length (decimal m) ≤ 5 = decimal_short 5 m (omega (arith, c.from-mask.ensures)) (omega arith) in
    let hs : length (decimal s) ≤ 10 = decimal_short 10 s (omega (arith, c.from-sum.ensures)) (omega arith) in
    let a1 = length-append (decimal m) (32 ∷ []) in
    let a2 = length-append (decimal m ++ (32 ∷ [])) (decimal s) in
    let one = put_first x.out.now x.at (decimal m) (omega arith) c.put-a.ensures.next c.put-a.ensures.buffer in
    let two = put_behind x.out.now x.at (decimal m) (32 ∷ []) (omega arith) one c.append-b.ensures.next c.append-b.ensures.buffer in
    let r = c.put.ensures in
    let three = put_behind x.out.now x.at (decimal m ++ (32 ∷ [])) (decimal s) (omega arith) two r.next r.buffer in
    rw (e, sym c.from-mask.ensures, sym c.from-sum.ensures) three.1

pub returns-in-Some-clause-within : goal.returns-in-Some-clause-within
unfolding choice_text
returns-in-Some-clause-within c = let x = c.args in
    let m = c.from-mask.result in
    let s = c.from-sum.result in
    let e = c.in-Some.is in
    let hm : length (decimal m) ≤ 5 = decimal_short 5 m (omega (arith, c.from-mask.ensures)) (omega arith) in
    let hs : length (decimal s) ≤ 10 = decimal_short 10 s (omega (arith, c.from-sum.ensures)) (omega arith) in
    let a1 = length-append (decimal m) (32 ∷ []) in
    let a2 = length-append (decimal m ++ (32 ∷ [])) (decimal s) in
    let one = put_first x.out.now x.at (decimal m) (omega arith) c.put-a.ensures.next c.put-a.ensures.buffer in
    let two = put_behind x.out.now x.at (decimal m) (32 ∷ []) (omega arith) one c.append-b.ensures.next c.append-b.ensures.buffer in
    let r = c.put.ensures in
    let three = put_behind x.out.now x.at (decimal m ++ (32 ∷ [])) (decimal s) (omega arith) two r.next r.buffer in
    rw (e, sym c.from-mask.ensures, sym c.from-sum.ensures) (omega arith)
