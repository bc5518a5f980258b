-- Whatever follows an origin, replay is fed what it carries first and in its order: a step may add to the log and to those committed, and takes nothing away.
use mathlib.Core.Path.{sym, ◌∙◌, subst}
use mathlib.Core.Logic.{inl, inr}
use mathlib.Core.List.{List, [], ◌∷◌}
use mathlib.Core.Option.{Option, none, some}
use Prim.Native.Nat.{ℕ}
use lib.Dec.{eqb}
use Rattle.coordinator.specs.State.{committed}
use Rattle.replica.proofs.Delivered.{either_way}
use Rattle.steps.specs.Step.{Call, begin, open_read, open_write, set_value, found, reselect, request_commit, abort, send, delivery, drop, switch}
use Rattle.steps.specs.Run.{Event}
use Rattle.protocol.specs.Table.{In, Suffix, select, times}
use Rattle.protocol.specs.State.{Tx, Tx-discrete}
use Rattle.protocol.proofs.Tables.{on}
use Rattle.protocol.proofs.Lists.{suffix_of_equal, suffix_whole, suffix_trans, select_cases, select_all}
use Rattle.history.specs.Ledger.{Ledger, root_yes, tx_of, log_put, noted, note, ledger_from, in?, fed}
use Rattle.history.specs.Origin.{Origin, ledger_of}

-- an end of a list, all of whose members are selected, is an end of those selected
select_suffix : {A : Type 0} {P : A → Type 0} (d : (a : A) → Dec (P a)) (k l : List A) → Suffix k l → ((a : A) → In a k → P a) → Suffix k (select d l)
select_suffix d k [] e p = e
select_suffix d k (x ∷ l) (inl e) p =
    suffix_of_equal k (select d (x ∷ l)) (e ∙ sym (select_all d (x ∷ l) (λ a i. p a (subst (In a) (sym e) i))))
select_suffix d k (x ∷ l) (inr s) p = on (select_cases d x l)
    (λ z. subst (Suffix k) (sym z.1) (inr (select_suffix d k l s p)))
    (λ z. subst (Suffix k) (sym z.1) (select_suffix d k l s p))

-- ---- what is told later
abbrev Grows : Ledger → Ledger → Type 0
Grows L M = Suffix L.log M.log × ((x : Tx) → In x L.committed → In x M.committed)

same : (L : Ledger) → Grows L L
same L = (suffix_whole L.log, λ x i. i)

log_put_lem : (p : Option (List ℕ)) (l : List Tx) → Suffix l (log_put p l)
log_put_lem none l = suffix_whole l
log_put_lem (some b) l = either_way (Suffix l) (root_yes b) _ l
    (either_way (Suffix l) (eqb (times Tx-discrete (tx_of b) l) 0) (tx_of b ∷ l) l (inr (suffix_whole l)) (suffix_whole l)) (suffix_whole l)

noted_grows : (L : Ledger) (c : Call) (answer : ℕ) (p : Option (List ℕ)) → Grows L (noted L c answer p)
unfolding noted
noted_grows L (begin n w) answer p = same L
noted_grows L (open_read n t) answer p = same L
noted_grows L (open_write n t) answer p = same L
noted_grows L (set_value n t v) answer p = same L
noted_grows L (found n t) answer p = same L
noted_grows L (reselect n live d) answer p = same L
noted_grows L (request_commit n) answer p = same L
noted_grows L (abort n) answer p = same L
noted_grows L (send n to t) answer p = (log_put_lem p L.log, λ x i. i)
noted_grows L (delivery k kept) answer p =
    (log_put_lem p L.log, λ x i. either_way (In x) (eqb answer committed) (_ ∷ L.committed) L.committed (inr i) i)
noted_grows L (drop k) answer p = (log_put_lem p L.log, λ x i. i)
noted_grows L (switch n up) answer p = same L

told_grows : (L : Ledger) (es : List Event) → Grows L (ledger_from L es)
unfolding ledger_from note
told_grows L [] = same L
told_grows L (e ∷ es) =
    let before = told_grows L es in
    let M = ledger_from L es in
    let more = either_way (Grows M) (eqb e.number 0) (noted M e.call e.answer e.put) M (noted_grows M e.call e.answer e.put) (same M) in
    (suffix_trans L.log M.log (ledger_from L (e ∷ es)).log before.0 more.0, λ x i. more.1 x (before.1 x i))

-- THE THEOREM: what it carries is the end (a list is newest first) of what replay is fed
pub carried_first : (o : Origin) (es : List Event) → Suffix o.carried.txs (fed (ledger_from (ledger_of o) es))
carried_first o es =
    let L = ledger_from (ledger_of o) es in
    let g = told_grows (ledger_of o) es in
    select_suffix (λ x. in? x L.committed) o.carried.txs L.log g.0 g.1
