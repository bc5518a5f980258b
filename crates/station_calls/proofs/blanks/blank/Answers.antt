-- `station_calls::blanks::blank`: refused, or each buffer made blank.
use mathlib.Core.Path.{sym, ap, ◌∙◌}
use Rattle.numbers.proofs.Outcome.{code_counts}
use Rattle.buffers.specs.Buffers.{Buffers, all}
use Rattle.station_calls.proofs.Blanking.{blank_sized, blank_refused, blank_taken, pool_made}
use Rattle.station_calls.proofs.blanks.blank.Goals as goal

pub returns-in_err-may_blank-clause-images_after : goal.returns-in_err-may_blank-clause-images_after
returns-in_err-may_blank-clause-images_after c = let x = c.args in
    let b = all x.images.now x.records.now x.pool.now x.own.now in
    ap (λ (y : Buffers). y.images) (blank_refused b x.on (λ z. code_counts c.in_err-may_blank.field-0.0 (c.in_err-may_blank.ensures ∙ z)))

pub returns-in_err-may_blank-clause-records_after : goal.returns-in_err-may_blank-clause-records_after
returns-in_err-may_blank-clause-records_after c = let x = c.args in
    let b = all x.images.now x.records.now x.pool.now x.own.now in
    ap (λ (y : Buffers). y.records) (blank_refused b x.on (λ z. code_counts c.in_err-may_blank.field-0.0 (c.in_err-may_blank.ensures ∙ z)))

pub returns-in_err-may_blank-clause-pool_after : goal.returns-in_err-may_blank-clause-pool_after
returns-in_err-may_blank-clause-pool_after c = let x = c.args in
    let b = all x.images.now x.records.now x.pool.now x.own.now in
    ap (λ (y : Buffers). y.pool) (blank_refused b x.on (λ z. code_counts c.in_err-may_blank.field-0.0 (c.in_err-may_blank.ensures ∙ z)))

pub returns-in_err-may_blank-clause-own_after : goal.returns-in_err-may_blank-clause-own_after
returns-in_err-may_blank-clause-own_after c = let x = c.args in
    let b = all x.images.now x.records.now x.pool.now x.own.now in
    ap (λ (y : Buffers). y.own) (blank_refused b x.on (λ z. code_counts c.in_err-may_blank.field-0.0 (c.in_err-may_blank.ensures ∙ z)))

pub blank_images-requires : goal.blank_images-requires
blank_images-requires c = let x = c.args in
    let s = blank_sized (all x.images.now x.records.now x.pool.now x.own.now) x.on
    (sym c.in_ok-may_blank.ensures) in
    s.images

pub blank_records-requires : goal.blank_records-requires
blank_records-requires c = let x = c.args in
    let s = blank_sized (all x.images.now x.records.now x.pool.now x.own.now) x.on
    (sym c.in_ok-may_blank.ensures) in
    s.records

pub returns-clause-value : goal.returns-clause-value
returns-clause-value c = let x = c.args in
    let s = blank_sized (all x.images.now x.records.now x.pool.now x.own.now) x.on
    (sym c.in_ok-may_blank.ensures) in
    let e = sym c.in_ok-may_blank.ensures in
    let i = c.blank_images.ensures in
    let r = c.blank_records.ensures in
    let p = c.blank.ensures.pool ∙ pool_made x.pool.now s.pool in
    let o = c.put_u16.ensures in
    let t = blank_taken (all x.images.now x.records.now x.pool.now x.own.now) x.on e in
    sym e

pub returns-clause-images_after : goal.returns-clause-images_after
returns-clause-images_after c = let x = c.args in
    let s = blank_sized (all x.images.now x.records.now x.pool.now x.own.now) x.on
    (sym c.in_ok-may_blank.ensures) in
    let e = sym c.in_ok-may_blank.ensures in
    let i = c.blank_images.ensures in
    let r = c.blank_records.ensures in
    let p = c.blank.ensures.pool ∙ pool_made x.pool.now s.pool in
    let o = c.put_u16.ensures in
    let t = blank_taken (all x.images.now x.records.now x.pool.now x.own.now) x.on e in
    i ∙ ap (λ (y : Buffers). y.images) t

pub returns-clause-records_after : goal.returns-clause-records_after
returns-clause-records_after c = let x = c.args in
    let s = blank_sized (all x.images.now x.records.now x.pool.now x.own.now) x.on
    (sym c.in_ok-may_blank.ensures) in
    let e = sym c.in_ok-may_blank.ensures in
    let i = c.blank_images.ensures in
    let r = c.blank_records.ensures in
    let p = c.blank.ensures.pool ∙ pool_made x.pool.now s.pool in
    let o = c.put_u16.ensures in
    let t = blank_taken (all x.images.now x.records.now x.pool.now x.own.now) x.on e in
    r ∙ ap (λ (y : Buffers). y.records) t

pub returns-clause-pool_after : goal.returns-clause-pool_after
returns-clause-pool_after c = let x = c.args in
    let s = blank_sized (all x.images.now x.records.now x.pool.now x.own.now) x.on
    (sym c.in_ok-may_blank.ensures) in
    let e = sym c.in_ok-may_blank.ensures in
    let i = c.blank_images.ensures in
    let r = c.blank_records.ensures in
    let p = c.blank.ensures.pool ∙ pool_made x.pool.now s.pool in
    let o = c.put_u16.ensures in
    let t = blank_taken (all x.images.now x.records.now x.pool.now x.own.now) x.on e in p ∙ ap (λ (y : Buffers). y.pool) t

pub returns-clause-own_after : goal.returns-clause-own_after
returns-clause-own_after c = let x = c.args in
    let s = blank_sized (all x.images.now x.records.now x.pool.now x.own.now) x.on
    (sym c.in_ok-may_blank.ensures) in
    let e = sym c.in_ok-may_blank.ensures in
    let i = c.blank_images.ensures in
    let r = c.blank_records.ensures in
    let p = c.blank.ensures.pool ∙ pool_made x.pool.now s.pool in
    let o = c.put_u16.ensures in
    let t = blank_taken (all x.images.now x.records.now x.pool.now x.own.now) x.on e in o ∙ ap (λ (y : Buffers). y.own) t
