-- A delivery keeps the clauses (Deliver), the widths (Fits) and the own place among the rivals (Own); what was found stays (Found); what else follows
-- from its cases (Laws). Deliveries takes a delivery apart by its cases, Messages says what a delivered message is. Samples has computed records.
pub mod Messages
pub mod Deliveries
pub mod Deliver
pub mod Own
pub mod Fits
pub mod Found
pub mod Laws
pub mod Samples
