-- Demand 3, stated on the station's own steps, and the numbers of deliveries. TO BELIEVE IT, read Ledger and Ballots (what the events alone tell),
-- Sane and Origin (where lists of steps begin) and Claims (what is claimed of every list of steps); they stand on crate steps' `step` and on crate
-- protocol's `replay`, `given` and, for an origin that is not blank, `values_of`.
-- Running keeps replay's last values in bounded memory.
pub mod Ledger
pub mod Ballots
pub mod Sane
pub mod Origin
pub mod Claims
pub mod Running
