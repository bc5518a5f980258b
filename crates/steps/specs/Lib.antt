-- Document 01's station machine: what a station is (Station), its steps (Step), runs of steps and what is seen of them (Run).
pub mod Station
pub mod Step
pub mod Run
