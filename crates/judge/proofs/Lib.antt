-- Laws of judging: of loops over a message's entries and over the owners (Passes).
pub mod Passes
