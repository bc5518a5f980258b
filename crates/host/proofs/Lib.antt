-- What the loop over the distances uses (Laws), a call that takes them as bytes (Told), and what a station's call leaves alone (Alone).
mod Laws
mod Told
pub mod Alone
