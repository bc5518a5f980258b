-- Laws of messages.
pub mod Made
pub mod Accepted
pub mod Stores
pub mod RoundTrip
pub mod Theorems
