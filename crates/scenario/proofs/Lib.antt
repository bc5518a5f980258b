-- Kinds by their tags (Tags), a line by what it is (Ended), what a line says fits its C types (Typed); what is done and printed is what happened (Input).
pub mod Tags
pub mod Ended
pub mod Typed
pub mod Input
