-- The numbers of calls (Numbers) and those that come first (First), what every plan keeps (Plans), a plan of one deed on bytes (Deed), opens and values
-- (Edits), votes asked for (Votes), what waits (Waits), a node that is off (Off), classes loaded (Loads), what a call leaves alone
-- (Alone), what it does on bytes (Does), what begins (Begun).
pub mod Numbers
pub mod First
pub mod Plans
pub mod Deed
pub mod Does
pub mod Begun
pub mod Edits
pub mod Votes
pub mod Waits
pub mod Off
pub mod Loads
pub mod Alone
