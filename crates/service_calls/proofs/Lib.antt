-- A node's part of a buffer lent on (Lending), a front end's call over the buffers (Fronts), hours loaded (Loading), and a blank service made (Blanking).
pub mod Lending
pub mod Fronts
pub mod Loading
pub mod Blanking
