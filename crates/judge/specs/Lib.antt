-- Document 01, 'The copy end': how a message's transaction stands here (Standing), and how an ask is judged (Judge). Weighing has what the private
-- functions find on the way.
pub mod Standing
pub mod Judge
pub mod Weighing
