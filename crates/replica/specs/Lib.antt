-- Document 01, 'The copy end', behind the judging of `judge`: what a fetch, an ask and an outcome change and answer (Steps), and a whole delivery with
-- its refusals (Receive). Given has what the private steps hand back while an answer is written. The laws are in proofs/.
pub mod Steps
pub mod Given
pub mod Receive
