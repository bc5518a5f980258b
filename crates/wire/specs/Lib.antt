-- Document 01, 'Message and image', the message: what it holds (Message), which are well formed (Formed), the bytes of one (Encode), and what
-- bytes mean and which are accepted (Decode). Items has what the accessors give. Run and Headed have what the functions of the check compute,
-- which the proofs tie to these. The theorems are in proofs/Theorems.antt.
pub mod Message
pub mod Formed
pub mod Encode
pub mod Decode
pub mod Items
pub mod Run
pub mod Headed
