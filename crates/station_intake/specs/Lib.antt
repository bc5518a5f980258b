-- A station's older images taken in: what becomes of them (Convert), and what the private functions say in passing (Pass). The laws are in proofs/.
pub mod Convert
pub mod Pass
