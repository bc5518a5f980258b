-- What the contracts of `decimal` cite, and reading back (Decimal), and the laws of it (Laws): length, digits, no leading zero, reading back, and
-- one text behind another.
pub mod Decimal
pub mod Laws
