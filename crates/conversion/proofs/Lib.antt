-- How the running goes on:
--   Fields            at every place a converted image reads as the older one did, and past its objects as blank
--   Older             every older shape can be converted from, and a blank station of it is at rest
--   Rests             a station at rest is one at rest once it is converted
--   Continues         hence its running goes on, and who wrote last stays known
pub mod Fields
pub mod Older
pub mod Rests
pub mod Continues
