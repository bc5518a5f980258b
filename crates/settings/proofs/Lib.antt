-- Sound settings and what leaves them sound (Sound), and what the code finds and puts (Finds).
pub mod Sound
pub mod Finds
