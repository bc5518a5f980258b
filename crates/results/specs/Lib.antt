-- What a step answered, as texts (Results); the messages that it names and puts, and what replay is told (Told).
pub mod Results
pub mod Told
