-- The language of scenarios: its words (Words), what the bytes of a line say (Said), the step that they name (Parse).
pub mod Words
pub mod Said
pub mod Parse
