-- Where the code reads a field of older bytes (Places), several fields written item by item (Columns), the fields of a blank image that are not 0 (Marks),
-- what an older image becomes in a later shape (Into) and in today's (Taken), that step by step is the same as at once (Twice), that today's check judges
-- it (Judged), that a blank one becomes blank (Blank), and what a call says (Called).
pub mod Places
pub mod Columns
pub mod Marks
pub mod Into
pub mod Taken
pub mod Twice
pub mod Judged
pub mod Blank
pub mod Called
