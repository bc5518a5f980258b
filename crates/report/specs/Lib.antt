-- What is printed: texts put one behind another (Page), those of several items (Each), and the texts of a message and of a number's word (Texts).
-- Table has the words as the code keeps them.
pub mod Page
pub mod Each
pub mod Texts
pub mod Table
