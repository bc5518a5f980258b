-- Laws that the crates above cite: of masks (Laws), and of tests in general (Tests).
pub mod Tests
pub mod Laws
