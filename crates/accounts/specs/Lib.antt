-- Lists of the service's steps: where they begin, what they reach, what they tell, what transactions do to the values held (Accounts). TO BELIEVE DEMAND 3
-- of the service, read crate history's Claims with the account that stands here. What is claimed of those that add (Claims). What batches have booked of
-- what was weighed (Weighed).
pub mod Accounts
pub mod Claims
pub mod Weighed
