-- Request 2.8, "The oldest gets through". TO BELIEVE IT, read Oldest: what is supposed, what follows. What deliveries brought of one transaction, counted
-- (Deliveries). That what is supposed can be met (Schedule). The same of the service (Service).
pub mod Deliveries
pub mod Oldest
pub mod Schedule
pub mod Service
