-- How demand 3 of the service is proved: a list of its steps makes a list of the machine's (Expand), so what crate history claims of that list is claimed
-- of the service's; and replay that adds is replay with the machine's new values.
--   Expand            the machine's steps that a list of the service's makes: the same machine, the same ends
--   Follows, Plans    what was found is found after the deeds that follow in a call; what a front end's plans are made of
--   OnMachine         demand 3 and the numbers of deliveries, with replay as the machine's ledger has it
--   Facts, Ledgers    kinds and numbers; what each deed tells of transactions
--   Sums              a request on a batch: each amount becomes the value found with the amount added
--   Booked, Bookings  what transactions that add have told; every step keeps it
--   Effects           replay that adds has what the machine's has
--   Typed             settings stay sound, and the machine's steps are typed
--   Ends, Decided     how records come to be idle; a node's present transaction is told committed exactly when its record says so
--   Grams, Loads      the amounts that a batch tells are its grams; what tables that are loaded leave of settings
--   Weighing, Weighed the law of weight classes: what is kept of a node's batches, and that every step keeps it
--   Claimed           demand 3, the numbers of deliveries, sums, origins
--   Running           replay's last values in bounded memory
pub mod Expand
pub mod Follows
pub mod Plans
pub mod OnMachine
pub mod Facts
pub mod Ledgers
pub mod Sums
pub mod Booked
pub mod Bookings
pub mod Effects
pub mod Typed
pub mod Ends
pub mod Decided
pub mod Grams
pub mod Loads
pub mod Weighing
pub mod Weighed
pub mod Claimed
pub mod Running
