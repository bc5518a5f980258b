-- The same of the service's steps: which of them ask for votes and give up, and what they hand over. A batch's request is a request too; a front end's call
-- is no delivery.
use Rattle.std.specs.Prelude.{refl, List, [], ℕ}
use Rattle.steps.specs.Step.{abort}
use Rattle.frontend.specs.Plan.{request}
use Rattle.service.specs.Service.{Service, Call, front, load_hours, plain}
use Rattle.accounts.specs.Accounts.{Origin, reached}
use Rattle.progress.specs.Deliveries.{handed_by}
use Rattle.progress.specs.Oldest.{Acts}

unfoldable pub handed_at : Service → Call → List (List ℕ)
handed_at v (front n a) = []
handed_at v (load_hours n list) = []
handed_at v (plain c p) = handed_by v.machine c

abbrev pub service_acts : Origin → Acts Call
service_acts o = record { request = λ n. front n request; give_up = λ n. plain (abort n) refl; handed = λ ds c. handed_at (reached o ds) c }
