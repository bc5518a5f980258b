-- `coordinator::objects::at_place`: what stands at the place.
use Rattle.coordinator.proofs.objects.at_place.Goals as goal

pub returns : goal.returns
returns c = cc
