-- Outside of the pipe the latches are empty.
use Rattle.solo.proofs.Flying.{new_in_flight}
use Rattle.solo.proofs.engines.go_in_engine.Goals as goal

pub returns-in-Kernel-clause-flying : goal.returns-in-Kernel-clause-flying
returns-in-Kernel-clause-flying g c = new_in_flight _ _ c.new.ensures

pub returns-in-Host-clause-flying : goal.returns-in-Host-clause-flying
returns-in-Host-clause-flying g c = new_in_flight _ _ c.new-in-Host.ensures
