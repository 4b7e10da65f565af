-- The names so far are followed, and the latches are those of the last hart.
use Rattle.std.proofs.Common.{◌≡◌, take}
use Rattle.flex_base.specs.Setup.{Setup}
use Rattle.flex_base.specs.Unsplit.{Machine, reach_from}
use Rattle.solo.specs.Standing.{IsAt}
use Rattle.solo.specs.Engines.{IsFlying}
use Rattle.solo.proofs.machine.SoloMachine.play.Given as goal

abbrev pub invariant-loop-h : goal.invariant-loop-h
invariant-loop-h l = (l.self.plan ≡ l.fn.self.plan)
    × ((setup : Setup) (u : Machine) → IsAt setup u l.fn.self → IsAt setup (reach_from setup u (take l.h-index l.order)) l.self)
    × IsFlying l.self l.last l.latches
