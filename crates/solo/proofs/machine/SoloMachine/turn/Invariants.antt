-- So many events of the turn are made, and the latches are the hart's.
use Rattle.std.proofs.Common.{◌≡◌}
use Rattle.flex_base.specs.Setup.{Setup}
use Rattle.flex_base.specs.Unsplit.{Machine}
use Rattle.solo.specs.Standing.{IsAt}
use Rattle.solo.specs.Engines.{IsFlying}
use Rattle.solo.proofs.Rounds.{IsInTurn}
use Rattle.solo.proofs.machine.SoloMachine.turn.Given as goal

abbrev pub invariant-turn : goal.invariant-turn
invariant-turn l = (l.self.plan ≡ l.fn.self.plan)
    × ((setup : Setup) (u : Machine) → IsAt setup u l.fn.self → IsInTurn setup u l.h l.counter l.self)
    × IsFlying l.self l.h l.latches
