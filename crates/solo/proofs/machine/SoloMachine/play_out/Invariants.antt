-- So many rounds are played.
use Rattle.std.proofs.Common.{◌≡◌, ◌-◌}
use Rattle.flex_base.specs.Setup.{Setup}
use Rattle.flex_base.specs.Unsplit.{Machine, hart_numbers}
use Rattle.flex_base.specs.Rounds.{repeated, most_rounds}
use Rattle.solo.specs.Standing.{IsAt}
use Rattle.solo.specs.Playing.{Playing}
use Rattle.solo.proofs.machine.SoloMachine.play_out.Given as goal

abbrev pub invariant-rounds : goal.invariant-rounds
invariant-rounds l = (l.self.plan ≡ l.fn.self.plan)
    × ((setup : Setup) (u : Machine) → IsAt setup u l.fn.self
    → Playing setup u (repeated l.counter (hart_numbers setup)) (repeated (most_rounds setup - l.counter) (hart_numbers setup)) l.self)
