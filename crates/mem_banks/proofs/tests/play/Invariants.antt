use Rattle.std.proofs.Common.{◌≡◌}
use Rattle.mem_banks.specs.Tried.{IsTried}
use Rattle.mem_banks.proofs.tests.play.Given as goal

abbrev pub invariant-loop-acc : goal.invariant-loop-acc
invariant-loop-acc l = IsTried l.bus.run l.hart.pass l.hart.waiting l.hart.left l.hart.bytes × (l.bus.run ≡ l.initial.bus.run)
    × (l.hart.pass.hart ≡ l.initial.hart.pass.hart)
