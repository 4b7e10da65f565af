-- The harts so far don't go on by themselves.
use Rattle.std.proofs.Common.{◌≡◌, ◌<◌, true, ℕ}
use Rattle.flex_base.specs.Setup.{Setup}
use Rattle.flex_base.specs.Unsplit.{Machine, want_of, is_idle}
use Rattle.solo.specs.Standing.{IsAt}
use Rattle.solo.proofs.machine.SoloMachine.are_idle.Given as goal

abbrev pub invariant-loop-h : goal.invariant-loop-h
invariant-loop-h l = (setup : Setup) (u : Machine) → IsAt setup u l.self → (k : ℕ) → k < l.h → is_idle (want_of setup u k) ≡ true
