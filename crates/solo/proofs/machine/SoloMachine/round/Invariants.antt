-- The harts so far have had their turns.
use Rattle.std.proofs.Common.{◌≡◌, ℕ, ◌-◌, ◌≤◌, List, ◌++◌}
use Rattle.std.specs.List.{range_with_len}
use Rattle.flex_base.specs.Setup.{Setup}
use Rattle.flex_base.specs.Unsplit.{Machine, hart_numbers}
use Rattle.solo.specs.Playing.{Playing}
use Rattle.solo.proofs.machine.SoloMachine.round.Given as goal

abbrev pub invariant-loop-h : goal.invariant-loop-h
invariant-loop-h l = (l.self.plan ≡ l.fn.self.plan)
    × ((setup : Setup) (u : Machine) (done rest : List ℕ) → Playing setup u done (hart_numbers setup ++ rest) l.fn.self
    → (l.h ≤ setup.harts) × Playing setup u (done ++ range_with_len 0 l.h) (range_with_len l.h (setup.harts - l.h) ++ rest) l.self)
