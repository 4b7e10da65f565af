-- The harts so far are at their start, and their logs are taken.
use Rattle.std.proofs.Common.{◌≡◌, ◌-◌, ◌≤◌}
use Rattle.std.specs.Prelude.{vec_capacity}
use Rattle.solo.specs.Room.{are_empty}
use Rattle.solo.specs.Begun.{AreBegun}
use Rattle.solo.proofs.machine.begin_harts.Given as goal

abbrev pub invariant-loop-h : goal.invariant-loop-h
invariant-loop-h l = AreBegun l.initial.bus.run l.plan l.settings l.h l.initial.founder l.founder l.contexts.items
    × (l.bus ≡ l.initial.bus) × (l.h ≤ l.settings.harts)
    × (l.logs.items ≡ are_empty l.settings (l.settings.harts - l.h)) × (vec_capacity l.logs ≡ vec_capacity l.initial.logs)
    × (l.settings.harts ≤ vec_capacity l.contexts) × (vec_capacity l.contexts ≡ vec_capacity l.initial.contexts)
