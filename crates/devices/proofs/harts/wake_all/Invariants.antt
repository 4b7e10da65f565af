use Rattle.std.proofs.Common.{◌≡◌, map, take, drop, ◌++◌}
use Rattle.flex_base.specs.Devices.{wakes_hart}
use Rattle.devices.proofs.harts.wake_all.Given as goal

-- the harts before this one have been woken
abbrev pub invariant-loop-own : goal.invariant-loop-own
invariant-loop-own l = l.harts ≡ map (wakes_hart l.mtime) (take l.own-index l.initial.harts) ++ drop l.own-index l.initial.harts
