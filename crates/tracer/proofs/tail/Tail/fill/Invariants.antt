use Rattle.std.proofs.Common.{◌≡◌, ℕ, ◌+◌, ◌*◌, ◌≤◌, ◌++◌, length}
use Rattle.std.specs.List.{flat_map, range_with_len}
use Rattle.flex_base.specs.State.{State}
use Rattle.tracer.specs.Tail.{AllStand, hart_lines}
use Rattle.tracer.proofs.tail.Tail.fill.Given as goal

-- the harts so far
abbrev pub invariant-loop-h : goal.invariant-loop-h
invariant-loop-h l = record {
  lines : (state : ℕ → State) → AllStand l.harts state → l.self ≡ l.initial.self ++ flat_map (λ h. hart_lines h (state h)) (range_with_len 0 l.h);
  room : length l.self ≤ length l.initial.self + 52 * l.h;
}
