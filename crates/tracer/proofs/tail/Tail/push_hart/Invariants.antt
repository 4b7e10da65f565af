use Rattle.std.proofs.Common.{◌≡◌, ◌+◌, ◌-◌, ◌≤◌, [], ◌∷◌, ◌++◌, take, length}
use Rattle.std.specs.List.{filter_map, range_with_len}
use Rattle.flex_base.specs.State.{State}
use Rattle.hart_story.specs.StandsFor.{StandsFor}
use Rattle.tracer.specs.Tail.{register_numbers, shown_csrs, state_line, register_line, csr_line}
use Rattle.tracer.proofs.tail.Tail.push_hart.Given as goal

-- the registers so far
abbrev pub invariant-loop-number : goal.invariant-loop-number
invariant-loop-number l = record {
  lines : (a : State) → StandsFor l.hart a → l.self ≡ l.fn.self ++ state_line l.id.0 a ∷ [] ++ filter_map (register_line l.id.0 a) (range_with_len 1 (l.number - 1));
  room : length l.self ≤ length l.fn.self + l.number;
}

-- all registers, and the CSRs so far
abbrev pub invariant-loop-number-2 : goal.invariant-loop-number-2
invariant-loop-number-2 l = record {
  lines : (a : State) → StandsFor l.hart a → l.self ≡ l.fn.self ++ state_line l.id.0 a ∷ [] ++ filter_map (register_line l.id.0 a) register_numbers ++ filter_map (csr_line l.id.0 a) (take l.number-index shown_csrs);
  room : length l.self ≤ length l.fn.self + 32 + l.number-index;
}
