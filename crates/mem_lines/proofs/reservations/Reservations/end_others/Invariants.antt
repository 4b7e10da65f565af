use Rattle.std.proofs.Common.{◌≡◌, ℕ, nat_lt, if◌then◌else◌, get_or, None}
use Rattle.flex_base.specs.FlatMemory.{broken}
use Rattle.mem_lines.proofs.reservations.Reservations.end_others.Given as goal

-- the harts below have lost theirs
abbrev pub invariant-loop-hart : goal.invariant-loop-hart
invariant-loop-hart l = (k : ℕ) → get_or l.self k None ≡ (if nat_lt k l.hart then broken k l.by l.address (get_or l.initial.self k None) else get_or l.initial.self k None)
