use Rattle.std.proofs.Common.{◌≡◌, ℕ, ◌<◌, ◌≤◌, false, [], map, get_or}
use Rattle.journal.specs.Rests.{begins_with, events_left, is_in_range}
use Rattle.journal.proofs.merged.first_of.Given as goal

abbrev pub invariant-loop-at : goal.invariant-loop-at
invariant-loop-at l = (h : ℕ) → l.from ≤ h → h < l.at
    → (begins_with l.number (get_or (map events_left l.rests) h []) ≡ false) × is_in_range (get_or (map events_left l.rests) h [])
