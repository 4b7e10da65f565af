use Rattle.std.proofs.Common.{◌≡◌, ◌≤◌}
use Rattle.std.specs.Prelude.{vec_len, vec_capacity}
use Rattle.mem_banks.specs.Plain.{numbers_below, new_slots}
use Rattle.mem_banks.proofs.plain_bus.enrol_banks.Given as goal

abbrev pub invariant-loop-bank : goal.invariant-loop-bank
invariant-loop-bank l = (l.founder.id ≡ l.initial.founder.id) × (l.founder.harts ≡ l.initial.founder.harts)
    × (l.founder.banks ≡ numbers_below l.bank) × (l.slots.items ≡ new_slots l.book l.bank)
    × (vec_len l.slots ≡ l.bank) × (l.all ≤ vec_capacity l.slots)
