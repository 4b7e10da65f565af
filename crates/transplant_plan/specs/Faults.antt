-- The faults of a plan, by their numbers.
use Rattle.std.specs.Prelude.{ℕ, Bool, nat_le}
use Rattle.transplant_plan.specs.declared.fault.PlanFault.{PlanFault}
use Rattle.transplant_plan.specs.declared.fault.PlanFault.TheVariants as fault

abbrev pub fault_number : PlanFault → ℕ
fault_number fault.NotUtf8 = 1
fault_number fault.NotToml = 2
fault_number (fault.UnknownKey key) = 3
fault_number (fault.UnknownEngine class text) = 4
fault_number (fault.CannotRun class engine) = 5
fault_number (fault.BadCount key number) = 6
fault_number fault.OutOfMemory = 7
fault_number (fault.TooLong bytes) = 8

-- the fault is one of those that a file is tested for, which are neither its length nor want of memory
abbrev pub is_of_file : PlanFault → Bool
is_of_file f = nat_le (fault_number f) 6
