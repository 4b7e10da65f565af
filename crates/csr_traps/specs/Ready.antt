-- Interrupts as words, a bit for each.
use Rattle.std.specs.Prelude.{ℕ, if◌then◌else◌, List, Option, filter, slice_index, bit_and, bit_or}
use Rattle.flex_base.specs.Word.{is_set}
use Rattle.flex_base.specs.Csrs.{all_but, mip, mie, mideleg}
use Rattle.flex_base.specs.Traps.{interrupts, first_cause, is_on_for_m, is_on_for_s}
use Rattle.flex_base.specs.declared.hart.Mode.{Mode}

-- those that are pending and enabled
abbrev pub ready_set : List ℕ → ℕ → ℕ
ready_set stores lines = bit_and (bit_and (bit_or (slice_index stores mip) lines) (slice_index stores mie)) 0xaaa

-- of some interrupts, those that M takes now, and those that S does
abbrev pub set_for_m : List ℕ → Mode → ℕ → ℕ
set_for_m stores mode ready = if is_on_for_m stores mode then bit_and ready (all_but (slice_index stores mideleg)) else 0

abbrev pub set_for_s : List ℕ → Mode → ℕ → ℕ
set_for_s stores mode ready = if is_on_for_s stores mode then bit_and ready (slice_index stores mideleg) else 0

-- the cause of the first of some interrupts
unfoldable pub first_in : ℕ → Option ℕ
first_in set = first_cause (filter (λ i. is_set i set) interrupts)
