-- The lines after the events, of a state of the machine.
use Rattle.std.specs.Prelude.{ℕ, ◌<◌, ◌==◌, if◌then◌else◌, List, [], ◌∷◌, ◌++◌, length, slice_index, slice_index_or, Option, None, Some, unwrap_or}
use Rattle.std.specs.List.{flat_map, filter_map, range_with_len}
use Rattle.sha2.specs.Sha256.{sha256}
use Rattle.flex_base.specs.Csrs.{csr_read}
use Rattle.flex_base.specs.State.{State}
use Rattle.flex_base.specs.declared.hart.Mode.TheVariants as mode
use Rattle.flex_base.specs.declared.event.Stop.{Stop}
use Rattle.hart_story.specs.StandsFor.{StandsFor}
use Rattle.hart_story.specs.declared.hart.Hart.{Hart}
use Rattle.tracer.specs.declared.tail_text.TailLine.{TailLine}
use Rattle.tracer.specs.declared.tail_text.TailLine.TheVariants as tail

-- where a hart is
abbrev pub state_line : ℕ → State → TailLine
state_line h a = tail.Hart (record { 0 = h }) a.ends a.mode a.pc

-- a register, where it isn't 0
abbrev pub register_line : ℕ → State → ℕ → Option TailLine
register_line h a r = if slice_index a.x r == 0 then None else Some (tail.Reg (record { 0 = h }) r (slice_index a.x r))

-- what a CSR is read as in mode M, with the interrupt lines as the hart last knew them
unfoldable pub csr_value : State → ℕ → ℕ
csr_value a number = unwrap_or (csr_read a.csrs number mode.M a.lines 0) 0

-- a CSR, where it isn't 0
abbrev pub csr_line : ℕ → State → ℕ → Option TailLine
csr_line h a number =
    if csr_value a number == 0 then None else Some (tail.Csr (record { 0 = h }) number (csr_value a number))

-- the CSRs that are shown, in this order
unfoldable pub shown_csrs : List ℕ
shown_csrs = 0x105 ∷ 0x106 ∷ 0x140 ∷ 0x141 ∷ 0x142 ∷ 0x143 ∷ 0x180 ∷ 0x300 ∷ 0x302 ∷ 0x303
    ∷ 0x304 ∷ 0x305 ∷ 0x306 ∷ 0x340 ∷ 0x341 ∷ 0x342 ∷ 0x343 ∷ 0x344 ∷ 0xb00 ∷ 0xb02 ∷ []

-- 1 to 31
unfoldable pub register_numbers : List ℕ
register_numbers = range_with_len 1 31

-- a hart's lines: where it is, its registers from 1 to 31, and its CSRs
unfoldable pub hart_lines : ℕ → State → List TailLine
hart_lines h a =
    state_line h a ∷ [] ++ filter_map (register_line h a) register_numbers ++ filter_map (csr_line h a) shown_csrs

abbrev pub stop_lines : Option Stop → List TailLine
stop_lines None = []
stop_lines (Some stop) = tail.Stop stop ∷ []

-- why the run ended, if it has; so many harts in order; the digest of RAM; and the end
unfoldable pub tail_lines : Option Stop → ℕ → (ℕ → State) → List ℕ → List TailLine
tail_lines stop harts state ram = stop_lines stop ++ flat_map (λ h. hart_lines h (state h)) (range_with_len 0 harts)
    ++ tail.Ram (sha256 ram) ∷ tail.Done ∷ []

-- each hart is in the state of its number
abbrev pub AllStand : List Hart → (ℕ → State) → Type 0
AllStand harts state = (h : ℕ) (other : Hart) → h < length harts → StandsFor (slice_index_or harts h other) (state h)
