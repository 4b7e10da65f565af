-- A hart's state at the start of an instruction (Volume I, "Programmers' Model"; Volume II, "Machine-Level ISA").
use Rattle.std.specs.Prelude.{◌≡◌, ℕ, ◌≤◌, Bool, true, false, ◌==◌, if◌then◌else◌, List, [], Option, None, MatchOption, replicate, slice_index, slice_set}
use Rattle.flex_base.specs.Word.{is_multiple}
use Rattle.flex_base.specs.Place.{in_ram}
use Rattle.flex_base.specs.Csrs.{start_csrs, AreFit}
use Rattle.flex_base.specs.Translation.{AreLeaves}
use Rattle.flex_base.specs.declared.hart.Mode.{Mode}
use Rattle.flex_base.specs.declared.hart.Mode.TheVariants as mode
use Rattle.flex_base.specs.declared.translation.Leaf.{Leaf}

pub record State : Type 0 where
  pub pc : ℕ
  -- the 32 registers; what stands at 0 is never read
  pub x : List ℕ
  pub mode : Mode
  -- the aligned 8 bytes of the last load-reserved
  pub reservation : Option ℕ
  -- how many instructions and traps have ended
  pub ends : ℕ
  -- the interrupt lines as last read
  pub lines : ℕ
  -- whether a pulse is due
  pub due : Bool
  -- the stores of the control and status registers
  pub csrs : List ℕ
  -- the leaves that walks have found since the last fence, from the first to the last
  pub leaves : List Leaf

-- the value of a register; x0 is 0
abbrev pub reg : List ℕ → ℕ → ℕ
reg x r = if r == 0 then 0 else slice_index x r

-- the registers after a write; a write of x0 changes nothing
abbrev pub set_reg : List ℕ → ℕ → ℕ → List ℕ
set_reg x r value = if r == 0 then x else slice_set x r value

-- a hart begins at the entry, in mode M, with its number in x10 and in mhartid, and keeps no translation
abbrev pub start : ℕ → ℕ → State
start hart entry = record {
  pc = entry;
  x = slice_set (replicate 32 0) 10 hart;
  mode = mode.M;
  reservation = None;
  ends = 0;
  lines = 0;
  due = false;
  csrs = start_csrs hart;
  leaves = [];
}

-- a reservation is 8 aligned bytes of RAM
abbrev pub IsReservation : ℕ → Option ℕ → Type 0
IsReservation ram reservation = MatchOption reservation (Unit {0}) (λ r. (is_multiple r 8 ≡ true) × (in_ram ram r 8 ≡ true))

-- a state that one of so many harts can be in: the pc is aligned, the budget isn't overspent, a reservation is 8 aligned bytes
-- of RAM, the stores are such as instructions leave, and so are the leaves
pub record IsFit (harts ram budget : ℕ) (a : State) : Type 0 where
  pub aligned : is_multiple a.pc 4 ≡ true
  pub within : a.ends ≤ budget
  pub reserved : IsReservation ram a.reservation
  pub csrs : AreFit harts a.csrs
  pub leaves : AreLeaves a.leaves
