-- The memory map.
use Rattle.std.specs.Prelude.{ℕ, ◌+◌, ◌-◌, ◌*◌, Bool, ◌&&◌, ◌==◌, nat_le, nat_lt, if◌then◌else◌, List, [], ◌∷◌}
use Rattle.std.specs.List.{list_any}
use Rattle.flex_base.specs.Word.{is_multiple}
use Rattle.flex_base.specs.declared.settings.Place.{Place}
use Rattle.flex_base.specs.declared.settings.Place.TheVariants as place

-- where RAM begins
abbrev pub ram_base : ℕ
ram_base = 2147483648

-- Where device registers begin.

-- SiFive's test finisher, which ends a run
abbrev pub FINISHER : ℕ
FINISHER = 0x00100000

-- the core-local interruptor (CLINT): the harts' software interrupt bits, their timer compare values, and the time
abbrev pub MSIP : ℕ
MSIP = 0x02000000

abbrev pub MTIMECMP : ℕ
MTIMECMP = 0x02004000

abbrev pub MTIME : ℕ
MTIME = 0x0200bff8

-- a 16550 UART: its first register is the receiver buffer when it is read and the transmitter holding register when it is
-- written, the sixth is the line status
abbrev pub UART : ℕ
UART = 0x10000000

abbrev pub UART_LSR : ℕ
UART_LSR = UART + 5

-- so many bytes from the address up lie wholly in RAM
abbrev pub in_ram : ℕ → ℕ → ℕ → Bool
in_ram ram address width = nat_le ram_base address && nat_le (address + width) (ram_base + ram)

-- registers of one width, side by side
pub record Registers : Type 0 where
  pub base : ℕ
  pub width : ℕ
  pub count : ℕ

abbrev pub registers : ℕ → ℕ → ℕ → Registers
registers base width count = record { base = base; width = width; count = count }

-- the device registers; a compare value and the time have registers for their halves too
abbrev pub device_registers : ℕ → List Registers
device_registers harts = registers FINISHER 4 1
    ∷ registers MSIP 4 harts
    ∷ registers MTIMECMP 8 harts
    ∷ registers MTIMECMP 4 (2 * harts)
    ∷ registers MTIME 8 1
    ∷ registers MTIME 4 2
    ∷ registers UART 1 8
    ∷ []

-- the address and the width are those of one of these registers
abbrev pub is_among : ℕ → ℕ → Registers → Bool
is_among address width r = (width == r.width) && nat_le r.base address && nat_lt address (r.base + r.width * r.count) && is_multiple (address - r.base) r.width

-- the place of so many bytes
abbrev pub place_of : ℕ → ℕ → ℕ → ℕ → Place
place_of harts ram address width = if in_ram ram address width then place.Ram else (if list_any (is_among address width) (device_registers harts) then place.Device else place.Nowhere)
