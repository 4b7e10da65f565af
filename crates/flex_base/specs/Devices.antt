-- The devices: the harts' timers and software interrupts, the console, the test finisher, and how each hart stands. All of
-- it follows from the list of the accesses so far.
use Rattle.std.specs.Prelude.{ℕ, ◌+◌, ◌-◌, ◌*◌, ◌/◌, ◌%◌, ◌^◌, Bool, true, false, ◌&&◌, ◌||◌, ◌==◌, nat_le, nat_lt, if◌then◌else◌, List, [], ◌∷◌, map, length, drop, filter, fold, replicate, slice_set, slice_index_or, Option, None, Some, is_some}
use Rattle.std.specs.List.{list_all, list_any}
use Rattle.flex_base.specs.Word.{wrap, low, field, is_set, is_multiple}
use Rattle.flex_base.specs.Causes.{MSI, MTI}
use Rattle.flex_base.specs.Place.{FINISHER, MSIP, MTIMECMP, MTIME, UART, UART_LSR}
use Rattle.flex_base.specs.FlatMemory.{Done, covers, reply_with}
use Rattle.flex_base.specs.declared.access.Access.{Access}
use Rattle.flex_base.specs.declared.access.Access.TheVariants as acc
use Rattle.flex_base.specs.declared.access.Reply.{Reply}
use Rattle.flex_base.specs.declared.event.Stop.{Stop}
use Rattle.flex_base.specs.declared.event.Stop.TheVariants as stop
use Rattle.flex_base.specs.declared.hart_device.HartDevice.{HartDevice}
use Rattle.flex_base.specs.declared.hart_device.HartStanding.{HartStanding}
use Rattle.flex_base.specs.declared.hart_device.HartStanding.TheVariants as stand

-- The state, and how it begins.

-- the time; what is kept of each hart; the stop, once one stands
pub record DeviceState : Type 0 where
  pub mtime : ℕ
  pub harts : List HartDevice
  pub stop : Option Stop

-- the compare value at the start, which sets no alarm
abbrev pub never : ℕ
never = 18446744073709551615

abbrev pub hart_start : HartDevice
hart_start = record { mtimecmp = never; msip = false; standing = stand.Runs }

abbrev pub devices_start : ℕ → DeviceState
devices_start harts = record { mtime = 0; harts = replicate harts hart_start; stop = None }

-- what is kept of a hart; of one that there isn't, what it would start with
abbrev pub hart_at : DeviceState → ℕ → HartDevice
hart_at s h = slice_index_or s.harts h hart_start

abbrev pub set_hart : DeviceState → ℕ → HartDevice → DeviceState
set_hart s h own = record s { harts = slice_set s.harts h own }

-- Interrupt lines, and waking by them.

-- the timer's interrupt is pending where the time is at least the compare value (Volume II, "Machine Timer Registers
-- (mtime and mtimecmp)")
abbrev pub is_timer_pending : ℕ → HartDevice → Bool
is_timer_pending mtime own = nat_le own.mtimecmp mtime

-- a hart's interrupt lines, each at its bit of mip
abbrev pub lines_of : ℕ → HartDevice → ℕ
lines_of mtime own = (if own.msip then 2 ^ MSI else 0) + (if is_timer_pending mtime own then 2 ^ MTI else 0)

-- a line is on that is enabled in mie
abbrev pub is_interrupted : ℕ → HartDevice → ℕ → Bool
is_interrupted mtime own mie = (own.msip && is_set MSI mie) || (is_timer_pending mtime own && is_set MTI mie)

abbrev pub wakes_standing : ℕ → HartDevice → HartStanding → HartStanding
wakes_standing mtime own (stand.Waits mie) = if is_interrupted mtime own mie then stand.Woken else stand.Waits mie
wakes_standing mtime own other = other

-- a waiting hart is woken where a line is on that it has enabled
abbrev pub wakes_hart : ℕ → HartDevice → HartDevice
wakes_hart mtime own = record own { standing = wakes_standing mtime own own.standing }

abbrev pub wakes : DeviceState → DeviceState
wakes s = record s { harts = map (wakes_hart s.mtime) s.harts }

-- Standings.

abbrev pub is_woken : HartStanding → Bool
is_woken stand.Woken = true
is_woken other = false

abbrev pub is_unwoken : HartStanding → Bool
is_unwoken (stand.Waits mie) = true
is_unwoken other = false

abbrev pub is_spent : HartStanding → Bool
is_spent stand.Spent = true
is_spent other = false

-- the hart waits, woken or not
abbrev pub still_waits : HartStanding → Bool
still_waits standing = is_unwoken standing || is_woken standing

-- the hart does nothing by itself: it is spent or waits unwoken
abbrev pub is_at_rest : HartStanding → Bool
is_at_rest standing = is_unwoken standing || is_spent standing

abbrev pub all_at_rest : List HartDevice → Bool
all_at_rest harts = list_all (λ (own : HartDevice). is_at_rest own.standing) harts

abbrev pub some_unwoken : List HartDevice → Bool
some_unwoken harts = list_any (λ (own : HartDevice). is_unwoken own.standing) harts

abbrev pub all_spent : List HartDevice → Bool
all_spent harts = list_all (λ (own : HartDevice). is_spent own.standing) harts

-- the hart begins to stand like this
abbrev pub stands_as : DeviceState → ℕ → HartStanding → DeviceState
stands_as s h standing = set_hart s h (record (hart_at s h) { standing = standing })

-- a hart that is woken runs
abbrev pub runs_if_woken : DeviceState → ℕ → DeviceState
runs_if_woken s h = if is_woken (hart_at s h).standing then stands_as s h stand.Runs else s

-- The stop.

abbrev pub first_stop : Option Stop → Stop → Option Stop
first_stop None new = Some new
first_stop (Some old) new = Some old

-- the first stop stays
abbrev pub stops : DeviceState → Stop → DeviceState
stops s new = record s { stop = first_stop s.stop new }

-- The registers.

pub data Register : Type 0 where
  Finisher : Register
  Msip : ℕ → Register
  Mtimecmp : ℕ → Register
  Mtime : Register
  Uart : Register
  LineStatus : Register
  Other : Register

-- registers of one kind, side by side: where they begin, how many bytes they take together and each of them takes, and
-- which the one of a number is
pub record Family : Type 0 where
  pub base : ℕ
  pub size : ℕ
  pub each : ℕ
  pub register : ℕ → Register

abbrev pub family : ℕ → ℕ → ℕ → (ℕ → Register) → Family
family base size each register = record { base = base; size = size; each = each; register = register }

-- those of the harts stand in rising order of the harts
abbrev pub memory_map : List Family
memory_map = family FINISHER 4 4 (λ i. Finisher)
    ∷ family MSIP 0x4000 4 Msip
    ∷ family MTIMECMP 0x7ff8 8 Mtimecmp
    ∷ family MTIME 8 8 (λ i. Mtime)
    ∷ family UART 1 1 (λ i. Uart)
    ∷ family UART_LSR 1 1 (λ i. LineStatus)
    ∷ []

abbrev pub register_among : List Family → ℕ → Register
register_among [] address = Other
register_among (f ∷ more) address =
    if covers f.base f.size address then f.register ((address - f.base) / f.each) else register_among more address

-- the register that has the byte at an address
abbrev pub register_at : ℕ → Register
register_at address = register_among memory_map address

-- of an 8-byte register the whole, or the half at the address
abbrev pub part : ℕ → ℕ → ℕ → ℕ
part address width value = if width == 8 then value
    else (if is_multiple address 8 then value % 2 ^ 32 else value / 2 ^ 32)

-- what a write leaves of an 8-byte register: a write of 4 bytes leaves the other half
abbrev pub put_part : ℕ → ℕ → ℕ → ℕ → ℕ
put_part address width old value = if width == 8 then value
    else (if is_multiple address 8 then (old - old % 2 ^ 32) + value % 2 ^ 32
    else old % 2 ^ 32 + 2 ^ 32 * (value % 2 ^ 32))

-- the low half of a word with which the test finisher ends the run
abbrev pub FINISHER_PASS : ℕ
FINISHER_PASS = 0x5555

abbrev pub FINISHER_FAIL : ℕ
FINISHER_FAIL = 0x3333

-- the test finisher turns the power off: after a pass with code 0, after a fail with the code in the word's high half
abbrev pub finishes : DeviceState → ℕ → DeviceState
finishes s value =
    if low 16 value == FINISHER_PASS then stops s (stop.Off 0)
    else (if low 16 value == FINISHER_FAIL then stops s (stop.Off (field 16 16 value)) else s)

abbrev pub puts_msip : DeviceState → ℕ → ℕ → DeviceState
puts_msip s h value = set_hart s h (record (hart_at s h) { msip = is_set 0 value })

abbrev pub puts_mtimecmp : DeviceState → ℕ → ℕ → ℕ → ℕ → DeviceState
puts_mtimecmp s h address width value =
    set_hart s h (record (hart_at s h) { mtimecmp = put_part address width (hart_at s h).mtimecmp value })

-- what a write leaves
abbrev pub stores : DeviceState → Register → ℕ → ℕ → ℕ → DeviceState
stores s Finisher address width value = finishes s value
stores s (Msip h) address width value = puts_msip s h value
stores s (Mtimecmp h) address width value = puts_mtimecmp s h address width value
stores s Mtime address width value = record s { mtime = put_part address width s.mtime value }
stores s _ address width value = s

-- the next byte of the input, or 0
abbrev pub next_byte : List ℕ → ℕ
next_byte left = slice_index_or left 0 0

abbrev pub has_input : List ℕ → Bool
has_input left = nat_lt 0 (length left)

-- bits of the line status: input is ready; the transmitter holding register is empty; so is the transmitter
abbrev pub LSR_DR : ℕ
LSR_DR = 0x01

abbrev pub LSR_THRE : ℕ
LSR_THRE = 0x20

abbrev pub LSR_TEMT : ℕ
LSR_TEMT = 0x40

-- a byte can always be sent
abbrev pub line_status : List ℕ → ℕ
line_status left = LSR_TEMT + LSR_THRE + (if has_input left then LSR_DR else 0)

-- what is read of a register, where so much input is left
abbrev pub register_value : DeviceState → List ℕ → Register → ℕ → ℕ → ℕ
register_value s left (Msip h) address width = if (hart_at s h).msip then 1 else 0
register_value s left (Mtimecmp h) address width = part address width (hart_at s h).mtimecmp
register_value s left Mtime address width = part address width s.mtime
register_value s left Uart address width = next_byte left
register_value s left LineStatus address width = line_status left
register_value s left _ address width = 0

-- Time that jumps.

-- the compare value by which time alone wakes the hart
abbrev pub alarm_of : HartStanding → ℕ → Option ℕ
alarm_of (stand.Waits mie) mtimecmp = if is_set MTI mie && nat_lt mtimecmp never then Some mtimecmp else None
alarm_of other mtimecmp = None

abbrev pub alarm : HartDevice → Option ℕ
alarm own = alarm_of own.standing own.mtimecmp

-- the earlier of two times, where there are such
abbrev pub sooner : Option ℕ → Option ℕ → Option ℕ
sooner None b = b
sooner (Some a) None = Some a
sooner (Some a) (Some b) = Some (if nat_lt b a then b else a)

abbrev pub next_alarm : List HartDevice → Option ℕ
next_alarm harts = fold (λ best (own : HartDevice). sooner best (alarm own)) None harts

-- time jumps to the alarm and wakes harts; where there is none, nothing can wake a hart, and the run is idle
abbrev pub jumps_to : DeviceState → Option ℕ → DeviceState
jumps_to s (Some time) = wakes (record s { mtime = time })
jumps_to s None = stops s stop.Idle

-- what follows where a hart begins to wait or is spent: time jumps where all are at rest and one of them waits
abbrev pub rests : DeviceState → DeviceState
rests s = if all_at_rest s.harts && some_unwoken s.harts then jumps_to s (next_alarm s.harts) else s

-- the retirement by which all harts are spent makes the stop `budget`
abbrev pub spends : DeviceState → DeviceState
spends s = if all_spent s.harts then stops s stop.Budget else s

-- The pass over the accesses.

abbrev pub next_mtime : ℕ → Bool → ℕ
next_mtime mtime tick = if tick then wrap (mtime + 1) else mtime

-- what an access by this hart leaves
abbrev pub device_step : DeviceState → ℕ → Access → DeviceState
device_step s h (acc.Pulse tick) = wakes (runs_if_woken (record s { mtime = next_mtime s.mtime tick }) h)
device_step s h (acc.Wait mie) = runs_if_woken (rests (wakes (stands_as s h (stand.Waits mie)))) h
device_step s h acc.Retire = rests (spends (wakes (stands_as s h stand.Spent)))
device_step s h (acc.DevWrite address width value) = wakes (stores s (register_at address) address width value)
device_step s h other = wakes s

-- the state after these accesses
abbrev pub devices : ℕ → List Done → DeviceState
devices harts made = fold (λ s (d : Done). device_step s d.hart d.access) (devices_start harts) made

-- the hart waits, and may make its pulse
abbrev pub woken : ℕ → List Done → ℕ → Bool
woken harts made h = is_woken (hart_at (devices harts made) h).standing

-- the stop, once one stands
abbrev pub device_stop : ℕ → List Done → Option Stop
device_stop harts made = (devices harts made).stop

-- The console.

-- the access takes a byte of the input, where one is left
abbrev pub is_receive : Access → Bool
is_receive (acc.DevRead address width) = address == UART
is_receive other = false

-- the input that is left after these accesses
abbrev pub input_left : List ℕ → List Done → List ℕ
input_left input made = drop (length (filter (λ (d : Done). is_receive d.access) made)) input

-- the access transmits a byte
abbrev pub is_transmit : Access → Bool
is_transmit (acc.DevWrite address width value) = address == UART
is_transmit other = false

abbrev pub byte_of : Access → ℕ
byte_of (acc.DevWrite address width value) = low 8 value
byte_of other = 0

-- the bytes that these accesses transmit, in order
abbrev pub sent_bytes : List Done → List ℕ
sent_bytes made = map (λ (d : Done). byte_of d.access) (filter (λ (d : Done). is_transmit d.access) made)

-- Replies.

-- of a pulse or a wait: whether the hart still waits, its lines, and whether a stop stands, all after the access
abbrev pub tells : DeviceState → ℕ → Reply
tells s h = record {
  value = if still_waits (hart_at s h).standing then 1 else 0;
  lines = lines_of s.mtime (hart_at s h);
  stop = is_some s.stop;
}

-- the reply to an access by this hart in a state, where so much input is left
abbrev pub reply_in : DeviceState → List ℕ → ℕ → Access → Reply
reply_in s left h (acc.Pulse tick) = tells (device_step s h (acc.Pulse tick)) h
reply_in s left h (acc.Wait mie) = tells (device_step s h (acc.Wait mie)) h
reply_in s left h acc.Time = reply_with s.mtime
reply_in s left h (acc.DevRead address width) = reply_with (register_value s left (register_at address) address width)
reply_in s left h other = reply_with 0

-- the reply to an access by this hart after these accesses
abbrev pub reply_after : ℕ → List ℕ → List Done → ℕ → Access → Reply
reply_after harts input made h access = reply_in (devices harts made) (input_left input made) h access
