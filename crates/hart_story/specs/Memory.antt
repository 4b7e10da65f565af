-- What a load, a store or an atomic instruction is in the story.
use Rattle.std.specs.Prelude.{◌≡◌, ℕ, ◌*◌, ◌<◌, true, if◌then◌else◌, Some}
use Rattle.flex_base.specs.Word.{low, is_multiple}
use Rattle.flex_base.specs.Setup.{Setup}
use Rattle.flex_base.specs.State.{State}
use Rattle.flex_base.specs.Place.{in_ram, place_of}
use Rattle.flex_base.specs.FlatMemory.{reservation_set, is_reserved}
use Rattle.flex_base.specs.Forms.{IsWidth, IsAtomicWidth}
use Rattle.flex_base.specs.StoryTree.{Story, Says}
use Rattle.flex_base.specs.Ends.{computes, passes, computes_device, passes_device, concludes}
use Rattle.flex_base.specs.Story.{loads_at, stores_at, loads_reserved_at, stores_conditional_at, modifies_at, at_place, extended}
use Rattle.flex_base.specs.declared.access.Access.{Access}
use Rattle.flex_base.specs.declared.access.Access.TheVariants as acc
use Rattle.flex_base.specs.declared.class.Class.TheVariants as class
use Rattle.flex_base.specs.declared.translation.Kind.{Kind}
use Rattle.flex_base.specs.declared.translation.Kind.TheVariants as kind
use Rattle.hart_story.specs.declared.memory_work.MemoryOp.{MemoryOp}
use Rattle.hart_story.specs.declared.memory_work.MemoryOp.TheVariants as memory
use Rattle.hart_story.specs.declared.memory_work.MemoryWork.{MemoryWork}

-- what it asks of a page; an atomic operation asks what a store does
abbrev pub kind_of : MemoryOp → Kind
kind_of memory.Load = kind.Load
kind_of memory.Store = kind.Store
kind_of memory.LoadReserved = kind.Load
kind_of memory.StoreConditional = kind.Store
kind_of (memory.Modify does) = kind.Store

-- at its physical address, by what it does
abbrev pub reaching_by : MemoryOp → MemoryWork → Setup → State → ℕ → Story
reaching_by memory.Load w setup = loads_at setup w.width w.signed w.rd w.address
reaching_by memory.Store w setup = stores_at setup w.width w.value w.address
reaching_by memory.LoadReserved w setup = loads_reserved_at setup w.width w.rd w.address
reaching_by memory.StoreConditional w setup = stores_conditional_at setup w.width w.rd w.value w.address
reaching_by (memory.Modify does) w setup = modifies_at setup does w.width w.rd w.value w.address

abbrev pub reaching : MemoryWork → Setup → State → ℕ → Story
reaching w = reaching_by w.op w

-- its access at a physical address, a value cut to its width
abbrev pub access_by : MemoryOp → ℕ → ℕ → ℕ → Access
access_by memory.Load address width value = acc.Read address width
access_by memory.Store address width value = acc.Write address width (low (8 * width) value)
access_by memory.LoadReserved address width value = acc.Lr address width
access_by memory.StoreConditional address width value = acc.Sc address width (low (8 * width) value)
access_by (memory.Modify does) address width value = acc.Amo does address width (low (8 * width) value)

abbrev pub access_of : MemoryWork → ℕ → Access
access_of w address = access_by w.op address w.width w.value

-- what follows the reply with this value
abbrev pub closing_by : MemoryOp → MemoryWork → State → ℕ → ℕ → Story
closing_by memory.Load w a address value = computes a class.Load w.rd (extended w.signed w.width value)
closing_by memory.Store w a address value = passes a class.Store
closing_by memory.LoadReserved w a address value =
    computes (record a { reservation = Some (reservation_set address) }) class.Atomic w.rd (extended true w.width value)
closing_by memory.StoreConditional w a address value = concludes a w.rd value
closing_by (memory.Modify does) w a address value = computes a class.Atomic w.rd (extended true w.width value)

abbrev pub closing : MemoryWork → State → ℕ → ℕ → Story
closing w = closing_by w.op w

-- it asks for its access at this physical address
abbrev pub asking : MemoryWork → State → ℕ → Story
asking w a address = Says (access_of w address) (λ reply. closing w a address reply.value)

-- the access of a load or a store at a device register
abbrev pub device_access_by : MemoryOp → ℕ → ℕ → ℕ → Access
device_access_by memory.Load address width value = acc.DevRead address width
device_access_by other address width value = acc.DevWrite address width (low (8 * width) value)

abbrev pub device_access_of : MemoryWork → ℕ → Access
device_access_of w address = device_access_by w.op address w.width w.value

-- what follows the device's reply with this value
abbrev pub device_closing_by : MemoryOp → MemoryWork → State → ℕ → Story
device_closing_by memory.Load w a value = computes_device a w.rd (extended w.signed w.width value)
device_closing_by other w a value = passes_device a

abbrev pub device_closing : MemoryWork → State → ℕ → Story
device_closing w = device_closing_by w.op w

-- it asks for its access at a device register
abbrev pub asking_device : MemoryWork → State → ℕ → Story
asking_device w a address = Says (device_access_of w address) (λ reply. device_closing w a reply.value)

-- at its physical address, by its access, that at a device register and its exception: a load and a store have any place, an
-- atomic instruction RAM alone (and a store-conditional the hart's reservation)
abbrev pub placing_by : MemoryOp → MemoryWork → Setup → State → ℕ → Story → Story → Story → Story
placing_by memory.Load w setup a address access device fault =
    at_place (place_of setup.harts setup.ram address w.width) access device fault
placing_by memory.Store w setup a address access device fault =
    at_place (place_of setup.harts setup.ram address w.width) access device fault
placing_by memory.StoreConditional w setup a address access device fault =
    if in_ram setup.ram address w.width
    then (if is_reserved a.reservation (reservation_set address) then access else concludes a w.rd 1)
    else fault
placing_by other w setup a address access device fault = if in_ram setup.ram address w.width then access else fault

-- a width that it can have
abbrev pub HasWidth : MemoryOp → ℕ → Type 0
HasWidth memory.Load width = IsWidth width
HasWidth memory.Store width = IsWidth width
HasWidth memory.LoadReserved width = IsAtomicWidth width
HasWidth memory.StoreConditional width = IsAtomicWidth width
HasWidth (memory.Modify does) width = IsAtomicWidth width

-- its operands are such as a word can name
pub record IsMemoryWork (w : MemoryWork) : Type 0 where
  pub width : HasWidth w.op w.width
  pub register : w.rd < 32

-- and its address is aligned
pub record IsAlignedWork (w : MemoryWork) : Type 0 where
  pub of_memory : IsMemoryWork w
  pub aligned : is_multiple w.address w.width ≡ true
