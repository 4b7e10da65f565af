-- A load, a store or an atomic instruction at its physical address.
use Rattle.std.proofs.Common.{◌≡◌, ℕ, ◌%◌, true, Option, refl, ap, sym, subst, ◌∙◌, arith}
use Rattle.flex_base.specs.Word.{is_multiple}
use Rattle.flex_base.specs.Setup.{Setup}
use Rattle.flex_base.specs.State.{State}
use Rattle.flex_base.specs.Causes.{access_fault}
use Rattle.flex_base.specs.Forms.{IsWidth, IsPlaced}
use Rattle.flex_base.specs.Place.{in_ram, place_of}
use Rattle.flex_base.specs.StoryTree.{Says}
use Rattle.flex_base.specs.Translating.{with_leaf}
use Rattle.flex_base.specs.Ends.{traps}
use Rattle.flex_base.specs.declared.settings.Layout.{Layout}
use Rattle.flex_base.specs.declared.settings.Place.TheVariants as place
use Rattle.flex_base.specs.declared.translation.Leaf.{Leaf}
use Rattle.hart_story.specs.Memory.{kind_of, reaching_by, reaching, access_by, access_of, closing_by, asking, device_access_by, device_access_of, device_closing_by, asking_device, placing_by, HasWidth, IsMemoryWork}
use Rattle.hart_story.specs.Need.{IsReservedFor}
use Rattle.hart_story.specs.StandsFor.{Shows}
use Rattle.hart_story.specs.Stage.{IsSoundAccess}
use Rattle.hart_story.specs.declared.hart.Hart.{Hart}
use Rattle.hart_story.specs.declared.memory_work.MemoryOp.{MemoryOp}
use Rattle.hart_story.specs.declared.memory_work.MemoryOp.TheVariants as memory
use Rattle.hart_story.specs.declared.memory_work.MemoryWork.{MemoryWork}

-- what the work does there is its access where that may stand, else its exception
reaching_by-placing : (op : MemoryOp) (w : MemoryWork) (setup : Setup) (a : State) (address : ℕ)
    → reaching_by op w setup a address ≡ placing_by op w setup a address
    (Says (access_by op address w.width w.value) (λ reply. closing_by op w a address reply.value))
    (Says (device_access_by op address w.width w.value) (λ reply. device_closing_by op w a reply.value))
    (traps a (access_fault (kind_of op)) w.address)
reaching_by-placing memory.Load w setup a address = refl
reaching_by-placing memory.Store w setup a address = refl
reaching_by-placing memory.LoadReserved w setup a address = refl
reaching_by-placing memory.StoreConditional w setup a address = refl
reaching_by-placing (memory.Modify does) w setup a address = refl

pub reaching-placing : (op : MemoryOp) (w : MemoryWork) (setup : Setup) (a : State) (address : ℕ) → w.op ≡ op
    → reaching w setup a address ≡ placing_by op w setup a address (asking w a address) (asking_device w a address)
    (traps a (access_fault (kind_of w.op)) w.address)
reaching-placing op w setup a address is = reaching_by-placing w.op w setup a address
    ∙ ap (λ (o : MemoryOp). placing_by o w setup a address (asking w a address) (asking_device w a address)
    (traps a (access_fault (kind_of w.op)) w.address)) is

-- its access stands where it may, at aligned bytes of RAM
access_placed : (op : MemoryOp) (harts ram address width value : ℕ) → HasWidth op width → is_multiple address width ≡ true
    → in_ram ram address width ≡ true → IsPlaced harts ram (access_by op address width value)
access_placed memory.Load harts ram address width value wide whole inside = (wide, record { aligned = whole; in_ram = inside })
access_placed memory.Store harts ram address width value wide whole inside = (wide, record { aligned = whole; in_ram = inside })
access_placed memory.LoadReserved harts ram address width value wide whole inside = (wide, record { aligned = whole; in_ram = inside })
access_placed memory.StoreConditional harts ram address width value wide whole inside = (wide, record { aligned = whole; in_ram = inside })
access_placed (memory.Modify does) harts ram address width value wide whole inside = (wide, record { aligned = whole; in_ram = inside })

pub sound_access : (op : MemoryOp) (layout : Layout) (hart : Hart) (w : MemoryWork) (address : ℕ) → w.op ≡ op
    → IsMemoryWork w → is_multiple address w.width ≡ true → in_ram layout.ram address w.width ≡ true
    → IsReservedFor hart.regs.reservation (access_by op address w.width w.value) → IsSoundAccess layout hart w (access_of w address)
sound_access op layout hart w address is of_memory whole inside reserved =
    let Reserved : MemoryOp → Type 0 = λ o. IsReservedFor hart.regs.reservation (access_by o address w.width w.value) in
    record {
      of_memory = of_memory;
      placed = access_placed w.op layout.harts layout.ram address w.width w.value of_memory.width whole inside;
      reserved = subst Reserved (sym is) reserved;
    }

-- an access of a device register stands in its place, and within any reservation
device_placed : (op : MemoryOp) (harts ram address width value : ℕ) → place_of harts ram address width ≡ place.Device
    → IsPlaced harts ram (device_access_by op address width value)
device_placed memory.Load harts ram address width value there = there
device_placed memory.Store harts ram address width value there = there
device_placed memory.LoadReserved harts ram address width value there = there
device_placed memory.StoreConditional harts ram address width value there = there
device_placed (memory.Modify does) harts ram address width value there = there

device_reserved : (op : MemoryOp) (reservation : Option ℕ) (address width value : ℕ)
    → IsReservedFor reservation (device_access_by op address width value)
device_reserved memory.Load reservation address width value = tt
device_reserved memory.Store reservation address width value = tt
device_reserved memory.LoadReserved reservation address width value = tt
device_reserved memory.StoreConditional reservation address width value = tt
device_reserved (memory.Modify does) reservation address width value = tt

pub sound_device : (layout : Layout) (hart : Hart) (w : MemoryWork) (address : ℕ) → IsMemoryWork w
    → place_of layout.harts layout.ram address w.width ≡ place.Device → IsSoundAccess layout hart w (device_access_of w address)
sound_device layout hart w address of_memory there = record {
  of_memory = of_memory;
  placed = device_placed w.op layout.harts layout.ram address w.width w.value there;
  reserved = device_reserved w.op hart.regs.reservation address w.width w.value;
}

-- a width of any of them is one of a load
pub has_width : (op : MemoryOp) (width : ℕ) → HasWidth op width → IsWidth width
has_width memory.Load width wide = wide
has_width memory.Store width wide = wide
has_width memory.LoadReserved width wide = grind arith
has_width memory.StoreConditional width wide = grind arith
has_width (memory.Modify does) width wide = grind arith

-- a page holds whole numbers of each width, so a physical address is aligned where the virtual one is
pub aligned_in_page : (width address va : ℕ) → IsWidth width → address % 4096 ≡ va % 4096
    → is_multiple va width ≡ true → is_multiple address width ≡ true
aligned_in_page width address va wide same whole = grind arith

-- a leaf more is none of what the hart itself shows
pub shows_with_leaf : (hart : Hart) (a : State) (leaf : Leaf) → Shows hart a → Shows hart (with_leaf a leaf)
shows_with_leaf hart a leaf shown = record {
  regs = record {
    pc = shown.regs.pc;
    x = shown.regs.x;
    mode = shown.regs.mode;
    reservation = shown.regs.reservation;
    ends = shown.regs.ends;
    lines = shown.regs.lines;
    due = shown.regs.due;
  };
  csrs = shown.csrs;
}
