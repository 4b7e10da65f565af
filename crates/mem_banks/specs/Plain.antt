-- A bus of one thread: what it is of, and what its banks and its devices keep.
use Rattle.std.specs.Prelude.{◌≡◌, ℕ, ◌+◌, zero, suc, ◌<◌, ◌≤◌, List, [], ◌∷◌, map, length, slice_index_or, Option, None, Some}
use Rattle.std.specs.List.{range_with_len}
use Rattle.flex_base.specs.Setup.{Setup}
use Rattle.flex_base.specs.Loaded.{Loaded}
use Rattle.flex_base.specs.declared.settings.Settings.{Settings}
use Rattle.mem_lines.specs.Bank.{Bank, IsBank, IsReplay}
use Rattle.devices.specs.View.{DevicesView}
use Rattle.access_record.specs.Passes.{RecordIdentity, PassOfBank}
use Rattle.access_record.specs.Buses.{Run, ram_banks}
use Rattle.access_record.specs.Histories.{History}
use Rattle.mem_banks.specs.Slots.{pass_of, done_in, seen_in}
use Rattle.mem_banks.specs.Kept.{IsRun, IsBankAt, AreDevicesAt}

-- the run, the lines of each bank, and the devices; which bank has seen all numbers so far; and what was done
pub record Plain : Type 0 where
  pub run : Run
  pub lines : List Bank
  pub devices : DevicesView
  pub newest : ℕ
  pub history : History

-- the least number that may come after this last one
abbrev pub next_number : Option ℕ → ℕ
next_number None = 0
next_number (Some number) = number + 1

abbrev pub plain_of : Run → List Bank → DevicesView → List (Option PassOfBank) → ℕ → Option ℕ → Plain
plain_of run lines d slots newest latest = record {
  run = run;
  lines = lines;
  devices = d;
  newest = newest;
  history = record { least = next_number latest; banks = map done_in slots };
}

-- the pass at this place, which is that of a bank of RAM, has seen the numbers below this one
pub record HasSeen (banks : ℕ) (slots : List (Option PassOfBank)) (newest order : ℕ) : Type 0 where
  pub bank : newest < banks
  pub seen : (slot : Option PassOfBank) → order ≤ seen_in (slice_index_or slots newest slot)

-- bank b lies at place b, and its pass too; the pass of the devices comes after those of the banks
pub record IsPlain (run : Run) (lines : List Bank) (d : DevicesView) (slots : List (Option PassOfBank)) : Type 0 where
  pub run_is : IsRun run
  pub some : 0 < length lines
  pub counted : length lines ≡ ram_banks run
  pub all : length slots ≡ run.book.limits.banks
  pub banks : (bank : ℕ) (b : Bank) (slot : Option PassOfBank) → bank < length lines
      → IsBankAt run bank (slice_index_or lines bank b) (slice_index_or slots bank slot)
  pub devices : (slot : Option PassOfBank) → AreDevicesAt run d (slice_index_or slots (length lines) slot)

-- the numbers below this one, in falling order
abbrev pub numbers_below : ℕ → List ℕ
numbers_below zero = []
numbers_below (suc n) = n ∷ numbers_below n

-- the passes of so many banks that were just enrolled
abbrev pub new_slots : RecordIdentity → ℕ → List (Option PassOfBank)
new_slots book n = map (λ bank. Some (pass_of book bank [] 0)) (range_with_len 0 n)

-- a setup of this image and these settings
pub record IsOfImage (image : Loaded) (settings : Settings) (setup : Setup) : Type 0 where
  pub image_is : setup.image ≡ image
  pub ram : setup.ram ≡ settings.ram

-- banks of an image in rising order, with no access made
abbrev pub AreMade : Loaded → Settings → ℕ → List Bank → Type 0
AreMade image settings banks lines = (k : ℕ) (b : Bank) → k < length lines
    → IsBank settings.ram banks k (slice_index_or lines k b)
    × ((setup : Setup) → IsOfImage image settings setup → IsReplay setup [] (slice_index_or lines k b))
