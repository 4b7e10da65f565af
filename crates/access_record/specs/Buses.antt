-- What a bus asks of a hart's pass, and what it does to it.
use Rattle.std.specs.Prelude.{◌≡◌, ℕ, ◌-◌, ◌<◌, Bool, true, List, [], ◌∷◌, ◌++◌, map, length, Option, Some}
use Rattle.flex_base.specs.Setup.{Setup}
use Rattle.flex_base.specs.FlatMemory.{Done}
use Rattle.flex_base.specs.StoryTree.{Asks}
use Rattle.flex_base.specs.Unsplit.{Instruction}
use Rattle.flex_base.specs.Devices.{hart_at, is_unwoken, is_transmit, devices, sent_bytes}
use Rattle.flex_base.specs.Following.{wanted, Follows, instruction_of, is_waiting, last_engine}
use Rattle.flex_base.specs.Banks.{bank_of_access, accesses_of}
use Rattle.flex_base.specs.declared.access.Access.{Access}
use Rattle.flex_base.specs.declared.access.Reply.{Reply}
use Rattle.flex_base.specs.declared.engine.Engine.{Engine}
use Rattle.flex_base.specs.declared.event.Event.{Event}
use Rattle.flex_base.specs.declared.event.What.{What}
use Rattle.flex_base.specs.declared.event.What.TheVariants as what
use Rattle.access_record.specs.declared.entry.Entry.{Entry}
use Rattle.access_record.specs.declared.entry.LogEntry.{LogEntry}
use Rattle.access_record.specs.Logs.{Ascends, log_entry}
use Rattle.access_record.specs.Passes.{RecordIdentity, PassOfHart}

-- what a bus is of: its record; and the image, the settings and the console's input
pub record Run : Type 0 where
  pub book : RecordIdentity
  pub setup : Setup

-- how many banks RAM has; the devices are the bank of this number
abbrev pub ram_banks : Run → ℕ
ram_banks run = run.book.limits.banks - 1

abbrev pub place_in : Run → Access → ℕ
place_in run access = bank_of_access (ram_banks run) access

-- the events of a log
abbrev pub events_of : List LogEntry → List Event
events_of log = map (λ (e : LogEntry). e.event) log

-- an access names its bank; what is no access is told by its log already
abbrev pub NamesPlace : Run → Option ℕ → What → Type 0
NamesPlace run bank (what.Acc access reply) = bank ≡ Some (place_in run access)
NamesPlace run bank other = Unit {0}

abbrev pub NamePlaces : Run → List LogEntry → Type 0
NamePlaces run [] = Unit {0}
NamePlaces run (e ∷ log) = NamesPlace run e.bank e.event.what × NamePlaces run log

-- a pass that a bus takes: it is of the bus's record and of a hart of its settings, its log has room and follows the hart's
-- story, and each access names its bank
pub record IsGiven (run : Run) (pass : PassOfHart) : Type 0 where
  pub book : pass.id ≡ run.book.id
  pub hart : pass.hart.0 < run.setup.harts
  pub room : length pass.log < run.book.limits.room
  pub follows : Follows run.setup pass.hart.0 (events_of pass.log)
  pub places : NamePlaces run pass.log

-- where the hart is in its instruction
abbrev pub instruction_in : Run → PassOfHart → Instruction
instruction_in run pass = instruction_of run.setup pass.hart.0 (events_of pass.log)

-- the hart asks this access
abbrev pub Wants : Run → PassOfHart → Access → Type 0
Wants run pass access = wanted run.setup (instruction_in run pass) ≡ Asks access

-- the hart was told that it waits
abbrev pub waits : PassOfHart → Bool
waits pass = is_waiting (events_of pass.log)

-- the engine that the hart was in at its last event that is no handover
abbrev pub engine_of : PassOfHart → Option Engine
engine_of pass = last_engine (events_of pass.log)

-- how many bytes the events of a log have transmitted
abbrev pub bytes_sent : List LogEntry → ℕ
bytes_sent log = length (sent_bytes (accesses_of (events_of log)))

-- where the access transmits a byte, the hart has transmitted fewer than its budget
abbrev pub HasByte : Run → PassOfHart → Access → Type 0
HasByte run pass access = is_transmit access ≡ true → bytes_sent pass.log < run.setup.budget

-- what is noted of an access and its reply
abbrev pub access_entry : Engine → Access → Reply → Entry
access_entry engine access reply = record { engine = engine; what = what.Acc access reply }

-- the pass of the same hart and record, whose log has this entry more, with this number, which is above all before it
pub record Extends (old new : PassOfHart) (entry : Entry) (bank : Option ℕ) (number : ℕ) : Type 0 where
  pub id : new.id ≡ old.id
  pub hart : new.hart ≡ old.hart
  pub log : new.log ≡ old.log ++ log_entry entry old.hart bank number ∷ []
  pub above : Ascends 0 number old.log

-- the pass of the same hart and record, with the same log, which has looked at the devices
pub record HasLooked (old new : PassOfHart) : Type 0 where
  pub id : new.id ≡ old.id
  pub hart : new.hart ≡ old.hart
  pub log : new.log ≡ old.log
  pub looks : old.looks < new.looks

-- after these accesses of the devices the hart waits and isn't woken
abbrev pub is_unwoken_after : Run → List Done → ℕ → Bool
is_unwoken_after run made hart = is_unwoken (hart_at (devices run.setup.harts made) hart).standing

-- so it is in the devices' log that the pass looked at last
abbrev pub waits_unwoken : Run → PassOfHart → Bool
waits_unwoken run pass = is_unwoken_after run (accesses_of (events_of pass.looked)) pass.hart.0
