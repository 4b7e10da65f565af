-- The state of the unsplit machine that a solo machine stands for.
use Rattle.std.specs.Prelude.{◌≡◌, ℕ, ◌+◌, ◌*◌, ◌<◌, ◌≤◌, true, ◌==◌, List, [], ◌∷◌, length, filter, slice_index_or}
use Rattle.flex_base.specs.Setup.{Setup}
use Rattle.flex_base.specs.FlatMemory.{Done}
use Rattle.flex_base.specs.Forms.{IsPlaced}
use Rattle.flex_base.specs.Banks.{bank_of_access}
use Rattle.flex_base.specs.Following.{instruction_of}
use Rattle.flex_base.specs.Unsplit.{Machine, instruction_at, reach, reach_from, has_ended}
use Rattle.flex_base.specs.Rounds.{rounds}
use Rattle.flex_base.specs.declared.engine.Engine.{Engine}
use Rattle.flex_base.specs.declared.event.Event.{Event}
use Rattle.access_record.specs.Buses.{ram_banks}
use Rattle.access_record.specs.Passes.{Enrolment}
use Rattle.transplant_plan.specs.Split.{Splitting, split_run, holder_of}
use Rattle.mem_lines.specs.Bank.{is_bank_count}
use Rattle.mem_banks.specs.Plain.{Plain, numbers_below}
use Rattle.mem_banks.specs.End.{IsFounderOf}
use Rattle.context.specs.Contexts.{Context, IsOn, events_in}
use Rattle.solo.specs.Solo.{Solo, settings_of, engines_of, done_at, least_in, bank_count}
use Rattle.journal.specs.Merged.{of_hart}
use Rattle.solo.specs.Rising.{Rises, numbered_from, AreOfHarts}

-- this is where some order leads
pub record IsReached (setup : Setup) (u : Machine) : Type 0 where
  pub order : List ℕ
  pub is : u ≡ reach setup order

-- the accesses of one of so many banks of RAM, the devices being one more
unfoldable pub of_bank : ℕ → ℕ → List Done → List Done
of_bank banks bank made = filter (λ (d : Done). bank_of_access banks d.access == bank) made

-- each access stands where its kind may stand
abbrev pub ArePlaced : Setup → List Done → Type 0
ArePlaced setup [] = Unit {0}
ArePlaced setup (d ∷ made) = IsPlaced setup.harts setup.ram d.access × ArePlaced setup made

-- memory is as the machine's accesses have left it: each bank has made those that are its own, and the devices theirs
pub record Serves (setup : Setup) (u : Machine) (bus : Plain) : Type 0 where
  pub setup_is : bus.run.setup ≡ setup
  pub harts : bus.run.book.limits.harts ≡ setup.harts
  pub room : bus.run.book.limits.room ≡ 24 * setup.budget + 24
  pub counted : is_bank_count (ram_banks bus.run) ≡ true
  pub whole : ram_banks bus.run + 1 ≡ bus.run.book.limits.banks
  pub all : bank_count bus ≡ bus.run.book.limits.banks
  pub banks : (bank : ℕ) → bank < ram_banks bus.run → done_at bus bank ≡ of_bank (ram_banks bus.run) bank u.ram
  pub devices : done_at bus (ram_banks bus.run) ≡ u.devices
  pub placed : ArePlaced setup u.ram

-- these events, in the order in which they were made, are the journal but for their numbers, which rise
pub record IsMade (harts least : ℕ) (journal made : List Event) : Type 0 where
  pub rises : Rises 0 least made
  pub harts_are : AreOfHarts harts made
  pub journal_is : numbered_from 0 made ≡ journal

-- a context stands for the hart of this number, is in this engine, and has its part of these events
pub record IsHart (setup : Setup) (u : Machine) (s : Solo) (made : List Event) (h : ℕ) (engine : Engine) (c : Context) : Type 0 where
  pub on : IsOn s.bus.run c
  pub number : c.pass.hart.0 ≡ h
  pub plan_is : c.plan ≡ s.plan
  pub settings_are : c.settings ≡ s.settings
  pub instruction : instruction_at u h ≡ instruction_of setup h (events_in c)
  pub events : events_in c ≡ of_hart h made
  pub engine_is : c.engine ≡ engine

-- the harts whose passes close the record
pub record AreEnrolled (setup : Setup) (bus : Plain) (founder : Enrolment) : Type 0 where
  pub founder_is : IsFounderOf bus.run founder
  pub enrolled : founder.harts ≡ numbers_below setup.harts

-- the machine stands for this state, and its events so far are this split
pub record Holds (setup : Setup) (u : Machine) (p : Splitting) (s : Solo) : Type 0 where
  pub some : 0 < setup.harts
  pub few : setup.harts ≤ 32
  pub ends : setup.harts * setup.budget ≤ 262144
  pub reached : IsReached setup u
  pub settings_is : s.settings ≡ settings_of setup
  pub halves : length u.harts ≡ setup.harts
  pub counted : length s.contexts ≡ setup.harts
  pub engines : length p.engines ≡ setup.harts
  pub made : List Event
  pub are_made : IsMade setup.harts (least_in s.bus) p.events made
  pub each : (h : ℕ) (other : Context) → h < setup.harts
      → IsHart setup u s made h (holder_of (engines_of s.plan) p h) (slice_index_or s.contexts h other)
  pub memory : Serves setup u s.bus
  pub enrolment : AreEnrolled setup s.bus s.founder

-- the plan's split of what the unsplit machine did so far
abbrev pub split_of : Setup → Machine → Solo → Splitting
split_of setup u s = split_run (engines_of s.plan) setup.harts u.events

-- the machine stands for this state
abbrev pub IsAt : Setup → Machine → Solo → Type 0
IsAt setup u s = Holds setup u (split_of setup u s) s

-- the rounds after this state are played, and the run has ended
pub record IsPlayedOut (setup : Setup) (u : Machine) (s : Solo) : Type 0 where
  pub at : IsAt setup (reach_from setup u (rounds setup u)) s
  pub ended : has_ended setup (reach_from setup u (rounds setup u)) ≡ true
