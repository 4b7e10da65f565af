-- What contracts see of a context, and what its type keeps.
use Rattle.std.specs.Prelude.{◌≡◌, ◌≢◌, ℕ, ◌+◌, ◌*◌, ◌<◌, Bool, true, false, List, length, Option, Some}
use Rattle.flex_base.specs.Setup.{Setup}
use Rattle.flex_base.specs.Unsplit.{Instruction}
use Rattle.flex_base.specs.StoryTree.{Asks}
use Rattle.flex_base.specs.Classes.{class_of_access}
use Rattle.flex_base.specs.Forms.{HasForm, IsPlaced}
use Rattle.flex_base.specs.Following.{wanted, MayDo, Follows, instruction_of}
use Rattle.flex_base.specs.Journal.{is_handover}
use Rattle.flex_base.specs.declared.access.Access.{Access}
use Rattle.flex_base.specs.declared.access.Access.TheVariants as acc
use Rattle.flex_base.specs.declared.access.Reply.{Reply}
use Rattle.flex_base.specs.declared.class.Class.{Class}
use Rattle.flex_base.specs.declared.class.Class.TheVariants as class
use Rattle.flex_base.specs.declared.engine.Engine.{Engine}
use Rattle.flex_base.specs.declared.event.Event.{Event}
use Rattle.flex_base.specs.declared.event.What.{What}
use Rattle.flex_base.specs.declared.event.What.TheVariants as what
use Rattle.flex_base.specs.declared.settings.Layout.{Layout}
use Rattle.flex_base.specs.declared.settings.Settings.{Settings}
use Rattle.hart_story.specs.Need.{need_of}
use Rattle.hart_story.specs.Progress.{IsIn, begun}
use Rattle.hart_story.specs.declared.progress.Need.TheVariants as need
use Rattle.hart_story.specs.declared.hart.Hart.{Hart}
use Rattle.hart_story.specs.declared.progress.Progress.{Progress}
use Rattle.journal.specs.Log.{Log}
use Rattle.access_record.specs.Passes.{PassOfHart}
use Rattle.access_record.specs.Buses.{Run, NamePlaces, events_of, waits, engine_of, waits_unwoken, Extends, HasLooked}
use Rattle.access_record.specs.Histories.{History, InHistory, IsUnwokenIn}
use Rattle.transplant_plan.specs.Planning.{engine_at}
use Rattle.transplant_plan.specs.declared.plan.Plan.{Plan}
use Rattle.context.specs.declared.wants.Wants.{Wants}
use Rattle.context.specs.declared.wants.Wants.TheVariants as wants
use Rattle.context.specs.declared.wants.Went.{Went}
use Rattle.context.specs.declared.wants.Went.TheVariants as went
use Rattle.context.specs.Obeying.{wants_of, IsFor, moves, ObeysSoFar}
use Rattle.context.specs.Fewness.{plain_count, IsFew}

-- a hart at the start of its instruction and how far it is in it, its pass, its kept events, the plan and the settings, the
-- entry of the image, the engine that it is in, and how many ends it may still make in its round
pub record Context : Type 0 where
  pub hart : Hart
  pub progress : Progress
  pub pass : PassOfHart
  pub log : Log
  pub plan : Plan
  pub settings : Settings
  pub entry : ℕ
  pub engine : Engine
  pub left : ℕ

abbrev pub context_of : Hart → Progress → PassOfHart → Log → Plan → Settings → ℕ → Engine → ℕ → Context
context_of hart progress pass log plan settings entry engine left = record {
  hart = hart;
  progress = progress;
  pass = pass;
  log = log;
  plan = plan;
  settings = settings;
  entry = entry;
  engine = engine;
  left = left;
}

abbrev pub plan_of : Context → Class → Engine
plan_of c class = engine_at c.plan.engines class

abbrev pub layout_of : Settings → Layout
layout_of settings = record { harts = settings.harts; ram = settings.ram }

-- a run of these settings, whose image begins at this entry. Of an image a context knows no more
pub record IsRunOf (entry : ℕ) (settings : Settings) (setup : Setup) : Type 0 where
  pub entry_is : setup.image.entry ≡ entry
  pub harts : setup.harts ≡ settings.harts
  pub ram : setup.ram ≡ settings.ram
  pub budget : setup.budget ≡ settings.budget

abbrev pub events_in : Context → List Event
events_in c = events_of c.pass.log

-- where the hart is by its log
abbrev pub instruction_at : Setup → Context → Instruction
instruction_at setup c = instruction_of setup c.pass.hart.0 (events_in c)

-- what it wants next
abbrev pub wants_in : Setup → Context → Wants
wants_in setup c = wants_of (wanted setup (instruction_at setup c))

-- what the context wants, which the rest of the image and the console's input don't change
abbrev pub IsWanting : Context → Wants → Type 0
IsWanting c w = (setup : Setup) → IsRunOf c.entry c.settings setup → wants_in setup c ≡ w

-- it wants an event of a class that the plan gives this engine
abbrev pub IsWantedIn : Context → Engine → Type 0
IsWantedIn c engine = (w : Wants) × IsWanting c w × IsFor (plan_of c) w engine

-- the hart asks this access, which stands where its kind may stand and is of a class that the plan gives the context's engine
pub record IsAsking (c : Context) (access : Access) : Type 0 where
  pub asks : (setup : Setup) → IsRunOf c.entry c.settings setup → wanted setup (instruction_at setup c) ≡ Asks access
  pub placed : (setup : Setup) → IsRunOf c.entry c.settings setup → IsPlaced setup.harts setup.ram access
  pub class_is : plan_of c (class_of_access access) ≡ c.engine

-- the hart comes to the end of its instruction, of a class that the plan gives the context's engine
pub record IsEnding (c : Context) : Type 0 where
  pub class : Class
  pub ends : (setup : Setup) → IsRunOf c.entry c.settings setup → need.Finish class ≡ need_of (wanted setup (instruction_at setup c))
  pub class_is : plan_of c class ≡ c.engine

-- of a run: the log follows the story, the hart and its progress are where the log leads, the log obeys the plan so far, and
-- few enough events are still to come
pub record StandsIn (setup : Setup) (c : Context) : Type 0 where
  pub follows : Follows setup c.pass.hart.0 (events_in c)
  pub at : IsIn setup (instruction_at setup c) c.hart c.progress (layout_of c.settings) c.settings.budget
  pub obeys : ObeysSoFar (plan_of c) (wants_in setup c) c.engine (moves (events_in c))
  pub few : IsFew setup (instruction_at setup c) (plain_count (moves (events_in c)))

-- what the type of a context keeps
pub record IsContext (c : Context) : Type 0 where
  pub whole : c.log.events ≡ events_in c
  pub room : c.log.room + length c.log.events ≡ 24 * c.settings.budget + 24
  pub below : c.pass.hart.0 < c.settings.harts
  pub stands : (setup : Setup) → IsRunOf c.entry c.settings setup → StandsIn setup c
  pub told : waits c.pass ≡ true → (engine_of c.pass ≡ Some c.engine) × (plan_of c class.Pulse ≡ c.engine)
  pub round : c.left + c.hart.regs.ends ≡ c.settings.budget + 1

-- a context whose hart has made no event, in the engine of fetch
abbrev pub new_context : Hart → PassOfHart → Log → Plan → Settings → Context
new_context hart pass log plan settings =
    context_of hart begun pass log plan settings hart.regs.pc (engine_at plan.engines class.Fetch) (settings.budget + 1)

-- the context is of this run of a bus
pub record IsOn (run : Run) (c : Context) : Type 0 where
  pub book : c.pass.id ≡ run.book.id
  pub setup : IsRunOf c.entry c.settings run.setup
  pub places : NamePlaces run c.pass.log
  pub limit : run.book.limits.room ≡ 24 * c.settings.budget + 24

-- the same hart of the same record, image, plan and settings
pub record IsSame (old new : Context) : Type 0 where
  pub hart : new.pass.hart ≡ old.pass.hart
  pub id : new.pass.id ≡ old.pass.id
  pub entry : new.entry ≡ old.entry
  pub plan : new.plan ≡ old.plan
  pub settings : new.settings ≡ old.settings

-- exactly one event more, of the engine that the context was in, with the number that the bus drew; where the bus has a
-- history, the event is the next one in it, and the reply to an access is that of its bank
pub record Adds (run : Run) (before after : Option History) (happened : What) (old new : Context) : Type 0 where
  pub bank : Option ℕ
  pub number : ℕ
  pub noted : Extends old.pass new.pass (record { engine = old.engine; what = happened }) bank number
  pub history : InHistory run before old.pass.hart.0 happened number after

-- how many ends that is
abbrev pub ends_by : What → ℕ
ends_by (what.End part) = 1
ends_by other = 0

-- an access stands where its kind may stand
abbrev pub IsPlacedIn : Setup → What → Type 0
IsPlacedIn setup (what.Acc access reply) = IsPlaced setup.harts setup.ram access
IsPlacedIn setup other = Unit {0}

-- the next event of the hart's story was made, in one place of the log; an end lowers the ends of the round by one
pub record Steps (run : Run) (before after : Option History) (old new : Context) : Type 0 where
  pub happened : What
  pub adds : Adds run before after happened old new
  pub may : MayDo run.setup (instruction_at run.setup old) happened
  pub placed : IsPlacedIn run.setup happened
  pub plain : is_handover happened ≡ false
  pub engine : new.engine ≡ old.engine
  pub left : new.left + ends_by happened ≡ old.left
  pub room : new.log.room + 1 ≡ old.log.room

-- it was handed over, nothing else happened, and it wants what it wanted
pub record Moves (run : Run) (before after : Option History) (to : Engine) (old new : Context) : Type 0 where
  pub adds : Adds run before after (what.Handover to) old new
  pub engine : new.engine ≡ to
  pub left : new.left ≡ old.left
  pub wants : (w : Wants) → IsWanting old w → IsWanting new w

-- a parked hart made its pulse, by which it is woken, in the engine to which the plan gives pulses
pub record IsWoken (run : Run) (before after : Option History) (old new : Context) : Type 0 where
  pub reply : Reply
  pub adds : Adds run before after (what.Acc (acc.Pulse false) reply) old new
  pub form : HasForm (acc.Pulse false) reply
  pub value : reply.value ≡ 0
  pub here : plan_of old class.Pulse ≡ old.engine
  pub engine : new.engine ≡ old.engine
  pub left : new.left ≡ old.left

-- it has looked at the devices, in whose log it waits unwoken, and so it does in the history of a bus that has one; nothing
-- else happened
pub record IsUnwoken (run : Run) (before after : Option History) (old new : Context) : Type 0 where
  pub looked : HasLooked old.pass new.pass
  pub unwoken : waits_unwoken run new.pass ≡ true
  pub in_history : IsUnwokenIn run before old.pass.hart.0
  pub same : new ≡ record old { pass = new.pass }
  pub stays : after ≡ before

-- whether it was woken
abbrev pub HasTried : Run → Option History → Option History → Context → Context → Bool → Type 0
HasTried run before after old new true = IsWoken run before after old new
HasTried run before after old new false = IsUnwoken run before after old new

-- nothing happened
pub record Stays (before after : Option History) (old new : Context) : Type 0 where
  pub same : new ≡ old
  pub stays : after ≡ before

-- it made the access or the end that it wanted, of this class, in the engine to which the plan gives the class
pub record Goes (run : Run) (before after : Option History) (wanted : Class → Wants) (old new : Context) : Type 0 where
  pub class : Class
  pub wanting : IsWanting old (wanted class)
  pub here : plan_of old class ≡ old.engine
  pub steps : Steps run before after old new

-- it wants such an event, of a class that the plan gives the engine that it is in
abbrev pub WantsHere : (Class → Wants) → Context → Type 0
WantsHere wanted c = (class : Class) × IsWanting c (wanted class) × (plan_of c class ≡ c.engine)

-- it wants an event that is another engine's work, and has an end left in its round
pub record IsElsewhere (to : Engine) (c : Context) : Type 0 where
  pub wanted : IsWantedIn c to
  pub other : to ≢ c.engine
  pub left : 0 < c.left

-- what came of a call that makes an event only in the engine to which the plan gives it
abbrev pub HasGone : Run → Option History → Option History → Context → Context → Went → Type 0
HasGone run before after old new went.Accessed = Goes run before after wants.Ask old new
HasGone run before after old new went.Ended = Goes run before after wants.Finish old new
HasGone run before after old new (went.Elsewhere to) = IsElsewhere to old × Stays before after old new
HasGone run before after old new went.Parked = IsWanting old wants.Parked × Stays before after old new
HasGone run before after old new went.Over = IsWanting old wants.Over × Stays before after old new
