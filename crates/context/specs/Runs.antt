-- A run of a hart in one engine.
use Rattle.std.specs.Prelude.{◌⊎◌, ℕ, zero, suc, ◌-◌, ◌<◌, ◌≤◌, Bool, true, false, Option}
use Rattle.flex_base.specs.declared.engine.Engine.{Engine}
use Rattle.access_record.specs.Buses.{Run}
use Rattle.access_record.specs.Histories.{History}
use Rattle.context.specs.declared.wants.Wants.TheVariants as wants
use Rattle.context.specs.Contexts.{Context, IsWanting, IsWantedIn, Steps, Stays, IsElsewhere}

-- why a hart makes no event in its engine: what it wants is another engine's work, it waits to be woken, or it does nothing any more
pub data MakesNone (c : Context) : Type 0 where
  WantsElsewhere : (to : Engine) → IsElsewhere to c → MakesNone c
  Waits : IsWanting c wants.Parked → MakesNone c
  IsOver : IsWanting c wants.Over → MakesNone c

-- whether it made the next event, which its engine was to make
abbrev pub HasAdvanced : Run → Option History → Option History → Context → Context → Bool → Type 0
HasAdvanced run before after old new true = IsWantedIn old old.engine × Steps run before after old new
HasAdvanced run before after old new false = MakesNone old × Stays before after old new

-- so many events of its hart's story, one after another, each made where more ends than these were left in its round, with what
-- the bus had done before and after
abbrev pub Runs : Run → ℕ → Option History → Option History → ℕ → Context → Context → Type 0
Runs run least before after zero old new = Stays before after old new
Runs run least before after (suc n) old new =
    (least < old.left) × (between : Option History) × (next : Context) × Steps run before between old next × Runs run least between after n next new

-- it makes no event in its engine, or no more ends than these are left in its round
abbrev pub HasStopped : ℕ → Context → Type 0
HasStopped least c = MakesNone c ⊎ (c.left ≤ least)

-- it made events until one of these stopped it, at the latest with so many ends. Where its round has fewer ends left, that is
-- where none is left
pub record HasRun (run : Run) (before after : Option History) (most : ℕ) (old new : Context) : Type 0 where
  pub events : ℕ
  pub runs : Runs run (old.left - most) before after events old new
  pub stopped : HasStopped (old.left - most) new
