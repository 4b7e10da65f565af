-- The harts of a crew: those at rest with its coordinator, and those that its workers hold.
use Rattle.std.specs.Prelude.{◌≡◌, ◌≢◌, ℕ, ◌+◌, ◌<◌, ◌≤◌, ◌==◌, nat_lt, if◌then◌else◌, List, [], All, length, slice_index_or, Option, None, Some, IfSome}
use Rattle.std.specs.List.{sum_by}
use Rattle.flex_base.specs.declared.engine.Engine.{Engine}
use Rattle.flex_base.specs.declared.engine.Engine.TheVariants as engine
use Rattle.access_record.specs.Buses.{Run}
use Rattle.transplant_plan.specs.Shown.{shown}
use Rattle.transplant_plan.specs.declared.plan.Plan.{Plan}
use Rattle.context.specs.Contexts.{Context, IsOn, IsSame}

-- a worker's engine, the contexts that it holds, and for how many it has room
pub record Berth : Type 0 where
  pub engine : Engine
  pub contexts : List Context
  pub room : ℕ

-- the plan, the context of each hart that rests, at the place of the hart's number, and the workers
pub record Crew : Type 0 where
  pub plan : Plan
  pub resting : List (Option Context)
  pub workers : List Berth

abbrev pub crew_of : Plan → List (Option Context) → List Berth → Crew
crew_of plan resting workers = record { plan = plan; resting = resting; workers = workers }

-- How often a hart's context is there.

abbrev pub is_hart : ℕ → Context → ℕ
is_hart hart c = if c.pass.hart.0 == hart then 1 else 0

abbrev pub times_at : ℕ → Option Context → ℕ
times_at hart None = 0
times_at hart (Some c) = is_hart hart c

abbrev pub times_in : ℕ → List Context → ℕ
times_in hart contexts = sum_by (is_hart hart) contexts

abbrev pub times_resting : ℕ → List (Option Context) → ℕ
times_resting hart resting = sum_by (times_at hart) resting

abbrev pub times_among : ℕ → List Berth → ℕ
times_among hart workers = sum_by (λ (w : Berth). times_in hart w.contexts) workers

-- How many contexts there are.

abbrev pub filled : Option Context → ℕ
filled None = 0
filled (Some c) = 1

abbrev pub count_among : List Berth → ℕ
count_among workers = sum_by (λ (w : Berth). length w.contexts) workers

abbrev pub count_of : Crew → ℕ
count_of crew = sum_by filled crew.resting + count_among crew.workers

-- What holds of each.

-- the context is of this run and plan, and of a hart of the run
pub record IsOfCrew (run : Run) (plan : Plan) (c : Context) : Type 0 where
  pub on : IsOn run c
  pub plan_is : c.plan ≡ plan
  pub below : c.pass.hart.0 < run.setup.harts

-- what rests at this place, if anything, is the hart of its number
abbrev pub IsResting : Run → Plan → ℕ → Option Context → Type 0
IsResting run plan hart None = Unit {0}
IsResting run plan hart (Some c) = IsOfCrew run plan c × (c.pass.hart.0 ≡ hart)

-- the worker holds contexts in its engine, and has room for all harts
pub record IsManned (run : Run) (plan : Plan) (w : Berth) : Type 0 where
  pub each : All (λ c. IsOfCrew run plan c) w.contexts
  pub here : All (λ c. c.engine ≡ w.engine) w.contexts
  pub room : run.setup.harts ≤ w.room

-- how many workers there are: so many pipes, so many kernels, and the host
abbrev pub count_by : Plan → ℕ
count_by plan = (shown plan).pipes + (shown plan).kernels + 1

-- the engine of the worker of this number: the pipes stand first, then the kernels, then the host
abbrev pub engine_of_worker : Plan → ℕ → Engine
engine_of_worker plan number =
    if nat_lt number (shown plan).pipes then engine.Pipe
    else if nat_lt number ((shown plan).pipes + (shown plan).kernels) then engine.Kernel else engine.Host

-- the crew has the context of each hart of the run exactly once, but for what is in hand
pub record IsCrewBut (run : Run) (in_hand : Option Context) (crew : Crew) : Type 0 where
  pub places : length crew.resting ≡ run.setup.harts
  pub few : run.setup.harts ≤ 32
  pub resting : (hart : ℕ) (other : Option Context) → hart < length crew.resting
      → IsResting run crew.plan hart (slice_index_or crew.resting hart other)
  pub counted : length crew.workers ≡ count_by crew.plan
  pub workers : (number : ℕ) (other : Berth) → number < length crew.workers
      → IsManned run crew.plan (slice_index_or crew.workers number other)
  pub engines : (number : ℕ) (other : Berth) → number < length crew.workers
      → (slice_index_or crew.workers number other).engine ≡ engine_of_worker crew.plan number
  pub once : (hart : ℕ) → hart < run.setup.harts
      → times_resting hart crew.resting + times_among hart crew.workers + times_at hart in_hand ≡ 1
  pub all : count_of crew + filled in_hand ≡ run.setup.harts
  pub hand : IfSome in_hand (λ c. IsOfCrew run crew.plan c)

abbrev pub IsCrew : Run → Crew → Type 0
IsCrew run crew = IsCrewBut run None crew

-- no worker holds a context
abbrev pub AreHome : Crew → Type 0
AreHome crew = (number : ℕ) (other : Berth) → number < length crew.workers
    → (slice_index_or crew.workers number other).contexts ≡ []

-- the workers of this plan, without contexts, each with room for so many
pub record AreVacant (plan : Plan) (room : ℕ) (workers : List Berth) : Type 0 where
  pub counted : length workers ≡ count_by plan
  pub none : All (λ (w : Berth). w.contexts ≡ []) workers
  pub rooms : All (λ (w : Berth). room ≤ w.room) workers
  pub engines : (number : ℕ) (other : Berth) → number < length workers
      → (slice_index_or workers number other).engine ≡ engine_of_worker plan number

abbrev pub IsHeld : Option Context → Type 0
IsHeld None = ⊥
IsHeld (Some c) = Unit {0}

-- a context lies at each place
abbrev pub AreAllResting : List (Option Context) → Type 0
AreAllResting resting = All IsHeld resting

-- this worker gives a context back, or has none, and the others are as before
pub record TakesBack (number : ℕ) (given : Option Context) (old new : List Berth) : Type 0 where
  pub counted : length new ≡ length old
  pub count : count_among new + filled given ≡ count_among old
  pub none : given ≡ None → (other : Berth) → (slice_index_or new number other).contexts ≡ []
  pub others : (k : ℕ) (other : Berth) → k ≢ number → slice_index_or new k other ≡ slice_index_or old k other

-- this worker gives all back, and the others are as before
pub record Empties (number : ℕ) (old new : List Berth) : Type 0 where
  pub counted : length new ≡ length old
  pub none : (other : Berth) → (slice_index_or new number other).contexts ≡ []
  pub others : (k : ℕ) (other : Berth) → k ≢ number → slice_index_or new k other ≡ slice_index_or old k other

-- What a phase does.

-- a worker that may run: its contexts are of the run and in its engine, and no more than a pipe takes
pub record MayWork (run : Run) (w : Berth) : Type 0 where
  pub few : length w.contexts ≤ 32
  pub on : All (λ c. IsOn run c) w.contexts
  pub here : All (λ c. c.engine ≡ w.engine) w.contexts

-- the same hart in the same engine, still of the run, after at most so many ends
pub record HasWorked (run : Run) (most : ℕ) (old new : Context) : Type 0 where
  pub same : IsSame old new
  pub on : IsOn run new
  pub engine : new.engine ≡ old.engine
  pub ends : old.left ≤ new.left + most

-- so each of a list
pub record HaveWorked (run : Run) (most : ℕ) (old new : List Context) : Type 0 where
  pub counted : length new ≡ length old
  pub each : (place : ℕ) (other : Context) → place < length old
      → HasWorked run most (slice_index_or old place other) (slice_index_or new place other)

-- at most so many ends of each hart in one phase, by the engine
abbrev pub most_ends : Engine → ℕ
most_ends engine.Pipe = 16
most_ends other = 64

-- a worker has run its contexts
pub record WorkerHasWorked (run : Run) (old new : Berth) : Type 0 where
  pub engine : new.engine ≡ old.engine
  pub room : new.room ≡ old.room
  pub worked : HaveWorked run (most_ends old.engine) old.contexts new.contexts

-- the workers from this number on hold no context
abbrev pub AreIdleFrom : ℕ → List Berth → Type 0
AreIdleFrom from workers = (number : ℕ) (other : Berth) → from ≤ number → number < length workers
    → (slice_index_or workers number other).contexts ≡ []

-- so each of a list
pub record AllHaveWorked (run : Run) (old new : List Berth) : Type 0 where
  pub counted : length new ≡ length old
  pub each : (number : ℕ) (other : Berth) → number < length old
      → WorkerHasWorked run (slice_index_or old number other) (slice_index_or new number other)
