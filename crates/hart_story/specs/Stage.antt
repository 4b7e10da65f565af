-- How far an instruction has come, and what it has to do from there on.
use Rattle.std.specs.Prelude.{◌≡◌, ℕ, ◌+◌, ◌≤◌, Bool, true, false, []}
use Rattle.flex_base.specs.Setup.{Setup}
use Rattle.flex_base.specs.State.{State}
use Rattle.flex_base.specs.Decoding.{decoded}
use Rattle.flex_base.specs.Forms.{IsPlaced, IsAlignedRam}
use Rattle.flex_base.specs.StoryTree.{Story, Says, StaysOver}
use Rattle.flex_base.specs.Translating.{walks}
use Rattle.flex_base.specs.Story.{story, works, fetches_at}
use Rattle.flex_base.specs.declared.access.Access.{Access}
use Rattle.flex_base.specs.declared.access.Access.TheVariants as acc
use Rattle.flex_base.specs.declared.settings.Layout.{Layout}
use Rattle.flex_base.specs.declared.translation.Kind.{Kind}
use Rattle.flex_base.specs.declared.translation.Kind.TheVariants as kind
use Rattle.flex_base.specs.declared.translation.WalkStep.{WalkStep}
use Rattle.flex_base.specs.declared.translation.WalkStep.TheVariants as step
use Rattle.sv39.specs.IsAfter.{ahead, entries_left}
use Rattle.sv39.specs.declared.walk.Walk.{Walk}
use Rattle.hart_story.specs.Found.{Sees}
use Rattle.hart_story.specs.Memory.{kind_of, reaching, access_of, asking, device_access_of, asking_device, IsMemoryWork, IsAlignedWork}
use Rattle.hart_story.specs.Need.{IsReservedFor}
use Rattle.hart_story.specs.Outcome.{IsOf, outcome_of, is_end, IsSoundOutcome}
use Rattle.hart_story.specs.declared.found.Found.{Found}
use Rattle.hart_story.specs.declared.hart.Hart.{Hart}
use Rattle.hart_story.specs.declared.memory_work.MemoryWork.{MemoryWork}
use Rattle.hart_story.specs.declared.outcome.Outcome.TheVariants as outcome
use Rattle.hart_story.specs.declared.stage.Stage.{Stage}
use Rattle.hart_story.specs.declared.stage.Stage.TheVariants as stage

-- the story goes on with this walk
abbrev pub walking : ℕ → State → Kind → ℕ → (State → ℕ → Story) → Walk → Story
walking ram a k va next walk = walks ram a k va next (entries_left walk) (ahead walk)

-- what a hart does from a stage on, in a state that has the lines and the leaves of by then
abbrev pub stage_of : Setup → State → Stage → Story
stage_of setup a stage.Begun = story setup a
stage_of setup a (stage.FetchWalk walk) = walking setup.ram a kind.Fetch a.pc (fetches_at setup) walk
stage_of setup a (stage.Fetch address) =
    Says (acc.Fetch address) (λ reply. works setup a reply.value (decoded reply.value))
stage_of setup a (stage.AccessWalk walk work) =
    walking setup.ram a (kind_of work.op) work.address (reaching work setup) walk
stage_of setup a (stage.Access address work) = asking work a address
stage_of setup a (stage.Device address work) = asking_device work a address
stage_of setup a (stage.Working made) = outcome_of a made
stage_of setup a stage.Over = StaysOver

-- in each run of this layout, and each state that the hart sees, this story goes on at this stage
abbrev pub ComesTo : Layout → Hart → Found → (Setup → State → Story) → Stage → Type 0
ComesTo layout hart found story made =
    (setup : Setup) (budget : ℕ) (a : State) → IsOf setup layout budget → Sees hart found a
    → story setup a ≡ stage_of setup a made

-- the walk needs an entry, which lies in RAM
abbrev pub IsRead : ℕ → WalkStep → Type 0
IsRead ram (step.Need address) = IsAlignedRam ram address 8
IsRead ram other = ⊥

abbrev pub IsReading : ℕ → Walk → Type 0
IsReading ram walk = IsRead ram (ahead walk [])

-- the access of this work stands where its kind may stand, a store-conditional within the hart's reservation
pub record IsSoundAccess (layout : Layout) (hart : Hart) (work : MemoryWork) (access : Access) : Type 0 where
  pub of_memory : IsMemoryWork work
  pub placed : IsPlaced layout.harts layout.ram access
  pub reserved : IsReservedFor hart.regs.reservation access

-- a stage is sound, after so many leaves have been found: an instruction has at most two walks
abbrev pub IsSoundStage : Layout → Hart → ℕ → Stage → Type 0
IsSoundStage layout hart count stage.Begun = Unit {0}
IsSoundStage layout hart count (stage.FetchWalk walk) = IsReading layout.ram walk × (count ≡ 0)
IsSoundStage layout hart count (stage.Fetch address) = IsAlignedRam layout.ram address 4 × (count ≤ 1)
IsSoundStage layout hart count (stage.AccessWalk walk work) =
    IsReading layout.ram walk × IsAlignedWork work × (count ≤ 1)
IsSoundStage layout hart count (stage.Access address work) = IsSoundAccess layout hart work (access_of work address)
IsSoundStage layout hart count (stage.Device address work) =
    IsSoundAccess layout hart work (device_access_of work address)
IsSoundStage layout hart count (stage.Working made) = IsSoundOutcome layout hart made
IsSoundStage layout hart count stage.Over = Unit {0}

-- how many accesses may still come before the end, at most, where a hart that waits is woken by the one that it then makes
abbrev pub left_at : Stage → ℕ
left_at stage.Begun = 12
left_at (stage.FetchWalk walk) = entries_left walk + 7
left_at (stage.Fetch address) = 6
left_at (stage.AccessWalk walk work) = entries_left walk + 2
left_at (stage.Access address work) = 1
left_at (stage.Device address work) = 1
left_at (stage.Working (outcome.AskPending does rd rs1 number)) = 1
left_at (stage.Working (outcome.AskTime does rd rs1 number)) = 1
left_at (stage.Working outcome.WaitPulse) = 1
left_at (stage.Working (outcome.Wait mie)) = 2
left_at (stage.Working outcome.Parked) = 1
left_at (stage.Working other) = 0
left_at stage.Over = 0

-- something has happened
abbrev pub has_begun : Stage → Bool
has_begun stage.Begun = false
has_begun other = true

-- a walk reads an entry
abbrev pub is_walk_at : Stage → Bool
is_walk_at (stage.FetchWalk walk) = true
is_walk_at (stage.AccessWalk walk work) = true
is_walk_at other = false

-- the word is fetched
abbrev pub is_fetch_at : Stage → Bool
is_fetch_at (stage.Fetch address) = true
is_fetch_at other = false

-- the access is made, of RAM or of a device register
abbrev pub is_access_at : Stage → Bool
is_access_at (stage.Access address work) = true
is_access_at (stage.Device address work) = true
is_access_at other = false

-- the instruction has come to its end
abbrev pub is_end_at : Stage → Bool
is_end_at (stage.Working made) = is_end made
is_end_at other = false

-- the hart has nothing left to do
abbrev pub is_over_at : Stage → Bool
is_over_at stage.Over = true
is_over_at other = false

-- the hart waits until it is woken
abbrev pub is_parked_at : Stage → Bool
is_parked_at (stage.Working outcome.Parked) = true
is_parked_at other = false

-- the reply to what is asked can tell the stop
abbrev pub tells_stop : Stage → Bool
tells_stop stage.Begun = true
tells_stop (stage.Working (outcome.AskPending does rd rs1 number)) = true
tells_stop (stage.Working outcome.WaitPulse) = true
tells_stop (stage.Working (outcome.Wait mie)) = true
tells_stop (stage.Working outcome.Parked) = true
tells_stop other = false
