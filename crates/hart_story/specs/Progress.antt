-- How far a hart in the code has come in the story of its instruction.
use Rattle.std.specs.Prelude.{◌≡◌, ℕ, ◌<◌, Bool, true, Option, [], ◌∷◌, fold}
use Rattle.flex_base.specs.Setup.{Setup}
use Rattle.flex_base.specs.State.{State, IsFit}
use Rattle.flex_base.specs.StoryTree.{Want, Ends, Story, Closes, goes}
use Rattle.flex_base.specs.Story.{story, ask}
use Rattle.flex_base.specs.Translation.{AreLeaves}
use Rattle.flex_base.specs.Reservations.{asked, reserving, accesses_in}
use Rattle.flex_base.specs.Unsplit.{Instruction}
use Rattle.flex_base.specs.declared.access.Access.{Access}
use Rattle.flex_base.specs.declared.access.Access.TheVariants as acc
use Rattle.flex_base.specs.declared.access.Reply.{Reply}
use Rattle.flex_base.specs.declared.event.EndPart.{EndPart}
use Rattle.flex_base.specs.declared.settings.Layout.{Layout}
use Rattle.hart_story.specs.StandsFor.{StandsFor}
use Rattle.hart_story.specs.Found.{leaves_of, state_at}
use Rattle.hart_story.specs.Outcome.{IsOf}
use Rattle.hart_story.specs.Stage.{stage_of, IsSoundStage, left_at, is_over_at, is_parked_at}
use Rattle.hart_story.specs.declared.hart.Hart.{Hart}
use Rattle.hart_story.specs.declared.found.Found.{Found}
use Rattle.hart_story.specs.declared.progress.Progress.{Progress}
use Rattle.hart_story.specs.declared.stage.Stage.{Stage}
use Rattle.hart_story.specs.declared.stage.Stage.TheVariants as stage

-- nothing has happened yet
abbrev pub begun : Progress
begun = record {
  stage = stage.Begun;
  lines = 0;
  found = record {
    first_page = 0;
    second_page = 0;
    first_frame = 0;
    second_frame = 0;
    first_flags = 0;
    second_flags = 0;
    count = 0;
  };
}

-- where the hart is in the story of an instruction that began in this state
abbrev pub node_at : Setup → State → ℕ → Found → Stage → Story
node_at setup a lines found stage.Begun = story setup a
node_at setup a lines found here = stage_of setup (state_at a lines found) here

abbrev pub node : Setup → State → Progress → Story
node setup a progress = node_at setup a progress.lines progress.found progress.stage

-- the replies lead to where the hart is
abbrev pub Reached : Setup → Instruction → Progress → Type 0
Reached setup i progress = goes (story setup i.state) i.replies ≡ node setup i.state progress

-- the hart has nothing left to do
abbrev pub is_done : Progress → Bool
is_done progress = is_over_at progress.stage

-- the hart waits for an interrupt, until the devices wake it
abbrev pub is_parked : Progress → Bool
is_parked progress = is_parked_at progress.stage

-- how many accesses may still come before the end, at most, where a hart that waits is woken by the one that it then makes
abbrev pub left : Progress → ℕ
left progress = left_at progress.stage

-- what the instruction has come to so far is sound
pub record IsSoundProgress (layout : Layout) (hart : Hart) (progress : Progress) : Type 0 where
  pub stage : IsSoundStage layout hart progress.found.count progress.stage
  pub found : AreLeaves (leaves_of progress.found)

-- the hart stands for a fit state in a run of this layout and budget, and its progress is sound
pub record IsHere (setup : Setup) (a : State) (hart : Hart) (progress : Progress) (layout : Layout) (budget : ℕ) : Type 0 where
  pub of : IsOf setup layout budget
  pub stands : StandsFor hart a
  pub fit : IsFit setup.harts setup.ram setup.budget a
  pub sound : IsSoundProgress layout hart progress

-- the hart and its progress stand for this instruction in flight, in a run of this layout and budget
pub record IsIn (setup : Setup) (i : Instruction) (hart : Hart) (progress : Progress) (layout : Layout) (budget : ℕ) : Type 0 where
  pub of : IsOf setup layout budget
  pub stands : StandsFor hart i.state
  pub fit : IsFit setup.harts setup.ram setup.budget i.state
  pub reached : Reached setup i progress
  pub sound : IsSoundProgress layout hart progress

-- what the hart wants
abbrev pub want_in : Setup → Instruction → Want
want_in setup i = ask setup i.state i.replies

-- the hart asks for this access; a parked one asks for its pulse
abbrev pub IsAsking : Setup → Instruction → Access → Type 0
IsAsking setup i access = asked (goes (story setup i.state) i.replies) ≡ access ∷ []

-- the access and its reply leave the hart with nothing left to do: it retires, or is told to stop
abbrev pub leaves_over : Access → Reply → Bool
leaves_over acc.Retire reply = true
leaves_over other reply = reply.stop

-- the instruction is at this end, which leaves this state
abbrev pub IsEnding : Setup → Instruction → EndPart → State → Type 0
IsEnding setup i part after = want_in setup i ≡ Ends part after

-- what the hart has reserved by the accesses of its instruction so far
abbrev pub own_in : Setup → Instruction → Option ℕ
own_in setup i = fold reserving i.state.reservation (accesses_in (story setup i.state) i.replies)

-- the story closes with this end, and the hart stands for the state after it, which is fit
abbrev pub CommitsTo : Setup → Hart → EndPart → Story → Type 0
CommitsTo setup hart part (Closes made after) =
    (part ≡ made) × StandsFor hart after × IsFit setup.harts setup.ram setup.budget after
CommitsTo setup hart part other = ⊥

-- in each run of this layout and budget in which the hart stands for a fit state that has ends left, this story of it, with
-- these lines, closes so
abbrev pub Commits : Layout → ℕ → Hart → ℕ → (State → Story) → EndPart → Hart → Type 0
Commits layout budget before lines story part hart =
    (setup : Setup) (a : State) → IsOf setup layout budget → StandsFor before a
    → IsFit setup.harts setup.ram setup.budget a → a.ends < setup.budget
    → CommitsTo setup hart part (story (record a { lines = lines }))

-- the want is this end, and the hart stands for the state after it, which is fit
pub record EndsWith (setup : Setup) (want : Want) (part : EndPart) (hart : Hart) : Type 0 where
  pub after : State
  pub ends : want ≡ Ends part after
  pub stands : StandsFor hart after
  pub fit : IsFit setup.harts setup.ram setup.budget after
