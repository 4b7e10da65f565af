-- What a machine keeps that hasn't run.
use Rattle.std.specs.Prelude.{◌≡◌, ℕ}
use Rattle.access_record.specs.Buses.{Run}
use Rattle.access_record.specs.Passes.{Enrolment}
use Rattle.crew.specs.Crews.{Crew, IsCrew}
use Rattle.crew.specs.Played.{IsRunnable, HasEnrolled}

-- the crew has all harts of the run, each is enrolled, and there is room for so many at the end
pub record MayPlay (run : Run) (crew : Crew) (founder : Enrolment) (room : ℕ) : Type 0 where
  pub runnable : IsRunnable run
  pub is_crew : IsCrew run crew
  pub enrolled : HasEnrolled run founder
  pub room_is : run.setup.harts ≡ room
