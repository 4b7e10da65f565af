-- The end of a run: a machine that may play is over once its crew is home and at rest.
use Rattle.std.proofs.Common.{◌≡◌, ℕ, subst}
use Rattle.access_record.specs.Passes.{Enrolment}
use Rattle.access_record.specs.Buses.{Run}
use Rattle.devices.specs.View.{DevicesView}
use Rattle.mem_banks.specs.End.{Memory, IsMemoryOf}
use Rattle.crew.specs.Crews.{Crew, IsCrew, AreHome}
use Rattle.crew.specs.Played.{AreAtRest, IsOver}
use Rattle.crew.specs.Rooms.{MayPlay}

pub comes_over : (run : Run) (before crew : Crew) (founder : Enrolment) (room : ℕ) (memory : Memory) (devices : DevicesView) → MayPlay run before founder room
    → IsCrew run crew → AreHome crew → AreAtRest devices crew → devices ≡ memory.devices → IsMemoryOf run memory → IsOver run crew memory founder
comes_over run before crew founder room memory devices may is_crew home rest same of_run = record {
  runnable = may.runnable;
  is_crew = is_crew;
  home = home;
  rest = subst (λ (d : DevicesView). AreAtRest d crew) same rest;
  of_run = of_run;
  enrolled = may.enrolled;
}
