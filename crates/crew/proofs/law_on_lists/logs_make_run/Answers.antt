use Rattle.crew.proofs.WholeRun.{logs_run}
use Rattle.crew.proofs.law_on_lists.logs_make_run.Goals as goal

-- src/law_on_lists.rt:19:1
pub returns : goal.returns
returns c = λ run plan n harts banks are. logs_run run plan n harts banks are
