use Rattle.crew.proofs.Parts.{part_of_hart, part_of_bank}
use Rattle.crew.proofs.law_on_lists.merged_parts.Goals as goal

-- src/law_on_lists.rt:9:1
pub returns-clause-hart : goal.returns-clause-hart
returns-clause-hart c = λ limits n harts banks hart is. part_of_hart limits n harts banks hart is

-- src/law_on_lists.rt:9:1
pub returns-clause-bank : goal.returns-clause-bank
returns-clause-bank c = λ limits n harts banks bank is. part_of_bank limits n harts banks bank is
