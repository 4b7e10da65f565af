use Rattle.std.proofs.Common.{◌≡◌}
use Rattle.toml.specs.View.{members_view, table_view}
use Rattle.transplant_plan.specs.PlanFile.{first_fault, top_fault}
use Rattle.transplant_plan.proofs.checks.check_document.Given as goal

-- what is left has the first fault of the whole
abbrev pub invariant-loop-key : goal.invariant-loop-key
invariant-loop-key l = first_fault top_fault (members_view l.key-iterator) ≡ first_fault top_fault (table_view l.document)
