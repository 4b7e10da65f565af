use Rattle.std.proofs.Common.{◌≡◌, fold, take}
use Rattle.toml.specs.View.{table_view}
use Rattle.transplant_plan.specs.Document.{with_engine}
use Rattle.transplant_plan.specs.Planning.{engine_at}
use Rattle.transplant_plan.proofs.printing.put_engines.Given as goal

-- the table has the classes so far
abbrev pub invariant-loop-class : goal.invariant-loop-class
invariant-loop-class l = table_view l.engines ≡ fold (with_engine (engine_at l.plan.engines)) (table_view l.initial.engines) (take l.class-index l.of)
