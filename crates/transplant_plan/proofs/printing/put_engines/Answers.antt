use Rattle.std.proofs.Common.{sym, ap, ◌∙◌}
use Rattle.std.proofs.lemmas.List.Sums.{fold_more}
use Rattle.toml.specs.Data.{string}
use Rattle.toml.specs.View.{table_view}
use Rattle.transplant_plan.specs.Document.{with_engine}
use Rattle.transplant_plan.specs.Names.{engine_name}
use Rattle.transplant_plan.specs.Planning.{engine_at}
use Rattle.transplant_plan.proofs.printing.put_engines.Goals as goal

pub loop-class-preserved : goal.loop-class-preserved
loop-class-preserved c =
    let value = c.in_ok-name.ensures ∙ ap string (c.engine_name.ensures ∙ ap engine_name (c.engine_for.ensures.engine 0)) in
    c.in_ok-put.ensures ∙ rw (c.class_name.ensures, value, c.loop-class.invariant)
    (sym (fold_more (with_engine (engine_at c.args.plan.now.engines)) (table_view c.args.engines.now) c.args.of.now c.loop-class.class-index _ c.loop-class-test.true))
