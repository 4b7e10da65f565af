use Rattle.std.proofs.Common.{ℕ, List, Bor, option_map, sym, ap, ◌∙◌}
use Rattle.toml.specs.View.{table_view}
use Rattle.transplant_plan.specs.PlanFile.{string_at}
use Rattle.transplant_plan.proofs.Plans.{named_can_run}
use Rattle.transplant_plan.proofs.reading.engine_among.Goals as goal

pub returns-in-Some-clause-capable : goal.returns-in-Some-clause-capable
returns-in-Some-clause-capable c =
    let found = sym (ap (λ n. string_at n (table_view c.args.engines.now)) c.class_name.ensures) ∙ sym c.string_at.ensures
    ∙ ap (option_map (λ (text : Bor (List ℕ)). text.now)) c.in-Some.is in
    rw (c.unwrap_or.ensures, c.engine_named.ensures) (named_can_run c.args.class _ _ c.default_engine.result c.requires found)
