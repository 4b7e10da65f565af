use Rattle.std.proofs.Common.{option_map, sym, ap, ◌∙◌}
use Rattle.toml.specs.View.{table_view}
use Rattle.transplant_plan.proofs.Plans.{engines_sound}
use Rattle.transplant_plan.proofs.reading.engine_in.Goals as goal

pub engine_among-requires : goal.engine_among-requires
engine_among-requires c =
    let found = sym c.table_at.ensures ∙ ap (option_map (λ t. table_view t.now)) c.in-Some.is in
    engines_sound (table_view c.args.document.now) c.requires (table_view c.in-Some.engines.now) found
