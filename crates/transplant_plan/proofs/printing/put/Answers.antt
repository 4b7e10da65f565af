use Rattle.std.proofs.Common.{ap, ◌∙◌}
use Rattle.toml.specs.View.{view, members_view, table_view}
use Rattle.transplant_plan.specs.Document.{with_member}
use Rattle.transplant_plan.proofs.Members.{members_view-insert_entry}
use Rattle.transplant_plan.proofs.printing.put.Goals as goal

pub returns-in-Ok : goal.returns-in-Ok
returns-in-Ok c =
    ap members_view c.in-Ok.ensures.entries
    ∙ members_view-insert_entry c.args.table.now.entries c.in_ok-from_str.field-0 c.args.value
    ∙ ap (λ k. with_member k (view c.args.value) (table_view c.args.table.now)) c.in_ok-from_str.ensures.ok
