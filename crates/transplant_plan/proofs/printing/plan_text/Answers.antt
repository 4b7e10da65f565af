use Rattle.std.proofs.Common.{Some, string_bytes, refl, ap, ◌∙◌}
use Rattle.std.proofs.lemmas.Str.{IsUtf8-had}
use Rattle.transplant_plan.specs.Shown.{shown}
use Rattle.transplant_plan.proofs.Printed.{IsSound, depth-document, plan_of-document}
use Rattle.transplant_plan.proofs.Readings.{is_utf8-IsUtf8}
use Rattle.transplant_plan.proofs.printing.plan_text.Goals as goal

pub returns-in-Ok : goal.returns-in-Ok
returns-in-Ok c =
    let plan = c.args.plan.now in
    let sound : IsSound (shown plan) = record {
      alike = λ hart class. refl;
      runs = plan.engines_can_run;
      banks = plan.banks_allowed;
      pipes = plan.pipes_allowed;
      kernels = plan.kernels_allowed;
    } in
    let parsed = c.in-Ok.ensures.reads_back (rw c.in_ok-document.ensures (depth-document (shown plan))) ∙ ap Some c.in_ok-document.ensures in
    rw c.into_bytes.ensures.value (plan_of-document (shown plan) (string_bytes c.in-Ok.text) sound (is_utf8-IsUtf8 _ (IsUtf8-had _ c.in-Ok.text.ok)) parsed)
