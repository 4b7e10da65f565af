use Rattle.std.proofs.Common.{ap, sym, ◌∙◌}
use Rattle.std.specs.Prelude.{Ok}
use Rattle.std.proofs.lemmas.Bool.{false≢true}
use Rattle.toml.specs.Parse.{parse_document}
use Rattle.transplant_plan.proofs.Readings.{plan_of-cut, plan_of-unparsed, plan_of-faulty, plan_of-sound}
use Rattle.transplant_plan.proofs.reading.read_plan.Goals as goal

pub returns-in-Err-clause-fault : goal.returns-in-Err-clause-fault
returns-in-Err-clause-fault c other = plan_of-cut _ _ c.in-Err.ensures.cases.1

pub returns-in-Err-2-clause-fault : goal.returns-in-Err-2-clause-fault
returns-in-Err-2-clause-fault c other =
    let unparsed = c.in-Err-table_from_str.ensures.refused (λ memory. false≢true (sym c.if-is_memory.false ∙ c.is_memory.ensures.1 memory)) in
    plan_of-unparsed _ c.in-Ok.ensures.cases.1 (ap parse_document (sym c.in-Ok.ensures.cases.0) ∙ unparsed)

pub returns-in-Ok-check_document-clause-ok : goal.returns-in-Ok-check_document-clause-ok
returns-in-Ok-check_document-clause-ok c =
    let parsed = ap parse_document (sym c.in-Ok.ensures.cases.0) ∙ c.in-Ok-table_from_str.ensures.ok in
    plan_of-sound _ c.in-Ok.ensures.cases.1 _ parsed c.in-Ok-check_document.ensures.ok ∙ ap Ok (sym c.plan_from.ensures)

pub returns-clause-fault : goal.returns-clause-fault
returns-clause-fault c other =
    let parsed = ap parse_document (sym c.in-Ok.ensures.cases.0) ∙ c.in-Ok-table_from_str.ensures.ok in
    plan_of-faulty _ c.in-Ok.ensures.cases.1 _ _ parsed (c.in-Err-check_document.ensures.fault other)
