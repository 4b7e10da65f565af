use Rattle.std.proofs.Common.{◌∙◌, sym}
use Rattle.std.specs.Map.Iter.{deref_pair}
use Rattle.std.proofs.lemmas.Map.Iter.{rest_more, rest_all}
use Rattle.transplant_plan.specs.PlanFile.{top_fault}
use Rattle.transplant_plan.proofs.Faults.{first_fault-here, first_fault-later, first_fault-none}
use Rattle.transplant_plan.proofs.checks.check_document.Goals as goal

pub loop-key-preserved : goal.loop-key-preserved
loop-key-preserved c =
    let is = rest_more deref_pair _ _ c.next.result _ c.in-Some.is c.next.ensures.steps in
    let none = rw c.as_str.ensures.value at c.in-Ok.ensures.ok in
    sym (first_fault-later top_fault _ _ _ _ is none) ∙ c.loop-key.invariant

pub returns-in-Err-clause-fault : goal.returns-in-Err-clause-fault
returns-in-Err-clause-fault c other =
    let is = rest_more deref_pair _ _ c.next.result _ c.in-Some.is c.next.ensures.steps in
    let found = rw c.as_str.ensures.value at c.in-Err.ensures.fault other in
    sym c.loop-key.invariant ∙ first_fault-here top_fault _ _ _ _ _ is found

pub returns-clause-ok : goal.returns-clause-ok
returns-clause-ok c =
    sym c.loop-key.invariant ∙ first_fault-none top_fault c.loop-key.key-iterator (rest_all deref_pair _ _ c.next.result c.in-None.is c.next.ensures.steps)
