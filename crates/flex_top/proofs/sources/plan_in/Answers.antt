-- The file that was taken, or why there is none.
use Rattle.std.proofs.Common.{◌≡◌, ◌≢◌, ℕ, List, Some, Ok, Err, refl, ap, sym, subst, ◌∙◌}
use Rattle.transplant_plan.specs.Assignment.{Assignment}
use Rattle.transplant_plan.specs.PlanFile.{plan_of}
use Rattle.transplant_plan.specs.Shown.{shown}
use Rattle.transplant_plan.specs.declared.fault.PlanFault.TheVariants as plan
use Rattle.flex_top.specs.Answer.{plan_limit, plan_from}
use Rattle.flex_top.specs.Taking.{IsRefused}
use Rattle.flex_top.specs.declared.status.Status.{Status}
use Rattle.flex_top.specs.declared.status.Status.TheVariants as status
use Rattle.flex_top.proofs.Plans.{plan_taken, plan_long, IsPlanAnswered, plan_answered}
use Rattle.flex_top.proofs.Taking.{taken_as, unread, wanting}
use Rattle.flex_top.proofs.sources.plan_in.Goals as goal

pub returns-in-Err-Failed-clause-refused : goal.returns-in-Err-Failed-clause-refused
returns-in-Err-Failed-clause-refused g c =
    unread Assignment (g.O.Outer.outside c.args.outer.now).held (Some c.args.name.now) plan_from refl

pub returns-in-Err-TooLong-clause-refused : goal.returns-in-Err-TooLong-clause-refused
returns-in-Err-TooLong-clause-refused g c =
    let held = (g.O.Outer.outside c.args.outer.now).held in
    let too_long = c.in-Err-TooLong.field-0-is in
    let At : ℕ → Type 0 = λ n. IsRefused Assignment held (Some c.args.name.now) plan_from (status.PlanRefused (plan.TooLong n)) in
    subst At (sym c.in-Err-TooLong.n-is) (plan_long held c.args.name.now c.in-Err-TooLong.n (taken_as held c.args.name.now plan_limit _ _ too_long c.in-Err-TooLong.ensures.taken)
    (c.take.ensures.over c.in-Err-TooLong.n (c.in-Err-TooLong.is ∙ ap Err too_long)))

pub returns-in-Err-OutOfMemory-clause-refused : goal.returns-in-Err-OutOfMemory-clause-refused
returns-in-Err-OutOfMemory-clause-refused g c =
    let held = (g.O.Outer.outside c.args.outer.now).held in
    wanting Assignment held c.args.name.now plan_limit plan_from
    (taken_as held c.args.name.now plan_limit _ _ c.in-Err-OutOfMemory.field-0-is c.in-Err-OutOfMemory.ensures.taken)

pub returns-in-Ok-read_plan-clause-gives : goal.returns-in-Ok-read_plan-clause-gives
returns-in-Ok-read_plan-clause-gives g c =
    let plan = shown c.in-Ok-read_plan.plan in
    let Says : List ℕ → Type 0 = λ bytes. plan_of bytes ≡ Ok plan in
    plan_taken (g.O.Outer.outside c.args.outer.now).held c.args.name.now c.in-Ok.file.items plan c.in-Ok.ensures.taken c.in-Ok.ensures.within
    (subst Says c.deref.ensures.value c.in-Ok-read_plan.ensures.ok)

pub returns-clause-refused : goal.returns-clause-refused
returns-clause-refused g c =
    let held = (g.O.Outer.outside c.args.outer.now).held in
    let Faulty : List ℕ → Type 0 = λ bytes. c.in-Err.fault ≢ plan.OutOfMemory → plan_of bytes ≡ Err c.in-Err.fault in
    let At : Status → Type 0 = λ why. IsPlanAnswered held c.args.name.now why in
    (subst At (sym c.answer_to_plan.ensures) (plan_answered held c.args.name.now c.in-Ok.file.items c.in-Err.fault c.in-Ok.ensures.taken c.in-Ok.ensures.within (subst Faulty c.deref.ensures.value c.in-Err.ensures.fault))).0

pub returns-clause-refusal : goal.returns-clause-refusal
returns-clause-refusal g c =
    let held = (g.O.Outer.outside c.args.outer.now).held in
    let Faulty : List ℕ → Type 0 = λ bytes. c.in-Err.fault ≢ plan.OutOfMemory → plan_of bytes ≡ Err c.in-Err.fault in
    let At : Status → Type 0 = λ why. IsPlanAnswered held c.args.name.now why in
    (subst At (sym c.answer_to_plan.ensures) (plan_answered held c.args.name.now c.in-Ok.file.items c.in-Err.fault c.in-Ok.ensures.taken c.in-Ok.ensures.within (subst Faulty c.deref.ensures.value c.in-Err.ensures.fault))).1
