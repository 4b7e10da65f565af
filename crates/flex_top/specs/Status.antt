-- Statuses: the number that the program ends with, and the line that it says.
use Rattle.std.specs.Prelude.{ℕ, Bool, true, false, if◌then◌else◌, List, [], ◌++◌, codes, decimal}
use Rattle.image_loader.specs.Faults.{fault_number}
use Rattle.image_loader.specs.declared.fault.ImageFault.{ImageFault}
use Rattle.transplant_plan.specs.Faults as plans
use Rattle.transplant_plan.specs.declared.fault.PlanFault.{PlanFault}
use Rattle.flex_top.specs.declared.status.Status.{Status}
use Rattle.flex_top.specs.declared.status.Status.TheVariants as status

abbrev pub status_code : Status → ℕ
status_code status.Ended = 0
status_code status.Usage = 1
status_code status.ReadFault = 2
status_code (status.ImageRefused fault) = 3
status_code (status.PlanRefused fault) = 4
status_code status.OutOfMemory = 5
status_code status.WriteFault = 6
status_code (status.InputTooLong n) = 7

-- the refusal of an image, by its fault's number
abbrev pub refusal : ImageFault → List ℕ
refusal fault = codes "image refused " ++ decimal (fault_number fault)

-- that of a plan
abbrev pub plan_refusal : PlanFault → List ℕ
plan_refusal fault = codes "plan refused " ++ decimal (plans.fault_number fault)

-- what a status says
abbrev pub meaning : Status → List ℕ
meaning status.Ended = []
meaning status.Usage = codes "usage"
meaning status.ReadFault = codes "read fault"
meaning (status.ImageRefused fault) = refusal fault
meaning (status.PlanRefused fault) = plan_refusal fault
meaning status.OutOfMemory = codes "out of memory"
meaning status.WriteFault = codes "write fault"
meaning (status.InputTooLong n) = codes "input too long " ++ decimal n

abbrev pub is_ended : Status → Bool
is_ended status.Ended = true
is_ended other = false

-- one line, or nothing where all is done
abbrev pub status_text : Status → List ℕ
status_text s = if is_ended s then [] else codes "flexemu: " ++ meaning s ++ codes "\n"
