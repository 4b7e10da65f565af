-- A plan's file that was taken, or why it wasn't.
use Rattle.std.proofs.Common.{◌≡◌, ◌≢◌, ℕ, ◌<◌, ◌≤◌, true, if◌then◌else◌, List, length, Option, None, Some, Ok, Err, refl, ap, sym, subst, ◌∙◌}
use Rattle.flex_base.specs.Files.{Files, Taken}
use Rattle.flex_base.specs.declared.outer.TakeFault.TheVariants as taking
use Rattle.transplant_plan.specs.Assignment.{Assignment, default_assignment}
use Rattle.transplant_plan.specs.Faults.{is_of_file}
use Rattle.transplant_plan.specs.PlanFile.{plan_of}
use Rattle.transplant_plan.specs.declared.fault.PlanFault.{PlanFault}
use Rattle.transplant_plan.specs.declared.fault.PlanFault.TheVariants as fault
use Rattle.transplant_plan.proofs.OfFile.{fault_of_file}
use Rattle.flex_top.specs.Answer.{or_plan_refusal, plan_in, plan_limit, plan_from, plan_by}
use Rattle.flex_top.specs.Taking.{Gives, IsRefused, IsRefusal, answer_to_plan}
use Rattle.flex_top.specs.declared.status.Status.{Status}
use Rattle.flex_top.specs.declared.status.Status.TheVariants as status
use Rattle.flex_top.proofs.Doing.{file_held, told_file}
use Rattle.flex_top.proofs.Taking.{told_taken, within, past, long_file}

-- a file within the limit means what its bytes say
plan_within : (file : List ℕ) → length file ≤ plan_limit → plan_from (Some file) ≡ plan_in file
plan_within file fits = ap (λ b. if b then Err (status.PlanRefused (fault.TooLong (length file))) else plan_in file) (within file plan_limit fits)

pub plan_taken : (held : Option Files) (name file : List ℕ) (plan : Assignment) → Taken held name plan_limit (Ok file) → length file ≤ plan_limit → plan_of file ≡ Ok plan
    → Gives Assignment held (Some name) plan_from plan
plan_taken held name file plan took fits is = record {
  file = Some file;
  told = told_taken held name file plan_limit took;
  is = plan_within file fits ∙ ap or_plan_refusal is;
}

-- where none is named, the plan is the default one
pub default_given : (held : Option Files) (plan : Assignment) → plan ≡ default_assignment → Gives Assignment held None (plan_by None) plan
default_given held plan is = record { file = file_held held None; told = told_file held None; is = ap Ok (sym is) }

plan_past : (n : ℕ) (file : List ℕ) → n ≡ length file → plan_limit < n → plan_from (Some file) ≡ Err (status.PlanRefused (fault.TooLong n))
plan_past n file same over =
    let Over : ℕ → Type 0 = λ m. plan_limit < m in
    ap (λ b. if b then Err (status.PlanRefused (fault.TooLong (length file))) else plan_in file) (past file plan_limit (subst Over same over))
    ∙ ap (λ (m : ℕ). Err (status.PlanRefused (fault.TooLong m))) (sym same)

-- the file is too long
pub plan_long : (held : Option Files) (name : List ℕ) (n : ℕ) → Taken held name plan_limit (Err (taking.TooLong n)) → plan_limit < n
    → IsRefused Assignment held (Some name) plan_from (status.PlanRefused (fault.TooLong n))
plan_long held name n took over =
    let long = long_file held name plan_limit n took in
    record { file = Some long.bytes; told = long.told; refuses = plan_past n long.bytes long.size over }

-- what is answered to a file that is no plan
abbrev pub IsPlanAnswered : Option Files → List ℕ → Status → Type 0
IsPlanAnswered held name why = IsRefused Assignment held (Some name) plan_from why × IsRefusal why

faulty : (held : Option Files) (name file : List ℕ) (f : PlanFault) → Taken held name plan_limit (Ok file) → length file ≤ plan_limit → plan_of file ≡ Err f
    → IsRefused Assignment held (Some name) plan_from (status.PlanRefused f)
faulty held name file f took fits is = record {
  file = Some file;
  told = told_taken held name file plan_limit took;
  refuses = plan_within file fits ∙ ap or_plan_refusal is;
}

pub plan_answered : (held : Option Files) (name file : List ℕ) (f : PlanFault) → Taken held name plan_limit (Ok file) → length file ≤ plan_limit
    → (f ≢ fault.OutOfMemory → plan_of file ≡ Err f) → IsPlanAnswered held name (answer_to_plan f)
plan_answered held name file fault.OutOfMemory took fits is =
    let wanting : IsRefused Assignment held (Some name) plan_from status.OutOfMemory =
    record { file = Some file; told = told_taken held name file plan_limit took; refuses = tt } in
    (wanting, tt)
plan_answered held name file fault.NotUtf8 took fits is = (faulty held name file fault.NotUtf8 took fits (is (λ e. cc)), tt)
plan_answered held name file fault.NotToml took fits is = (faulty held name file fault.NotToml took fits (is (λ e. cc)), tt)
plan_answered held name file (fault.UnknownKey key) took fits is = (faulty held name file (fault.UnknownKey key) took fits (is (λ e. cc)), tt)
plan_answered held name file (fault.UnknownEngine class text) took fits is = (faulty held name file (fault.UnknownEngine class text) took fits (is (λ e. cc)), tt)
plan_answered held name file (fault.CannotRun class engine) took fits is = (faulty held name file (fault.CannotRun class engine) took fits (is (λ e. cc)), tt)
plan_answered held name file (fault.BadCount key number) took fits is = (faulty held name file (fault.BadCount key number) took fits (is (λ e. cc)), tt)
plan_answered held name file (fault.TooLong n) took fits is =
    let of_file : is_of_file (fault.TooLong n) ≡ true = fault_of_file file (fault.TooLong n) (is (λ e. cc)) in
    absurd cc

pub answer_other : (why : PlanFault) → why ≢ fault.OutOfMemory → status.PlanRefused why ≡ answer_to_plan why
answer_other fault.OutOfMemory other = absurd (other refl)
answer_other fault.NotUtf8 other = refl
answer_other fault.NotToml other = refl
answer_other (fault.UnknownKey key) other = refl
answer_other (fault.UnknownEngine class text) other = refl
answer_other (fault.CannotRun class engine) other = refl
answer_other (fault.BadCount key number) other = refl
answer_other (fault.TooLong n) other = refl
