-- A fault that is found in a file is one of those that a file is tested for.
use Rattle.std.proofs.Common.{◌≡◌, ℕ, Bool, true, false, if◌then◌else◌, List, [], ◌∷◌, Option, Some, None, Result, Ok, Err, codes, refl, subst}
use Rattle.std.specs.Prelude.{IfSome}
use Rattle.std.specs.Str.{bytes_eq}
use Rattle.std.specs.Option.{option_or}
use Rattle.toml.specs.Data.{Data, string, integer, float, boolean, datetime, array, table, Members, no_members, member}
use Rattle.toml.specs.Parse.{parse_document}
use Rattle.flex_base.specs.Classes.{can_run}
use Rattle.flex_base.specs.declared.class.Class.{Class}
use Rattle.flex_base.specs.declared.engine.Engine.{Engine}
use Rattle.transplant_plan.specs.Names.{class_named, engine_named}
use Rattle.transplant_plan.specs.Assignment.{Assignment, is_allowed, bank_counts, pipe_counts, kernel_counts}
use Rattle.transplant_plan.specs.Faults.{is_of_file}
use Rattle.transplant_plan.specs.PlanFile.{first_fault, top_fault, engines_fault, engine_fault, named_fault, class_fault, fault_in, count_fault, plan_unless, plan_of_document, is_utf8, plan_of}
use Rattle.transplant_plan.specs.declared.fault.PlanFault.{PlanFault}
use Rattle.transplant_plan.specs.declared.fault.PlanFault.TheVariants as fault

-- where there is a fault, it is one of a file
abbrev IsOfFile : Option PlanFault → Type 0
IsOfFile found = IfSome found (λ f. is_of_file f ≡ true)

if_of_file : (b : Bool) (one other : Option PlanFault) → IsOfFile one → IsOfFile other → IsOfFile (if b then one else other)
if_of_file true one other is is_other = is
if_of_file false one other is is_other = is_other

or_of_file : (one other : Option PlanFault) → IsOfFile one → IsOfFile other → IsOfFile (option_or one other)
or_of_file None other is is_other = is_other
or_of_file (Some f) other is is_other = is

first_of_file : (test : List ℕ → Data → Option PlanFault) (members : Members) → ((key : List ℕ) (value : Data) → IsOfFile (test key value)) → IsOfFile (first_fault test members)
unfolding first_fault
first_of_file test no_members each = tt
first_of_file test (member key value rest) each = or_of_file (test key value) (first_fault test rest) (each key value) (first_of_file test rest each)

count_of_file : (counts key : List ℕ) (value : Data) → IsOfFile (count_fault counts key value)
count_of_file counts key (string x) = refl
count_of_file counts key (integer z) = if_of_file (is_allowed counts z) None (Some (fault.BadCount key (Some z))) tt refl
count_of_file counts key (float x) = refl
count_of_file counts key (boolean x) = refl
count_of_file counts key (datetime x) = refl
count_of_file counts key (array x) = refl
count_of_file counts key (table x) = refl

named_engine_of_file : (class : Class) (text : List ℕ) (found : Option Engine) → IsOfFile (fault_in class text found)
named_engine_of_file class text None = refl
named_engine_of_file class text (Some engine) = if_of_file (can_run class engine) None (Some (fault.CannotRun class engine)) tt refl

class_of_file : (class : Class) (value : Data) → IsOfFile (class_fault class value)
class_of_file class (string text) = named_engine_of_file class text (engine_named text)
class_of_file class (integer z) = refl
class_of_file class (float x) = refl
class_of_file class (boolean x) = refl
class_of_file class (datetime x) = refl
class_of_file class (array x) = refl
class_of_file class (table x) = refl

named_of_file : (key : List ℕ) (value : Data) (found : Option Class) → IsOfFile (named_fault key value found)
named_of_file key value None = refl
named_of_file key value (Some class) = class_of_file class value

engine_of_file : (key : List ℕ) (value : Data) → IsOfFile (engine_fault key value)
unfolding engine_fault
engine_of_file key value = named_of_file key value (class_named key)

engines_of_file : (value : Data) → IsOfFile (engines_fault value)
engines_of_file (table members) = first_of_file engine_fault members engine_of_file
engines_of_file (string x) = refl
engines_of_file (integer z) = refl
engines_of_file (float x) = refl
engines_of_file (boolean x) = refl
engines_of_file (datetime x) = refl
engines_of_file (array x) = refl

top_of_file : (key : List ℕ) (value : Data) → IsOfFile (top_fault key value)
unfolding top_fault
top_of_file key value =
    if_of_file (bytes_eq key (codes "banks")) _ _ (count_of_file bank_counts key value)
    (if_of_file (bytes_eq key (codes "engine")) _ _ (engines_of_file value)
    (if_of_file (bytes_eq key (codes "kernels")) _ _ (count_of_file kernel_counts key value)
    (if_of_file (bytes_eq key (codes "pipes")) _ _ (count_of_file pipe_counts key value)
    (if_of_file (bytes_eq key (codes "version")) _ _ (count_of_file (1 ∷ []) key value) refl))))

-- where there is no plan, the fault is one of a file
abbrev IsErrOfFile : Result Assignment PlanFault → Type 0
IsErrOfFile (Ok plan) = Unit {0}
IsErrOfFile (Err f) = is_of_file f ≡ true

unless_of_file : (found : Option PlanFault) (document : Members) → IsOfFile found → IsErrOfFile (plan_unless found document)
unless_of_file None document is = tt
unless_of_file (Some f) document is = is

document_of_file : (document : Option Members) → IsErrOfFile (plan_of_document document)
document_of_file None = refl
document_of_file (Some members) = unless_of_file (first_fault top_fault members) members (first_of_file top_fault members top_of_file)

bytes_of_file : (b : Bool) (document : Option Members) → IsErrOfFile (if b then plan_of_document document else Err fault.NotUtf8)
bytes_of_file true document = document_of_file document
bytes_of_file false document = refl

-- the first fault of a file's bytes is neither its length nor want of memory
pub fault_of_file : (bytes : List ℕ) (f : PlanFault) → plan_of bytes ≡ Err f → is_of_file f ≡ true
unfolding plan_of
fault_of_file bytes f found = subst IsErrOfFile found (bytes_of_file (is_utf8 bytes) (parse_document bytes))
