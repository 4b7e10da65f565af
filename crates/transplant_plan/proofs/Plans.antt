-- What a document without a fault says.
use Rattle.std.proofs.Common.{◌≡◌, ℕ, Bool, true, false, List, Option, Some, None, IfSome, option_and_then, unwrap_or, if◌then◌else◌, codes, refl, ap}
use Rattle.std.proofs.lemmas.Option.{same_Some}
use Rattle.toml.specs.Data.{Data, string, integer, float, boolean, datetime, array, table, Members, get_member, as_str, as_integer, as_table}
use Rattle.flex_base.specs.Classes.{can_run}
use Rattle.flex_base.specs.declared.class.Class.{Class}
use Rattle.flex_base.specs.declared.class.Class.TheVariants as class
use Rattle.flex_base.specs.declared.engine.Engine.{Engine}
use Rattle.flex_base.specs.declared.engine.Engine.TheVariants as engine
use Rattle.transplant_plan.specs.Names.{class_name, class_named, engine_name, engine_named}
use Rattle.transplant_plan.specs.Assignment.{is_allowed, bank_counts, pipe_counts, kernel_counts}
use Rattle.transplant_plan.specs.PlanFile.{first_fault, top_fault, engine_fault, fault_in, count_fault, string_at, integer_at, table_at}
use Rattle.transplant_plan.specs.declared.fault.PlanFault.{PlanFault}
use Rattle.transplant_plan.proofs.Faults.{found_without}

-- each name is that of its class and of its engine
pub class_named-name : (c : Class) → class_named (class_name c) ≡ Some c
unfolding class_named
class_named-name class.Fetch = refl
class_named-name class.Alu = refl
class_named-name class.Muldiv = refl
class_named-name class.Jump = refl
class_named-name class.Load = refl
class_named-name class.Store = refl
class_named-name class.Atomic = refl
class_named-name class.Fence = refl
class_named-name class.Csr = refl
class_named-name class.System = refl
class_named-name class.Walk = refl
class_named-name class.Trap = refl
class_named-name class.Pulse = refl
class_named-name class.Device = refl

pub engine_named-name : (e : Engine) → engine_named (engine_name e) ≡ Some e
unfolding engine_named
engine_named-name engine.Pipe = refl
engine_named-name engine.Kernel = refl
engine_named-name engine.Host = refl

allowed_by : (b : Bool) (f : PlanFault) → (if b then None else Some f) ≡ None → b ≡ true
allowed_by true f sound = refl
allowed_by false f sound = absurd cc

-- a count that has no fault is allowed
count_sound : (counts : List ℕ) (key : List ℕ) (d : Data) → count_fault counts key d ≡ None → IfSome (as_integer d) (λ z. is_allowed counts z ≡ true)
count_sound counts key (string x) sound = absurd cc
count_sound counts key (integer z) sound = allowed_by (is_allowed counts z) _ sound
count_sound counts key (float x) sound = absurd cc
count_sound counts key (boolean x) sound = absurd cc
count_sound counts key (datetime x) sound = absurd cc
count_sound counts key (array x) sound = absurd cc
count_sound counts key (table x) sound = absurd cc

counted : (counts : List ℕ) (key : List ℕ) (found : Option Data) → ((d : Data) → found ≡ Some d → count_fault counts key d ≡ None)
    → IfSome (option_and_then as_integer found) (λ z. is_allowed counts z ≡ true)
counted counts key None sound = tt
counted counts key (Some d) sound = count_sound counts key d (sound d refl)

table_found : (found : Option Data) (engines : Members) → option_and_then as_table found ≡ Some engines → found ≡ Some (table engines)
table_found None engines is = absurd cc
table_found (Some (string x)) engines is = absurd cc
table_found (Some (integer z)) engines is = absurd cc
table_found (Some (float x)) engines is = absurd cc
table_found (Some (boolean x)) engines is = absurd cc
table_found (Some (datetime x)) engines is = absurd cc
table_found (Some (array x)) engines is = absurd cc
table_found (Some (table found)) engines is = ap (λ m. Some (table m)) (same_Some found engines is)

string_found : (found : Option Data) (text : List ℕ) → option_and_then as_str found ≡ Some text → found ≡ Some (string text)
string_found None text is = absurd cc
string_found (Some (string x)) text is = ap (λ t. Some (string t)) (same_Some x text is)
string_found (Some (integer z)) text is = absurd cc
string_found (Some (float x)) text is = absurd cc
string_found (Some (boolean x)) text is = absurd cc
string_found (Some (datetime x)) text is = absurd cc
string_found (Some (array x)) text is = absurd cc
string_found (Some (table found)) text is = absurd cc

module _ (document : Members) (none : first_fault top_fault document ≡ None) where
  pub banks_sound : IfSome (integer_at (codes "banks") document) (λ z. is_allowed bank_counts z ≡ true)
  unfolding top_fault
  banks_sound = counted bank_counts (codes "banks") (get_member (codes "banks") document) (λ d e. found_without top_fault document (codes "banks") d none e)

  pub pipes_sound : IfSome (integer_at (codes "pipes") document) (λ z. is_allowed pipe_counts z ≡ true)
  unfolding top_fault
  pipes_sound = counted pipe_counts (codes "pipes") (get_member (codes "pipes") document) (λ d e. found_without top_fault document (codes "pipes") d none e)

  pub kernels_sound : IfSome (integer_at (codes "kernels") document) (λ z. is_allowed kernel_counts z ≡ true)
  unfolding top_fault
  kernels_sound = counted kernel_counts (codes "kernels") (get_member (codes "kernels") document) (λ d e. found_without top_fault document (codes "kernels") d none e)

  pub engines_sound : (engines : Members) → table_at (codes "engine") document ≡ Some engines → first_fault engine_fault engines ≡ None
  unfolding top_fault
  engines_sound engines found = found_without top_fault document (codes "engine") (table engines) none (table_found _ engines found)

named_sound : (c : Class) (text : List ℕ) (o : Option Engine) (default : Engine) → fault_in c text o ≡ None → can_run c (unwrap_or o default) ≡ true
named_sound c text None default sound = absurd cc
named_sound c text (Some e) default sound = allowed_by (can_run c e) _ sound

-- the engine that a table without a fault gives a class can run it
pub named_can_run : (c : Class) (engines : Members) (text : List ℕ) (default : Engine) → first_fault engine_fault engines ≡ None
    → string_at (class_name c) engines ≡ Some text → can_run c (unwrap_or (engine_named text) default) ≡ true
unfolding engine_fault
named_can_run c engines text default none found =
    let sound = found_without engine_fault engines (class_name c) (string text) none (string_found _ text found) in
    named_sound c text (engine_named text) default (rw (class_named-name c) at sound)
