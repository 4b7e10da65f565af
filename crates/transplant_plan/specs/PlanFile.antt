-- The plan of a file: a document in TOML with the keys `banks`, `engine`, `kernels`, `pipes` and `version`, all optional.
-- The members of a document and of a table in it ascend by the bytes of their keys.
use Rattle.std.specs.Prelude.{ℕ, ℤ, pos, Bool, ◌==◌, if◌then◌else◌, List, [], ◌∷◌, ◌++◌, length, Option, Some, None, unwrap_or, option_and_then, Result, Ok, Err, codes}
use Rattle.std.specs.Option.{option_or}
use Rattle.std.specs.Str.{bytes_eq}
use Rattle.std.specs.Str.Lossy.{utf8_valid_len}
use Rattle.toml.specs.Data.{Data, string, integer, table, Members, no_members, member, get_member, as_str, as_integer, as_table}
use Rattle.toml.specs.Parse.{parse_document}
use Rattle.flex_base.specs.Classes.{can_run}
use Rattle.flex_base.specs.declared.class.Class.{Class}
use Rattle.flex_base.specs.declared.engine.Engine.{Engine}
use Rattle.transplant_plan.specs.Names.{class_name, class_named, engine_named}
use Rattle.transplant_plan.specs.Assignment.{Assignment, default_plan, bank_counts, pipe_counts, kernel_counts, default_banks, default_pipes, default_kernels, is_allowed}
use Rattle.transplant_plan.specs.declared.fault.PlanFault.{PlanFault}
use Rattle.transplant_plan.specs.declared.fault.PlanFault.TheVariants as fault

-- the text, the number or the table at a key
abbrev pub string_at : List ℕ → Members → Option (List ℕ)
string_at key members = option_and_then as_str (get_member key members)

abbrev pub integer_at : List ℕ → Members → Option ℤ
integer_at key members = option_and_then as_integer (get_member key members)

abbrev pub table_at : List ℕ → Members → Option Members
table_at key members = option_and_then as_table (get_member key members)

-- the first fault of a table's members, in the order of the keys
unfoldable pub first_fault : (List ℕ → Data → Option PlanFault) → Members → Option PlanFault
first_fault fault_of no_members = None
first_fault fault_of (member key value rest) = option_or (fault_of key value) (first_fault fault_of rest)

-- a count is a whole number that is among the allowed ones
abbrev pub count_fault : List ℕ → List ℕ → Data → Option PlanFault
count_fault counts key (integer z) = if is_allowed counts z then None else Some (fault.BadCount key (Some z))
count_fault counts key other = Some (fault.BadCount key None)

-- an engine runs the class that it is given
abbrev pub fault_in : Class → List ℕ → Option Engine → Option PlanFault
fault_in class text None = Some (fault.UnknownEngine class (Some text))
fault_in class text (Some engine) = if can_run class engine then None else Some (fault.CannotRun class engine)

-- the value of a class is the name of an engine
abbrev pub class_fault : Class → Data → Option PlanFault
class_fault class (string text) = fault_in class text (engine_named text)
class_fault class other = Some (fault.UnknownEngine class None)

abbrev pub named_fault : List ℕ → Data → Option Class → Option PlanFault
named_fault key value None = Some (fault.UnknownKey (codes "engine." ++ key))
named_fault key value (Some class) = class_fault class value

-- a key of the table of engines is the name of a class
unfoldable pub engine_fault : List ℕ → Data → Option PlanFault
engine_fault key value = named_fault key value (class_named key)

-- `engine` is a table
abbrev pub engines_fault : Data → Option PlanFault
engines_fault (table members) = first_fault engine_fault members
engines_fault other = Some (fault.UnknownKey (codes "engine"))

-- the top keys, with what their values may be
unfoldable pub top_fault : List ℕ → Data → Option PlanFault
top_fault key value =
    if bytes_eq key (codes "banks") then count_fault bank_counts key value
    else if bytes_eq key (codes "engine") then engines_fault value
    else if bytes_eq key (codes "kernels") then count_fault kernel_counts key value
    else if bytes_eq key (codes "pipes") then count_fault pipe_counts key value
    else if bytes_eq key (codes "version") then count_fault (1 ∷ []) key value
    else Some (fault.UnknownKey key)

-- the number, or the default
abbrev pub count_or : ℕ → Option ℤ → ℕ
count_or default (Some (pos n)) = n
count_or default other = default

-- the engine of this name, or the default
abbrev pub engine_or : Engine → Option (List ℕ) → Engine
engine_or default (Some name) = unwrap_or (engine_named name) default
engine_or default None = default

-- the engine of a class by the table of engines, if there is one
abbrev pub engine_by : Option Members → Class → Engine
engine_by (Some engines) class = engine_or (default_plan 0 class) (string_at (class_name class) engines)
engine_by None class = default_plan 0 class

-- what a document without a fault says. All harts have the same engines
unfoldable pub assignment : Members → Assignment
assignment document = record {
  engines = λ hart class. engine_by (table_at (codes "engine") document) class;
  banks = count_or default_banks (integer_at (codes "banks") document);
  pipes = count_or default_pipes (integer_at (codes "pipes") document);
  kernels = count_or default_kernels (integer_at (codes "kernels") document);
}

abbrev pub plan_unless : Option PlanFault → Members → Result Assignment PlanFault
plan_unless None document = Ok (assignment document)
plan_unless (Some f) document = Err f

-- the plan of a document, or its first fault
abbrev pub plan_of_document : Option Members → Result Assignment PlanFault
plan_of_document None = Err fault.NotToml
plan_of_document (Some members) = plan_unless (first_fault top_fault members) members

abbrev pub is_utf8 : List ℕ → Bool
is_utf8 bytes = utf8_valid_len bytes == length bytes

-- the plan of a file's bytes, or the first fault
unfoldable pub plan_of : List ℕ → Result Assignment PlanFault
plan_of bytes = if is_utf8 bytes then plan_of_document (parse_document bytes) else Err fault.NotUtf8
