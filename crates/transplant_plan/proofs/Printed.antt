-- A printed plan is read back.
use Rattle.std.proofs.Common.{◌≡◌, ℕ, ◌≤◌, lit≤, pos, true, List, [], ◌∷◌, Some, None, Ok, fold, refl, sym, ap, ◌∙◌}
use Rattle.toml.specs.Data.{string, Members, no_members, members_depth}
use Rattle.toml.specs.Parse.{parse_document}
use Rattle.flex_base.specs.Classes.{can_run}
use Rattle.flex_base.specs.declared.class.Class.{Class}
use Rattle.flex_base.specs.declared.class.Class.TheVariants as class
use Rattle.flex_base.specs.declared.engine.Engine.{Engine}
use Rattle.transplant_plan.specs.Names.{classes, class_name, engine_name}
use Rattle.transplant_plan.specs.Assignment.{Assignment, is_allowed, bank_counts, pipe_counts, kernel_counts}
use Rattle.transplant_plan.specs.Document.{document_of, engines_of, with_engine}
use Rattle.transplant_plan.specs.PlanFile.{first_fault, top_fault, engine_fault, string_at, engine_by, assignment, is_utf8, plan_of}
use Rattle.transplant_plan.proofs.Faults.{with_member-none, first_fault-empty}
use Rattle.transplant_plan.proofs.Plans.{class_named-name, engine_named-name}

-- each class is in an engine that can run it
abbrev pub CanRun : (Class → Engine) → Type 0
CanRun f = (c : Class) → can_run c (f c) ≡ true

class_sound : (f : Class → Engine) (c : Class) → CanRun f → engine_fault (class_name c) (string (engine_name (f c))) ≡ None
unfolding engine_fault
class_sound f c runs = rw (class_named-name c, engine_named-name (f c), runs c)

classes_sound : (f : Class → Engine) (cs : List Class) (members : Members) → CanRun f → first_fault engine_fault members ≡ None
    → first_fault engine_fault (fold (with_engine f) members cs) ≡ None
classes_sound f [] so_far runs none = none
classes_sound f (c ∷ cs) so_far runs none =
    classes_sound f cs (with_engine f so_far c) runs (with_member-none engine_fault (class_name c) (string (engine_name (f c))) so_far (class_sound f c runs) none)

engines_sound : (f : Class → Engine) → CanRun f → first_fault engine_fault (engines_of f) ≡ None
unfolding engines_of
engines_sound f runs = classes_sound f classes no_members runs (first_fault-empty engine_fault)

string_back : (f : Class → Engine) (c : Class) → string_at (class_name c) (engines_of f) ≡ Some (engine_name (f c))
unfolding engines_of
string_back f class.Fetch = refl
string_back f class.Alu = refl
string_back f class.Muldiv = refl
string_back f class.Jump = refl
string_back f class.Load = refl
string_back f class.Store = refl
string_back f class.Atomic = refl
string_back f class.Fence = refl
string_back f class.Csr = refl
string_back f class.System = refl
string_back f class.Walk = refl
string_back f class.Trap = refl
string_back f class.Pulse = refl
string_back f class.Device = refl

engine_back : (f : Class → Engine) (c : Class) → engine_by (Some (engines_of f)) c ≡ f c
engine_back f c = rw (string_back f c, engine_named-name (f c))

-- a plan whose harts are alike, and whose engines and counts are allowed
pub record IsSound (plan : Assignment) : Type 0 where
  pub alike : (hart : ℕ) (c : Class) → plan.engines hart c ≡ plan.engines 0 c
  pub runs : CanRun (plan.engines 0)
  pub banks : is_allowed bank_counts (pos plan.banks) ≡ true
  pub pipes : is_allowed pipe_counts (pos plan.pipes) ≡ true
  pub kernels : is_allowed kernel_counts (pos plan.kernels) ≡ true

document_sound : (plan : Assignment) → IsSound plan → first_fault top_fault (document_of plan) ≡ None
unfolding first_fault top_fault
document_sound plan sound = rw (sound.banks, engines_sound (plan.engines 0) sound.runs, sound.kernels, sound.pipes)

assignment-document : (plan : Assignment) → IsSound plan → assignment (document_of plan) ≡ plan
unfolding assignment
assignment-document plan sound = λ i. record {
  engines = λ hart c. (engine_back (plan.engines 0) c ∙ sym (sound.alike hart c)) i;
  banks = plan.banks;
  pipes = plan.pipes;
  kernels = plan.kernels;
}

-- the printed document is no deeper than what is read
pub depth-document : (plan : Assignment) → members_depth (document_of plan) ≤ 80
unfolding engines_of
depth-document plan = lit≤ tt

pub plan_of-document : (plan : Assignment) (bytes : List ℕ) → IsSound plan → is_utf8 bytes ≡ true → parse_document bytes ≡ Some (document_of plan)
    → plan_of bytes ≡ Ok plan
unfolding plan_of
plan_of-document plan bytes sound text parsed = rw (text, parsed, document_sound plan sound) (ap Ok (assignment-document plan sound))
