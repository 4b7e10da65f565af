-- A plan's engines, class by class.
use Rattle.std.proofs.Common.{◌≡◌, ℕ, ◌+◌, ◌<◌, ◌==◌, true, List, length, get_or, lit<, refl, sym, ap, ◌∙◌, inl, inr, arith}
use Rattle.std.proofs.lemmas.Bool.{cases_Bool, eqb-true, eqb-false}
use Rattle.std.proofs.lemmas.Grind.{get_or-set_at}
use Rattle.std.proofs.lemmas.List.{get_or-set_other, length-set}
use Rattle.std.specs.Prelude.{slice_set}
use Rattle.flex_base.specs.Classes.{can_run}
use Rattle.flex_base.specs.declared.class.Class.{Class}
use Rattle.flex_base.specs.declared.class.Class.TheVariants as class
use Rattle.flex_base.specs.declared.engine.Engine.{Engine}
use Rattle.flex_base.specs.declared.engine.Engine.TheVariants as engine
use Rattle.transplant_plan.specs.Names.{classes}
use Rattle.transplant_plan.specs.Planning.{class_index, engine_at, AllCanRun}

-- each class stands at its place among the classes
class_at : (c d : Class) → get_or classes (class_index c) d ≡ c
class_at class.Fetch d = refl
class_at class.Alu d = refl
class_at class.Muldiv d = refl
class_at class.Jump d = refl
class_at class.Load d = refl
class_at class.Store d = refl
class_at class.Atomic d = refl
class_at class.Fence d = refl
class_at class.Csr d = refl
class_at class.System d = refl
class_at class.Walk d = refl
class_at class.Trap d = refl
class_at class.Pulse d = refl
class_at class.Device d = refl

pub class_index-below : (c : Class) → class_index c < 14
class_index-below class.Fetch = lit< tt
class_index-below class.Alu = lit< tt
class_index-below class.Muldiv = lit< tt
class_index-below class.Jump = lit< tt
class_index-below class.Load = lit< tt
class_index-below class.Store = lit< tt
class_index-below class.Atomic = lit< tt
class_index-below class.Fence = lit< tt
class_index-below class.Csr = lit< tt
class_index-below class.System = lit< tt
class_index-below class.Walk = lit< tt
class_index-below class.Trap = lit< tt
class_index-below class.Pulse = lit< tt
class_index-below class.Device = lit< tt

-- the engines so far are those that f gives
abbrev pub AreGivenBelow : ℕ → (Class → Engine) → List Engine → Type 0
AreGivenBelow i f engines = (c : Class) → class_index c < i → engine_at engines c ≡ f c

-- all engines can run their classes, and those so far are given by f
abbrev pub AreWritten : ℕ → (Class → Engine) → List Engine → Type 0
AreWritten i f engines = (length engines ≡ 14) × AllCanRun engines × AreGivenBelow i f engines

-- the engine of the class at i is written
pub written : (engines : List Engine) (i : ℕ) (d : Class) (r : Engine) (f : Class → Engine) → i < 14
    → r ≡ f (get_or classes i d) → can_run (get_or classes i d) r ≡ true → AreWritten i f engines → AreWritten (i + 1) f (slice_set engines i r)
written engines i d r f below is runs (size, all, given) =
    let within : i < length engines = omega (arith, below, size) in
    let here : (c : Class) → class_index c ≡ i → (engine_at (slice_set engines i r) c ≡ r) × (c ≡ get_or classes i d) =
    λ c e. (get_or-set_at engines i (class_index c) r engine.Pipe e within, sym (class_at c d) ∙ ap (λ n. get_or classes n d) e) in
    let other : (c : Class) → (class_index c ≡ i → ⊥) → engine_at (slice_set engines i r) c ≡ engine_at engines c =
    λ c e. get_or-set_other engines i (class_index c) r engine.Pipe e in (
      length-set engines i r ∙ size,
      λ c. elim (cases_Bool (class_index c == i)) [
        | inl same ↦ let (now, item) = here c (eqb-true _ _ same) in rw (now, item) runs
        | inr differs ↦ rw (other c (eqb-false _ _ differs)) (all c)
      ],
      λ c nearer. elim (cases_Bool (class_index c == i)) [
        | inl same ↦ let (now, item) = here c (eqb-true _ _ same) in now ∙ is ∙ ap f (sym item)
        | inr differs ↦ other c (eqb-false _ _ differs) ∙ given c (grind (arith, eqb-false _ _ differs))
      ],
    )
