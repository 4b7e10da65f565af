-- A walk in the code and the list of entries.
use Rattle.std.proofs.Common.{◌≡◌, ◌⊎◌, inl, inr, ℕ, List, [], ◌∷◌, ◌++◌, refl, ap, sym, ◌∙◌, append-nil, append_assoc, arith}
use Rattle.flex_base.specs.Translation.{walk}
use Rattle.flex_base.specs.declared.translation.WalkStep.{WalkStep}
use Rattle.flex_base.specs.declared.translation.WalkStep.TheVariants as step
use Rattle.sv39.specs.IsAfter.{ahead_by, ahead, left_by, IsAfter}
use Rattle.sv39.specs.declared.level.Level.{Level}
use Rattle.sv39.specs.declared.walk.Stage.{Stage}
use Rattle.sv39.specs.declared.walk.Stage.TheVariants as stage
use Rattle.sv39.specs.declared.walk.Walk.{Walk}

-- before any entry
pub IsAfter-start : (w : Walk) (satp va : ℕ) → ((rest : List ℕ) → ahead w rest ≡ walk satp va rest) → IsAfter w satp va []
unfolding IsAfter
IsAfter-start w satp va leads = λ rest. sym (leads rest)

-- what the walk tells
pub step_is : (w : Walk) (step : WalkStep) (satp va : ℕ) (entries : List ℕ) → step ≡ ahead w [] → IsAfter w satp va entries
    → step ≡ walk satp va entries
unfolding IsAfter
step_is w step satp va entries is after = is ∙ sym (after []) ∙ ap (walk satp va) (append-nil entries)

-- one entry more
pub IsAfter-given : (old new : Walk) (pte satp va : ℕ) (entries : List ℕ)
    → ((rest : List ℕ) → ahead new rest ≡ ahead old (pte ∷ rest)) → IsAfter old satp va entries
    → IsAfter new satp va (entries ++ pte ∷ [])
unfolding IsAfter
IsAfter-given old new pte satp va entries leads after = λ rest.
    ap (walk satp va) (append_assoc entries (pte ∷ []) rest) ∙ after (pte ∷ rest) ∙ sym (leads rest)

-- Where the walk has ended, an entry more changes nothing.
pub ended_left : (s : Stage) → ((l : Level) × (s ≡ stage.Found l)) ⊎ (s ≡ stage.Faults) → left_by s ≡ 0
ended_left s (inl found) = ap left_by found.1
ended_left s (inr faults) = ap left_by faults

pub ended_ahead : (s : Stage) (va at pte : ℕ) (rest : List ℕ) → left_by s ≡ 0 → ahead_by s va at rest ≡ ahead_by s va at (pte ∷ rest)
ended_ahead (stage.Reads l) va at pte rest ended = absurd (omega (arith, ended))
ended_ahead (stage.Found l) va at pte rest ended = refl
ended_ahead stage.Faults va at pte rest ended = refl

pub needs_left : (s : Stage) (va at address : ℕ) → left_by s ≡ 0 → ahead_by s va at [] ≡ step.Need address → ⊥
needs_left (stage.Reads l) va at address ended needs = omega (arith, ended)
needs_left (stage.Found l) va at address ended needs = cc
needs_left stage.Faults va at address ended needs = cc
