-- What a command does where files are told: by the files that can be taken, the same holds as by those that it goes by.
use Rattle.std.proofs.Common.{◌≡◌, Option, None, Some, subst, ap, ◌∙◌}
use Rattle.std.specs.Prelude.{IfSome, IsSomeAnd}
use Rattle.flex_base.specs.Files.{Files}
use Rattle.flex_base.specs.Outside.{Outside}
use Rattle.flex_top.specs.Words.{Reading}
use Rattle.flex_top.specs.Answer.{Sources, Outcome, sources_among, expected, outcome, IsOutcome}
use Rattle.flex_top.specs.Does.{first_file, Answers, IsCalm, IsEnded, Leaves, LeavesPart, LeavesOne, LeavesPartOfOne, Does}
use Rattle.flex_top.specs.declared.status.Status.{Status}
use Rattle.flex_top.specs.declared.status.Status.TheVariants as status

by_told : (held : Option Files) (r : Reading) (files : Sources) (P : Sources → Type 0) → IfSome held (λ told. files ≡ sources_among r told) → P files → IfSome held (λ told. P (sources_among r told))
by_told None r files P same holds = tt
by_told (Some told) r files P same holds = subst P same holds

ends_told : (held : Option Files) (r : Reading) (files : Sources) → IfSome held (λ told. files ≡ sources_among r told) → IsSomeAnd held (λ told. expected r (sources_among r told) ≡ status.Ended)
    → expected r files ≡ status.Ended
ends_told None r files same ends = absurd ends
ends_told (Some told) r files same ends = ap (expected r) same ∙ ends

module _ (Is : Sources → Outcome → Type 0) (r : Reading) (old : Outside) (answer : Status) (new : Outside) (does : Does Is r old answer new) where
  pub answers_told : IfSome old.held (λ files. Answers (first_file r (sources_among r files)) (expected r (sources_among r files)) answer)
  answers_told = by_told old.held r does.files (λ files. Answers (first_file r files) (expected r files) answer) does.told does.answers

  pub completes_told : IsSomeAnd old.held (λ files. expected r (sources_among r files) ≡ status.Ended) → IsCalm old.read_faults new.read_faults → IsCalm old.write_faults new.write_faults → IsEnded answer
  completes_told ends = does.completes (ends_told old.held r does.files does.told ends)

  pub ended_told : answer ≡ status.Ended → IfSome old.held (λ files. LeavesOne (Is (sources_among r files)) old new)
  ended_told at = by_told old.held r does.files (λ files. LeavesOne (Is files) old new) does.told (does.ended at)

  pub cut_told : answer ≡ status.WriteFault → IfSome old.held (λ files. LeavesPartOfOne (Is (sources_among r files)) old new)
  cut_told at = by_told old.held r does.files (λ files. LeavesPartOfOne (Is files) old new) does.told (does.cut at)

-- `solo` leaves the very outcome of its files
pub ended_solo : (r : Reading) (old : Outside) (answer : Status) (new : Outside) → (does : Does (IsOutcome r) r old answer new) → answer ≡ status.Ended → Leaves (outcome r does.files) old new
ended_solo r old answer new does at =
    let one = does.ended at in
    let All : Outcome → Type 0 = λ o. Leaves o old new in
    subst All one.is one.left

pub cut_solo : (r : Reading) (old : Outside) (answer : Status) (new : Outside) → (does : Does (IsOutcome r) r old answer new) → answer ≡ status.WriteFault → LeavesPart (outcome r does.files) old new
cut_solo r old answer new does at =
    let one = does.cut at in
    let Part : Outcome → Type 0 = λ o. LeavesPart o old new in
    subst Part one.is one.left
