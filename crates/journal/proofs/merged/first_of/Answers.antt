use Rattle.std.proofs.Common.{◌≡◌, ℕ, ◌<◌, false, [], map, get_or, length, ◌∙◌, sym, ap, subst, inl, inr, arith, rules}
use Rattle.std.proofs.lemmas.Bool.{cases_eq}
use Rattle.std.proofs.lemmas.List.{get_or-map}
use Rattle.journal.specs.Rests.{begins_with, events_left, is_in_range}
use Rattle.journal.proofs.merged.first_of.Goals as goal

pub loop-at-preserved : goal.loop-at-preserved
loop-at-preserved c =
    let rests = map events_left c.args.rests.now in
    let at : ℕ = c.loop-at.at in
    let within : at < length c.args.rests.now = search rules in
    let its = get_or-map events_left c.args.rests.now at _ [] within in
    λ h from below. elim (cases_eq h at) [
      | inl same ↦ subst (λ (k : ℕ). (begins_with c.args.number (get_or rests k []) ≡ false) × is_in_range (get_or rests k [])) (sym same)
          (ap (begins_with c.args.number) its ∙ sym c.begins_with.ensures.is ∙ c.if-begins_with.false, subst is_in_range (sym its) c.begins_with.ensures.range)
      | inr other ↦ c.loop-at.invariant h from (omega (arith, below, other))
    ]
