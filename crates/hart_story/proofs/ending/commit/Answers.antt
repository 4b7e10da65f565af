-- The end is what the outcome says.
use Rattle.std.proofs.Common.{sym, subst}
use Rattle.flex_base.specs.State.{State}
use Rattle.hart_story.specs.Outcome.{outcome_of, IsSoundOutcome}
use Rattle.hart_story.specs.Progress.{CommitsTo}
use Rattle.hart_story.specs.declared.outcome.Outcome.{Outcome}
use Rattle.hart_story.proofs.ending.commit.Goals as goal

pub returns-in-End-clause-commits : goal.returns-in-End-clause-commits
returns-in-End-clause-commits c = λ layout budget sound setup a of stands fit unspent.
    let now : State = record a { lines = c.args.lines } in
    let Sound : Outcome → Type 0 = λ o. IsSoundOutcome layout c.args.hart.now o in
    let By : Outcome → Type 0 = λ o. CommitsTo setup c.commit_end.new.hart c.commit_end.result (outcome_of now o) in
    subst By (sym c.in-End.is) (c.commit_end.ensures.commits layout budget (subst Sound c.in-End.is sound) setup a of stands fit unspent)

pub returns-in-WriteCsr-clause-commits : goal.returns-in-WriteCsr-clause-commits
returns-in-WriteCsr-clause-commits c = λ layout budget sound setup a of stands fit unspent.
    let now : State = record a { lines = c.args.lines } in
    let By : Outcome → Type 0 = λ o. CommitsTo setup c.commit_csr.new.hart c.commit_csr.result (outcome_of now o) in
    subst By (sym c.in-WriteCsr.is) (c.commit_csr.ensures.commits layout budget setup a of stands fit unspent)
