-- A return leads where the stores of the hart say.
use Rattle.std.proofs.Common.{ℕ, List, true, refl, ap, sym, subst, ◌∙◌}
use Rattle.flex_base.specs.Csrs.{AreFit}
use Rattle.hart_state.specs.IsLatest.{IsLatest}
use Rattle.hart_state.specs.declared.kept.Kept.{Kept}
use Rattle.flex_base.specs.State.{State}
use Rattle.flex_base.specs.Traps.{Transfer, sret, count}
use Rattle.flex_base.specs.declared.class.Class.TheVariants as class
use Rattle.hart_story.proofs.Committing.{ended, part_is}
use Rattle.hart_story.proofs.ending.commit_sret.Goals as goal

pub returns-clause-commits : goal.returns-clause-commits
returns-clause-commits c = λ layout budget setup a of stands fit unspent.
    let was = c.args.hart.now in
    let to = sret a.csrs in
    let same = ap sret stands.csrs in
    let next = c.sret-next.ensures.pc ∙ ap (λ (t : Transfer). t.pc) same in
    let mode = c.sret-next.ensures.mode ∙ ap (λ (t : Transfer). t.mode) same in
    let stores = c.commit_return.ensures.csrs ∙ ap (λ s. count s true true) (c.sret-next.ensures.stores ∙ ap (λ (t : Transfer). t.stores) same) in
    let after : State = record a { pc = to.pc; mode = to.mode; lines = c.args.lines; csrs = count to.stores true true } in
    let Fit : List ℕ → Type 0 = λ s. AreFit setup.harts s in
    let fit_was : AreFit setup.harts was.csrs = subst Fit (sym stands.csrs) fit.csrs in
    let fit_csrs = c.commit_return.ensures.fit setup.harts (c.sret-next.ensures.fit setup.harts fit_was) in
    let Latest : Kept → Type 0 = λ k. IsLatest k a.leaves in
    let kept : IsLatest c.commit_return.new.hart.kept a.leaves = subst Latest (sym c.commit_return.ensures.kept) stands.kept in
    let left = ended setup a after c.commit_return.new.hart c.sret-next.result.0 was.regs.x c.sret-next.result.1 was.regs.reservation was.regs.ends true
    c.commit_return.ensures.regs next stands.regs.x mode stands.regs.reservation stands.regs.ends stores unspent
    (c.sret-next.ensures.aligned setup.harts fit_was) fit.reserved fit_csrs kept fit.leaves in
    (c.commit_return.ensures.part ∙ part_is class.System was.regs.pc a.pc c.sret-next.result.0 to.pc 0 0 0 stands.regs.pc next refl, left.0, left.1)
