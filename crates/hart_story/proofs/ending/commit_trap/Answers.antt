-- A trap leads where the stores of the hart say.
use Rattle.std.proofs.Common.{◌≡◌, ℕ, List, true, false, refl, ap, sym, subst, ◌∙◌}
use Rattle.flex_base.specs.Csrs.{AreFit}
use Rattle.hart_state.specs.IsLatest.{IsLatest}
use Rattle.hart_state.specs.declared.kept.Kept.{Kept}
use Rattle.flex_base.specs.State.{State}
use Rattle.flex_base.specs.Traps.{Transfer, trap, count}
use Rattle.flex_base.specs.Word.{is_multiple}
use Rattle.flex_base.specs.declared.class.Class.TheVariants as class
use Rattle.hart_story.proofs.Committing.{ended, part_is}
use Rattle.hart_story.proofs.ending.commit_trap.Goals as goal

pub returns-clause-commits : goal.returns-clause-commits
returns-clause-commits c = λ layout budget setup a of stands fit unspent.
    let was = c.args.hart.now in
    let to = trap a.csrs a.pc a.mode c.args.cause c.args.tval in
    let same : trap was.csrs was.regs.pc was.regs.mode c.args.cause c.args.tval ≡ to =
    ap (λ s. trap s was.regs.pc was.regs.mode c.args.cause c.args.tval) stands.csrs
    ∙ ap (λ p. trap a.csrs p was.regs.mode c.args.cause c.args.tval) stands.regs.pc
    ∙ ap (λ m. trap a.csrs a.pc m c.args.cause c.args.tval) stands.regs.mode in
    let next = c.enter_trap-next.ensures.pc ∙ ap (λ (t : Transfer). t.pc) same in
    let mode = c.enter_trap-next.ensures.mode ∙ ap (λ (t : Transfer). t.mode) same in
    let stores = c.close.ensures.csrs ∙ c.count.ensures.stores
    ∙ ap (λ s. count s true false) (c.enter_trap-next.ensures.stores ∙ ap (λ (t : Transfer). t.stores) same) in
    let after : State = record a { pc = to.pc; mode = to.mode; lines = c.args.lines; csrs = count to.stores true false } in
    let Fit : List ℕ → Type 0 = λ s. AreFit setup.harts s in
    let aligned : is_multiple was.regs.pc 4 ≡ true = ap (λ p. is_multiple p 4) stands.regs.pc ∙ fit.aligned in
    let fit_csrs : AreFit setup.harts c.close.new.hart.csrs = subst Fit (sym c.close.ensures.csrs)
    (c.count.ensures.fit setup.harts (c.enter_trap-next.ensures.fit setup.harts (subst Fit (sym stands.csrs) fit.csrs) aligned c.requires.cause)) in
    let Latest : Kept → Type 0 = λ k. IsLatest k a.leaves in
    let kept : IsLatest c.close.new.hart.kept a.leaves = subst Latest (sym c.close.ensures.kept) stands.kept in
    let left = ended setup a after c.close.new.hart c.enter_trap-next.result.0 was.regs.x c.enter_trap-next.result.1 was.regs.reservation was.regs.ends false
    c.close.ensures.regs next stands.regs.x mode stands.regs.reservation stands.regs.ends stores unspent c.enter_trap-next.ensures.aligned fit.reserved fit_csrs kept fit.leaves in
    (part_is class.Trap was.regs.pc a.pc c.enter_trap-next.result.0 to.pc c.args.cause c.args.tval c.args.tval stands.regs.pc next refl, left.0, left.1)
