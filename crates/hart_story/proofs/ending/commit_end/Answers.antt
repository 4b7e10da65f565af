-- The end is what the instruction has come to.
use Rattle.std.proofs.Common.{ℕ, List, Option, true, refl, ap, sym, subst, ◌∙◌}
use Rattle.flex_base.specs.Csrs.{AreFit}
use Rattle.hart_state.specs.IsLatest.{IsLatest}
use Rattle.hart_state.specs.declared.kept.Kept.{Kept}
use Rattle.flex_base.specs.State.{State, IsReservation, set_reg}
use Rattle.flex_base.specs.Traps.{count}
use Rattle.flex_base.specs.Word.{is_multiple}
use Rattle.hart_story.proofs.Committing.{ended, part_is, regs_left}
use Rattle.hart_state.specs.declared.regs.Regs.{Regs}
use Rattle.hart_story.proofs.ending.commit_end.Goals as goal

pub returns-clause-commits : goal.returns-clause-commits
returns-clause-commits c = λ layout budget sound setup a of stands fit unspent.
    let was = c.args.hart.now in
    let end = c.args.end.now in
    let stores = c.close.ensures.csrs ∙ c.count.ensures.stores ∙ ap (λ s. count s true true) stands.csrs in
    let after : State = record a { pc = end.next; x = set_reg a.x end.rd end.value; reservation = end.reservation; lines = c.args.lines; csrs = count a.csrs true true } in
    let Fit : List ℕ → Type 0 = λ s. AreFit setup.harts s in
    let fit_csrs : AreFit setup.harts c.close.new.hart.csrs = subst Fit (sym c.close.ensures.csrs)
    (c.count.ensures.fit setup.harts (subst Fit (sym stands.csrs) fit.csrs)) in
    let Within : ℕ → Type 0 = λ ram. IsReservation ram was.regs.reservation in
    let Left : ℕ → Type 0 = λ ram. IsReservation ram end.reservation in
    let Own : Option ℕ → Type 0 = λ r. IsReservation setup.ram r in
    let own = subst Own (sym stands.regs.reservation) fit.reserved in
    let aligned = sound.aligned (ap (λ pc. is_multiple pc 4) stands.regs.pc ∙ fit.aligned) in
    let Latest : Kept → Type 0 = λ k. IsLatest k a.leaves in
    let kept : IsLatest c.close.new.hart.kept a.leaves = subst Latest (sym c.close.ensures.kept) stands.kept in
    let left = ended setup a after c.close.new.hart end.next (set_reg was.regs.x end.rd end.value) was.regs.mode end.reservation was.regs.ends end.due
    (c.close.ensures.regs ∙ ap (λ (r : Regs). regs_left r.pc r.x r.mode end.reservation r.ends c.args.lines end.due) c.set.ensures) refl (ap (λ x. set_reg x end.rd end.value) stands.regs.x) stands.regs.mode refl stands.regs.ends stores unspent aligned
    (subst Left (sym of.ram) (sound.reserved of.whole (subst Within of.ram own))) fit_csrs kept fit.leaves in
    (part_is end.class was.regs.pc a.pc end.next end.next end.rd _ _ stands.regs.pc refl c.told_of.ensures, left.0, left.1)
