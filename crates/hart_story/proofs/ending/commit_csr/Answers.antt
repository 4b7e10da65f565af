-- The stores after a CSR instruction's write, and its counters.
use Rattle.std.proofs.Common.{◌≡◌, ℕ, ◌+◌, List, ap, sym, subst, ◌∙◌}
use Rattle.flex_base.specs.Csrs.{AreFit, csr_write}
use Rattle.std.specs.Prelude.{unwrap_or}
use Rattle.flex_base.specs.State.{State, set_reg}
use Rattle.flex_base.specs.Word.{wrap, is_multiple}
use Rattle.flex_base.specs.Zicsr.{count_but, csrs_with, makes_due}
use Rattle.flex_base.specs.declared.class.Class.TheVariants as class
use Rattle.flex_base.specs.Story.{leaves_after}
use Rattle.hart_state.specs.IsLatest.{IsLatest}
use Rattle.hart_state.specs.declared.kept.Kept.{Kept}
use Rattle.hart_story.proofs.Committing.{ended, leaves_after_are, part_is, next_aligned, regs_left}
use Rattle.hart_state.specs.declared.regs.Regs.{Regs}
use Rattle.hart_story.proofs.ending.commit_csr.Goals as goal

pub returns-clause-commits : goal.returns-clause-commits
returns-clause-commits c = λ layout budget setup a of stands fit unspent.
    let was = c.args.hart.now in
    let written = c.write_csr.ensures.csrs
    ∙ ap (λ s. unwrap_or (csr_write s c.args.number was.regs.mode c.args.value) s) stands.csrs
    ∙ ap (λ m. unwrap_or (csr_write a.csrs c.args.number m c.args.value) a.csrs) stands.regs.mode in
    let stores = c.close.ensures.csrs ∙ c.count.ensures.stores ∙ ap (count_but c.args.number) written in
    let next = ap (λ p. wrap (p + 4)) stands.regs.pc in
    let after : State = record a { pc = wrap (a.pc + 4); x = set_reg a.x c.args.rd c.args.old; lines = c.args.lines; csrs = count_but c.args.number (csrs_with a c.args.number c.args.value); leaves = leaves_after a c.args.number c.args.value } in
    let Fit : List ℕ → Type 0 = λ s. AreFit setup.harts s in
    let fit_csrs : AreFit setup.harts c.close.new.hart.csrs = subst Fit (sym c.close.ensures.csrs)
    (c.count.ensures.fit setup.harts (c.write_csr.ensures.fit setup.harts (subst Fit (sym stands.csrs) fit.csrs))) in
    let regs : c.set.new.self ≡ record was.regs { pc = wrap (was.regs.pc + 4); x = set_reg was.regs.x c.args.rd c.args.old } =
    c.set.ensures ∙ ap (λ (r : Regs). record r { pc = wrap (was.regs.pc + 4); x = set_reg r.x c.args.rd c.args.old }) c.write_csr.ensures.regs in
    let Latest : Kept → Type 0 = λ k. IsLatest k a.leaves in
    let After : Kept → Type 0 = λ k. IsLatest k after.leaves in
    let kept : IsLatest c.close.new.hart.kept after.leaves = subst After (sym c.close.ensures.kept)
    (c.keep_after.ensures a (subst Latest (sym c.write_csr.ensures.kept) stands.kept)) in
    let left = ended setup a after c.close.new.hart (wrap (was.regs.pc + 4)) (set_reg was.regs.x c.args.rd c.args.old) was.regs.mode was.regs.reservation was.regs.ends (makes_due c.args.number)
    (c.close.ensures.regs ∙ ap (λ (r : Regs). regs_left r.pc r.x r.mode r.reservation r.ends c.args.lines c.makes_due.result) regs
    ∙ ap (regs_left (wrap (was.regs.pc + 4)) (set_reg was.regs.x c.args.rd c.args.old) was.regs.mode was.regs.reservation was.regs.ends c.args.lines) c.makes_due.ensures)
    next (ap (λ x. set_reg x c.args.rd c.args.old) stands.regs.x) stands.regs.mode stands.regs.reservation stands.regs.ends stores unspent
    (next_aligned was.regs.pc (ap (λ p. is_multiple p 4) stands.regs.pc ∙ fit.aligned)) fit.reserved fit_csrs kept (leaves_after_are a c.args.number c.args.value fit.leaves) in
    (part_is class.Csr was.regs.pc a.pc (wrap (was.regs.pc + 4)) (wrap (a.pc + 4)) c.args.rd _ _ stands.regs.pc next c.told_of.ensures, left.0, left.1)
