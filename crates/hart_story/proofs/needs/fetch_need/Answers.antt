-- The fetch asks where its translation has come to.
use Rattle.std.proofs.Common.{◌≡◌, ℕ, ◌%◌, true, ap, sym, subst, ◌∙◌}
use Rattle.flex_base.specs.State.{State}
use Rattle.flex_base.specs.Translation.{IsLeaf}
use Rattle.flex_base.specs.Word.{is_multiple}
use Rattle.hart_story.specs.Stage.{IsReading}
use Rattle.hart_story.specs.Translated.{state_after, IsSoundTranslated}
use Rattle.hart_story.specs.declared.translation.Translated.{Translated}
use Rattle.hart_story.proofs.Seeing.{aligned_in_page, not_longer}
use Rattle.hart_story.proofs.needs.fetch_need.Goals as goal

pub returns-in-Walks-clause-placed : goal.returns-in-Walks-clause-placed
returns-in-Walks-clause-placed c = λ setup budget a of stands fit.
    let Sound : Translated → Type 0 = λ t. IsSoundTranslated c.args.layout.now.ram c.args.hart.now.regs.pc t in
    let reading : IsReading c.args.layout.now.ram c.in-Walks.walk = subst Sound c.in-Walks.is c.translate-came.ensures.sound in
    let In : ℕ → Type 0 = λ ram. IsReading ram c.in-Walks.walk in
    c.walk_need.ensures.placed setup (subst In (sym of.ram) reading)

pub returns-in-To-clause-placed : goal.returns-in-To-clause-placed
returns-in-To-clause-placed c = λ setup budget a of stands fit.
    let pc = c.args.hart.now.regs.pc in
    let Sound : Translated → Type 0 = λ t. IsSoundTranslated c.args.layout.now.ram pc t in
    let same : c.in-To.address % 4096 ≡ pc % 4096 = subst Sound c.in-To.is c.translate-came.ensures.sound in
    let aligned : is_multiple pc 4 ≡ true = ap (λ p. is_multiple p 4) stands.regs.pc ∙ fit.aligned in
    c.fetch_need_at.ensures.placed setup budget of (aligned_in_page c.in-To.address pc same aligned)

pub returns-in-Found-clause-told : goal.returns-in-Found-clause-told
returns-in-Found-clause-told c = λ setup budget a of stands fit.
    let never = c.translate-came.ensures.same a in
    let longer = ap (λ t. state_after a t) (sym c.in-Found.is) ∙ never in
    absurd (not_longer a.leaves c.in-Found.field-1 (ap (λ (s : State). s.leaves) longer))

pub returns-in-Found-clause-placed : goal.returns-in-Found-clause-placed
returns-in-Found-clause-placed c = λ setup budget a of stands fit.
    let pc = c.args.hart.now.regs.pc in
    let Sound : Translated → Type 0 = λ t. IsSoundTranslated c.args.layout.now.ram pc t in
    let same : (c.in-Found.address % 4096 ≡ pc % 4096) × IsLeaf c.in-Found.field-1 = subst Sound c.in-Found.is c.translate-came.ensures.sound in
    let aligned : is_multiple pc 4 ≡ true = ap (λ p. is_multiple p 4) stands.regs.pc ∙ fit.aligned in
    c.fetch_need_at-in-Found.ensures.placed setup budget of (aligned_in_page c.in-Found.address pc same.0 aligned)
