-- What each part comes to is what the operation does, and an outcome is sound at any count of leaves.
use Rattle.std.proofs.Common.{ℕ, ◌+◌, sym, ap, ◌∙◌}
use Rattle.flex_base.specs.Word.{wrap}
use Rattle.flex_base.specs.State.{reg}
use Rattle.flex_base.specs.Story.{works, loads, stores, loads_reserved, stores_conditional, modifies}
use Rattle.hart_story.proofs.work.work.Goals as goal

pub returns-in-Jal-clause-sound : goal.returns-in-Jal-clause-sound
returns-in-Jal-clause-sound c = λ count few. c.jump.ensures.sound c.args.layout.now

pub returns-in-Jalr-clause-sound : goal.returns-in-Jalr-clause-sound
returns-in-Jalr-clause-sound c = λ count few. c.jump-in-Jalr.ensures.sound c.args.layout.now

pub returns-in-Branch-clause-sound : goal.returns-in-Branch-clause-sound
returns-in-Branch-clause-sound c = λ count few. c.branch-hart.ensures.sound c.args.layout.now

pub returns-in-Load-clause-works : goal.returns-in-Load-clause-works
returns-in-Load-clause-works c = λ setup budget a of seen.
    let address = ap (λ (x : ℕ). wrap (x + c.in-Load.imm)) (c.read-in-Load.ensures a seen.shows) in
    ap (works setup a c.args.word) (sym c.in-Load.ensures.meaning)
    ∙ ap (loads setup a c.in-Load.width c.in-Load.signed c.in-Load.rd) (sym address)
    ∙ c.reach.ensures.reaches setup budget a of seen

pub returns-in-Store-clause-works : goal.returns-in-Store-clause-works
returns-in-Store-clause-works c = λ setup budget a of seen.
    let address = ap (λ (x : ℕ). wrap (x + c.in-Store.imm)) (c.read-in-Store.ensures a seen.shows) in
    ap (works setup a c.args.word) (sym c.in-Store.ensures.meaning)
    ∙ ap (λ (x : ℕ). stores setup a c.in-Store.width x (reg a.x c.in-Store.rs2)) (sym address)
    ∙ ap (stores setup a c.in-Store.width (wrap (c.read-in-Store.result + c.in-Store.imm)))
    (sym (c.read-in-Store-2.ensures a seen.shows))
    ∙ c.reach-in-Store.ensures.reaches setup budget a of seen

pub returns-in-Lr-clause-works : goal.returns-in-Lr-clause-works
returns-in-Lr-clause-works c = λ setup budget a of seen.
    ap (works setup a c.args.word) (sym c.in-Lr.ensures.meaning)
    ∙ ap (loads_reserved setup a c.in-Lr.width c.in-Lr.rd) (sym (c.read-in-Lr.ensures a seen.shows))
    ∙ c.reach-in-Lr.ensures.reaches setup budget a of seen

pub returns-in-Sc-clause-works : goal.returns-in-Sc-clause-works
returns-in-Sc-clause-works c = λ setup budget a of seen.
    ap (works setup a c.args.word) (sym c.in-Sc.ensures.meaning)
    ∙ ap (λ (x : ℕ). stores_conditional setup a c.in-Sc.width c.in-Sc.rd x (reg a.x c.in-Sc.rs2))
    (sym (c.read-in-Sc.ensures a seen.shows))
    ∙ ap (stores_conditional setup a c.in-Sc.width c.in-Sc.rd c.read-in-Sc.result) (sym (c.read-in-Sc-2.ensures a seen.shows))
    ∙ c.reach-in-Sc.ensures.reaches setup budget a of seen

pub returns-in-Amo-clause-works : goal.returns-in-Amo-clause-works
returns-in-Amo-clause-works c = λ setup budget a of seen.
    ap (works setup a c.args.word) (sym c.in-Amo.ensures.meaning)
    ∙ ap (λ (x : ℕ). modifies setup a c.in-Amo.op c.in-Amo.width c.in-Amo.rd x (reg a.x c.in-Amo.rs2))
    (sym (c.read-in-Amo.ensures a seen.shows))
    ∙ ap (modifies setup a c.in-Amo.op c.in-Amo.width c.in-Amo.rd c.read-in-Amo.result) (sym (c.read-in-Amo-2.ensures a seen.shows))
    ∙ c.reach-in-Amo.ensures.reaches setup budget a of seen

pub returns-in-Csr-clause-sound : goal.returns-in-Csr-clause-sound
returns-in-Csr-clause-sound c = λ count few. c.use_csr.ensures.sound c.args.layout.now

pub returns-in-Ecall-clause-sound : goal.returns-in-Ecall-clause-sound
returns-in-Ecall-clause-sound c = λ count few. c.ecall.ensures.sound c.args.layout.now

pub returns-in-Mret-clause-sound : goal.returns-in-Mret-clause-sound
returns-in-Mret-clause-sound c = λ count few. c.mret.ensures.sound c.args.layout.now

pub returns-in-Sret-clause-sound : goal.returns-in-Sret-clause-sound
returns-in-Sret-clause-sound c = λ count few. c.sret.ensures.sound c.args.layout.now

pub returns-in-Wfi-clause-sound : goal.returns-in-Wfi-clause-sound
returns-in-Wfi-clause-sound c = λ count few. c.wfi.ensures.sound c.args.layout.now

pub returns-in-SfenceVma-clause-sound : goal.returns-in-SfenceVma-clause-sound
returns-in-SfenceVma-clause-sound c = λ count few. c.sfence_vma.ensures.sound c.args.layout.now
