-- What follows a reply is sound in any layout.
use Rattle.std.proofs.Common.{ℕ, Some, sym, subst}
use Rattle.flex_base.specs.Forms.{IsPlaced}
use Rattle.flex_base.specs.declared.access.Access.TheVariants as acc
use Rattle.hart_story.specs.Memory.{access_by}
use Rattle.hart_story.specs.Outcome.{KeepsReservation}
use Rattle.hart_story.specs.declared.memory_work.MemoryOp.{MemoryOp}
use Rattle.hart_story.proofs.Reserving.{set_in_ram}
use Rattle.hart_story.proofs.reply.end_by_reply.Goals as goal

pub returns-in-Load-clause-sound : goal.returns-in-Load-clause-sound
returns-in-Load-clause-sound c = λ layout was. c.end_with.ensures.sound layout

pub returns-in-Store-clause-sound : goal.returns-in-Store-clause-sound
returns-in-Store-clause-sound c = λ layout was. c.end_without.ensures.sound layout

pub returns-in-LoadReserved-clause-sound : goal.returns-in-LoadReserved-clause-sound
returns-in-LoadReserved-clause-sound c = λ layout was.
    let Placed : MemoryOp → Type 0 = λ op. IsPlaced layout.harts layout.ram
    (access_by op c.args.address c.args.work.now.width c.args.work.now.value) in
    let placed : IsPlaced layout.harts layout.ram (acc.Lr c.args.address c.args.work.now.width) =
    subst Placed c.in-LoadReserved.is was.placed in
    let Kept : ℕ → Type 0 = λ set. KeepsReservation layout c.args.hart.now (Some set) in
    c.end_reserving.ensures.sound layout
    (subst Kept (sym c.reservation_set.ensures)
    (λ whole own. set_in_ram layout.ram c.args.address c.args.work.now.width whole placed.0 placed.1.in_ram))

pub returns-in-StoreConditional-clause-sound : goal.returns-in-StoreConditional-clause-sound
returns-in-StoreConditional-clause-sound c = λ layout was. c.end_conditional.ensures.sound layout

pub returns-in-Modify-clause-sound : goal.returns-in-Modify-clause-sound
returns-in-Modify-clause-sound c = λ layout was. c.end_with-in-Modify.ensures.sound layout
