-- By what the work does, its access where that may stand.
use Rattle.std.proofs.Common.{ap, ◌∙◌, if◌then◌else◌}
use Rattle.flex_base.specs.Causes.{access_fault}
use Rattle.flex_base.specs.Place.{in_ram}
use Rattle.flex_base.specs.StoryTree.{Story}
use Rattle.flex_base.specs.Ends.{traps}
use Rattle.hart_story.specs.Memory.{kind_of}
use Rattle.hart_story.specs.declared.memory_work.MemoryOp.TheVariants as memory
use Rattle.hart_story.proofs.Placing.{reaching-placing, sound_access, sound_device}
use Rattle.hart_story.proofs.memory.place.Goals as goal

pub returns-in-Load-clause-places : goal.returns-in-Load-clause-places
returns-in-Load-clause-places c = λ setup budget a of shown.
    reaching-placing memory.Load c.args.work setup a c.args.address c.in-Load.is
    ∙ c.place_anywhere.ensures.places setup budget a of

pub returns-in-Store-clause-places : goal.returns-in-Store-clause-places
returns-in-Store-clause-places c = λ setup budget a of shown.
    reaching-placing memory.Store c.args.work setup a c.args.address c.in-Store.is
    ∙ c.place_anywhere-in-Store.ensures.places setup budget a of

pub returns-in-LoadReserved-clause-places : goal.returns-in-LoadReserved-clause-places
returns-in-LoadReserved-clause-places c = λ setup budget a of shown.
    reaching-placing memory.LoadReserved c.args.work setup a c.args.address c.in-LoadReserved.is
    ∙ c.place_in_ram.ensures.places setup budget a of

pub returns-in-StoreConditional-clause-places : goal.returns-in-StoreConditional-clause-places
returns-in-StoreConditional-clause-places c = λ setup budget a of shown.
    reaching-placing memory.StoreConditional c.args.work setup a c.args.address c.in-StoreConditional.is
    ∙ ap (λ (made : Story). if in_ram setup.ram c.args.address c.args.work.width then made
    else traps a (access_fault (kind_of c.args.work.op)) c.args.work.address) (c.conditional.ensures.works setup a shown)
    ∙ c.place_in_ram-in-StoreConditional.ensures.places setup budget a of

pub returns-in-Modify-clause-places : goal.returns-in-Modify-clause-places
returns-in-Modify-clause-places c = λ setup budget a of shown.
    reaching-placing (memory.Modify c.in-Modify.field-0) c.args.work setup a c.args.address c.in-Modify.is
    ∙ c.place_in_ram-in-Modify.ensures.places setup budget a of

pub returns-in-Load-clause-sound : goal.returns-in-Load-clause-sound
returns-in-Load-clause-sound c = λ count whole. c.place_anywhere.ensures.sound c.args.hart.now count
    (λ inside. sound_access memory.Load c.args.layout.now c.args.hart.now c.args.work c.args.address
    c.in-Load.is c.requires whole inside tt)
    (sound_device c.args.layout.now c.args.hart.now c.args.work c.args.address c.requires)

pub returns-in-Store-clause-sound : goal.returns-in-Store-clause-sound
returns-in-Store-clause-sound c = λ count whole. c.place_anywhere-in-Store.ensures.sound c.args.hart.now count
    (λ inside. sound_access memory.Store c.args.layout.now c.args.hart.now c.args.work c.args.address
    c.in-Store.is c.requires whole inside tt)
    (sound_device c.args.layout.now c.args.hart.now c.args.work c.args.address c.requires)

pub returns-in-LoadReserved-clause-sound : goal.returns-in-LoadReserved-clause-sound
returns-in-LoadReserved-clause-sound c = λ count whole. c.place_in_ram.ensures.sound c.args.hart.now count
    (λ inside. sound_access memory.LoadReserved c.args.layout.now c.args.hart.now c.args.work c.args.address
    c.in-LoadReserved.is c.requires whole inside tt)

pub returns-in-StoreConditional-clause-sound : goal.returns-in-StoreConditional-clause-sound
returns-in-StoreConditional-clause-sound c = λ count whole. c.place_in_ram-in-StoreConditional.ensures.sound c.args.hart.now count
    (λ inside. c.conditional.ensures.sound c.args.layout.now count (λ held. sound_access memory.StoreConditional
    c.args.layout.now c.args.hart.now c.args.work c.args.address c.in-StoreConditional.is c.requires whole inside held))

pub returns-in-Modify-clause-sound : goal.returns-in-Modify-clause-sound
returns-in-Modify-clause-sound c = λ count whole. c.place_in_ram-in-Modify.ensures.sound c.args.hart.now count
    (λ inside. sound_access (memory.Modify c.in-Modify.field-0) c.args.layout.now c.args.hart.now c.args.work c.args.address
    c.in-Modify.is c.requires whole inside tt)
