-- Whatever the story of an instruction asks stands where its kind may stand, and the next one begins at a multiple of 4.
use Rattle.std.proofs.Common.{◌≡◌, ℕ, zero, suc, ◌+◌, ◌-◌, ◌*◌, ◌%◌, Bool, true, false, not, ◌||◌, ◌==◌, if◌then◌else◌, List, [], ◌∷◌, ◌++◌, Option, None, Some, inl, inr, refl, sym, subst, arith, eq-eqb, slice_index}
use Rattle.std.specs.List.{list_any}
use Rattle.std.proofs.lemmas.Bool.{or_cases, eqb-true}
use Rattle.flex_base.specs.Word.{wrap, is_multiple}
use Rattle.flex_base.specs.Place.{in_ram, place_of}
use Rattle.flex_base.specs.Causes.{instruction_address_misaligned, illegal_instruction, instruction_access_fault, load_access_fault, store_access_fault, misaligned, page_fault, access_fault, breakpoint, ecall_from}
use Rattle.flex_base.specs.Csrs.{satp, TVM, TW, TSR}
use Rattle.flex_base.specs.Traps.{Transfer, trap, mret, sret, count, takeable}
use Rattle.flex_base.specs.Zicsr.{CSR_TIME, reads_csr, writes_csr, csr_operand, csr_result, may_use_csr, is_pending_csr, CSR_MCYCLE, CSR_MINSTRET, csr_value, csrs_with}
use Rattle.flex_base.specs.Decoding.{decoded}
use Rattle.flex_base.specs.FlatMemory.{reservation_set, is_reserved}
use Rattle.flex_base.specs.Forms.{IsWidth, IsAtomicWidth, IsPlaced}
use Rattle.flex_base.specs.Setup.{Setup}
use Rattle.flex_base.specs.State.{State, reg}
use Rattle.flex_base.specs.Translation.{is_canonical, is_leaf, frame_of, page_of, faults, leaf_at, index_at, follows, walk_from, walk, root_of, address_in, kept}
use Rattle.flex_base.specs.StoryTree.{Story, Says, Closes, StaysOver, Parks}
use Rattle.flex_base.specs.Ends.{jumps, ends, computes, passes, traps, traps_illegal, returns, concludes}
use Rattle.flex_base.specs.Translating.{is_translated, may_use, page_faults, reads_entry, uses, arrives, walks, looks_up, translates}
use Rattle.flex_base.specs.Story.{story, even, pulses, after_pulse, begins, interrupted_by, fetches, fetches_at, works, branches, is_taken, supervises, is_machine, closes_csr, updates_csr, asks_csr, uses_csr, fences_memory, at_place, has_pending, ends_wait, after_wait, waits, reaches, in_ram_at, loads_at, stores_at, loads_reserved_at, stores_conditional_at, modifies_at, is_tick}
use Rattle.flex_base.specs.declared.access.Access.TheVariants as acc
use Rattle.flex_base.specs.declared.access.Reply.{Reply}
use Rattle.flex_base.specs.declared.class.Class.TheVariants as class
use Rattle.flex_base.specs.declared.operation.CsrOp.{CsrOp}
use Rattle.flex_base.specs.declared.operation.Op.{Op}
use Rattle.flex_base.specs.declared.operation.Op.TheVariants as op
use Rattle.flex_base.specs.declared.settings.Place.{Place}
use Rattle.flex_base.specs.declared.settings.Place.TheVariants as place
use Rattle.flex_base.specs.declared.translation.Kind.{Kind}
use Rattle.flex_base.specs.declared.translation.Kind.TheVariants as kind
use Rattle.flex_base.specs.declared.translation.Leaf.{Leaf}
use Rattle.flex_base.specs.declared.translation.WalkStep.{WalkStep}
use Rattle.flex_base.specs.declared.translation.WalkStep.TheVariants as step
use Rattle.flex_base.proofs.Places.{in_ram-placed}
use Rattle.flex_base.proofs.Stories.{retires, goes_on}
use Rattle.hart_story.specs.Operands.{HasOperands}
use Rattle.hart_story.proofs.Operands.{decoded_operands}
use Rattle.crew.proofs.Addresses.{AreAligned, IsAligned, LeadsOn, count_aligned, trap_leads, mret_leads, sret_leads, csrs_with_aligned}

-- from here on each access stands where its kind may stand, and an end leaves an instruction that begins at a multiple of 4
abbrev pub Stands : Setup → Story → Type 0
Stands setup (Says access next) = IsPlaced setup.harts setup.ram access × ((reply : Reply) → Stands setup (next reply))
Stands setup (Closes part after) = IsAligned after
Stands setup StaysOver = Unit {0}
Stands setup (Parks wakes) = (lines : ℕ) → Stands setup (wakes lines)

-- Addresses.

each_width : (P : ℕ → Type 0) (width : ℕ) → IsWidth width → P 1 → P 2 → P 4 → P 8 → P width
each_width P width wide one two four eight =
    elim (or_cases ((width == 1) || (width == 2) || (width == 4)) (width == 8) wide) [
      | inr is ↦ subst P (sym (eqb-true width 8 is)) eight
      | inl less ↦ elim (or_cases ((width == 1) || (width == 2)) (width == 4) less) [
        | inr is ↦ subst P (sym (eqb-true width 4 is)) four
        | inl less ↦ elim (or_cases (width == 1) (width == 2) less) [
          | inr is ↦ subst P (sym (eqb-true width 2 is)) two
          | inl is ↦ subst P (sym (eqb-true width 1 is)) one
        ]
      ]
    ]

-- a physical address is as aligned as the virtual one
in_page : (width frame va : ℕ) → IsWidth width → is_multiple va width ≡ true → is_multiple (4096 * frame + va % 4096) width ≡ true
in_page width frame va wide =
    let Keeps : ℕ → Type 0 = λ w. is_multiple va w ≡ true → is_multiple (4096 * frame + va % 4096) w ≡ true in
    each_width Keeps width wide
    (λ whole. eq-eqb ((4096 * frame + va % 4096) % 1) 0 (omega arith))
    (λ whole. eq-eqb ((4096 * frame + va % 4096) % 2) 0 (omega (arith, eqb-true (va % 2) 0 whole)))
    (λ whole. eq-eqb ((4096 * frame + va % 4096) % 4) 0 (omega (arith, eqb-true (va % 4) 0 whole)))
    (λ whole. eq-eqb ((4096 * frame + va % 4096) % 8) 0 (omega (arith, eqb-true (va % 8) 0 whole)))

-- an atomic width is one of a load
is_width : (width : ℕ) → IsAtomicWidth width → IsWidth width
is_width width wide = grind arith

next_aligned : (pc : ℕ) → is_multiple pc 4 ≡ true → is_multiple (wrap (pc + 4)) 4 ≡ true
next_aligned pc aligned = grind arith

-- an entry that a walk reads is 8 aligned bytes
abbrev IsEntry : WalkStep → Type 0
IsEntry (step.Need address) = is_multiple address 8 ≡ true
IsEntry (step.Leaf leaf) = Unit {0}
IsEntry step.Fault = Unit {0}

entry_by : (b : Bool) (s t : WalkStep) → IsEntry s → IsEntry t → IsEntry (if b then s else t)
entry_by true s t first second = first
entry_by false s t first second = second

table_entry : (table index : ℕ) → is_multiple (4096 * table + 8 * index) 8 ≡ true
table_entry table index = eq-eqb ((4096 * table + 8 * index) % 8) 0 (omega arith)

follows_entry : (level va entry : ℕ) (onward : ℕ → WalkStep) → ((table : ℕ) → IsEntry (onward table)) → IsEntry (follows level va entry onward)
follows_entry level va entry onward is =
    entry_by (list_any (λ (b : Bool). b) (faults level entry)) step.Fault _ tt
    (entry_by (is_leaf entry) (step.Leaf (leaf_at level va entry)) (onward (frame_of entry)) tt (is (frame_of entry)))

from_entry : (level table va : ℕ) (entries : List ℕ) → IsEntry (walk_from level table va entries)
from_entry level table va [] = table_entry table (index_at level va)
from_entry level table va (entry ∷ entries) =
    follows_entry level va entry (λ next. walk_from (level - 1) next va entries) (λ next. from_entry (level - 1) next va entries)

walk_entry : (satp va : ℕ) (entries : List ℕ) → IsEntry (walk satp va entries)
walk_entry satp va entries =
    entry_by (is_canonical va) (walk_from 2 (root_of satp) va entries) step.Fault (from_entry 2 (root_of satp) va entries) tt

-- Branches.

either : (setup : Setup) (b : Bool) (s t : Story) → Stands setup s → Stands setup t → Stands setup (if b then s else t)
either setup true s t first second = first
either setup false s t first second = second

-- where the first may use what was tested
tested : (setup : Setup) (b : Bool) (s t : Story) → (b ≡ true → Stands setup s) → Stands setup t → Stands setup (if b then s else t)
tested setup true s t first second = first refl
tested setup false s t first second = second

placed : (setup : Setup) (p : Place) (access device fault : Story) → (p ≡ place.Ram → Stands setup access)
    → (p ≡ place.Device → Stands setup device)
    → Stands setup fault → Stands setup (at_place p access device fault)
placed setup place.Ram access device fault first second third = first refl
placed setup place.Device access device fault first second third = second refl
placed setup place.Nowhere access device fault first second third = third

-- The story of an instruction.

module _ (setup : Setup) (a : State) (held : IsAligned a) where
  -- after an end that goes on at the next instruction
  at_next : (is_multiple (wrap (a.pc + 4)) 4 ≡ true) × AreAligned (count a.csrs true true)
  at_next = (next_aligned a.pc held.0, count_aligned a.csrs true true held.1)

  traps_stand : (cause tval : ℕ) → Stands setup (traps a cause tval)
  traps_stand cause tval =
      let leads = trap_leads a.csrs a.pc a.mode cause tval held.0 held.1 in
      (leads.0, count_aligned (trap a.csrs a.pc a.mode cause tval).stores true false leads.1)

  returns_stand : (to : Transfer) → LeadsOn to → Stands setup (returns a to)
  returns_stand to leads = (leads.0, count_aligned to.stores true true leads.1)

  -- Translation: what follows stands at each address that is as aligned as the virtual one.
  module _ (k : Kind) (width va : ℕ) (next : State → ℕ → Story) (wide : IsWidth width) (whole : is_multiple va width ≡ true)
      (then_ : (leaves : List Leaf) (address : ℕ) → is_multiple address width ≡ true → Stands setup (next (record a { leaves = leaves }) address)) where
    uses_stand : (leaves : List Leaf) (leaf : Leaf) → Stands setup (uses setup.ram a k va next (record a { leaves = leaves }) leaf)
    uses_stand leaves leaf =
        either setup (may_use a k leaf) (next (record a { leaves = leaves }) (address_in leaf va)) (page_faults a k va)
        (then_ leaves (address_in leaf va) (in_page width leaf.frame va wide whole)) (traps_stand (page_fault k) va)

    arrives_stand : (s : WalkStep) (reads : ℕ → Story) → IsEntry s → ((address : ℕ) → is_multiple address 8 ≡ true → Stands setup (reads address))
        → Stands setup (arrives setup.ram a k va next s reads)
    arrives_stand (step.Need address) reads entry stands = stands address entry
    arrives_stand (step.Leaf leaf) reads entry stands = uses_stand (a.leaves ++ leaf ∷ []) leaf
    arrives_stand step.Fault reads entry stands = traps_stand (page_fault k) va

    walks_stand : (left : ℕ) (ahead : List ℕ → WalkStep) → ((entries : List ℕ) → IsEntry (ahead entries))
        → Stands setup (walks setup.ram a k va next left ahead)
    unfolding walks
    walks_stand zero ahead are =
        arrives_stand (ahead []) (λ address. page_faults a k va) (are []) (λ address entry. traps_stand (page_fault k) va)
    walks_stand (suc left) ahead are =
        let onward : Reply → Story = λ reply. walks setup.ram a k va next left (λ entries. ahead (reply.value ∷ entries)) in
        arrives_stand (ahead []) (reads_entry setup.ram a k va onward) (are []) (λ address entry.
        tested setup (in_ram setup.ram address 8) (Says (acc.Pte address) onward) (traps a (access_fault k) va)
        (λ inside. (
          record { aligned = entry; in_ram = inside },
          λ reply.
              walks_stand left (λ entries. ahead (reply.value ∷ entries)) (λ entries. are (reply.value ∷ entries)),
        ))
        (traps_stand (access_fault k) va))

    looks_up_stand : (found : Option Leaf) → Stands setup (looks_up setup.ram a k va next found)
    looks_up_stand (Some leaf) = uses_stand a.leaves leaf
    looks_up_stand None = walks_stand 3 (walk (slice_index a.csrs satp) va) (walk_entry (slice_index a.csrs satp) va)

    translates_stand : Stands setup (translates setup.ram a k va next)
    unfolding translates
    translates_stand =
        either setup (is_translated a k) _ (next a va)
        (either setup (is_canonical va) (looks_up setup.ram a k va next (kept a.leaves (page_of va))) (page_faults a k va)
        (looks_up_stand (kept a.leaves (page_of va))) (traps_stand (page_fault k) va))
        (then_ a.leaves va whole)

  reaches_stand : (k : Kind) (width va : ℕ) (access : State → ℕ → Story) → IsWidth width
      → ((leaves : List Leaf) (address : ℕ) → is_multiple address width ≡ true → Stands setup (access (record a { leaves = leaves }) address))
      → Stands setup (reaches setup a k width va access)
  reaches_stand k width va access wide stands =
      tested setup (is_multiple va width) _ (traps a (misaligned k) va)
      (λ whole. translates_stand k width va access wide whole stands) (traps_stand (misaligned k) va)

  at_place_stands : (leaves : List Leaf) (cause va address width : ℕ) (access device : Story)
      → (in_ram setup.ram address width ≡ true → Stands setup access)
      → (place_of setup.harts setup.ram address width ≡ place.Device → Stands setup device)
      → Stands setup (at_place (place_of setup.harts setup.ram address width) access device (traps (record a { leaves = leaves }) cause va))
  at_place_stands leaves cause va address width access device first second =
      placed setup (place_of setup.harts setup.ram address width) access device (traps (record a { leaves = leaves }) cause va)
      (λ ram. first (in_ram-placed setup.harts setup.ram address width ram)) second (traps_stand cause va)

  in_ram_stands : (k : Kind) (leaves : List Leaf) (width va address : ℕ) (access : Story)
      → (in_ram setup.ram address width ≡ true → Stands setup access)
      → Stands setup (in_ram_at setup (record a { leaves = leaves }) k width va address access)
  in_ram_stands k leaves width va address access stands =
      tested setup (in_ram setup.ram address width) access (traps (record a { leaves = leaves }) (access_fault k) va)
      stands (traps_stand (access_fault k) va)

  jumps_stand : (target rd : ℕ) → Stands setup (jumps a target rd)
  jumps_stand target rd =
      tested setup (is_multiple target 4) (ends a class.Jump target rd (wrap (a.pc + 4))) (traps a instruction_address_misaligned target)
      (λ four. (four, at_next.1)) (traps_stand instruction_address_misaligned target)

  branches_stand : (taken : Bool) (target : ℕ) → Stands setup (branches a taken target)
  branches_stand taken target = either setup taken (jumps a target 0) (passes a class.Jump) (jumps_stand target 0) at_next

  -- whatever interrupt lines it has by then
  updates_csr_stands : (lines : ℕ) (does : CsrOp) (rd rs1 number old : ℕ)
      → Stands setup (updates_csr (record a { lines = lines }) does rd rs1 number old)
  updates_csr_stands lines does rd rs1 number old =
      let b : State = record a { lines = lines } in
      let value = csr_result does old (csr_operand does a.x rs1) in
      either setup (writes_csr does rs1) (closes_csr b number rd old value) (computes b class.Csr rd old) (
        at_next.0,
        count_aligned (csrs_with a number value) (not (number == CSR_MCYCLE)) (not (number == CSR_MINSTRET))
            (csrs_with_aligned a number value held.1),
      )
      at_next

  asks_csr_stands : (does : CsrOp) (rd rs1 number : ℕ) → Stands setup (asks_csr a does rd rs1 number)
  asks_csr_stands does rd rs1 number =
      either setup (is_pending_csr number) _ _ (
        tt,
        λ reply. either setup reply.stop StaysOver _ tt
            (updates_csr_stands reply.lines does rd rs1 number (csr_value a number reply.lines 0)),
      )
      (either setup (number == CSR_TIME) _ _
      (tt, λ reply. updates_csr_stands a.lines does rd rs1 number (csr_value a number 0 reply.value))
      (updates_csr_stands a.lines does rd rs1 number (csr_value a number 0 0)))

  uses_csr_stands : (word : ℕ) (does : CsrOp) (rd rs1 number : ℕ) → Stands setup (uses_csr a word does rd rs1 number)
  uses_csr_stands word does rd rs1 number =
      either setup (may_use_csr a does rd rs1 number) _ (traps_illegal a word)
      (either setup (reads_csr does rd) _ _ (asks_csr_stands does rd rs1 number) (updates_csr_stands a.lines does rd rs1 number 0))
      (traps_stand illegal_instruction word)

  after_wait_stands : (reply : Reply) → Stands setup (after_wait a reply)
  after_wait_stands reply =
      either setup reply.stop StaysOver _ tt
      (either setup (reply.value == 1) (Parks (ends_wait a)) (ends_wait a reply.lines) (λ lines. at_next) at_next)

  waits_stand : Stands setup (waits a)
  waits_stand =
      either setup (has_pending a.csrs) _ _
      (tt, λ reply. either setup reply.stop StaysOver (ends_wait a reply.lines) tt at_next) (tt, after_wait_stands)

  -- whether or not it is within the hart's reservation
  conditional_stands : (leaves : List Leaf) (rd address width value : ℕ) (b : Bool) → IsPlaced setup.harts setup.ram (acc.Sc address width value)
      → Stands setup (if b then Says (acc.Sc address width value) (λ reply. concludes (record a { leaves = leaves }) rd reply.value)
      else concludes (record a { leaves = leaves }) rd 1)
  conditional_stands leaves rd address width value true there = (there, λ reply. at_next)
  conditional_stands leaves rd address width value false there = at_next

  works_stand : (word : ℕ) (o : Op) → HasOperands o → Stands setup (works setup a word o)
  works_stand word (op.Lui rd imm) has = at_next
  works_stand word (op.Auipc rd imm) has = at_next
  works_stand word (op.AluImm does rd rs1 imm) has = at_next
  works_stand word (op.AluReg does rd rs1 rs2) has = at_next
  works_stand word (op.Muldiv does rd rs1 rs2) has = at_next
  works_stand word (op.Jal rd imm) has = jumps_stand (wrap (a.pc + imm)) rd
  works_stand word (op.Jalr rd rs1 imm) has = jumps_stand (even (wrap (reg a.x rs1 + imm))) rd
  works_stand word (op.Branch compares rs1 rs2 imm) has =
      branches_stand (is_taken compares (reg a.x rs1) (reg a.x rs2)) (wrap (a.pc + imm))
  works_stand word (op.Load width signed rd rs1 imm) has =
      let va = wrap (reg a.x rs1 + imm) in
      reaches_stand kind.Load width va (loads_at setup width signed rd va) has.0 (λ leaves address whole.
      at_place_stands leaves load_access_fault va address width _ _
      (λ inside. ((has.0, record { aligned = whole; in_ram = inside }), λ reply. at_next))
      (λ there. (there, λ reply. at_next)))
  works_stand word (op.Store width rs1 rs2 imm) has =
      let va = wrap (reg a.x rs1 + imm) in
      reaches_stand kind.Store width va (stores_at setup width (reg a.x rs2) va) has.0 (λ leaves address whole.
      at_place_stands leaves store_access_fault va address width _ _
      (λ inside. ((has.0, record { aligned = whole; in_ram = inside }), λ reply. at_next))
      (λ there. (there, λ reply. at_next)))
  works_stand word (op.Lr width rd rs1 aq rl) has =
      let va = reg a.x rs1 in
      reaches_stand kind.Load width va (loads_reserved_at setup width rd va) (is_width width has.0) (λ leaves address whole.
      in_ram_stands kind.Load leaves width va address _ (λ inside.
      ((has.0, record { aligned = whole; in_ram = inside }), λ reply. at_next)))
  works_stand word (op.Sc width rd rs1 rs2 aq rl) has =
      let va = reg a.x rs1 in
      reaches_stand kind.Store width va (stores_conditional_at setup width rd (reg a.x rs2) va) (is_width width has.0) (λ leaves address whole.
      in_ram_stands kind.Store leaves width va address _ (λ inside.
      conditional_stands leaves rd address width _ (is_reserved a.reservation (reservation_set address))
      (has.0, record { aligned = whole; in_ram = inside })))
  works_stand word (op.Amo does width rd rs1 rs2 aq rl) has =
      let va = reg a.x rs1 in
      reaches_stand kind.Store width va (modifies_at setup does width rd (reg a.x rs2) va) (is_width width has.0) (λ leaves address whole.
      in_ram_stands kind.Store leaves width va address _ (λ inside.
      ((has.0, record { aligned = whole; in_ram = inside }), λ reply. at_next)))
  works_stand word (op.Fence free) has = at_next
  works_stand word (op.FenceI free) has = at_next
  works_stand word (op.Csr does rd rs1 number) has = uses_csr_stands word does rd rs1 number
  works_stand word op.Ecall has = traps_stand (ecall_from a.mode) 0
  works_stand word op.Ebreak has = traps_stand breakpoint 0
  works_stand word op.Mret has =
      either setup (is_machine a.mode) (returns a (mret a.csrs)) (traps_illegal a word)
      (returns_stand (mret a.csrs) (mret_leads a.csrs held.1)) (traps_stand illegal_instruction word)
  works_stand word op.Sret has =
      either setup (supervises TSR a.csrs a.mode) (returns a (sret a.csrs)) (traps_illegal a word)
      (returns_stand (sret a.csrs) (sret_leads a.csrs held.1)) (traps_stand illegal_instruction word)
  works_stand word op.Wfi has =
      either setup (supervises TW a.csrs a.mode) (waits a) (traps_illegal a word) waits_stand (traps_stand illegal_instruction word)
  works_stand word (op.SfenceVma rs1 rs2) has =
      either setup (supervises TVM a.csrs a.mode) (fences_memory a) (traps_illegal a word) at_next (traps_stand illegal_instruction word)
  works_stand word (op.Illegal whole) has = traps_stand illegal_instruction whole

fetches_at_stands : (setup : Setup) (a : State) → IsAligned a → (address : ℕ) → is_multiple address 4 ≡ true
    → Stands setup (fetches_at setup a address)
fetches_at_stands setup a held address whole =
    tested setup (in_ram setup.ram address 4) (goes_on setup a address) (traps a instruction_access_fault a.pc)
    (λ inside. (
      record { aligned = whole; in_ram = inside },
      λ reply.
          works_stand setup a held reply.value (decoded reply.value) (decoded_operands reply.value),
    ))
    (traps_stand setup a held instruction_access_fault a.pc)

module _ (setup : Setup) (a : State) (held : IsAligned a) where
  fetches_stand : Stands setup (fetches setup a)
  fetches_stand = translates_stand setup a held kind.Fetch 4 a.pc (fetches_at setup) refl held.0
      (λ leaves address whole. fetches_at_stands setup (record a { leaves = leaves }) held address whole)

  interrupted_stands : (by : Option ℕ) → Stands setup (interrupted_by setup a by)
  interrupted_stands None = fetches_stand
  interrupted_stands (Some cause) = traps_stand setup a held cause 0

  begins_stand : Stands setup (begins setup a)
  begins_stand = interrupted_stands (takeable a.csrs a.lines a.mode)

pulses_stand : (setup : Setup) (a : State) → IsAligned a → Stands setup (pulses setup a)
pulses_stand setup a held =
    either setup a.due (Says (acc.Pulse (is_tick a)) (after_pulse setup a)) (begins setup a)
    (tt, λ reply. either setup reply.stop StaysOver _ tt (begins_stand setup (record a { lines = reply.lines }) held)) (begins_stand setup a held)

pub story_stands : (setup : Setup) (a : State) → IsAligned a → Stands setup (story setup a)
story_stands setup a held = either setup (a.ends == setup.budget) retires (pulses setup a) (tt, λ reply. tt) (pulses_stand setup a held)
