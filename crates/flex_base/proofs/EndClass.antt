-- The work of an operation ends with the class of the operation, or is a trap.
use Rattle.std.proofs.Common.{ℕ, ◌+◌, Bool, true, false, if◌then◌else◌, List, ◌==◌, inl, inr, refl}
use Rattle.flex_base.specs.Setup.{Setup}
use Rattle.flex_base.specs.State.{State, reg}
use Rattle.flex_base.specs.Place.{in_ram, place_of}
use Rattle.flex_base.specs.Word.{wrap, is_multiple}
use Rattle.flex_base.specs.Causes.{load_access_fault, store_access_fault, access_fault}
use Rattle.flex_base.specs.Classes.{class_of_op}
use Rattle.flex_base.specs.Csrs.{TVM, TW, TSR}
use Rattle.flex_base.specs.EndClass.{EndsIn}
use Rattle.flex_base.specs.FlatMemory.{is_reserved, reservation_set}
use Rattle.flex_base.specs.StoryTree.{Story}
use Rattle.flex_base.specs.Ends.{jumps, traps}
use Rattle.flex_base.specs.Story.{works, branches, is_taken, at_place, reaches, in_ram_at, loads_at, stores_at, loads_reserved_at, stores_conditional_at, modifies_at, is_machine, supervises, updates_csr, after_csr_pulse, asks_csr, uses_csr, has_pending, after_wait, after_wait_pulse, waits}
use Rattle.flex_base.specs.Zicsr.{CSR_TIME, reads_csr, writes_csr, may_use_csr, is_pending_csr}
use Rattle.flex_base.specs.declared.access.Reply.{Reply}
use Rattle.flex_base.specs.declared.class.Class.{Class}
use Rattle.flex_base.specs.declared.class.Class.TheVariants as class
use Rattle.flex_base.specs.declared.operation.CsrOp.{CsrOp}
use Rattle.flex_base.specs.declared.operation.Op.{Op}
use Rattle.flex_base.specs.declared.operation.Op.TheVariants as op
use Rattle.flex_base.specs.declared.settings.Place.{Place}
use Rattle.flex_base.specs.declared.settings.Place.TheVariants as place
use Rattle.flex_base.specs.declared.translation.Kind.{Kind}
use Rattle.flex_base.specs.declared.translation.Kind.TheVariants as kind
use Rattle.flex_base.specs.declared.translation.Leaf.{Leaf}
use Rattle.flex_base.proofs.Translating.{PassesWalks, translates_has}

either_ends : (c : Class) (b : Bool) (s t : Story) → EndsIn c s → EndsIn c t → EndsIn c (if b then s else t)
either_ends c true s t first second = first
either_ends c false s t first second = second

at_place_ends : (c : Class) (p : Place) (access device fault : Story) → EndsIn c access → EndsIn c device → EndsIn c fault
    → EndsIn c (at_place p access device fault)
at_place_ends c place.Ram access device fault first second third = first
at_place_ends c place.Device access device fault first second third = second
at_place_ends c place.Nowhere access device fault first second third = third

ends_passes : (c : Class) (a : State) (va : ℕ) → PassesWalks a va (λ n s. EndsIn c s)
ends_passes c a va = record { more = λ n s leads. leads; reads = λ n address onward leads. leads; faults = λ n cause. inr refl }

reaches_ends : (c : Class) (setup : Setup) (a : State) (k : Kind) (width va : ℕ) (access : State → ℕ → Story)
    → ((leaves : List Leaf) (address : ℕ) → EndsIn c (access (record a { leaves = leaves }) address))
    → EndsIn c (reaches setup a k width va access)
reaches_ends c setup a k width va access leads =
    either_ends c (is_multiple va width) _ _
    (translates_has setup.ram a k va access (λ n s. EndsIn c s) (ends_passes c a va) 0 leads) (inr refl)

in_ram_ends : (c : Class) (setup : Setup) (a : State) (k : Kind) (width va address : ℕ) (access : Story) → EndsIn c access
    → EndsIn c (in_ram_at setup a k width va address access)
in_ram_ends c setup a k width va address access leads =
    either_ends c (in_ram setup.ram address width) access (traps a (access_fault k) va) leads (inr refl)

placed_ends : (c : Class) (p : Place) (a : State) (cause va : ℕ) (access device : Story) → EndsIn c access → EndsIn c device
    → EndsIn c (at_place p access device (traps a cause va))
placed_ends c p a cause va access device first second = at_place_ends c p access device (traps a cause va) first second (inr refl)

jumps_ends : (a : State) (target rd : ℕ) → EndsIn class.Jump (jumps a target rd)
jumps_ends a target rd = either_ends class.Jump (is_multiple target 4) _ _ (inl refl) (inr refl)

branches_ends : (a : State) (taken : Bool) (target : ℕ) → EndsIn class.Jump (branches a taken target)
branches_ends a taken target = either_ends class.Jump taken _ _ (jumps_ends a target 0) (inl refl)

-- CSR instructions.

updates_csr_ends : (a : State) (does : CsrOp) (rd rs1 number old : ℕ) → EndsIn class.Csr (updates_csr a does rd rs1 number old)
updates_csr_ends a does rd rs1 number old =
    either_ends class.Csr (writes_csr does rs1) _ _ (inl refl) (inl refl)

after_csr_pulse_ends : (a : State) (does : CsrOp) (rd rs1 number : ℕ) (reply : Reply) →
    EndsIn class.Csr (after_csr_pulse a does rd rs1 number reply)
after_csr_pulse_ends a does rd rs1 number reply =
    either_ends class.Csr reply.stop _ _ tt (updates_csr_ends (record a { lines = reply.lines }) does rd rs1 number _)

asks_csr_ends : (a : State) (does : CsrOp) (rd rs1 number : ℕ) → EndsIn class.Csr (asks_csr a does rd rs1 number)
asks_csr_ends a does rd rs1 number =
    either_ends class.Csr (is_pending_csr number) _ _ (after_csr_pulse_ends a does rd rs1 number)
    (either_ends class.Csr (number == CSR_TIME) _ _ (λ reply. updates_csr_ends a does rd rs1 number _)
    (updates_csr_ends a does rd rs1 number _))

uses_csr_ends : (a : State) (word : ℕ) (does : CsrOp) (rd rs1 number : ℕ) → EndsIn class.Csr (uses_csr a word does rd rs1 number)
uses_csr_ends a word does rd rs1 number =
    either_ends class.Csr (may_use_csr a does rd rs1 number) _ _
    (either_ends class.Csr (reads_csr does rd) _ _ (asks_csr_ends a does rd rs1 number) (updates_csr_ends a does rd rs1 number 0))
    (inr refl)

-- WFI.

after_wait_ends : (a : State) (reply : Reply) → EndsIn class.System (after_wait a reply)
after_wait_ends a reply =
    either_ends class.System reply.stop _ _ tt (either_ends class.System (reply.value == 1) _ _ (λ lines. inl refl) (inl refl))

after_wait_pulse_ends : (a : State) (reply : Reply) → EndsIn class.System (after_wait_pulse a reply)
after_wait_pulse_ends a reply = either_ends class.System reply.stop _ _ tt (inl refl)

waits_ends : (a : State) → EndsIn class.System (waits a)
waits_ends a = either_ends class.System (has_pending a.csrs) _ _ (after_wait_pulse_ends a) (after_wait_ends a)

pub works_ends : (setup : Setup) (a : State) (word : ℕ) (o : Op) → EndsIn (class_of_op o) (works setup a word o)
works_ends setup a word (op.Lui rd imm) = inl refl
works_ends setup a word (op.Auipc rd imm) = inl refl
works_ends setup a word (op.AluImm does rd rs1 imm) = inl refl
works_ends setup a word (op.AluReg does rd rs1 rs2) = inl refl
works_ends setup a word (op.Muldiv does rd rs1 rs2) = inl refl
works_ends setup a word (op.Jal rd imm) = jumps_ends a _ rd
works_ends setup a word (op.Jalr rd rs1 imm) = jumps_ends a _ rd
works_ends setup a word (op.Branch compares rs1 rs2 imm) =
    branches_ends a (is_taken compares (reg a.x rs1) (reg a.x rs2)) (wrap (a.pc + imm))
works_ends setup a word (op.Load width signed rd rs1 imm) =
    let va = wrap (reg a.x rs1 + imm) in
    reaches_ends class.Load setup a kind.Load width va (loads_at setup width signed rd va) (λ leaves address.
    placed_ends class.Load (place_of setup.harts setup.ram address width) (record a { leaves = leaves }) load_access_fault va _ _ (λ reply. inl refl) (λ reply. inl refl))
works_ends setup a word (op.Store width rs1 rs2 imm) =
    let va = wrap (reg a.x rs1 + imm) in
    reaches_ends class.Store setup a kind.Store width va (stores_at setup width (reg a.x rs2) va) (λ leaves address.
    placed_ends class.Store (place_of setup.harts setup.ram address width) (record a { leaves = leaves }) store_access_fault va _ _ (λ reply. inl refl) (λ reply. inl refl))
works_ends setup a word (op.Lr width rd rs1 aq rl) =
    let va = reg a.x rs1 in
    reaches_ends class.Atomic setup a kind.Load width va (loads_reserved_at setup width rd va) (λ leaves address.
    in_ram_ends class.Atomic setup (record a { leaves = leaves }) kind.Load width va address _ (λ reply. inl refl))
works_ends setup a word (op.Sc width rd rs1 rs2 aq rl) =
    let va = reg a.x rs1 in
    reaches_ends class.Atomic setup a kind.Store width va (stores_conditional_at setup width rd (reg a.x rs2) va) (λ leaves address.
    in_ram_ends class.Atomic setup (record a { leaves = leaves }) kind.Store width va address _
    (either_ends class.Atomic (is_reserved a.reservation (reservation_set address)) _ _ (λ reply. inl refl) (inl refl)))
works_ends setup a word (op.Amo does width rd rs1 rs2 aq rl) =
    let va = reg a.x rs1 in
    reaches_ends class.Atomic setup a kind.Store width va (modifies_at setup does width rd (reg a.x rs2) va) (λ leaves address.
    in_ram_ends class.Atomic setup (record a { leaves = leaves }) kind.Store width va address _ (λ reply. inl refl))
works_ends setup a word (op.Fence free) = inl refl
works_ends setup a word (op.FenceI free) = inl refl
works_ends setup a word (op.Csr does rd rs1 number) = uses_csr_ends a word does rd rs1 number
works_ends setup a word op.Ecall = inr refl
works_ends setup a word op.Ebreak = inr refl
works_ends setup a word op.Mret = either_ends class.System (is_machine a.mode) _ _ (inl refl) (inr refl)
works_ends setup a word op.Sret = either_ends class.System (supervises TSR a.csrs a.mode) _ _ (inl refl) (inr refl)
works_ends setup a word op.Wfi = either_ends class.System (supervises TW a.csrs a.mode) _ _ (waits_ends a) (inr refl)
works_ends setup a word (op.SfenceVma rs1 rs2) = either_ends class.System (supervises TVM a.csrs a.mode) _ _ (inl refl) (inr refl)
works_ends setup a word (op.Illegal whole) = inr refl
