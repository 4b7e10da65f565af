-- An instruction makes few events, parks its hart by a wait alone, and leaves it over by a reply with the stop alone.
use Rattle.std.proofs.Common.{◌≡◌, ℕ, ◌+◌, zero, suc, Bool, true, false, if◌then◌else◌, ◌==◌, List, Option, None, Some, refl, ap}
use Rattle.flex_base.specs.Setup.{Setup}
use Rattle.flex_base.specs.State.{State, reg}
use Rattle.flex_base.specs.Place.{in_ram, place_of}
use Rattle.flex_base.specs.Word.{wrap, is_multiple}
use Rattle.flex_base.specs.Causes.{instruction_address_misaligned, instruction_access_fault, load_access_fault, store_access_fault, misaligned, access_fault}
use Rattle.flex_base.specs.Decoding.{decoded}
use Rattle.flex_base.specs.FlatMemory.{is_reserved, reservation_set}
use Rattle.flex_base.specs.StoryTree.{Story, Says, Closes, StaysOver, Parks}
use Rattle.flex_base.specs.Parked.{Node, Busy, Parked, Gone, node_of, told_node, next_node}
use Rattle.flex_base.specs.Ends.{ends, traps, traps_illegal, returns, jumps, computes}
use Rattle.flex_base.specs.Translating.{translates}
use Rattle.flex_base.specs.Story.{pulses, after_pulse, begins, interrupted_by, fetches, fetches_at, works, branches, is_taken, supervises, is_machine, closes_csr, updates_csr, asks_csr, uses_csr, fences_memory, has_pending, ends_wait, waits, at_place, reaches, in_ram_at, loads_at, stores_at, loads_reserved_at, stores_conditional_at, modifies_at, is_tick}
use Rattle.flex_base.specs.Csrs.{TVM, TW, TSR}
use Rattle.flex_base.specs.Traps.{mret, sret, takeable}
use Rattle.flex_base.specs.Zicsr.{CSR_TIME, reads_csr, writes_csr, csr_operand, csr_result, may_use_csr, is_pending_csr, csr_value}
use Rattle.flex_base.specs.declared.access.Access.{Access}
use Rattle.flex_base.specs.declared.access.Access.TheVariants as acc
use Rattle.flex_base.specs.declared.access.Reply.{Reply}
use Rattle.flex_base.specs.declared.class.Class.TheVariants as class
use Rattle.flex_base.specs.declared.operation.CsrOp.{CsrOp}
use Rattle.flex_base.specs.declared.operation.Op.{Op}
use Rattle.flex_base.specs.declared.operation.Op.TheVariants as op
use Rattle.flex_base.specs.declared.settings.Place.{Place}
use Rattle.flex_base.specs.declared.settings.Place.TheVariants as place
use Rattle.flex_base.specs.declared.translation.Kind.{Kind}
use Rattle.flex_base.specs.declared.translation.Kind.TheVariants as kind
use Rattle.flex_base.specs.declared.translation.Leaf.{Leaf}
use Rattle.flex_base.proofs.Stories.{goes_on}
use Rattle.flex_base.proofs.Translating.{more, PassesWalks, translates_has}

-- the reply as it comes to a hart that runs: the devices tell such a hart's pulse 0
abbrev pub IsTold : Access → Reply → Type 0
IsTold (acc.Pulse tick) reply = reply.value ≡ 0
IsTold other reply = Unit {0}

-- a write of a device register stands directly before the end
abbrev pub EndsAfter : Access → Story → Type 0
EndsAfter (acc.DevWrite address width value) (Closes part after) = Unit {0}
EndsAfter (acc.DevWrite address width value) other = ⊥
EndsAfter other s = Unit {0}

-- from here on, where the hart is at this node, come at most so many events, the last of which counts one more end than these.
-- Each reply leads to where the access and the reply say that it leaves the hart
abbrev pub LeadsAs : Node → ℕ → ℕ → Story → Type 0
LeadsAs Busy (suc n) ends (Says access next) =
    (reply : Reply) → IsTold access reply → EndsAfter access (next reply) × LeadsAs (next_node access reply) n ends (next reply)
LeadsAs Busy (suc n) ends (Closes part after) = after.ends ≡ ends + 1
LeadsAs Parked (suc n) ends (Parks wakes) = (lines : ℕ) → LeadsAs Busy n ends (wakes lines)
LeadsAs Gone n ends StaysOver = Unit {0}
LeadsAs node n ends s = ⊥

-- of a hart that goes on by itself
abbrev pub Leads : ℕ → ℕ → Story → Type 0
Leads n ends s = LeadsAs Busy n ends s

either_leads : (n ends : ℕ) (b : Bool) (s t : Story) → Leads n ends s → Leads n ends t → Leads n ends (if b then s else t)
either_leads n ends true s t first second = first
either_leads n ends false s t first second = second

at_place_leads : (n ends : ℕ) (p : Place) (access device fault : Story) → Leads n ends access → Leads n ends device → Leads n ends fault
    → Leads n ends (at_place p access device fault)
at_place_leads n ends place.Ram access device fault first second third = first
at_place_leads n ends place.Device access device fault first second third = second
at_place_leads n ends place.Nowhere access device fault first second third = third

-- what leads to an end by so many events leads to it by one more
leads_more : (node : Node) (n ends : ℕ) (s : Story) → LeadsAs node n ends s → LeadsAs node (suc n) ends s
leads_more Busy zero ends s leads = absurd leads
leads_more Busy (suc n) ends (Says access next) leads =
    λ reply told. ((leads reply told).0, leads_more (next_node access reply) n ends (next reply) (leads reply told).1)
leads_more Busy (suc n) ends (Closes part after) leads = leads
leads_more Busy (suc n) ends StaysOver leads = absurd leads
leads_more Busy (suc n) ends (Parks wakes) leads = absurd leads
leads_more Parked zero ends s leads = absurd leads
leads_more Parked (suc n) ends (Parks wakes) leads = λ lines. leads_more Busy n ends (wakes lines) (leads lines)
leads_more Parked (suc n) ends (Says access next) leads = absurd leads
leads_more Parked (suc n) ends (Closes part after) leads = absurd leads
leads_more Parked (suc n) ends StaysOver leads = absurd leads
leads_more Gone n ends StaysOver leads = tt
leads_more Gone n ends (Says access next) leads = absurd leads
leads_more Gone n ends (Closes part after) leads = absurd leads
leads_more Gone n ends (Parks wakes) leads = absurd leads

-- the story is at that node
pub leads_node : (node : Node) (n ends : ℕ) (s : Story) → LeadsAs node n ends s → node_of s ≡ node
leads_node Busy zero ends s leads = absurd leads
leads_node Busy (suc n) ends (Says access next) leads = refl
leads_node Busy (suc n) ends (Closes part after) leads = refl
leads_node Busy (suc n) ends StaysOver leads = absurd leads
leads_node Busy (suc n) ends (Parks wakes) leads = absurd leads
leads_node Parked zero ends s leads = absurd leads
leads_node Parked (suc n) ends (Parks wakes) leads = refl
leads_node Parked (suc n) ends (Says access next) leads = absurd leads
leads_node Parked (suc n) ends (Closes part after) leads = absurd leads
leads_node Parked (suc n) ends StaysOver leads = absurd leads
leads_node Gone n ends StaysOver leads = refl
leads_node Gone n ends (Says access next) leads = absurd leads
leads_node Gone n ends (Closes part after) leads = absurd leads
leads_node Gone n ends (Parks wakes) leads = absurd leads

-- What follows a reply that may tell the stop.

told_by : (n ends : ℕ) (stop one : Bool) (parked s : Story) → LeadsAs Parked n ends parked → Leads n ends s
    → LeadsAs (if stop then Gone else (if one then Parked else Busy)) n ends (if stop then StaysOver else (if one then parked else s))
told_by n ends true one parked s first second = tt
told_by n ends false true parked s first second = first
told_by n ends false false parked s first second = second

told_leads : (n ends : ℕ) (reply : Reply) (parked s : Story) → LeadsAs Parked n ends parked → Leads n ends s
    → LeadsAs (told_node reply) n ends (if reply.stop then StaysOver else (if reply.value == 1 then parked else s))
told_leads n ends reply parked s first second = told_by n ends reply.stop (reply.value == 1) parked s first second

pulse_by : (n ends : ℕ) (stop one : Bool) (s : Story) → one ≡ false → Leads n ends s
    → LeadsAs (if stop then Gone else (if one then Parked else Busy)) n ends (if stop then StaysOver else s)
pulse_by n ends true one s told leads = tt
pulse_by n ends false true s told leads = absurd cc
pulse_by n ends false false s told leads = leads

pulse_leads : (n ends : ℕ) (reply : Reply) (s : Story) → reply.value ≡ 0 → Leads n ends s
    → LeadsAs (told_node reply) n ends (if reply.stop then StaysOver else s)
pulse_leads n ends reply s told leads = pulse_by n ends reply.stop (reply.value == 1) s (ap (λ v. v == 1) told) leads

leads_passes : (a : State) (va : ℕ) → PassesWalks a va (λ n s. Leads n a.ends s)
leads_passes a va = record {
  more = λ n s leads. leads_more Busy n a.ends s leads;
  reads = λ n address onward leads reply told. (tt, leads reply);
  faults = λ n cause. refl;
}

-- so does a translation before what leads to an end
translates_leads : (ram : ℕ) (a : State) (k : Kind) (va n : ℕ) (next : State → ℕ → Story)
    → ((leaves : List Leaf) (address : ℕ) → Leads (suc n) a.ends (next (record a { leaves = leaves }) address))
    → Leads (more 3 (suc n)) a.ends (translates ram a k va next)
translates_leads ram a k va n next leads = translates_has ram a k va next (λ m s. Leads m a.ends s) (leads_passes a va) n leads

reaches_leads : (setup : Setup) (a : State) (k : Kind) (n width va : ℕ) (access : State → ℕ → Story)
    → ((leaves : List Leaf) (address : ℕ) → Leads (suc n) a.ends (access (record a { leaves = leaves }) address))
    → Leads (more 3 (suc n)) a.ends (reaches setup a k width va access)
reaches_leads setup a k n width va access leads =
    either_leads (more 3 (suc n)) a.ends (is_multiple va width) _ (traps a (misaligned k) va) (translates_leads setup.ram a k va n access leads) refl

in_ram_leads : (setup : Setup) (a : State) (k : Kind) (n width va address : ℕ) (access : Story) → Leads (suc n) a.ends access
    → Leads (suc n) a.ends (in_ram_at setup a k width va address access)
in_ram_leads setup a k n width va address access leads =
    either_leads (suc n) a.ends (in_ram setup.ram address width) access (traps a (access_fault k) va) leads refl

loads_at_leads : (setup : Setup) (a : State) (n width : ℕ) (signed : Bool) (rd va address : ℕ)
    → Leads (suc (suc n)) a.ends (loads_at setup width signed rd va a address)
loads_at_leads setup a n width signed rd va address =
    at_place_leads (suc (suc n)) a.ends (place_of setup.harts setup.ram address width) _ _ (traps a load_access_fault va)
    (λ reply told. (tt, refl)) (λ reply told. (tt, refl)) refl

stores_at_leads : (setup : Setup) (a : State) (n width value va address : ℕ)
    → Leads (suc (suc n)) a.ends (stores_at setup width value va a address)
stores_at_leads setup a n width value va address =
    at_place_leads (suc (suc n)) a.ends (place_of setup.harts setup.ram address width) _ _ (traps a store_access_fault va)
    (λ reply told. (tt, refl)) (λ reply told. (tt, refl)) refl

conditional_leads : (setup : Setup) (a : State) (n width rd value va address : ℕ)
    → Leads (suc (suc n)) a.ends (stores_conditional_at setup width rd value va a address)
conditional_leads setup a n width rd value va address =
    in_ram_leads setup a kind.Store (suc n) width va address _
    (either_leads (suc (suc n)) a.ends (is_reserved a.reservation (reservation_set address)) _ _ (λ reply told. (tt, refl)) refl)

jumps_leads : (a : State) (n target rd : ℕ) → Leads (suc n) a.ends (jumps a target rd)
jumps_leads a n target rd =
    either_leads (suc n) a.ends (is_multiple target 4) (ends a class.Jump target rd (wrap (a.pc + 4))) (traps a instruction_address_misaligned target) refl refl

branches_leads : (a : State) (n : ℕ) (taken : Bool) (target : ℕ) → Leads (suc n) a.ends (branches a taken target)
branches_leads a n taken target = either_leads (suc n) a.ends taken _ _ (jumps_leads a n target 0) refl

updates_csr_leads : (a : State) (n : ℕ) (does : CsrOp) (rd rs1 number old : ℕ) → Leads (suc n) a.ends (updates_csr a does rd rs1 number old)
updates_csr_leads a n does rd rs1 number old =
    either_leads (suc n) a.ends (writes_csr does rs1) (closes_csr a number rd old (csr_result does old (csr_operand does a.x rs1)))
    (computes a class.Csr rd old) refl refl

asks_csr_leads : (a : State) (n : ℕ) (does : CsrOp) (rd rs1 number : ℕ) → Leads (suc (suc n)) a.ends (asks_csr a does rd rs1 number)
asks_csr_leads a n does rd rs1 number =
    either_leads (suc (suc n)) a.ends (is_pending_csr number) _ _
    (λ reply told. (
      tt,
      pulse_leads (suc n) a.ends reply _ told
          (updates_csr_leads (record a { lines = reply.lines }) n does rd rs1 number (csr_value a number reply.lines 0)),
    ))
    (either_leads (suc (suc n)) a.ends (number == CSR_TIME) _ _
    (λ reply told. (tt, updates_csr_leads a n does rd rs1 number (csr_value a number 0 reply.value)))
    (updates_csr_leads a (suc n) does rd rs1 number (csr_value a number 0 0)))

uses_csr_leads : (a : State) (n word : ℕ) (does : CsrOp) (rd rs1 number : ℕ) → Leads (suc (suc n)) a.ends (uses_csr a word does rd rs1 number)
uses_csr_leads a n word does rd rs1 number =
    either_leads (suc (suc n)) a.ends (may_use_csr a does rd rs1 number) _ (traps_illegal a word)
    (either_leads (suc (suc n)) a.ends (reads_csr does rd) _ _ (asks_csr_leads a n does rd rs1 number) (updates_csr_leads a (suc n) does rd rs1 number 0))
    refl

-- WFI makes a wait and a pulse before its end
waits_leads : (a : State) (n : ℕ) → Leads (more 3 n) a.ends (waits a)
waits_leads a n =
    either_leads (more 3 n) a.ends (has_pending a.csrs) _ _
    (λ reply told. (tt, pulse_leads (more 2 n) a.ends reply (ends_wait a reply.lines) told refl))
    (λ reply told. (tt, told_leads (more 2 n) a.ends reply (Parks (ends_wait a)) (ends_wait a reply.lines) (λ lines. refl) refl))

-- an instruction makes at most three reads of a walk and one access before its end
works_leads : (setup : Setup) (a : State) (n word : ℕ) (o : Op) → Leads (more 5 n) a.ends (works setup a word o)
works_leads setup a n word (op.Lui rd imm) = refl
works_leads setup a n word (op.Auipc rd imm) = refl
works_leads setup a n word (op.AluImm does rd rs1 imm) = refl
works_leads setup a n word (op.AluReg does rd rs1 rs2) = refl
works_leads setup a n word (op.Muldiv does rd rs1 rs2) = refl
works_leads setup a n word (op.Jal rd imm) = jumps_leads a (more 4 n) _ rd
works_leads setup a n word (op.Jalr rd rs1 imm) = jumps_leads a (more 4 n) _ rd
works_leads setup a n word (op.Branch compares rs1 rs2 imm) = branches_leads a (more 4 n) (is_taken compares (reg a.x rs1) (reg a.x rs2)) (wrap (a.pc + imm))
works_leads setup a n word (op.Load width signed rd rs1 imm) =
    let va = wrap (reg a.x rs1 + imm) in
    reaches_leads setup a kind.Load (suc n) width va (loads_at setup width signed rd va)
    (λ leaves address. loads_at_leads setup (record a { leaves = leaves }) n width signed rd va address)
works_leads setup a n word (op.Store width rs1 rs2 imm) =
    let va = wrap (reg a.x rs1 + imm) in
    reaches_leads setup a kind.Store (suc n) width va (stores_at setup width (reg a.x rs2) va)
    (λ leaves address. stores_at_leads setup (record a { leaves = leaves }) n width (reg a.x rs2) va address)
works_leads setup a n word (op.Lr width rd rs1 aq rl) =
    let va = reg a.x rs1 in
    reaches_leads setup a kind.Load (suc n) width va (loads_reserved_at setup width rd va)
    (λ leaves address. in_ram_leads setup (record a { leaves = leaves }) kind.Load (suc n) width va address _ (λ reply told. (tt, refl)))
works_leads setup a n word (op.Sc width rd rs1 rs2 aq rl) =
    let va = reg a.x rs1 in
    reaches_leads setup a kind.Store (suc n) width va (stores_conditional_at setup width rd (reg a.x rs2) va)
    (λ leaves address. conditional_leads setup (record a { leaves = leaves }) n width rd (reg a.x rs2) va address)
works_leads setup a n word (op.Amo does width rd rs1 rs2 aq rl) =
    let va = reg a.x rs1 in
    reaches_leads setup a kind.Store (suc n) width va (modifies_at setup does width rd (reg a.x rs2) va)
    (λ leaves address. in_ram_leads setup (record a { leaves = leaves }) kind.Store (suc n) width va address _ (λ reply told. (tt, refl)))
works_leads setup a n word (op.Fence free) = refl
works_leads setup a n word (op.FenceI free) = refl
works_leads setup a n word (op.Csr does rd rs1 number) = uses_csr_leads a (more 3 n) word does rd rs1 number
works_leads setup a n word op.Ecall = refl
works_leads setup a n word op.Ebreak = refl
works_leads setup a n word op.Mret = either_leads (more 5 n) a.ends (is_machine a.mode) (returns a (mret a.csrs)) (traps_illegal a word) refl refl
works_leads setup a n word op.Sret = either_leads (more 5 n) a.ends (supervises TSR a.csrs a.mode) (returns a (sret a.csrs)) (traps_illegal a word) refl refl
works_leads setup a n word op.Wfi = either_leads (more 5 n) a.ends (supervises TW a.csrs a.mode) (waits a) (traps_illegal a word) (waits_leads a (more 2 n)) refl
works_leads setup a n word (op.SfenceVma rs1 rs2) = either_leads (more 5 n) a.ends (supervises TVM a.csrs a.mode) (fences_memory a) (traps_illegal a word) refl refl
works_leads setup a n word (op.Illegal whole) = refl

fetches_at_leads : (setup : Setup) (a : State) (n address : ℕ) → Leads (more 6 n) a.ends (fetches_at setup a address)
fetches_at_leads setup a n address =
    either_leads (more 6 n) a.ends (in_ram setup.ram address 4) (goes_on setup a address) (traps a instruction_access_fault a.pc)
    (λ reply told. (tt, works_leads setup a n reply.value (decoded reply.value))) refl

fetches_leads : (setup : Setup) (a : State) (n : ℕ) → Leads (more 9 n) a.ends (fetches setup a)
fetches_leads setup a n =
    translates_leads setup.ram a kind.Fetch a.pc (more 5 n) (fetches_at setup)
    (λ leaves address. fetches_at_leads setup (record a { leaves = leaves }) n address)

interrupted_leads : (setup : Setup) (a : State) (n : ℕ) (by : Option ℕ) → Leads (more 9 n) a.ends (interrupted_by setup a by)
interrupted_leads setup a n None = fetches_leads setup a n
interrupted_leads setup a n (Some cause) = refl

begins_leads : (setup : Setup) (a : State) (n : ℕ) → Leads (more 9 n) a.ends (begins setup a)
begins_leads setup a n = interrupted_leads setup a n (takeable a.csrs a.lines a.mode)

pub pulses_leads : (setup : Setup) (a : State) → Leads 10 a.ends (pulses setup a)
pulses_leads setup a = either_leads 10 a.ends a.due (Says (acc.Pulse (is_tick a)) (after_pulse setup a)) (begins setup a)
    (λ reply told. (tt, pulse_leads 9 a.ends reply _ told (begins_leads setup (record a { lines = reply.lines }) 0)))
    (begins_leads setup a 1)
