-- A store-conditional is asked only after a load-reserved of the same 8 bytes, whatever the order of the harts.
use Rattle.std.proofs.Common.{◌≡◌, ◌≢◌, ℕ, ◌+◌, ◌<◌, Bool, true, false, if◌then◌else◌, nat_lt, List, [], ◌∷◌, ◌==◌, fold, length, Option, None, Some, inl, inr, refl, ap, sym, subst, ◌∙◌, arith, eq-eqb}
use Rattle.std.proofs.lemmas.Bool.{cases_eq, cases_Bool, ne_eqb}
use Rattle.std.proofs.lemmas.Bool.Decides.{nat_tests}
use Rattle.std.proofs.lemmas.List.Sums.{fold_push}
use Rattle.flex_base.specs.Causes.{instruction_address_misaligned, instruction_access_fault, load_access_fault, store_access_fault, misaligned, access_fault}
use Rattle.flex_base.specs.Setup.{Setup}
use Rattle.flex_base.specs.State.{State, reg, start}
use Rattle.flex_base.specs.Place.{in_ram, place_of}
use Rattle.flex_base.specs.Word.{wrap, is_multiple}
use Rattle.flex_base.specs.Decoding.{decoded}
use Rattle.flex_base.specs.FlatMemory.{Done, reservation_set, is_reserved, is_ram_access}
use Rattle.flex_base.specs.StoryTree.{Want, Asks, Ends, IsOver, IsParked, Story, Says, Closes, StaysOver, Parks, goes, want, after_park}
use Rattle.flex_base.specs.Ends.{jumps, ends, computes, passes, traps, traps_illegal, returns, concludes}
use Rattle.flex_base.specs.Translating.{translates}
use Rattle.flex_base.specs.Story.{story, pulses, after_pulse, begins, interrupted_by, fetches, fetches_at, works, branches, is_taken, supervises, is_machine, closes_csr, updates_csr, asks_csr, uses_csr, fences_memory, at_place, has_pending, ends_wait, after_wait, waits, reaches, in_ram_at, loads_at, stores_at, loads_reserved_at, stores_conditional_at, modifies_at, is_tick}
use Rattle.flex_base.specs.Csrs.{TVM, TW, TSR}
use Rattle.flex_base.specs.Traps.{mret, sret, takeable}
use Rattle.flex_base.specs.Zicsr.{CSR_TIME, reads_csr, writes_csr, csr_operand, csr_result, may_use_csr, is_pending_csr, csr_value}
use Rattle.flex_base.specs.declared.class.Class.TheVariants as class
use Rattle.flex_base.specs.declared.operation.CsrOp.{CsrOp}
use Rattle.flex_base.specs.Unsplit.{Machine, story_of, want_of, next_of, is_woken_in, reply_to, begin, make, step, reach, reach_from, with_access}
use Rattle.flex_base.specs.Reservations.{reserving, own_after, own_reservation, IsOwn, accesses_in, AsksReserved}
use Rattle.flex_base.specs.declared.access.Access.{Access}
use Rattle.flex_base.specs.declared.access.Access.TheVariants as acc
use Rattle.flex_base.specs.declared.access.Reply.{Reply}
use Rattle.flex_base.specs.declared.event.EndPart.{EndPart}
use Rattle.flex_base.specs.declared.operation.Op.{Op}
use Rattle.flex_base.specs.declared.operation.Op.TheVariants as op
use Rattle.flex_base.specs.declared.settings.Place.{Place}
use Rattle.flex_base.specs.declared.settings.Place.TheVariants as place
use Rattle.flex_base.specs.declared.translation.Kind.{Kind}
use Rattle.flex_base.specs.declared.translation.Kind.TheVariants as kind
use Rattle.flex_base.specs.declared.translation.Leaf.{Leaf}
use Rattle.flex_base.proofs.Translating.{PassesWalks, translates_has}
use Rattle.flex_base.proofs.Machines.{instruction_at-begin, reach-cons, reach-none, next_asks, next_ends, next_woken, step_is, step_over, step_unwoken, instruction_after_end, instruction_at-other, story_after_access, story_after_park, place_in}
use Rattle.flex_base.proofs.Standing.{AllStand, all_step, all_begin}
use Rattle.flex_base.proofs.Stories.{retires, goes_on}

-- The story of an instruction.

abbrev pub AsksFrom : Option ℕ → Access → Type 0
AsksFrom own (acc.Sc address width value) = own ≡ Some (reservation_set address)
AsksFrom own other = Unit {0}

-- from here on a store-conditional is asked only within the hart's own reservation, which is this one so far, and an end
-- leaves no other one
abbrev pub Reserves : Option ℕ → Story → Type 0
Reserves own (Says access next) = AsksFrom own access × ((reply : Reply) → Reserves (reserving own access) (next reply))
Reserves own (Closes part after) = IsOwn own after.reservation
Reserves own StaysOver = Unit {0}
Reserves own (Parks wakes) = (lines : ℕ) → Reserves own (wakes lines)

either : (own : Option ℕ) (b : Bool) (s t : Story) → Reserves own s → Reserves own t → Reserves own (if b then s else t)
either own true s t first second = first
either own false s t first second = second

at_place_reserves : (own : Option ℕ) (p : Place) (access device fault : Story) → Reserves own access → Reserves own device → Reserves own fault
    → Reserves own (at_place p access device fault)
at_place_reserves own place.Ram access device fault first second third = first
at_place_reserves own place.Device access device fault first second third = second
at_place_reserves own place.Nowhere access device fault first second third = third

-- no reservation is anybody's
none_own : (own : Option ℕ) → IsOwn own None
none_own own = λ set e. absurd cc

-- what is reserved is the set
reserved_is : (own : Option ℕ) (set : ℕ) → is_reserved own set ≡ true → own ≡ Some set
reserved_is None set e = absurd cc
reserved_is (Some other) set e = let same : other ≡ set = grind (arith, nat_tests, e) in ap Some same

module _ (setup : Setup) (own : Option ℕ) (a : State) (held : IsOwn own a.reservation) where
  reserves_passes : (va : ℕ) → PassesWalks a va (λ n s. Reserves own s)
  reserves_passes va = record { more = λ n s reserves. reserves; reads = λ n address onward reserves. (tt, reserves); faults = λ n cause. held }

  translates_reserves : (k : Kind) (va : ℕ) (next : State → ℕ → Story)
      → ((leaves : List Leaf) (address : ℕ) → Reserves own (next (record a { leaves = leaves }) address))
      → Reserves own (translates setup.ram a k va next)
  translates_reserves k va next reserves = translates_has setup.ram a k va next (λ n s. Reserves own s) (reserves_passes va) 0 reserves

  reaches_reserves : (k : Kind) (width va : ℕ) (access : State → ℕ → Story)
      → ((leaves : List Leaf) (address : ℕ) → Reserves own (access (record a { leaves = leaves }) address))
      → Reserves own (reaches setup a k width va access)
  reaches_reserves k width va access reserves =
      either own (is_multiple va width) _ (traps a (misaligned k) va) (translates_reserves k va access reserves) held

  placed_reserves : (p : Place) (leaves : List Leaf) (cause va : ℕ) (access device : Story) → Reserves own access → Reserves own device
      → Reserves own (at_place p access device (traps (record a { leaves = leaves }) cause va))
  placed_reserves p leaves cause va access device first second =
      at_place_reserves own p access device (traps (record a { leaves = leaves }) cause va) first second held

  in_ram_reserves : (k : Kind) (leaves : List Leaf) (width va address : ℕ) (access : Story) → Reserves own access
      → Reserves own (in_ram_at setup (record a { leaves = leaves }) k width va address access)
  in_ram_reserves k leaves width va address access reserves =
      either own (in_ram setup.ram address width) access (traps (record a { leaves = leaves }) (access_fault k) va) reserves held

  jumps_reserves : (target rd : ℕ) → Reserves own (jumps a target rd)
  jumps_reserves target rd = either own (is_multiple target 4) (ends a class.Jump target rd (wrap (a.pc + 4)))
      (traps a instruction_address_misaligned target) held held

  branches_reserves : (taken : Bool) (target : ℕ) → Reserves own (branches a taken target)
  branches_reserves taken target = either own taken _ (passes a class.Jump) (jumps_reserves target 0) held

  conditional : (leaves : List Leaf) (rd address width value : ℕ) (b : Bool) → is_reserved a.reservation (reservation_set address) ≡ b
      → Reserves own (if b then Says (acc.Sc address width value) (λ reply. concludes (record a { leaves = leaves }) rd reply.value)
      else concludes (record a { leaves = leaves }) rd 1)
  conditional leaves rd address width value true e =
      (held (reservation_set address) (reserved_is a.reservation (reservation_set address) e), λ reply. none_own _)
  conditional leaves rd address width value false e = none_own own

  -- whatever interrupt lines it has by then
  updates_csr_reserves : (lines : ℕ) (does : CsrOp) (rd rs1 number old : ℕ)
      → Reserves own (updates_csr (record a { lines = lines }) does rd rs1 number old)
  updates_csr_reserves lines does rd rs1 number old =
      let b : State = record a { lines = lines } in
      either own (writes_csr does rs1) (closes_csr b number rd old (csr_result does old (csr_operand does a.x rs1)))
      (computes b class.Csr rd old) held held

  asks_csr_reserves : (does : CsrOp) (rd rs1 number : ℕ) → Reserves own (asks_csr a does rd rs1 number)
  asks_csr_reserves does rd rs1 number =
      either own (is_pending_csr number) _ _ (
        tt,
        λ reply. either own reply.stop StaysOver _ tt
            (updates_csr_reserves reply.lines does rd rs1 number (csr_value a number reply.lines 0)),
      )
      (either own (number == CSR_TIME) _ _
      (tt, λ reply. updates_csr_reserves a.lines does rd rs1 number (csr_value a number 0 reply.value))
      (updates_csr_reserves a.lines does rd rs1 number (csr_value a number 0 0)))

  uses_csr_reserves : (word : ℕ) (does : CsrOp) (rd rs1 number : ℕ) → Reserves own (uses_csr a word does rd rs1 number)
  uses_csr_reserves word does rd rs1 number =
      either own (may_use_csr a does rd rs1 number) _ (traps_illegal a word)
      (either own (reads_csr does rd) _ _ (asks_csr_reserves does rd rs1 number)
      (updates_csr_reserves a.lines does rd rs1 number 0)) held

  after_wait_reserves : (reply : Reply) → Reserves own (after_wait a reply)
  after_wait_reserves reply =
      either own reply.stop StaysOver _ tt
      (either own (reply.value == 1) (Parks (ends_wait a)) (ends_wait a reply.lines) (λ lines. held) held)

  waits_reserves : Reserves own (waits a)
  waits_reserves =
      either own (has_pending a.csrs) _ _
      (tt, λ reply. either own reply.stop StaysOver (ends_wait a reply.lines) tt held) (tt, after_wait_reserves)

  works_reserves : (word : ℕ) (o : Op) → Reserves own (works setup a word o)
  works_reserves word (op.Lui rd imm) = held
  works_reserves word (op.Auipc rd imm) = held
  works_reserves word (op.AluImm does rd rs1 imm) = held
  works_reserves word (op.AluReg does rd rs1 rs2) = held
  works_reserves word (op.Muldiv does rd rs1 rs2) = held
  works_reserves word (op.Jal rd imm) = jumps_reserves _ rd
  works_reserves word (op.Jalr rd rs1 imm) = jumps_reserves _ rd
  works_reserves word (op.Branch compares rs1 rs2 imm) =
      branches_reserves (is_taken compares (reg a.x rs1) (reg a.x rs2)) (wrap (a.pc + imm))
  works_reserves word (op.Load width signed rd rs1 imm) =
      let va = wrap (reg a.x rs1 + imm) in
      reaches_reserves kind.Load width va (loads_at setup width signed rd va) (λ leaves address.
      placed_reserves (place_of setup.harts setup.ram address width) leaves load_access_fault va _ _ (tt, λ reply. held) (tt, λ reply. held))
  works_reserves word (op.Store width rs1 rs2 imm) =
      let va = wrap (reg a.x rs1 + imm) in
      reaches_reserves kind.Store width va (stores_at setup width (reg a.x rs2) va) (λ leaves address.
      placed_reserves (place_of setup.harts setup.ram address width) leaves store_access_fault va _ _ (tt, λ reply. held) (tt, λ reply. held))
  works_reserves word (op.Lr width rd rs1 aq rl) =
      let va = reg a.x rs1 in
      reaches_reserves kind.Load width va (loads_reserved_at setup width rd va) (λ leaves address.
      in_ram_reserves kind.Load leaves width va address _ (tt, λ reply set e. e))
  works_reserves word (op.Sc width rd rs1 rs2 aq rl) =
      let va = reg a.x rs1 in
      reaches_reserves kind.Store width va (stores_conditional_at setup width rd (reg a.x rs2) va) (λ leaves address.
      in_ram_reserves kind.Store leaves width va address _
      (conditional leaves rd address width _ (is_reserved a.reservation (reservation_set address)) refl))
  works_reserves word (op.Amo does width rd rs1 rs2 aq rl) =
      let va = reg a.x rs1 in
      reaches_reserves kind.Store width va (modifies_at setup does width rd (reg a.x rs2) va) (λ leaves address.
      in_ram_reserves kind.Store leaves width va address _ (tt, λ reply. held))
  works_reserves word (op.Fence free) = held
  works_reserves word (op.FenceI free) = held
  works_reserves word (op.Csr does rd rs1 number) = uses_csr_reserves word does rd rs1 number
  works_reserves word op.Ecall = held
  works_reserves word op.Ebreak = held
  works_reserves word op.Mret =
      either own (is_machine a.mode) (returns a (mret a.csrs)) (traps_illegal a word) held held
  works_reserves word op.Sret =
      either own (supervises TSR a.csrs a.mode) (returns a (sret a.csrs)) (traps_illegal a word) held held
  works_reserves word op.Wfi = either own (supervises TW a.csrs a.mode) (waits a) (traps_illegal a word) waits_reserves held
  works_reserves word (op.SfenceVma rs1 rs2) =
      either own (supervises TVM a.csrs a.mode) (fences_memory a) (traps_illegal a word) held held
  works_reserves word (op.Illegal whole) = held

fetches_at_reserves : (setup : Setup) (own : Option ℕ) (a : State) → IsOwn own a.reservation → (address : ℕ) → Reserves own (fetches_at setup a address)
fetches_at_reserves setup own a held address =
    either own (in_ram setup.ram address 4) (goes_on setup a address) (traps a instruction_access_fault a.pc)
    (tt, λ reply. works_reserves setup own a held reply.value (decoded reply.value)) held

module _ (setup : Setup) (own : Option ℕ) (a : State) (held : IsOwn own a.reservation) where
  fetches_reserves : Reserves own (fetches setup a)
  fetches_reserves = translates_reserves setup own a held kind.Fetch a.pc (fetches_at setup)
      (λ leaves address. fetches_at_reserves setup own (record a { leaves = leaves }) held address)

  interrupted_reserves : (by : Option ℕ) → Reserves own (interrupted_by setup a by)
  interrupted_reserves None = fetches_reserves
  interrupted_reserves (Some cause) = held

  begins_reserves : Reserves own (begins setup a)
  begins_reserves = interrupted_reserves (takeable a.csrs a.lines a.mode)

pulses_reserves : (setup : Setup) (own : Option ℕ) (a : State) → IsOwn own a.reservation → Reserves own (pulses setup a)
pulses_reserves setup own a held =
    either own a.due (Says (acc.Pulse (is_tick a)) (after_pulse setup a)) (begins setup a)
    (tt, λ reply. either own reply.stop StaysOver _ tt (begins_reserves setup own (record a { lines = reply.lines }) held))
    (begins_reserves setup own a held)

pub story_reserves : (setup : Setup) (own : Option ℕ) (a : State) → IsOwn own a.reservation → Reserves own (story setup a)
story_reserves setup own a held =
    either own (a.ends == setup.budget) retires (pulses setup a) (tt, λ reply. tt) (pulses_reserves setup own a held)

-- where the pulse of a parked hart leads
park_reserves : (own : Option ℕ) (wakes : ℕ → Story) (reply : Reply) → ((lines : ℕ) → Reserves own (wakes lines)) → Reserves own (after_park wakes reply)
park_reserves own wakes reply reserves =
    either own reply.stop StaysOver _ tt (either own (reply.value == 1) (Parks wakes) (wakes reply.lines) reserves (reserves reply.lines))

-- at the end of an instruction the hart's reservation is what its own accesses lead to, or none
pub ends_own : (own : Option ℕ) (s : Story) (replies : List Reply) (part : EndPart) (after : State) → Reserves own s
    → want (goes s replies) ≡ Ends part after → IsOwn (fold reserving own (accesses_in s replies)) after.reservation
ends_own own (Says access next) [] part after reserves ends = absurd cc
ends_own own (Closes made left) [] part after reserves ends =
    let same : left ≡ after = cc in
    let At : State → Type 0 = λ a. IsOwn own a.reservation in
    subst At same reserves
ends_own own StaysOver [] part after reserves ends = absurd cc
ends_own own (Parks wakes) [] part after reserves ends = absurd cc
ends_own own (Says access next) (reply ∷ replies) part after reserves ends =
    ends_own (reserving own access) (next reply) replies part after (reserves.1 reply) ends
ends_own own (Closes made left) (reply ∷ replies) part after reserves ends = ends_own own (Closes made left) replies part after reserves ends
ends_own own StaysOver (reply ∷ replies) part after reserves ends = ends_own own StaysOver replies part after reserves ends
ends_own own (Parks wakes) (reply ∷ replies) part after reserves ends =
    ends_own own (after_park wakes reply) replies part after (park_reserves own wakes reply reserves) ends

-- All harts, along an order.

-- each hart is where its own reservation leads
abbrev AllReserve : Setup → Machine → Type 0
AllReserve setup u = (h : ℕ) → h < setup.harts → Reserves (own_reservation u.ram h) (story_of setup u h)

own_push : (made : List Done) (h k : ℕ) (access : Access) (reply : Reply)
    → own_reservation (with_access made k access reply) h ≡ own_after h (own_reservation made h) k access
own_push made h k access reply = fold_push (λ old (d : Done). own_after h old d.hart d.access) None made _

own_same : (h : ℕ) (own : Option ℕ) (access : Access) → own_after h own h access ≡ reserving own access
own_same h own access = ap (λ b. if b then reserving own access else own) (eq-eqb h h refl)

-- another hart's access, and one of no RAM, leave it
own_other : (h k : ℕ) (own : Option ℕ) (access : Access) → h ≢ k → own_after h own k access ≡ own
own_other h k own access other = ap (λ b. if b then reserving own access else own) (ne_eqb h k other)

no_ram : (own : Option ℕ) (access : Access) → is_ram_access access ≡ false → reserving own access ≡ own
no_ram own (acc.Lr address width) e = absurd cc
no_ram own (acc.Sc address width value) e = absurd cc
no_ram own other e = refl

own_elsewhere : (h k : ℕ) (own : Option ℕ) (access : Access) → is_ram_access access ≡ false → own_after h own k access ≡ own
own_elsewhere h k own access e = elim (h == k) as (λ b. (if b then reserving own access else own) ≡ own)
    [ true ↦ no_ram own access e | false ↦ refl ]

own_made : (made : List Done) (h k : ℕ) (access : Access) (reply : Reply) (b : Bool) → is_ram_access access ≡ b
    → own_reservation (if b then with_access made k access reply else made) h ≡ own_after h (own_reservation made h) k access
own_made made h k access reply true e = own_push made h k access reply
own_made made h k access reply false e = sym (own_elsewhere h k (own_reservation made h) access e)

-- a step of another hart
other_ram : (setup : Setup) (u : Machine) (h k : ℕ) (w : Want) → h ≢ k → own_reservation (make setup u k w).ram h ≡ own_reservation u.ram h
other_ram setup u h k (Asks access) other =
    own_made u.ram h k access (reply_to setup u k access) (is_ram_access access) refl ∙ own_other h k (own_reservation u.ram h) access other
other_ram setup u h k (Ends part after) other = refl
other_ram setup u h k IsOver other = refl
other_ram setup u h k IsParked other = refl

other_step : (setup : Setup) (u : Machine) (h k : ℕ) → h ≢ k → own_reservation (step setup u k).ram h ≡ own_reservation u.ram h
other_step setup u h k other =
    elim (nat_lt k setup.harts) as (λ b. own_reservation (if b then make setup u k (next_of setup u k) else u).ram h ≡ own_reservation u.ram h)
    [ true ↦ other_ram setup u h k (next_of setup u k) other | false ↦ refl ]

-- where a hart is, by its own reservation and its story
reserves_at : (setup : Setup) (u : Machine) (h : ℕ) (own : Option ℕ) (s : Story) → own_reservation u.ram h ≡ own → story_of setup u h ≡ s
    → Reserves own s → Reserves (own_reservation u.ram h) (story_of setup u h)
reserves_at setup u h own s same is reserves =
    let By : Option ℕ → Type 0 = λ o. Reserves o s in
    let In : Story → Type 0 = λ t. Reserves (own_reservation u.ram h) t in
    subst In (sym is) (subst By (sym same) reserves)

-- the hart's own step
own_step : (setup : Setup) (u : Machine) (h : ℕ) (s : Story) → h < setup.harts → h < length u.harts → story_of setup u h ≡ s
    → Reserves (own_reservation u.ram h) s → Reserves (own_reservation (step setup u h).ram h) (story_of setup (step setup u h) h)
own_step setup u h (Says access next) below within says reserves =
    let reply = reply_to setup u h access in
    let own = own_reservation u.ram h in
    reserves_at setup (step setup u h) h (reserving own access) (next reply)
    (ap (λ (m : Machine). own_reservation m.ram h) (step_is setup u h (Asks access) below (next_asks setup u h access (ap want says)))
    ∙ (own_made u.ram h h access reply (is_ram_access access) refl ∙ own_same h own access))
    (story_after_access setup u h access next below within says)
    (reserves.1 reply)
own_step setup u h (Closes part after) below within closes reserves =
    let own = own_reservation u.ram h in
    reserves_at setup (step setup u h) h own (story setup after)
    (ap (λ (m : Machine). own_reservation m.ram h) (step_is setup u h (Ends part after) below (next_ends setup u h part after (ap want closes))))
    (ap (place_in setup) (instruction_after_end setup u h part after below within (ap want closes)))
    (story_reserves setup own after reserves)
own_step setup u h StaysOver below within over reserves =
    let still : u ≡ step setup u h = sym (step_over setup u h below (ap want over)) in
    let At : Machine → Type 0 = λ m. Reserves (own_reservation m.ram h) (story_of setup m h) in
    let In : Story → Type 0 = λ s. Reserves (own_reservation u.ram h) s in
    subst At still (subst In (sym over) reserves)
own_step setup u h (Parks wakes) below within parks reserves = elim (cases_Bool (is_woken_in setup u h)) [
  | inl woken ↦
      let reply = reply_to setup u h (acc.Pulse false) in
      let own = own_reservation u.ram h in
      reserves_at setup (step setup u h) h own (after_park wakes reply)
      (ap (λ (m : Machine). own_reservation m.ram h) (step_is setup u h (Asks (acc.Pulse false)) below (next_woken setup u h (ap want parks) woken)))
      (story_after_park setup u h wakes below within parks woken)
      (park_reserves own wakes reply reserves)
  | inr unwoken ↦
      let still : u ≡ step setup u h = sym (step_unwoken setup u h below (ap want parks) unwoken) in
      let At : Machine → Type 0 = λ m. Reserves (own_reservation m.ram h) (story_of setup m h) in
      let In : Story → Type 0 = λ s. Reserves (own_reservation u.ram h) s in
      subst At still (subst In (sym parks) reserves)
]

step_reserves : (setup : Setup) (u : Machine) (k : ℕ) → AllStand setup u → AllReserve setup u → AllReserve setup (step setup u k)
step_reserves setup u k stand all = λ h below. elim (cases_eq h k) [
  | inl same ↦
      let At : ℕ → Type 0 = λ j. Reserves (own_reservation (step setup u j).ram h) (story_of setup (step setup u j) h) in
      subst At same (own_step setup u h (story_of setup u h) below (omega (arith, below, stand.harts)) refl (all h below))
  | inr other ↦
      reserves_at setup (step setup u k) h (own_reservation u.ram h) (story_of setup u h) (other_step setup u h k other)
      (ap (place_in setup) (instruction_at-other setup u k h other)) (all h below)
]

begin_reserves : (setup : Setup) → AllReserve setup (begin setup)
begin_reserves setup = λ h below.
    reserves_at setup (begin setup) h None (story setup (start h setup.image.entry)) refl
    (ap (place_in setup) (instruction_at-begin setup h below)) (story_reserves setup None (start h setup.image.entry) (none_own None))

from_reserves : (setup : Setup) (u : Machine) (order : List ℕ) → AllStand setup u → AllReserve setup u → AllReserve setup (reach_from setup u order)
from_reserves setup u [] stand all =
    let At : Machine → Type 0 = λ m. AllReserve setup m in
    subst At (sym (reach-none setup u)) all
from_reserves setup u (h ∷ order) stand all =
    let At : Machine → Type 0 = λ m. AllReserve setup m in
    subst At (sym (reach-cons setup u h order))
    (from_reserves setup (step setup u h) order (all_step setup u h stand) (step_reserves setup u h stand all))

access_asks : (made : List Done) (h : ℕ) (access : Access) → AsksFrom (own_reservation made h) access → AsksReserved made h (Asks access)
access_asks made h (acc.Sc address width value) e = e
access_asks made h other e = tt

asks_reserved : (made : List Done) (h : ℕ) (s : Story) → Reserves (own_reservation made h) s → AsksReserved made h (want s)
asks_reserved made h (Says access next) reserves = access_asks made h access reserves.0
asks_reserved made h (Closes part after) reserves = tt
asks_reserved made h StaysOver reserves = tt
asks_reserved made h (Parks wakes) reserves = tt

-- in every state that an order leads to
pub all_asks_reserved : (setup : Setup) (order : List ℕ) (h : ℕ) → h < setup.harts
    → AsksReserved (reach setup order).ram h (want_of setup (reach setup order) h)
all_asks_reserved setup order h below =
    asks_reserved (reach setup order).ram h (story_of setup (reach setup order) h)
    (from_reserves setup (begin setup) order (all_begin setup) (begin_reserves setup) h below)
