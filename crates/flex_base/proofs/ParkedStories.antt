-- A hart that was told that it waits is parked in its story, and one that asks an access or comes to its end doesn't wait.
use Rattle.std.proofs.Common.{◌≡◌, ℕ, ◌+◌, Bool, true, false, if◌then◌else◌, ◌==◌, List, [], ◌∷◌, Option, None, Some, refl, sym, subst}
use Rattle.std.specs.Prelude.{fold}
use Rattle.flex_base.specs.Causes.{instruction_address_misaligned, instruction_access_fault, load_access_fault, store_access_fault, misaligned, access_fault}
use Rattle.flex_base.specs.Setup.{Setup}
use Rattle.flex_base.specs.State.{State, reg}
use Rattle.flex_base.specs.Place.{in_ram, place_of}
use Rattle.flex_base.specs.Word.{wrap, is_multiple}
use Rattle.flex_base.specs.Decoding.{decoded}
use Rattle.flex_base.specs.FlatMemory.{reservation_set, is_reserved, reply_with}
use Rattle.flex_base.specs.StoryTree.{Want, Asks, Ends, IsParked, Story, Says, Closes, StaysOver, Parks, goes, want, after_one, after_park}
use Rattle.flex_base.specs.Ends.{jumps, ends, computes, passes, traps, traps_illegal, returns, concludes}
use Rattle.flex_base.specs.Translating.{translates}
use Rattle.flex_base.specs.Story.{story, pulses, after_pulse, begins, interrupted_by, fetches_at, works, branches, is_taken, supervises, is_machine, closes_csr, updates_csr, asks_csr, uses_csr, fences_memory, at_place, has_pending, ends_wait, waits, reaches, in_ram_at, loads_at, stores_at, loads_reserved_at, stores_conditional_at, modifies_at, is_tick}
use Rattle.flex_base.specs.Csrs.{TVM, TW, TSR}
use Rattle.flex_base.specs.Traps.{mret, sret, takeable}
use Rattle.flex_base.specs.Zicsr.{CSR_TIME, reads_csr, writes_csr, csr_operand, csr_result, may_use_csr, is_pending_csr, csr_value}
use Rattle.flex_base.specs.Unsplit.{Instruction, instruction_after}
use Rattle.flex_base.specs.Following.{next_access, first_instruction, wanted, MayDo, instruction_then, FollowsFrom, leads_to, Follows, instruction_of, waits_by, waits_after, is_waiting}
use Rattle.flex_base.specs.declared.access.Access.{Access}
use Rattle.flex_base.specs.declared.access.Access.TheVariants as acc
use Rattle.flex_base.specs.declared.access.Reply.{Reply}
use Rattle.flex_base.specs.declared.class.Class.TheVariants as class
use Rattle.flex_base.specs.declared.event.Event.{Event}
use Rattle.flex_base.specs.declared.event.EndPart.{EndPart}
use Rattle.flex_base.specs.declared.event.What.{What}
use Rattle.flex_base.specs.declared.event.What.TheVariants as what
use Rattle.flex_base.specs.declared.operation.CsrOp.{CsrOp}
use Rattle.flex_base.specs.declared.operation.Op.{Op}
use Rattle.flex_base.specs.declared.operation.Op.TheVariants as op
use Rattle.flex_base.specs.declared.settings.Place.{Place}
use Rattle.flex_base.specs.declared.settings.Place.TheVariants as place
use Rattle.flex_base.specs.declared.translation.Kind.{Kind}
use Rattle.flex_base.specs.declared.translation.Kind.TheVariants as kind
use Rattle.flex_base.specs.declared.translation.Leaf.{Leaf}
use Rattle.flex_base.proofs.Machines.{place_in}
use Rattle.flex_base.proofs.Stories.{goes_push, goes_on, retires}
use Rattle.flex_base.proofs.Translating.{PassesWalks, translates_has}

-- The story of an instruction.

-- From here on, where the hart was told so far that it waits or that it doesn't, it is parked exactly while it waits. One that
-- was told the stop makes nothing more.
abbrev pub Waits : Bool → Story → Type 0
Waits was (Says access next) = (was ≡ false) × ((reply : Reply) → Waits (waits_by false access reply) (next reply))
Waits was (Closes part after) = was ≡ false
Waits was StaysOver = Unit {0}
Waits was (Parks wakes) = (was ≡ true) × ((lines : ℕ) → Waits false (wakes lines))

-- the hart goes on by itself
abbrev Goes : Story → Type 0
Goes s = Waits false s

either : (was b : Bool) (s t : Story) → Waits was s → Waits was t → Waits was (if b then s else t)
either was true s t first second = first
either was false s t first second = second

at_place_goes : (p : Place) (access device fault : Story) → Goes access → Goes device → Goes fault → Goes (at_place p access device fault)
at_place_goes place.Ram access device fault first second third = first
at_place_goes place.Device access device fault first second third = second
at_place_goes place.Nowhere access device fault first second third = third

-- where a pulse or a wait leads, by whether the stop and a 1 were told
told_by : (stop one : Bool) (wakes : ℕ → Story) (s : Story) → ((lines : ℕ) → Goes (wakes lines)) → Goes s
    → Waits one (if stop then StaysOver else (if one then Parks wakes else s))
told_by true one wakes s parked on = tt
told_by false true wakes s parked on = (refl, parked)
told_by false false wakes s parked on = on

goes_passes : (a : State) (va : ℕ) → PassesWalks a va (λ n s. Goes s)
goes_passes a va = record { more = λ n s goes. goes; reads = λ n address onward goes. (refl, goes); faults = λ n cause. refl }

translates_goes : (setup : Setup) (a : State) (k : Kind) (va : ℕ) (next : State → ℕ → Story)
    → ((leaves : List Leaf) (address : ℕ) → Goes (next (record a { leaves = leaves }) address)) → Goes (translates setup.ram a k va next)
translates_goes setup a k va next goes = translates_has setup.ram a k va next (λ n s. Goes s) (goes_passes a va) 0 goes

reaches_goes : (setup : Setup) (a : State) (k : Kind) (width va : ℕ) (access : State → ℕ → Story)
    → ((leaves : List Leaf) (address : ℕ) → Goes (access (record a { leaves = leaves }) address)) → Goes (reaches setup a k width va access)
reaches_goes setup a k width va access goes =
    either false (is_multiple va width) _ (traps a (misaligned k) va) (translates_goes setup a k va access goes) refl

in_ram_goes : (setup : Setup) (a : State) (k : Kind) (width va address : ℕ) (access : Story) → Goes access
    → Goes (in_ram_at setup a k width va address access)
in_ram_goes setup a k width va address access goes =
    either false (in_ram setup.ram address width) access (traps a (access_fault k) va) goes refl

loads_at_goes : (setup : Setup) (a : State) (width : ℕ) (signed : Bool) (rd va address : ℕ) → Goes (loads_at setup width signed rd va a address)
loads_at_goes setup a width signed rd va address =
    at_place_goes (place_of setup.harts setup.ram address width) _ _ (traps a load_access_fault va) (refl, λ reply. refl) (refl, λ reply. refl) refl

stores_at_goes : (setup : Setup) (a : State) (width value va address : ℕ) → Goes (stores_at setup width value va a address)
stores_at_goes setup a width value va address =
    at_place_goes (place_of setup.harts setup.ram address width) _ _ (traps a store_access_fault va) (refl, λ reply. refl) (refl, λ reply. refl) refl

conditional_goes : (setup : Setup) (a : State) (width rd value va address : ℕ) → Goes (stores_conditional_at setup width rd value va a address)
conditional_goes setup a width rd value va address =
    in_ram_goes setup a kind.Store width va address _
    (either false (is_reserved a.reservation (reservation_set address)) _ (concludes a rd 1) (refl, λ reply. refl) refl)

jumps_goes : (a : State) (target rd : ℕ) → Goes (jumps a target rd)
jumps_goes a target rd =
    either false (is_multiple target 4) (ends a class.Jump target rd (wrap (a.pc + 4))) (traps a instruction_address_misaligned target) refl refl

branches_goes : (a : State) (taken : Bool) (target : ℕ) → Goes (branches a taken target)
branches_goes a taken target = either false taken _ (passes a class.Jump) (jumps_goes a target 0) refl

updates_csr_goes : (a : State) (does : CsrOp) (rd rs1 number old : ℕ) → Goes (updates_csr a does rd rs1 number old)
updates_csr_goes a does rd rs1 number old =
    either false (writes_csr does rs1) (closes_csr a number rd old (csr_result does old (csr_operand does a.x rs1)))
    (computes a class.Csr rd old) refl refl

asks_csr_goes : (a : State) (does : CsrOp) (rd rs1 number : ℕ) → Goes (asks_csr a does rd rs1 number)
asks_csr_goes a does rd rs1 number =
    either false (is_pending_csr number) _ _ (
      refl,
      λ reply. either false reply.stop StaysOver _ tt
          (updates_csr_goes (record a { lines = reply.lines }) does rd rs1 number (csr_value a number reply.lines 0)),
    )
    (either false (number == CSR_TIME) _ _
    (refl, λ reply. updates_csr_goes a does rd rs1 number (csr_value a number 0 reply.value))
    (updates_csr_goes a does rd rs1 number (csr_value a number 0 0)))

uses_csr_goes : (a : State) (word : ℕ) (does : CsrOp) (rd rs1 number : ℕ) → Goes (uses_csr a word does rd rs1 number)
uses_csr_goes a word does rd rs1 number =
    either false (may_use_csr a does rd rs1 number) _ (traps_illegal a word)
    (either false (reads_csr does rd) _ _ (asks_csr_goes a does rd rs1 number) (updates_csr_goes a does rd rs1 number 0)) refl

-- a wait that is told 1 parks the hart
waits_goes : (a : State) → Goes (waits a)
waits_goes a =
    either false (has_pending a.csrs) _ _
    (refl, λ reply. either false reply.stop StaysOver (ends_wait a reply.lines) tt refl)
    (refl, λ reply. told_by reply.stop (reply.value == 1) (ends_wait a) (ends_wait a reply.lines) (λ lines. refl) refl)

works_goes : (setup : Setup) (a : State) (word : ℕ) (o : Op) → Goes (works setup a word o)
works_goes setup a word (op.Jal rd imm) = jumps_goes a _ rd
works_goes setup a word (op.Jalr rd rs1 imm) = jumps_goes a _ rd
works_goes setup a word (op.Branch compares rs1 rs2 imm) =
    branches_goes a (is_taken compares (reg a.x rs1) (reg a.x rs2)) (wrap (a.pc + imm))
works_goes setup a word (op.Load width signed rd rs1 imm) =
    let va = wrap (reg a.x rs1 + imm) in
    reaches_goes setup a kind.Load width va (loads_at setup width signed rd va)
    (λ leaves address. loads_at_goes setup (record a { leaves = leaves }) width signed rd va address)
works_goes setup a word (op.Store width rs1 rs2 imm) =
    let va = wrap (reg a.x rs1 + imm) in
    reaches_goes setup a kind.Store width va (stores_at setup width (reg a.x rs2) va)
    (λ leaves address. stores_at_goes setup (record a { leaves = leaves }) width (reg a.x rs2) va address)
works_goes setup a word (op.Lr width rd rs1 aq rl) =
    let va = reg a.x rs1 in
    reaches_goes setup a kind.Load width va (loads_reserved_at setup width rd va)
    (λ leaves address. in_ram_goes setup (record a { leaves = leaves }) kind.Load width va address _ (refl, λ reply. refl))
works_goes setup a word (op.Sc width rd rs1 rs2 aq rl) =
    let va = reg a.x rs1 in
    reaches_goes setup a kind.Store width va (stores_conditional_at setup width rd (reg a.x rs2) va)
    (λ leaves address. conditional_goes setup (record a { leaves = leaves }) width rd (reg a.x rs2) va address)
works_goes setup a word (op.Amo does width rd rs1 rs2 aq rl) =
    let va = reg a.x rs1 in
    reaches_goes setup a kind.Store width va (modifies_at setup does width rd (reg a.x rs2) va)
    (λ leaves address. in_ram_goes setup (record a { leaves = leaves }) kind.Store width va address _ (refl, λ reply. refl))
works_goes setup a word (op.Csr does rd rs1 number) = uses_csr_goes a word does rd rs1 number
works_goes setup a word op.Mret = either false (is_machine a.mode) (returns a (mret a.csrs)) (traps_illegal a word) refl refl
works_goes setup a word op.Sret = either false (supervises TSR a.csrs a.mode) (returns a (sret a.csrs)) (traps_illegal a word) refl refl
works_goes setup a word op.Wfi = either false (supervises TW a.csrs a.mode) (waits a) (traps_illegal a word) (waits_goes a) refl
works_goes setup a word (op.SfenceVma rs1 rs2) = either false (supervises TVM a.csrs a.mode) (fences_memory a) (traps_illegal a word) refl refl
works_goes setup a word other = refl

fetches_at_goes : (setup : Setup) (a : State) (address : ℕ) → Goes (fetches_at setup a address)
fetches_at_goes setup a address =
    either false (in_ram setup.ram address 4) (goes_on setup a address) (traps a instruction_access_fault a.pc)
    (refl, λ reply. works_goes setup a reply.value (decoded reply.value)) refl

interrupted_goes : (setup : Setup) (a : State) (by : Option ℕ) → Goes (interrupted_by setup a by)
interrupted_goes setup a None =
    translates_goes setup a kind.Fetch a.pc (fetches_at setup) (λ leaves address. fetches_at_goes setup (record a { leaves = leaves }) address)
interrupted_goes setup a (Some cause) = refl

begins_goes : (setup : Setup) (a : State) → Goes (begins setup a)
begins_goes setup a = interrupted_goes setup a (takeable a.csrs a.lines a.mode)

pulses_goes : (setup : Setup) (a : State) → Goes (pulses setup a)
pulses_goes setup a =
    either false a.due (Says (acc.Pulse (is_tick a)) (after_pulse setup a)) (begins setup a)
    (refl, λ reply. either false reply.stop StaysOver _ tt (begins_goes setup (record a { lines = reply.lines }))) (begins_goes setup a)

story_goes : (setup : Setup) (a : State) → Goes (story setup a)
story_goes setup a = either false (a.ends == setup.budget) retires (pulses setup a) (refl, λ reply. tt) (pulses_goes setup a)

-- The events of a hart.

-- what an access and its reply lead to
access_waits : (was : Bool) (s : Story) (access : Access) (reply : Reply) → next_access (want s) ≡ Some access → Waits was s
    → Waits (waits_by was access reply) (after_one s reply)
access_waits was (Says made next) access reply e holds =
    let is : made ≡ access = cc in
    let To : Access → Bool → Type 0 = λ x w. Waits (waits_by w x reply) (next reply) in
    subst (λ (w : Bool). To access w) (sym holds.0) (subst (λ (x : Access). To x false) is (holds.1 reply))
access_waits was (Parks wakes) access reply e holds =
    let is : acc.Pulse false ≡ access = cc in
    let To : Access → Bool → Type 0 = λ x w. Waits (waits_by w x reply) (after_park wakes reply) in
    subst (λ (w : Bool). To access w) (sym holds.0)
    (subst (λ (x : Access). To x true) is (told_by reply.stop (reply.value == 1) wakes (wakes reply.lines) holds.1 (holds.1 reply.lines)))
access_waits was (Closes part after) access reply e holds = absurd cc
access_waits was StaysOver access reply e holds = absurd cc

-- a hart that comes to its end doesn't wait
end_goes : (was : Bool) (s : Story) (part : EndPart) (after : State) → want s ≡ Ends part after → Waits was s → was ≡ false
end_goes was (Closes other left) part after e holds = holds
end_goes was (Says access next) part after e holds = absurd cc
end_goes was StaysOver part after e holds = absurd cc
end_goes was (Parks wakes) part after e holds = absurd cc

event_waits : (setup : Setup) (was : Bool) (i : Instruction) (w : What) → MayDo setup i w → Waits was (place_in setup i)
    → Waits (waits_after was w) (place_in setup (instruction_then setup i w))
event_waits setup was i (what.Acc access reply) may holds =
    subst (λ (s : Story). Waits (waits_by was access reply) s) (sym (goes_push (story setup i.state) i.replies reply))
    (access_waits was (place_in setup i) access reply may.0 holds)
event_waits setup was i (what.End part) may holds =
    let begun : Waits was (story setup may.0) = subst (λ (w : Bool). Waits w (story setup may.0)) (sym (end_goes was (place_in setup i) part may.0 may.1 holds)) (story_goes setup may.0) in
    subst (λ (w : Want). Waits was (place_in setup (instruction_after i w (reply_with 0)))) (sym may.1) begun
event_waits setup was i (what.Handover to) may holds = holds

events_wait : (setup : Setup) (was : Bool) (i : Instruction) (events : List Event) → FollowsFrom setup i events → Waits was (place_in setup i)
    → Waits (fold (λ w (e : Event). waits_after w e.what) was events) (place_in setup (leads_to setup i events))
unfolding leads_to
events_wait setup was i [] follows holds = holds
events_wait setup was i (e ∷ events) follows holds =
    events_wait setup (waits_after was e.what) (instruction_then setup i e.what) events follows.1 (event_waits setup was i e.what follows.0 holds)

log_waits : (setup : Setup) (hart : ℕ) (events : List Event) → Follows setup hart events → Waits (is_waiting events) (place_in setup (instruction_of setup hart events))
unfolding is_waiting
log_waits setup hart events follows = events_wait setup false (first_instruction setup hart) events follows (story_goes setup (first_instruction setup hart).state)

asking_goes : (was : Bool) (s : Story) (access : Access) → want s ≡ Asks access → Waits was s → was ≡ false
asking_goes was (Says made next) access e holds = holds.0
asking_goes was (Closes part after) access e holds = absurd cc
asking_goes was StaysOver access e holds = absurd cc
asking_goes was (Parks wakes) access e holds = absurd cc

parked_waits : (was : Bool) (s : Story) → want s ≡ IsParked → Waits was s → was ≡ true
parked_waits was (Parks wakes) e holds = holds.0
parked_waits was (Says access next) e holds = absurd cc
parked_waits was (Closes part after) e holds = absurd cc
parked_waits was StaysOver e holds = absurd cc

-- a hart that asks an access doesn't wait
pub asks-waiting : (setup : Setup) (hart : ℕ) (events : List Event) (access : Access) → Follows setup hart events
    → wanted setup (instruction_of setup hart events) ≡ Asks access → is_waiting events ≡ false
asks-waiting setup hart events access follows asks =
    asking_goes (is_waiting events) (place_in setup (instruction_of setup hart events)) access asks (log_waits setup hart events follows)

-- nor does one that comes to its end
pub ends-waiting : (setup : Setup) (hart : ℕ) (events : List Event) (part : EndPart) (after : State) → Follows setup hart events
    → wanted setup (instruction_of setup hart events) ≡ Ends part after → is_waiting events ≡ false
ends-waiting setup hart events part after follows ends =
    end_goes (is_waiting events) (place_in setup (instruction_of setup hart events)) part after ends (log_waits setup hart events follows)

-- a parked hart waits
pub parked-waiting : (setup : Setup) (hart : ℕ) (events : List Event) → Follows setup hart events
    → wanted setup (instruction_of setup hart events) ≡ IsParked → is_waiting events ≡ true
parked-waiting setup hart events follows parked =
    parked_waits (is_waiting events) (place_in setup (instruction_of setup hart events)) parked (log_waits setup hart events follows)
