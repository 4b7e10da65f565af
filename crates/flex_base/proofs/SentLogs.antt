-- In a list of a hart's events that follows its story, the hart transmits a byte only where it transmitted fewer than its budget.
use Rattle.std.proofs.Common.{◌≡◌, ℕ, ◌+◌, ◌<◌, ◌≤◌, Bool, true, false, if◌then◌else◌, ◌==◌, List, [], ◌∷◌, cond, ◌++◌, filter, map, length, Option, None, Some, inl, inr, refl, ap, sym, subst, ◌∙◌, arith}
use Rattle.std.proofs.lemmas.Bool.{cases_eq}
use Rattle.flex_base.specs.Causes.{instruction_address_misaligned, instruction_access_fault, load_access_fault, store_access_fault, misaligned, access_fault}
use Rattle.flex_base.specs.Setup.{Setup}
use Rattle.flex_base.specs.State.{State, reg}
use Rattle.flex_base.specs.Place.{UART, in_ram, place_of}
use Rattle.flex_base.specs.Word.{wrap, is_multiple}
use Rattle.flex_base.specs.Decoding.{decoded}
use Rattle.flex_base.specs.Devices.{is_transmit, byte_of, sent_bytes}
use Rattle.flex_base.specs.FlatMemory.{Done, reservation_set, is_reserved, reply_with}
use Rattle.flex_base.specs.StoryTree.{Want, Asks, Ends, Story, Says, Closes, StaysOver, Parks, want, after_one}
use Rattle.flex_base.specs.Ends.{jumps, ends, computes, passes, traps, traps_illegal, returns, concludes}
use Rattle.flex_base.specs.Translating.{translates}
use Rattle.flex_base.specs.Story.{story, pulses, after_pulse, begins, interrupted_by, fetches_at, works, branches, is_taken, supervises, is_machine, closes_csr, updates_csr, asks_csr, uses_csr, fences_memory, at_place, has_pending, ends_wait, waits, reaches, in_ram_at, loads_at, stores_at, loads_reserved_at, stores_conditional_at, modifies_at, is_tick}
use Rattle.flex_base.specs.Csrs.{TVM, TW, TSR}
use Rattle.flex_base.specs.Traps.{mret, sret, takeable}
use Rattle.flex_base.specs.Zicsr.{CSR_TIME, reads_csr, writes_csr, csr_operand, csr_result, may_use_csr, is_pending_csr, csr_value}
use Rattle.flex_base.specs.Unsplit.{Instruction, instruction_after}
use Rattle.flex_base.specs.Following.{next_access, first_instruction, wanted, MayDo, instruction_then, FollowsFrom, leads_to, Follows, instruction_of}
use Rattle.flex_base.specs.Banks.{access_in, accesses_of}
use Rattle.flex_base.specs.declared.access.Access.{Access}
use Rattle.flex_base.specs.declared.access.Access.TheVariants as acc
use Rattle.flex_base.specs.declared.access.Reply.{Reply}
use Rattle.flex_base.specs.declared.class.Class.TheVariants as class
use Rattle.flex_base.specs.declared.event.Event.{Event}
use Rattle.flex_base.specs.declared.event.EndPart.{EndPart}
use Rattle.flex_base.specs.declared.event.What.{What}
use Rattle.flex_base.specs.declared.event.What.TheVariants as what
use Rattle.flex_base.specs.declared.operation.CsrOp.{CsrOp}
use Rattle.flex_base.specs.declared.operation.Op.{Op}
use Rattle.flex_base.specs.declared.operation.Op.TheVariants as op
use Rattle.flex_base.specs.declared.settings.Place.{Place}
use Rattle.flex_base.specs.declared.settings.Place.TheVariants as place
use Rattle.flex_base.specs.declared.translation.Kind.{Kind}
use Rattle.flex_base.specs.declared.translation.Kind.TheVariants as kind
use Rattle.flex_base.specs.declared.translation.Leaf.{Leaf}
use Rattle.flex_base.proofs.Machines.{place_in}
use Rattle.flex_base.proofs.Stories.{goes_push, goes_on, story_spent, story_unspent}
use Rattle.flex_base.proofs.Translating.{PassesWalks, translates_has}

-- The story of an instruction.

-- so many bytes after an access
abbrev pub bytes_after : ℕ → Access → ℕ
bytes_after n access = if is_transmit access then n + 1 else n

-- from here on, after so many bytes, one is transmitted only where there were fewer than the budget, and at an end there are at
-- most as many as ends
abbrev pub Sends : ℕ → ℕ → Story → Type 0
Sends budget n (Says access next) = (is_transmit access ≡ true → n < budget) × ((reply : Reply) → Sends budget (bytes_after n access) (next reply))
Sends budget n (Closes part after) = (n ≤ after.ends) × (after.ends ≤ budget)
Sends budget n StaysOver = Unit {0}
Sends budget n (Parks wakes) = (lines : ℕ) → Sends budget n (wakes lines)

either : (budget n : ℕ) (b : Bool) (s t : Story) → Sends budget n s → Sends budget n t → Sends budget n (if b then s else t)
either budget n true s t first second = first
either budget n false s t first second = second

at_place_sends : (budget n : ℕ) (p : Place) (access device fault : Story) → Sends budget n access → Sends budget n device → Sends budget n fault
    → Sends budget n (at_place p access device fault)
at_place_sends budget n place.Ram access device fault first second third = first
at_place_sends budget n place.Device access device fault first second third = second
at_place_sends budget n place.Nowhere access device fault first second third = third

-- an access that transmits nothing
none : (budget n : ℕ) → false ≡ true → n < budget
none budget n e = absurd cc

-- where an instruction has a budget left for its end, and transmitted nothing yet
module _ (setup : Setup) (n : ℕ) (a : State) (few : n ≤ a.ends) (unspent : a.ends < setup.budget) where
  held : (n ≤ a.ends + 1) × (a.ends + 1 ≤ setup.budget)
  held = (omega (arith, few), omega (arith, unspent))

  one_more : (b : Bool) → ((if b then n + 1 else n) ≤ a.ends + 1) × (a.ends + 1 ≤ setup.budget)
  one_more true = (omega (arith, few), omega (arith, unspent))
  one_more false = held

  passes_walks : (va : ℕ) → PassesWalks a va (λ m s. Sends setup.budget n s)
  passes_walks va = record { more = λ m s sends. sends; reads = λ m address onward sends. (none setup.budget n, sends); faults = λ m cause. held }

  translates_sends : (k : Kind) (va : ℕ) (next : State → ℕ → Story)
      → ((leaves : List Leaf) (address : ℕ) → Sends setup.budget n (next (record a { leaves = leaves }) address))
      → Sends setup.budget n (translates setup.ram a k va next)
  translates_sends k va next sends = translates_has setup.ram a k va next (λ m s. Sends setup.budget n s) (passes_walks va) 0 sends

  reaches_sends : (k : Kind) (width va : ℕ) (access : State → ℕ → Story)
      → ((leaves : List Leaf) (address : ℕ) → Sends setup.budget n (access (record a { leaves = leaves }) address))
      → Sends setup.budget n (reaches setup a k width va access)
  reaches_sends k width va access sends =
      either setup.budget n (is_multiple va width) _ (traps a (misaligned k) va) (translates_sends k va access sends) held

  in_ram_sends : (k : Kind) (leaves : List Leaf) (width va address : ℕ) (access : Story) → Sends setup.budget n access
      → Sends setup.budget n (in_ram_at setup (record a { leaves = leaves }) k width va address access)
  in_ram_sends k leaves width va address access sends =
      either setup.budget n (in_ram setup.ram address width) access (traps (record a { leaves = leaves }) (access_fault k) va) sends held

  loads_at_sends : (leaves : List Leaf) (width : ℕ) (signed : Bool) (rd va address : ℕ)
      → Sends setup.budget n (loads_at setup width signed rd va (record a { leaves = leaves }) address)
  loads_at_sends leaves width signed rd va address =
      at_place_sends setup.budget n (place_of setup.harts setup.ram address width) _ _ (traps (record a { leaves = leaves }) load_access_fault va)
      (none setup.budget n, λ reply. held) (none setup.budget n, λ reply. held) held

  stores_at_sends : (leaves : List Leaf) (width value va address : ℕ)
      → Sends setup.budget n (stores_at setup width value va (record a { leaves = leaves }) address)
  stores_at_sends leaves width value va address =
      at_place_sends setup.budget n (place_of setup.harts setup.ram address width) _ _ (traps (record a { leaves = leaves }) store_access_fault va)
      (none setup.budget n, λ reply. held)
      ((λ uart. omega (arith, few, unspent)), λ reply. one_more (address == UART)) held

  jumps_sends : (target rd : ℕ) → Sends setup.budget n (jumps a target rd)
  jumps_sends target rd = either setup.budget n (is_multiple target 4) (ends a class.Jump target rd (wrap (a.pc + 4)))
      (traps a instruction_address_misaligned target) held held

  branches_sends : (taken : Bool) (target : ℕ) → Sends setup.budget n (branches a taken target)
  branches_sends taken target = either setup.budget n taken _ (passes a class.Jump) (jumps_sends target 0) held

  -- whatever interrupt lines it has by then
  updates_csr_sends : (lines : ℕ) (does : CsrOp) (rd rs1 number old : ℕ) → Sends setup.budget n (updates_csr (record a { lines = lines }) does rd rs1 number old)
  updates_csr_sends lines does rd rs1 number old =
      let b : State = record a { lines = lines } in
      either setup.budget n (writes_csr does rs1) (closes_csr b number rd old (csr_result does old (csr_operand does a.x rs1)))
      (computes b class.Csr rd old) held held

  asks_csr_sends : (does : CsrOp) (rd rs1 number : ℕ) → Sends setup.budget n (asks_csr a does rd rs1 number)
  asks_csr_sends does rd rs1 number =
      either setup.budget n (is_pending_csr number) _ _ (
        none setup.budget n,
        λ reply. either setup.budget n reply.stop StaysOver _ tt
            (updates_csr_sends reply.lines does rd rs1 number (csr_value a number reply.lines 0)),
      )
      (either setup.budget n (number == CSR_TIME) _ _
      (none setup.budget n, λ reply. updates_csr_sends a.lines does rd rs1 number (csr_value a number 0 reply.value))
      (updates_csr_sends a.lines does rd rs1 number (csr_value a number 0 0)))

  uses_csr_sends : (word : ℕ) (does : CsrOp) (rd rs1 number : ℕ) → Sends setup.budget n (uses_csr a word does rd rs1 number)
  uses_csr_sends word does rd rs1 number =
      either setup.budget n (may_use_csr a does rd rs1 number) _ (traps_illegal a word)
      (either setup.budget n (reads_csr does rd) _ _ (asks_csr_sends does rd rs1 number) (updates_csr_sends a.lines does rd rs1 number 0)) held

  waits_sends : Sends setup.budget n (waits a)
  waits_sends =
      either setup.budget n (has_pending a.csrs) _ _
      (none setup.budget n, λ reply. either setup.budget n reply.stop StaysOver (ends_wait a reply.lines) tt held) (
        none setup.budget n,
        λ reply. either setup.budget n reply.stop StaysOver _ tt
            (either setup.budget n (reply.value == 1) (Parks (ends_wait a)) (ends_wait a reply.lines) (λ lines. held) held),
      )

  works_sends : (word : ℕ) (o : Op) → Sends setup.budget n (works setup a word o)
  works_sends word (op.Jal rd imm) = jumps_sends _ rd
  works_sends word (op.Jalr rd rs1 imm) = jumps_sends _ rd
  works_sends word (op.Branch compares rs1 rs2 imm) = branches_sends (is_taken compares (reg a.x rs1) (reg a.x rs2)) (wrap (a.pc + imm))
  works_sends word (op.Load width signed rd rs1 imm) =
      let va = wrap (reg a.x rs1 + imm) in
      reaches_sends kind.Load width va (loads_at setup width signed rd va) (λ leaves address. loads_at_sends leaves width signed rd va address)
  works_sends word (op.Store width rs1 rs2 imm) =
      let va = wrap (reg a.x rs1 + imm) in
      reaches_sends kind.Store width va (stores_at setup width (reg a.x rs2) va) (λ leaves address. stores_at_sends leaves width (reg a.x rs2) va address)
  works_sends word (op.Lr width rd rs1 aq rl) =
      let va = reg a.x rs1 in
      reaches_sends kind.Load width va (loads_reserved_at setup width rd va) (λ leaves address.
      in_ram_sends kind.Load leaves width va address _ (none setup.budget n, λ reply. held))
  works_sends word (op.Sc width rd rs1 rs2 aq rl) =
      let va = reg a.x rs1 in
      reaches_sends kind.Store width va (stores_conditional_at setup width rd (reg a.x rs2) va) (λ leaves address.
      in_ram_sends kind.Store leaves width va address _
      (either setup.budget n (is_reserved a.reservation (reservation_set address)) _ (concludes (record a { leaves = leaves }) rd 1)
      (none setup.budget n, λ reply. held) held))
  works_sends word (op.Amo does width rd rs1 rs2 aq rl) =
      let va = reg a.x rs1 in
      reaches_sends kind.Store width va (modifies_at setup does width rd (reg a.x rs2) va) (λ leaves address.
      in_ram_sends kind.Store leaves width va address _ (none setup.budget n, λ reply. held))
  works_sends word (op.Csr does rd rs1 number) = uses_csr_sends word does rd rs1 number
  works_sends word op.Mret = either setup.budget n (is_machine a.mode) (returns a (mret a.csrs)) (traps_illegal a word) held held
  works_sends word op.Sret = either setup.budget n (supervises TSR a.csrs a.mode) (returns a (sret a.csrs)) (traps_illegal a word) held held
  works_sends word op.Wfi = either setup.budget n (supervises TW a.csrs a.mode) (waits a) (traps_illegal a word) waits_sends held
  works_sends word (op.SfenceVma rs1 rs2) = either setup.budget n (supervises TVM a.csrs a.mode) (fences_memory a) (traps_illegal a word) held held
  works_sends word other = held

fetches_at_sends : (setup : Setup) (n : ℕ) (a : State) → n ≤ a.ends → a.ends < setup.budget → (address : ℕ) → Sends setup.budget n (fetches_at setup a address)
fetches_at_sends setup n a few unspent address =
    either setup.budget n (in_ram setup.ram address 4) (goes_on setup a address) (traps a instruction_access_fault a.pc)
    (none setup.budget n, λ reply. works_sends setup n a few unspent reply.value (decoded reply.value)) (held setup n a few unspent)

begins_sends : (setup : Setup) (n : ℕ) (a : State) → n ≤ a.ends → a.ends < setup.budget → Sends setup.budget n (begins setup a)
begins_sends setup n a few unspent = by (takeable a.csrs a.lines a.mode)
  where
    by : (cause : Option ℕ) → Sends setup.budget n (interrupted_by setup a cause)
    by None = translates_sends setup n a few unspent kind.Fetch a.pc (fetches_at setup)
        (λ leaves address. fetches_at_sends setup n (record a { leaves = leaves }) few unspent address)
    by (Some cause) = held setup n a few unspent

pulses_sends : (setup : Setup) (n : ℕ) (a : State) → n ≤ a.ends → a.ends < setup.budget → Sends setup.budget n (pulses setup a)
pulses_sends setup n a few unspent =
    either setup.budget n a.due (Says (acc.Pulse (is_tick a)) (after_pulse setup a)) (begins setup a) (
      none setup.budget n,
      λ reply. either setup.budget n reply.stop StaysOver _ tt (begins_sends setup n (record a { lines = reply.lines }) few unspent),
    )
    (begins_sends setup n a few unspent)

story_sends : (setup : Setup) (n : ℕ) (a : State) → n ≤ a.ends → a.ends ≤ setup.budget → Sends setup.budget n (story setup a)
story_sends setup n a few within = elim (cases_eq a.ends setup.budget) [
  | inl spent ↦ subst (λ (s : Story). Sends setup.budget n s) (sym (story_spent setup a spent)) (none setup.budget n, λ reply. tt)
  | inr unspent ↦ subst (λ (s : Story). Sends setup.budget n s) (sym (story_unspent setup a unspent))
      (pulses_sends setup n a few (omega (arith, within, unspent)))
]

-- The events of a hart.

park_sends : (budget n : ℕ) (stop one : Bool) (wakes : ℕ → Story) (lines : ℕ) → ((told : ℕ) → Sends budget n (wakes told))
    → Sends budget n (if stop then StaysOver else (if one then Parks wakes else wakes lines))
park_sends budget n true one wakes lines sends = tt
park_sends budget n false true wakes lines sends = sends
park_sends budget n false false wakes lines sends = sends lines

access_sends : (budget n : ℕ) (s : Story) (access : Access) (reply : Reply) → next_access (want s) ≡ Some access → Sends budget n s
    → Sends budget (bytes_after n access) (after_one s reply)
access_sends budget n (Says made next) access reply e sends =
    let is : made ≡ access = cc in
    subst (λ (x : Access). Sends budget (bytes_after n x) (next reply)) is (sends.1 reply)
access_sends budget n (Parks wakes) access reply e sends =
    let is : acc.Pulse false ≡ access = cc in
    subst (λ (x : Access). Sends budget (bytes_after n x) (after_one (Parks wakes) reply)) is
    (park_sends budget n reply.stop (reply.value == 1) wakes reply.lines sends)
access_sends budget n (Closes part after) access reply e sends = absurd cc
access_sends budget n StaysOver access reply e sends = absurd cc

end_sends : (budget n : ℕ) (s : Story) (part : EndPart) (after : State) → want s ≡ Ends part after → Sends budget n s
    → (n ≤ after.ends) × (after.ends ≤ budget)
end_sends budget n (Closes other left) part after e sends =
    let is : left ≡ after = cc in
    subst (λ (a : State). (n ≤ a.ends) × (a.ends ≤ budget)) is sends
end_sends budget n (Says access next) part after e sends = absurd cc
end_sends budget n StaysOver part after e sends = absurd cc
end_sends budget n (Parks wakes) part after e sends = absurd cc

-- so many bytes after what happened
abbrev bytes_then : ℕ → What → ℕ
bytes_then n (what.Acc access reply) = bytes_after n access
bytes_then n other = n

bytes_by : (n : ℕ) (d : Done) (rest : List Done) (b : Bool)
    → (if b then n + 1 else n) + length (map (λ (x : Done). byte_of x.access) rest) ≡ n + length (map (λ (x : Done). byte_of x.access) (cond b (d ∷ rest) rest))
bytes_by n d rest true = omega arith
bytes_by n d rest false = refl

bytes_more : (n hart : ℕ) (w : What) (made : List Done) → bytes_then n w + length (sent_bytes made) ≡ n + length (sent_bytes (access_in hart w ++ made))
bytes_more n hart (what.Acc access reply) made =
    bytes_by n (record { hart = hart; access = access; reply = reply }) (filter (λ (x : Done). is_transmit x.access) made) (is_transmit access)
bytes_more n hart (what.End part) made = refl
bytes_more n hart (what.Handover to) made = refl

event_sends : (setup : Setup) (n : ℕ) (i : Instruction) (w : What) → MayDo setup i w → Sends setup.budget n (place_in setup i)
    → Sends setup.budget (bytes_then n w) (place_in setup (instruction_then setup i w))
event_sends setup n i (what.Acc access reply) may sends =
    subst (λ (s : Story). Sends setup.budget (bytes_after n access) s) (sym (goes_push (story setup i.state) i.replies reply))
    (access_sends setup.budget n (place_in setup i) access reply may.0 sends)
event_sends setup n i (what.End part) may sends =
    let left = end_sends setup.budget n (place_in setup i) part may.0 may.1 sends in
    subst (λ (w : Want). Sends setup.budget n (place_in setup (instruction_after i w (reply_with 0)))) (sym may.1)
    (story_sends setup n may.0 left.0 left.1)
event_sends setup n i (what.Handover to) may sends = sends

events_send : (setup : Setup) (n : ℕ) (i : Instruction) (events : List Event) → FollowsFrom setup i events → Sends setup.budget n (place_in setup i)
    → Sends setup.budget (n + length (sent_bytes (accesses_of events))) (place_in setup (leads_to setup i events))
unfolding leads_to
events_send setup n i [] follows sends =
    let same : n ≡ n + 0 = omega arith in
    subst (λ (m : ℕ). Sends setup.budget m (place_in setup i)) same sends
events_send setup n i (e ∷ events) follows sends =
    let after = instruction_then setup i e.what in
    subst (λ (m : ℕ). Sends setup.budget m (place_in setup (leads_to setup after events))) (bytes_more n e.hart.0 e.what (accesses_of events))
    (events_send setup (bytes_then n e.what) after events follows.1 (event_sends setup n i e.what follows.0 sends))

log_sends : (setup : Setup) (hart : ℕ) (events : List Event) → Follows setup hart events
    → Sends setup.budget (length (sent_bytes (accesses_of events))) (place_in setup (instruction_of setup hart events))
log_sends setup hart events follows =
    let same : 0 + length (sent_bytes (accesses_of events)) ≡ length (sent_bytes (accesses_of events)) = omega arith in
    subst (λ (m : ℕ). Sends setup.budget m (place_in setup (instruction_of setup hart events))) same
    (events_send setup 0 (first_instruction setup hart) events follows
    (story_sends setup 0 (first_instruction setup hart).state (omega arith) (omega arith)))

asking_sends : (budget n : ℕ) (s : Story) (access : Access) → want s ≡ Asks access → Sends budget n s → is_transmit access ≡ true → n < budget
asking_sends budget n (Says made next) access e sends transmits =
    let is : made ≡ access = cc in
    sends.0 (ap is_transmit is ∙ transmits)
asking_sends budget n (Closes part after) access e sends transmits = absurd cc
asking_sends budget n StaysOver access e sends transmits = absurd cc
asking_sends budget n (Parks wakes) access e sends transmits = absurd cc

pub asks-bytes : (setup : Setup) (hart : ℕ) (events : List Event) (access : Access) → Follows setup hart events
    → wanted setup (instruction_of setup hart events) ≡ Asks access → is_transmit access ≡ true → length (sent_bytes (accesses_of events)) < setup.budget
asks-bytes setup hart events access follows asks transmits =
    asking_sends setup.budget (length (sent_bytes (accesses_of events))) (place_in setup (instruction_of setup hart events)) access asks
    (log_sends setup hart events follows) transmits
