-- An instruction makes few events, so a hart makes few.
use Rattle.std.proofs.Common.{◌≡◌, ℕ, ◌+◌, ◌-◌, ◌*◌, ◌<◌, zero, suc, Bool, true, false, if◌then◌else◌, ◌==◌, List, ◌++◌, ◌∷◌, [], Option, None, Some, inl, inr, refl, sym, ap, subst, arith}
use Rattle.std.proofs.lemmas.Bool.{cases_eq}
use Rattle.flex_base.specs.Setup.{Setup}
use Rattle.flex_base.specs.State.{State, reg}
use Rattle.flex_base.specs.Place.{in_ram, place_of}
use Rattle.flex_base.specs.Word.{wrap, is_multiple}
use Rattle.flex_base.specs.Causes.{instruction_address_misaligned, instruction_access_fault, load_access_fault, store_access_fault, misaligned, access_fault}
use Rattle.flex_base.specs.Decoding.{decoded}
use Rattle.flex_base.specs.FlatMemory.{is_reserved, reservation_set}
use Rattle.flex_base.specs.StoryTree.{Ends, IsParked, Story, Says, Closes, StaysOver, Parks, want, goes, after_one}
use Rattle.flex_base.specs.Ends.{ends, traps, traps_illegal, returns, jumps, computes, passes, concludes}
use Rattle.flex_base.specs.Translating.{translates}
use Rattle.flex_base.specs.Story.{story, pulses, after_pulse, begins, interrupted_by, fetches_at, works, branches, is_taken, supervises, is_machine, closes_csr, updates_csr, asks_csr, uses_csr, fences_memory, has_pending, ends_wait, waits, at_place, reaches, in_ram_at, loads_at, stores_at, loads_reserved_at, stores_conditional_at, modifies_at, is_tick}
use Rattle.flex_base.specs.Csrs.{TVM, TW, TSR}
use Rattle.flex_base.specs.Traps.{mret, sret, takeable}
use Rattle.flex_base.specs.Zicsr.{CSR_TIME, reads_csr, writes_csr, csr_operand, csr_result, may_use_csr, is_pending_csr, csr_value}
use Rattle.flex_base.specs.Unsplit.{Instruction, instruction_from}
use Rattle.flex_base.specs.declared.access.Access.{Access}
use Rattle.flex_base.specs.declared.access.Access.TheVariants as acc
use Rattle.flex_base.specs.declared.access.Reply.{Reply}
use Rattle.flex_base.specs.declared.class.Class.TheVariants as class
use Rattle.flex_base.specs.declared.event.EndPart.{EndPart}
use Rattle.flex_base.specs.declared.operation.CsrOp.{CsrOp}
use Rattle.flex_base.specs.declared.operation.Op.{Op}
use Rattle.flex_base.specs.declared.operation.Op.TheVariants as op
use Rattle.flex_base.specs.declared.settings.Place.{Place}
use Rattle.flex_base.specs.declared.settings.Place.TheVariants as place
use Rattle.flex_base.specs.declared.translation.Kind.{Kind}
use Rattle.flex_base.specs.declared.translation.Kind.TheVariants as kind
use Rattle.flex_base.proofs.Stories.{goes_on, goes_push, story_spent, story_unspent}
use Rattle.flex_base.proofs.Translating.{more, PassesWalks, translates_has}
use Rattle.flex_base.specs.Following.{next_access, wanted}
use Rattle.context.specs.Fewness.{Within, IsFew}

-- The story of an instruction.

within_more : (s : Story) (n : ℕ) → Within s n → Within s (suc n)
within_more StaysOver n within = tt
within_more (Says access next) zero within = absurd within
within_more (Says access next) (suc n) within = λ reply. within_more (next reply) n (within reply)
within_more (Closes part after) n within = tt
within_more (Parks wakes) zero within = absurd within
within_more (Parks wakes) (suc n) within = λ lines. within_more (wakes lines) n (within lines)

either : (n : ℕ) (b : Bool) (s t : Story) → Within s n → Within t n → Within (if b then s else t) n
either n true s t first second = first
either n false s t first second = second

at_place_within : (n : ℕ) (p : Place) (access device fault : Story) → Within access n → Within device n → Within fault n
    → Within (at_place p access device fault) n
at_place_within n place.Ram access device fault first second third = first
at_place_within n place.Device access device fault first second third = second
at_place_within n place.Nowhere access device fault first second third = third

within_passes : (a : State) (va : ℕ) → PassesWalks a va (λ n s. Within s n)
within_passes a va = record {
  more = λ n s within. within_more s n within;
  reads = λ n address onward within. within;
  faults = λ n cause. tt;
}

-- so does a translation before what makes few events
translates_within : (ram : ℕ) (a : State) (k : Kind) (va n : ℕ) (next : State → ℕ → Story)
    → ((leaves : List _) (address : ℕ) → Within (next (record a { leaves = leaves }) address) (suc n))
    → Within (translates ram a k va next) (more 3 (suc n))
translates_within ram a k va n next within = translates_has ram a k va next (λ m s. Within s m) (within_passes a va) n within

reaches_within : (setup : Setup) (a : State) (k : Kind) (n width va : ℕ) (access : State → ℕ → Story)
    → ((leaves : List _) (address : ℕ) → Within (access (record a { leaves = leaves }) address) (suc n))
    → Within (reaches setup a k width va access) (more 3 (suc n))
reaches_within setup a k n width va access within =
    either (more 3 (suc n)) (is_multiple va width) _ (traps a (misaligned k) va) (translates_within setup.ram a k va n access within) tt

in_ram_within : (setup : Setup) (a : State) (k : Kind) (n width va address : ℕ) (access : Story) → Within access (suc n)
    → Within (in_ram_at setup a k width va address access) (suc n)
in_ram_within setup a k n width va address access within =
    either (suc n) (in_ram setup.ram address width) access (traps a (access_fault k) va) within tt

loads_at_within : (setup : Setup) (a : State) (n width : ℕ) (signed : Bool) (rd va address : ℕ)
    → Within (loads_at setup width signed rd va a address) (suc (suc n))
loads_at_within setup a n width signed rd va address =
    at_place_within (suc (suc n)) (place_of setup.harts setup.ram address width) _ _ (traps a load_access_fault va)
    (λ reply. tt) (λ reply. tt) tt

stores_at_within : (setup : Setup) (a : State) (n width value va address : ℕ)
    → Within (stores_at setup width value va a address) (suc (suc n))
stores_at_within setup a n width value va address =
    at_place_within (suc (suc n)) (place_of setup.harts setup.ram address width) _ _ (traps a store_access_fault va)
    (λ reply. tt) (λ reply. tt) tt

conditional_within : (setup : Setup) (a : State) (n width rd value va address : ℕ)
    → Within (stores_conditional_at setup width rd value va a address) (suc (suc n))
conditional_within setup a n width rd value va address =
    in_ram_within setup a kind.Store (suc n) width va address _
    (either (suc (suc n)) (is_reserved a.reservation (reservation_set address)) _ (concludes a rd 1) (λ reply. tt) tt)

jumps_within : (a : State) (n target rd : ℕ) → Within (jumps a target rd) (suc n)
jumps_within a n target rd =
    either (suc n) (is_multiple target 4) (ends a class.Jump target rd (wrap (a.pc + 4))) (traps a instruction_address_misaligned target) tt tt

branches_within : (a : State) (n : ℕ) (taken : Bool) (target : ℕ) → Within (branches a taken target) (suc n)
branches_within a n taken target = either (suc n) taken _ (passes a class.Jump) (jumps_within a n target 0) tt

updates_csr_within : (a : State) (n : ℕ) (does : CsrOp) (rd rs1 number old : ℕ) → Within (updates_csr a does rd rs1 number old) (suc n)
updates_csr_within a n does rd rs1 number old =
    either (suc n) (writes_csr does rs1) (closes_csr a number rd old (csr_result does old (csr_operand does a.x rs1)))
    (computes a class.Csr rd old) tt tt

asks_csr_within : (a : State) (n : ℕ) (does : CsrOp) (rd rs1 number : ℕ) → Within (asks_csr a does rd rs1 number) (suc (suc n))
asks_csr_within a n does rd rs1 number =
    either (suc (suc n)) (is_pending_csr number) _ _
    (λ reply. either (suc n) reply.stop StaysOver _ tt
    (updates_csr_within (record a { lines = reply.lines }) n does rd rs1 number (csr_value a number reply.lines 0)))
    (either (suc (suc n)) (number == CSR_TIME) _ _
    (λ reply. updates_csr_within a n does rd rs1 number (csr_value a number 0 reply.value))
    (updates_csr_within a (suc n) does rd rs1 number (csr_value a number 0 0)))

uses_csr_within : (a : State) (n word : ℕ) (does : CsrOp) (rd rs1 number : ℕ) → Within (uses_csr a word does rd rs1 number) (suc (suc n))
uses_csr_within a n word does rd rs1 number =
    either (suc (suc n)) (may_use_csr a does rd rs1 number) _ (traps_illegal a word)
    (either (suc (suc n)) (reads_csr does rd) _ _ (asks_csr_within a n does rd rs1 number) (updates_csr_within a (suc n) does rd rs1 number 0))
    tt

-- WFI makes a wait and a pulse before its end
waits_within : (a : State) (n : ℕ) → Within (waits a) (more 3 n)
waits_within a n =
    either (more 3 n) (has_pending a.csrs) _ _
    (λ reply. either (more 2 n) reply.stop StaysOver (ends_wait a reply.lines) tt tt)
    (λ reply. either (more 2 n) reply.stop StaysOver _ tt
    (either (more 2 n) (reply.value == 1) (Parks (ends_wait a)) (ends_wait a reply.lines) (λ lines. tt) tt))

-- an instruction makes at most three reads of a walk and one access before its end
works_within : (setup : Setup) (a : State) (n word : ℕ) (o : Op) → Within (works setup a word o) (more 5 n)
works_within setup a n word (op.Jal rd imm) = jumps_within a (more 4 n) _ rd
works_within setup a n word (op.Jalr rd rs1 imm) = jumps_within a (more 4 n) _ rd
works_within setup a n word (op.Branch compares rs1 rs2 imm) = branches_within a (more 4 n) (is_taken compares (reg a.x rs1) (reg a.x rs2)) (wrap (a.pc + imm))
works_within setup a n word (op.Load width signed rd rs1 imm) =
    let va = wrap (reg a.x rs1 + imm) in
    reaches_within setup a kind.Load (suc n) width va (loads_at setup width signed rd va)
    (λ leaves address. loads_at_within setup (record a { leaves = leaves }) n width signed rd va address)
works_within setup a n word (op.Store width rs1 rs2 imm) =
    let va = wrap (reg a.x rs1 + imm) in
    reaches_within setup a kind.Store (suc n) width va (stores_at setup width (reg a.x rs2) va)
    (λ leaves address. stores_at_within setup (record a { leaves = leaves }) n width (reg a.x rs2) va address)
works_within setup a n word (op.Lr width rd rs1 aq rl) =
    let va = reg a.x rs1 in
    reaches_within setup a kind.Load (suc n) width va (loads_reserved_at setup width rd va)
    (λ leaves address. in_ram_within setup (record a { leaves = leaves }) kind.Load (suc n) width va address _ (λ reply. tt))
works_within setup a n word (op.Sc width rd rs1 rs2 aq rl) =
    let va = reg a.x rs1 in
    reaches_within setup a kind.Store (suc n) width va (stores_conditional_at setup width rd (reg a.x rs2) va)
    (λ leaves address. conditional_within setup (record a { leaves = leaves }) n width rd (reg a.x rs2) va address)
works_within setup a n word (op.Amo does width rd rs1 rs2 aq rl) =
    let va = reg a.x rs1 in
    reaches_within setup a kind.Store (suc n) width va (modifies_at setup does width rd (reg a.x rs2) va)
    (λ leaves address. in_ram_within setup (record a { leaves = leaves }) kind.Store (suc n) width va address _ (λ reply. tt))
works_within setup a n word (op.Csr does rd rs1 number) = uses_csr_within a (more 3 n) word does rd rs1 number
works_within setup a n word op.Mret = either (more 5 n) (is_machine a.mode) (returns a (mret a.csrs)) (traps_illegal a word) tt tt
works_within setup a n word op.Sret = either (more 5 n) (supervises TSR a.csrs a.mode) (returns a (sret a.csrs)) (traps_illegal a word) tt tt
works_within setup a n word op.Wfi = either (more 5 n) (supervises TW a.csrs a.mode) (waits a) (traps_illegal a word) (waits_within a (more 2 n)) tt
works_within setup a n word (op.SfenceVma rs1 rs2) = either (more 5 n) (supervises TVM a.csrs a.mode) (fences_memory a) (traps_illegal a word) tt tt
works_within setup a n word other = tt

fetches_at_within : (setup : Setup) (a : State) (n address : ℕ) → Within (fetches_at setup a address) (more 6 n)
fetches_at_within setup a n address =
    either (more 6 n) (in_ram setup.ram address 4) (goes_on setup a address) (traps a instruction_access_fault a.pc)
    (λ reply. works_within setup a n reply.value (decoded reply.value)) tt

begins_within : (setup : Setup) (a : State) (n : ℕ) → Within (begins setup a) (more 9 n)
begins_within setup a n = by (takeable a.csrs a.lines a.mode)
  where
    by : (cause : Option ℕ) → Within (interrupted_by setup a cause) (more 9 n)
    by None = translates_within setup.ram a kind.Fetch a.pc (more 5 n) (fetches_at setup)
        (λ leaves address. fetches_at_within setup (record a { leaves = leaves }) n address)
    by (Some cause) = tt

pulses_within : (setup : Setup) (a : State) → Within (pulses setup a) 10
pulses_within setup a = either 10 a.due (Says (acc.Pulse (is_tick a)) (after_pulse setup a)) (begins setup a)
    (λ reply. either 9 reply.stop StaysOver _ tt (begins_within setup (record a { lines = reply.lines }) 0))
    (begins_within setup a 1)

pub story_within : (setup : Setup) (a : State) → Within (story setup a) 10
story_within setup a = elim (cases_eq a.ends setup.budget) [
  | inl spent ↦ subst (λ (s : Story). Within s 10) (sym (story_spent setup a spent)) (λ reply. tt)
  | inr unspent ↦ subst (λ (s : Story). Within s 10) (sym (story_unspent setup a unspent)) (pulses_within setup a)
]

-- One event more.

-- the access that comes next leaves one event fewer
pub record Leaves (s : Story) (rest : ℕ) : Type 0 where
  pub after : ℕ
  pub fewer : rest ≡ suc after
  pub within : Within s after

unparks : (n : ℕ) (stop one : Bool) (wakes : ℕ → Story) (lines : ℕ) → one ≡ false → ((told : ℕ) → Within (wakes told) n)
    → Within (if stop then StaysOver else (if one then Parks wakes else wakes lines)) n
unparks n true one wakes lines woken within = tt
unparks n false true wakes lines woken within = absurd cc
unparks n false false wakes lines woken within = within lines

access_leaves : (s : Story) (access : Access) (reply : Reply) (rest : ℕ) → next_access (want s) ≡ Some access
    → (want s ≡ IsParked → reply.value ≡ 0) → Within s rest → Leaves (after_one s reply) rest
access_leaves (Says made next) access reply zero e woken within = absurd within
access_leaves (Says made next) access reply (suc n) e woken within = record { after = n; fewer = refl; within = within reply }
access_leaves (Parks wakes) access reply zero e woken within = absurd within
access_leaves (Parks wakes) access reply (suc n) e woken within = record {
  after = n;
  fewer = refl;
  within = unparks n reply.stop (reply.value == 1) wakes reply.lines (ap (λ v. v == 1) (woken refl)) within;
}
access_leaves (Closes part after) access reply rest e woken within = absurd cc
access_leaves StaysOver access reply rest e woken within = absurd cc

pub few_access : (setup : Setup) (i : Instruction) (access : Access) (reply : Reply) (made : ℕ) → next_access (wanted setup i) ≡ Some access
    → (wanted setup i ≡ IsParked → reply.value ≡ 0) → IsFew setup i made → IsFew setup (record i { replies = i.replies ++ reply ∷ [] }) (made + 1)
few_access setup i access reply made e woken few =
    let l = access_leaves (goes (story setup i.state) i.replies) access reply few.rest e woken few.within in
    record {
      rest = l.after;
      within = subst (λ (s : Story). Within s l.after) (sym (goes_push (story setup i.state) i.replies reply)) l.within;
      bound = omega (arith, few.bound, l.fewer);
    }

end_leaves : (s : Story) (part : EndPart) (after : State) (rest : ℕ) → want s ≡ Ends part after → Within s rest → 0 < rest
end_leaves (Closes other left) part after zero e within = absurd within
end_leaves (Closes other left) part after (suc n) e within = omega arith
end_leaves (Says access next) part after rest e within = absurd cc
end_leaves StaysOver part after rest e within = absurd cc
end_leaves (Parks wakes) part after rest e within = absurd cc

pub few_end : (setup : Setup) (i : Instruction) (part : EndPart) (after : State) (made : ℕ) → wanted setup i ≡ Ends part after
    → i.state.ends < setup.budget → after.ends ≡ i.state.ends + 1 → IsFew setup i made → IsFew setup (instruction_from after) (made + 1)
few_end setup i part after made e unspent more few =
    let one = end_leaves (goes (story setup i.state) i.replies) part after few.rest e few.within in
    let fewer : 11 * (setup.budget - after.ends) + 11 ≡ 11 * (setup.budget - i.state.ends) = omega (arith, unspent, more) in
    record {
      rest = 10;
      within = story_within setup after;
      bound = omega (arith, few.bound, one, fewer);
    }
