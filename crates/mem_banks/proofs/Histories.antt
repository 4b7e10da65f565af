-- What the banks of a bus of one thread have done, and what an event adds.
use Rattle.std.proofs.Common.{◌≡◌, ℕ, zero, suc, ◌+◌, ◌<◌, ◌≤◌, List, [], ◌∷◌, ◌++◌, map, length, set, replicate, refl, sym, ap, ◌∙◌, subst, Option, None, Some, arith}
use Rattle.std.specs.Prelude.{slice_index_or, IfNone}
use Rattle.std.proofs.lemmas.List.{get_or-map, map-set, replicate_more}
use Rattle.std.proofs.lemmas.List.{map-append}
use Rattle.std.proofs.Math.Seq.{map-set_same}
use Rattle.flex_base.specs.FlatMemory.{Done}
use Rattle.flex_base.specs.Banks.{access_in, IsAnswered}
use Rattle.flex_base.specs.declared.access.Access.{Access}
use Rattle.flex_base.specs.declared.access.Reply.{Reply}
use Rattle.flex_base.specs.declared.event.What.TheVariants as what
use Rattle.access_record.specs.Passes.{RecordIdentity, PassOfBank}
use Rattle.access_record.specs.Buses.{Run, ram_banks, place_in}
use Rattle.access_record.specs.Histories.{History, done_at, history_after, IsAnsweredIn, Grows}
use Rattle.mem_banks.specs.Slots.{pass_of, done_in}
use Rattle.mem_banks.specs.Plain.{new_slots}
use Rattle.mem_banks.proofs.Plains.{new_slots-more}

-- the history of these slots
abbrev pub history_of : ℕ → List (Option PassOfBank) → History
history_of least slots = record { least = least; banks = map done_in slots }

-- The slot of a bank, and another in its place.

module _ (slots : List (Option PassOfBank)) (k : ℕ) (old : Option PassOfBank) (at : old ≡ slice_index_or slots k old) where
  -- a pass that has only seen more
  pub banks-shared : (new : Option PassOfBank) → done_in new ≡ done_in old → map done_in (set slots k new) ≡ map done_in slots
  banks-shared new same = map-set_same done_in slots k new old (same ∙ ap done_in at)

  module _ (within : k < length slots) where
    -- what the bank has done
    pub done-slot : slice_index_or (map done_in slots) k [] ≡ done_in old
    done-slot = get_or-map done_in slots k old [] within ∙ ap done_in (sym at)

    module _ (run : Run) (least hart : ℕ) (access : Access) (reply : Reply) (here : place_in run access ≡ k) where
      done-here : done_at (history_of least slots) (place_in run access) ≡ done_in old
      done-here = ap (λ (n : ℕ). slice_index_or (map done_in slots) n []) here ∙ done-slot

      -- an access at the bank
      pub answered-slot : IsAnswered run.setup (ram_banks run) k (done_in old) hart access reply
          → IsAnsweredIn run (history_of least slots) hart (what.Acc access reply)
      answered-slot answered =
          subst (λ (x : ℕ × List Done). IsAnswered run.setup (ram_banks run) x.0 x.1 hart access reply) (λ i. (sym here i, sym done-here i)) answered

      pub banks-more : (new : Option PassOfBank) (number : ℕ) → done_in new ≡ done_in old ++ access_in hart (what.Acc access reply)
          → map done_in (set slots k new) ≡ (history_after run (history_of least slots) hart (what.Acc access reply) number).banks
      banks-more new number more =
          map-set done_in slots k new
          ∙ ap (λ (x : ℕ × List Done). set (map done_in slots) x.0 x.1)
          (λ i. (sym here i, (more ∙ ap (λ (made : List Done). made ++ access_in hart (what.Acc access reply)) (sym done-here)) i))

-- An access more, when its bank has it and the bus has learned the number.

pub grows : (run : Run) (old now after : History) (hart : ℕ) (access : Access) (reply : Reply) (number : ℕ) → old.least ≤ number
    → IsAnsweredIn run old hart (what.Acc access reply) → now.banks ≡ (history_after run old hart (what.Acc access reply) number).banks
    → after ≡ record now { least = number + 1 } → Grows run old hart (what.Acc access reply) number (Some after)
grows run old now after hart access reply number rises answered banks is = record {
  rises = rises;
  answered = answered;
  grown = ap Some (is ∙ ap (λ (b : List (List Done)). record { least = number + 1; banks = b }) banks);
}

-- where there is no value, what follows from what a clause says
pub if_none : {X : Type 0} (r : Option X) {P Q : Type 0} → IfNone r P → (P → Q) → IfNone r Q
if_none None p then = then p
if_none (Some x) p then = tt

-- How it begins.

pub banks-new : (book : RecordIdentity) (n : ℕ) → map done_in (new_slots book n) ≡ replicate n []
banks-new book zero = refl
banks-new book (suc n) =
    let one : suc n ≡ n + 1 = omega arith in
    let last : Option PassOfBank = Some (pass_of book n [] 0) in
    ap (λ (m : ℕ). map done_in (new_slots book m)) one
    ∙ ap (map done_in) (new_slots-more book n)
    ∙ map-append done_in (new_slots book n) (last ∷ [])
    ∙ ap (λ (ds : List (List Done)). ds ++ [] ∷ []) (banks-new book n)
    ∙ replicate_more n []
    ∙ ap (λ (m : ℕ). replicate m []) (sym one)
