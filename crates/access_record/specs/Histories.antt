-- What a bus of one thread has done, and what an event adds to it.
use Rattle.std.specs.Prelude.{◌≡◌, ℕ, ◌+◌, ◌≤◌, true, List, [], ◌++◌, slice_set, slice_index_or, Option, None, Some}
use Rattle.flex_base.specs.FlatMemory.{Done}
use Rattle.flex_base.specs.Banks.{access_in, IsAnswered}
use Rattle.flex_base.specs.declared.event.What.{What}
use Rattle.flex_base.specs.declared.event.What.TheVariants as what
use Rattle.access_record.specs.Buses.{Run, ram_banks, place_in, is_unwoken_after}

-- the least number that may come next, and the accesses of each bank in order, those of the devices last
pub record History : Type 0 where
  pub least : ℕ
  pub banks : List (List Done)

-- the accesses of this bank
abbrev pub done_at : History → ℕ → List Done
done_at history bank = slice_index_or history.banks bank []

-- the history with an event of this hart more: an access stands at its bank, and the next number is above the event's
abbrev pub history_after : Run → History → ℕ → What → ℕ → History
history_after run old hart (what.Acc access reply) number = record {
  least = number + 1;
  banks = slice_set old.banks (place_in run access) (done_at old (place_in run access) ++ access_in hart (what.Acc access reply));
}
history_after run old hart other number = record old { least = number + 1 }

-- the reply to an access is that of its bank after the accesses that this bank had
abbrev pub IsAnsweredIn : Run → History → ℕ → What → Type 0
IsAnsweredIn run old hart (what.Acc access reply) =
    IsAnswered run.setup (ram_banks run) (place_in run access) (done_at old (place_in run access)) hart access reply
IsAnsweredIn run old hart other = Unit {0}

-- an event of this hart, with this number, may come next, and it alone was added
pub record Grows (run : Run) (old : History) (hart : ℕ) (happened : What) (number : ℕ) (after : Option History) : Type 0 where
  pub rises : old.least ≤ number
  pub answered : IsAnsweredIn run old hart happened
  pub grown : after ≡ Some (history_after run old hart happened number)

-- what a bus tells of its history before and after an event: one that threads share has none
abbrev pub InHistory : Run → Option History → ℕ → What → ℕ → Option History → Type 0
InHistory run None hart happened number after = after ≡ None
InHistory run (Some old) hart happened number after = Grows run old hart happened number after

-- where there is a history, the hart waits in it and isn't woken
abbrev pub IsUnwokenIn : Run → Option History → ℕ → Type 0
IsUnwokenIn run None hart = Unit {0}
IsUnwokenIn run (Some history) hart = is_unwoken_after run (done_at history (ram_banks run)) hart ≡ true
