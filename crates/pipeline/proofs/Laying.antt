-- Where an instruction is laid into the latches.
use Rattle.std.proofs.Common.{◌≡◌, ℕ, zero, suc, ◌-◌, Bool, true, false, List, slice_index_or, Option, None, refl, sym, ap, ◌∙◌, inl, inr}
use Rattle.context.specs.Contexts.{Context, IsWantedIn}
use Rattle.context.specs.Runs.{MakesNone}
use Rattle.context.proofs.Keeping.{wants_one}
use Rattle.pipeline.specs.declared.flight.Flight.{Flight}
use Rattle.pipeline.specs.Pipes.{no_flights, latch_for, IsDue, LaysNone, HasLaid}
use Rattle.pipeline.proofs.Working.{makes_one}

-- a hart's next event is due in one latch
pub one_due : (c : Context) (latch other : ℕ) → IsDue c latch → IsDue c other → latch ≡ other
one_due c latch other one two = sym one.latch_is ∙ ap latch_for (wants_one c one.wants two.wants one.wanting two.wanting) ∙ two.latch_is

-- who wants an event of its engine has one due
pub wanted_due : (c : Context) → IsWantedIn c c.engine → (latch : ℕ) × IsDue c latch
wanted_due c (w, wanting, here) = (latch_for w, record { wants = w; wanting = wanting; here = here; latch_is = refl })

-- where the latch before the one of its next event is free, a hart is laid
pub laid_if_free : (place : ℕ) (c : Context) (old new : List (Option Flight)) (laid : Bool) (latch : ℕ) → HasLaid place c old new laid → IsDue c latch
    → slice_index_or old (latch - 1) None ≡ None → laid ≡ true
laid_if_free place c old new true latch has due free = refl
laid_if_free place c old new false latch has due free = elim has.why [
  | inl none ↦ absurd (makes_one c latch due none)
  | inr taken ↦
      let (other, is_due, some) = taken in
      let Read : ℕ → Option Flight = λ n. slice_index_or old (n - 1) None in
      absurd (some (ap Read (one_due c other latch is_due due) ∙ free))
]

-- of empty latches each is

pub none_at : (latch : ℕ) → slice_index_or no_flights latch None ≡ None
none_at zero = refl
none_at (suc zero) = refl
none_at (suc (suc zero)) = refl
none_at (suc (suc (suc zero))) = refl
none_at (suc (suc (suc (suc zero)))) = refl
none_at (suc (suc (suc (suc (suc zero))))) = refl
none_at (suc (suc (suc (suc (suc (suc n)))))) = refl

free_at : (latches : List (Option Flight)) (latch : ℕ) → latches ≡ no_flights → slice_index_or latches latch None ≡ None
free_at latches latch empty =
    let Read : List (Option Flight) → Option Flight = λ l. slice_index_or l latch None in
    ap Read empty ∙ none_at latch

pub laid_if_empty : (place : ℕ) (c : Context) (old new : List (Option Flight)) (laid : Bool) → HasLaid place c old new laid → old ≡ no_flights → IsWantedIn c c.engine
    → laid ≡ true
laid_if_empty place c old new laid has empty wanted =
    let (latch, due) = wanted_due c wanted in
    laid_if_free place c old new laid latch has due (free_at old (latch - 1) empty)

-- so who isn't laid into them has none
pub none_if_not_laid : (c : Context) (old new : List (Option Flight)) → LaysNone c old new → old ≡ no_flights → MakesNone c
none_if_not_laid c old new none empty = elim none.why [
  | inl why ↦ why
  | inr taken ↦
      let (due, is_due, some) = taken in
      absurd (some (free_at old (due - 1) empty))
]
