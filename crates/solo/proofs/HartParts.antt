-- The parts of a journal, by harts.
use Rattle.std.proofs.Common.{◌≡◌, ℕ, ◌<◌, ◌==◌, if◌then◌else◌, List, [], ◌∷◌, refl}
use Rattle.std.specs.List.{All}
use Rattle.std.proofs.lemmas.List.Elements.{All-cons, All-nil}
use Rattle.flex_base.specs.declared.event.Event.{Event}
use Rattle.journal.specs.Merged.{of_hart}
use Rattle.solo.specs.Rising.{AreOfHarts}

pub of_hart-cons : (h : ℕ) (e : Event) (events : List Event) → of_hart h (e ∷ events) ≡ (if e.hart.0 == h then e ∷ of_hart h events else of_hart h events)
unfolding of_hart
of_hart-cons h e events = refl

pub all_of_harts : (harts : ℕ) (events : List Event) → AreOfHarts harts events → All (λ (e : Event). e.hart.0 < harts) events
all_of_harts harts [] are = All-nil (λ (e : Event). e.hart.0 < harts)
all_of_harts harts (e ∷ events) are = All-cons (λ (x : Event). x.hart.0 < harts) e events are.0 (all_of_harts harts events are.1)
