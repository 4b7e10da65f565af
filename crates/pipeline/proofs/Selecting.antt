-- None of some harts may start.
use Rattle.std.proofs.Common.{◌≡◌, ℕ, ◌+◌, false, List, slice_index_or, Option, None, Some, IfSome, IfNone, inl, inr, subst, arith}
use Rattle.std.proofs.lemmas.Bool.{cases_eq, cases_lt}
use Rattle.context.specs.Contexts.{Context}
use Rattle.context.specs.Runs.{MakesNone}
use Rattle.pipeline.specs.declared.flight.Flight.{Flight}
use Rattle.pipeline.specs.Pipes.{is_among, NoneMayStart}

-- nor may one hart more
pub none_more : (held : List Context) (latches : List (Option Flight)) (from place : ℕ) → NoneMayStart held latches from place
    → ((c : Context) → is_among latches place ≡ false → slice_index_or held place c ≡ c → MakesNone c) → NoneMayStart held latches from (place + 1)
none_more held latches from place before here k c at_least below free is = elim (cases_eq k place) [
  | inl same ↦
      let Free : ℕ → Type 0 = λ n. is_among latches n ≡ false in
      let Is : ℕ → Type 0 = λ n. slice_index_or held n c ≡ c in
      here c (subst Free same free) (subst Is same is)
  | inr other ↦ before k c at_least (omega (arith, below, other)) free is
]

-- those from a place on and those before it are all
pub none_joined : (held : List Context) (latches : List (Option Flight)) (from middle to : ℕ) → NoneMayStart held latches from middle
    → NoneMayStart held latches middle to → NoneMayStart held latches from to
none_joined held latches from middle to one two k c at_least below free is = elim (cases_lt k middle) [
  | inl before ↦ one k c at_least before free is
  | inr after ↦ two k c after below free is
]

pub none_follows : (found : Option Flight) (A B : Type 0) → (A → B) → IfNone found A → IfNone found B
none_follows None A B f a = f a
none_follows (Some x) A B f a = a

pub some_follows : (found : Option Flight) (A B : Flight → Type 0) → ((f : Flight) → A f → B f) → IfSome found A → IfSome found B
some_follows (Some f) A B follows a = follows f a
some_follows None A B follows a = a
