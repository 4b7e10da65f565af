-- What is in the latches is the instruction of one hart.
use Rattle.std.proofs.Common.{◌≡◌, ◌≢◌, ℕ, zero, suc, ◌+◌, ◌-◌, ◌<◌, ◌≤◌, List, [], ◌∷◌, length, get_or, set, Option, None, Some, refl, sym, ap, subst, ◌∙◌, arith, inl, inr}
use Rattle.std.proofs.lemmas.Bool.{cases_eq}
use Rattle.std.proofs.lemmas.List.{get_or-set_same, get_or-set_other, get_or-take, length-set}
use Rattle.flex_base.specs.declared.class.Class.{Class}
use Rattle.access_record.specs.Buses.{Run}
use Rattle.access_record.specs.Histories.{History}
use Rattle.mem_banks.specs.Plain.{Plain}
use Rattle.context.specs.declared.wants.Wants.{Wants}
use Rattle.context.specs.declared.wants.Wants.TheVariants as wants
use Rattle.context.specs.Contexts.{Context, IsOn, IsSame, Goes}
use Rattle.context.specs.Runs.{MakesNone}
use Rattle.pipeline.specs.declared.flight.Flight.{Flight}
use Rattle.pipeline.specs.declared.flight.Made.{Made}
use Rattle.pipeline.specs.Pipes.{no_flights, moved, IsAt, IsInFlight, AreInFlight, AreOn, Works, HasWorked, HasAdvanced, Lays, LaysNone}
use Rattle.solo.specs.Solo.{Solo}
use Rattle.solo.specs.Engines.{IsFlying}
use Rattle.solo.proofs.Stepping.{with_hart}

-- Latches with nothing in them.

pub none_at : (latch : ℕ) → get_or no_flights latch None ≡ None
none_at zero = refl
none_at (suc zero) = refl
none_at (suc (suc zero)) = refl
none_at (suc (suc (suc zero))) = refl
none_at (suc (suc (suc (suc zero)))) = refl
none_at (suc (suc (suc (suc (suc zero))))) = refl
none_at (suc (suc (suc (suc (suc (suc n)))))) = refl

never_at : (latch : ℕ) (f : Flight) → IsAt no_flights latch f → ⊥
never_at latch f at =
    let none : Some f ≡ None = sym at ∙ none_at latch in
    cc

-- they are of any harts
none_in_flight : (held : List Context) → AreInFlight held no_flights
none_in_flight held = record {
  six = refl;
  each = λ latch f at. absurd (never_at latch f at);
  once = λ one other f g at there same. absurd (never_at one f at);
}

pub new_in_flight : (held : List Context) (latches : List (Option Flight)) → latches ≡ no_flights → AreInFlight held latches
new_in_flight held latches is =
    let Of : List (Option Flight) → Type 0 = λ l. AreInFlight held l in
    subst Of (sym is) (none_in_flight held)

pub new_flying : (s : Solo) (h : ℕ) (latches : List (Option Flight)) → latches ≡ no_flights → IsFlying s h latches
new_flying s h latches is = λ other. new_in_flight (get_or s.contexts h other ∷ []) latches is

-- the hart that was read of a machine
pub flying_read : (now s : Solo) (h : ℕ) (c : Context) (latches : List (Option Flight)) → s ≡ now → c ≡ get_or s.contexts h c → IsFlying now h latches
    → AreInFlight (c ∷ []) latches
flying_read now s h c latches view read flying =
    let Of : Context → Type 0 = λ x. AreInFlight (x ∷ []) latches in
    subst Of (sym (read ∙ ap (λ (x : Solo). get_or x.contexts h c) view)) (flying c)

-- and that is written back
pub flying_set : (s : Solo) (h : ℕ) (new : Context) (bus : Plain) (latches : List (Option Flight)) → h < length s.contexts → AreInFlight (new ∷ []) latches
    → IsFlying (with_hart s h new bus) h latches
flying_set s h new bus latches within flying = λ other.
    let Of : Context → Type 0 = λ x. AreInFlight (x ∷ []) latches in
    subst Of (sym (get_or-set_same s.contexts h new other within)) flying

-- The instruction of a hart is laid into them.

module _ (latch : ℕ) (f : Flight) (few : latch < 6) where
  laid_at : (k : ℕ) (g : Flight) → IsAt (set no_flights latch (Some f)) k g → (k ≡ latch) × (f ≡ g)
  laid_at k g at = elim (cases_eq k latch) [
    | inl same ↦
        let At : ℕ → Type 0 = λ n. IsAt (set no_flights latch (Some f)) n g in
        let is : Some f ≡ Some g = sym (get_or-set_same no_flights latch (Some f) None few) ∙ subst At same at in
        (same, cc)
    | inr other ↦ absurd (never_at k g (sym (get_or-set_other no_flights latch k (Some f) None other) ∙ at))
  ]

  laid_in_flight : (held : List Context) → IsInFlight held latch f → AreInFlight held (set no_flights latch (Some f))
  laid_in_flight held on = record {
    six = length-set no_flights latch (Some f);
    each = λ k g at.
        let (there, is) = laid_at k g at in
        let Is : ℕ × Flight → Type 0 = λ x. IsInFlight held x.0 x.1 in
        subst Is (λ i. (sym there i, is i)) on;
    once = λ one other g h at there same. (laid_at one g at).0 ∙ sym (laid_at other h there).0;
  }

module _ (c : Context) (old new : List (Option Flight)) (empty : old ≡ no_flights) (lays : Lays 0 c old new) where
  abbrev laid : Option Flight
  laid = Some (record { place = 0; due = lays.due })

  few : lays.due - 1 < 6
  few = omega (arith, lays.most)

  laid_is : new ≡ set no_flights (lays.due - 1) laid
  laid_is =
      let Set : List (Option Flight) → List (Option Flight) = λ l. set l (lays.due - 1) laid in
      lays.laid ∙ ap Set empty

  pub laid_flying : AreInFlight (c ∷ []) new
  laid_flying =
      let f : Flight = record { place = 0; due = lays.due } in
      let on : IsInFlight (c ∷ []) (lays.due - 1) f = record {
        later = omega (arith, lays.some);
        most = lays.most;
        hart = (c, omega arith, refl, lays.is_due);
      } in
      let Are : List (Option Flight) → Type 0 = λ l. AreInFlight (c ∷ []) l in
      subst Are (sym laid_is) (laid_in_flight (lays.due - 1) f few (c ∷ []) on)

  pub laid_some : (latch : ℕ) × (f : Flight) × IsAt new latch f
  laid_some =
      let Read : List (Option Flight) → Option Flight = λ l. get_or l (lays.due - 1) None in
      (lays.due - 1, record { place = 0; due = lays.due }, ap Read laid_is ∙ get_or-set_same no_flights (lays.due - 1) laid None few)

-- each of them is free, so who isn't laid has no event due
pub laid_none : (c : Context) (old new : List (Option Flight)) → old ≡ no_flights → LaysNone c old new → MakesNone c
laid_none c old new empty none = elim none.why [
  | inl why ↦ why
  | inr taken ↦
      let Read : List (Option Flight) → Option Flight = λ l. get_or l (taken.0 - 1) None in
      absurd (taken.2 (ap Read empty ∙ none_at (taken.0 - 1)))
]

-- They move on while nothing is made.

-- an instruction is in this latch or in a later one
abbrev pub IsPast : List (Option Flight) → ℕ → Type 0
IsPast latches n = (latch : ℕ) × (f : Flight) × IsAt latches latch f × (n ≤ latch)

pub past_more : (held : List Context) (latches left : List (Option Flight)) (n : ℕ) → AreInFlight held latches → left ≡ moved latches → IsPast latches n
    → IsPast left (n + 1)
past_more held latches left n flying is past =
    let (latch, f, at, from) = past in
    let on = flying.each latch f at in
    let few : latch < 5 = omega (arith, on.later, on.most) in
    let Read : List (Option Flight) → Option Flight = λ l. get_or l (suc latch) None in
    (suc latch, f, ap Read is ∙ get_or-take 5 latches latch None few ∙ at, omega (arith, from))

-- What a hart alone makes in a move.

pub record HasMadeOne (run : Run) (before after : Option History) (wanted : Class → Wants) (c : Context) (new : List Context) : Type 0 where
  pub next : Context
  pub new_is : new ≡ next ∷ []
  pub goes : Goes run before after wanted c next
  pub same : IsSame c next

-- the list of one context, by what is read of it
module _ (next : Context) (new : List Context) (is : new ≡ next ∷ []) (d : Context) where
  pub alone_read : get_or new 0 d ≡ next
  alone_read =
      let Read : List Context → Context = λ l. get_or l 0 d in
      ap Read is

  pub alone_on : (run first : Run) → run ≡ first → AreOn run new → IsOn first (get_or new 0 d)
  alone_on run first same on =
      let On : Run → Type 0 = λ r. IsOn r (get_or new 0 d) in
      subst On same (on 0 d (omega (arith, ap length is)))

  pub alone_flying : (latches : List (Option Flight)) → AreInFlight new latches → AreInFlight (get_or new 0 d ∷ []) latches
  alone_flying latches flying =
      let Are : List Context → Type 0 = λ l. AreInFlight l latches in
      let One : Context → List Context = λ x. x ∷ [] in
      subst Are (is ∙ ap One (sym alone_read)) flying

-- and its event
module _ (run : Run) (before after : Option History) (wanted : Class → Wants) (c : Context) (new : List Context) (one : HasMadeOne run before after wanted c new) (d : Context) where
  pub one_goes : Goes run before after wanted c (get_or new 0 d)
  one_goes =
      let Are : Context → Type 0 = λ x. Goes run before after wanted c x in
      subst Are (sym (alone_read one.next new one.new_is d)) one.goes

  pub one_same : IsSame c (get_or new 0 d)
  one_same =
      let Are : Context → Type 0 = λ x. IsSame c x in
      subst Are (sym (alone_read one.next new one.new_is d)) one.same

module _ (run : Run) (before after : Option History) (wanted : Class → Wants) (latch : ℕ) where
  worked_none : (n : ℕ) (o : Option Flight) (old new : List Context) → n ≡ 0 → HasWorked run before after wanted latch n o old new → (new ≡ old) × (after ≡ before)
  worked_none zero o old new none worked = (worked.1, worked.2)
  worked_none (suc n) o old new none worked = absurd (omega (arith, none))

  worked_one : (n : ℕ) (o : Option Flight) (old new : List Context) → n ≢ 0 → HasWorked run before after wanted latch n o old new
      → (f : Flight) × (o ≡ Some f) × Works run before after wanted f old new
  worked_one zero o old new some worked = absurd (some refl)
  worked_one (suc zero) (Some f) old new some worked = (f, refl, worked.1)
  worked_one (suc zero) None old new some worked = absurd worked
  worked_one (suc (suc n)) (Some f) old new some worked = absurd worked
  worked_one (suc (suc n)) None old new some worked = absurd worked

  works_alone : (f : Flight) (c : Context) (new : List Context) → Works run before after wanted f (c ∷ []) new → HasMadeOne run before after wanted c new
  works_alone f c new works =
      let first : f.place ≡ 0 = omega (arith, works.there) in
      let Read : ℕ → Context = λ k. get_or (c ∷ []) k works.was in
      let is : c ≡ works.was = sym (ap Read first) ∙ works.was_is in
      let Made : Context → Type 0 = λ x. Goes run before after wanted x works.next × IsSame x works.next in
      let made = subst Made (sym is) (works.goes, works.same) in
      let Set : ℕ → List Context = λ k. set (c ∷ []) k works.next in
      record { next = works.next; new_is = works.held ∙ ap Set first; goes = made.0; same = made.1 }

-- with nothing else before and after it
made_alone : (run : Run) (was before after then : Option History) (wanted : Class → Wants) (f : Flight) (c : Context) (old held new : List Context) → old ≡ c ∷ [] → was ≡ before
    → new ≡ held → then ≡ after → Works run was after wanted f old held → HasMadeOne run before then wanted c new
made_alone run was before after then wanted f c old held new alone first last end works =
    let Is : (Option History) × (Option History) × (List Context) × (List Context) → Type 0 = λ x. Works run x.0 x.1 wanted f x.2 x.3 in
    works_alone run before then wanted 0 f c new (subst Is (λ i. (first i, sym end i, alone i, sym last i)) works)

module _ (run : Run) (before after : Option History) (made : Made) (c : Context) (new : List Context) (latches left : List (Option Flight))
    (flying : AreInFlight (c ∷ []) latches) (a : HasAdvanced run before after made latches left (c ∷ []) new) where
  -- its instruction is in one latch
  only : (one other : ℕ) (f g : Flight) → IsAt latches one f → IsAt latches other g → one ≡ other
  only one other f g at there =
      flying.once one other f g at there (omega (arith, (flying.each one f at).hart.1, (flying.each other g there).hart.1))

  -- so nothing is made in another
  idle : (was later : Option History) (wanted : Class → Wants) (due k l n : ℕ) (f : Flight) (old held : List Context) → IsAt latches k f → k ≢ l
      → HasWorked run was later wanted due n (get_or latches l None) old held → n ≡ 0
  idle was later wanted due k l n f old held at other worked = elim (cases_eq n 0) [
    | inl none ↦ none
    | inr some ↦
        let (g, there, works) = worked_one run was later wanted due n (get_or latches l None) old held some worked in
        absurd (other (only k l f g at there))
  ]

  abbrev InEnd : Type 0
  InEnd = (a.held_end ≡ c ∷ []) × (a.after_end ≡ before)

  abbrev InMemory : Type 0
  InMemory = (a.held_memory ≡ a.held_end) × (a.after_memory ≡ a.after_end)

  abbrev InFetch : Type 0
  InFetch = (new ≡ a.held_memory) × (after ≡ a.after_memory)

  none_in_end : made.ends ≡ 0 → InEnd
  none_in_end none = worked_none run before a.after_end wants.Finish 5 made.ends _ (c ∷ []) a.held_end none a.in_end

  none_in_memory : a.memory ≡ 0 → InMemory
  none_in_memory none = worked_none run a.after_end a.after_memory wants.Ask 4 a.memory _ a.held_end a.held_memory none a.in_memory

  none_in_fetch : a.fetch ≡ 0 → InFetch
  none_in_fetch none = worked_none run a.after_memory after wants.Ask 1 a.fetch _ a.held_memory new none a.in_fetch

  -- nothing was made
  pub made_none : made.ends ≡ 0 → made.accesses ≡ 0 → (new ≡ c ∷ []) × (after ≡ before) × (left ≡ moved latches)
  made_none no_end no_access =
      let end = none_in_end no_end in
      let memory = none_in_memory (omega (arith, a.accesses, no_access)) in
      let fetch = none_in_fetch (omega (arith, a.accesses, no_access)) in
      (fetch.0 ∙ memory.0 ∙ end.0, fetch.1 ∙ memory.1 ∙ end.1, a.still (omega (arith, no_end, no_access)))

  -- an end
  pub made_end : made.ends ≢ 0 → HasMadeOne run before after wants.Finish c new
  made_end some =
      let (f, at, works) = worked_one run before a.after_end wants.Finish 5 made.ends (get_or latches 4 None) (c ∷ []) a.held_end some a.in_end in
      let memory = none_in_memory (idle a.after_end a.after_memory wants.Ask 4 4 3 a.memory f a.held_end a.held_memory at (λ same. omega (arith, same)) a.in_memory) in
      let fetch = none_in_fetch (idle a.after_memory after wants.Ask 1 4 0 a.fetch f a.held_memory new at (λ same. omega (arith, same)) a.in_fetch) in
      made_alone run before before a.after_end after wants.Finish f c (c ∷ []) a.held_end new refl refl (fetch.0 ∙ memory.0) (fetch.1 ∙ memory.1) works

  -- an access
  pub made_access : made.ends ≡ 0 → made.accesses ≢ 0 → HasMadeOne run before after wants.Ask c new
  made_access no_end some = elim (cases_eq a.memory 0) [
    | inl none ↦
        let end = none_in_end no_end in
        let memory = none_in_memory none in
        let (f, at, works) = worked_one run a.after_memory after wants.Ask 1 a.fetch (get_or latches 0 None) a.held_memory new (λ no_fetch. some (omega (arith, a.accesses, none, no_fetch))) a.in_fetch in
        made_alone run a.after_memory before after after wants.Ask f c a.held_memory new new (memory.0 ∙ end.0) (memory.1 ∙ end.1) refl refl works
    | inr there ↦
        let end = none_in_end no_end in
        let (f, at, works) = worked_one run a.after_end a.after_memory wants.Ask 4 a.memory (get_or latches 3 None) a.held_end a.held_memory there a.in_memory in
        let fetch = none_in_fetch (idle a.after_memory after wants.Ask 1 3 0 a.fetch f a.held_memory new at (λ same. omega (arith, same)) a.in_fetch) in
        made_alone run a.after_end before a.after_memory after wants.Ask f c a.held_end a.held_memory new end.0 end.1 fetch.0 fetch.1 works
  ]

-- the move of a context that is lent as a list of one, of the first run, history and context
pub moved_alone : (run first : Run) (was before after : Option History) (made : Made) (now c : Context) (held new : List Context) (latches left : List (Option Flight))
    → run ≡ first → was ≡ before → now ≡ c → held ≡ now ∷ [] → AreInFlight (now ∷ []) latches → HasAdvanced run was after made latches left held new
    → AreInFlight (c ∷ []) latches × HasAdvanced first before after made latches left (c ∷ []) new
moved_alone run first was before after made now c held new latches left same_run same_history same alone flying advanced =
    let One : Context → List Context = λ x. x ∷ [] in
    let Are : List Context → Type 0 = λ l. AreInFlight l latches in
    let Has : Run × (Option History) × (List Context) → Type 0 = λ x. HasAdvanced x.0 x.1 after made latches left x.2 new in
    (subst Are (ap One same) flying, subst Has (λ i. (same_run i, same_history i, (alone ∙ ap One same) i)) advanced)
