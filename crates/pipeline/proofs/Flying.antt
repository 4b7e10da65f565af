-- What is in a latch, by the byte that says it, and instructions that move on.
use Rattle.std.proofs.Common.{◌≡◌, ◌≢◌, ℕ, ◌<◌, ◌/◌, ◌%◌, nat_eq, Bool, true, false, if◌then◌else◌, List, length, slice_index_or, slice_set, Option, None, Some, refl, sym, ap, subst, ◌∙◌, arith, inl, inr}
use Rattle.std.proofs.lemmas.Bool.{cases_eq}
use Rattle.std.proofs.lemmas.List.{map-set, get_or-map, get_or_default, length-map, get_or-set_same, get_or-set_other, length-set, set-get_or}
use Rattle.flex_base.specs.declared.class.Class.{Class}
use Rattle.flex_base.specs.declared.class.Class.TheVariants as class
use Rattle.flex_base.specs.declared.engine.Engine.{Engine}
use Rattle.context.specs.declared.wants.Wants.{Wants}
use Rattle.context.specs.declared.wants.Wants.TheVariants as wants
use Rattle.context.specs.Obeying.{IsFor}
use Rattle.context.specs.Contexts.{Context, plan_of, IsWanting, WantsHere}
use Rattle.pipeline.specs.declared.flight.Flight.{Flight}
use Rattle.pipeline.specs.Pipes.{flight_in, flights_in, latch_for, IsAt, IsDue, AreMoving, IsLeft, IsGoingOn, IsNotDue}

-- a byte is written
pub read_set : (slots : List ℕ) (n latch slot : ℕ) → n ≡ latch → flights_in (slice_set slots n slot) ≡ slice_set (flights_in slots) latch (flight_in slot)
read_set slots n latch slot is =
    let Set : ℕ → List (Option Flight) = λ k. slice_set (flights_in slots) k (flight_in slot) in
    map-set flight_in slots n slot ∙ ap Set is

-- what is read of a latch
pub read_at : (slots : List ℕ) (n latch : ℕ) → n ≡ latch → latch < length slots → slice_index_or (flights_in slots) latch None ≡ flight_in (slice_index_or slots n 0)
read_at slots n latch is within =
    let Read : ℕ → Option Flight = λ k. flight_in (slice_index_or slots k 0) in
    get_or-map flight_in slots latch 0 None within ∙ ap Read (sym is)

pub six_slots : (held : List Context) (slots : List ℕ) → AreMoving held (flights_in slots) → length slots ≡ 6
six_slots held slots moving = sym (length-map slots flight_in) ∙ moving.six

-- what is read of a list, read again
pub read_again : (held : List Context) (n place : ℕ) (x : Context) → n ≡ place → place < length held
    → slice_index_or held place (slice_index_or held n x) ≡ slice_index_or held n x
read_again held n place x is there =
    let Read : ℕ → Context = λ k. slice_index_or held k x in
    get_or_default held place (slice_index_or held n x) x there ∙ ap Read (sym is)

-- what is due in end is an end, what is due before is an access

finish_by : (plan : Class → Engine) (w : Wants) (at : Engine) → latch_for w ≡ 5 → IsFor plan w at → (class : Class) × (w ≡ wants.Finish class) × (plan class ≡ at)
finish_by plan (wants.Finish class) at is here = (class, refl, here)
finish_by plan (wants.Ask class.Fetch) at is here = absurd (omega (arith, is))
finish_by plan (wants.Ask other) at is here = absurd (omega (arith, is))
finish_by plan wants.Parked at is here = absurd here
finish_by plan wants.Over at is here = absurd here

pub due_finish : (c : Context) → IsDue c 5 → WantsHere wants.Finish c
due_finish c due =
    let (class, is, here) = finish_by (plan_of c) due.wants c.engine due.latch_is due.here in
    (class, subst (IsWanting c) is due.wanting, here)

ask_by : (plan : Class → Engine) (w : Wants) (at : Engine) → latch_for w < 5 → IsFor plan w at → (class : Class) × (w ≡ wants.Ask class) × (plan class ≡ at)
ask_by plan (wants.Finish class) at less here = absurd (omega (arith, less))
ask_by plan (wants.Ask class) at less here = (class, refl, here)
ask_by plan wants.Parked at less here = absurd here
ask_by plan wants.Over at less here = absurd here

pub due_ask : (c : Context) (latch : ℕ) → latch < 5 → IsDue c latch → WantsHere wants.Ask c
due_ask c latch less due =
    let (class, is, here) = ask_by (plan_of c) due.wants c.engine (omega (arith, less, due.latch_is)) due.here in
    (class, subst (IsWanting c) is due.wanting, here)

-- nothing is in end but what is due there
pub end_is_none : (held : List Context) (latches : List (Option Flight)) (o : Option Flight) → AreMoving held latches → slice_index_or latches 5 None ≡ o → IsNotDue 5 o
    → latches ≡ slice_set latches 5 None
end_is_none held latches None moving is other =
    let Set : Option Flight → List (Option Flight) = λ x. slice_set latches 5 x in
    sym (set-get_or latches 5 None) ∙ ap Set is
end_is_none held latches (Some f) moving is other = absurd (other (omega (arith, (moving.each 5 f is).0, (moving.each 5 f is).1)))

-- the hart of an instruction that is due in this latch, as it is read of the list

module _ (held : List Context) (latches : List (Option Flight)) (moving : AreMoving held latches) (latch : ℕ) (f : Flight) (at : IsAt latches latch f) where
  pub within : f.place < length held
  within = (moving.each latch f at).2.1

  -- wherever it is read
  pub due_read : (n : ℕ) (x : Context) → n ≡ f.place → IsDue (slice_index_or held n x) f.due
  due_read n x is =
      let (hart, there, read, due) = (moving.each latch f at).2 in
      let Due : Context → Type 0 = λ c. IsDue c f.due in
      let Read : ℕ → Type 0 = λ k. IsDue (slice_index_or held k x) f.due in
      subst Read (sym is) (subst Due (sym (get_or_default held f.place x hart there ∙ read)) due)

  -- its event was made, and it goes on in a later latch or has left
  module _ (next : Context) (x : Option Flight) (left : IsLeft (slice_set held f.place next) latch 1 (Some f) x) (few : latch < 6) where
    same_place : (k : ℕ) (g : Flight) → IsAt (slice_set latches latch x) k g → (was : Flight) × IsAt latches k was × (was.place ≡ g.place)
    same_place k g there = elim (cases_eq k latch) [
      | inl same ↦
          let At : ℕ → Type 0 = λ n. IsAt latches n f in
          let New : ℕ → Type 0 = λ n. slice_index_or (slice_set latches latch x) n None ≡ Some g in
          let is : x ≡ Some g = sym (get_or-set_same latches latch x None (omega (arith, few, moving.six))) ∙ subst New same there in
          let Left : Option Flight → Type 0 = λ o. IsLeft (slice_set held f.place next) latch 1 (Some f) o in
          (f, subst At (sym same) at, sym (subst Left is left).0)
      | inr other ↦ (g, sym (get_or-set_other latches latch k x None other) ∙ there, refl)
    ]

    pub moving_after : AreMoving (slice_set held f.place next) (slice_set latches latch x)
    moving_after = record {
      six = length-set latches latch x ∙ moving.six;
      each = λ k g there. elim (cases_eq k latch) [
        | inl same ↦
            let New : ℕ → Type 0 = λ n. slice_index_or (slice_set latches latch x) n None ≡ Some g in
            let is : x ≡ Some g = sym (get_or-set_same latches latch x None (omega (arith, few, moving.six))) ∙ subst New same there in
            let Left : Option Flight → Type 0 = λ o. IsLeft (slice_set held f.place next) latch 1 (Some f) o in
            let on = (subst Left is left).1 in
            (omega (arith, on.later, same), on.most, on.hart)
        | inr other ↦
            let before : IsAt latches k g = sym (get_or-set_other latches latch k x None other) ∙ there in
            let each = moving.each k g before in
            let (hart, inside, read, due) = each.2 in
            let apart : g.place ≢ f.place = λ same. other (moving.once k latch g f before at same) in
            (each.0, each.1, (hart, omega (arith, inside, length-set held f.place next), get_or-set_other held f.place g.place next hart apart ∙ read, due))
      ];
      once = λ one other g h there here same.
          let (was, was_at, was_is) = same_place one g there in
          let (its, its_at, its_is) = same_place other h here in
          moving.once one other was its was_at its_at (was_is ∙ same ∙ sym its_is);
    }

-- what goes on after an access is in flight
pub left_on : (held : List Context) (next : Context) (place latch : ℕ) (o : Option Flight) → place < length held → IsGoingOn next place latch o
    → IsLeft (slice_set held place next) latch 1 (Some (record { place = place; due = latch })) o
left_on held next place latch None there on =
    (next, omega (arith, there, length-set held place next), get_or-set_same held place next next there, on)
left_on held next place latch (Some g) there on =
    let (same, later, most, due) = on in
    let At : ℕ → Type 0 = λ k. slice_index_or (slice_set held place next) k next ≡ next in (
      same,
      record {
        later = later;
        most = most;
        hart = (next, omega (arith, there, same, length-set held place next), subst At (sym same) (get_or-set_same held place next next there), due);
      },
    )

-- where the byte says that nothing is there, and where it doesn't
pub reads_none : (slot : ℕ) → nat_eq slot 255 ≡ true → flight_in slot ≡ None
reads_none slot is =
    let In : Bool → Option Flight = λ b. if b then None else Some (record { place = slot / 8; due = slot % 8 }) in
    ap In is

pub reads_some : (slot : ℕ) → nat_eq slot 255 ≡ false → flight_in slot ≢ None
reads_some slot is none =
    let In : Bool → Option Flight = λ b. if b then None else Some (record { place = slot / 8; due = slot % 8 }) in
    let flight : Flight = record { place = slot / 8; due = slot % 8 } in
    let some : Some flight ≡ None = sym (ap In is) ∙ none in
    cc

pub reads_flight : (slot : ℕ) → nat_eq slot 255 ≡ false → (f : Flight) × (flight_in slot ≡ Some f)
reads_flight slot is =
    let In : Bool → Option Flight = λ b. if b then None else Some (record { place = slot / 8; due = slot % 8 }) in
    (record { place = slot / 8; due = slot % 8 }, ap In is)
