-- Whose turn it is in select.
use Rattle.std.proofs.Common.{◌≡◌, ◌≢◌, ℕ, suc, ◌+◌, ◌-◌, ◌<◌, ◌≤◌, Bool, false, nat_eq, min, if◌then◌else◌, List, [], ◌∷◌, ◌++◌, take, drop, length, slice_index_or, slice_set, Option, None, Some, IfSome, IfNone, MatchOption, inl, inr, sym, ap, subst, ◌∙◌, arith}
use Rattle.std.proofs.Math.Nat.{min-le_left, min-eq_left, min-eq_right}
use Rattle.std.proofs.lemmas.Bool.{cases_lt, lt-ltb, le-ltb, eqb-false, or_parts}
use Rattle.flex_base.specs.declared.engine.Engine.{Engine}
use Rattle.flex_base.specs.declared.engine.Engine.TheVariants as engine
use Rattle.access_record.specs.Buses.{Run}
use Rattle.access_record.specs.Histories.{History}
use Rattle.context.specs.Contexts.{Context, IsWantedIn}
use Rattle.pipeline.specs.declared.flight.Flight.{Flight}
use Rattle.pipeline.specs.declared.flight.Made.{Made}
use Rattle.pipeline.specs.Pipes.{AreHere, HasAdvanced, MayStart, NoneMayStart, NoneBefore, IsTurn, AreNearerToStart, pipe_of, is_among, places_before, next_without}
use Rattle.pipeline.proofs.Cycling.{length_advanced, held_is}
use Rattle.pipeline.proofs.Nearing.{wants_one_here}

-- what was found from the place on comes first in turn
pub before_on : (held : List Context) (latches : List (Option Flight)) (next from place : ℕ) → from ≡ min next (length held)
    → (from ≤ place) × (place < length held) × NoneMayStart held latches from place → NoneBefore held latches next place
before_on held latches next from place is (least, inside, none) = record {
  on = λ least k c at_least. none k c (omega (arith, is, min-le_left next (length held), at_least));
  round = λ less. absurd (elim (cases_lt next (length held)) [
    | inl before ↦
        let first : min next (length held) ≡ next = min-eq_left (omega (arith, before)) in
        omega (arith, first, is, least, less)
    | inr after ↦
        let first : min next (length held) ≡ length held = min-eq_right after in
        omega (arith, first, is, least, inside)
  ]);
}

-- and so does what was found before it, where none was from there on
pub before_round : (held : List Context) (latches : List (Option Flight)) (next from place : ℕ) → from ≡ min next (length held)
    → NoneMayStart held latches from (length held) → (0 ≤ place) × (place < from) × NoneMayStart held latches 0 place
    → NoneBefore held latches next place
before_round held latches next from place is later (least, inside, none) = record {
  on = λ more. absurd (omega (arith, is, min-le_left next (length held), more, inside));
  round = λ less. (λ k c at_least. later k c (omega (arith, is, min-le_left next (length held), at_least)), none);
}

-- the turn goes on to the next place
pub turn_is : (held : List Context) (left selected : List (Option Flight)) (next after : ℕ) (found : Option Flight) → length left ≡ 6
    → slice_index_or left 0 None ≡ None → IfSome found (λ f. MayStart held left f × (selected ≡ slice_set left 0 (Some f)))
    → IfSome found (λ f. NoneBefore held left next f.place) → IfNone found (NoneMayStart held left 0 (length held) × (selected ≡ left))
    → MatchOption found (after ≡ next) (λ f. after ≡ f.place + 1) → IsTurn held selected next after
turn_is held [] selected next after found six free some first none goes = absurd (omega (arith, six))
turn_is held (Some g ∷ rest) selected next after found six free some first none goes = absurd cc
turn_is held (None ∷ rest) selected next after (Some f) six free some first none goes =
    let Turn : List (Option Flight) → Type 0 = λ fs. IsTurn held fs next after in
    subst Turn (sym some.1) (some.0, first, omega (arith, goes))
turn_is held (None ∷ rest) selected next after None six free some first none goes =
    let Turn : List (Option Flight) → Type 0 = λ fs. IsTurn held fs next after in
    subst Turn (sym none.1) (none.0, goes)

-- the turn stays within the harts where one is taken out
pub turn_without : (next place count less : ℕ) → next ≤ count → place < count → less + 1 ≡ count → next_without place next ≤ less
turn_without next place count less within inside fewer =
    let Of : Bool → ℕ = λ b. if b then next - 1 else next in
    elim (cases_lt place next) [
      | inl before ↦
          let is : next_without place next ≡ next - 1 = ap Of (lt-ltb place next before) in
          omega (arith, is, within, fewer)
      | inr after ↦
          let is : next_without place next ≡ next = ap Of (le-ltb place next after) in
          omega (arith, is, after, inside, fewer)
    ]

-- so many places come before one from the turn's place on
places_on : (count next place : ℕ) → next ≤ place → places_before count next place ≡ place - next
places_on count next place more =
    let Of : Bool → ℕ = λ b. if b then count - next + place else place - next in
    ap Of (le-ltb place next more)

-- and so many before one that comes after the last
places_round : (count next place : ℕ) → place < next → places_before count next place ≡ count - next + place
places_round count next place less =
    let Of : Bool → ℕ = λ b. if b then count - next + place else place - next in
    ap Of (lt-ltb place next less)

-- after the turn of a place fewer places come before each one that came after it
fewer_before : (count next place other : ℕ) → next ≤ count → place < count → other < count → other ≢ place
    → (next ≤ place → (next ≤ other → place ≤ other)) → (place < next → (next ≤ other → ⊥) × (place ≤ other))
    → places_before count (suc place) other < places_before count next other
fewer_before count next place other within inside there apart on round = elim (cases_lt place next) [
  | inl less ↦ elim (cases_lt other next) [
    | inl behind ↦
        let after = (round less).1 in
        let before : suc place ≤ other = omega (arith, after, apart) in
        omega (arith, places_on count (suc place) other before, places_round count next other behind, before, within)
    | inr ahead ↦ absurd ((round less).0 ahead)
  ]
  | inr more ↦ elim (cases_lt other next) [
    | inl behind ↦
        omega (arith, places_round count (suc place) other (omega (arith, behind, more)), places_round count next other behind, more, inside)
    | inr ahead ↦
        let after = on more ahead in
        let before : suc place ≤ other = omega (arith, after, apart) in
        omega (arith, places_on count (suc place) other before, places_on count next other ahead, before, more)
  ]
]

-- each hart that is held is in the pipe
is_here : (held : List Context) → AreHere held → (place : ℕ) (c : Context) → place < length held → slice_index_or held place c ≡ c → c.engine ≡ engine.Pipe
is_here held here place c inside at =
    let Engine_of : Context → Engine = λ k. k.engine in
    ap Engine_of (sym at) ∙ here place c inside

-- a hart that is to start and didn't is nearer to its turn
nearer_turn : (held : List Context) (latches : List (Option Flight)) (count next after : ℕ) → count ≡ length held → next ≤ count → AreHere held
    → IsTurn held latches next after → (place : ℕ) (c : Context) → place < length held → slice_index_or held place c ≡ c → IsWantedIn c engine.Pipe
    → is_among latches place ≡ false → places_before (length held) after place < places_before count next place
nearer_turn held [] count next after counted within here turn place c inside at wanted free = absurd turn
nearer_turn held (None ∷ rest) count next after counted within here turn place c inside at wanted free =
    absurd (wants_one_here c wanted (is_here held here place c inside at) (turn.0 place c (search arith) inside free at))
nearer_turn held (Some f ∷ rest) count next after counted within here (may, first, goes) place c inside at wanted free =
    let (some, most, out, hart_there) = may in
    let (hart, there, is, due) = hart_there in
    let parts = or_parts (nat_eq f.place place) (is_among rest place) free in
    let starts : (from to : ℕ) → NoneMayStart held (None ∷ rest) from to → from ≤ place → place < to → ⊥ =
    λ from to none least less. wants_one_here c wanted (is_here held here place c inside at) (none place c least less parts.1 at) in
    let on : next ≤ f.place → next ≤ place → f.place ≤ place = λ more least.
    elim (cases_lt place f.place) [
      | inl less ↦ absurd (starts next f.place (first.on more) least less)
      | inr after ↦ after
    ] in
    let first_of : f.place < next → f.place ≤ place = λ less.
    elim (cases_lt place f.place) [
      | inl before ↦ absurd (starts 0 f.place (first.round less).1 (search arith) before)
      | inr after ↦ after
    ] in
    let Nearer : ℕ × ℕ → Type 0 = λ n. places_before n.0 n.1 place < places_before count next place in
    let near = fewer_before count next f.place place within (omega (arith, there, counted)) (omega (arith, inside, counted)) (λ same. eqb-false f.place place parts.0 (sym same)) on
    (λ less. (λ least. starts next (length held) (first.round less).0 least inside, first_of less)) in
    subst Nearer (λ i. (counted i, sym goes i)) near

-- A cycle's turn, by what the latches have done over the harts that were lent to them, and by which hart select has taken of those that are read
-- after that.
module _ (run : Run) (before since : Option History) (made : Made) (latches left : List (Option Flight)) (items lent new read : List Context) (count : ℕ)
    (value : lent ≡ items) (counted : length lent ≡ count) (advanced : HasAdvanced run before since made latches left lent new)
    (six : length left ≡ 6) (free : slice_index_or left 0 None ≡ None) (here : AreHere lent → AreHere new) (was_here : AreHere items)
    (read_is : read ≡ take count (new ++ drop (length new) items)) (selected : List (Option Flight)) (found : Option Flight)
    (some : IfSome found (λ f. MayStart read left f × (selected ≡ slice_set left 0 (Some f)))) (next after : ℕ)
    (first : IfSome found (λ f. NoneBefore read left next f.place)) (none : IfNone found (NoneMayStart read left 0 (length read) × (selected ≡ left)))
    (goes : MatchOption found (after ≡ next) (λ f. after ≡ f.place + 1)) where
  pub cycle_turn : IsTurn (take count (new ++ drop (length new) items)) selected next after
  cycle_turn =
      let Turn : List Context → Type 0 = λ held. IsTurn held selected next after in
      subst Turn read_is (turn_is read left selected next after found six free some first none goes)

  pub cycle_fair : next ≤ length items → AreNearerToStart (pipe_of items latches next made.ends) (pipe_of (take count (new ++ drop (length new) items)) selected after made.ends)
  cycle_fair within =
      let held = held_is run before since made latches left items lent new count value counted advanced in
      let Length : List Context → ℕ = λ h. length h in
      let Here : List Context → Type 0 = λ h. AreHere h in
      let same : length items ≡ length (take count (new ++ drop (length new) items)) =
      omega (arith, length_advanced run before since made latches left lent new advanced, ap Length value, ap Length held) in
      nearer_turn (take count (new ++ drop (length new) items)) selected (length items) next after same within
      (subst Here (sym held) (here (subst Here (sym value) was_here))) cycle_turn
