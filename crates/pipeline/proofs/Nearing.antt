-- An event comes nearer where none was made.
use Rattle.std.proofs.Common.{◌≡◌, ◌⊎◌, ℕ, suc, ◌+◌, ◌-◌, ◌<◌, ◌≤◌, Bool, false, min, if◌then◌else◌, List, [], ◌∷◌, ◌++◌, take, drop, length, slice_index_or, slice_set, Option, None, Some, IfSome, IfNone, MatchOption, inl, inr, refl, sym, ap, subst, ◌∙◌, arith}
use Rattle.std.proofs.Math.Nat.{min-le_left, min-le_right, min-eq_left, min-eq_right}
use Rattle.std.proofs.lemmas.Bool.{cases_lt, lt-ltb}
use Rattle.flex_base.specs.declared.engine.Engine.{Engine}
use Rattle.flex_base.specs.declared.engine.Engine.TheVariants as engine
use Rattle.context.specs.Obeying.{IsFor}
use Rattle.context.specs.Contexts.{Context, plan_of, IsWantedIn}
use Rattle.context.specs.Runs.{MakesNone}
use Rattle.access_record.specs.Buses.{Run}
use Rattle.access_record.specs.Histories.{History}
use Rattle.pipeline.specs.declared.flight.Flight.{Flight}
use Rattle.pipeline.specs.declared.flight.Made.{Made}
use Rattle.pipeline.specs.Pipes.{AreInFlight, AreHere, IsPipe, HasAdvanced, IsAt, latch_for, MayStart, NoneMayStart, moved, is_among, wait_at, least_wait}
use Rattle.pipeline.proofs.Working.{makes_one}
use Rattle.pipeline.proofs.Cycling.{six_of, length_advanced, held_is, none_is}
use Rattle.pipeline.proofs.Holding.{flying_selected}

-- each of these, from this latch on, has its event due in a latch after the next
abbrev pub Wait : ℕ → List (Option Flight) → Type 0
Wait latch [] = Unit {0}
Wait latch (None ∷ rest) = Wait (suc latch) rest
Wait latch (Some f ∷ rest) = (suc latch < f.due) × (f.due ≤ 5) × Wait (suc latch) rest

-- nothing is there
abbrev pub AreNone : List (Option Flight) → Type 0
AreNone [] = Unit {0}
AreNone (None ∷ rest) = AreNone rest
AreNone (Some f ∷ rest) = ⊥

-- so many cycles more, where the event is due in a later latch
waits : (latch : ℕ) (f : Flight) → latch < f.due → wait_at latch (Some f) ≡ f.due - latch - 1
waits latch f less =
    let Pick : Bool → ℕ = λ b. if b then f.due - latch - 1 else 5 in
    ap Pick (lt-ltb latch f.due less)

none_waits : (latch : ℕ) (fs : List (Option Flight)) → AreNone fs → least_wait latch fs ≡ 5
none_waits latch [] none = refl
none_waits latch (None ∷ rest) none = ap (min 5) (none_waits (suc latch) rest none)
none_waits latch (Some f ∷ rest) none = absurd none

none_among : (fs : List (Option Flight)) (place : ℕ) → AreNone fs → is_among fs place ≡ false
none_among [] place none = refl
none_among (None ∷ rest) place none = none_among rest place none
none_among (Some f ∷ rest) place none = absurd none

-- one latch later each waits a cycle less
abbrev Falls : ℕ → List (Option Flight) → Type 0
Falls latch fs = (least_wait (suc latch) fs + 1 ≡ least_wait latch fs) × (least_wait latch fs ≤ 4)

less_of_two : (a b x y : ℕ) → x + 1 ≡ a → y + 1 ≡ b → a ≤ 4 → b ≤ 4 → (min x y + 1 ≡ min a b) × (min a b ≤ 4)
less_of_two a b x y one two few least = elim (cases_lt a b) [
  | inl less ↦
      let first : min a b ≡ a = min-eq_left (omega (arith, less)) in
      let later : min x y ≡ x = min-eq_left (omega (arith, less, one, two)) in
      (omega (arith, first, later, one), omega (arith, first, few))
  | inr more ↦
      let first : min a b ≡ b = min-eq_right more in
      let later : min x y ≡ y = min-eq_right (omega (arith, more, one, two)) in
      (omega (arith, first, later, two), omega (arith, first, least))
]

falls : (latch : ℕ) (fs : List (Option Flight)) → Wait latch fs → AreNone fs ⊎ Falls latch fs
falls latch [] wait = inl tt
falls latch (None ∷ rest) wait = elim (falls (suc latch) rest wait) [
  | inl none ↦ inl none
  | inr (one, few) ↦
      let first : min 5 (least_wait (suc latch) rest) ≡ least_wait (suc latch) rest = min-eq_right (omega (arith, few)) in
      let later : min 5 (least_wait (suc (suc latch)) rest) ≡ least_wait (suc (suc latch)) rest = min-eq_right (omega (arith, one, few)) in
      inr (omega (arith, first, later, one), omega (arith, first, few))
]
falls latch (Some f ∷ rest) wait =
    let a : ℕ = wait_at latch (Some f) in
    let x : ℕ = wait_at (suc latch) (Some f) in
    let before : latch < f.due = omega (arith, wait.0) in
    let own : x + 1 ≡ a = omega (arith, waits latch f before, waits (suc latch) f wait.0, wait.0) in
    let few : a ≤ 4 = omega (arith, waits latch f before, wait.1) in
    elim (falls (suc latch) rest wait.2) [
      | inl none ↦
          let first : min a (least_wait (suc latch) rest) ≡ a = ap (min a) (none_waits (suc latch) rest none) ∙ min-eq_left (omega (arith, few)) in
          let later : min x (least_wait (suc (suc latch)) rest) ≡ x = ap (min x) (none_waits (suc (suc latch)) rest none) ∙ min-eq_left (omega (arith, few, own)) in
          inr (omega (arith, first, later, own), omega (arith, first, few))
      | inr (one, least) ↦ inr (less_of_two a (least_wait (suc latch) rest) x (least_wait (suc (suc latch)) rest) own one few least)
    ]

wait_more : (latch : ℕ) (o : Option Flight) (rest : List (Option Flight)) → ((f : Flight) → o ≡ Some f → (suc latch < f.due) × (f.due ≤ 5)) → Wait (suc latch) rest
    → Wait latch (o ∷ rest)
wait_more latch None rest each wait = wait
wait_more latch (Some f) rest each wait = ((each f refl).0, (each f refl).1, wait)

-- a hart that wants an event here makes one
pub wants_one_here : (c : Context) → IsWantedIn c engine.Pipe → c.engine ≡ engine.Pipe → MakesNone c → ⊥
wants_one_here c wanted here none =
    let (w, wanting, for_it) = wanted in
    let For : Engine → Type 0 = λ e. IsFor (plan_of c) w e in
    makes_one c (latch_for w) (record { wants = w; wanting = wanting; here = subst For (sym here) for_it; latch_is = refl }) none

-- latch by latch, with nothing in end

module _ (held : List Context) (a b c d e : Option Flight) where
  abbrev was : List (Option Flight)
  was = a ∷ b ∷ c ∷ d ∷ e ∷ None ∷ []

  abbrev left : List (Option Flight)
  left = None ∷ a ∷ b ∷ c ∷ d ∷ e ∷ []

  each_waits : AreInFlight held left → Wait 0 was
  each_waits flights =
      let on : (latch : ℕ) (f : Flight) → IsAt left latch f → (latch < f.due) × (f.due ≤ 5) = λ latch f at. ((flights.each latch f at).later, (flights.each latch f at).most) in
      wait_more 0 a (b ∷ c ∷ d ∷ e ∷ None ∷ []) (on 1)
      (wait_more 1 b (c ∷ d ∷ e ∷ None ∷ []) (on 2)
      (wait_more 2 c (d ∷ e ∷ None ∷ []) (on 3)
      (wait_more 3 d (e ∷ None ∷ []) (on 4)
      (wait_more 4 e (None ∷ []) (on 5) tt))))

  nearer_six : AreInFlight held left → (after : List (Option Flight)) (found : Option Flight)
      → IfSome found (λ f. MayStart held left f × (after ≡ slice_set left 0 (Some f)))
      → IfNone found (NoneMayStart held left 0 (length held) × (after ≡ left))
      → (place : ℕ) (x : Context) → place < length held → slice_index_or held place x ≡ x → IsWantedIn x engine.Pipe → x.engine ≡ engine.Pipe
      → least_wait 0 after < least_wait 0 was
  nearer_six flights after None some none place x inside read wanted here = elim (falls 0 was (each_waits flights)) [
    | inl nothing ↦ absurd (wants_one_here x wanted here (none.0 place x (omega arith) inside (none_among was place nothing) read))
    | inr fall ↦
        let Least : List (Option Flight) → ℕ = λ fs. least_wait 0 fs in
        let same : least_wait 0 after ≡ min 5 (least_wait 1 (a ∷ b ∷ c ∷ d ∷ e ∷ [])) = ap Least none.1 in
        omega (arith, same, min-le_right 5 (least_wait 1 (a ∷ b ∷ c ∷ d ∷ e ∷ [])), fall.0)
  ]
  nearer_six flights after (Some f) some none place x inside read wanted here =
      let Least : List (Option Flight) → ℕ = λ fs. least_wait 0 fs in
      let (may, is) = some in
      let own : wait_at 0 (Some f) ≡ f.due - 0 - 1 = waits 0 f may.0 in
      let same : least_wait 0 after ≡ min (wait_at 0 (Some f)) (least_wait 1 (a ∷ b ∷ c ∷ d ∷ e ∷ [])) = ap Least is in
      elim (falls 0 was (each_waits flights)) [
        | inl nothing ↦
            omega (arith, same, min-le_left (wait_at 0 (Some f)) (least_wait 1 (a ∷ b ∷ c ∷ d ∷ e ∷ [])), own, may.0, may.1, none_waits 0 was nothing)
        | inr fall ↦
            omega (arith, same, min-le_right (wait_at 0 (Some f)) (least_wait 1 (a ∷ b ∷ c ∷ d ∷ e ∷ [])), fall.0)
      ]

ended_of : (held : List Context) (a b c d e f : Option Flight) → AreInFlight held (a ∷ b ∷ c ∷ d ∷ e ∷ f ∷ []) → f ≡ None
ended_of held a b c d e None flights = refl
ended_of held a b c d e (Some f) flights =
    let on = flights.each 5 f refl in
    absurd (omega (arith, on.later, on.most))

-- where nothing was made the latches have only moved on, and the wait has become shorter
pub falls_nearer : (held : List Context) (latches left after : List (Option Flight)) (found : Option Flight) → AreInFlight held latches → AreInFlight held left
    → left ≡ moved latches
    → IfSome found (λ f. MayStart held left f × (after ≡ slice_set left 0 (Some f)))
    → IfNone found (NoneMayStart held left 0 (length held) × (after ≡ left))
    → (place : ℕ) (x : Context) → place < length held → slice_index_or held place x ≡ x → IsWantedIn x engine.Pipe → x.engine ≡ engine.Pipe
    → least_wait 0 after < least_wait 0 latches
falls_nearer held latches left after found was flights left_is some none place x inside read wanted here =
    let (a, b, c, d, e, f, is) = six_of latches was.six in
    let In : List (Option Flight) → Type 0 = λ fs. AreInFlight held fs in
    let ended : f ≡ None = ended_of held a b c d e f (subst In is was) in
    let Six : Option Flight → List (Option Flight) = λ o. a ∷ b ∷ c ∷ d ∷ e ∷ o ∷ [] in
    let all : latches ≡ a ∷ b ∷ c ∷ d ∷ e ∷ None ∷ [] = is ∙ ap Six ended in
    let there : left ≡ None ∷ a ∷ b ∷ c ∷ d ∷ e ∷ [] = left_is ∙ ap moved all in
    let Found : List (Option Flight) → Type 0 = λ fs. IfSome found (λ g. MayStart held fs g × (after ≡ slice_set fs 0 (Some g))) in
    let Nobody : List (Option Flight) → Type 0 = λ fs. IfNone found (NoneMayStart held fs 0 (length held) × (after ≡ fs)) in
    let Nearer : List (Option Flight) → Type 0 = λ fs. least_wait 0 after < least_wait 0 fs in
    subst Nearer (sym all) (nearer_six held a b c d e (subst In there flights) after found (subst Found there some) (subst Nobody there none) place x inside read wanted here)

-- What a cycle brings nearer, by what the latches have done over the harts that were lent to them, and by which hart select has taken of those that
-- are read after that.
module _ (run : Run) (before after : Option History) (made : Made) (latches left : List (Option Flight)) (items lent new read : List Context) (count total : ℕ)
    (value : lent ≡ items) (counted : length lent ≡ count) (advanced : HasAdvanced run before after made latches left lent new)
    (was : AreInFlight items latches) (flights : AreInFlight new left) (here : AreHere items)
    (read_is : read ≡ take count (new ++ drop (length new) items)) (total_is : total ≡ made.ends + made.accesses)
    (selected : List (Option Flight)) (found : Option Flight)
    (some : IfSome found (λ f. MayStart read left f × (selected ≡ slice_set left 0 (Some f))))
    (none : IfNone found (NoneMayStart read left 0 (length read) × (selected ≡ left))) where
  pub nearer_is : (place : ℕ) (x : Context) → place < length items → slice_index_or items place x ≡ x → IsWantedIn x engine.Pipe
      → (0 < total) ⊎ (least_wait 0 selected < least_wait 0 latches)
  nearer_is place x inside at wanted = elim (cases_lt 0 total) [
    | inl more ↦ inl more
    | inr nothing ↦
        let zero_made : made.ends + made.accesses ≡ 0 = omega (arith, nothing, total_is) in
        let same : new ≡ items = none_is run before after made latches left items lent new count value counted advanced zero_made in
        let now : read ≡ items = read_is ∙ held_is run before after made latches left items lent new count value counted advanced ∙ same in
        let In : List Context → Type 0 = λ held. AreInFlight held left in
        let Found : List Context → Type 0 = λ held. IfSome found (λ f. MayStart held left f × (selected ≡ slice_set left 0 (Some f))) in
        let Nobody : List Context → Type 0 = λ held. IfNone found (NoneMayStart held left 0 (length held) × (selected ≡ left)) in
        let Engine_of : Context → Engine = λ c. c.engine in
        inr (falls_nearer items latches left selected found was (subst In same flights) (advanced.still zero_made) (subst Found now some) (subst Nobody now none)
        place x inside at wanted (ap Engine_of (sym at) ∙ here place x inside))
  ]

-- a turn stays within the harts
turn_within : (next now : ℕ) (latches : List (Option Flight)) (held : List Context) (found : Option Flight) → next ≤ length held
    → IfSome found (λ f. MayStart held latches f) → MatchOption found (now ≡ next) (λ f. now ≡ f.place + 1) → now ≤ length held
turn_within next now latches held (Some f) within may goes =
    let (some, most, out, hart_there) = may in
    let (hart, there, is, due) = hart_there in
    omega (arith, there, goes)
turn_within next now latches held None within may goes = omega (arith, within, goes)

some_may : (held : List Context) (latches selected : List (Option Flight)) (found : Option Flight)
    → IfSome found (λ f. MayStart held latches f × (selected ≡ slice_set latches 0 (Some f))) → IfSome found (λ f. MayStart held latches f)
some_may held latches selected (Some f) some = some.0
some_may held latches selected None some = some

-- What the type of a pipe keeps.
module _ (run : Run) (before after : Option History) (made : Made) (latches left : List (Option Flight)) (items lent new : List Context) (count : ℕ)
    (value : lent ≡ items) (counted : length lent ≡ count) (advanced : HasAdvanced run before after made latches left lent new) where
  select_keeps : (held : List Context) (found : Option Flight) (selected : List (Option Flight)) → AreInFlight held left
      → IfSome found (λ f. MayStart held left f × (selected ≡ slice_set left 0 (Some f)))
      → IfNone found (NoneMayStart held left 0 (length held) × (selected ≡ left)) → AreInFlight held selected
  select_keeps held (Some f) selected flights some none =
      let In : List (Option Flight) → Type 0 = λ fs. AreInFlight held fs in
      subst In (sym some.1) (flying_selected held left f flights some.0)
  select_keeps held None selected flights some none =
      let In : List (Option Flight) → Type 0 = λ fs. AreInFlight held fs in
      subst In (sym none.1) flights

  pub keeps : (next capacity : ℕ) → IsPipe items latches next capacity → (AreHere lent → AreHere new) → AreInFlight new left
      → (read : List Context) → read ≡ take count (new ++ drop (length new) items) → (found : Option Flight) (selected : List (Option Flight))
      → IfSome found (λ f. MayStart read left f × (selected ≡ slice_set left 0 (Some f)))
      → IfNone found (NoneMayStart read left 0 (length read) × (selected ≡ left))
      → (now : ℕ) → MatchOption found (now ≡ next) (λ f. now ≡ f.place + 1)
      → IsPipe (take count (new ++ drop (length new) items)) selected now capacity
  keeps next capacity pipe here flights read read_is found selected some none now goes =
      let held = held_is run before after made latches left items lent new count value counted advanced in
      let Is : List Context → Type 0 = λ h. IsPipe h selected now capacity in
      let Here : List Context → Type 0 = λ h. AreHere h in
      let Found : List Context → Type 0 = λ h. IfSome found (λ f. MayStart h left f × (selected ≡ slice_set left 0 (Some f))) in
      let Nobody : List Context → Type 0 = λ h. IfNone found (NoneMayStart h left 0 (length h) × (selected ≡ left)) in
      let Length : List Context → ℕ = λ h. length h in
      subst Is (sym held) (record {
        few = omega (arith, pipe.few, length_advanced run before after made latches left lent new advanced, ap Length value);
        turn = turn_within next now left new found (omega (arith, pipe.turn, length_advanced run before after made latches left lent new advanced, ap Length value))
            (some_may new left selected found (subst Found (read_is ∙ held) some)) goes;
        here = here (subst Here (sym value) pipe.here);
        flights = select_keeps new found selected flights (subst Found (read_is ∙ held) some) (subst Nobody (read_is ∙ held) none);
        room = pipe.room;
      })
