-- A split run obeys its plan.
use Rattle.std.proofs.Common.{◌≡◌, ◌≢◌, ℕ, ◌+◌, ◌<◌, Bool, true, false, if◌then◌else◌, List, [], ◌∷◌, ◌++◌, map, filter, fold, length, ◌==◌, refl, ap, sym, subst, ◌∙◌, arith, inl, inr, append_assoc, append-nil, eq-eqb, get_or, set, length-set, get_or-set_same, get_or-set_other}
use Rattle.std.proofs.lemmas.Bool.{cases_eq, cases_lt, ne_eqb}
use Rattle.std.proofs.lemmas.List.{map-append, get_or_past}
use Rattle.std.proofs.lemmas.List.Elements.{filter-append}
use Rattle.std.proofs.lemmas.List.FromFn.{get_or-map-range_with_len, length-map-range_with_len}
use Rattle.flex_base.specs.Classes.{class_of_what}
use Rattle.flex_base.specs.Setup.{Setup}
use Rattle.flex_base.specs.Unsplit.{Made, begin, unsplit}
use Rattle.flex_base.specs.Journal.{event, is_handover}
use Rattle.transplant_plan.specs.Split.{Plan, Splitting, is_same_engine, with_number, with_handover, holder_of, split_event, first_split, split_run, split, moves_of, ByPlan, Nothing, Stays, Moves, Obeys}
use Rattle.flex_base.specs.declared.class.Class.{Class}
use Rattle.flex_base.specs.declared.class.Class.TheVariants as class
use Rattle.flex_base.specs.declared.engine.Engine.{Engine}
use Rattle.flex_base.specs.declared.engine.Engine.TheVariants as engine
use Rattle.flex_base.specs.declared.event.Event.{Event}
use Rattle.flex_base.specs.declared.event.What.{What}
use Rattle.flex_base.specs.declared.event.What.TheVariants as what
use Rattle.flex_base.proofs.Orders.{Plain, More, added}

-- Engines.

same_by : (from to : Engine) → is_same_engine from to ≡ true → from ≡ to
same_by engine.Pipe engine.Pipe e = refl
same_by engine.Kernel engine.Kernel e = refl
same_by engine.Host engine.Host e = refl
same_by engine.Pipe engine.Kernel e = absurd cc
same_by engine.Pipe engine.Host e = absurd cc
same_by engine.Kernel engine.Pipe e = absurd cc
same_by engine.Kernel engine.Host e = absurd cc
same_by engine.Host engine.Pipe e = absurd cc
same_by engine.Host engine.Kernel e = absurd cc

is_same : (to : Engine) → is_same_engine to to ≡ true
is_same engine.Pipe = refl
is_same engine.Kernel = refl
is_same engine.Host = refl

apart_by : (from to : Engine) → is_same_engine from to ≡ false → from ≢ to
apart_by from to e same =
    let At : Engine → Type 0 = λ x. is_same_engine x to ≡ false in
    let no : is_same_engine to to ≡ false = subst At same e in
    let yes = is_same to in
    cc

-- What a hart does, and then more.

by_plan-append : (plan : Class → Engine) (at mid last : Engine) (xs ys : List (Engine × What)) → ByPlan plan at xs mid
    → ByPlan plan mid ys last → ByPlan plan at (xs ++ ys) last
by_plan-append plan at mid last _ ys (Nothing _) after = after
by_plan-append plan at mid last _ ys (Stays _ _ happened rest plain is kept) after =
    Stays at last happened (rest ++ ys) plain is (by_plan-append plan at mid last rest ys kept after)
by_plan-append plan at mid last _ ys (Moves _ to _ happened rest apart plain is kept) after =
    Moves at to last happened (rest ++ ys) apart plain is (by_plan-append plan to mid last rest ys kept after)

moves_of-append : (h : ℕ) (xs ys : List Event) → moves_of h (xs ++ ys) ≡ moves_of h xs ++ moves_of h ys
unfolding moves_of
moves_of-append h xs ys =
    ap (map (λ (e : Event). (e.engine, e.what))) (filter-append (λ (e : Event). e.hart.0 == h) xs ys)
    ∙ map-append (λ (e : Event). (e.engine, e.what)) (filter (λ (e : Event). e.hart.0 == h) xs) (filter (λ (e : Event). e.hart.0 == h) ys)

moves_of-own : (number h : ℕ) (holder : Engine) (happened : What) → moves_of h (event number h holder happened ∷ []) ≡ (holder, happened) ∷ []
unfolding moves_of
moves_of-own number h holder happened =
    ap (λ b. map (λ (e : Event). (e.engine, e.what)) (if b then event number h holder happened ∷ [] else [])) (eq-eqb h h refl)

moves_of-other : (number h k : ℕ) (holder : Engine) (happened : What) → k ≢ h → moves_of h (event number k holder happened ∷ []) ≡ []
unfolding moves_of
moves_of-other number h k holder happened other =
    ap (λ b. map (λ (e : Event). (e.engine, e.what)) (if b then event number k holder happened ∷ [] else [])) (ne_eqb k h other)

own_number : (events : List Event) (h : ℕ) (holder : Engine) (happened : What)
    → moves_of h (with_number events h holder happened) ≡ moves_of h events ++ (holder, happened) ∷ []
own_number events h holder happened =
    moves_of-append h events (event (length events) h holder happened ∷ [])
    ∙ ap (λ ms. moves_of h events ++ ms) (moves_of-own (length events) h holder happened)

other_number : (events : List Event) (h k : ℕ) (holder : Engine) (happened : What) → k ≢ h
    → moves_of h (with_number events k holder happened) ≡ moves_of h events
other_number events h k holder happened other =
    moves_of-append h events (event (length events) k holder happened ∷ [])
    ∙ ap (λ ms. moves_of h events ++ ms) (moves_of-other (length events) h k holder happened other)
    ∙ append-nil (moves_of h events)

-- One event.

-- the hart has done by the plan what it did, up to the engine that holds it
abbrev IsKept : Plan → ℕ → Splitting → Type 0
IsKept plan h s = ByPlan (plan h) (plan h class.Fetch) (moves_of h s.events) (holder_of plan s h)

-- the event, in this engine, with a handover before it where the test says so
abbrev after_event : List Event → ℕ → Engine → Engine → What → Bool → List Event
after_event events h from to happened b =
    with_number (if b then events else with_number events h from (what.Handover to)) h to happened

own_by : (plan : Class → Engine) (h : ℕ) (first from to : Engine) (events : List Event) (happened : What) (b : Bool)
    → is_same_engine from to ≡ b → plan (class_of_what happened) ≡ to → is_handover happened ≡ false
    → ByPlan plan first (moves_of h events) from → ByPlan plan first (moves_of h (after_event events h from to happened b)) to
own_by plan h first from to events happened true e is plain kept =
    let At : Engine → Type 0 = λ x. ByPlan plan first (moves_of h events) x in
    let Is : List (Engine × What) → Type 0 = λ ms. ByPlan plan first ms to in
    subst Is (sym (own_number events h to happened))
    (by_plan-append plan first to to (moves_of h events) ((to, happened) ∷ []) (subst At (same_by from to e) kept)
    (Stays to to happened [] plain is (Nothing to)))
own_by plan h first from to events happened false e is plain kept =
    let Is : List (Engine × What) → Type 0 = λ ms. ByPlan plan first ms to in
    let moved = with_number events h from (what.Handover to) in
    subst Is
    (sym (own_number moved h to happened
    ∙ ap (λ ms. ms ++ (to, happened) ∷ []) (own_number events h from (what.Handover to))
    ∙ append_assoc (moves_of h events) ((from, what.Handover to) ∷ []) ((to, happened) ∷ [])))
    (by_plan-append plan first from to (moves_of h events) ((from, what.Handover to) ∷ (to, happened) ∷ []) kept
    (Moves from to to happened [] (apart_by from to e) plain is (Nothing to)))

own_kept : (plan : Plan) (s : Splitting) (m : Made) → is_handover m.what ≡ false → m.hart < length s.engines
    → IsKept plan m.hart s → IsKept plan m.hart (split_event plan s m)
own_kept plan s m plain below kept =
    let to = plan m.hart (class_of_what m.what) in
    let from = holder_of plan s m.hart in
    let held : get_or (set s.engines m.hart to) m.hart (plan m.hart class.Fetch) ≡ to =
    get_or-set_same s.engines m.hart to (plan m.hart class.Fetch) below in
    let At : Engine → Type 0 = λ x. ByPlan (plan m.hart) (plan m.hart class.Fetch) (moves_of m.hart (split_event plan s m).events) x in
    subst At (sym held) (own_by (plan m.hart) m.hart (plan m.hart class.Fetch) from to s.events m.what (is_same_engine from to) refl refl plain kept)

other_handover : (events : List Event) (h k : ℕ) (from to : Engine) → k ≢ h → moves_of h (with_handover events k from to) ≡ moves_of h events
other_handover events h k from to other =
    elim (is_same_engine from to) as (λ b. moves_of h (if b then events else with_number events k from (what.Handover to)) ≡ moves_of h events)
    [ true ↦ refl | false ↦ other_number events h k from (what.Handover to) other ]

other_kept : (plan : Plan) (s : Splitting) (h : ℕ) (m : Made) → m.hart ≢ h → IsKept plan h s → IsKept plan h (split_event plan s m)
other_kept plan s h m other kept =
    let to = plan m.hart (class_of_what m.what) in
    let from = holder_of plan s m.hart in
    let held : get_or (set s.engines m.hart to) h (plan h class.Fetch) ≡ holder_of plan s h =
    get_or-set_other s.engines m.hart h to (plan h class.Fetch) (λ e. other (sym e)) in
    let same = other_number (with_handover s.events m.hart from to) h m.hart to m.what other ∙ other_handover s.events h m.hart from to other in
    let At : Engine → Type 0 = λ x. ByPlan (plan h) (plan h class.Fetch) (moves_of h (split_event plan s m).events) x in
    let Is : List (Engine × What) → Type 0 = λ ms. ByPlan (plan h) (plan h class.Fetch) ms (holder_of plan s h) in
    subst At (sym held) (subst Is (sym same) kept)

event_kept : (plan : Plan) (s : Splitting) (h : ℕ) (m : Made) → is_handover m.what ≡ false → m.hart < length s.engines
    → IsKept plan h s → IsKept plan h (split_event plan s m)
event_kept plan s h m plain below kept = elim (cases_eq m.hart h) [
  | inl same ↦
      let At : ℕ → Type 0 = λ k. IsKept plan k s → IsKept plan k (split_event plan s m) in
      let own : At m.hart = own_kept plan s m plain below in
      subst At same own kept
  | inr other ↦ other_kept plan s h m other kept
]

-- All events.

fold_kept : (plan : Plan) (harts : ℕ) (s : Splitting) (made : List Made) (h : ℕ) → length s.engines ≡ harts → Plain harts made
    → IsKept plan h s → IsKept plan h (fold (split_event plan) s made)
fold_kept plan harts s [] h size plain kept = kept
fold_kept plan harts s (m ∷ made) h size (More _ _ plain below others) kept =
    fold_kept plan harts (split_event plan s m) made h (length-set s.engines m.hart _ ∙ size) others
    (event_kept plan s h m plain (omega (arith, below, size)) kept)

first_size : (plan : Plan) (harts : ℕ) → length (first_split plan harts).engines ≡ harts
first_size plan harts = length-map-range_with_len (λ k. plan k class.Fetch) 0 harts

first_holder : (plan : Plan) (harts h : ℕ) → holder_of plan (first_split plan harts) h ≡ plan h class.Fetch
first_holder plan harts h = elim (cases_lt h harts) [
  | inl below ↦
      let from : 0 + h ≡ h = omega arith in
      get_or-map-range_with_len (λ k. plan k class.Fetch) 0 harts h h (plan h class.Fetch) below from
  | inr beyond ↦ get_or_past (first_split plan harts).engines h (plan h class.Fetch) (omega (arith, beyond, first_size plan harts))
]

moves_of-none : (h : ℕ) → moves_of h [] ≡ []
unfolding moves_of
moves_of-none h = refl

first_kept : (plan : Plan) (harts h : ℕ) → IsKept plan h (first_split plan harts)
first_kept plan harts h =
    let At : Engine → Type 0 = λ x. ByPlan (plan h) (plan h class.Fetch) (moves_of h []) x in
    let Is : List (Engine × What) → Type 0 = λ ms. ByPlan (plan h) (plan h class.Fetch) ms (plan h class.Fetch) in
    subst At (sym (first_holder plan harts h)) (subst Is (sym (moves_of-none h)) (Nothing (plan h class.Fetch)))

run_kept : (plan : Plan) (harts : ℕ) (made : List Made) (h : ℕ) → Plain harts made → IsKept plan h (split_run plan harts made)
unfolding split_run
run_kept plan harts made h plain = fold_kept plan harts (first_split plan harts) made h (first_size plan harts) plain (first_kept plan harts h)

pub split_obeys : (setup : Setup) (plan : Plan) (order : List ℕ) → Obeys plan (split plan setup.harts (unsplit setup order))
split_obeys setup plan order = λ h.
    let new = added setup (begin setup) order in
    let Is : List Made → Type 0 = λ made. IsKept plan h (split_run plan setup.harts made) in
    let kept : IsKept plan h (split_run plan setup.harts (unsplit setup order)) = subst Is (sym new.events) (run_kept plan setup.harts new.new h new.plain) in
    (holder_of plan (split_run plan setup.harts (unsplit setup order)) h, kept)
