-- One event more by the plan.
use Rattle.std.proofs.Common.{◌≡◌, ◌≢◌, ℕ, ◌+◌, ◌*◌, ◌≤◌, Bool, true, false, if◌then◌else◌, List, [], ◌∷◌, ◌++◌, length, inl, inr, refl, sym, ap, subst, ◌∙◌, arith, append_assoc}
use Rattle.std.proofs.lemmas.List.{map-append, length-append}
use Rattle.flex_base.specs.Classes.{class_of_what}
use Rattle.flex_base.specs.Journal.{is_handover}
use Rattle.flex_base.specs.declared.class.Class.{Class}
use Rattle.flex_base.specs.declared.class.Class.TheVariants as class
use Rattle.flex_base.specs.declared.engine.Engine.{Engine}
use Rattle.flex_base.specs.declared.event.Event.{Event}
use Rattle.flex_base.specs.declared.event.What.{What}
use Rattle.flex_base.specs.declared.event.What.TheVariants as what
use Rattle.transplant_plan.specs.Split.{ByPlan, Nothing, Stays, Moves}
use Rattle.context.specs.declared.wants.Wants.{Wants}
use Rattle.context.specs.declared.wants.Wants.TheVariants as wants
use Rattle.context.specs.Obeying.{IsFor, moves, IsHandedOver, ObeysSoFar}
use Rattle.context.specs.Fewness.{plain_count}

pub moves-push : (events : List Event) (e : Event) → moves (events ++ e ∷ []) ≡ moves events ++ (e.engine, e.what) ∷ []
moves-push events e = map-append (λ (x : Event). (x.engine, x.what)) events (e ∷ [])

pub plain_count-push : (made : List (Engine × What)) (at : Engine) (happened : What)
    → plain_count (made ++ (at, happened) ∷ []) ≡ plain_count made + (if is_handover happened then 0 else 1)
plain_count-push [] at happened = omega arith
plain_count-push (m ∷ made) at happened = omega (arith, plain_count-push made at happened)

module _ (plan : Class → Engine) where
  by_plan_stays : (first at : Engine) (made : List (Engine × What)) (happened : What) → is_handover happened ≡ false → plan (class_of_what happened) ≡ at
      → ByPlan plan first made at → ByPlan plan first (made ++ (at, happened) ∷ []) at
  by_plan_stays first at made happened plain in_it (Nothing here) = Stays here here happened [] plain in_it (Nothing here)
  by_plan_stays first at made happened plain in_it (Stays here last does rest none in_that by) =
      Stays here last does (rest ++ (last, happened) ∷ []) none in_that (by_plan_stays here last rest happened plain in_it by)
  by_plan_stays first at made happened plain in_it (Moves here to last does rest other none in_that by) =
      Moves here to last does (rest ++ (last, happened) ∷ []) other none in_that (by_plan_stays to last rest happened plain in_it by)

  by_plan_moves : (first from at : Engine) (made : List (Engine × What)) (happened : What) → from ≢ at → is_handover happened ≡ false
      → plan (class_of_what happened) ≡ at → ByPlan plan first made from
      → ByPlan plan first (made ++ (from, what.Handover at) ∷ (at, happened) ∷ []) at
  by_plan_moves first from at made happened other plain in_it (Nothing here) = Moves here at at happened [] other plain in_it (Nothing at)
  by_plan_moves first from at made happened other plain in_it (Stays here last does rest none in_that by) =
      Stays here at does _ none in_that (by_plan_moves here last at rest happened other plain in_it by)
  by_plan_moves first from at made happened other plain in_it (Moves here to last does rest unlike none in_that by) =
      Moves here to at does _ unlike none in_that (by_plan_moves to last at rest happened other plain in_it by)

  -- an event of a class of this engine
  pub obeys_event : (w next : Wants) (at : Engine) (made : List (Engine × What)) (happened : What) → is_handover happened ≡ false
      → plan (class_of_what happened) ≡ at → ObeysSoFar plan w at made → ObeysSoFar plan next at (made ++ (at, happened) ∷ [])
  obeys_event w next at made happened plain in_it (inl by) = inl (by_plan_stays (plan class.Fetch) at made happened plain in_it by)
  obeys_event w next at made happened plain in_it (inr handed) =
      let by = by_plan_moves (plan class.Fetch) handed.from at handed.before happened handed.other plain in_it handed.obeys in
      let all : handed.before ++ (handed.from, what.Handover at) ∷ (at, happened) ∷ [] ≡ made ++ (at, happened) ∷ [] =
      sym (append_assoc handed.before ((handed.from, what.Handover at) ∷ []) ((at, happened) ∷ [])) ∙ ap (λ (ms : List (Engine × What)). ms ++ (at, happened) ∷ []) (sym handed.last) in
      inl (subst (λ (ms : List (Engine × What)). ByPlan plan (plan class.Fetch) ms at) all by)

  -- what is wanted is of one engine
  for_one : (w : Wants) (at to : Engine) → IsFor plan w at → IsFor plan w to → at ≡ to
  for_one (wants.Ask class) at to one two = sym one ∙ two
  for_one (wants.Finish class) at to one two = sym one ∙ two
  for_one wants.Parked at to one two = absurd one
  for_one wants.Over at to one two = absurd one

  -- a handover to the engine of what is wanted
  pub obeys_handover : (w : Wants) (at to : Engine) (made : List (Engine × What)) → to ≢ at → IsFor plan w to → ObeysSoFar plan w at made
      → ObeysSoFar plan w to (made ++ (at, what.Handover to) ∷ [])
  obeys_handover w at to made other for_it (inl by) =
      let handed : IsHandedOver plan w to (made ++ (at, what.Handover to) ∷ []) =
      record { before = made; from = at; obeys = by; other = λ same. other (sym same); wanted = for_it; last = refl } in
      inr handed
  obeys_handover w at to made other for_it (inr handed) = absurd (other (for_one w to at for_it handed.wanted))

  abbrev counts : Bool → ℕ
  counts b = if b then 0 else 1

  one : (b : Bool) → b ≡ false → counts b ≡ 1
  one false none = refl
  one true none = absurd cc

  -- at most one handover stands before each other event, and one after the last
  by_plan_length : (first at : Engine) (made : List (Engine × What)) → ByPlan plan first made at → length made ≤ 2 * plain_count made
  by_plan_length first at made (Nothing here) = omega arith
  by_plan_length first at made (Stays here last does rest none in_that by) =
      omega (arith, by_plan_length here last rest by, one (is_handover does) none)
  by_plan_length first at made (Moves here to last does rest other none in_that by) =
      omega (arith, by_plan_length to last rest by, one (is_handover does) none)

  pub obeys_length : (w : Wants) (at : Engine) (made : List (Engine × What)) → ObeysSoFar plan w at made → length made ≤ 2 * plain_count made + 1
  obeys_length w at made (inl by) = omega (arith, by_plan_length (plan class.Fetch) at made by)
  obeys_length w at made (inr handed) =
      let before = by_plan_length (plan class.Fetch) handed.from handed.before handed.obeys in
      let all = ap length handed.last ∙ length-append handed.before ((handed.from, what.Handover at) ∷ []) in
      let plain = ap plain_count handed.last ∙ plain_count-push handed.before handed.from (what.Handover at) in
      omega (arith, before, all, plain)
