-- A split run has the events that were split, in their order, and is numbered.
use Rattle.std.proofs.Common.{◌≡◌, ℕ, not, if◌then◌else◌, List, [], ◌∷◌, ◌++◌, false, true, map, filter, fold, length, refl, ap, sym, ◌∙◌, append_assoc, append-nil}
use Rattle.std.specs.List.{range_with_len}
use Rattle.std.proofs.lemmas.List.{map-append, length_push}
use Rattle.std.proofs.lemmas.List.Elements.{filter-append}
use Rattle.flex_base.specs.Classes.{class_of_what}
use Rattle.flex_base.specs.Devices.{sent_bytes}
use Rattle.flex_base.specs.Setup.{Setup}
use Rattle.flex_base.specs.Unsplit.{Machine, Made, begin, reach, unsplit, does}
use Rattle.flex_base.specs.Journal.{event, is_handover, strip, order_of, numbers_of, IsLegal, sent, console}
use Rattle.flex_base.specs.declared.engine.Engine.{Engine}
use Rattle.flex_base.specs.declared.event.Event.{Event}
use Rattle.flex_base.specs.declared.event.What.{What}
use Rattle.flex_base.specs.declared.event.What.TheVariants as what
use Rattle.flex_base.proofs.Orders.{Plain, More, harts_of, added, range_with_len_push}
use Rattle.flex_base.proofs.Console.{sent_devices}
use Rattle.transplant_plan.specs.Split.{Plan, Splitting, split_event, split_run, first_split, split, with_number, with_handover, holder_of, is_same_engine}

-- Stripping a split run gives back the events that were split.

strip-append : (xs ys : List Event) → strip (xs ++ ys) ≡ strip xs ++ strip ys
unfolding strip
strip-append xs ys =
    ap (map (λ (e : Event). does e.hart.0 e.what)) (filter-append (λ (e : Event). not (is_handover e.what)) xs ys)
    ∙ map-append (λ (e : Event). does e.hart.0 e.what) (filter (λ (e : Event). not (is_handover e.what)) xs) (filter (λ (e : Event). not (is_handover e.what)) ys)

strip_event : (number hart : ℕ) (holder : Engine) (happened : What) → is_handover happened ≡ false → strip (event number hart holder happened ∷ []) ≡ does hart happened ∷ []
unfolding strip
strip_event number hart holder happened plain =
    ap (λ b. map (λ (e : Event). does e.hart.0 e.what) (if not b then event number hart holder happened ∷ [] else [])) plain

strip_handover : (number hart : ℕ) (from to : Engine) → strip (event number hart from (what.Handover to) ∷ []) ≡ []
unfolding strip
strip_handover number hart from to = refl

strip-with_handover : (events : List Event) (hart : ℕ) (from to : Engine) → strip (with_handover events hart from to) ≡ strip events
strip-with_handover events hart from to = elim (is_same_engine from to) as (λ b. strip (if b then events else with_number events hart from (what.Handover to)) ≡ strip events) [
  | true ↦ refl
  | false ↦ strip-append events (event (length events) hart from (what.Handover to) ∷ [])
      ∙ ap (λ es. strip events ++ es) (strip_handover (length events) hart from to)
      ∙ append-nil (strip events)
]

strip-split_event : (plan : Plan) (p : Splitting) (m : Made) → is_handover m.what ≡ false → strip (split_event plan p m).events ≡ strip p.events ++ m ∷ []
strip-split_event plan p m plain =
    let to = plan m.hart (class_of_what m.what) in
    let from = holder_of plan p m.hart in
    let before = with_handover p.events m.hart from to in
    strip-append before (event (length before) m.hart to m.what ∷ [])
    ∙ ap (λ es. strip before ++ es) (strip_event (length before) m.hart to m.what plain)
    ∙ ap (λ es. es ++ m ∷ []) (strip-with_handover p.events m.hart from to)

strip-fold : (plan : Plan) (harts : ℕ) (p : Splitting) (made : List Made) → Plain harts made → strip (fold (split_event plan) p made).events ≡ strip p.events ++ made
strip-fold plan harts p [] plain = sym (append-nil (strip p.events))
strip-fold plan harts p (m ∷ made) (More _ _ plain below others) =
    strip-fold plan harts (split_event plan p m) made others
    ∙ ap (λ es. es ++ made) (strip-split_event plan p m plain)
    ∙ append_assoc (strip p.events) (m ∷ []) made

pub strip-split : (plan : Plan) (harts : ℕ) (made : List Made) → Plain harts made → strip (split plan harts made) ≡ made
unfolding strip split_run
strip-split plan harts made plain = strip-fold plan harts (first_split plan harts) made plain

pub order_of-split : (plan : Plan) (harts : ℕ) (made : List Made) → Plain harts made → order_of (split plan harts made) ≡ harts_of made
unfolding order_of
order_of-split plan harts made plain = ap harts_of (strip-split plan harts made plain)

-- the order of a split run leads where the run led
pub reach-order_of : (setup : Setup) (plan : Plan) (order : List ℕ) → reach setup (order_of (split plan setup.harts (unsplit setup order))) ≡ reach setup order
reach-order_of setup plan order =
    let new = added setup (begin setup) order in
    ap (λ made. reach setup (order_of (split plan setup.harts made))) new.events
    ∙ ap (reach setup) (order_of-split plan setup.harts new.new new.plain)
    ∙ new.leads

pub strip-split-unsplit : (setup : Setup) (plan : Plan) (order : List ℕ) → strip (split plan setup.harts (unsplit setup order)) ≡ unsplit setup order
strip-split-unsplit setup plan order =
    let new = added setup (begin setup) order in
    ap (λ made. strip (split plan setup.harts made)) new.events
    ∙ strip-split plan setup.harts new.new new.plain
    ∙ sym new.events

-- A split run is numbered from 0.

numbers_of-with_number : (events : List Event) (hart : ℕ) (holder : Engine) (happened : What) → numbers_of (with_number events hart holder happened) ≡ numbers_of events ++ length events ∷ []
unfolding numbers_of
numbers_of-with_number events hart holder happened = map-append (λ (e : Event). e.number) events (event (length events) hart holder happened ∷ [])

-- the numbers are 0, 1, 2 and so on
abbrev IsNumbered : List Event → Type 0
IsNumbered events = numbers_of events ≡ range_with_len 0 (length events)

IsNumbered-with_number : (events : List Event) (hart : ℕ) (holder : Engine) (happened : What) → IsNumbered events → IsNumbered (with_number events hart holder happened)
IsNumbered-with_number events hart holder happened so_far =
    numbers_of-with_number events hart holder happened
    ∙ ap (λ ns. ns ++ length events ∷ []) so_far
    ∙ sym (range_with_len_push (length events))
    ∙ ap (range_with_len 0) (sym (length_push events (event (length events) hart holder happened)))

IsNumbered-with_handover : (events : List Event) (hart : ℕ) (from to : Engine) → IsNumbered events → IsNumbered (with_handover events hart from to)
IsNumbered-with_handover events hart from to so_far = elim (is_same_engine from to) as (λ b. IsNumbered (if b then events else with_number events hart from (what.Handover to)))
    [ true ↦ so_far | false ↦ IsNumbered-with_number events hart from (what.Handover to) so_far ]

IsNumbered-fold : (plan : Plan) (p : Splitting) (made : List Made) → IsNumbered p.events → IsNumbered (fold (split_event plan) p made).events
IsNumbered-fold plan p [] so_far = so_far
IsNumbered-fold plan p (m ∷ made) so_far =
    let to = plan m.hart (class_of_what m.what) in
    IsNumbered-fold plan (split_event plan p m) made
    (IsNumbered-with_number (with_handover p.events m.hart (holder_of plan p m.hart) to) m.hart to m.what
    (IsNumbered-with_handover p.events m.hart (holder_of plan p m.hart) to so_far))

IsNumbered-split : (plan : Plan) (harts : ℕ) (made : List Made) → IsNumbered (split plan harts made)
unfolding split_run numbers_of
IsNumbered-split plan harts made = IsNumbered-fold plan (first_split plan harts) made refl

pub split_legal : (setup : Setup) (plan : Plan) (order : List ℕ) → IsLegal setup (split plan setup.harts (unsplit setup order))
split_legal setup plan order = record {
  numbers = IsNumbered-split plan setup.harts (unsplit setup order);
  events = strip-split-unsplit setup plan order ∙ sym (ap (λ (u : Machine). u.events) (reach-order_of setup plan order));
}

-- the console of a split run is what the devices have sent
pub console_devices : (setup : Setup) (plan : Plan) (order : List ℕ) → console (split plan setup.harts (unsplit setup order)) ≡ sent_bytes (reach setup order).devices
console_devices setup plan order = ap sent (strip-split-unsplit setup plan order) ∙ sent_devices setup order
