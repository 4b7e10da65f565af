-- What one entry of the merged logs makes of the unsplit machine: its hart makes the event, and the access is at the entry's bank.
use Rattle.std.proofs.Common.{◌≡◌, ◌≢◌, ◌⊎◌, inl, inr, ℕ, ◌/◌, ◌<◌, Bool, true, false, not, cond, ◌==◌, if◌then◌else◌, List, [], ◌∷◌, ◌++◌, map, length, Option, None, Some, refl, sym, ap, ◌∙◌, subst, arith, eq-eqb, ne_eqb, append-nil}
use Rattle.std.specs.List.{filter}
use Rattle.std.proofs.Math.Nat.{mod-lt}
use Rattle.std.proofs.lemmas.Bool.{cases_eq, cases_Bool}
use Rattle.std.proofs.lemmas.List.Elements.{filter-append}
use Rattle.flex_base.specs.Setup.{Setup}
use Rattle.flex_base.specs.State.{State}
use Rattle.flex_base.specs.StoryTree.{Want, Asks, Ends, IsParked}
use Rattle.flex_base.specs.FlatMemory.{Done, is_ram_access, flat}
use Rattle.flex_base.specs.Forms.{IsPlaced}
use Rattle.flex_base.specs.Devices.{hart_at, is_unwoken, devices, reply_after}
use Rattle.flex_base.specs.Banks.{bank_of, address_of, bank_of_access, access_in, reply_at, IsProper}
use Rattle.flex_base.specs.Following.{next_access}
use Rattle.flex_base.specs.Unsplit.{Machine, Made, does, want_of, next_of, reply_to, with_access, make, step, reach_from}
use Rattle.flex_base.specs.Journal.{is_handover, strip}
use Rattle.flex_base.specs.declared.access.Access.{Access}
use Rattle.flex_base.specs.declared.access.Access.TheVariants as acc
use Rattle.flex_base.specs.declared.access.Reply.{Reply}
use Rattle.flex_base.specs.declared.event.EndPart.{EndPart}
use Rattle.flex_base.specs.declared.event.Event.{Event}
use Rattle.flex_base.specs.declared.event.What.{What}
use Rattle.flex_base.specs.declared.event.What.TheVariants as what
use Rattle.flex_base.proofs.Machines.{reach-cons, step_is, next_asks, next_ends, next_woken}
use Rattle.access_record.specs.Logs.{is_bank}
use Rattle.solo.specs.Standing.{IsReached, of_bank, ArePlaced}
use Rattle.solo.proofs.Flat.{IsReserved, flat_part}
use Rattle.solo.proofs.Serving.{reserved_asked}
use Rattle.solo.proofs.Stepping.{Goes}
use Rattle.solo.proofs.Making.{goes_handover, goes_access, goes_end, events_access, events_end}
use Rattle.solo.proofs.Waking.{parked_woken}

-- the accesses that a bank has made, the devices being the bank after the last one
abbrev pub done_in : ℕ → ℕ → Machine → List Done
done_in banks bank u = if bank == banks then u.devices else of_bank banks bank u.ram

pub done_devices : (banks : ℕ) (u : Machine) → done_in banks banks u ≡ u.devices
done_devices banks u = ap (λ b. if b then u.devices else of_bank banks banks u.ram) (eq-eqb banks banks refl)

pub done_ram : (banks bank : ℕ) (u : Machine) → bank ≢ banks → done_in banks bank u ≡ of_bank banks bank u.ram
done_ram banks bank u apart = ap (λ b. if b then u.devices else of_bank banks bank u.ram) (ne_eqb bank banks apart)

part_push : (banks bank : ℕ) (made : List Done) (d : Done) → of_bank banks bank (made ++ d ∷ []) ≡ of_bank banks bank made ++ (if bank_of_access banks d.access == bank then d ∷ [] else [])
unfolding of_bank
part_push banks bank made d = filter-append (λ (x : Done). bank_of_access banks x.access == bank) made (d ∷ [])

placed_push : (setup : Setup) (made : List Done) (d : Done) → ArePlaced setup made → IsPlaced setup.harts setup.ram d.access → ArePlaced setup (made ++ d ∷ [])
placed_push setup [] d are one = (one, tt)
placed_push setup (x ∷ made) d are one = (are.0, placed_push setup made d are.1 one)

-- the events of one entry without handovers
abbrev pub made_by : ℕ → What → List Made
made_by hart (what.Handover to) = []
made_by hart other = does hart other ∷ []

abbrev pub harts_of : List Made → List ℕ
harts_of made = map (λ (m : Made). m.hart) made

pub strip_cons : (e : Event) (events : List Event) → strip (e ∷ events) ≡ made_by e.hart.0 e.what ++ strip events
unfolding strip
strip_cons e events = by e.what refl
  where
    rest : List Event
    rest = filter (λ (x : Event). not (is_handover x.what)) events

    as_made : Event → Made
    as_made x = does x.hart.0 x.what

    by : (w : What) → e.what ≡ w → map as_made (cond (not (is_handover e.what)) (e ∷ rest) rest) ≡ made_by e.hart.0 w ++ map as_made rest
    by (what.Acc access reply) is = ap (λ x. map as_made (cond (not (is_handover x)) (e ∷ rest) rest)) is ∙ ap (λ x. does e.hart.0 x ∷ map as_made rest) is
    by (what.End part) is = ap (λ x. map as_made (cond (not (is_handover x)) (e ∷ rest) rest)) is ∙ ap (λ x. does e.hart.0 x ∷ map as_made rest) is
    by (what.Handover to) is = ap (λ x. map as_made (cond (not (is_handover x)) (e ∷ rest) rest)) is

-- the machine after an event of a hart, and at each bank the event's access where the entry names this bank
pub record StepOf (setup : Setup) (banks : ℕ) (u v : Machine) (h : ℕ) (w : What) (at : Option ℕ) : Type 0 where
  pub goes : Goes setup u v h w
  pub events : v.events ≡ u.events ++ made_by h w
  pub leads : (order : List ℕ) → reach_from setup u (harts_of (made_by h w) ++ order) ≡ reach_from setup v order
  pub placed : ArePlaced setup v.ram
  pub at_banks : (bank : ℕ) → done_in banks bank v ≡ done_in banks bank u ++ (if is_bank at bank then access_in h w else [])

next_cases : (w : Want) (access : Access) → next_access w ≡ Some access → (w ≡ Asks access) ⊎ ((w ≡ IsParked) × (access ≡ acc.Pulse false))
next_cases (Asks other) access e = inl cc
next_cases IsParked access e = let pulse : access ≡ acc.Pulse false = cc in inr (refl, pulse)
next_cases other access e = absurd cc

module _ (setup : Setup) (banks : ℕ) (some : 0 < banks) (u : Machine) (h : ℕ) (reached : IsReached setup u) (below : h < setup.harts) (within : h < length u.harts)
    (placed : ArePlaced setup u.ram) where
  -- A handover.

  pub step_handover : (to : _) → StepOf setup banks u u h (what.Handover to) None
  step_handover to = record {
    goes = goes_handover setup u h to reached;
    events = sym (append-nil u.events);
    leads = λ order. refl;
    placed = placed;
    at_banks = λ bank. sym (append-nil (done_in banks bank u));
  }

  -- An end.

  pub step_end : (part : EndPart) (after : State) → want_of setup u h ≡ Ends part after → StepOf setup banks u (step setup u h) h (what.End part) None
  step_end part after ends =
      let is : step setup u h ≡ make setup u h (Ends part after) = step_is setup u h (Ends part after) below (next_ends setup u h part after ends) in
      let Placed : List Done → Type 0 = λ ds. ArePlaced setup ds in
      record {
        goes = goes_end setup u h reached below within part after ends;
        events = events_end setup u h reached below within part after ends;
        leads = λ order. reach-cons setup u h order;
        placed = subst Placed (sym (ap (λ (m : Machine). m.ram) is)) placed;
        at_banks = λ bank. ap (done_in banks bank) is ∙ sym (append-nil (done_in banks bank u));
      }

  -- An access.

  module _ (access : Access) (here : IsPlaced setup.harts setup.ram access) where
    abbrev place : ℕ
    place = bank_of_access banks access

    ram_apart : is_ram_access access ≡ true → place ≢ banks
    ram_apart ram same =
        let is : place ≡ bank_of banks (address_of access) = ap (λ b. if b then bank_of banks (address_of access) else banks) ram in
        let less : bank_of banks (address_of access) < banks = mod-lt (address_of access / 64) some in
        omega (arith, is, less, same)

    device_last : is_ram_access access ≡ false → place ≡ banks
    device_last device = ap (λ b. if b then bank_of banks (address_of access) else banks) device

    -- the bank's reply is the machine's
    reply_same : IsReserved u.ram h access → reply_at setup (done_in banks place u) h access ≡ reply_to setup u h access
    reply_same reserved =
        let by : Bool → List Done → List Done → Reply = λ b ram dev. if b then flat setup.image ram h access else reply_after setup.harts setup.input dev h access in
        let made = done_in banks place u in
        elim (cases_Bool (is_ram_access access)) [
          | inl ram ↦
              ap (λ b. by b made made) ram
              ∙ ap (λ (ds : List Done). flat setup.image ds h access) (done_ram banks place u (ram_apart ram))
              ∙ sym (flat_part setup setup.image banks u.ram h access placed ram here reserved)
              ∙ sym (ap (λ b. by b u.ram u.devices) ram)
          | inr device ↦
              ap (λ b. by b made made) device
              ∙ ap (λ (ds : List Done). reply_after setup.harts setup.input ds h access) (ap (λ n. done_in banks n u) (device_last device) ∙ done_devices banks u)
              ∙ sym (ap (λ b. by b u.ram u.devices) device)
        ]

    -- the hart makes this access next, and a store-conditional is of its own reservation
    record IsNext : Type 0 where
      pub next : next_of setup u h ≡ Asks access
      pub reserved : IsReserved u.ram h access

    is_next : next_access (want_of setup u h) ≡ Some access → IsProper setup.harts (done_in banks place u) h access → IsNext
    is_next may proper = elim (next_cases (want_of setup u h) access may) [
      | inl asks ↦ record { next = next_asks setup u h access asks; reserved = reserved_asked setup u h access reached below asks }
      | inr parked ↦
          let Proper : Access → Type 0 = λ a. IsProper setup.harts (done_in banks (bank_of_access banks a) u) h a in
          let Unwoken : List Done → Type 0 = λ ds. is_unwoken (hart_at (devices setup.harts ds) h).standing ≡ false in
          let told = subst Unwoken (done_devices banks u) (subst Proper parked.1 proper) in
          let woken = parked_woken setup u h reached below parked.0 told in
          let Reserved : Access → Type 0 = λ a. IsReserved u.ram h a in
          record { next = next_woken setup u h parked.0 woken ∙ ap Asks (sym parked.1); reserved = subst Reserved (sym parked.1) tt }
    ]

    module _ (reply : Reply) (next : next_of setup u h ≡ Asks access) (told : reply ≡ reply_to setup u h access) where
      abbrev d : Done
      d = record { hart = h; access = access; reply = reply }

      abbrev v : Machine
      v = step setup u h

      is : v ≡ make setup u h (Asks access)
      is = step_is setup u h (Asks access) below next

      ram_is : (b : Bool) → is_ram_access access ≡ b → v.ram ≡ (if b then u.ram ++ d ∷ [] else u.ram)
      ram_is b e = ap (λ (m : Machine). m.ram) is
          ∙ ap (λ (r : Reply). if is_ram_access access then with_access u.ram h access r else u.ram) (sym told)
          ∙ ap (λ c. if c then u.ram ++ d ∷ [] else u.ram) e

      devices_are : (b : Bool) → is_ram_access access ≡ b → v.devices ≡ (if b then u.devices else u.devices ++ d ∷ [])
      devices_are b e = ap (λ (m : Machine). m.devices) is
          ∙ ap (λ (r : Reply). if is_ram_access access then u.devices else with_access u.devices h access r) (sym told)
          ∙ ap (λ c. if c then u.devices else u.devices ++ d ∷ []) e

      apart_none : (bank : ℕ) (made : List Done) → place ≢ bank → made ≡ made ++ (if place == bank then d ∷ [] else [])
      apart_none bank made apart = sym (ap (λ b. made ++ (if b then d ∷ [] else [])) (ne_eqb place bank apart) ∙ append-nil made)

      made_at : (bank : ℕ) → done_in banks bank v ≡ done_in banks bank u ++ (if place == bank then d ∷ [] else [])
      made_at bank = elim (cases_Bool (is_ram_access access)) [
        | inl ram ↦ elim (cases_eq bank banks) [
          | inl last ↦
              ap (λ n. done_in banks n v) last ∙ done_devices banks v ∙ devices_are true ram ∙ sym (done_devices banks u) ∙ ap (λ n. done_in banks n u) (sym last)
              ∙ apart_none bank (done_in banks bank u) (λ same. ram_apart ram (same ∙ last))
          | inr other ↦
              done_ram banks bank v other ∙ ap (of_bank banks bank) (ram_is true ram) ∙ part_push banks bank u.ram d
              ∙ ap (λ (ds : List Done). ds ++ (if place == bank then d ∷ [] else [])) (sym (done_ram banks bank u other))
        ]
        | inr device ↦ elim (cases_eq bank banks) [
          | inl last ↦
              ap (λ n. done_in banks n v) last ∙ done_devices banks v ∙ devices_are false device
              ∙ ap (λ (ds : List Done). ds ++ d ∷ []) (sym (done_devices banks u) ∙ ap (λ n. done_in banks n u) (sym last))
              ∙ sym (ap (λ b. done_in banks bank u ++ (if b then d ∷ [] else [])) (eq-eqb place bank (device_last device ∙ sym last)))
          | inr other ↦
              done_ram banks bank v other ∙ ap (of_bank banks bank) (ram_is false device) ∙ sym (done_ram banks bank u other)
              ∙ apart_none bank (done_in banks bank u) (λ same. other (sym same ∙ device_last device))
        ]
      ]

      placed_by : (b : Bool) → is_ram_access access ≡ b → ArePlaced setup v.ram
      placed_by true e = let Placed : List Done → Type 0 = λ ds. ArePlaced setup ds in subst Placed (sym (ram_is true e)) (placed_push setup u.ram d placed here)
      placed_by false e = let Placed : List Done → Type 0 = λ ds. ArePlaced setup ds in subst Placed (sym (ram_is false e)) placed

      made : StepOf setup banks u v h (what.Acc access reply) (Some place)
      made = record {
        goes = goes_access setup u h reached below within access reply next told;
        events = events_access setup u h reached below within access reply next told;
        leads = λ order. reach-cons setup u h order;
        placed = placed_by (is_ram_access access) refl;
        at_banks = made_at;
      }

    pub step_access : (reply : Reply) → next_access (want_of setup u h) ≡ Some access → reply ≡ reply_at setup (done_in banks place u) h access
        → IsProper setup.harts (done_in banks place u) h access → StepOf setup banks u (step setup u h) h (what.Acc access reply) (Some place)
    step_access reply may told proper =
        let n = is_next may proper in
        made reply n.next (told ∙ reply_same n.reserved)
