-- Which hart waits, by its own log and by that of the devices.
use Rattle.std.proofs.Common.{◌≡◌, ℕ, Bool, true, false, cond, List, [], ◌∷◌, ◌++◌, refl, sym, ap, ◌∙◌, subst, Option, append-nil, eq-eqb}
use Rattle.std.specs.List.{filter, fold}
use native.Mathlib.Decide.{ℕ_discrete}
use Rattle.flex_base.specs.FlatMemory.{Done}
use Rattle.flex_base.specs.Devices.{devices, input_left, reply_after, device_step}
use Rattle.flex_base.specs.Following.{waits_after, waits_by, is_waiting}
use Rattle.flex_base.specs.Banks.{accesses_of, IsProper}
use Rattle.flex_base.specs.declared.access.Access.{Access}
use Rattle.flex_base.specs.declared.access.Access.TheVariants as acc
use Rattle.flex_base.specs.declared.access.Reply.{Reply}
use Rattle.flex_base.specs.declared.engine.Engine.{Engine}
use Rattle.flex_base.specs.declared.hart.HartId.{HartId}
use Rattle.flex_base.specs.declared.event.Event.{Event}
use Rattle.flex_base.specs.declared.event.What.{What}
use Rattle.flex_base.specs.declared.event.What.TheVariants as what
use Rattle.flex_base.proofs.Following.{is_waiting-push}
use Rattle.flex_base.proofs.Banks.{accesses_of-push}
use Rattle.flex_base.proofs.WaitingHarts.{waits_in, waits-step-own, waits-step-other, runs-unwoken}
use Rattle.flex_base.proofs.Standing.{devices_push}
use Rattle.access_record.specs.declared.entry.LogEntry.{LogEntry}
use Rattle.access_record.specs.Logs.{is_bank, names_bank, on_bank, of_hart}
use Rattle.access_record.specs.Buses.{Run, ram_banks, events_of, NamesPlace, NamePlaces}
use Rattle.access_record.proofs.Extending.{events_of-push}
use Rattle.mem_banks.proofs.Bytes.{entry_of, of_hart-same, of_hart-other, of_hart-none}

-- The hart's own log and its part at the devices.

abbrev from : Bool → List LogEntry → Bool
from was log = fold (λ w (e : Event). waits_after w e.what) was (events_of log)

-- what isn't at the devices changes nothing
elsewhere : (run : Run) (was : Bool) (bank : Option ℕ) (w : What) → NamesPlace run bank w → is_bank bank (ram_banks run) ≡ false → waits_after was w ≡ was
elsewhere run was bank (what.Acc (acc.Wait mie) reply) named other = absurd (cc (sym other ∙ ap (λ b. is_bank b (ram_banks run)) named ∙ eq-eqb (ram_banks run) (ram_banks run) refl))
elsewhere run was bank (what.Acc (acc.Pulse tick) reply) named other = absurd (cc (sym other ∙ ap (λ b. is_bank b (ram_banks run)) named ∙ eq-eqb (ram_banks run) (ram_banks run) refl))
elsewhere run was bank (what.Acc acc.Retire reply) named other = absurd (cc (sym other ∙ ap (λ b. is_bank b (ram_banks run)) named ∙ eq-eqb (ram_banks run) (ram_banks run) refl))
elsewhere run was bank (what.Acc access reply) named other = refl
elsewhere run was bank (what.End part) named other = refl
elsewhere run was bank (what.Handover to) named other = refl

part : (run : Run) (was : Bool) (log : List LogEntry) → NamePlaces run log → from was (filter (names_bank (ram_banks run)) log) ≡ from was log
part run was [] named = refl
part run was (e ∷ log) named = by (λ w. part run w log named.1) (is_bank e.bank (ram_banks run)) refl
  where
    rest : List LogEntry
    rest = filter (names_bank (ram_banks run)) log

    by : ((w : Bool) → from w (filter (names_bank (ram_banks run)) log) ≡ from w log) → (b : Bool) → is_bank e.bank (ram_banks run) ≡ b
        → from was (cond (is_bank e.bank (ram_banks run)) (e ∷ filter (names_bank (ram_banks run)) log) (filter (names_bank (ram_banks run)) log)) ≡ from (waits_after was e.event.what) log
    by again true is = ap (λ c. from was (cond c (e ∷ filter (names_bank (ram_banks run)) log) (filter (names_bank (ram_banks run)) log))) is ∙ again (waits_after was e.event.what)
    by again false is = ap (λ c. from was (cond c (e ∷ filter (names_bank (ram_banks run)) log) (filter (names_bank (ram_banks run)) log))) is ∙ again was
        ∙ ap (λ w. from w log) (sym (elsewhere run was e.bank e.event.what named.0 is))

pub waiting-part : (run : Run) (log : List LogEntry) → NamePlaces run log → is_waiting (events_of (on_bank (ram_banks run) log)) ≡ is_waiting (events_of log)
unfolding is_waiting on_bank
waiting-part run log named = part run false log named

-- a hart that doesn't wait may make a pulse
pub proper_by : (harts : ℕ) (made : List Done) (hart : ℕ) (access : Access) → waits_in (devices harts made) hart ≡ false → IsProper harts made hart access
proper_by harts made hart (acc.Pulse tick) none = runs-unwoken (devices harts made) hart none
proper_by harts made hart access none = tt

-- One access more.

pub waiting-push : (harts : ℕ) (input : List ℕ) (log : List LogEntry) (hart : HartId) (engine : Engine) (access : Access) (reply : Reply) (bank number : ℕ)
    → ((h : ℕ) → waits_in (devices harts (accesses_of (events_of log))) h ≡ is_waiting (events_of (of_hart h log)))
    → reply ≡ reply_after harts input (accesses_of (events_of log)) hart.0 access
    → (h : ℕ) → waits_in (devices harts (accesses_of (events_of (log ++ entry_of hart engine access reply bank number ∷ [])))) h
    ≡ is_waiting (events_of (of_hart h (log ++ entry_of hart engine access reply bank number ∷ [])))
waiting-push harts input log hart engine access reply bank number agree is h = by (ℕ_discrete hart.0 h)
  where
    e : LogEntry
    e = entry_of hart engine access reply bank number

    made : List Done
    made = accesses_of (events_of log)

    after : devices harts (accesses_of (events_of (log ++ entry_of hart engine access reply bank number ∷ []))) ≡ device_step (devices harts (accesses_of (events_of log))) hart.0 access
    after = ap (devices harts) (ap accesses_of (events_of-push log e) ∙ accesses_of-push (events_of log) e.event) ∙ devices_push harts (accesses_of (events_of log)) hart.0 access reply

    by : Dec (hart.0 ≡ h) → waits_in (devices harts (accesses_of (events_of (log ++ entry_of hart engine access reply bank number ∷ [])))) h
        ≡ is_waiting (events_of (of_hart h (log ++ entry_of hart engine access reply bank number ∷ [])))
    by (yes same) =
        let was = is_waiting (events_of (of_hart hart.0 log)) in
        let own : of_hart hart.0 (log ++ e ∷ []) ≡ of_hart hart.0 log ++ e ∷ [] = of_hart-same hart.0 e log [] refl ∙ ap (λ (es : List LogEntry). of_hart hart.0 log ++ e ∷ es) (of_hart-none hart.0) in
        let told : is_waiting (events_of (of_hart hart.0 (log ++ e ∷ []))) ≡ waits_by was access reply =
        ap is_waiting (ap events_of own ∙ events_of-push (of_hart hart.0 log) e) ∙ is_waiting-push (events_of (of_hart hart.0 log)) e.event in
        let left = input_left input (accesses_of (events_of log)) in
        let now = ap (λ s. waits_in s hart.0) after ∙ waits-step-own (devices harts (accesses_of (events_of log))) left hart.0 access was (agree hart.0) ∙ ap (λ r. waits_by was access r) (sym is) in
        subst (λ (k : ℕ). waits_in (devices harts (accesses_of (events_of (log ++ entry_of hart engine access reply bank number ∷ [])))) k ≡ is_waiting (events_of (of_hart k (log ++ entry_of hart engine access reply bank number ∷ [])))) same (now ∙ sym told)
    by (no other) =
        let own : of_hart h (log ++ e ∷ []) ≡ of_hart h log = of_hart-other h e log [] other ∙ ap (λ (es : List LogEntry). of_hart h log ++ es) (of_hart-none h) ∙ append-nil (of_hart h log) in
        ap (λ s. waits_in s h) after ∙ waits-step-other (devices harts (accesses_of (events_of log))) hart.0 h access (λ same. other (sym same)) ∙ agree h
        ∙ sym (ap (λ (es : List LogEntry). is_waiting (events_of es)) own)
