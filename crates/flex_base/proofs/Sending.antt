-- The bytes that events transmit.
use Rattle.std.proofs.Common.{◌≡◌, ◌≢◌, ℕ, ◌+◌, Bool, true, false, if◌then◌else◌, List, [], ◌∷◌, ◌++◌, ◌==◌, filter, length, map, append-nil, Option, None, Some, refl, ap, sym, ◌∙◌, eq-eqb, length-append}
use Rattle.std.specs.List.{filter_map}
use Rattle.std.proofs.lemmas.Bool.{ne_eqb}
use Rattle.std.proofs.lemmas.List.{length_push, map-append}
use Rattle.std.proofs.lemmas.List.Elements.{filter-append, filter_map-append}
use Rattle.flex_base.specs.FlatMemory.{Done, is_ram_access}
use Rattle.flex_base.specs.Devices.{is_transmit, byte_of, sent_bytes}
use Rattle.flex_base.specs.Journal as journal
use Rattle.flex_base.specs.Journal.{sent}
use Rattle.flex_base.specs.Unsplit.{Made, does, with_access}
use Rattle.flex_base.specs.EndOfRun.{events_of, count_of}
use Rattle.flex_base.specs.declared.access.Access.{Access}
use Rattle.flex_base.specs.declared.access.Access.TheVariants as acc
use Rattle.flex_base.specs.declared.access.Reply.{Reply}
use Rattle.flex_base.specs.declared.event.EndPart.{EndPart}
use Rattle.flex_base.specs.declared.event.What.{What}
use Rattle.flex_base.specs.declared.event.What.TheVariants as what

-- One event more.

pub sent-none : sent [] ≡ []
unfolding sent
sent-none = refl

pub sent-append : (xs ys : List Made) → sent (xs ++ ys) ≡ sent xs ++ sent ys
unfolding sent
sent-append xs ys = filter_map-append (λ (m : Made). journal.byte_of m.what) xs ys

-- what an access transmits
abbrev pub bytes_of : Access → List ℕ
bytes_of access = if is_transmit access then byte_of access ∷ [] else []

sent-access : (h : ℕ) (access : Access) (reply : Reply) → sent (does h (what.Acc access reply) ∷ []) ≡ bytes_of access
unfolding sent
sent-access h access reply = elim (is_transmit access) as (λ b. filter_map (λ (o : Option ℕ). o) ((if b then Some (byte_of access) else None) ∷ []) ≡ (if b then byte_of access ∷ [] else []))
    [ true ↦ refl | false ↦ refl ]

sent-end : (h : ℕ) (part : EndPart) → sent (does h (what.End part) ∷ []) ≡ []
unfolding sent
sent-end h part = refl

pub sent_access : (made : List Made) (h : ℕ) (access : Access) (reply : Reply) → sent (made ++ does h (what.Acc access reply) ∷ []) ≡ sent made ++ bytes_of access
sent_access made h access reply = sent-append made (does h (what.Acc access reply) ∷ []) ∙ ap (λ bytes. sent made ++ bytes) (sent-access h access reply)

pub sent_end : (made : List Made) (h : ℕ) (part : EndPart) → sent (made ++ does h (what.End part) ∷ []) ≡ sent made
sent_end made h part = sent-append made (does h (what.End part) ∷ []) ∙ ap (λ bytes. sent made ++ bytes) (sent-end h part) ∙ append-nil (sent made)

-- A hart's own events.

pub events-own : (made : List Made) (h : ℕ) (happened : What) → events_of h (made ++ does h happened ∷ []) ≡ events_of h made ++ does h happened ∷ []
events-own made h happened =
    filter-append (λ (m : Made). m.hart == h) made (does h happened ∷ [])
    ∙ ap (λ b. events_of h made ++ (if b then does h happened ∷ [] else [])) (eq-eqb h h refl)

pub events-other : (made : List Made) (h k : ℕ) (happened : What) → h ≢ k → events_of h (made ++ does k happened ∷ []) ≡ events_of h made
events-other made h k happened other =
    filter-append (λ (m : Made). m.hart == h) made (does k happened ∷ [])
    ∙ ap (λ b. events_of h made ++ (if b then does k happened ∷ [] else [])) (ne_eqb k h (λ e. other (sym e)))
    ∙ append-nil (events_of h made)

pub count_own : (made : List Made) (h : ℕ) (happened : What) → count_of h (made ++ does h happened ∷ []) ≡ count_of h made + 1
count_own made h happened = ap length (events-own made h happened) ∙ length_push (events_of h made) (does h happened)

-- how many bytes the hart has transmitted
abbrev pub sent_of : ℕ → List Made → ℕ
sent_of h made = length (sent (events_of h made))

pub sent_own_access : (made : List Made) (h : ℕ) (access : Access) (reply : Reply)
    → sent_of h (made ++ does h (what.Acc access reply) ∷ []) ≡ sent_of h made + length (bytes_of access)
sent_own_access made h access reply =
    ap (λ es. length (sent es)) (events-own made h (what.Acc access reply))
    ∙ ap length (sent_access (events_of h made) h access reply)
    ∙ length-append (sent (events_of h made)) (bytes_of access)

pub sent_own_end : (made : List Made) (h : ℕ) (part : EndPart) → sent_of h (made ++ does h (what.End part) ∷ []) ≡ sent_of h made
sent_own_end made h part = ap (λ es. length (sent es)) (events-own made h (what.End part)) ∙ ap length (sent_end (events_of h made) h part)

-- The devices transmit the same bytes.

bytes_if : (b : Bool) (access : Access) (d : Done) → d.access ≡ access
    → map (λ (x : Done). byte_of x.access) (if b then d ∷ [] else []) ≡ (if b then byte_of access ∷ [] else [])
bytes_if true access d e = ap (λ a. byte_of a ∷ []) e
bytes_if false access d e = refl

pub sent_bytes_access : (made : List Done) (h : ℕ) (access : Access) (reply : Reply) → sent_bytes (with_access made h access reply) ≡ sent_bytes made ++ bytes_of access
sent_bytes_access made h access reply =
    let d : Done = record { hart = h; access = access; reply = reply } in
    ap (map (λ (x : Done). byte_of x.access)) (filter-append (λ (x : Done). is_transmit x.access) made (d ∷ []))
    ∙ map-append (λ (x : Done). byte_of x.access) (filter (λ (x : Done). is_transmit x.access) made) (filter (λ (x : Done). is_transmit x.access) (d ∷ []))
    ∙ ap (λ bytes. sent_bytes made ++ bytes) (bytes_if (is_transmit access) access d refl)

-- an access of RAM transmits nothing
pub no_bytes : (access : Access) → is_ram_access access ≡ true → bytes_of access ≡ []
no_bytes (acc.DevWrite address width value) e = absurd cc
no_bytes other e = refl
