-- The next alarm is the least of the harts' alarms.
use Rattle.std.proofs.Common.{◌≡◌, ℕ, zero, suc, ◌<◌, ◌≤◌, ◌⊎◌, ◌||◌, Bool, true, false, not, ◌&&◌, if◌then◌else◌, nat_lt, List, [], ◌∷◌, length, slice_index_or, Option, None, Some, inl, inr, refl, ap, ◌∙◌, arith}
use Rattle.std.specs.List.{fold, list_all}
use Rattle.std.proofs.lemmas.Bool.{and_parts}
use Rattle.std.proofs.lemmas.Bool.Decides.{nat_tests}
use Rattle.flex_base.specs.Word.{is_set}
use Rattle.flex_base.specs.Causes.{MSI, MTI}
use Rattle.flex_base.specs.Devices.{hart_start, is_timer_pending, never, alarm, alarm_of, sooner, next_alarm}
use Rattle.flex_base.specs.DeviceLaws.{settled_by, IsNextAlarm}
use Rattle.flex_base.specs.declared.hart_device.HartDevice.{HartDevice}
use Rattle.flex_base.specs.declared.hart_device.HartStanding.{HartStanding}
use Rattle.flex_base.specs.declared.hart_device.HartStanding.TheVariants as stand

-- the next alarm of these harts and one more
abbrev pub next_after : Option ℕ → List HartDevice → Option ℕ
next_after best harts = fold (λ b (own : HartDevice). sooner b (alarm own)) best harts

pub alarm_tells : (enabled below : Bool) (compare time : ℕ) → (if enabled && below then Some compare else None) ≡ Some time → (enabled ≡ true) × (compare ≡ time)
alarm_tells true true compare time e = let same : compare ≡ time = cc in (refl, same)
alarm_tells true false compare time e = absurd cc
alarm_tells false below compare time e = absurd cc

sooner_by : (b : Bool) (x y time : ℕ) → Some (if b then y else x) ≡ Some time → (Some x ≡ Some time) ⊎ (Some y ≡ Some time)
sooner_by true x y time e = inr e
sooner_by false x y time e = inl e

pub sooner_is : (a b : Option ℕ) (time : ℕ) → sooner a b ≡ Some time → (a ≡ Some time) ⊎ (b ≡ Some time)
sooner_is None b time e = inr e
sooner_is (Some x) None time e = inl e
sooner_is (Some x) (Some y) time e = sooner_by (nat_lt y x) x y time e

-- It is the alarm of some hart.

abbrev AlarmOf : List HartDevice → ℕ → Type 0
AlarmOf harts time = (h : ℕ) × (h < length harts) × (alarm (slice_index_or harts h hart_start) ≡ Some time)

alarm_in : (harts : List HartDevice) (best : Option ℕ) (time : ℕ) → next_after best harts ≡ Some time → (best ≡ Some time) ⊎ AlarmOf harts time
alarm_in [] best time e = inl e
alarm_in (x ∷ xs) best time e = elim (alarm_in xs (sooner best (alarm x)) time e) [
  | inl first ↦ elim (sooner_is best (alarm x) time first) [
    | inl before ↦ inl before
    | inr here ↦ inr (zero, omega arith, here)
  ]
  | inr later ↦ inr (suc later.0, omega (arith, later.1), later.2)
]

pub alarm_of_some : (harts : List HartDevice) (time : ℕ) → next_alarm harts ≡ Some time → AlarmOf harts time
alarm_of_some harts time e = elim (alarm_in harts None time e) [
  | inl before ↦ absurd cc
  | inr found ↦ found
]

-- No hart's alarm is earlier.

abbrev AtMost : ℕ → Option ℕ → Type 0
AtMost time None = Unit {0}
AtMost time (Some other) = time ≤ other

most_by : (b : Bool) (x y time : ℕ) → nat_lt y x ≡ b → time ≤ (if b then y else x) → (time ≤ x) × (time ≤ y)
most_by true x y time e least = (grind (arith, nat_tests, e, least), least)
most_by false x y time e least = (least, grind (arith, nat_tests, e, least))

most_both : (a b : Option ℕ) (time : ℕ) → AtMost time (sooner a b) → AtMost time a × AtMost time b
most_both None b time least = (tt, least)
most_both (Some x) None time least = (least, tt)
most_both (Some x) (Some y) time least = most_by (nat_lt y x) x y time refl least

most_of : (a : Option ℕ) (time other : ℕ) → AtMost time a → a ≡ Some other → time ≤ other
most_of None time other least e = absurd cc
most_of (Some x) time other least e = let same : x ≡ other = cc in omega (arith, least, same)

abbrev IsLeast : ℕ → List HartDevice → Type 0
IsLeast time harts = (h other : ℕ) → h < length harts → alarm (slice_index_or harts h hart_start) ≡ Some other → time ≤ other

least_cons : (time : ℕ) (x : HartDevice) (xs : List HartDevice) → AtMost time (alarm x) → IsLeast time xs → IsLeast time (x ∷ xs)
least_cons time x xs here later zero other within e = most_of (alarm x) time other here e
least_cons time x xs here later (suc h) other within e = later h other (omega (arith, within)) e

most_here : (best : Option ℕ) (time : ℕ) → best ≡ Some time → AtMost time best
most_here None time e = absurd cc
most_here (Some x) time e = let same : x ≡ time = cc in omega (arith, same)

least_in : (harts : List HartDevice) (best : Option ℕ) (time : ℕ) → next_after best harts ≡ Some time → AtMost time best × IsLeast time harts
least_in [] best time e = (most_here best time e, λ h other within _. absurd (omega (arith, within)))
least_in (x ∷ xs) best time e =
    let rest = least_in xs (sooner best (alarm x)) time e in
    let both = most_both best (alarm x) time rest.0 in
    (both.0, least_cons time x xs both.1 rest.1)

pub is_next_alarm : (harts : List HartDevice) (time : ℕ) → next_alarm harts ≡ Some time → IsNextAlarm harts time
is_next_alarm harts time e = record { hart = alarm_of_some harts time e; least = (least_in harts None time e).1 }

-- Where there is none, no hart has one.

none_sooner : (a b : Option ℕ) → sooner a b ≡ None → (a ≡ None) × (b ≡ None)
none_sooner None b e = (refl, e)
none_sooner (Some x) None e = absurd cc
none_sooner (Some x) (Some y) e = absurd cc

none_cons : (x : HartDevice) (xs : List HartDevice) → alarm x ≡ None → ((h : ℕ) → h < length xs → alarm (slice_index_or xs h hart_start) ≡ None)
    → (h : ℕ) → h < length (x ∷ xs) → alarm (slice_index_or (x ∷ xs) h hart_start) ≡ None
none_cons x xs here later zero within = here
none_cons x xs here later (suc h) within = later h (omega (arith, within))

none_in : (xs : List HartDevice) (best : Option ℕ) → next_after best xs ≡ None → (best ≡ None) × ((h : ℕ) → h < length xs → alarm (slice_index_or xs h hart_start) ≡ None)
none_in [] best e = (e, λ h within. absurd (omega (arith, within)))
none_in (x ∷ xs) best e =
    let rest = none_in xs (sooner best (alarm x)) e in
    let both = none_sooner best (alarm x) rest.0 in
    (both.0, none_cons x xs both.1 rest.1)

pub no_alarms : (harts : List HartDevice) → next_alarm harts ≡ None → (h : ℕ) → h < length harts → alarm (slice_index_or harts h hart_start) ≡ None
no_alarms harts e = (none_in harts None e).1

-- It lies ahead, where no hart waits for a line that is on.

off_by : (other pending enabled : Bool) → not (other || (pending && enabled)) ≡ true → enabled ≡ true → pending ≡ false
off_by true pending enabled settled e = absurd cc
off_by false true enabled settled e = absurd (let wrong = ap not e ∙ refl in cc)
off_by false false enabled settled e = refl

ahead_by : (mtime : ℕ) (own : HartDevice) (standing : HartStanding) (time : ℕ) → settled_by mtime own standing ≡ true → alarm_of standing own.mtimecmp ≡ Some time → mtime ≤ time
ahead_by mtime own stand.Runs time settled e = absurd cc
ahead_by mtime own stand.Woken time settled e = absurd cc
ahead_by mtime own stand.Spent time settled e = absurd cc
ahead_by mtime own (stand.Waits mie) time settled e =
    let both = alarm_tells (is_set MTI mie) (nat_lt own.mtimecmp never) own.mtimecmp time e in
    let off : is_timer_pending mtime own ≡ false = off_by (own.msip && is_set MSI mie) (is_timer_pending mtime own) (is_set MTI mie) settled both.0 in
    grind (arith, nat_tests, off, both.1)

all_at : (p : HartDevice → Bool) (xs : List HartDevice) (h : ℕ) (d : HartDevice) → h < length xs → list_all p xs ≡ true → p (slice_index_or xs h d) ≡ true
all_at p [] h d within all = absurd (omega (arith, within))
all_at p (x ∷ xs) zero d within all = (and_parts (p x) (list_all p xs) all).0
all_at p (x ∷ xs) (suc h) d within all = all_at p xs h d (omega (arith, within)) (and_parts (p x) (list_all p xs) all).1

pub alarm_later : (mtime : ℕ) (harts : List HartDevice) (time : ℕ) → next_alarm harts ≡ Some time
    → list_all (λ (own : HartDevice). settled_by mtime own own.standing) harts ≡ true → mtime ≤ time
alarm_later mtime harts time e settled =
    let found = alarm_of_some harts time e in
    let own = slice_index_or harts found.0 hart_start in
    ahead_by mtime own own.standing time (all_at (λ (x : HartDevice). settled_by mtime x x.standing) harts found.0 hart_start found.1 settled) found.2
