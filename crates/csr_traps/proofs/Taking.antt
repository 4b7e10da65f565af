-- Which interrupt is taken, told by words of the ready interrupts.
use Rattle.std.proofs.Common.{ℕ, zero, suc, ◌-◌, ◌^◌, ◌<◌, ◌≡◌, Bool, true, false, not, ◌&&◌, eqb, if◌then◌else◌, List, [], ◌∷◌, ◌++◌, None, Some, refl, ap, ◌∙◌, arith, bit_and, bit_or, min}
use Rattle.std.proofs.Math.Path.{sym}
use Rattle.std.proofs.lemmas.Bool.Decides.{nat_tests}
use Rattle.std.proofs.lemmas.Nat.Bits.{bit_at_and, bit_at_not, bit_at-lt, bit_at-zero}
use Rattle.std.specs.Prelude.{filter, slice_index}
use Rattle.std.specs.Int.{w64, bit_at}
use Rattle.flex_base.specs.Word.{is_set}
use Rattle.flex_base.specs.Csrs.{mip, mie, mideleg}
use Rattle.flex_base.specs.Traps.{interrupts, first_cause, is_on_for_m, is_on_for_s, is_for_m, is_for_s, takeable}
use Rattle.flex_base.specs.declared.hart.Mode.{Mode}
use Rattle.csr_traps.specs.Ready.{ready_set, set_for_m, set_for_s, first_in}

min_test : (x y : ℕ) → x < 2 → y < 2 → eqb (min x y) 1 ≡ eqb x 1 && eqb y 1
min_test zero y a b = grind (arith, nat_tests, b)
min_test (suc zero) zero a b = refl
min_test (suc zero) (suc zero) a b = refl
min_test (suc zero) (suc (suc y)) a b = absurd (omega (arith, b))
min_test (suc (suc x)) y a b = absurd (omega (arith, a))

less_test : (x : ℕ) → x < 2 → eqb (1 - x) 1 ≡ not (eqb x 1)
less_test zero a = refl
less_test (suc zero) a = refl
less_test (suc (suc x)) a = absurd (omega (arith, a))

pub is_set-and : (i a b : ℕ) → is_set i (bit_and a b) ≡ is_set i a && is_set i b
is_set-and i a b = ap (λ x. eqb x 1) (bit_at_and a b i) ∙ min_test (bit_at a i) (bit_at b i) (bit_at-lt a i) (bit_at-lt b i)

pub is_set-not : (i a : ℕ) → i < 64 → a < 2 ^ 64 → is_set i (2 ^ 64 - 1 - a) ≡ not (is_set i a)
is_set-not i a place small = ap (λ x. eqb x 1) (bit_at_not w64 a i small place) ∙ less_test (bit_at a i) (bit_at-lt a i)

pub is_set-zero : (i : ℕ) → is_set i 0 ≡ false
is_set-zero i = ap (λ x. eqb x 1) (bit_at-zero i)

-- two tests that agree on each element
abbrev pub Agree : (ℕ → Bool) → (ℕ → Bool) → List ℕ → Type 0
Agree f g [] = Unit {0}
Agree f g (x ∷ xs) = (f x ≡ g x) × Agree f g xs

if_same : (b c : Bool) (xs ys : List ℕ) (x : ℕ) → b ≡ c → xs ≡ ys → (if b then x ∷ xs else xs) ≡ (if c then x ∷ ys else ys)
if_same b c xs ys x tests rest = ap (λ d. if d then x ∷ xs else xs) tests ∙ ap (λ zs. if c then x ∷ zs else zs) rest

pub filter_same : (f g : ℕ → Bool) (xs : List ℕ) → Agree f g xs → filter f xs ≡ filter g xs
filter_same f g [] agree = refl
filter_same f g (x ∷ xs) agree = if_same (f x) (g x) (filter f xs) (filter g xs) x agree.0 (filter_same f g xs agree.1)

-- tests that agree wherever an interrupt is
pub on_interrupts : (f g : ℕ → Bool) → ((i : ℕ) → i < 64 → is_set i 0xaaa ≡ true → f i ≡ g i) → filter f interrupts ≡ filter g interrupts
on_interrupts f g same = filter_same f g interrupts
    (same 11 (omega arith) refl, (same 3 (omega arith) refl, (same 7 (omega arith) refl, (same 9 (omega arith) refl, (same 1 (omega arith) refl, (same 5 (omega arith) refl, tt))))))

and_true : (r m : Bool) → m ≡ true → r && m ≡ r
and_true r true is = grind arith
and_true r false is = absurd cc

-- the ready interrupts as a word
pub is_set-ready : (i pending enabled : ℕ) → is_set i 0xaaa ≡ true → is_set i (bit_and (bit_and pending enabled) 0xaaa) ≡ is_set i pending && is_set i enabled
is_set-ready i pending enabled there =
    is_set-and i (bit_and pending enabled) 0xaaa ∙ and_true (is_set i (bit_and pending enabled)) (is_set i 0xaaa) there ∙ is_set-and i pending enabled

on_by : (a d on : Bool) → on ≡ true → a && d && on ≡ a && d
on_by a d true is = grind arith
on_by a d false is = absurd cc

off_by : (a d on : Bool) → on ≡ false → a && d && on ≡ false
off_by a d false is = grind arith
off_by a d true is = absurd cc

pub to_m : (pending enabled delegated : ℕ) (on : Bool) → on ≡ true → delegated < 2 ^ 64 →
    filter (λ i. (is_set i pending && is_set i enabled) && not (is_set i delegated) && on) interrupts
    ≡ filter (λ i. is_set i (bit_and (bit_and (bit_and pending enabled) 0xaaa) (2 ^ 64 - 1 - delegated))) interrupts
to_m pending enabled delegated on is small =
    on_interrupts (λ i. (is_set i pending && is_set i enabled) && not (is_set i delegated) && on)
    (λ i. is_set i (bit_and (bit_and (bit_and pending enabled) 0xaaa) (2 ^ 64 - 1 - delegated)))
    (λ i place there. on_by (is_set i pending && is_set i enabled) (not (is_set i delegated)) on is
    ∙ sym (is_set-and i (bit_and (bit_and pending enabled) 0xaaa) (2 ^ 64 - 1 - delegated)
    ∙ ap (λ b. b && is_set i (2 ^ 64 - 1 - delegated)) (is_set-ready i pending enabled there)
    ∙ ap (λ b. (is_set i pending && is_set i enabled) && b) (is_set-not i delegated place small)))

pub to_s : (pending enabled delegated : ℕ) (on : Bool) → on ≡ true →
    filter (λ i. (is_set i pending && is_set i enabled) && is_set i delegated && on) interrupts
    ≡ filter (λ i. is_set i (bit_and (bit_and (bit_and pending enabled) 0xaaa) delegated)) interrupts
to_s pending enabled delegated on is =
    on_interrupts (λ i. (is_set i pending && is_set i enabled) && is_set i delegated && on)
    (λ i. is_set i (bit_and (bit_and (bit_and pending enabled) 0xaaa) delegated))
    (λ i place there. on_by (is_set i pending && is_set i enabled) (is_set i delegated) on is
    ∙ sym (is_set-and i (bit_and (bit_and pending enabled) 0xaaa) delegated
    ∙ ap (λ b. b && is_set i delegated) (is_set-ready i pending enabled there)))

-- a level that is off takes nothing
pub none_off : (ready chosen : ℕ → Bool) (on : Bool) → on ≡ false → filter (λ i. ready i && chosen i && on) interrupts ≡ []
none_off ready chosen on is = on_interrupts (λ i. ready i && chosen i && on) (λ i. false) (λ i place there. off_by (ready i) (chosen i) on is)

first_false : (a b c : Bool) → a ≡ false → a && b && c ≡ false
first_false false b c is = refl
first_false true b c is = absurd cc

-- where nothing is ready nothing is taken
pub none_ready : (pending enabled : ℕ) (chosen : ℕ → Bool) (on : Bool) → bit_and (bit_and pending enabled) 0xaaa ≡ 0 →
    filter (λ i. (is_set i pending && is_set i enabled) && chosen i && on) interrupts ≡ []
none_ready pending enabled chosen on nothing =
    on_interrupts (λ i. (is_set i pending && is_set i enabled) && chosen i && on) (λ i. false)
    (λ i place there. first_false (is_set i pending && is_set i enabled) (chosen i) on
    (sym (is_set-ready i pending enabled there) ∙ ap (is_set i) nothing ∙ is_set-zero i))

-- the first of two lists
pub first_cause-left : (xs ys : List ℕ) (c : ℕ) → first_cause xs ≡ Some c → first_cause (xs ++ ys) ≡ Some c
first_cause-left [] ys c is = absurd cc
first_cause-left (x ∷ xs) ys c is = is

pub first_cause-right : (xs ys : List ℕ) → first_cause xs ≡ None → first_cause (xs ++ ys) ≡ first_cause ys
first_cause-right [] ys is = refl
first_cause-right (x ∷ xs) ys is = absurd cc

none_in : filter (λ i. is_set i 0) interrupts ≡ []
none_in = refl

m_by : (stores : List ℕ) (lines : ℕ) (mode : Mode) (on : Bool) → is_on_for_m stores mode ≡ on → slice_index stores mideleg < 2 ^ 64 →
    filter (λ i. is_set i (if on then bit_and (ready_set stores lines) (2 ^ 64 - 1 - slice_index stores mideleg) else 0)) interrupts ≡ filter (is_for_m stores lines mode) interrupts
m_by stores lines mode true is small = sym (to_m (bit_or (slice_index stores mip) lines) (slice_index stores mie) (slice_index stores mideleg) (is_on_for_m stores mode) is small)
m_by stores lines mode false is small = sym (none_off (λ i. is_set i (bit_or (slice_index stores mip) lines) && is_set i (slice_index stores mie)) (λ i. not (is_set i (slice_index stores mideleg))) (is_on_for_m stores mode) is)

s_by : (stores : List ℕ) (lines : ℕ) (mode : Mode) (on : Bool) → is_on_for_s stores mode ≡ on →
    filter (λ i. is_set i (if on then bit_and (ready_set stores lines) (slice_index stores mideleg) else 0)) interrupts ≡ filter (is_for_s stores lines mode) interrupts
s_by stores lines mode true is = sym (to_s (bit_or (slice_index stores mip) lines) (slice_index stores mie) (slice_index stores mideleg) (is_on_for_s stores mode) is)
s_by stores lines mode false is = sym (none_off (λ i. is_set i (bit_or (slice_index stores mip) lines) && is_set i (slice_index stores mie)) (λ i. is_set i (slice_index stores mideleg)) (is_on_for_s stores mode) is)

first_m : (stores : List ℕ) (lines : ℕ) (mode : Mode) → slice_index stores mideleg < 2 ^ 64 →
    first_in (set_for_m stores mode (ready_set stores lines)) ≡ first_cause (filter (is_for_m stores lines mode) interrupts)
unfolding first_in
first_m stores lines mode small = ap first_cause (m_by stores lines mode (is_on_for_m stores mode) refl small)

first_s : (stores : List ℕ) (lines : ℕ) (mode : Mode) →
    first_in (set_for_s stores mode (ready_set stores lines)) ≡ first_cause (filter (is_for_s stores lines mode) interrupts)
unfolding first_in
first_s stores lines mode = ap first_cause (s_by stores lines mode (is_on_for_s stores mode) refl)

-- nothing ready, nothing taken
pub takeable_none : (stores : List ℕ) (lines : ℕ) (mode : Mode) → ready_set stores lines ≡ 0 → takeable stores lines mode ≡ None
unfolding takeable
takeable_none stores lines mode nothing =
    let pending = bit_or (slice_index stores mip) lines in
    let m = none_ready pending (slice_index stores mie) (λ i. not (is_set i (slice_index stores mideleg))) (is_on_for_m stores mode) nothing in
    let s = none_ready pending (slice_index stores mie) (λ i. is_set i (slice_index stores mideleg)) (is_on_for_s stores mode) nothing in
    ap (λ xs. first_cause (xs ++ filter (is_for_s stores lines mode) interrupts)) m ∙ ap first_cause s

-- M's first
pub takeable_m : (stores : List ℕ) (lines : ℕ) (mode : Mode) (cause : ℕ) → slice_index stores mideleg < 2 ^ 64 →
    first_in (set_for_m stores mode (ready_set stores lines)) ≡ Some cause → takeable stores lines mode ≡ Some cause
unfolding takeable
takeable_m stores lines mode cause small is =
    first_cause-left (filter (is_for_m stores lines mode) interrupts) (filter (is_for_s stores lines mode) interrupts) cause (sym (first_m stores lines mode small) ∙ is)

-- where M takes none, S's first
pub takeable_s : (stores : List ℕ) (lines : ℕ) (mode : Mode) → slice_index stores mideleg < 2 ^ 64 →
    first_in (set_for_m stores mode (ready_set stores lines)) ≡ None →
    takeable stores lines mode ≡ first_in (set_for_s stores mode (ready_set stores lines))
unfolding takeable
takeable_s stores lines mode small is =
    first_cause-right (filter (is_for_m stores lines mode) interrupts) (filter (is_for_s stores lines mode) interrupts) (sym (first_m stores lines mode small) ∙ is)
    ∙ sym (first_s stores lines mode)
