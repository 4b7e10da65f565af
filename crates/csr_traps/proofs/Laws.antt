-- The laws of `specs/Laws.antt`.
use Rattle.std.proofs.Common.{ℕ, ◌<◌, ◌≡◌, ◌≢◌, ◌⊎◌, Bool, true, false, not, ◌&&◌, List, [], ◌∷◌, ◌++◌, Some, inl, inr, refl, ap, ◌∙◌, arith}
use Rattle.std.specs.Prelude.{filter, slice_index, if◌then◌else◌}
use Rattle.flex_base.specs.Causes.{interrupt}
use Rattle.flex_base.specs.Traps.{interrupts, first_cause, is_ready, is_for_m, is_for_s, takeable, is_on_for_m, is_on_for_s, with_field, with_bit, mode_of, mstatus_after_trap_to_m, mstatus_after_trap_to_s, mstatus_after_mret, mstatus_after_sret}
use Rattle.flex_base.specs.Csrs.{mideleg, mode_number}
use Rattle.flex_base.specs.Word.{field, is_set}
use Rattle.flex_base.specs.declared.hart.Mode.{Mode}
use Rattle.flex_base.specs.declared.hart.Mode.TheVariants as mode
use Rattle.csr_traps.proofs.Fields.{bit_small, mie-with_mie, mie-with_mpie, mie-with_mpp, mie-with_mprv, mpie-with_mpie, mpp-with_mie, mpp-with_mpie, mpp-with_mpp, sie-with_mprv, sie-with_sie, sie-with_spie, sie-with_spp, spie-with_spie, spp-with_sie, spp-with_spie, spp-with_spp}
use Rattle.csr_traps.specs.Laws.{NoneOf, IsFirst, TakesFirst, RestoresM, RestoresS}

-- the first of a filtered list, with what stands before it
abbrev pub FirstOf : (ℕ → Bool) → List ℕ → ℕ → Type 0
FirstOf test xs i = (before : List ℕ) × (after : List ℕ) × (xs ≡ before ++ i ∷ after) × NoneOf test before × (test i ≡ true)

more : (test : ℕ → Bool) (x : ℕ) (xs : List ℕ) (i : ℕ) → test x ≡ false → FirstOf test xs i → FirstOf test (x ∷ xs) i
more test x xs i fails found = (x ∷ found.0, found.1, ap (λ ys. x ∷ ys) found.2, (fails, found.3), found.4)

-- how a filtered list begins, followed by another
abbrev pub Begins : (ℕ → Bool) → List ℕ → List ℕ → ℕ → Type 0
Begins test xs rest cause = ((i : ℕ) × (cause ≡ interrupt i) × FirstOf test xs i) ⊎ (NoneOf test xs × (first_cause rest ≡ Some cause))

some_same : (a b : ℕ) → Some a ≡ Some b → b ≡ a
some_same a b is = cc

later : (test : ℕ → Bool) (x : ℕ) (xs rest : List ℕ) (cause : ℕ) → test x ≡ false → Begins test xs rest cause → Begins test (x ∷ xs) rest cause
later test x xs rest cause fails (inl found) = inl (found.0, found.1, more test x xs found.0 fails found.2)
later test x xs rest cause fails (inr none) = inr ((fails, none.0), none.1)

head_by : (b : Bool) (test : ℕ → Bool) (x : ℕ) (xs rest : List ℕ) (cause : ℕ) → test x ≡ b →
    (first_cause (filter test xs ++ rest) ≡ Some cause → Begins test xs rest cause) →
    first_cause ((if b then x ∷ filter test xs else filter test xs) ++ rest) ≡ Some cause → Begins test (x ∷ xs) rest cause
head_by true test x xs rest cause met tail is = inl (x, some_same (interrupt x) cause is, ([], xs, refl, tt, met))
head_by false test x xs rest cause fails tail is = later test x xs rest cause fails (tail is)

pub filtered : (test : ℕ → Bool) (xs rest : List ℕ) (cause : ℕ) → first_cause (filter test xs ++ rest) ≡ Some cause → Begins test xs rest cause
filtered test [] rest cause is = inr (tt, is)
filtered test (x ∷ xs) rest cause is = head_by (test x) test x xs rest cause refl (λ e. filtered test xs rest cause e) is

and_first : (a b c : Bool) → a && b && c ≡ true → a ≡ true
and_first true b c is = refl
and_first false b c is = is

nothing_after : (xs : List ℕ) → xs ++ [] ≡ xs
nothing_after [] = refl
nothing_after (x ∷ xs) = ap (λ ys. x ∷ ys) (nothing_after xs)

no_cause : (cause : ℕ) → first_cause [] ≡ Some cause → ⊥
no_cause cause is = cc

by_s : (stores : List ℕ) (lines : ℕ) (mode : Mode) (cause : ℕ) → NoneOf (is_for_m stores lines mode) interrupts →
    Begins (is_for_s stores lines mode) interrupts [] cause →
    (i : ℕ) × (cause ≡ interrupt i) × (is_ready stores lines i ≡ true)
    × (IsFirst (is_for_m stores lines mode) i ⊎ (NoneOf (is_for_m stores lines mode) interrupts × IsFirst (is_for_s stores lines mode) i))
by_s stores lines mode cause none (inl found) =
    (found.0, found.1, and_first (is_ready stores lines found.0) (is_set found.0 (slice_index stores mideleg)) (is_on_for_s stores mode) found.2.4, inr (none, found.2))
by_s stores lines mode cause none (inr nothing) = absurd (no_cause cause nothing.1)

by_m : (stores : List ℕ) (lines : ℕ) (mode : Mode) (cause : ℕ) →
    Begins (is_for_m stores lines mode) interrupts (filter (is_for_s stores lines mode) interrupts) cause →
    (i : ℕ) × (cause ≡ interrupt i) × (is_ready stores lines i ≡ true)
    × (IsFirst (is_for_m stores lines mode) i ⊎ (NoneOf (is_for_m stores lines mode) interrupts × IsFirst (is_for_s stores lines mode) i))
by_m stores lines mode cause (inl found) =
    (found.0, found.1, and_first (is_ready stores lines found.0) (not (is_set found.0 (slice_index stores mideleg))) (is_on_for_m stores mode) found.2.4, inl found.2)
by_m stores lines mode cause (inr rest) =
    by_s stores lines mode cause rest.0 (filtered (is_for_s stores lines mode) interrupts [] cause (ap first_cause (nothing_after (filter (is_for_s stores lines mode) interrupts)) ∙ rest.1))

pub takes_first : (stores : List ℕ) (lines : ℕ) (mode : Mode) → TakesFirst stores lines mode
unfolding takeable TakesFirst
takes_first stores lines mode cause is =
    by_m stores lines mode cause (filtered (is_for_m stores lines mode) interrupts (filter (is_for_s stores lines mode) interrupts) cause is)

number_small : (m : Mode) → mode_number m < 4
number_small mode.U = omega arith
number_small mode.S = omega arith
number_small mode.M = omega arith

mode_back : (m : Mode) → mode_of (mode_number m) ≡ m
mode_back mode.U = refl
mode_back mode.S = refl
mode_back mode.M = refl

low_back : (m : Mode) → m ≢ mode.M → mode_of (field 0 1 (mode_number m)) ≡ m
low_back mode.U below = refl
low_back mode.S below = refl
low_back mode.M below = absurd (below refl)

mpp_entered : (status : ℕ) (from : Mode) → field 11 2 (mstatus_after_trap_to_m status from) ≡ mode_number from
mpp_entered status from =
    let a = with_field 11 2 (mode_number from) status in
    mpp-with_mpie (with_bit 3 0 a) (field 3 1 status) (bit_small 3 status) ∙ mpp-with_mie a 0 (omega arith) ∙ mpp-with_mpp status (mode_number from) (number_small from)

mie_returned : (e : ℕ) → field 3 1 (mstatus_after_mret e) ≡ field 7 1 e
mie_returned e =
    let x = with_bit 3 (field 7 1 e) e in
    let y = with_bit 7 1 x in
    mie-with_mprv (with_field 11 2 0 y) (mode_of (field 11 2 e)) ∙ mie-with_mpp y 0 (omega arith) ∙ mie-with_mpie x 1 (omega arith) ∙ mie-with_mie e (field 7 1 e) (bit_small 7 e)

pub restores_m : (status : ℕ) (from : Mode) → RestoresM status from
unfolding RestoresM
restores_m status from = (
  ap mode_of (mpp_entered status from) ∙ mode_back from,
  mie_returned (mstatus_after_trap_to_m status from) ∙ mpie-with_mpie (with_bit 3 0 (with_field 11 2 (mode_number from) status)) (field 3 1 status) (bit_small 3 status),
)

spp_entered : (status : ℕ) (from : Mode) → field 8 1 (mstatus_after_trap_to_s status from) ≡ field 0 1 (mode_number from)
spp_entered status from =
    let v = field 0 1 (mode_number from) in
    let a = with_bit 8 v status in
    spp-with_spie (with_bit 1 0 a) (field 1 1 status) (bit_small 1 status) ∙ spp-with_sie a 0 (omega arith) ∙ spp-with_spp status v (bit_small 0 (mode_number from))

sie_returned : (e : ℕ) → field 1 1 (mstatus_after_sret e) ≡ field 5 1 e
sie_returned e =
    let x = with_bit 1 (field 5 1 e) e in
    let y = with_bit 5 1 x in
    sie-with_mprv (with_bit 8 0 y) ∙ sie-with_spp y 0 (omega arith) ∙ sie-with_spie x 1 (omega arith) ∙ sie-with_sie e (field 5 1 e) (bit_small 5 e)

pub restores_s : (status : ℕ) (from : Mode) → RestoresS status from
unfolding RestoresS
restores_s status from = (
  (λ below. ap mode_of (spp_entered status from) ∙ low_back from below),
  sie_returned (mstatus_after_trap_to_s status from) ∙ spie-with_spie (with_bit 1 0 (with_bit 8 (field 0 1 (mode_number from)) status)) (field 1 1 status) (bit_small 1 status),
)
