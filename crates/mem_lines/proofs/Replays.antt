-- A bank stays the replay of the accesses.
use Rattle.std.proofs.Common.{◌≡◌, ℕ, ◌<◌, true, ◌⊎◌, ◌+◌, if◌then◌else◌, List, [], ◌∷◌, ◌++◌, None, refl, ap, sym, subst, ◌∙◌, inl, inr, arith}
use Rattle.std.proofs.lemmas.Bool.Decides.{eqb_tells}
use Rattle.std.proofs.lemmas.List.Sums.{fold_push}
use Rattle.flex_base.specs.Place.{in_ram}
use Rattle.flex_base.specs.Setup.{Setup}
use Rattle.flex_base.specs.Forms.{IsPlaced, IsInRam, IsAlignedRam, IsWidth, IsAtomicWidth}
use Rattle.flex_base.specs.FlatMemory as memory
use Rattle.flex_base.specs.declared.access.Access.{Access}
use Rattle.flex_base.specs.declared.access.Access.TheVariants as acc
use Rattle.flex_base.proofs.Places.{in_ram-access}
use Rattle.mem_lines.specs.Bank.{Bank, IsIn, IsReplay, IsSame, byte_held, bank_of, address_of}
use Rattle.mem_lines.specs.Steps.{IsSpan, IsHere, Follows, reply_of}
use Rattle.mem_lines.proofs.Dealing.{value_same, span_in}

-- The widths.

pub four_or_eight : (width : ℕ) → IsAtomicWidth width → (width ≡ 4) ⊎ (width ≡ 8)
four_or_eight width one = elim (eqb_tells width 4) [
  | inl four ↦ inl four.1
  | inr no4 ↦ elim (eqb_tells width 8) [
    | inl eight ↦ inr eight.1
    | inr no8 ↦ absurd (grind (arith, no4.0, no8.0, one))
  ]
]

width_of_atomic : (width : ℕ) → IsAtomicWidth width → IsWidth width
width_of_atomic width one = elim (four_or_eight width one) [
  | inl four ↦ subst (λ n. IsWidth n) (sym four) refl
  | inr eight ↦ subst (λ n. IsWidth n) (sym eight) refl
]

-- An access that is placed in the bank.

pub access_here : (setup : Setup) (b : Bank) (access : Access) → memory.is_ram_access access ≡ true → setup.ram ≡ b.ram
    → IsPlaced setup.harts setup.ram access → bank_of b.banks (address_of access) ≡ b.bank → IsHere b access
access_here setup b access ram same placed bank =
    let In : ℕ → Type 0 = λ n. IsInRam n access in
    (subst In same (in_ram-access setup.harts setup.ram access ram placed), bank)

pub fixed_span : (b : Bank) (address width : ℕ) → IsWidth width → IsAlignedRam b.ram address width → bank_of b.banks address ≡ b.bank → IsSpan b address width
fixed_span b address width one in_ram bank = record { width_is = one; in_ram = in_ram; bank_is = bank }

pub atomic_span : (b : Bank) (address width : ℕ) → IsAtomicWidth width × IsAlignedRam b.ram address width → bank_of b.banks address ≡ b.bank → IsSpan b address width
atomic_span b address width placed bank = fixed_span b address width (width_of_atomic width placed.0) placed.1 bank

-- What the bank replies is what flat memory replies.

read_flat : (setup : Setup) (b : Bank) (made : List memory.Done) (address width : ℕ) → IsSpan b address width → IsReplay setup made b
    → memory.reply_with (memory.value_at (byte_held b) address width) ≡ memory.reply_with (memory.value_at (memory.byte setup.image made) address width)
read_flat setup b made address width span replay = ap memory.reply_with (value_same (byte_held b) (memory.byte setup.image made) address address width (λ j below. replay.each (address + j) (span_in b address width j span below)))

pub reply_flat : (setup : Setup) (b : Bank) (made : List memory.Done) (hart : ℕ) (access : Access) → hart < 32 → IsHere b access → IsReplay setup made b
    → reply_of b hart access ≡ memory.flat setup.image made hart access
reply_flat setup b made hart (acc.Fetch address) below here replay = read_flat setup b made address 4 (fixed_span b address 4 refl here.0 here.1) replay
reply_flat setup b made hart (acc.Pte address) below here replay = read_flat setup b made address 8 (fixed_span b address 8 refl here.0 here.1) replay
reply_flat setup b made hart (acc.Read address width) below here replay =
    read_flat setup b made address width (fixed_span b address width here.0.0 here.0.1 here.1) replay
reply_flat setup b made hart (acc.Write address width value) below here replay = refl
reply_flat setup b made hart (acc.Lr address width) below here replay =
    read_flat setup b made address width (atomic_span b address width here.0 here.1) replay
reply_flat setup b made hart (acc.Sc address width value) below here replay =
    ap (λ place. memory.reply_with (if memory.is_reserved place (memory.reservation_set address) then 0 else 1)) (replay.reservations hart below)
reply_flat setup b made hart (acc.Amo op address width value) below here replay =
    read_flat setup b made address width (atomic_span b address width here.0 here.1) replay
reply_flat setup b made hart other below here replay = absurd here.0

-- The replay goes on.

same_in : (old new : Bank) (address : ℕ) → IsSame old new → IsIn new address → IsIn old address
same_in old new address same inside = record {
  ram = subst (λ n. in_ram n address 1 ≡ true) same.ram_is inside.ram;
  bank = ap (λ n. bank_of n address) (sym same.banks_are) ∙ inside.bank ∙ same.bank_is;
}

pub replay_push : (setup : Setup) (old new : Bank) (made : List memory.Done) (d : memory.Done) → Follows d old new
    → IsReplay setup made old → IsReplay setup (made ++ d ∷ []) new
replay_push setup old new made d after replay = record {
  ram = after.same.ram_is ∙ replay.ram;
  each = λ a inside.
      let here = same_in old new a after.same inside in
      after.each a here ∙ ap (λ n. memory.left_by a n d.access d.reply) (replay.each a here)
      ∙ sym (fold_push (λ n (e : memory.Done). memory.left_by a n e.access e.reply) (memory.image_byte setup.image a) made d);
  reservations = λ h below.
      after.reservations h below ∙ ap (λ place. memory.reserved_by h place d) (replay.reservations h below)
      ∙ sym (fold_push (memory.reserved_by h) None made d);
}
