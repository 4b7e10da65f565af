use Rattle.std.proofs.Common.{◌≡◌, ℕ, ◌≤◌, get_or, take}
use Rattle.std.specs.List.{fold}
use Rattle.flex_base.specs.Place.{ram_base}
use Rattle.mem_lines.specs.Bank.{bank_of, offset, with_part}
use Rattle.mem_lines.proofs.image_bytes.write_parts.Given as goal

-- the first parts are written
abbrev pub invariant-loop-address : goal.invariant-loop-address
invariant-loop-address l = (a : ℕ) → ram_base ≤ a → bank_of l.banks a ≡ l.bank
    → get_or l.bytes (offset l.banks a) 0 ≡ fold (λ old part. with_part a old (part.0, part.1.items)) (get_or l.initial.bytes (offset l.banks a) 0) (take l.address-index l.parts)
