-- Bytes of parts that are laid one after another.
use Rattle.std.proofs.Common.{◌≡◌, ℕ, ◌-◌, List, ◌++◌, length, get_or, if◌then◌else◌, ap, sym, ◌∙◌}
use Rattle.std.specs.List.{fold}
use Rattle.std.proofs.lemmas.List.Sums.{fold-append}
use Rattle.flex_base.specs.FlatMemory.{covers}
use Rattle.image_loader.specs.Laying.{laid_byte}

-- the byte after more parts follows from that before them
pub laid_byte-append : (one other more : List (ℕ × List ℕ)) (a : ℕ) → laid_byte one a ≡ laid_byte other a → laid_byte (one ++ more) a ≡ laid_byte (other ++ more) a
laid_byte-append one other more a same =
    let lay : ℕ → ℕ × List ℕ → ℕ = λ old part. if covers part.0 (length part.1) a then get_or part.1 (a - part.0) 0 else old in
    fold-append lay 0 one more ∙ ap (λ old. fold lay old more) same ∙ sym (fold-append lay 0 other more)
