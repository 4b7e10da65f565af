-- Bytes that a reader has left or a writer holds, where those are known.
use Rattle.std.proofs.Common.{◌≡◌, ℕ, ◌+◌, ◌-◌, ◌<◌, ◌≤◌, List, ◌++◌, take, drop, length, Option, None, Some, IfSome, arith, ap, sym, subst, ◌∙◌}
use Rattle.std.proofs.Math.Seq.{take-add}
use Rattle.std.proofs.KnownBytes.{Appends-trans}
use Rattle.std.proofs.lemmas.List.{take_all, length-take, take_rest}
use Rattle.std.specs.Io.KnownBytes.{Appends}

-- what was read up to a number of bytes, and is shorter, is all
pub within_limit : (left : Option (List ℕ)) (bytes : List ℕ) (n : ℕ) → IfSome left (λ xs. bytes ≡ take n xs) → length bytes < n → IfSome left (λ xs. bytes ≡ xs)
within_limit None bytes n read short = tt
within_limit (Some xs) bytes n read short =
    let few : length xs ≤ n = omega (arith, short, ap length read, length-take n xs) in
    read ∙ take_all n xs few

-- what a write took of the bytes from a place on goes after the bytes before it
pub written_on : (old now new : Option (List ℕ)) (bytes : List ℕ) (done count : ℕ) → Appends old now (take done bytes) → Appends now new (take count (take (length bytes - done) (drop done bytes))) → Appends old new (take (done + count) bytes)
written_on old now new bytes done count before wrote =
    let whole = take-add done count bytes ∙ ap (λ rest. take done bytes ++ take count rest) (sym (take_rest bytes done)) in
    subst (Appends old new) (sym whole) (Appends-trans old now new (take done bytes) _ before wrote)
