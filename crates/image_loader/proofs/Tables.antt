-- Lists made of program headers one after another: the tests, and the segments.
use Rattle.std.proofs.Common.{◌≡◌, ℕ, zero, suc, ◌+◌, ◌-◌, ◌<◌, true, false, if◌then◌else◌, List, [], ◌∷◌, ◌++◌, append-nil, refl, ap, sym, ◌∙◌, arith, suc-add}
use Rattle.std.specs.Prelude.{Option, None, Some, flat_map}
use Rattle.std.specs.List.{range_with_len}
use Rattle.std.specs.Option.{option_or}
use Rattle.std.proofs.lemmas.Grind.{flat_map-append}
use Rattle.image_loader.specs.Faults.{FaultTest, first_fault}
use Rattle.image_loader.specs.declared.fault.ImageFault.{ImageFault}

range_with_len-split : (a n m : ℕ) → range_with_len a (n + m) ≡ range_with_len a n ++ range_with_len (a + n) m
range_with_len-split a zero m =
    let none : zero + m ≡ m = omega arith in
    let here : a ≡ a + zero = omega arith in
    ap (range_with_len a) none ∙ ap (λ b. range_with_len b m) here
range_with_len-split a (suc n) m =
    let next : a + 1 + n ≡ a + suc n = omega arith in
    ap (range_with_len a) (suc-add n m) ∙ ap (λ l. a ∷ l) (range_with_len-split (a + 1) n m ∙ ap (λ b. range_with_len (a + 1) n ++ range_with_len b m) next)

-- what the headers from n on add
flat_map_from : {A : Type 0} (f : ℕ → List A) (n k : ℕ) → flat_map f (range_with_len 0 (n + suc k)) ≡ flat_map f (range_with_len 0 n) ++ (f n ++ flat_map f (range_with_len (n + 1) k))
flat_map_from f n k =
    let here : 0 + n ≡ n = omega arith in
    ap (flat_map f) (range_with_len-split 0 n (suc k)) ∙ flat_map-append f (range_with_len 0 n) (range_with_len (0 + n) (suc k))
    ∙ ap (λ b. flat_map f (range_with_len 0 n) ++ flat_map f (range_with_len b (suc k))) here

-- one header more
pub flat_map_more : {A : Type 0} (f : ℕ → List A) (n : ℕ) → flat_map f (range_with_len 0 (n + 1)) ≡ flat_map f (range_with_len 0 n) ++ f n
flat_map_more f n =
    let one : n + 1 ≡ n + suc 0 = refl in
    ap (λ k. flat_map f (range_with_len 0 k)) one ∙ flat_map_from f n 0 ∙ ap (λ l. flat_map f (range_with_len 0 n) ++ l) (append-nil (f n))

pub first_fault-append : (tests more : List FaultTest) → first_fault (tests ++ more) ≡ option_or (first_fault tests) (first_fault more)
first_fault-append [] more = refl
first_fault-append (test ∷ tests) more = elim test.0 as (λ b. (if b then Some test.1 else first_fault (tests ++ more)) ≡ option_or (if b then Some test.1 else first_fault tests) (first_fault more)) [
  | true ↦ refl
  | false ↦ first_fault-append tests more
]

none_before : {A : Type 0} (a b : Option A) → option_or a b ≡ None → a ≡ None
none_before None b e = refl
none_before (Some x) b e = absurd cc

none_after : {A : Type 0} (a b : Option A) → option_or a b ≡ None → b ≡ None
none_after None b e = e
none_after (Some x) b e = absurd cc

-- the tests of the headers as those before n, those of n and those after it
faults_from : (f : ℕ → List FaultTest) (n k : ℕ) → first_fault (flat_map f (range_with_len 0 (n + suc k))) ≡ option_or (first_fault (flat_map f (range_with_len 0 n))) (option_or (first_fault (f n)) (first_fault (flat_map f (range_with_len (n + 1) k))))
faults_from f n k = ap first_fault (flat_map_from f n k) ∙ first_fault-append (flat_map f (range_with_len 0 n)) (f n ++ flat_map f (range_with_len (n + 1) k))
    ∙ ap (option_or (first_fault (flat_map f (range_with_len 0 n)))) (first_fault-append (f n) (flat_map f (range_with_len (n + 1) k)))

faults_within : (f : ℕ → List FaultTest) (n count : ℕ) → n < count → first_fault (flat_map f (range_with_len 0 count)) ≡ option_or (first_fault (flat_map f (range_with_len 0 n))) (option_or (first_fault (f n)) (first_fault (flat_map f (range_with_len (n + 1) (count - n - 1)))))
faults_within f n count below =
    let whole : count ≡ n + suc (count - n - 1) = omega arith in
    ap (λ k. first_fault (flat_map f (range_with_len 0 k))) whole ∙ faults_from f n (count - n - 1)

-- the first header with a fault gives it
pub fault_at : (f : ℕ → List FaultTest) (n count : ℕ) (fault : ImageFault) → n < count → first_fault (flat_map f (range_with_len 0 n)) ≡ None → first_fault (f n) ≡ Some fault
    → first_fault (flat_map f (range_with_len 0 count)) ≡ Some fault
fault_at f n count fault below before here = faults_within f n count below ∙ rw (before, here) refl

-- one header more without a fault
pub no_fault_more : (f : ℕ → List FaultTest) (n : ℕ) → first_fault (flat_map f (range_with_len 0 n)) ≡ None → first_fault (f n) ≡ None → first_fault (flat_map f (range_with_len 0 (n + 1))) ≡ None
no_fault_more f n before here = ap first_fault (flat_map_more f n) ∙ first_fault-append (flat_map f (range_with_len 0 n)) (f n) ∙ rw (before, here) refl

-- where no header has a fault, this one hasn't
pub no_fault_at : (f : ℕ → List FaultTest) (n count : ℕ) → n < count → first_fault (flat_map f (range_with_len 0 count)) ≡ None → first_fault (f n) ≡ None
no_fault_at f n count below none = none_before (first_fault (f n)) _ (none_after (first_fault (flat_map f (range_with_len 0 n))) _ (sym (faults_within f n count below) ∙ none))

-- The tests of a file, in their order: those of the header, of the segments and of the entry.

faults_in_order : (a b c : List FaultTest) → first_fault (a ++ b ++ c) ≡ option_or (option_or (first_fault a) (first_fault b)) (first_fault c)
faults_in_order a b c = first_fault-append (a ++ b) c ∙ ap (λ found. option_or found (first_fault c)) (first_fault-append a b)

pub fault_second : (a b c : List FaultTest) (fault : ImageFault) → first_fault a ≡ None → first_fault b ≡ Some fault → first_fault (a ++ b ++ c) ≡ Some fault
fault_second a b c fault none here = faults_in_order a b c ∙ rw (none, here) refl

pub fault_last : (a b c : List FaultTest) → first_fault a ≡ None → first_fault b ≡ None → first_fault (a ++ b ++ c) ≡ first_fault c
fault_last a b c none no_more = faults_in_order a b c ∙ rw (none, no_more) refl

pub no_fault_second : (a b c : List FaultTest) → first_fault (a ++ b ++ c) ≡ None → first_fault b ≡ None
no_fault_second a b c none = none_after (first_fault a) (first_fault b) (none_before (option_or (first_fault a) (first_fault b)) (first_fault c) (sym (faults_in_order a b c) ∙ none))

pub no_fault_last : (a b c : List FaultTest) → first_fault (a ++ b ++ c) ≡ None → first_fault c ≡ None
no_fault_last a b c none = none_after (option_or (first_fault a) (first_fault b)) (first_fault c) (sym (faults_in_order a b c) ∙ none)
