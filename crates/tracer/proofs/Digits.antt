-- The decimal digits of a number.
use Rattle.std.proofs.Common.{◌≡◌, ℕ, zero, suc, ◌+◌, ◌-◌, ◌/◌, ◌%◌, ◌^◌, ◌<◌, ◌≤◌, List, [], ◌∷◌, ◌++◌, take, set, get_or, length, length-set, length-take-le, decimal, codes, append_assoc, refl, sym, ap, ◌∙◌, inl, inr, arith}
use Rattle.std.proofs.lemmas.Fmt.{decimal_digit, decimal_step, decimal_nonempty}
use Rattle.std.proofs.lemmas.List.{take_more, take_more_set, same_from_push}
use Rattle.std.proofs.lemmas.Bool.{cases_lt}
use Rattle.flex_base.specs.declared.engine.Engine.{Engine}
use Rattle.tracer.specs.EventText.{engine_text}

pub two_digits : (n : ℕ) → 10 ≤ n → n < 100 → decimal n ≡ (48 + n / 10) ∷ (48 + n % 10) ∷ []
two_digits n ten below =
    decimal_step n ten (omega (arith, below)) ∙ ap (λ (ds : List ℕ). ds ++ (48 + n % 10) ∷ []) (decimal_digit (n / 10) (omega (arith, ten, below)))

pub some_digit : (count : ℕ) (digits : List ℕ) (n : ℕ) → n < 2 ^ 64 → take count digits ≡ decimal n → 1 ≤ count
some_digit zero digits n small is = absurd (omega (arith, decimal_nonempty n small, ap (λ (ds : List ℕ). length ds) is))
some_digit (suc k) digits n small is = omega arith

-- a hart of one digit and its engine, put at once
pub holder_text : (old : List ℕ) (h letter : ℕ) (engine : Engine) → h < 10 → letter ∷ [] ≡ engine_text engine
    → old ++ (32 ∷ (48 + h) ∷ 32 ∷ letter ∷ 32 ∷ []) ≡ old ++ codes " " ++ decimal h ++ codes " " ++ engine_text engine ++ codes " "
holder_text old h letter engine below is =
    rw (decimal_digit h below, ← is) (simp append_assoc refl)

-- a register's number of one digit or two, put at once
pub register_one : (old : List ℕ) (n : ℕ) → n < 10 → old ++ (120 ∷ (48 + n) ∷ 32 ∷ []) ≡ old ++ codes "x" ++ decimal n ++ codes " "
register_one old n below = rw (decimal_digit n below) (simp append_assoc refl)

pub register_two : (old : List ℕ) (n : ℕ) → 10 ≤ n → n < 100 → old ++ (120 ∷ (48 + n / 10) ∷ (48 + n % 10) ∷ 32 ∷ []) ≡ old ++ codes "x" ++ decimal n ++ codes " "
register_two old n ten below = rw (two_digits n ten below) (simp append_assoc refl)

-- the digits before the last one, and the last one; where that isn't a nine, the next number differs in it alone
record LastDigit (n : ℕ) : Type 0 where
  before : List ℕ
  digits : decimal n ≡ before ++ (48 + n % 10) ∷ []
  next : n % 10 < 9 → decimal (n + 1) ≡ before ++ (48 + n % 10 + 1) ∷ []

last_digit : (n : ℕ) → n + 1 < 2 ^ 64 → LastDigit n
last_digit n small = elim (cases_lt n 10) [
  | inl below ↦
      let same : n ≡ n % 10 = omega (arith, below) in
      record {
        before = [];
        digits = decimal_digit n below ∙ ap (λ (d : ℕ). (48 + d) ∷ []) same;
        next = λ low.
            let more : 48 + (n + 1) ≡ 48 + n % 10 + 1 = omega (arith, same) in
            decimal_digit (n + 1) (omega (arith, low, same)) ∙ ap (λ (d : ℕ). d ∷ []) more;
      }
  | inr ten ↦ record {
    before = decimal (n / 10);
    digits = decimal_step n ten (omega (arith, small));
    next = λ low.
        let same : (n + 1) / 10 ≡ n / 10 = omega (arith, low) in
        let more : 48 + (n + 1) % 10 ≡ 48 + n % 10 + 1 = omega (arith, low) in
        decimal_step (n + 1) (omega (arith, ten)) small
        ∙ ap (λ (m : ℕ). decimal m ++ (48 + (n + 1) % 10) ∷ []) same
        ∙ ap (λ (d : ℕ). decimal (n / 10) ++ d ∷ []) more;
  }
]

-- the last of so many digits counts up
pub counted : (count : ℕ) (digits : List ℕ) (n : ℕ) → n + 1 < 2 ^ 64 → 1 ≤ count → count ≤ length digits → take count digits ≡ decimal n
    → get_or digits (count - 1) 0 < 57 → take count (set digits (count - 1) (get_or digits (count - 1) 0 + 1)) ≡ decimal (n + 1)
counted count digits n small some within is below =
    let i = count - 1 in
    let d = get_or digits i 0 in
    let last = last_digit n small in
    let one : count ≡ i + 1 = omega (arith, some) in
    let inside : i < length digits = omega (arith, some, within) in
    let more : take count digits ≡ take i digits ++ d ∷ [] = ap (λ (k : ℕ). take k digits) one ∙ take_more digits i 0 inside in
    let both = same_from_push (take i digits) last.before d (48 + n % 10) (sym more ∙ is ∙ last.digits) in
    let low : n % 10 < 9 = omega (arith, both.1, below) in
    ap (λ (k : ℕ). take k (set digits i (d + 1))) one
    ∙ take_more_set digits i (d + 1) inside
    ∙ ap (λ (ds : List ℕ). ds ++ (d + 1) ∷ []) both.0
    ∙ ap (λ (e : ℕ). last.before ++ (e + 1) ∷ []) both.1
    ∙ sym (last.next low)

-- after a nine the digit before it counts up
pub carried : (count : ℕ) (digits : List ℕ) (n : ℕ) → n + 1 < 2 ^ 64 → 2 ≤ count → count ≤ length digits → take count digits ≡ decimal n
    → get_or digits (count - 1) 0 ≡ 57 → get_or digits (count - 1 - 1) 0 < 57
    → take count (set (set digits (count - 1 - 1) (get_or digits (count - 1 - 1) 0 + 1)) (count - 1) 48) ≡ decimal (n + 1)
carried count digits n small two within is nine below =
    let i = count - 1 in
    let one : count ≡ i + 1 = omega (arith, two) in
    let inside : i < length digits = omega (arith, two, within) in
    let more : take count digits ≡ take i digits ++ get_or digits i 0 ∷ [] = ap (λ (k : ℕ). take k digits) one ∙ take_more digits i 0 inside in
    let size : length (decimal n) ≡ count = sym (ap (λ (ds : List ℕ). length ds) is) ∙ length-take-le count digits within in
    elim (cases_lt n 10) [
      | inl few ↦ absurd (omega (arith, two, size, ap (λ (ds : List ℕ). length ds) (decimal_digit n few)))
      | inr ten ↦
          let both = same_from_push (take i digits) (decimal (n / 10)) (get_or digits i 0) (48 + n % 10) (sym more ∙ is ∙ decimal_step n ten (omega (arith, small))) in
          let last : n % 10 ≡ 9 = omega (arith, both.1, nine) in
          let up = counted i digits (n / 10) (omega (arith, small)) (omega (arith, two)) (omega (arith, within)) both.0 below in
          let raised = set digits (i - 1) (get_or digits (i - 1) 0 + 1) in
          let tens : (n + 1) / 10 ≡ n / 10 + 1 = omega (arith, last) in
          let units : 48 + (n + 1) % 10 ≡ 48 = omega (arith, last) in
          ap (λ (k : ℕ). take k (set raised i 48)) one
          ∙ take_more_set raised i 48 (omega (arith, inside, length-set digits (i - 1) (get_or digits (i - 1) 0 + 1)))
          ∙ ap (λ (ds : List ℕ). ds ++ 48 ∷ []) up
          ∙ ap (λ (m : ℕ). decimal m ++ 48 ∷ []) (sym tens)
          ∙ ap (λ (d : ℕ). decimal ((n + 1) / 10) ++ d ∷ []) (sym units)
          ∙ sym (decimal_step (n + 1) (omega (arith, ten)) small)
    ]
