-- The events of a journal, out of those of each hart.
use Rattle.std.proofs.Common.{◌≡◌, ◌≢◌, ℕ, suc, ◌+◌, ◌<◌, ◌≤◌, ◌==◌, ◌||◌, Bool, true, false, cond, List, [], ◌∷◌, ◌++◌, length, drop, get_or, inl, inr, refl, sym, ap, ◌∙◌, arith}
use Rattle.std.specs.List.{All, filter, flat_map, range_with_len}
use Rattle.std.proofs.lemmas.Bool.{cases_Bool, cases_eq, eqb-true, eq-eqb, ne_eqb, lt-ltb, le-ltb, or_from, or_left, or_right}
use Rattle.flex_base.specs.Journal.{numbers_of}
use Rattle.flex_base.specs.declared.event.Event.{Event}
use Rattle.journal.specs.Merged.{of_hart}
use Rattle.journal.specs.Rests.{in_order, merged, put_in}

-- the events are numbered from this number on
abbrev pub IsNumbered : ℕ → List Event → Type 0
IsNumbered number events = numbers_of events ≡ range_with_len number (length events)

pub first-number : (n : ℕ) (e : Event) (es : List Event) → IsNumbered n (e ∷ es) → e.number ≡ n
unfolding numbers_of
first-number n e es numbered = ap (λ (ns : List ℕ). get_or ns 0 0) numbered

pub rest-numbered : (n : ℕ) (e : Event) (es : List Event) → IsNumbered n (e ∷ es) → IsNumbered (n + 1) es
unfolding numbers_of
rest-numbered n e es numbered = ap (λ (ns : List ℕ). drop 1 ns) numbered

filter-passed : (p : Event → Bool) (e : Event) (es : List Event) → p e ≡ true → filter p (e ∷ es) ≡ e ∷ filter p es
filter-passed p e es is = ap (λ b. cond b (e ∷ filter p es) (filter p es)) is

filter-failed : (p : Event → Bool) (e : Event) (es : List Event) → p e ≡ false → filter p (e ∷ es) ≡ filter p es
filter-failed p e es is = ap (λ b. cond b (e ∷ filter p es) (filter p es)) is

pub of_hart-none : (hart : ℕ) → of_hart hart [] ≡ []
unfolding of_hart
of_hart-none hart = refl

pub of_hart-own : (hart : ℕ) (e : Event) (es : List Event) → e.hart.0 ≡ hart → of_hart hart (e ∷ es) ≡ e ∷ of_hart hart es
unfolding of_hart
of_hart-own hart e es is = filter-passed (λ (x : Event). x.hart.0 == hart) e es (eq-eqb e.hart.0 hart is)

pub of_hart-other : (hart : ℕ) (e : Event) (es : List Event) → e.hart.0 ≢ hart → of_hart hart (e ∷ es) ≡ of_hart hart es
unfolding of_hart
of_hart-other hart e es other = filter-failed (λ (x : Event). x.hart.0 == hart) e es (ne_eqb e.hart.0 hart other)

-- the first event of a hart has no lower number than the first of all
pub at_least : (n hart : ℕ) (es : List Event) (x : Event) (xs : List Event) → IsNumbered n es → of_hart hart es ≡ x ∷ xs → n ≤ x.number
at_least n hart [] x xs numbered is = let none : [] ≡ x ∷ xs = sym (of_hart-none hart) ∙ is in absurd cc
at_least n hart (e ∷ es) x xs numbered is =
    elim (cases_eq e.hart.0 hart) [
      | inl own ↦
          let same : e ∷ of_hart hart es ≡ x ∷ xs = sym (of_hart-own hart e es own) ∙ is in
          let first : e ≡ x = cc in
          omega (arith, first-number n e es numbered, ap (λ (y : Event). y.number) first)
      | inr other ↦ omega (arith, at_least (n + 1) hart es x xs (rest-numbered n e es numbered) (sym (of_hart-other hart e es other) ∙ is))
    ]

-- these put in one by one, from the last on
abbrev put_all : List Event → List Event → List Event
put_all [] ys = ys
put_all (x ∷ xs) ys = put_in x (put_all xs ys)

in_order-append : (xs ys : List Event) → in_order (xs ++ ys) ≡ put_all xs (in_order ys)
in_order-append [] ys = refl
in_order-append (x ∷ xs) ys = ap (put_in x) (in_order-append xs ys)

put_in-before : (e x : Event) (xs : List Event) → e.number ≤ x.number → put_in e (x ∷ xs) ≡ e ∷ x ∷ xs
put_in-before e x xs lower = ap (λ b. cond b (x ∷ put_in e xs) (e ∷ x ∷ xs)) (le-ltb x.number e.number lower)

put_in-after : (e x : Event) (xs : List Event) → x.number < e.number → put_in e (x ∷ xs) ≡ x ∷ put_in e xs
put_in-after e x xs lower = ap (λ b. cond b (x ∷ put_in e xs) (e ∷ x ∷ xs)) (lt-ltb x.number e.number lower)

-- an event comes before all of higher numbers
put_in-first : (p : Event → Bool) (e : Event) (n : ℕ) (es : List Event) → IsNumbered n es → e.number ≤ n → put_in e (filter p es) ≡ e ∷ filter p es
put_in-first p e n [] numbered lower = refl
put_in-first p e n (x ∷ xs) numbered lower =
    elim (cases_Bool (p x)) [
      | inl is ↦
          let least : e.number ≤ x.number = omega (arith, first-number n x xs numbered) in
          ap (put_in e) (filter-passed p x xs is) ∙ put_in-before e x (filter p xs) least ∙ ap (λ (ys : List Event). e ∷ ys) (sym (filter-passed p x xs is))
      | inr is ↦
          let rest = put_in-first p e (n + 1) xs (rest-numbered n x xs numbered) (omega (arith, lower)) in
          ap (put_in e) (filter-failed p x xs is) ∙ rest ∙ ap (λ (ys : List Event). e ∷ ys) (sym (filter-failed p x xs is))
    ]

-- and stays first where such are put in
put_all-first : (p : Event → Bool) (e : Event) (n : ℕ) (es ys : List Event) → IsNumbered n es → e.number < n
    → put_all (filter p es) (e ∷ ys) ≡ e ∷ put_all (filter p es) ys
put_all-first p e n [] ys numbered lower = refl
put_all-first p e n (x ∷ xs) ys numbered lower =
    let rest = put_all-first p e (n + 1) xs ys (rest-numbered n x xs numbered) (omega (arith, lower)) in
    elim (cases_Bool (p x)) [
      | inl is ↦
          let least : e.number < x.number = omega (arith, first-number n x xs numbered) in
          ap (λ (zs : List Event). put_all zs (e ∷ ys)) (filter-passed p x xs is) ∙ ap (put_in x) rest
          ∙ put_in-after x e (put_all (filter p xs) ys) least
          ∙ ap (λ (zs : List Event). e ∷ put_all zs ys) (sym (filter-passed p x xs is))
      | inr is ↦
          ap (λ (zs : List Event). put_all zs (e ∷ ys)) (filter-failed p x xs is) ∙ rest
          ∙ ap (λ (zs : List Event). e ∷ put_all zs ys) (sym (filter-failed p x xs is))
    ]

-- two parts of a journal, put together
put_all-parts : (p q : Event → Bool) → ((e : Event) → p e ≡ true → q e ≡ false) → (n : ℕ) (es : List Event) → IsNumbered n es
    → put_all (filter p es) (filter q es) ≡ filter (λ (e : Event). p e || q e) es
put_all-parts p q apart n [] numbered = refl
put_all-parts p q apart n (e ∷ es) numbered =
    let either : Event → Bool = λ (x : Event). p x || q x in
    let rest : put_all (filter p es) (filter q es) ≡ filter either es = put_all-parts p q apart (n + 1) es (rest-numbered n e es numbered) in
    let first = first-number n e es numbered in
    elim (cases_Bool (p e)) [
      | inl is ↦
          (λ i. put_all (filter-passed p e es is i) (filter-failed q e es (apart e is) i))
          ∙ ap (put_in e) rest ∙ put_in-first either e (n + 1) es (rest-numbered n e es numbered) (omega (arith, first))
          ∙ sym (filter-passed either e es (or_left (p e) (q e) is))
      | inr not_p ↦
          elim (cases_Bool (q e)) [
            | inl is ↦
                (λ i. put_all (filter-failed p e es not_p i) (filter-passed q e es is i))
                ∙ put_all-first p e (n + 1) es (filter q es) (rest-numbered n e es numbered) (omega (arith, first))
                ∙ ap (λ (zs : List Event). e ∷ zs) rest
                ∙ sym (filter-passed either e es (or_right (p e) (q e) is))
            | inr not_q ↦
                (λ i. put_all (filter-failed p e es not_p i) (filter-failed q e es not_q i)) ∙ rest
                ∙ sym (filter-failed either e es (or_from (p e) (q e) not_p not_q))
          ]
    ]

-- it is of one of these harts, of which the first has this number
abbrev is_among : ℕ → List (List Event) → Event → Bool
is_among start [] e = false
is_among start (rest ∷ rests) e = (e.hart.0 == start) || is_among (start + 1) rests e

is_among-from : (start : ℕ) (rests : List (List Event)) (e : Event) → e.hart.0 < start → is_among start rests e ≡ false
is_among-from start [] e lower = refl
is_among-from start (rest ∷ rests) e lower =
    or_from (e.hart.0 == start) (is_among (start + 1) rests e) (ne_eqb e.hart.0 start (λ same. omega (arith, same, lower))) (is_among-from (start + 1) rests e (omega (arith, lower)))

is_among-all : (start : ℕ) (rests : List (List Event)) (e : Event) → start ≤ e.hart.0 → e.hart.0 < start + length rests → is_among start rests e ≡ true
is_among-all start [] e from to = absurd (omega (arith, from, to))
is_among-all start (rest ∷ rests) e from to =
    elim (cases_eq e.hart.0 start) [
      | inl same ↦ or_left (e.hart.0 == start) (is_among (start + 1) rests e) (eq-eqb e.hart.0 start same)
      | inr other ↦ or_right (e.hart.0 == start) (is_among (start + 1) rests e) (is_among-all (start + 1) rests e (omega (arith, from, other)) (omega (arith, to)))
    ]

filter-never : (es : List Event) → filter (λ (e : Event). false) es ≡ []
filter-never [] = refl
filter-never (e ∷ es) = filter-never es

pub filter-always : (p : Event → Bool) (es : List Event) → All (λ (e : Event). p e ≡ true) es → filter p es ≡ es
filter-always p [] all = refl
filter-always p (e ∷ es) all =
    filter-passed p e es (all 0 e (omega arith)) ∙ ap (λ (xs : List Event). e ∷ xs) (filter-always p es (λ k d below. all (suc k) d (omega (arith, below))))

-- the events of these harts by number
in_order-harts : (n start : ℕ) (rests : List (List Event)) (es : List Event) → IsNumbered n es
    → ((h : ℕ) → h < length rests → get_or rests h [] ≡ of_hart (start + h) es)
    → in_order (flat_map (λ (rest : List Event). rest) rests) ≡ filter (is_among start rests) es
unfolding of_hart
in_order-harts n start [] es numbered each = sym (filter-never es)
in_order-harts n start (rest ∷ rests) es numbered each =
    let own : Event → Bool = λ (e : Event). e.hart.0 == start in
    let others = is_among (start + 1) rests in
    let first : rest ≡ filter own es = each 0 (omega arith) ∙ ap (λ k. of_hart k es) (omega arith) in
    let later : in_order (flat_map (λ (xs : List Event). xs) rests) ≡ filter others es =
    in_order-harts n (start + 1) rests es numbered (λ h below. each (suc h) (omega (arith, below)) ∙ ap (λ k. of_hart k es) (omega arith)) in
    let apart : (e : Event) → own e ≡ true → others e ≡ false = λ e is. is_among-from (start + 1) rests e (omega (arith, eqb-true e.hart.0 start is)) in
    in_order-append rest (flat_map (λ (xs : List Event). xs) rests)
    ∙ (λ i. put_all (first i) (later i)) ∙ put_all-parts own others apart n es numbered

-- the rests of a journal by hart are the journal
pub merged-harts : (n count : ℕ) (rests : List (List Event)) (es : List Event) → IsNumbered n es → count ≤ length rests
    → All (λ (e : Event). e.hart.0 < count) es → ((h : ℕ) → h < length rests → get_or rests h [] ≡ of_hart h es)
    → merged rests ≡ es
unfolding merged
merged-harts n count rests es numbered few harts each =
    in_order-harts n 0 rests es numbered (λ h below. each h below ∙ ap (λ k. of_hart k es) (omega arith))
    ∙ filter-always (is_among 0 rests) es (λ k d below. is_among-all 0 rests (get_or es k d) (omega arith) (omega (arith, harts k d below, few)))
