-- The passes of all contexts close the record.
use Rattle.std.proofs.Common.{◌≡◌, ℕ, ◌+◌, ◌<◌, zero, suc, ◌==◌, if◌then◌else◌, List, [], ◌∷◌, length, map, get_or, refl, ap, sym, ◌∙◌, arith, eq-eqb}
use Rattle.std.specs.List.{All, range_with_len}
use Rattle.std.proofs.lemmas.Bool.{ne_eqb}
use Rattle.std.proofs.lemmas.List.Elements.{All-cons, All-nil}
use Rattle.flex_base.proofs.Orders.{range_with_len_push}
use Rattle.access_record.specs.Rule.{one_if, count_of, occurrences}
use Rattle.access_record.specs.Passes.{PassOfHart, EachHasPass, logs_of}
use Rattle.access_record.proofs.Totals.{total-append}
use Rattle.mem_banks.specs.Plain.{numbers_below}
use Rattle.context.specs.Contexts.{Context}

abbrev pub passes_of : List Context → List PassOfHart
passes_of contexts = map (λ (c : Context). c.pass) contexts

-- the contexts from this number on stand in rising order
abbrev pub AreNumbered : ℕ → List Context → Type 0
AreNumbered a contexts = (k : ℕ) (other : Context) → k < length contexts → (get_or contexts k other).pass.hart.0 ≡ a + k

numbered_rest : (a : ℕ) (c : Context) (contexts : List Context) → AreNumbered a (c ∷ contexts) → AreNumbered (a + 1) contexts
numbered_rest a c contexts are k other below =
    let next : a + suc k ≡ (a + 1) + k = omega arith in
    are (suc k) other (omega (arith, below)) ∙ next

numbered_first : (a : ℕ) (c : Context) (contexts : List Context) → AreNumbered a (c ∷ contexts) → c.pass.hart.0 ≡ a
numbered_first a c contexts are =
    let first : a + 0 ≡ a = omega arith in
    are 0 c (omega arith) ∙ first

-- the log of each hart is that of its context
pub log_at : (a k : ℕ) (contexts : List Context) (other : Context) → AreNumbered a contexts → k < length contexts
    → logs_of (passes_of contexts) (a + k) ≡ (get_or contexts k other).pass.log
log_at a k [] other are below = absurd (omega (arith, below))
log_at a zero (c ∷ contexts) other are below =
    let here : c.pass.hart.0 ≡ a + 0 = are 0 c (omega arith) in
    ap (λ b. if b then c.pass.log else logs_of (passes_of contexts) (a + 0)) (eq-eqb c.pass.hart.0 (a + 0) here)
log_at a (suc k) (c ∷ contexts) other are below =
    let first = numbered_first a c contexts are in
    let next : a + suc k ≡ (a + 1) + k = omega arith in
    ap (λ b. if b then c.pass.log else logs_of (passes_of contexts) (a + suc k)) (ne_eqb c.pass.hart.0 (a + suc k) (λ same. omega (arith, same, first)))
    ∙ ap (logs_of (passes_of contexts)) next
    ∙ log_at (a + 1) k contexts other (numbered_rest a c contexts are) (omega (arith, below))

-- Each hart has its pass.

count_range : (h a : ℕ) (contexts : List Context) → AreNumbered a contexts
    → count_of (λ (p : PassOfHart). p.hart.0) h (passes_of contexts) ≡ occurrences h (range_with_len a (length contexts))
count_range h a [] are = refl
count_range h a (c ∷ contexts) are =
    ap (λ n. one_if (n == h) + count_of (λ (p : PassOfHart). p.hart.0) h (passes_of contexts)) (numbered_first a c contexts are)
    ∙ ap (λ n. one_if (a == h) + n) (count_range h (a + 1) contexts (numbered_rest a c contexts are))

occurs_below : (h n : ℕ) → occurrences h (numbers_below n) ≡ occurrences h (range_with_len 0 n)
occurs_below h zero = refl
occurs_below h (suc n) =
    let one : suc n ≡ n + 1 = omega arith in
    let all = ap (λ m. occurrences h (range_with_len 0 m)) one ∙ ap (occurrences h) (range_with_len_push n) ∙ total-append (λ (x : ℕ). one_if (x == h)) (range_with_len 0 n) (n ∷ []) in
    let before = occurs_below h n in
    omega (arith, all, before)

pub each_pass : (harts : ℕ) (enrolled : List ℕ) (contexts : List Context) → enrolled ≡ numbers_below harts → length contexts ≡ harts → AreNumbered 0 contexts
    → EachHasPass enrolled (passes_of contexts)
each_pass harts enrolled contexts are_enrolled count are h =
    let all = ap (occurrences h) are_enrolled ∙ occurs_below h harts ∙ ap (λ n. occurrences h (range_with_len 0 n)) (sym count) ∙ sym (count_range h 0 contexts are) in
    omega (arith, all)

pub all_passes : (P : PassOfHart → Type 0) (contexts : List Context) → ((k : ℕ) (other : Context) → k < length contexts → P (get_or contexts k other).pass)
    → All P (passes_of contexts)
all_passes P [] each = All-nil P
all_passes P (c ∷ contexts) each =
    All-cons P c.pass (passes_of contexts) (each 0 c (omega arith)) (all_passes P contexts (λ k other below. each (suc k) other (omega (arith, below))))
