-- The harts of the tests go on through a pipe, and what is kept of them.
use Rattle.std.proofs.Common.{◌≡◌, ℕ, zero, suc, ◌<◌, ◌==◌, List, [], ◌∷◌, ◌++◌, length, slice_index_or, slice_set, Option, None, Some, inl, inr, refl, sym, ap, subst, ◌∙◌, arith}
use Rattle.std.specs.List.{All}
use Rattle.std.proofs.lemmas.List.{length-append, length-map, map-append}
use Rattle.std.proofs.lemmas.List.Elements.{All-push}
use Rattle.access_record.specs.Rule.{one_if, occurrences}
use Rattle.access_record.specs.Passes.{PassOfHart, EachHasPass}
use Rattle.access_record.specs.Buses.{Run}
use Rattle.access_record.specs.Histories.{History}
use Rattle.access_record.proofs.Totals.{total-append}
use Rattle.context.specs.Contexts.{Context, IsOn}
use Rattle.pipeline.specs.Pipes.{Passes, AreOn}
use Rattle.pipeline.specs.Tried.{harts_in, AreKept}

-- a hart stays the same hart
harts_set : (held : List Context) (place : ℕ) (c next : Context) → place < length held → slice_index_or held place c ≡ c → next.pass.hart ≡ c.pass.hart
    → harts_in (slice_set held place next) ≡ harts_in held
harts_set [] place c next inside read same = absurd (omega (arith, inside))
harts_set (y ∷ rest) zero c next inside read same =
    let Of : Context → List ℕ = λ k. k.pass.hart.0 ∷ harts_in rest in
    ap (λ h. h.0 ∷ harts_in rest) same ∙ sym (ap Of read)
harts_set (y ∷ rest) (suc k) c next inside read same =
    let Then : List ℕ → List ℕ = λ l. y.pass.hart.0 ∷ l in
    ap Then (harts_set rest k c next (omega (arith, inside)) read same)

-- and so do all that pass
pub harts_passed : (run : Run) (before after : Option History) (made : ℕ) (places : List (Option ℕ)) (old new : List Context)
    → Passes run before after made places old new → harts_in new ≡ harts_in old
harts_passed run before after made [] old new passes = ap harts_in passes.1
harts_passed run before after made (None ∷ rest) old new passes = harts_passed run before after made rest old new passes
harts_passed run before after made (Some place ∷ rest) old new passes = elim passes [
  | inl none ↦ harts_passed run before after made rest old new none
  | inr one ↦
      let (between, c, next, less, more, inside, read, steps, same, others) = one in
      harts_passed run between after less rest (slice_set old place next) new others ∙ harts_set old place c next inside read same.hart
]

-- they are kept
pub kept_same : (run : Run) (harts : List ℕ) (old new : List Context) (passes : List PassOfHart) → harts_in new ≡ harts_in old → AreOn run new
    → AreKept run harts old passes → AreKept run harts new passes
kept_same run harts old new passes same on kept =
    let Number : Context → ℕ = λ c. c.pass.hart.0 in
    let lengths : length new ≡ length old = sym (length-map new Number) ∙ ap length same ∙ length-map old Number in
    let counted = kept.count in
    record {
      on = on;
      ids = kept.ids;
      count = omega (arith, lengths, counted);
      each = λ hart.
          let more = kept.each hart in
          let alike = ap (occurrences hart) same in
          omega (arith, more, alike);
    }

-- one hart more
pub kept_more : (run : Run) (harts : List ℕ) (held : List Context) (c : Context) (passes : List PassOfHart) → IsOn run c → AreKept run harts held passes
    → AreKept run (c.pass.hart.0 ∷ harts) (held ++ c ∷ []) passes
kept_more run harts held c passes on kept =
    let Number : Context → ℕ = λ k. k.pass.hart.0 in
    let longer = length-append held (c ∷ []) in
    let counted = kept.count in
    record {
      on = All-push (λ k. IsOn run k) held c kept.on on;
      ids = kept.ids;
      count = omega (arith, longer, counted);
      each = λ hart.
          let more = kept.each hart in
          let alike = ap (occurrences hart) (map-append Number held (c ∷ [])) in
          let summed = total-append (λ (n : ℕ). one_if (n == hart)) (harts_in held) (Number c ∷ []) in
          omega (arith, more, alike, summed);
    }

-- one is taken out, and its pass is kept
pub kept_out : (run : Run) (harts : List ℕ) (before after : List Context) (c : Context) (passes : List PassOfHart) → AreKept run harts (before ++ c ∷ after) passes
    → AreKept run harts (before ++ after) (passes ++ c.pass ∷ [])
kept_out run harts before after c passes kept =
    let Number : Context → ℕ = λ k. k.pass.hart.0 in
    let On : Context → Type 0 = λ k. IsOn run k in
    let Is : PassOfHart → Type 0 = λ p. p.id ≡ run.book.id in
    let counted = kept.count in
    let was = length-append before (c ∷ after) in
    let left = length-append before after in
    let longer = length-append passes (c.pass ∷ []) in
    let its : On c = at_middle On before c after kept.on in
    record {
      on = all_but On before c after kept.on;
      ids = All-push Is passes c.pass kept.ids its.book;
      count = omega (arith, was, left, longer, counted);
      each = λ hart.
          let One : ℕ → ℕ = λ n. one_if (n == hart) in
          let more = kept.each hart in
          let held = ap (occurrences hart) (map-append Number before (c ∷ after)) in
          let held_sum = total-append One (harts_in before) (Number c ∷ harts_in after) in
          let rest = ap (occurrences hart) (map-append Number before after) in
          let rest_sum = total-append One (harts_in before) (harts_in after) in
          let passed = total-append (λ (p : PassOfHart). one_if (p.hart.0 == hart)) passes (c.pass ∷ []) in
          omega (arith, more, held, held_sum, rest, rest_sum, passed);
    }
  where
    at_middle : (P : Context → Type 0) (xs : List Context) (x : Context) (ys : List Context) → All P (xs ++ x ∷ ys) → P x
    at_middle P [] x ys all = all 0 x (omega arith)
    at_middle P (y ∷ xs) x ys all = at_middle P xs x ys (λ k d inside. all (suc k) d (omega (arith, inside)))

    all_but : (P : Context → Type 0) (xs : List Context) (x : Context) (ys : List Context) → All P (xs ++ x ∷ ys) → All P (xs ++ ys)
    all_but P [] x ys all k d inside = all (suc k) d (omega (arith, inside))
    all_but P (y ∷ xs) x ys all zero d inside = all 0 d (omega arith)
    all_but P (y ∷ xs) x ys all (suc k) d inside = all_but P xs x ys (λ n e within. all (suc n) e (omega (arith, within))) k d (omega (arith, inside))

-- nobody is kept
pub kept_nobody : (run : Run) (held : List Context) (passes : List PassOfHart) → held ≡ [] → passes ≡ [] → AreKept run [] held passes
kept_nobody run held passes no_hart no_pass =
    let Held : List Context → Type 0 = λ l. AreKept run [] l passes in
    let Passed : List PassOfHart → Type 0 = λ l. AreKept run [] [] l in
    subst Held (sym no_hart) (subst Passed (sym no_pass) (record {
      on = λ k d inside. absurd (omega (arith, inside));
      ids = λ k d inside. absurd (omega (arith, inside));
      count = refl;
      each = λ hart. omega arith;
    }))

-- all are taken out
pub kept_none : (run : Run) (harts : List ℕ) (held : List Context) (passes : List PassOfHart) → held ≡ [] → AreKept run harts held passes → EachHasPass harts passes
kept_none run harts held passes none kept hart =
    let more = kept.each hart in
    let nobody = ap (λ (l : List Context). occurrences hart (harts_in l)) none in
    omega (arith, more, nobody)

-- a list of no length
pub no_length : {X : Type 0} (xs : List X) → length xs ≡ 0 → xs ≡ []
no_length [] none = refl
no_length (x ∷ rest) none = absurd (omega (arith, none))
