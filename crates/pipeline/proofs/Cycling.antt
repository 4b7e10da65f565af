-- What a cycle makes.
use Rattle.std.proofs.Common.{◌≡◌, ℕ, zero, suc, ◌+◌, List, [], ◌∷◌, ◌++◌, map, take, drop, reverse, length, slice_index_or, Option, None, Some, inl, inr, refl, sym, ap, subst, ◌∙◌, arith, length-set}
use Rattle.std.proofs.Math.Seq.{take-append_seam}
use Rattle.flex_base.specs.declared.class.Class.{Class}
use Rattle.access_record.specs.Buses.{Run}
use Rattle.access_record.specs.Histories.{History}
use Rattle.context.specs.declared.wants.Wants.{Wants}
use Rattle.context.specs.declared.wants.Wants.TheVariants as wants
use Rattle.context.specs.Contexts.{Context}
use Rattle.pipeline.specs.declared.flight.Flight.{Flight}
use Rattle.pipeline.specs.declared.flight.Made.{Made}
use Rattle.pipeline.specs.Pipes.{Passes, HasWorked, HasAdvanced, place_in}

-- a list of six
pub six_of : {A : Type 0} (xs : List A) → length xs ≡ 6 → (a b c d e f : A) × (xs ≡ a ∷ b ∷ c ∷ d ∷ e ∷ f ∷ [])
six_of [] six = absurd (omega (arith, six))
six_of (a ∷ []) six = absurd (omega (arith, six))
six_of (a ∷ b ∷ []) six = absurd (omega (arith, six))
six_of (a ∷ b ∷ c ∷ []) six = absurd (omega (arith, six))
six_of (a ∷ b ∷ c ∷ d ∷ []) six = absurd (omega (arith, six))
six_of (a ∷ b ∷ c ∷ d ∷ e ∷ []) six = absurd (omega (arith, six))
six_of (a ∷ b ∷ c ∷ d ∷ e ∷ f ∷ []) six = (a, b, c, d, e, f, refl)
six_of (a ∷ b ∷ c ∷ d ∷ e ∷ f ∷ g ∷ rest) six = absurd (omega (arith, six))

-- what is written through a slice of a whole list is the whole list
pub written_back : (items new : List Context) (count : ℕ) → count ≡ length items → length new ≡ length items → take count (new ++ drop (length new) items) ≡ new
written_back items new count is same =
    ap (λ n. take n (new ++ drop (length new) items)) (is ∙ sym same) ∙ take-append_seam new (drop (length new) items)

module _ (run : Run) where
  -- there are as many harts as before
  pub length_worked : (before after : Option History) (wanted : Class → Wants) (latch made : ℕ) (f : Option Flight) (old new : List Context)
      → HasWorked run before after wanted latch made f old new → length new ≡ length old
  length_worked before after wanted latch zero f old new worked = ap (λ (held : List Context). length held) worked.1
  length_worked before after wanted latch (suc zero) (Some f) old new worked =
      ap (λ (held : List Context). length held) worked.1.held ∙ length-set old f.place worked.1.next
  length_worked before after wanted latch (suc zero) None old new worked = absurd worked
  length_worked before after wanted latch (suc (suc n)) f old new worked = absurd worked

  -- one place that makes nothing
  skip : (before after : Option History) (made : ℕ) (f : Option Flight) (rest : List (Option ℕ)) (old new : List Context)
      → Passes run before after made rest old new → Passes run before after made (place_in f ∷ rest) old new
  skip before after made None rest old new passes = passes
  skip before after made (Some f) rest old new passes = inl passes

  -- and one that makes what is due there
  pass : (before between after : Option History) (wanted : Class → Wants) (latch made less total : ℕ) (f : Option Flight) (rest : List (Option ℕ)) (old held new : List Context)
      → total ≡ made + less → HasWorked run before between wanted latch made f old held → Passes run between after less rest held new
      → Passes run before after total (place_in f ∷ rest) old new
  pass before between after wanted latch zero less total f rest old held new counted worked passes =
      let From : Option History × List Context → Type 0 = λ p. Passes run p.0 after less rest p.1 new in
      let So : ℕ → Type 0 = λ n. Passes run before after n rest old new in
      let same : less ≡ total = omega (arith, counted) in
      skip before after total f rest old new (subst So same (subst From (λ i. (worked.2 i, worked.1 i)) passes))
  pass before between after wanted latch (suc zero) less total (Some f) rest old held new counted worked passes =
      let works = worked.1 in
      let From : List Context → Type 0 = λ h. Passes run between after less rest h new in
      inr (between, works.was, works.next, less, omega (arith, counted), works.there, works.was_is, works.goes.steps, works.same, subst From works.held passes)
  pass before between after wanted latch (suc zero) less total None rest old held new counted worked passes = absurd worked
  pass before between after wanted latch (suc (suc n)) less total f rest old held new counted worked passes = absurd worked

  -- from end to fetch
  pub all_pass : (before after : Option History) (made : Made) (latches left : List (Option Flight)) (old new : List Context)
      → length latches ≡ 6 → HasAdvanced run before after made latches left old new
      → Passes run before after (made.ends + made.accesses) (reverse (map place_in (take 5 latches))) old new
  all_pass before after made latches left old new six advanced =
      let (a, b, c, d, e, f, is) = six_of latches six in
      let End : Option Flight → Type 0 = λ x. HasWorked run before advanced.after_end wants.Finish 5 made.ends x old advanced.held_end in
      let Memory : Option Flight → Type 0 = λ x. HasWorked run advanced.after_end advanced.after_memory wants.Ask 4 advanced.memory x advanced.held_end advanced.held_memory in
      let Fetch : Option Flight → Type 0 = λ x. HasWorked run advanced.after_memory after wants.Ask 1 advanced.fetch x advanced.held_memory new in
      let At : ℕ → List (Option Flight) → Option Flight = λ n xs. slice_index_or xs n None in
      let in_end : HasWorked run before advanced.after_end wants.Finish 5 made.ends e old advanced.held_end = subst End (ap (At 4) is) advanced.in_end in
      let in_memory : HasWorked run advanced.after_end advanced.after_memory wants.Ask 4 advanced.memory d advanced.held_end advanced.held_memory = subst Memory (ap (At 3) is) advanced.in_memory in
      let in_fetch : HasWorked run advanced.after_memory after wants.Ask 1 advanced.fetch a advanced.held_memory new = subst Fetch (ap (At 0) is) advanced.in_fetch in
      let fetched : Passes run advanced.after_memory after advanced.fetch (place_in a ∷ []) advanced.held_memory new =
      pass advanced.after_memory after after wants.Ask 1 advanced.fetch 0 advanced.fetch a [] advanced.held_memory new new (omega arith) in_fetch (refl, refl, refl) in
      let waited : Passes run advanced.after_memory after advanced.fetch (place_in c ∷ place_in b ∷ place_in a ∷ []) advanced.held_memory new =
      skip advanced.after_memory after advanced.fetch c (place_in b ∷ place_in a ∷ []) advanced.held_memory new
      (skip advanced.after_memory after advanced.fetch b (place_in a ∷ []) advanced.held_memory new fetched) in
      let reached = pass advanced.after_end advanced.after_memory after wants.Ask 4 advanced.memory advanced.fetch made.accesses d (place_in c ∷ place_in b ∷ place_in a ∷ [])
      advanced.held_end advanced.held_memory new advanced.accesses in_memory waited in
      let ended = pass before advanced.after_end after wants.Finish 5 made.ends made.accesses (made.ends + made.accesses) e
      (place_in d ∷ place_in c ∷ place_in b ∷ place_in a ∷ []) old advanced.held_end new refl in_end reached in
      let Listed : List (Option Flight) → Type 0 = λ xs. Passes run before after (made.ends + made.accesses) (reverse (map place_in (take 5 xs))) old new in
      subst Listed (sym is) ended

  -- nothing was made, so the harts are as before
  pub none_worked : (before after : Option History) (made : Made) (latches left : List (Option Flight)) (old new : List Context)
      → HasAdvanced run before after made latches left old new → made.ends + made.accesses ≡ 0 → new ≡ old
  none_worked before after made latches left old new advanced none =
      let End : ℕ → Type 0 = λ n. HasWorked run before advanced.after_end wants.Finish 5 n (slice_index_or latches 4 None) old advanced.held_end in
      let Memory : ℕ → Type 0 = λ n. HasWorked run advanced.after_end advanced.after_memory wants.Ask 4 n (slice_index_or latches 3 None) advanced.held_end advanced.held_memory in
      let Fetch : ℕ → Type 0 = λ n. HasWorked run advanced.after_memory after wants.Ask 1 n (slice_index_or latches 0 None) advanced.held_memory new in
      let ends : made.ends ≡ 0 = omega (arith, none) in
      let memory : advanced.memory ≡ 0 = omega (arith, none, advanced.accesses) in
      let fetch : advanced.fetch ≡ 0 = omega (arith, none, advanced.accesses) in
      (subst Fetch fetch advanced.in_fetch).1 ∙ (subst Memory memory advanced.in_memory).1 ∙ (subst End ends advanced.in_end).1

  -- there are as many harts as before
  pub length_advanced : (before after : Option History) (made : Made) (latches left : List (Option Flight)) (old new : List Context)
      → HasAdvanced run before after made latches left old new → length new ≡ length old
  length_advanced before after made latches left old new advanced =
      length_worked advanced.after_memory after wants.Ask 1 advanced.fetch (slice_index_or latches 0 None) advanced.held_memory new advanced.in_fetch
      ∙ length_worked advanced.after_end advanced.after_memory wants.Ask 4 advanced.memory (slice_index_or latches 3 None) advanced.held_end advanced.held_memory advanced.in_memory
      ∙ length_worked before advanced.after_end wants.Finish 5 made.ends (slice_index_or latches 4 None) old advanced.held_end advanced.in_end

-- the events of a cycle are its ends and its accesses
pub total_is : {ends accesses one two : ℕ} → one ≡ ends → two ≡ accesses → one + two ≡ ends + accesses
total_is first second = omega (arith, first, second)

-- What a cycle leaves, by what the latches have done over the harts that were lent to them.
module _ (run : Run) (before after : Option History) (made : Made) (latches left : List (Option Flight)) (items lent new : List Context) (count : ℕ)
    (value : lent ≡ items) (counted : length lent ≡ count) (advanced : HasAdvanced run before after made latches left lent new) where
  pub held_is : take count (new ++ drop (length new) items) ≡ new
  held_is =
      let Length : List Context → ℕ = λ held. length held in
      written_back items new count (sym counted ∙ ap Length value) (length_advanced run before after made latches left lent new advanced ∙ ap Length value)

  pub passes_is : length latches ≡ 6 → Passes run before after (made.ends + made.accesses) (reverse (map place_in (take 5 latches))) items
      (take count (new ++ drop (length new) items))
  passes_is six =
      let So : List Context × List Context → Type 0 = λ p. Passes run before after (made.ends + made.accesses) (reverse (map place_in (take 5 latches))) p.0 p.1 in
      subst So (λ i. (value i, sym held_is i)) (all_pass run before after made latches left lent new six advanced)

  pub none_is : made.ends + made.accesses ≡ 0 → new ≡ items
  none_is none = none_worked run before after made latches left lent new advanced none ∙ value
