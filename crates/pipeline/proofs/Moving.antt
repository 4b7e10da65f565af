-- What is in the latches moves on.
use Rattle.std.proofs.Common.{◌≡◌, ◌≢◌, ℕ, zero, suc, ◌<◌, ◌≤◌, List, [], ◌∷◌, ◌++◌, take, drop, inl, inr, length, slice_index_or, slice_set, Option, None, Some, IfSome, IfNone, refl, sym, ap, subst, ◌∙◌, arith, length-set}
use Rattle.std.proofs.lemmas.List.{get_or-set_other}
use Rattle.flex_base.specs.declared.class.Class.{Class}
use Rattle.access_record.specs.Buses.{Run}
use Rattle.access_record.specs.Histories.{History}
use Rattle.context.specs.declared.wants.Wants.{Wants}
use Rattle.context.specs.declared.wants.Wants.TheVariants as wants
use Rattle.context.specs.Contexts.{Context}
use Rattle.pipeline.specs.declared.flight.Flight.{Flight}
use Rattle.pipeline.specs.declared.flight.Made.{Made}
use Rattle.pipeline.specs.Pipes.{IsInFlight, AreInFlight, HasAdvanced, HasWorked, HasHart, IsAt, IsLeft, NoneLater, MayStart, NoneMayStart, AreMovedOn, HaveGoneOn}
use Rattle.pipeline.proofs.Working.{due_is}
use Rattle.pipeline.proofs.Cycling.{six_of, held_is}

module _ (run : Run) where
  -- what isn't due stays
  stays_in : (before after : Option History) (wanted : Class → Wants) (latch made : ℕ) (old new held : List Context) (o x : Option Flight) (f : Flight)
      → HasWorked run before after wanted latch made o old new → IsLeft held latch made o x → o ≡ Some f → f.due ≢ latch → x ≡ Some f
  stays_in before after wanted latch zero old new held o x f worked left is apart = left ∙ is
  stays_in before after wanted latch (suc zero) old new held (Some g) x f worked left is apart =
      let Due : Flight → ℕ = λ k. k.due in
      absurd (apart (sym (some_due g f is) ∙ worked.0))
    where
      some_due : (a b : Flight) → Some a ≡ Some b → a.due ≡ b.due
      some_due a b same =
          let is : a ≡ b = cc in
          ap (λ (k : Flight). k.due) is
  stays_in before after wanted latch (suc zero) old new held None x f worked left is apart = absurd worked
  stays_in before after wanted latch (suc (suc n)) old new held (Some g) x f worked left is apart = absurd worked
  stays_in before after wanted latch (suc (suc n)) old new held None x f worked left is apart = absurd worked

  -- what is due makes its event
  made_one : (before after : Option History) (wanted : Class → Wants) (latch made : ℕ) (old new : List Context) (o : Option Flight) (f : Flight)
      → HasWorked run before after wanted latch made o old new → o ≡ Some f → f.due ≡ latch → made ≡ 1
  made_one before after wanted latch made old new o f worked is due =
      let So : Option Flight → Type 0 = λ k. HasWorked run before after wanted latch made k old new in
      one made (subst So is worked)
    where
      one : (n : ℕ) → HasWorked run before after wanted latch n (Some f) old new → n ≡ 1
      one zero work = absurd (work.0 due)
      one (suc zero) work = refl
      one (suc (suc n)) work = absurd work

  -- a hart whose place isn't that of what is there is as before
  hart_stays : (before after : Option History) (wanted : Class → Wants) (latch made : ℕ) (old new : List Context) (o : Option Flight) (place : ℕ)
      (Is : Context → Type 0) → HasWorked run before after wanted latch made o old new → ((h : Flight) → o ≡ Some h → h.place ≢ place)
      → HasHart old place Is → HasHart new place Is
  hart_stays before after wanted latch zero old new o place Is worked apart hart =
      let Has : List Context → Type 0 = λ held. HasHart held place Is in
      subst Has (sym worked.1) hart
  hart_stays before after wanted latch (suc zero) old new (Some h) place Is worked apart (k, inside, at, is) =
      let Has : List Context → Type 0 = λ held. HasHart held place Is in
      let next = worked.1.next in
      let other : place ≢ h.place = λ same. apart h refl (sym same) in
      subst Has (sym worked.1.held) (k, omega (arith, inside, length-set old h.place next), get_or-set_other old h.place place next k other ∙ at, is)
  hart_stays before after wanted latch (suc zero) old new None place Is worked apart hart = absurd worked
  hart_stays before after wanted latch (suc (suc n)) old new (Some h) place Is worked apart hart = absurd worked
  hart_stays before after wanted latch (suc (suc n)) old new None place Is worked apart hart = absurd worked

  -- no event is due in decode or execute
  no_event : {held : List Context} {latch : ℕ} {g : Flight} → IsInFlight held latch g → 1 < g.due → g.due < 4 → ⊥
  no_event flight more less =
      let (k, inside, at, due) = flight.hart in
      elim (due_is k _ due) [
        | inl one ↦ omega (arith, one, more)
        | inr other ↦ elim other [
          | inl four ↦ omega (arith, four, less)
          | inr five ↦ omega (arith, five, less)
        ]
      ]

  -- what was in the latches before a cycle, and what the latches leave
  module _ (before after : Option History) (made : Made) (held new : List Context) (a b c d e f : Option Flight) (left : List (Option Flight))
      (advanced : HasAdvanced run before after made (a ∷ b ∷ c ∷ d ∷ e ∷ f ∷ []) left held new) where
    abbrev memory_in : Option Flight
    memory_in = advanced.leaves.0

    abbrev fetch_in : Option Flight
    fetch_in = advanced.leaves.1

    left_six : left ≡ None ∷ fetch_in ∷ b ∷ c ∷ memory_in ∷ None ∷ []
    left_six = advanced.leaves.2

    six_moved_on : (first : Option Flight) (latch : ℕ) (g : Flight) → IsAt (a ∷ b ∷ c ∷ d ∷ e ∷ f ∷ []) latch g → suc latch < g.due → g.due ≤ 5
        → IsAt (first ∷ fetch_in ∷ b ∷ c ∷ memory_in ∷ None ∷ []) (suc latch) g
    six_moved_on first zero g at later most =
        stays_in advanced.after_memory after wants.Ask 1 advanced.fetch advanced.held_memory new new a fetch_in g advanced.in_fetch advanced.leaves.4 at (omega (arith, later))
    six_moved_on first (suc zero) g at later most = at
    six_moved_on first (suc (suc zero)) g at later most = at
    six_moved_on first (suc (suc (suc zero))) g at later most =
        stays_in advanced.after_end advanced.after_memory wants.Ask 4 advanced.memory advanced.held_end advanced.held_memory advanced.held_memory d memory_in g advanced.in_memory
        advanced.leaves.3 at (omega (arith, later))
    six_moved_on first (suc (suc (suc (suc n)))) g at later most = absurd (omega (arith, later, most))

    six_gone_on : (first : Option Flight) (latch : ℕ) (g : Flight) → AreInFlight held (a ∷ b ∷ c ∷ d ∷ e ∷ f ∷ []) → AreInFlight new left
        → IsAt (a ∷ b ∷ c ∷ d ∷ e ∷ f ∷ []) latch g → suc latch ≡ g.due → g.due < 5
        → IsLeft new (suc latch) 1 (Some g) (slice_index_or (first ∷ fetch_in ∷ b ∷ c ∷ memory_in ∷ None ∷ []) (suc latch) None)
    six_gone_on first zero g was flights at due few =
        let Left : ℕ × Option Flight → Type 0 = λ p. IsLeft new 1 p.0 p.1 fetch_in in
        let one : advanced.fetch ≡ 1 = made_one advanced.after_memory after wants.Ask 1 advanced.fetch advanced.held_memory new a g advanced.in_fetch at (sym due) in
        subst Left (λ i. (one i, at i)) advanced.leaves.4
    six_gone_on first (suc zero) g was flights at due few = absurd (no_event (was.each 1 g at) (omega (arith, due)) (omega (arith, due)))
    six_gone_on first (suc (suc zero)) g was flights at due few = absurd (no_event (was.each 2 g at) (omega (arith, due)) (omega (arith, due)))
    six_gone_on first (suc (suc (suc zero))) g was flights at due few =
        let Left : ℕ × Option Flight → Type 0 = λ p. IsLeft advanced.held_memory 4 p.0 p.1 memory_in in
        let one : advanced.memory ≡ 1 =
        made_one advanced.after_end advanced.after_memory wants.Ask 4 advanced.memory advanced.held_end advanced.held_memory d g advanced.in_memory at (sym due) in
        later_too memory_in refl (subst Left (λ i. (one i, at i)) advanced.leaves.3)
      where
        later_too : (x : Option Flight) → memory_in ≡ x → IsLeft advanced.held_memory 4 1 (Some g) x → IsLeft new 4 1 (Some g) x
        later_too (Some h) is left_there =
            let there : IsAt left 4 h = ap (λ (fs : List (Option Flight)). slice_index_or fs 4 None) left_six ∙ is in
            (left_there.0, flights.each 4 h there)
        later_too None is left_there =
            hart_stays advanced.after_memory after wants.Ask 1 advanced.fetch advanced.held_memory new a g.place (NoneLater 4) advanced.in_fetch
            (λ h here same. absurd (omega (arith, was.once 0 3 h g here at same))) left_there
    six_gone_on first (suc (suc (suc (suc n)))) g was flights at due few = absurd (omega (arith, due, few))

    -- select lays into the first latch alone
    laid_first : (held : List Context) (found : Option Flight) (selected : List (Option Flight))
        → IfSome found (λ k. MayStart held left k × (selected ≡ slice_set left 0 (Some k)))
        → IfNone found (NoneMayStart held left 0 (length held) × (selected ≡ left))
        → (first : Option Flight) × (selected ≡ first ∷ fetch_in ∷ b ∷ c ∷ memory_in ∷ None ∷ [])
    laid_first held (Some k) selected some none =
        (Some k, some.1 ∙ ap (λ (fs : List (Option Flight)). slice_set fs 0 (Some k)) left_six)
    laid_first held None selected some none = (None, none.1 ∙ left_six)

-- What a cycle does with what is in the latches, by what the latches have done over the harts that were lent to them, and by which hart select has
-- taken of those that are read after that.
module _ (run : Run) (before after : Option History) (made : Made) (latches left : List (Option Flight)) (items lent new read : List Context) (count : ℕ)
    (value : lent ≡ items) (counted : length lent ≡ count) (advanced : HasAdvanced run before after made latches left lent new)
    (was : AreInFlight items latches) (flights : AreInFlight new left) (selected : List (Option Flight)) (found : Option Flight)
    (some : IfSome found (λ f. MayStart read left f × (selected ≡ slice_set left 0 (Some f))))
    (none : IfNone found (NoneMayStart read left 0 (length read) × (selected ≡ left))) where
  pub cycle_moves : AreMovedOn latches selected
  cycle_moves latch g at later =
      let (a, b, c, d, e, f, is) = six_of latches was.six in
      let Has : List (Option Flight) → Type 0 = λ fs. HasAdvanced run before after made fs left lent new in
      let At : List (Option Flight) → Type 0 = λ fs. IsAt fs latch g in
      let has = subst Has is advanced in
      let (first, laid) = laid_first run before after made lent new a b c d e f left has read found selected some none in
      let Moved : List (Option Flight) → Type 0 = λ fs. IsAt fs (suc latch) g in
      subst Moved (sym laid) (six_moved_on run before after made lent new a b c d e f left has first latch g (subst At is at) later (was.each latch g at).most)

  pub cycle_goes_on : HaveGoneOn (take count (new ++ drop (length new) items)) latches selected
  cycle_goes_on latch g at due few =
      let (a, b, c, d, e, f, is) = six_of latches was.six in
      let Has : List (Option Flight) → Type 0 = λ fs. HasAdvanced run before after made fs left lent new in
      let At : List (Option Flight) → Type 0 = λ fs. IsAt fs latch g in
      let In : (List Context) × (List (Option Flight)) → Type 0 = λ p. AreInFlight p.0 p.1 in
      let has = subst Has is advanced in
      let (first, laid) = laid_first run before after made lent new a b c d e f left has read found selected some none in
      let Left : (List Context) × (List (Option Flight)) → Type 0 = λ p. IsLeft p.0 (suc latch) 1 (Some g) (slice_index_or p.1 (suc latch) None) in
      let held = held_is run before after made latches left items lent new count value counted advanced in
      subst Left (λ i. (sym held i, sym laid i))
      (six_gone_on run before after made lent new a b c d e f left has first latch g (subst In (λ i. (sym value i, is i)) was) flights (subst At is at) due few)
