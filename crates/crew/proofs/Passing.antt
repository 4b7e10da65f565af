-- Harts that go through the latches of a pipe: one is laid, and the latches move on.
use Rattle.std.proofs.Common.{◌≡◌, ◌≢◌, ℕ, zero, suc, ◌+◌, ◌-◌, ◌<◌, ◌≤◌, List, length, take, Option, None, Some, ◌⊎◌, refl, sym, ap, ◌∙◌, subst, arith, inl, inr, slice_index_or, slice_set}
use Rattle.std.proofs.lemmas.Bool.{cases_eq, cases_lt}
use Rattle.std.proofs.lemmas.List.{length-set, length-take-le, get_or-set_same, get_or-set_other, get_or_default, get_or-take, get_or_past}
use Rattle.flex_base.specs.Setup.{Setup}
use Rattle.flex_base.specs.Unsplit.{Instruction}
use Rattle.flex_base.specs.Following.{wanted, MayDo}
use Rattle.flex_base.specs.declared.class.Class.{Class}
use Rattle.flex_base.specs.declared.event.What.{What}
use Rattle.flex_base.specs.declared.event.What.TheVariants as what
use Rattle.flex_base.specs.declared.settings.Settings.{Settings}
use Rattle.access_record.specs.Buses.{Run}
use Rattle.access_record.specs.Histories.{History}
use Rattle.context.specs.declared.wants.Wants.{Wants}
use Rattle.context.specs.declared.wants.Wants.TheVariants as wants
use Rattle.context.specs.Obeying.{wants_of}
use Rattle.context.specs.Contexts.{Context, IsRunOf, IsSame, Goes, instruction_at, ends_by}
use Rattle.context.proofs.Running.{same-trans}
use Rattle.pipeline.specs.declared.flight.Flight.{Flight}
use Rattle.pipeline.specs.declared.flight.Made.{Made}
use Rattle.pipeline.specs.Pipes as pipes
use Rattle.pipeline.specs.Pipes.{no_flights, moved, IsAt, IsDue, IsInFlight, AreInFlight, AreOn, AreHere, IsLeft, Works, HasAdvanced, Lays}
use Rattle.crew.specs.Crews.{HaveWorked}
use Rattle.crew.specs.Passing.{HasMade, IsPassing}
use Rattle.crew.proofs.Working.{few_ends}

-- What one hart made.

pub made_none : (c : Context) → HasMade 0 c c
made_none c = record { same = record { hart = refl; id = refl; entry = refl; plan = refl; settings = refl }; engine = refl; ends = omega arith }

pub made_then : (a b n : ℕ) (c d e : Context) → HasMade a c d → HasMade b d e → a + b ≡ n → HasMade n c e
made_then a b n c d e one two sum = record {
  same = same-trans c d e one.same two.same;
  engine = two.engine ∙ one.engine;
  ends = omega (arith, one.ends, two.ends, sum);
}

-- who asks, comes to no end
no_end : (setup : Setup) (i : Instruction) (class : Class) (happened : What) → wants_of (wanted setup i) ≡ wants.Ask class → MayDo setup i happened → ends_by happened ≡ 0
no_end setup i class (what.Acc access reply) is may = refl
no_end setup i class (what.Handover to) is may = refl
no_end setup i class (what.End part) is may =
    let both : wants.Finish part.class ≡ wants.Ask class = sym (ap wants_of may.1) ∙ is in
    absurd cc

ask_ends : (run : Run) (before after : Option History) (old new : Context) → IsRunOf old.entry old.settings run.setup → (goes : Goes run before after wants.Ask old new)
    → ends_by goes.steps.happened ≡ 0
ask_ends run before after old new of goes = no_end run.setup (instruction_at run.setup old) goes.class goes.steps.happened (goes.wanting run.setup of) goes.steps.may

-- What is made in a latch.

-- the hart of what is in a latch made at most so many ends, and the others did nothing
record Changes (most : ℕ) (f : Option Flight) (old new : List Context) : Type 0 where
  counted : length new ≡ length old
  each : (k : ℕ) (other : Context) → HasMade most (slice_index_or old k other) (slice_index_or new k other)
  others : (k : ℕ) (other : Context) → ((g : Flight) → f ≡ Some g → g.place ≢ k) → slice_index_or new k other ≡ slice_index_or old k other

at_most : (most : ℕ) (c : Context) → HasMade most c c
at_most most c = record { same = (made_none c).same; engine = refl; ends = omega arith }

unchanged : (most : ℕ) (f : Option Flight) (old new : List Context) → new ≡ old → Changes most f old new
unchanged most f old new same =
    let From : List Context → Type 0 = λ l. Changes most f old l in
    subst From (sym same) (record { counted = refl; each = λ k other. at_most most (slice_index_or old k other); others = λ k other apart. refl })

changed : (run : Run) (before after : Option History) (wanted : Class → Wants) (most : ℕ) (f : Flight) (old new : List Context)
    (works : Works run before after wanted f old new) → ends_by works.goes.steps.happened ≤ most → Changes most (Some f) old new
changed run before after wanted most f old new works few =
    let one : HasMade most works.was works.next = record { same = works.same; engine = works.goes.steps.engine; ends = omega (arith, works.goes.steps.left, few) } in
    let From : List Context → Type 0 = λ l. Changes most (Some f) old l in
    subst From (sym works.held)
    (record {
      counted = length-set old f.place works.next;
      each = λ k other. elim (cases_eq k f.place) [
        | inl same ↦
            let At : ℕ → Type 0 = λ n. HasMade most (slice_index_or old n other) (slice_index_or (slice_set old f.place works.next) n other) in
            let Made : Context × Context → Type 0 = λ p. HasMade most p.0 p.1 in
            let was : works.was ≡ slice_index_or old f.place other = sym works.was_is ∙ get_or_default old f.place works.was other works.there in
            let is : works.next ≡ slice_index_or (slice_set old f.place works.next) f.place other = sym (get_or-set_same old f.place works.next other works.there) in
            subst At (sym same) (subst Made (λ i. (was i, is i)) one)
        | inr apart ↦
            let Made : Context → Type 0 = λ c. HasMade most (slice_index_or old k other) c in
            subst Made (sym (get_or-set_other old f.place k works.next other apart)) (at_most most (slice_index_or old k other))
      ];
      others = λ k other apart. get_or-set_other old f.place k works.next other (λ same. apart f refl (sym same));
    })

-- in end, one end at most
ended : (run : Run) (before after : Option History) (latch made : ℕ) (f : Option Flight) (old new : List Context)
    → pipes.HasWorked run before after wants.Finish latch made f old new → Changes 1 f old new
ended run before after latch zero f old new worked = unchanged 1 f old new worked.1
ended run before after latch (suc zero) None old new worked = absurd worked
ended run before after latch (suc zero) (Some f) old new worked =
    changed run before after wants.Finish 1 f old new worked.1 (few_ends worked.1.goes.steps.happened)
ended run before after latch (suc (suc n)) f old new worked = absurd worked

-- the harts are of this run
abbrev AreOf : Run → List Context → Type 0
AreOf run held = (k : ℕ) (other : Context) → k < length held → IsRunOf (slice_index_or held k other).entry (slice_index_or held k other).settings run.setup

of_same : (setup : Setup) (c d : Context) → IsSame c d → IsRunOf c.entry c.settings setup → IsRunOf d.entry d.settings setup
of_same setup c d same of =
    let Of : ℕ × Settings → Type 0 = λ p. IsRunOf p.0 p.1 setup in
    subst Of (λ i. (sym same.entry i, sym same.settings i)) of

still_of : (run : Run) (most : ℕ) (f : Option Flight) (old new : List Context) → Changes most f old new → AreOf run old → AreOf run new
still_of run most f old new changes of = λ k other below.
    of_same run.setup (slice_index_or old k other) (slice_index_or new k other) (changes.each k other).same (of k other (omega (arith, below, changes.counted)))

-- in the latches before, none
asked : (run : Run) (before after : Option History) (latch made : ℕ) (f : Option Flight) (old new : List Context) → AreOf run old
    → pipes.HasWorked run before after wants.Ask latch made f old new → Changes 0 f old new
asked run before after latch zero f old new of worked = unchanged 0 f old new worked.1
asked run before after latch (suc zero) None old new of worked = absurd worked
asked run before after latch (suc zero) (Some f) old new of worked =
    let works = worked.1 in
    let Of : Context → Type 0 = λ c. IsRunOf c.entry c.settings run.setup in
    let its : IsRunOf works.was.entry works.was.settings run.setup = subst Of works.was_is (of f.place works.was works.there) in
    changed run before after wants.Ask 0 f old new works (omega (arith, ask_ends run before after works.was works.next its works.goes))
asked run before after latch (suc (suc n)) f old new of worked = absurd worked

-- Where what is in a latch was before.

-- it was in the latch before, and not in the one before end
record Was (latches : List (Option Flight)) (f : Flight) : Type 0 where
  latch : ℕ
  flight : Flight
  at : IsAt latches latch flight
  same : flight.place ≡ f.place
  other : latch ≢ 4

left_was : (held : List Context) (latch made : ℕ) (old new : Option Flight) (f : Flight) → IsLeft held latch made old new → new ≡ Some f
    → (was : Flight) × (old ≡ Some was) × (was.place ≡ f.place)
left_was held latch made old None f left is = absurd (none_some f is)
  where
    none_some : (g : Flight) → None ≡ Some g → ⊥
    none_some g same = cc
left_was held latch zero old (Some g) f left is =
    let same : g ≡ f = cc in
    (g, sym left, ap (λ (h : Flight). h.place) same)
left_was held latch (suc n) None (Some g) f left is = absurd left
left_was held latch (suc n) (Some was) (Some g) f left is =
    let same : g ≡ f = cc in
    (was, refl, sym left.0 ∙ ap (λ (h : Flight). h.place) same)

was_moved : (latches : List (Option Flight)) (latch : ℕ) (f : Flight) → length latches ≡ 6 → latch ≢ 5 → slice_index_or (moved latches) latch None ≡ Some f → Was latches f
was_moved latches zero f six other is = absurd cc
was_moved latches (suc k) f six other is = elim (cases_lt k 5) [
  | inl less ↦ record {
    latch = k;
    flight = f;
    at = sym (get_or-take 5 latches k None less) ∙ is;
    same = refl;
    other = λ four. other (ap suc four);
  }
  | inr past ↦
      let none : slice_index_or (take 5 latches) k None ≡ None = get_or_past (take 5 latches) k None (omega (arith, past, length-take-le 5 latches (omega (arith, six)))) in
      let some : None ≡ Some f = sym none ∙ is in
      absurd cc
]

was_there : (held new : List Context) (latches left : List (Option Flight)) (m t : Option Flight) (memory fetch : ℕ) → length latches ≡ 6
    → left ≡ slice_set (slice_set (slice_set (moved latches) 5 None) 4 m) 1 t
    → IsLeft held 4 memory (slice_index_or latches 3 None) m → IsLeft new 1 fetch (slice_index_or latches 0 None) t
    → (latch : ℕ) (f : Flight) → IsAt left latch f → Was latches f
was_there held new latches left m t memory fetch six is left_m left_t latch f at =
    let without_end = slice_set (moved latches) 5 None in
    let with_memory = slice_set without_end 4 m in
    let At : List (Option Flight) → Type 0 = λ l. slice_index_or l latch None ≡ Some f in
    let all : length (moved latches) ≡ 6 = omega (arith, length-take-le 5 latches (omega (arith, six))) in
    let there : slice_index_or (slice_set with_memory 1 t) latch None ≡ Some f = subst At is at in
    elim (cases_eq latch 1) [
      | inl one ↦
          let New : ℕ → Type 0 = λ n. slice_index_or (slice_set with_memory 1 t) n None ≡ Some f in
          let within : 1 < length with_memory = omega (arith, all, length-set without_end 4 m, length-set (moved latches) 5 None) in
          let its : t ≡ Some f = sym (get_or-set_same with_memory 1 t None within) ∙ subst New one there in
          let (was, old, same) = left_was new 1 fetch (slice_index_or latches 0 None) t f left_t its in
          record { latch = 0; flight = was; at = old; same = same; other = λ none. absurd (omega (arith, none)) }
      | inr not_one ↦
          let below_fetch : slice_index_or with_memory latch None ≡ Some f = sym (get_or-set_other with_memory 1 latch t None not_one) ∙ there in
          elim (cases_eq latch 4) [
            | inl four ↦
                let New : ℕ → Type 0 = λ n. slice_index_or with_memory n None ≡ Some f in
                let within : 4 < length without_end = omega (arith, all, length-set (moved latches) 5 None) in
                let its : m ≡ Some f = sym (get_or-set_same without_end 4 m None within) ∙ subst New four below_fetch in
                let (was, old, same) = left_was held 4 memory (slice_index_or latches 3 None) m f left_m its in
                record { latch = 3; flight = was; at = old; same = same; other = λ none. absurd (omega (arith, none)) }
            | inr not_four ↦
                let below_memory : slice_index_or without_end latch None ≡ Some f = sym (get_or-set_other without_end 4 latch m None not_four) ∙ below_fetch in
                elim (cases_eq latch 5) [
                  | inl five ↦
                      let New : ℕ → Type 0 = λ n. slice_index_or without_end n None ≡ Some f in
                      let nothing : None ≡ Some f = sym (get_or-set_same (moved latches) 5 None None (omega (arith, all))) ∙ subst New five below_memory in
                      absurd cc
                  | inr not_five ↦ was_moved latches latch f six not_five (sym (get_or-set_other (moved latches) 5 latch None None not_five) ∙ below_memory)
                ]
          ]
    ]

-- The latches move on.

module _ (run : Run) (before after : Option History) (made : Made) (place : ℕ) (start held new : List Context) (latches left : List (Option Flight))
    (passing : IsPassing run place start held latches) (advanced : HasAdvanced run before after made latches left held new) where
  in_end : Changes 1 (slice_index_or latches 4 None) held advanced.held_end
  in_end = ended run before advanced.after_end 5 made.ends (slice_index_or latches 4 None) held advanced.held_end advanced.in_end

  of_end : AreOf run advanced.held_end
  of_end = still_of run 1 (slice_index_or latches 4 None) held advanced.held_end in_end (λ k other below. (passing.on k other below).setup)

  in_memory : Changes 0 (slice_index_or latches 3 None) advanced.held_end advanced.held_memory
  in_memory = asked run advanced.after_end advanced.after_memory 4 advanced.memory (slice_index_or latches 3 None) advanced.held_end advanced.held_memory of_end advanced.in_memory

  of_memory : AreOf run advanced.held_memory
  of_memory = still_of run 0 (slice_index_or latches 3 None) advanced.held_end advanced.held_memory in_memory of_end

  in_fetch : Changes 0 (slice_index_or latches 0 None) advanced.held_memory new
  in_fetch = asked run advanced.after_memory after 1 advanced.fetch (slice_index_or latches 0 None) advanced.held_memory new of_memory advanced.in_fetch

  none_later : (k : ℕ) (other : Context) → HasMade 0 (slice_index_or advanced.held_end k other) (slice_index_or new k other)
  none_later k other =
      made_then 0 0 0 (slice_index_or advanced.held_end k other) (slice_index_or advanced.held_memory k other) (slice_index_or new k other) (in_memory.each k other) (in_fetch.each k other) refl

  made_so_far : (k : ℕ) (other : Context) (o : Option Flight) → slice_index_or latches 4 None ≡ o → HasMade 1 (slice_index_or start k other) (slice_index_or advanced.held_end k other)
  made_so_far k other None is =
      let Made : Context → Type 0 = λ c. HasMade 1 (slice_index_or start k other) c in
      let nobody : (g : Flight) → slice_index_or latches 4 None ≡ Some g → g.place ≢ k = λ g there same. (let some : None ≡ Some g = sym is ∙ there in absurd cc) in
      subst Made (sym (in_end.others k other nobody)) (passing.each k other)
  made_so_far k other (Some g) is = elim (cases_eq g.place k) [
    | inl same ↦
        let Made : ℕ → Type 0 = λ n. HasMade 0 (slice_index_or start n other) (slice_index_or held n other) in
        let so_far : HasMade 0 (slice_index_or start k other) (slice_index_or held k other) = subst Made same ((passing.still 4 g is).1 other) in
        made_then 0 1 1 (slice_index_or start k other) (slice_index_or held k other) (slice_index_or advanced.held_end k other) so_far (in_end.each k other) refl
    | inr apart ↦
        let Made : Context → Type 0 = λ c. HasMade 1 (slice_index_or start k other) c in
        let not_it : (h : Flight) → slice_index_or latches 4 None ≡ Some h → h.place ≢ k = λ h there same. (let its : g ≡ h = some_same g h (sym is ∙ there) in apart (ap (λ (f : Flight). f.place) its ∙ same)) in
        subst Made (sym (in_end.others k other not_it)) (passing.each k other)
  ]
    where
      some_same : (g h : Flight) → Some g ≡ Some h → g ≡ h
      some_same g h same = cc

  was_before : (latch : ℕ) (f : Flight) → IsAt left latch f → Was latches f
  was_before latch f at =
      let (m, t, is, left_m, left_t) = advanced.leaves in
      was_there advanced.held_memory new latches left m t advanced.memory advanced.fetch passing.flights.six is left_m left_t latch f at

  still_none : (latch : ℕ) (f : Flight) → IsAt left latch f
      → (f.place < place) × ((other : Context) → HasMade 0 (slice_index_or start f.place other) (slice_index_or new f.place other))
  still_none latch f at =
      let was = was_before latch f at in
      let (inside, none) = passing.still was.latch was.flight was.at in (
        omega (arith, inside, was.same),
        λ other.
            let Made : ℕ → Type 0 = λ n. HasMade 0 (slice_index_or start n other) (slice_index_or held n other) in
            let From : Context → Type 0 = λ c. HasMade 0 (slice_index_or start f.place other) c in
            let not_it : (g : Flight) → slice_index_or latches 4 None ≡ Some g → g.place ≢ f.place = λ g there same.
            was.other (passing.flights.once was.latch 4 was.flight g was.at there (was.same ∙ sym same)) in
            let so_far : HasMade 0 (slice_index_or start f.place other) (slice_index_or advanced.held_end f.place other) =
            subst From (sym (in_end.others f.place other not_it)) (subst Made was.same (none other)) in
            made_then 0 0 0 (slice_index_or start f.place other) (slice_index_or advanced.held_end f.place other) (slice_index_or new f.place other) so_far (none_later f.place other) refl,
      )

  pub moved_on : AreInFlight new left → AreOn run new → AreHere new → IsPassing run place start new left
  moved_on flights on here = record {
    few = omega (arith, passing.few, in_end.counted, in_memory.counted, in_fetch.counted);
    on = on;
    here = here;
    flights = flights;
    counted = in_fetch.counted ∙ in_memory.counted ∙ in_end.counted ∙ passing.counted;
    each = λ k other. made_then 1 0 1 (slice_index_or start k other) (slice_index_or advanced.held_end k other) (slice_index_or new k other) (made_so_far k other (slice_index_or latches 4 None) refl) (none_later k other) refl;
    after = λ k other le.
        let apart : (latch : ℕ) (g : Flight) → slice_index_or latches latch None ≡ Some g → g.place ≢ k = λ latch g there same. absurd (omega (arith, (passing.still latch g there).0, le, same)) in
        in_fetch.others k other (apart 0) ∙ in_memory.others k other (apart 3) ∙ in_end.others k other (apart 4) ∙ passing.after k other le;
    still = still_none;
  }

-- A hart is laid, or has its turn without it.

-- one place more has had its turn
pub passed_over : (run : Run) (place : ℕ) (start held : List Context) (latches : List (Option Flight)) → IsPassing run place start held latches
    → IsPassing run (place + 1) start held latches
passed_over run place start held latches passing = record {
  few = passing.few;
  on = passing.on;
  here = passing.here;
  flights = passing.flights;
  counted = passing.counted;
  each = passing.each;
  after = λ k other le. passing.after k other (omega (arith, le));
  still = λ latch f at. (omega (arith, (passing.still latch f at).0), (passing.still latch f at).1);
}

module _ (run : Run) (place : ℕ) (start held : List Context) (latches new : List (Option Flight)) (c : Context) (passing : IsPassing run place start held latches)
    (within : place < length held) (read : slice_index_or held place c ≡ c) (lays : Lays place c latches new) where
  abbrev its : Flight
  its = record { place = place; due = lays.due }

  -- what is in a latch is what was laid there, or was there
  where_from : (latch : ℕ) (f : Flight) → IsAt new latch f → ((latch ≡ lays.due - 1) × (its ≡ f)) ⊎ ((latch ≢ lays.due - 1) × IsAt latches latch f)
  where_from latch f at =
      let At : List (Option Flight) → Type 0 = λ l. slice_index_or l latch None ≡ Some f in
      let there : slice_index_or (slice_set latches (lays.due - 1) (Some its)) latch None ≡ Some f = subst At lays.laid at in
      elim (cases_eq latch (lays.due - 1)) [
        | inl same ↦
            let New : ℕ → Type 0 = λ n. slice_index_or (slice_set latches (lays.due - 1) (Some its)) n None ≡ Some f in
            let is : Some its ≡ Some f = sym (get_or-set_same latches (lays.due - 1) (Some its) None (omega (arith, passing.flights.six, lays.most))) ∙ subst New same there in
            inl (same, cc)
        | inr other ↦ inr (other, sym (get_or-set_other latches (lays.due - 1) latch (Some its) None other) ∙ there)
      ]

  in_flight : (latch : ℕ) (f : Flight) → IsAt new latch f → IsInFlight held latch f
  in_flight latch f at = elim (where_from latch f at) [
    | inl (same, is) ↦
        let In : Flight → Type 0 = λ g. IsInFlight held latch g in
        let own : IsInFlight held latch its = record { later = omega (arith, same, lays.some); most = lays.most; hart = (c, within, read, lays.is_due) } in
        subst In is own
    | inr (other, before) ↦ passing.flights.each latch f before
  ]

  -- the place of what was there is another
  apart : (latch : ℕ) (f : Flight) → IsAt latches latch f → f.place ≢ place
  apart latch f at = λ same. absurd (omega (arith, (passing.still latch f at).0, same))

  only_once : (one other : ℕ) (f g : Flight) → IsAt new one f → IsAt new other g → f.place ≡ g.place → one ≡ other
  only_once one other f g at there same = elim (where_from one f at) [
    | inl (first, f_is) ↦ elim (where_from other g there) [
      | inl (second, g_is) ↦ first ∙ sym second
      | inr (second, before) ↦ absurd (apart other g before (sym same ∙ sym (ap (λ (h : Flight). h.place) f_is)))
    ]
    | inr (first, before) ↦ elim (where_from other g there) [
      | inl (second, g_is) ↦ absurd (apart one f before (same ∙ sym (ap (λ (h : Flight). h.place) g_is)))
      | inr (second, g_before) ↦ passing.flights.once one other f g before g_before same
    ]
  ]

  pub laid_in : IsPassing run (place + 1) start held new
  laid_in = record {
    few = passing.few;
    on = passing.on;
    here = passing.here;
    flights = record { six = ap length lays.laid ∙ length-set latches (lays.due - 1) (Some its) ∙ passing.flights.six; each = in_flight; once = only_once };
    counted = passing.counted;
    each = passing.each;
    after = λ k other le. passing.after k other (omega (arith, le));
    still = λ latch f at. elim (where_from latch f at) [
      | inl (same, is) ↦
          let place_is : place ≡ f.place = ap (λ (h : Flight). h.place) is in (
            omega (arith, place_is),
            λ other.
                let Made : ℕ → Type 0 = λ n. HasMade 0 (slice_index_or start n other) (slice_index_or held n other) in
                let From : Context → Type 0 = λ d. HasMade 0 (slice_index_or start place other) d in
                subst Made place_is (subst From (sym (passing.after place other (omega arith))) (made_none (slice_index_or start place other))),
          )
      | inr (other, before) ↦ (omega (arith, (passing.still latch f before).0), (passing.still latch f before).1)
    ];
  }

-- A whole pass.

nothing_in : (latch : ℕ) → slice_index_or no_flights latch None ≡ None
nothing_in zero = refl
nothing_in (suc zero) = refl
nothing_in (suc (suc zero)) = refl
nothing_in (suc (suc (suc zero))) = refl
nothing_in (suc (suc (suc (suc zero)))) = refl
nothing_in (suc (suc (suc (suc (suc zero))))) = refl
nothing_in (suc (suc (suc (suc (suc (suc n)))))) = refl

none_at : (latch : ℕ) (f : Flight) → IsAt no_flights latch f → ⊥
none_at latch f at =
    let some : None ≡ Some f = sym (nothing_in latch) ∙ at in
    absurd cc

pub passing_begun : (run : Run) (held : List Context) (latches : List (Option Flight)) → latches ≡ no_flights → length held ≤ 32 → AreOn run held → AreHere held
    → IsPassing run 0 held held latches
passing_begun run held latches none few on here =
    let From : List (Option Flight) → Type 0 = λ l. IsPassing run 0 held held l in
    subst From (sym none)
    (record {
      few = few;
      on = on;
      here = here;
      flights = record { six = refl; each = λ latch f at. absurd (none_at latch f at); once = λ one other f g at there same. absurd (none_at one f at) };
      counted = refl;
      each = λ k other. at_most 1 (slice_index_or held k other);
      after = λ k other le. refl;
      still = λ latch f at. absurd (none_at latch f at);
    })

pub passed : (run : Run) (place : ℕ) (start held : List Context) (latches : List (Option Flight)) → IsPassing run place start held latches → HaveWorked run 1 start held
passed run place start held latches passing = record {
  counted = passing.counted;
  each = λ k other below.
      let made = passing.each k other in
      record { same = made.same; on = passing.on k other (omega (arith, below, passing.counted)); engine = made.engine; ends = made.ends };
}
