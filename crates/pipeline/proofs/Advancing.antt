-- The latches move on, and what is due in end, in memory and in fetch is made.
use Rattle.std.proofs.Common.{◌≡◌, ◌≢◌, ℕ, zero, suc, ◌+◌, List, ◌∷◌, take, length, slice_index_or, slice_set, Option, None, Some, refl, sym, ap, subst, ◌∙◌, arith, inl, inr}
use Rattle.std.proofs.lemmas.Bool.{cases_lt}
use Rattle.std.proofs.lemmas.List.{take-map, get_or-take, get_or_past, length-take-le, get_or-set_same, get_or-set_other, length-set, set-get_or}
use Rattle.flex_base.specs.declared.class.Class.{Class}
use Rattle.access_record.specs.Buses.{Run}
use Rattle.access_record.specs.Histories.{History}
use Rattle.context.specs.declared.wants.Wants.{Wants}
use Rattle.context.specs.declared.wants.Wants.TheVariants as wants
use Rattle.context.specs.Contexts.{Context}
use Rattle.pipeline.specs.declared.flight.Flight.{Flight}
use Rattle.pipeline.specs.declared.flight.Made.{Made}
use Rattle.pipeline.specs.Pipes.{flight_in, flights_in, moved, IsAt, AreInFlight, AreMoving, IsNotDue, HasWorked, IsLeft, HasAdvanced}
use Rattle.pipeline.proofs.Working.{due_is}
use Rattle.pipeline.proofs.Flying.{end_is_none}

-- each byte goes to the next latch
pub flights_moved : (slots : List ℕ) → flights_in (255 ∷ take 5 slots) ≡ moved (flights_in slots)
flights_moved slots =
    let After : List (Option Flight) → List (Option Flight) = λ l. None ∷ l in
    ap After (sym (take-map flight_in 5 slots))

-- what is in a latch after that was in the one before
moved_from : (latches : List (Option Flight)) (latch : ℕ) (f : Flight) → length latches ≡ 6 → IsAt (moved latches) latch f
    → (before : ℕ) × (latch ≡ suc before) × IsAt latches before f
moved_from latches zero f six there = absurd cc
moved_from latches (suc k) f six there = elim (cases_lt k 5) [
  | inl within ↦ (k, refl, sym (get_or-take 5 latches k None within) ∙ there)
  | inr past ↦
      let out : slice_index_or (take 5 latches) k None ≡ None = get_or_past (take 5 latches) k None (omega (arith, past, six, length-take-le 5 latches (omega (arith, six)))) in
      let none : None ≡ Some f = sym out ∙ there in
      absurd cc
]

pub moving_on : (held : List Context) (latches : List (Option Flight)) → AreInFlight held latches → AreMoving held (moved latches)
moving_on held latches flights = record {
  six = ap suc (length-take-le 5 latches (omega (arith, flights.six)));
  each = λ latch f there.
      let (before, is, was) = moved_from latches latch f flights.six there in
      let on = flights.each before f was in
      (omega (arith, is, on.later), on.most, on.hart);
  once = λ one other f g there here same.
      let (k, k_is, was) = moved_from latches one f flights.six there in
      let (n, n_is, its) = moved_from latches other g flights.six here in
      k_is ∙ ap suc (flights.once k n f g was its same) ∙ sym n_is;
}

-- what is left in a latch once its events are made isn't due there
module _ (run : Run) (before after : Option History) (wanted : Class → Wants) (latch : ℕ) (old new : List Context) where
  not_due_after : (made : ℕ) (o x : Option Flight) (g : Flight) → HasWorked run before after wanted latch made o old new → IsLeft new latch made o x → x ≡ Some g
      → g.due ≢ latch
  not_due_after zero o x g worked left is = subst (IsNotDue latch) (sym left ∙ is) worked.0
  not_due_after (suc zero) None x g worked left is = absurd worked
  not_due_after (suc zero) (Some f) x g worked left is =
      let Left : Option Flight → Type 0 = λ y. IsLeft new latch 1 (Some f) y in
      omega (arith, (subst Left is left).1.later)
  not_due_after (suc (suc n)) None x g worked left is = absurd worked
  not_due_after (suc (suc n)) (Some f) x g worked left is = absurd worked

-- what was in a latch

abbrev Read : ℕ → List (Option Flight) → Option Flight
Read latch l = slice_index_or l latch None

-- a turn of the latches: what was made in end, in memory and in fetch, and what is in the latches after each
pub record Turn (run : Run) (before after : Option History) (made : Made) (latches last : List (Option Flight)) (held new : List Context) : Type 0 where
  pub flights : AreInFlight held latches
  pub memory : ℕ
  pub fetch : ℕ
  pub accesses : made.accesses ≡ memory + fetch
  pub after_end : Option History
  pub after_memory : Option History
  pub held_end : List Context
  pub held_memory : List Context
  pub ended : List (Option Flight)
  pub asked : List (Option Flight)
  pub m : Option Flight
  pub f : Option Flight
  pub ended_is : ended ≡ slice_set (moved latches) 5 None
  pub asked_is : asked ≡ slice_set ended 4 m
  pub last_is : last ≡ slice_set asked 1 f
  pub in_end : HasWorked run before after_end wants.Finish 5 made.ends (slice_index_or (moved latches) 5 None) held held_end
  pub in_memory : HasWorked run after_end after_memory wants.Ask 4 memory (slice_index_or ended 4 None) held_end held_memory
  pub in_fetch : HasWorked run after_memory after wants.Ask 1 fetch (slice_index_or asked 1 None) held_memory new
  pub left_memory : IsLeft held_memory 4 memory (slice_index_or ended 4 None) m
  pub left_fetch : IsLeft new 1 fetch (slice_index_or asked 1 None) f

module _ (run : Run) (before after : Option History) (made : Made) (latches last : List (Option Flight)) (held new : List Context) (t : Turn run before after made latches last held new) where
  -- what was in each of these latches before

  end_from : slice_index_or (moved latches) 5 None ≡ slice_index_or latches 4 None
  end_from = get_or-take 5 latches 4 None (search arith)

  memory_from : slice_index_or t.ended 4 None ≡ slice_index_or latches 3 None
  memory_from = ap (Read 4) t.ended_is ∙ get_or-set_other (moved latches) 5 4 None None (omega arith) ∙ get_or-take 5 latches 3 None (search arith)

  fetch_from : slice_index_or t.asked 1 None ≡ slice_index_or latches 0 None
  fetch_from =
      ap (Read 1) t.asked_is ∙ get_or-set_other t.ended 4 1 t.m None (omega arith) ∙ ap (Read 1) t.ended_is
      ∙ get_or-set_other (moved latches) 5 1 None None (omega arith) ∙ get_or-take 5 latches 0 None (search arith)

  left_is : last ≡ slice_set (slice_set (slice_set (moved latches) 5 None) 4 t.m) 1 t.f
  left_is =
      let Fetch : List (Option Flight) → List (Option Flight) = λ l. slice_set l 1 t.f in
      let Memory : List (Option Flight) → List (Option Flight) = λ l. slice_set l 4 t.m in
      t.last_is ∙ ap Fetch (t.asked_is ∙ ap Memory t.ended_is)

  stays : made.ends + made.accesses ≡ 0 → last ≡ moved latches
  stays none =
      let End : ℕ → Type 0 = λ n. HasWorked run before t.after_end wants.Finish 5 n (slice_index_or (moved latches) 5 None) held t.held_end in
      let Memory : ℕ → Type 0 = λ n. IsLeft t.held_memory 4 n (slice_index_or t.ended 4 None) t.m in
      let Fetch : ℕ → Type 0 = λ n. IsLeft new 1 n (slice_index_or t.asked 1 None) t.f in
      let no_end : made.ends ≡ 0 = omega (arith, none) in
      let no_memory : t.memory ≡ 0 = omega (arith, none, t.accesses) in
      let no_fetch : t.fetch ≡ 0 = omega (arith, none, t.accesses) in
      let in_end : IsNotDue 5 (slice_index_or (moved latches) 5 None) = (subst End no_end t.in_end).0 in
      let in_memory : t.m ≡ slice_index_or t.ended 4 None = subst Memory no_memory t.left_memory in
      let in_fetch : t.f ≡ slice_index_or t.asked 1 None = subst Fetch no_fetch t.left_fetch in
      let InMemory : Option Flight → List (Option Flight) = λ o. slice_set t.ended 4 o in
      let InFetch : Option Flight → List (Option Flight) = λ o. slice_set t.asked 1 o in
      t.last_is ∙ ap InFetch in_fetch ∙ set-get_or t.asked 1 None ∙ t.asked_is ∙ ap InMemory in_memory ∙ set-get_or t.ended 4 None ∙ t.ended_is
      ∙ sym (end_is_none held (moved latches) _ (moving_on held latches t.flights) refl in_end)

  pub advanced : HasAdvanced run before after made latches last held new
  advanced =
      let End : Option Flight → Type 0 = λ o. HasWorked run before t.after_end wants.Finish 5 made.ends o held t.held_end in
      let Memory : Option Flight → Type 0 = λ o. HasWorked run t.after_end t.after_memory wants.Ask 4 t.memory o t.held_end t.held_memory in
      let Fetch : Option Flight → Type 0 = λ o. HasWorked run t.after_memory after wants.Ask 1 t.fetch o t.held_memory new in
      let LeftMemory : Option Flight → Type 0 = λ o. IsLeft t.held_memory 4 t.memory o t.m in
      let LeftFetch : Option Flight → Type 0 = λ o. IsLeft new 1 t.fetch o t.f in
      record {
        memory = t.memory;
        fetch = t.fetch;
        accesses = t.accesses;
        after_end = t.after_end;
        after_memory = t.after_memory;
        held_end = t.held_end;
        held_memory = t.held_memory;
        in_end = subst End end_from t.in_end;
        in_memory = subst Memory memory_from t.in_memory;
        in_fetch = subst Fetch fetch_from t.in_fetch;
        still = stays;
        leaves = (t.m, t.f, left_is, subst LeftMemory memory_from t.left_memory, subst LeftFetch fetch_from t.left_fetch);
      }

  -- nothing is due where it is

  six : length (moved latches) ≡ 6
  six = (moving_on held latches t.flights).six

  six_ended : length t.ended ≡ 6
  six_ended = ap length t.ended_is ∙ length-set (moved latches) 5 None ∙ six

  six_asked : length t.asked ≡ 6
  six_asked = ap length t.asked_is ∙ length-set t.ended 4 t.m ∙ six_ended

  not_in_fetch : (g : Flight) → IsAt last 1 g → g.due ≢ 1
  not_in_fetch g at =
      let read : slice_index_or last 1 None ≡ t.f = ap (Read 1) t.last_is ∙ get_or-set_same t.asked 1 t.f None (omega (arith, six_asked)) in
      not_due_after run t.after_memory after wants.Ask 1 t.held_memory new t.fetch (slice_index_or t.asked 1 None) t.f g t.in_fetch t.left_fetch (sym read ∙ at)

  not_in_memory : (g : Flight) → IsAt last 4 g → g.due ≢ 4
  not_in_memory g at =
      let read : slice_index_or last 4 None ≡ t.m =
      ap (Read 4) t.last_is ∙ get_or-set_other t.asked 1 4 t.f None (omega arith) ∙ ap (Read 4) t.asked_is
      ∙ get_or-set_same t.ended 4 t.m None (omega (arith, six_ended)) in
      not_due_after run t.after_end t.after_memory wants.Ask 4 t.held_end t.held_memory t.memory (slice_index_or t.ended 4 None) t.m g t.in_memory t.left_memory
      (sym read ∙ at)

  not_in_end : (g : Flight) → IsAt last 5 g → g.due ≢ 5
  not_in_end g at =
      let read : slice_index_or last 5 None ≡ None =
      ap (Read 5) t.last_is ∙ get_or-set_other t.asked 1 5 t.f None (omega arith) ∙ ap (Read 5) t.asked_is
      ∙ get_or-set_other t.ended 4 5 t.m None (omega arith) ∙ ap (Read 5) t.ended_is
      ∙ get_or-set_same (moved latches) 5 None None (omega (arith, six)) in
      let none : None ≡ Some g = sym read ∙ at in
      absurd cc

  pub in_flight_again : AreMoving new last → AreInFlight new last
  in_flight_again moving = record {
    six = moving.six;
    each = λ latch g at.
        let (least, most, hart) = moving.each latch g at in
        let (c, inside, is, due) = hart in
        let At : ℕ → Type 0 = λ n. IsAt last n g in
        let apart : g.due ≢ latch = λ same. elim (due_is c g.due due) [
          | inl one ↦ not_in_fetch g (subst At (sym same ∙ one) at) one
          | inr other ↦ elim other [
            | inl four ↦ not_in_memory g (subst At (sym same ∙ four) at) four
            | inr five ↦ not_in_end g (subst At (sym same ∙ five) at) five
          ]
        ] in
        record { later = omega (arith, least, apart); most = most; hart = hart };
    once = moving.once;
  }
