-- A turn of the solo machine is a turn of the unsplit one, and its turns are the rounds.
use Rattle.std.proofs.Common.{◌≡◌, ℕ, ◌+◌, ◌-◌, ◌<◌, ◌≤◌, zero, suc, true, false, List, [], ◌∷◌, ◌++◌, inl, inr, refl, ap, sym, subst, ◌∙◌, arith, append_assoc, append-nil}
use Rattle.std.specs.List.{range_with_len}
use Rattle.std.proofs.lemmas.Bool.{cases_Bool}
use Rattle.flex_base.specs.Setup.{Setup}
use Rattle.flex_base.specs.Unsplit.{Machine, step, reach_from, hart_numbers, has_ended, next_of, is_idle}
use Rattle.flex_base.specs.Rounds.{turn_of, turns, repeated, most_rounds, rounds}
use Rattle.flex_base.proofs.Machines.{reach-cons, reach-none, reach-append, reach_push}
use Rattle.flex_base.proofs.Turns.{turn_of-idle, turns_ended, turns_busy, turns-append}
use Rattle.flex_base.proofs.Standing.{AllStand, all_stand, all_step}
use Rattle.flex_base.proofs.EndOfRun.{made_in, made_most, made_step, rounds_end, repeated-none, repeated-suc}
use Rattle.solo.specs.Solo.{Solo}
use Rattle.solo.specs.Standing.{IsReached, IsAt, IsPlayedOut}
use Rattle.solo.specs.Playing.{AfterStep, Accesses, Finishes, Rests, IsTurned, Playing}
use Rattle.solo.specs.declared.machine.Step.{Step}
use Rattle.solo.specs.declared.machine.Step.TheVariants as step_of

pub reached_stand : (setup : Setup) (u : Machine) → IsReached setup u → AllStand setup u
reached_stand setup u reached =
    let Stand : Machine → Type 0 = λ m. AllStand setup m in
    subst Stand (sym reached.is) (all_stand setup reached.order)

-- Turns.

-- so many events of a turn are made, at least: from this state the turn goes on as the whole from its start
pub record IsInTurn (setup : Setup) (u : Machine) (h made : ℕ) (s : Solo) : Type 0 where
  pub now : Machine
  pub at : IsAt setup now s
  pub reaches : reach_from setup u (turn_of setup u h) ≡ reach_from setup now (turn_of setup now h)
  pub many : made ≤ made_in setup now

reach_on : (setup : Setup) (u : Machine) (h : ℕ) → turn_of setup u h ≡ h ∷ turn_of setup (step setup u h) h
    → reach_from setup (step setup u h) (turn_of setup (step setup u h) h) ≡ reach_from setup u (turn_of setup u h)
reach_on setup u h names = sym (ap (reach_from setup u) names ∙ reach-cons setup u h (turn_of setup (step setup u h) h))

-- whose turn isn't empty, has a next event
turn_busy : (setup : Setup) (u : Machine) (h : ℕ) (rest : List ℕ) → turn_of setup u h ≡ h ∷ rest → is_idle (next_of setup u h) ≡ false
turn_busy setup u h rest names = elim (cases_Bool (is_idle (next_of setup u h))) [
  | inl idle ↦ absurd (let none = sym (turn_of-idle setup u h idle) ∙ names in cc)
  | inr busy ↦ busy
]

-- the turn goes on where the access left it
pub in_turn_on : (setup : Setup) (u : Machine) (h made : ℕ) (s next : Solo) → h < setup.harts → (was : IsInTurn setup u h made s) → Accesses setup was.now h next → IsInTurn setup u h (made + 1) next
in_turn_on setup u h made s next below was on = record {
  now = step setup was.now h;
  at = on.at;
  reaches = was.reaches ∙ sym (reach_on setup was.now h on.names);
  many = omega (arith, was.many, made_step setup was.now h below (turn_busy setup was.now h (turn_of setup (step setup was.now h) h) on.names));
}

-- the rest of the turn is made
pub turned_all : (setup : Setup) (u : Machine) (h made : ℕ) (s next : Solo) (was : IsInTurn setup u h made s) → IsTurned setup was.now h next → IsTurned setup u h next
turned_all setup u h made s next was turned =
    let At : Machine → Type 0 = λ m. IsAt setup m next in
    subst At (sym was.reaches) turned

pub turned_once : (setup : Setup) (u : Machine) (h : ℕ) (s : Solo) → Finishes setup u h s → IsTurned setup u h s
turned_once setup u h s after =
    let At : Machine → Type 0 = λ m. IsAt setup m s in
    let there = ap (reach_from setup u) after.names ∙ reach-cons setup u h [] ∙ reach-none setup (step setup u h) in
    subst At (sym there) after.at

turned_idle : (setup : Setup) (u : Machine) (h : ℕ) (s : Solo) → turn_of setup u h ≡ [] → IsAt setup u s → IsTurned setup u h s
turned_idle setup u h s names at =
    let At : Machine → Type 0 = λ m. IsAt setup m s in
    let there = ap (reach_from setup u) names ∙ reach-none setup u in
    subst At (sym there) at

pub turned_none : (setup : Setup) (u : Machine) (h : ℕ) (s : Solo) → Rests setup u h s → IsTurned setup u h s
turned_none setup u h s rests = turned_idle setup u h s rests.names rests.at

-- after as many events as there can be none is left
pub turned_most : (setup : Setup) (u : Machine) (h made : ℕ) (s : Solo) → h < setup.harts → most_rounds setup ≤ made → IsInTurn setup u h made s → IsTurned setup u h s
turned_most setup u h made s below all was = turned_all setup u h made s s was (elim (cases_Bool (is_idle (next_of setup was.now h))) [
  | inl idle ↦ turned_idle setup was.now h s (turn_of-idle setup was.now h idle) was.at
  | inr busy ↦
      let stand = reached_stand setup was.now was.at.reached in
      absurd (omega (arith, all, was.many, made_step setup was.now h below busy, made_most setup (step setup was.now h) (all_step setup was.now h stand)))
])

pub stepped : (setup : Setup) (u : Machine) (h : ℕ) (came : Step) (s : Solo) → AfterStep setup u h came s → IsAt setup (step setup u h) s
stepped setup u h step_of.Accessed s after = after.at
stepped setup u h step_of.Ended s after = after.at
stepped setup u h step_of.Rested s after =
    let At : Machine → Type 0 = λ m. IsAt setup m s in
    subst At (sym after.still) after.at

-- The order.

pub at_none : (setup : Setup) (u : Machine) (s : Solo) → IsAt setup u s → IsAt setup (reach_from setup u []) s
at_none setup u s at =
    let At : Machine → Type 0 = λ m. IsAt setup m s in
    subst At (sym (reach-none setup u)) at

pub at_more : (setup : Setup) (u : Machine) (names : List ℕ) (h : ℕ) (next : Solo) → IsAt setup (step setup (reach_from setup u names) h) next → IsAt setup (reach_from setup u (names ++ h ∷ [])) next
at_more setup u names h next there =
    let At : Machine → Type 0 = λ m. IsAt setup m next in
    subst At (sym (reach_push setup u names h)) there

-- Rounds.

-- where the turns of these harts lead
abbrev pub after_turns : Setup → Machine → List ℕ → Machine
after_turns setup u done = reach_from setup u (turns setup u done)

turns_more : (setup : Setup) (u : Machine) (done rest : List ℕ) → after_turns setup u (done ++ rest) ≡ after_turns setup (after_turns setup u done) rest
turns_more setup u done rest =
    ap (reach_from setup u) (turns-append setup u done rest)
    ∙ reach-append setup u (turns setup u done) (turns setup (after_turns setup u done) rest)

-- once the run has ended, turns add nothing
turns_over : (setup : Setup) (u : Machine) (done rest : List ℕ) → has_ended setup (after_turns setup u done) ≡ true → after_turns setup u (done ++ rest) ≡ after_turns setup u done
turns_over setup u done rest ended =
    let v = after_turns setup u done in
    turns_more setup u done rest ∙ ap (reach_from setup v) (turns_ended setup v rest ended) ∙ reach-none setup v

-- the turn of one more hart, while it hasn't
turns_push : (setup : Setup) (u : Machine) (done : List ℕ) (h : ℕ) → has_ended setup (after_turns setup u done) ≡ false
    → after_turns setup u (done ++ h ∷ []) ≡ reach_from setup (after_turns setup u done) (turn_of setup (after_turns setup u done) h)
turns_push setup u done h going =
    let v = after_turns setup u done in
    turns_more setup u done (h ∷ []) ∙ ap (reach_from setup v) (turns_busy setup v h [] going ∙ append-nil (turn_of setup v h))

pub playing_turn : (setup : Setup) (u : Machine) (done rest : List ℕ) (h : ℕ) (s next : Solo) → Playing setup u done (h ∷ rest) s
    → has_ended setup (after_turns setup u done) ≡ false
    → IsTurned setup (after_turns setup u done) h next → Playing setup u (done ++ h ∷ []) rest next
playing_turn setup u done rest h s next playing going turned =
    let At : Machine → Type 0 = λ m. IsAt setup m next in
    record {
      all = append_assoc done (h ∷ []) rest ∙ playing.all;
      at = subst At (sym (turns_push setup u done h going)) turned;
    }

-- a hart whose turn comes after the end of the run has none
pub playing_over : (setup : Setup) (u : Machine) (done rest : List ℕ) (h : ℕ) (s : Solo) → Playing setup u done (h ∷ rest) s
    → has_ended setup (after_turns setup u done) ≡ true → Playing setup u (done ++ h ∷ []) rest s
playing_over setup u done rest h s playing ended =
    let At : Machine → Type 0 = λ m. IsAt setup m s in
    record {
      all = append_assoc done (h ∷ []) rest ∙ playing.all;
      at = subst At (sym (turns_over setup u done (h ∷ []) ended)) playing.at;
    }

pub playing_as : (setup : Setup) (u : Machine) (done made rest left : List ℕ) (s : Solo) → done ≡ made → rest ≡ left → Playing setup u done rest s → Playing setup u made left s
playing_as setup u done made rest left s same others playing =
    let Done : List ℕ → Type 0 = λ ns. Playing setup u ns rest s in
    let Rest : List ℕ → Type 0 = λ ns. Playing setup u made ns s in
    subst Rest others (subst Done same playing)

-- all rounds are to come
pub playing_rounds : (setup : Setup) (u : Machine) (s : Solo) → IsAt setup u s → Playing setup u (repeated 0 (hart_numbers setup)) (repeated (most_rounds setup - 0) (hart_numbers setup)) s
playing_rounds setup u s at =
    let numbers = hart_numbers setup in
    let all : most_rounds setup - 0 ≡ most_rounds setup = omega arith in
    let none = repeated-none numbers in
    let there : u ≡ after_turns setup u (repeated 0 numbers) = sym (ap (after_turns setup u) none ∙ reach-none setup u) in
    let At : Machine → Type 0 = λ m. IsAt setup m s in
    record {
      all = ap (λ ns. ns ++ repeated (most_rounds setup - 0) numbers) none ∙ ap (λ n. repeated n numbers) all;
      at = subst At there at;
    }

-- the harts that are still to have their turns in a round
pub numbers_more : (h n : ℕ) → h < n → range_with_len h (n - h) ≡ h ∷ range_with_len (h + 1) (n - (h + 1))
numbers_more h n below =
    let more : n - h ≡ suc (n - (h + 1)) = omega (arith, below) in
    ap (range_with_len h) more

pub numbers_all : (h n : ℕ) → n ≤ h → range_with_len h (n - h) ≡ []
numbers_all h n all =
    let none : n - h ≡ 0 = omega (arith, all) in
    ap (range_with_len h) none

repeated_more : (k n : ℕ) (names : List ℕ) → k < n → repeated (n - k) names ≡ names ++ repeated (n - (k + 1)) names
repeated_more k n names below =
    let more : n - k ≡ suc (n - (k + 1)) = omega (arith, below) in
    ap (λ m. repeated m names) more ∙ repeated-suc (n - (k + 1)) names

pub repeated_push : (k : ℕ) (names : List ℕ) → repeated k names ++ names ≡ repeated (k + 1) names
repeated_push zero names = ap (λ ns. ns ++ names) (repeated-none names) ∙ sym (append-nil names) ∙ ap (λ ns. names ++ ns) (sym (repeated-none names)) ∙ sym (repeated-suc 0 names)
repeated_push (suc k) names =
    let same : suc (k + 1) ≡ suc k + 1 = omega arith in
    ap (λ ns. ns ++ names) (repeated-suc k names)
    ∙ append_assoc names (repeated k names) names
    ∙ ap (λ ns. names ++ ns) (repeated_push k names)
    ∙ sym (repeated-suc (k + 1) names)
    ∙ ap (λ n. repeated n names) same

-- a round more
pub playing_round : (setup : Setup) (u : Machine) (k : ℕ) (s : Solo) → k < most_rounds setup
    → Playing setup u (repeated k (hart_numbers setup)) (repeated (most_rounds setup - k) (hart_numbers setup)) s
    → Playing setup u (repeated k (hart_numbers setup)) (hart_numbers setup ++ repeated (most_rounds setup - (k + 1)) (hart_numbers setup)) s
playing_round setup u k s below playing =
    let numbers = hart_numbers setup in
    playing_as setup u (repeated k numbers) (repeated k numbers) _ _ s refl (repeated_more k (most_rounds setup) numbers below) playing

-- The end.

rounds_out : (setup : Setup) (u : Machine) (s : Solo) → IsAt setup u s → has_ended setup (reach_from setup u (rounds setup u)) ≡ true
rounds_out setup u s at = rounds_end setup u at.some (reached_stand setup u at.reached)

-- all is played once all rounds are made
pub played_all : (setup : Setup) (u : Machine) (k : ℕ) (first s : Solo) → IsAt setup u first → most_rounds setup ≤ k
    → Playing setup u (repeated k (hart_numbers setup)) (repeated (most_rounds setup - k) (hart_numbers setup)) s → IsPlayedOut setup u s
played_all setup u k first s at all playing =
    let numbers = hart_numbers setup in
    let done = repeated k numbers in
    let none : most_rounds setup - k ≡ 0 = omega (arith, all) in
    let rest : repeated (most_rounds setup - k) numbers ≡ [] = ap (λ n. repeated n numbers) none ∙ repeated-none numbers in
    let same : done ≡ repeated (most_rounds setup) numbers = sym (append-nil done) ∙ ap (λ ns. done ++ ns) (sym rest) ∙ playing.all in
    let At : List ℕ → Type 0 = λ ns. IsAt setup (after_turns setup u ns) s in
    record { at = subst At same playing.at; ended = rounds_out setup u first at }

-- or once the run has ended
pub played_over : (setup : Setup) (u : Machine) (done rest : List ℕ) (first s : Solo) → IsAt setup u first → Playing setup u done rest s
    → has_ended setup (after_turns setup u done) ≡ true → IsPlayedOut setup u s
played_over setup u done rest first s at playing ended =
    let At : Machine → Type 0 = λ m. IsAt setup m s in
    let same : after_turns setup u done ≡ reach_from setup u (rounds setup u) = sym (turns_over setup u done rest ended) ∙ ap (after_turns setup u) playing.all in
    record { at = subst At same playing.at; ended = rounds_out setup u first at }
