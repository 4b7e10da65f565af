-- The logs of the journals that tests read by number.
use Rattle.std.proofs.Common.{◌≡◌, ℕ, zero, suc, ◌<◌, [], ◌∷◌, get_or, sym, ap, ◌∙◌, arith}
use Rattle.std.specs.List.{All}
use Rattle.flex_base.specs.Journal.{event, numbers_of}
use Rattle.flex_base.specs.declared.engine.Engine.TheVariants as engine
use Rattle.flex_base.specs.declared.event.Event.{Event}
use Rattle.flex_base.specs.declared.event.What.{What}
use Rattle.journal.specs.Log.{Log}
use Rattle.journal.specs.Merged.{AreLogsOf, of_hart}

-- an event with this number of this hart
abbrev pub IsMade : ℕ → ℕ → Event → Type 0
IsMade number hart e = (happened : What) × (e ≡ event number hart engine.Pipe happened)

module _ (a b : Event) (is_a : IsMade 0 0 a) (is_b : IsMade 1 0 b) (log : Log) (has : log.events ≡ a ∷ b ∷ []) where
  pub are_logs_of-one : AreLogsOf (a ∷ b ∷ []) (log ∷ [])
  unfolding numbers_of of_hart
  are_logs_of-one = record { few = omega arith; numbers = λ i. numbers_of (is_a.1 i ∷ is_b.1 i ∷ []); harts = harts; each = each }
    where
      harts : All (λ (e : Event). e.hart.0 < 1) (a ∷ b ∷ [])
      harts zero d below = omega (arith, ap (λ (e : Event). e.hart.0) is_a.1)
      harts (suc zero) d below = omega (arith, ap (λ (e : Event). e.hart.0) is_b.1)
      harts (suc (suc k)) d below = absurd (omega (arith, below))

      each : (h : ℕ) (other : Log) → h < 1 → (get_or (log ∷ []) h other).events ≡ of_hart h (a ∷ b ∷ [])
      each zero other below = has ∙ (λ i. is_a.1 i ∷ is_b.1 i ∷ []) ∙ sym (λ i. of_hart 0 (is_a.1 i ∷ is_b.1 i ∷ []))
      each (suc h) other below = absurd (omega (arith, below))

module _ (a b c d e : Event) (is_a : IsMade 0 2 a) (is_b : IsMade 1 2 b) (is_c : IsMade 2 0 c) (is_d : IsMade 3 2 d) (is_e : IsMade 4 0 e)
    (first second third : Log) (has : first.events ≡ c ∷ e ∷ []) (none : second.events ≡ []) (has_third : third.events ≡ a ∷ b ∷ d ∷ []) where
  pub are_logs_of-three : AreLogsOf (a ∷ b ∷ c ∷ d ∷ e ∷ []) (first ∷ second ∷ third ∷ [])
  unfolding numbers_of of_hart
  are_logs_of-three =
      record { few = omega arith; numbers = λ i. numbers_of (is_a.1 i ∷ is_b.1 i ∷ is_c.1 i ∷ is_d.1 i ∷ is_e.1 i ∷ []); harts = harts; each = each }
    where
      harts : All (λ (x : Event). x.hart.0 < 3) (a ∷ b ∷ c ∷ d ∷ e ∷ [])
      harts zero x below = omega (arith, ap (λ (y : Event). y.hart.0) is_a.1)
      harts (suc zero) x below = omega (arith, ap (λ (y : Event). y.hart.0) is_b.1)
      harts (suc (suc zero)) x below = omega (arith, ap (λ (y : Event). y.hart.0) is_c.1)
      harts (suc (suc (suc zero))) x below = omega (arith, ap (λ (y : Event). y.hart.0) is_d.1)
      harts (suc (suc (suc (suc zero)))) x below = omega (arith, ap (λ (y : Event). y.hart.0) is_e.1)
      harts (suc (suc (suc (suc (suc k))))) x below = absurd (omega (arith, below))

      each : (h : ℕ) (other : Log) → h < 3 → (get_or (first ∷ second ∷ third ∷ []) h other).events ≡ of_hart h (a ∷ b ∷ c ∷ d ∷ e ∷ [])
      each zero other below = has ∙ (λ i. is_c.1 i ∷ is_e.1 i ∷ []) ∙ sym (λ i. of_hart 0 (is_a.1 i ∷ is_b.1 i ∷ is_c.1 i ∷ is_d.1 i ∷ is_e.1 i ∷ []))
      each (suc zero) other below = none ∙ sym (λ i. of_hart 1 (is_a.1 i ∷ is_b.1 i ∷ is_c.1 i ∷ is_d.1 i ∷ is_e.1 i ∷ []))
      each (suc (suc zero)) other below = has_third ∙ (λ i. is_a.1 i ∷ is_b.1 i ∷ is_d.1 i ∷ [])
          ∙ sym (λ i. of_hart 2 (is_a.1 i ∷ is_b.1 i ∷ is_c.1 i ∷ is_d.1 i ∷ is_e.1 i ∷ []))
      each (suc (suc (suc h))) other below = absurd (omega (arith, below))
