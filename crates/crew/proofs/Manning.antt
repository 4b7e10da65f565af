-- The workers of a plan, made one after another.
use Rattle.std.proofs.Common.{◌≡◌, inl, inr, ℕ, ◌+◌, ◌<◌, ◌≤◌, List, [], ◌∷◌, ◌++◌, length, All, sym, ap, ◌∙◌, subst, arith}
use Rattle.std.specs.Prelude.{slice_index_or}
use Rattle.std.proofs.lemmas.Bool.{cases_eq}
use Rattle.std.proofs.lemmas.List.{length-append, get_or_push, get_or_append_left}
use Rattle.std.proofs.lemmas.List.Elements.{All-push}
use Rattle.transplant_plan.specs.declared.plan.Plan.{Plan}
use Rattle.crew.specs.Crews.{Berth, AreVacant, count_by, engine_of_worker}

-- so many workers of the plan, the first ones
pub record AreFirst (plan : Plan) (room count : ℕ) (workers : List Berth) : Type 0 where
  pub counted : length workers ≡ count
  pub none : All (λ (w : Berth). w.contexts ≡ []) workers
  pub rooms : All (λ (w : Berth). room ≤ w.room) workers
  pub engines : (number : ℕ) (other : Berth) → number < length workers → (slice_index_or workers number other).engine ≡ engine_of_worker plan number

pub none_yet : (plan : Plan) (room : ℕ) (workers : List Berth) → workers ≡ [] → AreFirst plan room 0 workers
none_yet plan room workers none =
    let count : length workers ≡ 0 = ap length none in
    record {
      counted = count;
      none = λ k d below. absurd (omega (arith, below, count));
      rooms = λ k d below. absurd (omega (arith, below, count));
      engines = λ k d below. absurd (omega (arith, below, count));
    }

pushed_all : (P : Berth → Type 0) (workers more : List Berth) (w : Berth) → more ≡ workers ++ w ∷ [] → All P workers → P w → All P more
pushed_all P workers more w pushed all has = subst (λ (ws : List Berth). All P ws) (sym pushed) (All-push P workers w all has)

pub one_more : (plan : Plan) (room count : ℕ) (workers more : List Berth) (w : Berth) → more ≡ workers ++ w ∷ [] → AreFirst plan room count workers
    → w.engine ≡ engine_of_worker plan count → w.contexts ≡ [] → room ≤ w.room → AreFirst plan room (count + 1) more
one_more plan room count workers more w pushed first engine none within =
    let size : length more ≡ count + 1 = ap length pushed ∙ length-append workers (w ∷ []) ∙ ap (λ n. n + 1) first.counted in
    record {
      counted = size;
      none = pushed_all (λ (v : Berth). v.contexts ≡ []) workers more w pushed first.none none;
      rooms = pushed_all (λ (v : Berth). room ≤ v.room) workers more w pushed first.rooms within;
      engines = λ number other below.
          subst (λ (ws : List Berth). (slice_index_or ws number other).engine ≡ engine_of_worker plan number) (sym pushed)
          (elim (cases_eq (length workers) number) [
            | inl last ↦ ap (λ (v : Berth). v.engine) (get_or_push workers w other number last) ∙ engine ∙ ap (engine_of_worker plan) (sym first.counted ∙ last)
            | inr earlier ↦
                let inside : number < length workers = omega (arith, below, size, first.counted, earlier) in
                ap (λ (v : Berth). v.engine) (get_or_append_left workers (w ∷ []) other number inside) ∙ first.engines number other inside
          ]);
    }

pub all_of_them : (plan : Plan) (room count : ℕ) (workers : List Berth) → count ≡ count_by plan → AreFirst plan room count workers → AreVacant plan room workers
all_of_them plan room count workers all first = record { counted = first.counted ∙ all; none = first.none; rooms = first.rooms; engines = first.engines }
