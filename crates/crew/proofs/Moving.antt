-- A context that moves between the coordinator, its hand and a worker: the crew has each hart once before and after.
use Rattle.std.proofs.Common.{◌≡◌, ℕ, ◌+◌, ◌<◌, ◌==◌, if◌then◌else◌, eq-eqb, List, [], ◌∷◌, ◌++◌, length, set, refl, sym, ap, ◌∙◌, subst, arith, Option, None, Some, All, slice_index_or, sum_by, option_to_list, IfSome}
use Rattle.std.proofs.lemmas.List.{length-set, length-append, length_push, get_or_default, get_or-set_same, get_or-set_other}
use Rattle.std.proofs.lemmas.List.Elements.{All-push, All-pop, All-weaker}
use Rattle.std.proofs.lemmas.List.Sums.{sum_by-set, sum_by_push, sum_by-append, get_or-le-sum_by}
use Rattle.flex_base.specs.declared.hart.HartId.{HartId}
use Rattle.flex_base.specs.declared.engine.Engine.{Engine}
use Rattle.access_record.specs.Buses.{Run}
use Rattle.context.specs.Contexts.{Context, IsOn, IsSame}
use Rattle.crew.specs.Crews.{Berth, Crew, crew_of, is_hart, times_at, times_in, filled, IsOfCrew, IsResting, IsManned, engine_of_worker, IsCrewBut, IsCrew, TakesBack, MayWork, HaveWorked, WorkerHasWorked, AllHaveWorked}
use Rattle.crew.proofs.Counting.{Each-set, sums_same}

-- the crew with these places, and with these workers
abbrev pub with_resting : Crew → List (Option Context) → Crew
with_resting crew resting = crew_of crew.plan resting crew.workers

abbrev pub with_workers : Crew → List Berth → Crew
with_workers crew workers = crew_of crew.plan crew.resting workers

-- 1 where it is this hart
abbrev counts_as : ℕ → HartId → ℕ
counts_as hart id = if id.0 == hart then 1 else 0

is_its_hart : (c : Context) → is_hart c.pass.hart.0 c ≡ 1
is_its_hart c = ap (λ b. if b then 1 else 0) (eq-eqb c.pass.hart.0 c.pass.hart.0 refl)

times_given : (h : ℕ) (given : Option Context) → sum_by (is_hart h) (option_to_list given) ≡ times_at h given
times_given h None = refl
times_given h (Some c) = omega arith

count_given : (given : Option Context) → length (option_to_list given) ≡ filled given
count_given None = refl
count_given (Some c) = refl

module _ (run : Run) (crew : Crew) where
  -- what rests at this place is taken in hand
  pub took : (hart : ℕ) (c : Option Context) → hart < length crew.resting → c ≡ slice_index_or crew.resting hart c → IsCrew run crew → IsCrewBut run c (with_resting crew (set crew.resting hart None))
  took hart c below is whole =
      let at : IsResting run crew.plan hart c = subst (IsResting run crew.plan hart) (sym is) (whole.resting hart c below) in
      record {
        places = length-set crew.resting hart None ∙ whole.places;
        few = whole.few;
        resting = Each-set (IsResting run crew.plan) crew.resting hart None whole.resting tt;
        counted = whole.counted;
        workers = whole.workers;
        engines = whole.engines;
        once = λ h lt. omega (arith, whole.once h lt, sum_by-set (times_at h) crew.resting hart None c below, ap (times_at h) is);
        all = omega (arith, whole.all, sum_by-set filled crew.resting hart None c below, ap filled is);
        hand = held c at;
      }
    where
      held : (c : Option Context) → IsResting run crew.plan hart c → IfSome c (λ d. IsOfCrew run crew.plan d)
      held None at = tt
      held (Some c) at = at.0

  -- nothing rests at the place of what is in hand
  pub vacant : (c : Context) (d : Option Context) → IsCrewBut run (Some c) crew → d ≡ slice_index_or crew.resting c.pass.hart.0 d → d ≡ None
  vacant c None whole is = refl
  vacant c (Some d) whole is =
      let hart = c.pass.hart.0 in
      let lt : hart < length crew.resting = omega (arith, whole.hand.below, whole.places) in
      let at : IsResting run crew.plan hart (Some d) = subst (IsResting run crew.plan hart) (sym is) (whole.resting hart (Some d) lt) in
      let there : is_hart hart d ≡ 1 = subst (λ h. is_hart h d ≡ 1) at.1 (is_its_hart d) in
      absurd (omega (arith, whole.once hart whole.hand.below, is_its_hart c, there, ap (times_at hart) is, get_or-le-sum_by (times_at hart) crew.resting hart (Some d) lt))

  -- what is in hand is laid at its place, where nothing rests
  pub laid : (c : Context) → IsCrewBut run (Some c) crew → IsCrew run (with_resting crew (set crew.resting c.pass.hart.0 (Some c)))
  laid c whole =
      let hart = c.pass.hart.0 in
      let lt : hart < length crew.resting = omega (arith, whole.hand.below, whole.places) in
      let d = slice_index_or crew.resting hart None in
      let none : slice_index_or crew.resting hart None ≡ None = none_there hart lt in
      record {
        places = length-set crew.resting hart (Some c) ∙ whole.places;
        few = whole.few;
        resting = Each-set (IsResting run crew.plan) crew.resting hart (Some c) whole.resting (whole.hand, refl);
        counted = whole.counted;
        workers = whole.workers;
        engines = whole.engines;
        once = λ h below. omega (arith, whole.once h below, sum_by-set (times_at h) crew.resting hart (Some c) None lt, ap (times_at h) none);
        all = omega (arith, whole.all, sum_by-set filled crew.resting hart (Some c) None lt, ap filled none);
        hand = tt;
      }
    where
      none_there : (hart : ℕ) → hart < length crew.resting → slice_index_or crew.resting c.pass.hart.0 None ≡ None
      none_there hart lt = vacant c (slice_index_or crew.resting c.pass.hart.0 None) whole (get_or_default crew.resting c.pass.hart.0 None _ (omega (arith, whole.hand.below, whole.places)))

  -- the same hart in hand, whatever it has done
  pub kept : (c d : Context) → IsCrewBut run (Some c) crew → IsSame c d → IsOn run d → IsCrewBut run (Some d) crew
  kept c d whole same on =
      record {
        places = whole.places;
        few = whole.few;
        resting = whole.resting;
        counted = whole.counted;
        workers = whole.workers;
        engines = whole.engines;
        once = λ h below. omega (arith, whole.once h below, ap (counts_as h) same.hart);
        all = whole.all;
        hand = record { on = on; plan_is = same.plan ∙ whole.hand.plan_is; below = omega (arith, whole.hand.below, ap (λ (i : HartId). i.0) same.hart) };
      }

  module _ (number : ℕ) (w : Berth) (below : number < length crew.workers) (is : w ≡ slice_index_or crew.workers number w) where
    -- what the worker has
    pub manned : {hand : Option Context} → IsCrewBut run hand crew → IsManned run crew.plan w
    manned whole = subst (IsManned run crew.plan) (sym is) (whole.workers number w below)

    -- there is room for what is in hand
    pub has_room : (c : Context) → IsCrewBut run (Some c) crew → length w.contexts < w.room
    has_room c whole = omega (arith, (manned whole).room, whole.all, ap (λ (v : Berth). length v.contexts) is, get_or-le-sum_by (λ (v : Berth). length v.contexts) crew.workers number w below)

    -- another worker in its place, of its engine and with its room, with other contexts of its engine
    replaced : (v : Berth) (hand : Option Context) (hand' : Option Context) → IsCrewBut run hand crew → IsManned run crew.plan v → v.engine ≡ w.engine
        → ((h : ℕ) → times_in h v.contexts + times_at h hand' ≡ times_in h w.contexts + times_at h hand)
        → length v.contexts + filled hand' ≡ length w.contexts + filled hand
        → IfSome hand' (λ c. IsOfCrew run crew.plan c) → IsCrewBut run hand' (with_workers crew (set crew.workers number v))
    replaced v hand hand' whole manned' engine times count held =
        record {
          places = whole.places;
          few = whole.few;
          resting = whole.resting;
          counted = length-set crew.workers number v ∙ whole.counted;
          workers = Each-set (λ k u. IsManned run crew.plan u) crew.workers number v whole.workers manned';
          engines = Each-set (λ k u. u.engine ≡ engine_of_worker crew.plan k) crew.workers number v whole.engines (engine ∙ (ap (λ (u : Berth). u.engine) is ∙ whole.engines number w below));
          once = λ h lt. omega (arith, whole.once h lt, times h, sum_by-set (λ (u : Berth). times_in h u.contexts) crew.workers number v w below, ap (λ (u : Berth). times_in h u.contexts) is);
          all = omega (arith, whole.all, count, sum_by-set (λ (u : Berth). length u.contexts) crew.workers number v w below, ap (λ (u : Berth). length u.contexts) is);
          hand = held;
        }

    -- what is in hand goes to the worker
    pub sent : (c : Context) (v : Berth) → IsCrewBut run (Some c) crew → c.engine ≡ w.engine → v.contexts ≡ w.contexts ++ c ∷ [] → v.engine ≡ w.engine → v.room ≡ w.room → IsCrew run (with_workers crew (set crew.workers number v))
    sent c v whole here contexts engine room =
        let m = manned whole in
        let each : All (λ d. IsOfCrew run crew.plan d) v.contexts = subst (λ (l : List Context). All (λ d. IsOfCrew run crew.plan d) l) (sym contexts) (All-push (λ d. IsOfCrew run crew.plan d) w.contexts c m.each whole.hand) in
        let in_engine : All (λ d. d.engine ≡ w.engine) v.contexts = subst (λ (l : List Context). All (λ d. d.engine ≡ w.engine) l) (sym contexts) (All-push (λ d. d.engine ≡ w.engine) w.contexts c m.here here) in
        replaced v (Some c) None whole
        (record { each = each; here = subst (λ (e : Engine). All (λ d. d.engine ≡ e) v.contexts) (sym engine) in_engine; room = omega (arith, m.room, room) })
        engine
        (λ h. omega (arith, ap (times_in h) contexts, sum_by_push (is_hart h) w.contexts c))
        (omega (arith, ap (λ (l : List Context). length l) contexts, length_push w.contexts c))
        tt

    -- what the worker gives back, if anything, is in hand
    pub gave : (given : Option Context) (v : Berth) → IsCrew run crew → w.contexts ≡ v.contexts ++ option_to_list given → v.engine ≡ w.engine → v.room ≡ w.room → IsCrewBut run given (with_workers crew (set crew.workers number v))
    gave given v whole contexts engine room =
        let m = manned whole in
        let each = All-pop (λ c. IsOfCrew run crew.plan c) w.contexts v.contexts given contexts m.each in
        let in_engine = All-pop (λ c. c.engine ≡ w.engine) w.contexts v.contexts given contexts m.here in
        replaced v None given whole
        (record { each = each.0; here = subst (λ (e : Engine). All (λ d. d.engine ≡ e) v.contexts) (sym engine) in_engine.0; room = omega (arith, m.room, room) })
        engine
        (λ h. omega (arith, ap (times_in h) contexts, sum_by-append (is_hart h) v.contexts (option_to_list given), times_given h given))
        (omega (arith, ap (λ (l : List Context). length l) contexts, length-append v.contexts (option_to_list given), count_given given))
        each.1

    -- how that changes what the workers hold
    pub takes_back : (given : Option Context) (v : Berth) → w.contexts ≡ v.contexts ++ option_to_list given → (given ≡ None → v.contexts ≡ []) → TakesBack number given crew.workers (set crew.workers number v)
    takes_back given v contexts none =
        record {
          counted = length-set crew.workers number v;
          count = omega (arith, sum_by-set (λ (u : Berth). length u.contexts) crew.workers number v w below, ap (λ (u : Berth). length u.contexts) is, ap (λ (l : List Context). length l) contexts, length-append v.contexts (option_to_list given), count_given given);
          none = λ is_none d. ap (λ (u : Berth). u.contexts) (get_or-set_same crew.workers number v d below) ∙ none is_none;
          others = λ k d other. get_or-set_other crew.workers number k v d other;
        }

  -- each worker may run
  pub may_work : IsCrew run crew → All (λ w. MayWork run w) crew.workers
  may_work whole = λ k d below.
      let m = whole.workers k d below in
      record { few = omega (arith, whole.few, whole.all, get_or-le-sum_by (λ (w : Berth). length w.contexts) crew.workers k d below); on = All-weaker (λ c. IsOfCrew run crew.plan c) (λ c. IsOn run c) (λ c of. of.on) _ m.each; here = m.here }

  -- after a phase it is the same crew
  pub worked : (new : List Berth) → IsCrew run crew → AllHaveWorked run crew.workers new → IsCrew run (with_workers crew new)
  worked new whole all =
      record {
        places = whole.places;
        few = whole.few;
        resting = whole.resting;
        counted = all.counted ∙ whole.counted;
        workers = λ k d below. still_manned _ _ (all.each k d (inside k below)) (whole.workers k d (inside k below));
        engines = λ k d below. (all.each k d (inside k below)).engine ∙ whole.engines k d (inside k below);
        once = λ h below. omega (arith, whole.once h below, sums_same (λ (w : Berth). times_in h w.contexts) crew.workers new (sym all.counted) (λ k d lt. times_same h _ _ _ _ (all.each k d lt).worked));
        all = omega (arith, whole.all, sums_same (λ (w : Berth). length w.contexts) crew.workers new (sym all.counted) (λ k d lt. sym (all.each k d lt).worked.counted));
        hand = tt;
      }
    where
      inside : (k : ℕ) → k < length new → k < length crew.workers
      inside k below = omega (arith, below, all.counted)

      times_same : (h most : ℕ) (r : Run) (xs ys : List Context) → HaveWorked r most xs ys → times_in h xs ≡ times_in h ys
      times_same h most r xs ys have = sums_same (is_hart h) xs ys (sym have.counted) (λ k d lt. ap (counts_as h) (sym (have.each k d lt).same.hart))

      still_manned : (old new : Berth) → WorkerHasWorked run old new → IsManned run crew.plan old → IsManned run crew.plan new
      still_manned old new has m =
          let back : (k : ℕ) → k < length new.contexts → k < length old.contexts = λ k below. omega (arith, below, has.worked.counted) in
          record {
            each = λ k d below.
                let was = m.each k d (back k below) in
                let did = has.worked.each k d (back k below) in
                record { on = did.on; plan_is = did.same.plan ∙ was.plan_is; below = omega (arith, was.below, ap (λ (i : HartId). i.0) did.same.hart) };
            here = λ k d below. (has.worked.each k d (back k below)).engine ∙ (m.here k d (back k below) ∙ sym has.engine);
            room = omega (arith, m.room, has.room);
          }
