-- A run of a hart goes on by one event.
use Rattle.std.proofs.Common.{◌≡◌, ℕ, zero, suc, ◌-◌, ◌<◌, Option, inl, refl, sym, subst, ◌∙◌}
use Rattle.access_record.specs.Buses.{Run}
use Rattle.access_record.specs.Histories.{History}
use Rattle.context.specs.Contexts.{Context, IsOn, IsSame, Steps, Stays}
use Rattle.context.specs.Runs.{Runs, MakesNone, HasStopped, HasRun}

pub same-trans : (c d e : Context) → IsSame c d → IsSame d e → IsSame c e
same-trans c d e one two = record {
  hart = two.hart ∙ one.hart;
  id = two.id ∙ one.id;
  entry = two.entry ∙ one.entry;
  plan = two.plan ∙ one.plan;
  settings = two.settings ∙ one.settings;
}

pub runs-push : (run : Run) (least : ℕ) (before between after : Option History) (n : ℕ) (c d e : Context) → Runs run least before between n c d
    → least < d.left → Steps run between after d e → Runs run least before after (suc n) c e
runs-push run least before between after zero c d e none more steps =
    let From : Option History × Context → Type 0 = λ p. (least < p.1.left) × Steps run p.0 after p.1 e in
    let from = subst From (λ i. (none.stays i, none.same i)) (more, steps) in
    (from.0, after, e, from.1, record { same = refl; stays = refl })
runs-push run least before between after (suc n) c d e runs more steps =
    let (some, first, next, made, rest) = runs in
    (some, first, next, made, runs-push run least first between after n next d e rest more steps)

-- how far a run has come, after so many events
pub record IsRunning (run : Run) (before now : Option History) (least : ℕ) (old c : Context) : Type 0 where
  pub events : ℕ
  pub runs : Runs run least before now events old c
  pub engine : c.engine ≡ old.engine
  pub same : IsSame old c
  pub on : IsOn run c

pub run_begins : (run : Run) (before : Option History) (least : ℕ) (c : Context) → IsOn run c → IsRunning run before before least c c
run_begins run before least c on = record {
  events = zero;
  runs = record { same = refl; stays = refl };
  engine = refl;
  same = record { hart = refl; id = refl; entry = refl; plan = refl; settings = refl };
  on = on;
}

pub run_goes_on : (run : Run) (before between after : Option History) (least : ℕ) (old c d : Context) → IsRunning run before between least old c
    → least < c.left → Steps run between after c d → IsSame c d → IsOn run d → IsRunning run before after least old d
run_goes_on run before between after least old c d running more steps same on = record {
  events = suc running.events;
  runs = runs-push run least before between after running.events old c d running.runs more steps;
  engine = steps.engine ∙ running.engine;
  same = same-trans old c d running.same same;
  on = on;
}

-- a run that came so far and stopped
pub has_run : (run : Run) (before after : Option History) (least most : ℕ) (old new : Context) → least ≡ old.left - most
    → IsRunning run before after least old new → HasStopped least new → HasRun run before after most old new
has_run run before after least most old new is running stopped =
    let So : ℕ → Type 0 = λ l. Runs run l before after running.events old new × HasStopped l new in
    let so = subst So is (running.runs, stopped) in
    record { events = running.events; runs = so.0; stopped = so.1 }

-- where nothing more happened
pub has_run_so_far : (run : Run) (before between after : Option History) (least most : ℕ) (old c new : Context) → least ≡ old.left - most
    → IsRunning run before between least old c → MakesNone c → Stays between after c new → HasRun run before after most old new
has_run_so_far run before between after least most old c new is running none stays =
    let Ran : Option History × Context → Type 0 = λ p. HasRun run before p.0 most old p.1 in
    subst Ran (λ i. (sym stays.stays i, sym stays.same i)) (has_run run before between least most old c is running (inl none))
