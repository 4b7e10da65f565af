-- A hart at its start is in a context that keeps all.
use Rattle.std.proofs.Common.{◌≡◌, ℕ, ◌+◌, ◌*◌, ◌<◌, Bool, true, false, ◌&&◌, List, [], length, inl, refl, ap, sym, subst, ◌∙◌, arith}
use Rattle.flex_base.specs.Setup.{Setup}
use Rattle.flex_base.specs.State.{start}
use Rattle.flex_base.specs.Limits.{mebibyte, is_within, is_lawful}
use Rattle.flex_base.specs.Loaded.{Loaded, image_fits}
use Rattle.flex_base.specs.Place.{in_ram}
use Rattle.flex_base.specs.Word.{is_multiple}
use Rattle.flex_base.specs.Following.{leads_to, is_waiting}
use Rattle.flex_base.specs.declared.class.Class.TheVariants as class
use Rattle.flex_base.specs.declared.engine.Engine.{Engine}
use Rattle.flex_base.specs.declared.settings.Settings.{Settings}
use Rattle.flex_base.proofs.Beginning.{begins_fit}
use Rattle.flex_base.proofs.Following.{is_waiting-none}
use Rattle.hart_story.specs.Progress.{begun}
use Rattle.hart_story.specs.StandsFor.{StandsFor}
use Rattle.hart_story.specs.declared.hart.Hart.{Hart}
use Rattle.hart_story.specs.declared.progress.Progress.{Progress}
use Rattle.hart_story.proofs.Seeing.{are_none}
use Rattle.journal.specs.Log.{Log}
use Rattle.access_record.specs.declared.entry.LogEntry.{LogEntry}
use Rattle.access_record.specs.Passes.{PassOfHart}
use Rattle.access_record.specs.Buses.{Run, NamePlaces, events_of, waits}
use Rattle.transplant_plan.specs.Planning.{engine_at}
use Rattle.transplant_plan.specs.Split.{Nothing}
use Rattle.transplant_plan.specs.declared.plan.Plan.{Plan}
use Rattle.context.specs.Contexts.{Context, context_of, new_context, IsRunOf, StandsIn, IsContext, IsOn}
use Rattle.context.proofs.Fewness.{story_within}

third_true : (a b c d : Bool) → (a && b && c && d) ≡ true → c ≡ true
third_true true true true d e = refl
third_true true true false d e = absurd cc
third_true true false c d e = absurd cc
third_true false b c d e = absurd cc

first_true : (a b c : Bool) → (a && b && c) ≡ true → a ≡ true
first_true true b c e = refl
first_true false b c e = absurd cc

-- RAM is whole MiB
whole_ram : (settings : Settings) → is_lawful settings ≡ true → is_multiple settings.ram mebibyte ≡ true
whole_ram settings lawful =
    third_true (is_within 1 32 settings.harts) (is_within mebibyte (256 * mebibyte) settings.ram) (is_multiple settings.ram mebibyte) _ lawful

aligned_entry : (ram : ℕ) (image : Loaded) → image_fits ram image ≡ true → is_multiple image.entry 4 ≡ true
aligned_entry ram image fits = first_true (is_multiple image.entry 4) (in_ram ram image.entry 1) _ fits

module _ (hart : Hart) (pass : PassOfHart) (log : Log) (plan : Plan) (settings : Settings) (image : Loaded) (lawful : is_lawful settings ≡ true)
    (fits : image_fits settings.ram image ≡ true) (stands : StandsFor hart (start pass.hart.0 image.entry)) (below : pass.hart.0 < settings.harts)
    (none : pass.log ≡ []) (empty : log ≡ record { events = []; room = 24 * settings.budget + 24 }) where
  -- with this log of the pass
  abbrev with : List LogEntry → Context
  with entries = new_context hart (record pass { log = entries }) log plan settings

  starts : (setup : Setup) → IsRunOf hart.regs.pc settings setup → StandsIn setup (with [])
  unfolding leads_to
  starts setup of =
      let entry : image.entry ≡ setup.image.entry = sym stands.regs.pc ∙ sym of.entry_is in
      let there : StandsFor hart (start pass.hart.0 setup.image.entry) =
      subst (λ (x : ℕ). StandsFor hart (start pass.hart.0 x)) entry stands in
      let inside : pass.hart.0 < setup.harts = omega (arith, below, of.harts) in
      let fit = begins_fit setup.harts setup.ram setup.budget pass.hart.0 setup.image.entry inside
      (subst (λ (x : ℕ). is_multiple x 4 ≡ true) entry (aligned_entry settings.ram image fits)) in
      record {
        follows = tt;
        at = record {
          of = record { harts = of.harts; ram = of.ram; budget_is = of.budget; whole = whole_ram settings lawful };
          stands = there;
          fit = fit;
          reached = refl;
          sound = record { stage = tt; found = are_none begun.found refl };
        };
        obeys = inl (Nothing (engine_at plan.engines class.Fetch));
        few = record { rest = 10; within = story_within setup (start pass.hart.0 setup.image.entry); bound = omega arith };
      }

  pub begins : IsContext (new_context hart pass log plan settings)
  begins = record {
    whole = ap (λ (l : Log). l.events) empty ∙ ap events_of (sym none);
    room =
        let events : length log.events ≡ 0 = ap (λ (l : Log). length l.events) empty in
        let left : log.room ≡ 24 * settings.budget + 24 = ap (λ (l : Log). l.room) empty in
        omega (arith, events, left);
    below = below;
    stands = λ setup of. subst (λ (entries : List LogEntry). StandsIn setup (with entries)) (sym none) (starts setup of);
    told = λ w.
        let awake : waits pass ≡ false = ap (λ (entries : List LogEntry). is_waiting (events_of entries)) none ∙ is_waiting-none in
        absurd cc;
    round = omega (arith, stands.regs.ends);
  }

-- and of each run of a bus whose record the pass is of
pub begins_on : (hart : Hart) (pass : PassOfHart) (log : Log) (plan : Plan) (settings : Settings) (c : Context) (run : Run)
    → c ≡ new_context hart pass log plan settings → pass.log ≡ [] → pass.id ≡ run.book.id → IsRunOf c.entry settings run.setup
    → run.book.limits.room ≡ 24 * settings.budget + 24 → IsOn run c
begins_on hart pass log plan settings c run is none book setup limit =
    let here : IsOn run (new_context hart pass log plan settings) = record {
      book = book;
      setup = subst (λ (k : Context). IsRunOf k.entry settings run.setup) is setup;
      places = subst (λ (entries : List LogEntry). NamePlaces run entries) (sym none) tt;
      limit = limit;
    } in
    subst (λ (k : Context). IsOn run k) (sym is) here

-- the parts of the new context are its own
pub new_is : (hart : Hart) (progress : Progress) (own pass : PassOfHart) (log : Log) (plan : Plan) (settings : Settings) (engine : Engine)
    → progress ≡ begun → own ≡ pass → engine ≡ engine_at plan.engines class.Fetch
    → context_of hart progress own log plan settings hart.regs.pc engine (settings.budget + 1) ≡ new_context hart pass log plan settings
new_is hart progress own pass log plan settings engine begins_so same in_it =
    λ i. context_of hart (begins_so i) (same i) log plan settings hart.regs.pc (in_it i) (settings.budget + 1)
