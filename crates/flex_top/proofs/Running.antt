-- The run of a new bus is that of its image, its settings and its plan.
use Rattle.std.proofs.Common.{◌≡◌, ℕ, ◌+◌, ◌*◌, ◌≤◌, true, List, ap, sym, subst, ◌∙◌, arith}
use Rattle.flex_base.specs.Limits.{is_lawful}
use Rattle.flex_base.specs.Loaded.{Loaded, image_fits}
use Rattle.flex_base.specs.declared.settings.Settings.{Settings}
use Rattle.access_record.specs.Buses.{Run, ram_banks}
use Rattle.access_record.specs.declared.limits.Limits.{Limits}
use Rattle.mem_lines.specs.Bank.{is_bank_count}
use Rattle.mem_banks.specs.Origins.{run_of}
use Rattle.transplant_plan.specs.Shown.{shown}
use Rattle.transplant_plan.specs.declared.plan.Plan.{Plan}
use Rattle.solo.specs.Solo.{settings_of}
use Rattle.crew.specs.Played.{IsRunFor}

abbrev limits_of : Settings → ℕ → Limits
limits_of settings banks = record { harts = settings.harts; banks = banks + 1; room = 24 * settings.budget + 24 }

pub is_run_for : (run : Run) (image : Loaded) (settings : Settings) (input : List ℕ) (plan : Plan) (banks : ℕ) → run ≡ run_of run.book image settings input → run.book.limits ≡ limits_of settings banks
    → banks ≡ (shown plan).banks → is_bank_count banks ≡ true → is_lawful settings ≡ true → image_fits settings.ram image ≡ true → settings.harts * settings.budget ≤ 262144
    → IsRunFor run image settings plan
is_run_for run image settings input plan banks is limits by_plan count lawful fits few =
    let Few : Run → Type 0 = λ r. r.setup.harts * r.setup.budget ≤ 262144 in
    let all : run.book.limits.banks ≡ banks + 1 = ap (λ (l : Limits). l.banks) limits in
    let of_ram : ram_banks run ≡ banks = omega (arith, all) in
    record {
      runnable = record {
        lawful = ap (λ (r : Run). is_lawful (settings_of r.setup)) is ∙ lawful;
        fits = ap (λ (r : Run). image_fits r.setup.ram r.setup.image) is ∙ fits;
        few = subst Few (sym is) few;
        harts = ap (λ (l : Limits). l.harts) limits ∙ sym (ap (λ (r : Run). r.setup.harts) is);
        room = ap (λ (l : Limits). l.room) limits ∙ sym (ap (λ (r : Run). 24 * r.setup.budget + 24) is);
        counted = ap is_bank_count of_ram ∙ count;
        whole = omega (arith, all, of_ram);
      };
      image_is = ap (λ (r : Run). r.setup.image) is;
      settings_are = ap (λ (r : Run). settings_of r.setup) is;
      banks = sym by_plan ∙ sym of_ram;
    }
