-- What the tests keep of harts.
use Rattle.std.specs.Prelude.{◌≡◌, ℕ, ◌+◌, ◌≤◌, List, map, length}
use Rattle.std.specs.List.{All}
use Rattle.access_record.specs.Rule.{count_of, occurrences}
use Rattle.access_record.specs.Passes.{PassOfHart}
use Rattle.access_record.specs.Buses.{Run}
use Rattle.context.specs.Contexts.{Context}
use Rattle.pipeline.specs.Pipes.{AreOn}

-- the numbers of these harts
abbrev pub harts_in : List Context → List ℕ
harts_in held = map (λ (c : Context). c.pass.hart.0) held

-- each of these harts is held or has its pass among these, and all are of the run
pub record AreKept (run : Run) (harts : List ℕ) (held : List Context) (passes : List PassOfHart) : Type 0 where
  pub on : AreOn run held
  pub ids : All (λ (p : PassOfHart). p.id ≡ run.book.id) passes
  pub count : length passes + length held ≡ length harts
  pub each : (hart : ℕ) → occurrences hart harts ≤ count_of (λ (p : PassOfHart). p.hart.0) hart passes + occurrences hart (harts_in held)
