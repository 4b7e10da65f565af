-- What the tests keep of a hart whose accesses no story asks.
use Rattle.std.specs.Prelude.{◌≡◌, ℕ, ◌+◌, ◌<◌, ◌≤◌, Bool, List, map, length}
use Rattle.access_record.specs.Passes.{PassOfHart}
use Rattle.access_record.specs.Buses.{Run, NamePlaces, bytes_sent, waits}

-- whether the hart waits, for how many more accesses its log has room, and how many more bytes it may send
pub record IsTried (run : Run) (pass : PassOfHart) (waiting : Bool) (left bytes : ℕ) : Type 0 where
  pub book : pass.id ≡ run.book.id
  pub hart : pass.hart.0 < run.setup.harts
  pub room : length pass.log + left ≤ run.book.limits.room
  pub places : NamePlaces run pass.log
  pub told : waits pass ≡ waiting
  pub sent : bytes_sent pass.log + bytes ≤ run.setup.budget

-- a run of eight harts, with room for a thousand accesses of each
pub record IsSmall (run : Run) : Type 0 where
  pub harts : run.setup.harts ≡ 8
  pub ram : run.setup.ram ≡ 1048576
  pub enrolled : run.book.limits.harts ≡ 8
  pub room : 1000 ≤ run.book.limits.room

-- whose passes these are
abbrev pub harts_of : List PassOfHart → List ℕ
harts_of passes = map (λ (p : PassOfHart). p.hart.0) passes
