-- A run of no meaning.
use Rattle.std.specs.Prelude.{[]}
use Rattle.access_record.specs.Passes.{some_record}
use Rattle.access_record.specs.Buses.{Run}

-- the run of a name that no call has picked
abbrev pub some_run : Run
some_run = record {
  book = some_record;
  setup = record { image = record { entry = 0; parts = [] }; harts = 0; ram = 0; budget = 0; input = [] };
}
