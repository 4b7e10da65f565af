-- The run of a record and an origin.
use Rattle.std.specs.Prelude.{ℕ, List}
use Rattle.flex_base.specs.Loaded.{Loaded}
use Rattle.flex_base.specs.declared.settings.Settings.{Settings}
use Rattle.access_record.specs.Passes.{RecordIdentity}
use Rattle.access_record.specs.Buses.{Run}
use Rattle.mem_banks.specs.declared.origin.Origin.{Origin}

-- the run of this image, these settings and this input, over a record
abbrev pub run_of : RecordIdentity → Loaded → Settings → List ℕ → Run
run_of book image settings input = record {
  book = book;
  setup = record {
    image = image;
    harts = settings.harts;
    ram = settings.ram;
    budget = settings.budget;
    input = input;
  };
}

abbrev pub run_from : RecordIdentity → Origin → Run
run_from book o = run_of book o.image.value o.settings o.input.value.items
