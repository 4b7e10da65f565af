-- Where the pass of a context lies.
use Rattle.std.specs.Prelude.{[], Option, None, Some}
use Rattle.access_record.specs.Passes.{PassOfHart}

-- the pass that lies there
abbrev pub pass_in : Option PassOfHart → PassOfHart
pass_in (Some pass) = pass
pass_in None = record {
  id = record { words = 0; slots = 0; views_name = 0; atom = 0; block = 0; offset = 0; slot_names = [] };
  hart = record { 0 = 0 };
  log = [];
  seen = 0;
  looks = 0;
  looked = [];
}
