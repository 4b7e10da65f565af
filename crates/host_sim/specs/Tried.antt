-- What the tests run.
use Rattle.std.specs.Prelude.{◌≡◌}
use Rattle.flex_base.specs.Loaded.{Loaded}
use Rattle.access_record.specs.Buses.{Run}

-- a run of the tests' settings and this image
pub record IsTried (run : Run) (image : Loaded) : Type 0 where
  pub image_is : run.setup.image ≡ image
  pub harts : run.setup.harts ≡ 2
  pub ram : run.setup.ram ≡ 1048576
  pub budget : run.setup.budget ≡ 100
  pub all : run.book.limits.harts ≡ 2
  pub room : run.book.limits.room ≡ 2424
