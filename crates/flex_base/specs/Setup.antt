-- What a run is of.
use Rattle.std.specs.Prelude.{ℕ, List}
use Rattle.flex_base.specs.Loaded.{Loaded}

-- the image, the number of harts, the size of RAM in bytes, how many ends each hart may make, and the console's input
pub record Setup : Type 0 where
  pub image : Loaded
  pub harts : ℕ
  pub ram : ℕ
  pub budget : ℕ
  pub input : List ℕ
