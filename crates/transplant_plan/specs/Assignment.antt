-- What a plan says.
use Rattle.std.specs.Prelude.{ℕ, ℤ, pos, Bool, if◌then◌else◌, List, [], ◌∷◌}
use Rattle.std.specs.List.{list_any}
use Rattle.std.specs.Ordering.{int_eq}
use Rattle.flex_base.specs.Classes.{is_common, is_device}
use Rattle.flex_base.specs.declared.class.Class.{Class}
use Rattle.flex_base.specs.declared.engine.Engine.{Engine}
use Rattle.flex_base.specs.declared.engine.Engine.TheVariants as engine

-- the engine of each hart for each class, and how many banks of memory, pipes and kernels there are
pub record Assignment : Type 0 where
  pub engines : ℕ → Class → Engine
  pub banks : ℕ
  pub pipes : ℕ
  pub kernels : ℕ

-- the default plan gives each class of each hart to the first of pipe, kernel and host that can run it
abbrev pub default_plan : ℕ → Class → Engine
default_plan hart class = if is_common class then engine.Pipe else (if is_device class then engine.Host else engine.Kernel)

-- where no file says otherwise
abbrev pub default_banks : ℕ
default_banks = 4

abbrev pub default_pipes : ℕ
default_pipes = 2

abbrev pub default_kernels : ℕ
default_kernels = 1

abbrev pub default_assignment : Assignment
default_assignment = record { engines = default_plan; banks = default_banks; pipes = default_pipes; kernels = default_kernels }

-- the numbers of banks, pipes and kernels that there may be
abbrev pub bank_counts : List ℕ
bank_counts = 1 ∷ 2 ∷ 4 ∷ 8 ∷ 16 ∷ 32 ∷ 64 ∷ []

abbrev pub pipe_counts : List ℕ
pipe_counts = 1 ∷ 2 ∷ 3 ∷ 4 ∷ 5 ∷ 6 ∷ 7 ∷ 8 ∷ []

abbrev pub kernel_counts : List ℕ
kernel_counts = 1 ∷ 2 ∷ 3 ∷ 4 ∷ []

-- the number is one of these
abbrev pub is_allowed : List ℕ → ℤ → Bool
is_allowed counts number = list_any (λ n. int_eq (pos n) number) counts
