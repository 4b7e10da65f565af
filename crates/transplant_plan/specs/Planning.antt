-- What a plan keeps true, and what it says.
use Rattle.std.specs.Prelude.{◌≡◌, ℕ, true, List}
use Rattle.std.specs.List.{slice_index_or}
use Rattle.flex_base.specs.Classes.{can_run}
use Rattle.flex_base.specs.declared.class.Class.{Class}
use Rattle.flex_base.specs.declared.class.Class.TheVariants as class
use Rattle.flex_base.specs.declared.engine.Engine.{Engine}
use Rattle.flex_base.specs.declared.engine.Engine.TheVariants as engine

-- the place of a class among the classes
abbrev pub class_index : Class → ℕ
class_index class.Fetch = 0
class_index class.Alu = 1
class_index class.Muldiv = 2
class_index class.Jump = 3
class_index class.Load = 4
class_index class.Store = 5
class_index class.Atomic = 6
class_index class.Fence = 7
class_index class.Csr = 8
class_index class.System = 9
class_index class.Walk = 10
class_index class.Trap = 11
class_index class.Pulse = 12
class_index class.Device = 13

abbrev pub engine_at : List Engine → Class → Engine
engine_at engines class = slice_index_or engines (class_index class) engine.Pipe

-- each class is in an engine that can run it
abbrev pub AllCanRun : List Engine → Type 0
AllCanRun engines = (class : Class) → can_run class (engine_at engines class) ≡ true
