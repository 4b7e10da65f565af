-- The names of classes and engines in a plan's file.
use Rattle.std.specs.Prelude.{ℕ, List, [], ◌∷◌, Option, codes, find}
use Rattle.std.specs.Str.{bytes_eq}
use Rattle.flex_base.specs.declared.class.Class.{Class}
use Rattle.flex_base.specs.declared.class.Class.TheVariants as class
use Rattle.flex_base.specs.declared.engine.Engine.{Engine}
use Rattle.flex_base.specs.declared.engine.Engine.TheVariants as engine

abbrev pub classes : List Class
classes = class.Fetch ∷ class.Alu ∷ class.Muldiv ∷ class.Jump ∷ class.Load ∷ class.Store ∷ class.Atomic ∷ class.Fence
    ∷ class.Csr ∷ class.System ∷ class.Walk ∷ class.Trap ∷ class.Pulse ∷ class.Device ∷ []

abbrev pub class_name : Class → List ℕ
class_name class.Fetch = codes "fetch"
class_name class.Alu = codes "alu"
class_name class.Muldiv = codes "muldiv"
class_name class.Jump = codes "jump"
class_name class.Load = codes "load"
class_name class.Store = codes "store"
class_name class.Atomic = codes "atomic"
class_name class.Fence = codes "fence"
class_name class.Csr = codes "csr"
class_name class.System = codes "system"
class_name class.Walk = codes "walk"
class_name class.Trap = codes "trap"
class_name class.Pulse = codes "pulse"
class_name class.Device = codes "device"

-- the class of this name
unfoldable pub class_named : List ℕ → Option Class
class_named name = find (λ c. bytes_eq (class_name c) name) classes

abbrev pub engines : List Engine
engines = engine.Pipe ∷ engine.Kernel ∷ engine.Host ∷ []

abbrev pub engine_name : Engine → List ℕ
engine_name engine.Pipe = codes "pipe"
engine_name engine.Kernel = codes "kernel"
engine_name engine.Host = codes "host"

-- the engine of this name
unfoldable pub engine_named : List ℕ → Option Engine
engine_named name = find (λ e. bytes_eq (engine_name e) name) engines
