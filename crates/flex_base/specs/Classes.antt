-- Classes of work, and the engines that can run them.
use Rattle.std.specs.Prelude.{Bool, true, false, not}
use Rattle.flex_base.specs.declared.access.Access.{Access}
use Rattle.flex_base.specs.declared.access.Access.TheVariants as acc
use Rattle.flex_base.specs.declared.class.Class.{Class}
use Rattle.flex_base.specs.declared.class.Class.TheVariants as class
use Rattle.flex_base.specs.declared.engine.Engine.{Engine}
use Rattle.flex_base.specs.declared.engine.Engine.TheVariants as engine
use Rattle.flex_base.specs.declared.event.What.{What}
use Rattle.flex_base.specs.declared.event.What.TheVariants as what
use Rattle.flex_base.specs.declared.operation.Op.{Op}
use Rattle.flex_base.specs.declared.operation.Op.TheVariants as op

abbrev pub class_of_access : Access → Class
class_of_access (acc.Fetch address) = class.Fetch
class_of_access (acc.Pte address) = class.Walk
class_of_access (acc.Read address width) = class.Load
class_of_access (acc.Write address width value) = class.Store
class_of_access (acc.Lr address width) = class.Atomic
class_of_access (acc.Sc address width value) = class.Atomic
class_of_access (acc.Amo op address width value) = class.Atomic
class_of_access (acc.DevRead address width) = class.Device
class_of_access (acc.DevWrite address width value) = class.Device
class_of_access (acc.Pulse tick) = class.Pulse
class_of_access (acc.Wait mie) = class.Pulse
class_of_access acc.Retire = class.Pulse
class_of_access acc.Time = class.Csr

abbrev pub class_of_op : Op → Class
class_of_op (op.Lui rd imm) = class.Alu
class_of_op (op.Auipc rd imm) = class.Alu
class_of_op (op.Jal rd imm) = class.Jump
class_of_op (op.Jalr rd rs1 imm) = class.Jump
class_of_op (op.Branch compares rs1 rs2 imm) = class.Jump
class_of_op (op.Load width signed rd rs1 imm) = class.Load
class_of_op (op.Store width rs1 rs2 imm) = class.Store
class_of_op (op.AluImm computes rd rs1 imm) = class.Alu
class_of_op (op.AluReg computes rd rs1 rs2) = class.Alu
class_of_op (op.Muldiv computes rd rs1 rs2) = class.Muldiv
class_of_op (op.Lr width rd rs1 aq rl) = class.Atomic
class_of_op (op.Sc width rd rs1 rs2 aq rl) = class.Atomic
class_of_op (op.Amo computes width rd rs1 rs2 aq rl) = class.Atomic
class_of_op (op.Fence free) = class.Fence
class_of_op (op.FenceI free) = class.Fence
class_of_op (op.Csr does rd rs1 number) = class.Csr
class_of_op op.Ecall = class.Trap
class_of_op op.Ebreak = class.Trap
class_of_op op.Sret = class.System
class_of_op op.Mret = class.System
class_of_op op.Wfi = class.System
class_of_op (op.SfenceVma rs1 rs2) = class.System
class_of_op (op.Illegal word) = class.Trap

-- the class of an event; the machine's events are no handovers, which have no class of their own
abbrev pub class_of_what : What → Class
class_of_what (what.Acc access reply) = class_of_access access
class_of_what (what.End part) = part.class
class_of_what (what.Handover to) = class.Fetch

-- the classes that every engine can run
abbrev pub is_common : Class → Bool
is_common class.Fetch = true
is_common class.Alu = true
is_common class.Muldiv = true
is_common class.Jump = true
is_common class.Load = true
is_common class.Store = true
is_common class.Atomic = true
is_common class.Fence = true
is_common other = false

abbrev pub is_device : Class → Bool
is_device class.Device = true
is_device other = false

-- the pipe runs the common classes, the kernel all but device, and the host all
abbrev pub can_run : Class → Engine → Bool
can_run class engine.Pipe = is_common class
can_run class engine.Kernel = not (is_device class)
can_run class engine.Host = true
