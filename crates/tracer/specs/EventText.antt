-- The trace text: the bytes of each line. Fields are split_run by one space, and each line ends with a line feed.
use Rattle.std.specs.Prelude.{ℕ, ◌+◌, ◌/◌, ◌%◌, zero, suc, Bool, true, false, nat_lt, if◌then◌else◌, List, [], ◌∷◌, ◌++◌, codes, decimal}
use Rattle.flex_base.specs.Limits.{mebibyte}
use Rattle.flex_base.specs.declared.access.Access.{Access}
use Rattle.flex_base.specs.declared.access.Access.TheVariants as acc
use Rattle.flex_base.specs.declared.access.Reply.{Reply}
use Rattle.flex_base.specs.declared.class.Class.{Class}
use Rattle.flex_base.specs.declared.class.Class.TheVariants as class
use Rattle.flex_base.specs.declared.engine.Engine.{Engine}
use Rattle.flex_base.specs.declared.engine.Engine.TheVariants as engine
use Rattle.flex_base.specs.declared.event.EndPart.{EndPart}
use Rattle.flex_base.specs.declared.event.Event.{Event}
use Rattle.flex_base.specs.declared.event.What.{What}
use Rattle.flex_base.specs.declared.event.What.TheVariants as what
use Rattle.flex_base.specs.declared.operation.AmoOp.{AmoOp}
use Rattle.flex_base.specs.declared.operation.AmoOp.TheVariants as amo
use Rattle.flex_base.specs.declared.settings.Settings.{Settings}

-- a digit below 16 in lower case
abbrev pub hex_digit : ℕ → ℕ
hex_digit n = if nat_lt n 10 then 48 + n else 87 + n

-- so many hexadecimal digits, the lowest last
unfoldable pub hex_digits : ℕ → ℕ → List ℕ
hex_digits zero n = []
hex_digits (suc k) n = hex_digits k (n / 16) ++ hex_digit (n % 16) ∷ []

-- an address or a value
abbrev pub hex : ℕ → List ℕ
hex n = hex_digits 16 n

abbrev pub flag : Bool → List ℕ
flag false = codes "0"
flag true = codes "1"

abbrev pub engine_text : Engine → List ℕ
engine_text engine.Pipe = codes "p"
engine_text engine.Kernel = codes "k"
engine_text engine.Host = codes "h"

abbrev pub class_text : Class → List ℕ
class_text class.Fetch = codes "fetch"
class_text class.Alu = codes "alu"
class_text class.Muldiv = codes "muldiv"
class_text class.Jump = codes "jump"
class_text class.Load = codes "load"
class_text class.Store = codes "store"
class_text class.Atomic = codes "atomic"
class_text class.Fence = codes "fence"
class_text class.Csr = codes "csr"
class_text class.System = codes "system"
class_text class.Walk = codes "walk"
class_text class.Trap = codes "trap"
class_text class.Pulse = codes "pulse"
class_text class.Device = codes "device"

abbrev pub amo_text : AmoOp → List ℕ
amo_text amo.Swap = codes "swap"
amo_text amo.Add = codes "add"
amo_text amo.Xor = codes "xor"
amo_text amo.And = codes "and"
amo_text amo.Or = codes "or"
amo_text amo.Min = codes "min"
amo_text amo.Max = codes "max"
amo_text amo.Minu = codes "minu"
amo_text amo.Maxu = codes "maxu"

-- ADDRESS WIDTH
abbrev pub span_text : ℕ → ℕ → List ℕ
span_text address width = hex address ++ codes " " ++ decimal width

-- NAME ADDRESS WIDTH VALUE, the name with its space
abbrev pub moved_text : List ℕ → ℕ → ℕ → ℕ → List ℕ
moved_text name address width value = name ++ span_text address width ++ codes " " ++ hex value

abbrev pub fetch_text : ℕ → ℕ → List ℕ
fetch_text address word = codes "fetch " ++ hex address ++ codes " " ++ hex_digits 8 word

abbrev pub pte_text : ℕ → ℕ → List ℕ
pte_text address entry = codes "pte " ++ hex address ++ codes " " ++ hex entry

-- LINES WAITS STOP, with a space before each
abbrev pub lines_text : Reply → List ℕ
lines_text reply = codes " " ++ hex reply.lines ++ codes " " ++ decimal reply.value ++ codes " " ++ flag reply.stop

-- an access, with what the reply adds
abbrev pub access_text : Access → Reply → List ℕ
access_text (acc.Fetch address) reply = fetch_text address reply.value
access_text (acc.Pte address) reply = pte_text address reply.value
access_text (acc.Read address width) reply = moved_text (codes "read ") address width reply.value
access_text (acc.Write address width value) reply = moved_text (codes "write ") address width value
access_text (acc.Lr address width) reply = moved_text (codes "lr ") address width reply.value
access_text (acc.Sc address width value) reply =
    moved_text (codes "sc ") address width value ++ codes " " ++ decimal reply.value
access_text (acc.Amo op address width value) reply =
    codes "amo " ++ amo_text op ++ moved_text (codes " ") address width value ++ codes " " ++ hex reply.value
access_text (acc.DevRead address width) reply = moved_text (codes "devread ") address width reply.value
access_text (acc.DevWrite address width value) reply = moved_text (codes "devwrite ") address width value
access_text (acc.Pulse tick) reply = codes "pulse " ++ flag tick ++ lines_text reply
access_text (acc.Wait mie) reply = codes "wait " ++ hex mie ++ lines_text reply
access_text acc.Retire reply = codes "retire"
access_text acc.Time reply = codes "time " ++ hex reply.value

-- of a trap the cause and tval, of another end the register and its value
abbrev pub outcome_text : Class → ℕ → ℕ → List ℕ
outcome_text class.Trap cause tval = hex cause ++ codes " " ++ hex tval
outcome_text other register value = codes "x" ++ decimal register ++ codes " " ++ hex value

abbrev pub end_text : EndPart → List ℕ
end_text part = codes "end " ++ class_text part.class ++ codes " " ++ hex part.pc ++ codes " " ++ hex part.next
    ++ codes " " ++ outcome_text part.class part.first part.second

abbrev pub what_text : What → List ℕ
what_text (what.Acc access reply) = access_text access reply
what_text (what.End part) = end_text part
what_text (what.Handover to) = codes "to " ++ engine_text to

-- the line of an event
unfoldable pub event_text : Event → List ℕ
event_text e = decimal e.number ++ codes " " ++ decimal e.hart.0 ++ codes " " ++ engine_text e.engine ++ codes " "
    ++ what_text e.what ++ codes "\n"

-- the first line
unfoldable pub header_text : Settings → List ℕ
header_text settings = codes "trace 1 harts " ++ decimal settings.harts ++ codes " ram "
    ++ decimal (settings.ram / mebibyte) ++ codes " budget " ++ decimal settings.budget ++ codes "\n"
