-- The text of the lines after the events.
use Rattle.std.specs.Prelude.{ℕ, List, ◌++◌, codes, decimal}
use Rattle.std.specs.List.{flat_map}
use Rattle.flex_base.specs.declared.event.Stop.{Stop}
use Rattle.flex_base.specs.declared.event.Stop.TheVariants as stop
use Rattle.flex_base.specs.declared.hart.Mode.{Mode}
use Rattle.flex_base.specs.declared.hart.Mode.TheVariants as mode
use Rattle.tracer.specs.EventText.{hex, hex_digits}
use Rattle.tracer.specs.declared.tail_text.TailLine.{TailLine}
use Rattle.tracer.specs.declared.tail_text.TailLine.TheVariants as tail

abbrev pub reason_text : Stop → List ℕ
reason_text stop.Budget = codes "budget"
reason_text stop.Idle = codes "idle"
reason_text (stop.Off code) = codes "off " ++ decimal code

-- why the run ended
unfoldable pub stop_text : Stop → List ℕ
stop_text stop = codes "stop " ++ reason_text stop ++ codes "\n"

-- the privilege mode (Volume II, "Privilege Levels")
abbrev pub mode_text : Mode → List ℕ
mode_text mode.U = codes "u"
mode_text mode.S = codes "s"
mode_text mode.M = codes "m"

-- what each line of a hart begins with
abbrev pub of_hart : ℕ → List ℕ
of_hart h = codes "hart " ++ decimal h

-- a hart's ends, mode and pc
unfoldable pub state_text : ℕ → ℕ → Mode → ℕ → List ℕ
state_text h ends mode pc = of_hart h ++ codes " ends " ++ decimal ends ++ codes " mode " ++ mode_text mode
    ++ codes " pc " ++ hex pc ++ codes "\n"

-- a register and its value
unfoldable pub register_text : ℕ → ℕ → ℕ → List ℕ
register_text h number value = of_hart h ++ codes " x" ++ decimal number ++ codes " " ++ hex value ++ codes "\n"

-- a CSR and its value
unfoldable pub csr_text : ℕ → ℕ → ℕ → List ℕ
csr_text h number value = of_hart h ++ codes " csr " ++ hex_digits 3 number ++ codes " " ++ hex value ++ codes "\n"

-- a digest, its bytes in order
unfoldable pub ram_text : List ℕ → List ℕ
ram_text digest = codes "ram " ++ flat_map (hex_digits 2) digest ++ codes "\n"

abbrev pub tail_line_text : TailLine → List ℕ
tail_line_text (tail.Stop stop) = stop_text stop
tail_line_text (tail.Hart hart ends mode pc) = state_text hart.0 ends mode pc
tail_line_text (tail.Reg hart number value) = register_text hart.0 number value
tail_line_text (tail.Csr hart number value) = csr_text hart.0 number value
tail_line_text (tail.Ram digest) = ram_text digest
tail_line_text tail.Done = codes "done\n"
