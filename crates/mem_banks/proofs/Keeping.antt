-- A bank and the devices with one access more.
use Rattle.std.proofs.Common.{◌≡◌, ℕ, ◌<◌, arith, true, false, if◌then◌else◌, List, [], ◌∷◌, ◌++◌, sym, ap, ◌∙◌, subst, Option, eq-eqb, length}
use Rattle.flex_base.specs.FlatMemory.{Done, is_ram_access, flat}
use Rattle.flex_base.specs.Unsplit.{with_access}
use Rattle.flex_base.specs.Place.{UART}
use Rattle.flex_base.specs.Devices.{is_transmit, sent_bytes, reply_after, devices}
use Rattle.flex_base.specs.Banks.{bank_of, address_of, accesses_of, IsProper, IsAnswered, IsBanked}
use Rattle.flex_base.specs.declared.access.Access.{Access}
use Rattle.flex_base.specs.declared.access.Access.TheVariants as acc
use Rattle.flex_base.specs.declared.access.Reply.{Reply}
use Rattle.flex_base.specs.declared.engine.Engine.{Engine}
use Rattle.flex_base.specs.declared.hart.HartId.{HartId}
use Rattle.flex_base.specs.declared.event.Event.{Event}
use Rattle.flex_base.proofs.Banks.{accesses_of-push, banked_push}
use Rattle.flex_base.proofs.WaitingHarts.{waits_in}
use Rattle.mem_lines.specs.Bank as lines
use Rattle.mem_lines.specs.Steps.{IsHere}
use Rattle.mem_lines.proofs.Replays.{access_here}
use Rattle.devices.specs.View as devices
use Rattle.devices.proofs.Replays.{has_room-sent}
use Rattle.access_record.specs.declared.entry.LogEntry.{LogEntry}
use Rattle.access_record.specs.Logs.{of_hart, on_bank}
use Rattle.access_record.specs.Passes.{RecordIdentity, PassOfHart, PassOfBank}
use Rattle.access_record.specs.Buses.{Run, ram_banks, place_in, events_of, bytes_sent, NamePlaces, waits}
use Rattle.flex_base.specs.Following.{is_waiting}
use Rattle.access_record.proofs.Extending.{events_of-push}
use Rattle.mem_banks.specs.Kept.{IsBankOf, AreDevicesOf, AreOfHarts, MakesAt}
use Rattle.mem_banks.proofs.Bytes.{entry_of, bytes-push, some_room, fewer-on_bank}
use Rattle.mem_banks.proofs.Waiting.{waiting-push, waiting-part}

pub more_accesses : (log : List LogEntry) (hart : HartId) (engine : Engine) (access : Access) (reply : Reply) (bank number : ℕ)
    → accesses_of (events_of (log ++ entry_of hart engine access reply bank number ∷ [])) ≡ with_access (accesses_of (events_of log)) hart.0 access reply
more_accesses log hart engine access reply bank number =
    let e = entry_of hart engine access reply bank number in
    ap accesses_of (events_of-push log e) ∙ accesses_of-push (events_of log) e.event

-- A bank.

-- an access at the bank's place is one of its lines
pub here_in_lines : (run : Run) (book : RecordIdentity) (b : lines.Bank) (slot : Option PassOfBank) (pass : PassOfHart) (access : Access)
    → MakesAt run book b slot pass access → IsHere b access
here_in_lines run book b slot pass access asked =
    let is = asked.kept.lines.is_bank in
    let there : bank_of b.banks (address_of access) ≡ b.bank =
    ap (λ n. bank_of n (address_of access)) is.banks_are ∙ sym (ap (λ r. if r then bank_of (ram_banks run) (address_of access) else ram_banks run) asked.ram) ∙ asked.here in
    access_here run.setup b access asked.ram (sym is.ram_is) asked.may.placed there

-- its reply is that of the bank
pub lines_answered : (run : Run) (bank : ℕ) (made : List Done) (hart : ℕ) (access : Access) (reply : Reply)
    → is_ram_access access ≡ true → place_in run access ≡ bank → reply ≡ flat run.setup.image made hart access
    → IsAnswered run.setup (ram_banks run) bank made hart access reply
lines_answered run bank made hart access reply ram here is = record {
  here = here;
  reply_is = is ∙ sym (ap (λ r. if r then flat run.setup.image made hart access else reply_after run.setup.harts run.setup.input made hart access) ram);
  proper = proper_ram access ram;
}
  where
    proper_ram : (a : Access) → is_ram_access a ≡ true → IsProper run.setup.harts made hart a
    proper_ram (acc.Pulse tick) ram = absurd (cc ram)
    proper_ram a ram = tt

pub lines_push : (run : Run) (bank : ℕ) (old new : lines.Bank) (log : List LogEntry) (hart : HartId) (engine : Engine) (access : Access) (reply : Reply) (number : ℕ)
    → IsBankOf run bank old log → IsAnswered run.setup (ram_banks run) bank (accesses_of (events_of log)) hart.0 access reply
    → lines.IsReplay run.setup (with_access (accesses_of (events_of log)) hart.0 access reply) new → lines.IsSame old new
    → IsBankOf run bank new (log ++ entry_of hart engine access reply bank number ∷ [])
lines_push run bank old new log hart engine access reply number kept answered replay same =
    let e = entry_of hart engine access reply bank number in
    record {
      is_bank = record {
        ram_is = same.ram_is ∙ kept.is_bank.ram_is;
        banks_are = same.banks_are ∙ kept.is_bank.banks_are;
        bank_is = same.bank_is ∙ kept.is_bank.bank_is;
      };
      replay = subst (λ (m : List Done). lines.IsReplay run.setup m new) (sym (more_accesses log hart engine access reply bank number)) replay;
      banked = subst (λ (es : List Event). IsBanked run.setup (ram_banks run) bank es) (sym (events_of-push log e))
          (banked_push run.setup (ram_banks run) bank (events_of log) e.event kept.banked answered);
    }

-- The devices.

of_harts_push : (harts : ℕ) (log : List LogEntry) (e : LogEntry) → AreOfHarts harts log → e.event.hart.0 < harts → AreOfHarts harts (log ++ e ∷ [])
of_harts_push harts [] e own below = (below, tt)
of_harts_push harts (x ∷ log) e own below = (own.0, of_harts_push harts log e own.1 below)

-- a reply of the devices
pub devices_answered : (run : Run) (made : List Done) (hart : ℕ) (access : Access) (reply : Reply) → is_ram_access access ≡ false
    → reply ≡ reply_after run.setup.harts run.setup.input made hart access → IsProper run.setup.harts made hart access
    → IsAnswered run.setup (ram_banks run) (ram_banks run) made hart access reply
devices_answered run made hart access reply device is proper = record {
  here = ap (λ r. if r then bank_of (ram_banks run) (address_of access) else ram_banks run) device;
  reply_is = is ∙ sym (ap (λ r. if r then flat run.setup.image made hart access else reply_after run.setup.harts run.setup.input made hart access) device);
  proper = proper;
}

pub devices_push : (run : Run) (old new : devices.DevicesView) (log : List LogEntry) (hart : HartId) (engine : Engine) (access : Access) (reply : Reply) (number : ℕ)
    → AreDevicesOf run old log → hart.0 < run.setup.harts → is_ram_access access ≡ false
    → reply ≡ reply_after run.setup.harts run.setup.input (accesses_of (events_of log)) hart.0 access
    → IsProper run.setup.harts (accesses_of (events_of log)) hart.0 access
    → devices.IsReplay run.setup.harts run.setup.input (with_access (accesses_of (events_of log)) hart.0 access reply) new
    → (is_transmit access ≡ true → bytes_sent (of_hart hart.0 log) < run.setup.budget)
    → devices.IsSame old new
    → AreDevicesOf run new (log ++ entry_of hart engine access reply (ram_banks run) number ∷ [])
devices_push run old new log hart engine access reply number kept below device is proper replay room same =
    let made = accesses_of (events_of log) in
    let dev = ram_banks run in
    let e = entry_of hart engine access reply dev number in
    record {
      replay = subst (λ (m : List Done). devices.IsReplay run.setup.harts run.setup.input m new) (sym (more_accesses log hart engine access reply dev number)) replay;
      banked = subst (λ (es : List Event). IsBanked run.setup dev dev es) (sym (events_of-push log e))
          (banked_push run.setup dev dev (events_of log) e.event kept.banked (devices_answered run made hart.0 access reply device is proper));
      harts = of_harts_push run.setup.harts log e kept.harts below;
      bytes = bytes-push run.setup.budget log hart engine access reply dev number kept.bytes room;
      waiting = waiting-push run.setup.harts run.setup.input log hart engine access reply dev number kept.waiting is;
      room = same.room ∙ kept.room;
      keeps = same.keeps ∙ kept.keeps;
    }

-- what the hart has sent is in its own log
pub own_bytes : (dev hart budget : ℕ) (own log : List LogEntry) → on_bank dev own ≡ of_hart hart log → bytes_sent own < budget → bytes_sent (of_hart hart log) < budget
own_bytes dev hart budget own log agree less =
    let some = fewer-on_bank dev own in
    let same = ap bytes_sent agree in
    omega (arith, some, same, less)

may_act : (d : devices.DevicesView) (access : Access) → (is_transmit access ≡ true → devices.has_room d.console ≡ true) → devices.HasRoom d access
may_act d (acc.DevWrite address width value) room = λ uart. room (eq-eqb address UART uart)
may_act d access room = tt

-- there is room for the byte that it sends
pub room_at : (run : Run) (d : devices.DevicesView) (own log : List LogEntry) (hart : ℕ) (access : Access) → AreDevicesOf run d log → hart < run.setup.harts
    → on_bank (ram_banks run) own ≡ of_hart hart log → (is_transmit access ≡ true → bytes_sent own < run.setup.budget) → devices.HasRoom d access
room_at run d own log hart access kept below agree console = may_act d access (λ sends.
    let less = some_room run.setup.harts run.setup.budget hart log kept.harts kept.bytes below (own_bytes (ram_banks run) hart run.setup.budget own log agree (console sends)) in
    has_room-sent run.setup.harts run.setup.input (accesses_of (events_of log)) d kept.replay (subst (λ (n : ℕ). length (sent_bytes (accesses_of (events_of log))) < n) (sym kept.room) less))

-- the devices know of a hart that it waits where its own log tells so
pub waits_at : (run : Run) (d : devices.DevicesView) (pass : PassOfHart) (log : List LogEntry) → AreDevicesOf run d log → NamePlaces run pass.log
    → on_bank (ram_banks run) pass.log ≡ of_hart pass.hart.0 log
    → waits_in (devices run.setup.harts (accesses_of (events_of log))) pass.hart.0 ≡ waits pass
waits_at run d pass log kept named agree =
    kept.waiting pass.hart.0 ∙ sym (ap (λ (es : List LogEntry). is_waiting (events_of es)) agree) ∙ waiting-part run pass.log named
