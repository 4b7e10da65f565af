-- Where the pass of a bank lies.
use Rattle.std.specs.Prelude.{◌≡◌, ℕ, List, [], Option, None, Some}
use Rattle.flex_base.specs.FlatMemory.{Done}
use Rattle.flex_base.specs.Banks.{accesses_of}
use Rattle.access_record.specs.declared.entry.LogEntry.{LogEntry}
use Rattle.access_record.specs.Passes.{RecordIdentity, PassOfBank}
use Rattle.access_record.specs.Buses.{events_of}

abbrev pub pass_of : RecordIdentity → ℕ → List LogEntry → ℕ → PassOfBank
pass_of book bank log seen = record { id = book.id; bank = bank; log = log; seen = seen }

-- the log of the pass that lies there, its bank, and what it has seen
abbrev pub log_in : Option PassOfBank → List LogEntry
log_in None = []
log_in (Some p) = p.log

abbrev pub bank_in : Option PassOfBank → ℕ
bank_in None = 0
bank_in (Some p) = p.bank

abbrev pub seen_in : Option PassOfBank → ℕ
seen_in None = 0
seen_in (Some p) = p.seen

-- the accesses of that log
abbrev pub done_in : Option PassOfBank → List Done
done_in slot = accesses_of (events_of (log_in slot))

-- the pass of this bank of the record lies there
abbrev pub HasPass : RecordIdentity → ℕ → Option PassOfBank → Type 0
HasPass book bank slot = slot ≡ Some (pass_of book bank (log_in slot) (seen_in slot))
