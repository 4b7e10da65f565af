use Rattle.journal.proofs.Logs.{are_logs_of-one}
use Rattle.journal.proofs.tests.one_log_is_read_by_number.Goals as goal

pub is_read-requires : goal.is_read-requires
is_read-requires g c = are_logs_of-one _ _ c.of_hart.ensures c.of_hart-2.ensures _ c.in_ok-log_of.ensures
