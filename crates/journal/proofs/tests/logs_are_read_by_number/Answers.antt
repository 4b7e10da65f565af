use Rattle.journal.proofs.Logs.{are_logs_of-three}
use Rattle.journal.proofs.tests.logs_are_read_by_number.Goals as goal

pub is_read-requires : goal.is_read-requires
is_read-requires g c =
    are_logs_of-three _ _ _ _ _ c.of_hart.ensures c.of_hart-2.ensures c.of_hart-3.ensures c.of_hart-4.ensures c.of_hart-5.ensures _ _ _
    c.in_ok-log_of.ensures c.in_ok-log_of-2.ensures c.in_ok-log_of-3.ensures
