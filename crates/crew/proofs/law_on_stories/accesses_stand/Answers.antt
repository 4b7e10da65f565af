use Rattle.crew.proofs.PlacedLogs.{follows_placed, log_placed}
use Rattle.crew.proofs.law_on_stories.accesses_stand.Goals as goal

-- src/law_on_stories.rt:13:1
pub returns-clause-events : goal.returns-clause-events
returns-clause-events c = λ setup hart events entry follows. follows_placed setup hart events entry follows

-- src/law_on_stories.rt:13:1
pub returns-clause-log : goal.returns-clause-log
returns-clause-log c = λ setup hart log entry follows. log_placed setup hart log entry follows
