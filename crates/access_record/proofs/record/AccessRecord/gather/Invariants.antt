use Rattle.access_record.proofs.record.AccessRecord.gather.Given as goal

abbrev pub ghosts-learn_rule : goal.ghosts-learn_rule
ghosts-learn_rule a = record { limits = a.table.now.shared.key }
