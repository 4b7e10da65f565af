use Rattle.access_record.proofs.Splitting.{meets_rule-begin}
use Rattle.access_record.proofs.record.AccessRecord.new.Goals as goal

pub of_words-requires : goal.of_words-requires
of_words-requires c = meets_rule-begin (record { harts = c.args.harts; banks = c.args.banks; room = c.args.room })
