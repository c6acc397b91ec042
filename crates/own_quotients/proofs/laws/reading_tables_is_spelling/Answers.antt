use Rattle.own_quotients.proofs.TextLaws.{own_is, spelled_takes, spelled_again}
use Rattle.own_quotients.proofs.laws.reading_tables_is_spelling.Goals as goal

pub returns : goal.returns
returns c = record { own = own_is; takes = spelled_takes; again = spelled_again }
