use Rattle.palm_deck.proofs.ReadsBack.{reads_back}
use Rattle.palm_deck.proofs.laws.decks_read_back.Goals as goal

pub returns : goal.returns
returns c = reads_back
