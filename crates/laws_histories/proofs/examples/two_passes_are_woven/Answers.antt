use Rattle.laws_histories.proofs.ContentLemmas.{writer_stands, early_stands, reader_stands, late_fresh, calls_woven, history_legal}
use Rattle.laws_histories.proofs.examples.two_passes_are_woven.Goals as goal

pub returns : goal.returns
returns c = record { writer = writer_stands; early = early_stands; reader = reader_stands; fresh = late_fresh; woven = calls_woven; legal = history_legal }
