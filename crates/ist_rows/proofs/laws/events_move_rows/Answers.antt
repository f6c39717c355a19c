use Rattle.ist_rows.proofs.CallerLawLemmas.{logged_made, loaded_made, held_made}
use Rattle.ist_rows.proofs.laws.events_move_rows.Goals as goal

pub returns : goal.returns
returns c = record {
  made = λ v w number event mine its l.
      held_made v w number event l.before mine its (logged_made v event w l);
  loaded = λ v w number event place word mine its l.
      held_made v w number event l.before mine its (loaded_made v event place word w l);
}
