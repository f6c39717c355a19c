use Rattle.laws_coming.proofs.FurtherLemmas.{count_comes, draw_comes}
use Rattle.laws_coming.proofs.KnownLemmas.{exchange_comes}
use Rattle.laws_coming.proofs.laws.enabled_events_come.Goals as goal

pub returns : goal.returns
returns c = record {
  exchange = λ v s event x k place old new at. exchange_comes v s event x k place old new at;
  count = λ v s number node mine all can. count_comes v s number mine node all can;
  draw = λ v s number rebuild part mine can. draw_comes v s number mine rebuild part can;
}
