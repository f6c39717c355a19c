use Rattle.std.proofs.Common.{arith}
use Rattle.ist_rest.specs.RestingWords.{HoldPairs, AreListed}
use Rattle.ist_rest.proofs.WholeLemmas.{held_whole, if_ok_so}
use Rattle.ist_rest.proofs.listing.all_words.Goals as goal

pub returns : goal.returns
returns g c = record {
  held = if_ok_so (λ found. AreListed (g.W.WordList.list c.args.words.now) 0
      18446744073709551615 found.items)
      (λ found. HoldPairs (g.W.WordList.list c.args.words.now) found.items) c.list_words.result
      (λ found h. held_whole (g.W.WordList.list c.args.words.now) (λ i. let k =
      c.know_fit.ensures.fit i in omega arith) found.items h) c.list_words.ensures.listed;
}
