use Rattle.laws_coming.proofs.SeenLemmas.{part_comes, part_comes_or_loses, unset_seen, unset_still}
use Rattle.laws_coming.proofs.RootLemmas.{root_comes, root_comes_or_loses}
use Rattle.laws_coming.proofs.laws.builds_come.Goals as goal

pub returns : goal.returns
returns c = record {
  root = λ v s number rebuild word rows mine stored b.
      root_comes v s number rebuild word rows mine stored b;
  root_or_lose = λ v s number rebuild word rows mine stored some b was.
      root_comes_or_loses v s number rebuild word rows mine stored b some was;
  part = λ v s number rebuild i word rows mine stored b place at.
      part_comes v s number rebuild i word rows mine stored b place at;
  part_or_lose = λ v s number rebuild i word rows mine stored b place at was.
      part_comes_or_loses v s number rebuild i word rows mine stored b place at was;
  seen = λ v w caller place known l. unset_seen v w caller place known l;
  still_seen = λ v w caller place mine g was. unset_still v w caller place mine g was;
}
