use Rattle.ist_scan.proofs.ShotLemmas.{looked_more, of_pairs}
use Rattle.ist_scan.proofs.WalkLemmas.{comes, ends_above, ends_with_all}
use Rattle.ist_scan.proofs.walks.Walk.next.Goals as goal

-- after the last pair of the shot
pub returns-then-self-frozen-clause-by_pairs : goal.returns-then-self-frozen-clause-by_pairs
returns-then-self-frozen-clause-by_pairs c pairs k =
    ends_with_all _ _ _ _ _ c.begin.ensures.looked c.begin.ensures.way c.begin.ensures.one_walk c.begin.ensures.given
    c.requires.its_shot pairs k _ _ c.self.view_is c.frozen-frozen.ensures.value c.if-self-frozen.true

pub returns-then-self-frozen-clause-pair : goal.returns-then-self-frozen-clause-pair
returns-then-self-frozen-clause-pair c position o =
    returns-then-self-frozen-clause-by_pairs c _ (of_pairs _ position _ c.know.ensures.lawful o)

-- after the last pair of the interval
pub returns-then-pair-self-clause-looked : goal.returns-then-pair-self-clause-looked
returns-then-pair-self-clause-looked c = looked_more _ _ _ c.begin.ensures.looked c.pair_at-pair.ensures.looked

pub returns-then-pair-self-clause-by_pairs : goal.returns-then-pair-self-clause-by_pairs
returns-then-pair-self-clause-by_pairs c pairs k = let b = c.begin.ensures in
    ends_above _ _ _ _ _ b.looked b.way b.one_walk b.given c.requires.its_shot pairs k _ _ _ c.self.view_is
    c.frozen-frozen.ensures.value c.pair_at-pair.ensures.pair c.if-pair-self.true

pub returns-then-pair-self-clause-pair : goal.returns-then-pair-self-clause-pair
returns-then-pair-self-clause-pair c position o =
    returns-then-pair-self-clause-by_pairs c _ (of_pairs _ position _ c.know.ensures.lawful o)

-- a pair
pub returns-clause-looked : goal.returns-clause-looked
returns-clause-looked c = looked_more _ _ _ c.begin.ensures.looked c.pair_at-pair.ensures.looked

pub returns-clause-by_pairs : goal.returns-clause-by_pairs
returns-clause-by_pairs c pairs k = let b = c.begin.ensures in
    comes _ _ _ _ _ b.looked b.way b.one_walk b.given c.requires.its_shot pairs k _ _ _ c.self.view_is
    c.frozen-frozen.ensures.value c.pair_at-pair.ensures.pair c.if-pair-self.false

pub returns-clause-pair : goal.returns-clause-pair
returns-clause-pair c position o = returns-clause-by_pairs c _ (of_pairs _ position _ c.know.ensures.lawful o)
