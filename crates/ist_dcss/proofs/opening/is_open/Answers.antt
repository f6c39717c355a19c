use Rattle.std.proofs.Common.{sym, ap, ◌∙◌, eq-eqb, arith}
use Rattle.std.proofs.lemmas.Bool.{eqb-true}
use Rattle.ist_core.specs.TreeTerms.{place_of_status}
use Rattle.ist_rule.proofs.EventLemmas.{looked_goes_on}
use Rattle.ist_dcss.proofs.CallingLemmas.{open_unrefused}
use Rattle.ist_dcss.proofs.DecideLemmas.{status_low, status_off, shows_open, open_shows}
use Rattle.ist_dcss.proofs.opening.is_open.Goals as goal

-- the status lies within the table
pub load-requires-clause-within : goal.load-requires-clause-within
load-requires-clause-within c =
    let low = status_low _ c.know.ensures.sound c.args.node c.requires.node in
    let at = c.status_place.ensures.value ∙ ap place_of_status c.from.ensures in
    let same = ap (λ t. t.words) c.requires.same_table in omega arith

-- and isn't the anchor's slot
pub load-requires-clause-no_walk : goal.load-requires-clause-no_walk
load-requires-clause-no_walk c at = status_off _ c.know.ensures.sound c.args.node c.requires.node
    (sym (c.status_place.ensures.value ∙ ap place_of_status c.from.ensures) ∙ at)

-- a load was made
pub returns-clause-seen : goal.returns-clause-seen
returns-clause-seen c = looked_goes_on _ _ _ _ c.load.ensures.looked

-- the word is the open word if the node is open
pub returns-clause-open : goal.returns-clause-open
returns-clause-open c = let at = c.status_place.ensures.value ∙ ap place_of_status c.from.ensures in
    let looked = c.load.ensures.looked in (
      λ t. shows_open _ c.know.ensures.sound c.args.node _ _ _ looked c.requires.node at
          (eqb-true _ _ t ∙ c.to_word.ensures.value),
      λ is. eq-eqb _ _ (open_shows _ c.args.node _ _ _ looked at is ∙ sym c.to_word.ensures.value),
    )

-- if the node is open, no change on it was decided no
pub returns-clause-unrefused : goal.returns-clause-unrefused
returns-clause-unrefused c number t =
    open_unrefused _ c.load.ensures.looked.sound number c.args.node ((returns-clause-open c).0 t)
