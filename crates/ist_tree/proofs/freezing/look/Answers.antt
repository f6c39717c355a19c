-- A look loads the word in the anchor's slot, and meets what it names.
use Rattle.std.proofs.Common.{rules}
use Rattle.laws_coming.proofs.FurtherLemmas.{after_load}
use Rattle.ist_rows.proofs.GoneLemmas.{still_ready}
use Rattle.ist_tree.proofs.FreezeGoingLemmas.{err_map, may_have_met_more, ok_map, stopped_more}
use Rattle.ist_tree.proofs.FreezeLookLemmas.{looked_idle}
use Rattle.ist_tree.proofs.freezing.look.Goals as goal

pub meet-requires-clause-ready : goal.meet-requires-clause-ready
meet-requires-clause-ready c = (
  still_ready (looked_idle c.args.who.now c.anchor_word-word.new.token c.requires.ready.0
      c.anchor_word-word.ensures.seen).on,
  search rules,
)

pub returns-clause-met : goal.returns-clause-met
returns-clause-met c = ok_map _ _ c.meet.result
    (λ site. may_have_met_more c.args.who.now _ c.meet.new.who site
    (looked_idle c.args.who.now c.anchor_word-word.new.token c.requires.ready.0
    c.anchor_word-word.ensures.seen)) c.meet.ensures.met

pub returns-clause-further : goal.returns-clause-further
returns-clause-further c is =
    after_load _ _ _ c.anchor_word-word.ensures.seen (c.meet.ensures.further is)

pub returns-clause-full : goal.returns-clause-full
returns-clause-full c = err_map _ _ c.meet.result
    (λ full. stopped_more c.args.who.now _ c.meet.new.who _ full
    (looked_idle c.args.who.now c.anchor_word-word.new.token c.requires.ready.0
    c.anchor_word-word.ensures.seen)) c.meet.ensures.full
