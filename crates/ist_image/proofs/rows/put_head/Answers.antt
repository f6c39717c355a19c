use Rattle.std.proofs.Common.{◌+◌, ◌≤◌, arith, length}
use Rattle.std.proofs.Math.ListN.{length-set}
use Rattle.ist_core.specs.WordTerms.{degree}
use Rattle.ist_image.proofs.PlacingSizeLemmas.{head_fits}
use Rattle.ist_image.proofs.rows.put_head.Goals.{Start}
use Rattle.ist_image.proofs.rows.put_head.Goals as goal

-- there is room for the fields and the keys
fits : (c : Start) → (2 ≤ degree (length c.args.pairs.now))
    × (c.args.base + 4 + degree (length c.args.pairs.now) ≤ length c.args.words.now + 1)
fits c =
    head_fits c.args.base (length c.args.pairs.now) c.args.cut.now.count (length c.args.words.now)
    c.args.cut.now.several c.requires.cut c.requires.room

pub bounds-words-at : goal.bounds-words-at
bounds-words-at c = let room = fits (goal.at.bounds-words-at c).Start in omega arith

pub bounds-words-at-2 : goal.bounds-words-at-2
bounds-words-at-2 c = let room = fits (goal.at.bounds-words-at-2 c).Start in simp length-set (omega arith)

pub bounds-words-at-3 : goal.bounds-words-at-3
bounds-words-at-3 c = let room = fits (goal.at.bounds-words-at-3 c).Start in simp length-set (omega arith)

pub bounds-words-at-4 : goal.bounds-words-at-4
bounds-words-at-4 c = let room = fits (goal.at.bounds-words-at-4 c).Start in simp length-set (omega arith)

pub put_keys-requires-clause-room : goal.put_keys-requires-clause-room
put_keys-requires-clause-room c =
    let room = fits (goal.at.put_keys-requires-clause-room c).Start in simp length-set (omega arith)
