-- Without memory for the pairs, or with too many words, the handle is as before.
use Rattle.std.proofs.Common.{inl, sym, ◌∙◌, true≢false}
use Rattle.ist_c.specs.Opening.{opens_memory, opens_misuse}
use Rattle.ist_c.proofs.tree_calls.open_numbered.Goals as goal
use Rattle.ist_c.proofs.tree_calls.open_numbered.Goals.{then-out-via-then-out, then-out-via-else-out+then-words-gt-MOST_WORDS}

pub returns-then-out-clause-opens : goal.returns-then-out-clause-opens
returns-then-out-clause-opens c = λ empty. elim c.then-out.branch [
  | then-out-via-then-out w ↦ absurd (true≢false (sym w.if-out.true ∙ empty))
  | then-out-via-else-out+then-words-gt-MOST_WORDS w ↦
      opens_misuse c.args.out.now (inl w.if-words-gt-MOST_WORDS.true)
]

pub returns-in-Err-clause-opens : goal.returns-in-Err-clause-opens
returns-in-Err-clause-opens c = λ empty. opens_memory c.args.out.now
