use Rattle.ist_find.proofs.KeyLemmas.{HasCountedKeys}
use Rattle.ist_find.proofs.keys.count_through.Given as goal

-- the keys so far were loaded, and counted if they are at most the key
abbrev pub invariant-loop-j : goal.invariant-loop-j
invariant-loop-j l = HasCountedKeys l.fn.token.view l.token.view l.node l.j l.key l.found
