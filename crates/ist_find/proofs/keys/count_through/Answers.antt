use Rattle.std.proofs.Common.{◌+◌, sym, subst, arith}
use Rattle.ist_find.proofs.KeyLemmas.{HasCountedKeys, none_counted, counted_yes, counted_no}
use Rattle.ist_find.proofs.keys.count_through.Goals.{then-key_at-key, else-key_at-key}
use Rattle.ist_find.proofs.keys.count_through.Goals as goal

pub loop-j-init : goal.loop-j-init
loop-j-init c = none_counted _ c.know.ensures.sound c.args.node c.requires.row.0 c.args.key

-- the loaded key is counted if it is at most the key
pub loop-j-preserved : goal.loop-j-preserved
loop-j-preserved c = let h = c.loop-j.invariant in let k = c.key_at.ensures in
    let count = c.requires.count in let less = c.loop-j-test.true in
    elim c.if-key_at-key.branch [
      | then-key_at-key w ↦ subst
          (HasCountedKeys c.args.token.now.view c.key_at.new.token.view c.args.node
          (c.loop-j.j + 1) c.args.key)
          (sym w.found-is)
          (counted_yes _ _ _ c.args.node c.loop-j.j c.args.key _ _ h k.seen k.loads (omega arith)
          k.value w.if-key_at-key.true)
      | else-key_at-key w ↦ subst
          (HasCountedKeys c.args.token.now.view c.key_at.new.token.view c.args.node
          (c.loop-j.j + 1) c.args.key)
          (sym w.found-is)
          (counted_no _ _ _ c.args.node c.loop-j.j c.args.key _ _ h k.seen k.loads (omega arith)
          k.value w.if-key_at-key.false)
    ]
