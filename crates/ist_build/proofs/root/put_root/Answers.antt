use Rattle.std.proofs.Common.{◌+◌, refl, sym, ap, ◌∙◌, arith}
use Rattle.ist_build.proofs.FewLemmas.{built_mine, none_exchanged}
use Rattle.ist_build.proofs.RootPutLemmas.{may_root}
use Rattle.ist_build.proofs.root.put_root.Goals as goal

-- the root that was made may be put in place
pub exchange_or_lose-stood-requires : goal.exchange_or_lose-stood-requires
exchange_or_lose-stood-requires c =
    let m = may_root _ _ _ _ c.requires.made.0.made (c.from-place.result + 3)
    (omega (arith, c.from-place.ensures)) in
    let low = m.low in let known = c.know.ensures.words in
    let same = ap (λ t. t.words) c.requires.made.1 in
    (c.requires.made.1, (omega arith, m.allowed _ c.to_word-unset.ensures.value))

pub returns-then-stood-unset : goal.returns-then-stood-unset
returns-then-stood-unset c = let x = c.exchange_or_lose-stood.ensures.exchanged in
    let mine = built_mine c.requires.made.0.old c.args.who.now c.requires.made.0.made.has_built in
    record {
      put = λ old made. (may_root _ _ _ _ made _ (omega (arith, c.from-place.ensures))).hit
          c.exchange_or_lose-stood.new.token (x.0 c.if-stood-unset.true);
      none = none_exchanged c.args.who.now c.exchange_or_lose-stood.new.token mine _ _ _ _ _ x refl refl;
    }

pub returns-else-stood-unset : goal.returns-else-stood-unset
returns-else-stood-unset c = let x = c.exchange_or_lose-stood.ensures.exchanged in
    let mine = built_mine c.requires.made.0.old c.args.who.now c.requires.made.0.made.has_built in
    record {
      put = λ old made. (may_root _ _ _ _ made _ (omega (arith, c.from-place.ensures))).missed
          c.exchange_or_lose-stood.new.token _
          (λ e. c.if-stood-unset.false (e ∙ sym c.to_word-unset.ensures.value))
          (x.1 c.if-stood-unset.false);
      none = none_exchanged c.args.who.now c.exchange_or_lose-stood.new.token mine _ _ _ _ _ x refl refl;
    }
