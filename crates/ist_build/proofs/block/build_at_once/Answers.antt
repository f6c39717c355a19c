use Rattle.std.proofs.Common.{length, rules, refl, sym, ap, ◌∙◌, subst, arith}
use Rattle.ist_rule.specs.RuleTerms.{word_count_of}
use Rattle.ist_rule.specs.declared.view.View.{View}
use Rattle.ist_build.specs.Laying.{AreNextRows}
use Rattle.ist_build.proofs.AtOnceLemmas.{BlockReady, placed_on, block_ready, later_built}
use Rattle.ist_build.proofs.BuiltLemmas.{loads_built, built_grow}
use Rattle.ist_build.proofs.KeyLemmas.{keys_on}
use Rattle.ist_build.proofs.ShareLemmas.{due_on}
use Rattle.ist_build.proofs.block.build_at_once.Goals as goal
use Rattle.ist_build.proofs.block.build_at_once.Goals.{After-from-next}

-- ---- few leaves

pub returns-then-leaves-lt2-clause-few : goal.returns-then-leaves-lt2-clause-few
returns-then-leaves-lt2-clause-few c two = let less = c.if-leaves-lt2.true in absurd (omega arith)

-- ---- if the rows fit

ready : (c : After-from-next)
    → BlockReady c.args.who.now c.reserve_shape.new.who c.args.leaves.now c.args.keys.now
    c.from-next.result
ready c =
    block_ready _ _ _ _ _ _ c.from-next.ensures c.know.ensures.sound c.requires.caller.0 c.if-leaves-lt2.false
    c.in-Some.ensures.same c.in-Some.ensures.reserved c.in-Some.ensures.taken c.requires.leaves c.requires.keys

pub lay-requires-clause-held : goal.lay-requires-clause-held
lay-requires-clause-held c = (ready (goal.at.lay-requires-clause-held c).After-from-next).held

pub lay-requires-clause-fresh : goal.lay-requires-clause-fresh
lay-requires-clause-fresh c = (ready (goal.at.lay-requires-clause-fresh c).After-from-next).fresh

pub lay-requires-clause-low : goal.lay-requires-clause-low
lay-requires-clause-low c = (ready (goal.at.lay-requires-clause-low c).After-from-next).low

pub lay-requires-clause-leaves : goal.lay-requires-clause-leaves
lay-requires-clause-leaves c = (ready (goal.at.lay-requires-clause-leaves c).After-from-next).leaves_are

pub lay-requires-clause-keys : goal.lay-requires-clause-keys
lay-requires-clause-keys c = (ready (goal.at.lay-requires-clause-keys c).After-from-next).keys_are

pub returns-in-Some : goal.returns-in-Some
returns-in-Some c = let e = c.lay.ensures in
    let b = (ready (goal.at.returns-in-Some c).After-from-next).laid _ _ _ e.written e.laid in
    record {
      caller = e.written.caller;
      number = search rules;
      rows = search rules;
      built = b.built;
      laid = b.laid;
      taken = b.taken;
      few = λ two. b.few;
      full = tt;
      refused = tt;
    }

-- ---- if they don't, only loads were made

pub build-requires-in-None : goal.build-requires-in-None
build-requires-in-None c = let g = c.in-None.ensures.none refl in let b = loads_built _ _ g in
    record {
      caller = (c.reserve_shape.ensures.caller, ap (λ (v : View). v.table) g.same ∙ c.requires.caller.1);
      due = λ two. subst (λ x. AreNextRows x (length c.args.leaves.now)) (sym c.in-None.ensures.same)
          (due_on c.args.who.now _ _ c.requires.caller.0 g (c.requires.due two));
      leaves = (c.requires.leaves.0, placed_on _ _ b _ _ c.requires.leaves.1);
      keys = keys_on _ _ (built_grow _ _ b) c.args.leaves.now c.args.keys.now c.requires.keys;
      many = c.requires.many;
      few = c.requires.few;
    }

pub returns-in-None : goal.returns-in-None
returns-in-None c = let e = c.build-in-None.ensures in let f = c.in-None.ensures in
    let o = later_built c.args.who.now c.reserve_shape.new.who c.build-in-None.new.who
    (word_count_of c.args.table.now) c.args.leaves.now c.requires.caller.0
    (sym (c.know.ensures.words ∙ ap (λ t. t.words) c.requires.caller.1)) (f.full refl) f.same (f.none refl)
    e.built c.build-in-None.result e.laid e.taken e.full in
    record {
      caller = e.caller;
      number = search rules;
      rows = search rules;
      built = o.built;
      laid = o.laid;
      taken = o.taken;
      few = λ two. o.few;
      full = o.full;
      refused = e.refused;
    }
