use Rattle.std.proofs.Common.{◌↔◌, ◌≡◌, ◌∙◌, IsTrue, sym, subst}
use Rattle.check_fairness.proofs.AnswerLemmas.{never}
use Rattle.check_builds.specs.Built.{key_of_leaf}
use Rattle.check_builds.proofs.PartCutLemmas.{keys_skip, keys_first, keys_some, rest_keys, none_begins, begins_so}
use Rattle.check_builds.proofs.ideals.+are_keys.Goals as goal

pub returns-then-end-eq0 : goal.returns-then-end-eq0
returns-then-end-eq0 t c =
    let whole = keys_skip c.args.n c.args.j c.args.left c.part_end-end.result c.args.leaves.now
    c.if-left-eq0.false c.part_end-end.ensures.value c.if-end-eq0.true in
    record {
      exact = subst (λ ks. IsTrue c.are_keys.result ↔ (c.args.keys.now ≡ ks)) (sym whole)
          c.are_keys.ensures.exact;
    }

pub returns-in-empty : goal.returns-in-empty
returns-in-empty t c =
    let whole = keys_some c.args.n c.args.j c.args.left c.part_end-end.result c.args.leaves.now
    c.if-left-eq0.false c.part_end-end.ensures.value c.if-end-eq0.false in
    record {
      exact = never (λ e. none_begins c.args.keys.now whole.0 whole.1 c.in-empty.len_below
          (e ∙ whole.2));
    }

pub returns-else-key : goal.returns-else-key
returns-else-key t c = let first = c.index-leaves-0.result in
    let whole = keys_first c.args.n c.args.j c.args.left c.part_end-end.result c.args.leaves.now
    c.if-left-eq0.false c.part_end-end.ensures.value first c.if-end-eq0.false
    c.index-leaves-0.is in
    record {
      exact = subst (λ ks. IsTrue c.are_keys-in-len1-up.result ↔ (c.args.keys.now ≡ ks)) (sym whole)
          (begins_so c.args.keys.now (key_of_leaf first) (rest_keys c.args.n c.args.j c.args.left
          c.part_end-end.result c.args.leaves.now c.if-left-eq0.false
          c.part_end-end.ensures.value) c.are_keys-in-len1-up.result c.in-len1-up.len_at_least
          (c.if-key.false ∙ c.key.ensures.value) c.are_keys-in-len1-up.ensures.exact);
    }
