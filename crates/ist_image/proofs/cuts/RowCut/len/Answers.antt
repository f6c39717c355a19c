use Rattle.std.proofs.Common.{◌+◌, ◌<◌, ◌≤◌, ◌∙◌, ap, subst, arith}
use Rattle.ist_core.proofs.AllWordLemmas.{longer_at, shorter_at, part_len-lt}
use Rattle.ist_image.proofs.cuts.RowCut.len.Goals as goal

-- the longer parts come first
pub returns-then-j-self-clause-value : goal.returns-then-j-self-clause-value
returns-then-j-self-clause-value c = let self = c.args.self.now in ap (λ s. s + 1) self.shares.0
    ∙ longer_at self.count c.args.j self.children self.degree
    (subst (λ r. c.args.j < r) self.shares.1 c.if-j-self.true)

pub returns-else-j-self-clause-value : goal.returns-else-j-self-clause-value
returns-else-j-self-clause-value c = let self = c.args.self.now in self.shares.0
    ∙ shorter_at self.count c.args.j self.children self.degree
    (subst (λ r. r ≤ c.args.j) self.shares.1 c.if-j-self.false)

pub returns-else-j-self-clause-fewer : goal.returns-else-j-self-clause-fewer
returns-else-j-self-clause-fewer c = let value = returns-else-j-self-clause-value c in
    omega (arith, value, part_len-lt c.args.self.now.count c.args.j c.args.self.now.several)
