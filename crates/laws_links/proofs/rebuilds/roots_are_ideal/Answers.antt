use Rattle.laws_links.proofs.ReplacingLemmas as roots
use Rattle.laws_links.proofs.rebuilds.roots_are_ideal.Goals as goal

pub returns : goal.returns
returns c = record {
  ideal = λ pairs words log caller base l change rebuild row e from there.
      roots.roots_are_ideal pairs words l.opens log caller base l.enabled change rebuild row e from there;
}
