use Rattle.ist_image.proofs.CutLemmas.{part_cut}
use Rattle.ist_image.proofs.cuts.RowCut.part.Goals as goal

-- the part begins where the code says, and ends where the next one begins
pub returns : goal.returns
returns c = let self = c.args.self.now in record {
  part = part_cut c.args.pairs.now self.count self.children c.args.j c.args.start _ self.several
      c.requires.cut self.degree c.requires.within c.requires.start c.next_start.ensures.value
      c.next_start.ensures.end;
}
