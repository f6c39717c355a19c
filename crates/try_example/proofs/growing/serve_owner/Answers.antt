use Rattle.ist_map.specs.Scripts.{told_in}
use Rattle.try_example.proofs.OwnerLemmas.{told_none, none_told, reads_own}
use Rattle.try_example.proofs.growing.serve_owner.Goals as goal

-- nothing was told before, and the calls are one history
pub returns : goal.returns
returns g c = record {
  reads = reads_own _ _ _ _ c.args.key c.serve.ensures.one
      (none_told (λ h. told_in h.worker.commands h.worker.replies) _
      (λ k d low. told_none _ _ (c.requires.begin k d low)))
      c.owners_read_back.ensures.reads;
}
