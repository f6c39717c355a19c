use Rattle.std.proofs.Common.{inl, inr, ⊎_elim}
use Rattle.laws_links.proofs.FormedLemmas.{rooted_is_finished}
use Rattle.laws_links.proofs.RebuiltLemmas as rebuilt
use Rattle.laws_links.proofs.ReplacedLemmas.{replaced_unlinked}
use Rattle.laws_links.proofs.rebuilds.rebuilds_stand.Goals as goal

pub returns : goal.returns
returns c = record {
  stand = λ pairs words log l rebuild row e started.
      ⊎_elim (λ k. inl k) (λ r. inr record { word = r.word; holds = r.holds; reads = r.reads })
      (rebuilt.started_reads pairs words l.opens log l.enabled rebuild row e started);
  gone = λ pairs words log l rebuild row e replaced r.
      rebuilt.read_unreplaced pairs words l.opens log l.enabled rebuild row e record { word = r.word; holds = r.holds; reads = r.reads } replaced;
  out = λ pairs words log l rebuild row e replaced.
      replaced_unlinked pairs words l.opens log l.enabled replaced.base replaced.change replaced.published replaced.decision rebuild row replaced.from e;
  rooted = λ pairs words log l. rooted_is_finished pairs words log l.enabled;
}
