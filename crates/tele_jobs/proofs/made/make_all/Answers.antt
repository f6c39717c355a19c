use Rattle.std.proofs.Common.{◌≡◌, ℕ, inl, inr, arith, sym, subst}
use Rattle.tele_io.specs.Bytes.{AppendsPart}
use Rattle.tele_io.proofs.AppendsLemmas.{AppendsPart-nothing}
use Rattle.tele_jobs.specs.Summaries.{summary_of, summary_text}
use Rattle.tele_jobs.specs.Causes.{IsCutShort}
use Rattle.tele_jobs.specs.declared.outcomes.TheConstants.{ANSWERED}
use Rattle.tele_jobs.proofs.made.make_all.Goals as goal
use Rattle.tele_jobs.proofs.made.make_all.Goals.{in-Ok+in-Ok-end_with_summary, in-Ok+in-Err-end_with_summary, in-Err}

-- a text that was written whole isn't cut short
not_cut : (status : ℕ) → status ≡ ANSWERED → IsCutShort status → ⊥
not_cut status is (inl failed) = omega (arith, is, failed)
not_cut status is (inr wanting) = omega (arith, is, wanting)

-- a part of the summary was written
pub returns-clause-part : goal.returns-clause-part
returns-clause-part g c cut = let was_cut = subst IsCutShort c.ended.ensures.status cut in
    let text = summary_text (summary_of c.args.count c.args.seed) in
    let before = g.O.Sink.written c.args.out.now in
    elim c.match-summarize.branch [
      | in-Ok+in-Ok-end_with_summary w ↦ absurd (not_cut _ w.status-is was_cut)
      | in-Ok+in-Err-end_with_summary w ↦
          subst (λ out. AppendsPart before (g.O.Sink.written out) text) (sym w.out-is)
          (subst (λ s. AppendsPart before (g.O.Sink.written w.end_with_summary.new.out)
          (summary_text s))
          w.in-Ok.ensures.value w.in-Err-end_with_summary.ensures.part)
      | in-Err w ↦ subst (λ out. AppendsPart before (g.O.Sink.written out) text) (sym w.out-is)
          (AppendsPart-nothing before text)
    ]
