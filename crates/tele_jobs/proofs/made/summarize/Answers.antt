use Rattle.std.proofs.Common.{◌+◌, ℕ, List, Option, refl, sym, ◌∙◌, ap, subst, length}
use Rattle.tele_jobs.specs.Summaries.{value_sum}
use Rattle.tele_jobs.specs.Open.{Open, map_in}
use Rattle.tele_jobs.proofs.MadeLemmas.{Sums, sums_first, sums_asked, sums_closed, sums_last, summary_is}
use Rattle.tele_jobs.proofs.OpenLemmas.{open_more}
use Rattle.tele_jobs.proofs.MadeRoundLemmas.{RunsMade, made_first, made_asked, made_closed, made_last, still_few}
use Rattle.tele_jobs.proofs.made.summarize.Goals as goal
use Rattle.tele_jobs.proofs.made.summarize.Goals.{then-is_full+in_ok-found, else-is_full}

-- before the first line
pub loop-line-init : goal.loop-line-init
loop-line-init g c = record {
  sums = sums_first _ _ _ _ _ _ c.new-maker.ensures.value c.requires.fresh;
  runs = made_first _ _ c.args.count c.args.seed _ _ _ c.new-maker.ensures.value c.requires.fresh;
}

-- the lines of the tasks are strictly increasing
pub answer_made-requires-clause-rising : goal.answer_made-requires-clause-rising
answer_made-requires-clause-rising g c κs within =
    (open_more (c.loop-line.line + 1) c.loop-line.round c.ask.new.self _ refl
    c.in_ok-ask.ensures.asked c.loop-line.invariant.runs.lines).rises κs within

-- one more line, and the round is answered if it ends there
pub loop-line-preserved : goal.loop-line-preserved
loop-line-preserved g c = let asks = c.in_ok-ask.ensures in let was = c.loop-line.invariant in
    let before = g.H.Shelf.kept c.args.shelf.now in
    let sums = sums_asked _ _ c.loop-line.line _ c.make.new.self _ c.loop-line.round c.ask.new.self
    _ c.loop-line-test.true
    c.make.ensures.value c.make.ensures.next asks.asked was.sums in
    let S = λ (found : ℕ) (now : Open). Sums c.args.count c.args.seed (c.loop-line.line + 1)
    c.make.new.self found now in
    let R = λ (kept : Option (List (List ℕ))) (now : Open). RunsMade c.args.round.now.team
    c.args.round.now.words c.args.count c.args.seed
    (c.loop-line.line + 1) c.make.new.self before kept now in
    elim c.if-is_full.branch [
      | then-is_full+in_ok-found w ↦ let met = w.in_ok-found.ensures in
          let new = w.answer_made.new.round in record {
            sums = subst (S c.if-is_full.found) (sym w.round-is)
                (sums_closed _ _ _ _ _ w.in_ok-found.field-0 _ c.ask.new.self new met.found met.few
                met.following met.none
                w.found-is sums);
            runs = subst (R (g.H.Shelf.kept c.if-is_full.shelf)) (sym w.round-is) (subst (λ k. R k
                new) (ap g.H.Shelf.kept (sym w.shelf-is))
                (made_closed _ _ _ _ before c.loop-line.line _ _ _ c.loop-line.round c.ask.new.self
                _ c.loop-line-test.true refl
                c.make.ensures.value c.make.ensures.next asks.asked was.runs new _
                (c.is_full.ensures.value.0 w.if-is_full.true) met.ran met.none met.few_pairs));
          }
      | else-is_full w ↦ let mid = c.ask.new.self in record {
        sums = subst (S c.if-is_full.found) (sym w.round-is) (subst (λ f. S f mid) (sym
            w.found-is) sums);
        runs = subst (R (g.H.Shelf.kept c.if-is_full.shelf)) (sym w.round-is) (subst (λ k. R k
            mid) (ap g.H.Shelf.kept (sym w.shelf-is))
            (made_asked _ _ _ _ before c.loop-line.line _ _ _ c.loop-line.round mid _
            c.loop-line-test.true refl c.make.ensures.value c.make.ensures.next asks.asked was.runs
            (still_few c.loop-line.round mid _ _ asks.asked was.runs.few
            c.is_full.ensures.value.1 w.if-is_full.false)));
      }
    ]

-- all rounds
pub returns-clause-ran : goal.returns-clause-ran
returns-clause-ran g c =
    made_last _ _ c.args.count c.args.seed _ c.loop-line.line _ _ c.loop-line.round _ _
    c.loop-line-test.false c.loop-line.invariant.runs c.in_ok-found-2.ensures.ran

-- the summary
pub returns-clause-value : goal.returns-clause-value
returns-clause-value g c = let met = c.in_ok-found-2.ensures in
    let last = c.answer_made-2.new.round in let line = c.loop-line.line in
    let sums = sums_closed c.args.count c.args.seed line c.loop-line.maker _ c.in_ok-found-2.field-0
    _ c.loop-line.round last
    met.found met.few met.following met.none refl c.loop-line.invariant.sums in
    let all = sums_last c.args.count c.args.seed line c.loop-line.maker _ last
    c.loop-line-test.false met.none sums in
    summary_is c.args.count c.args.seed _ _ _ (map_in last) all.1 (ap length c.pairs.ensures.value)
    all.0 (c.sum_of.ensures.value ∙ ap value_sum c.pairs-2.ensures.value)
