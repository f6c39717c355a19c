use Rattle.std.proofs.Common.{◌≡◌, ◌∙◌, None, All, rules, refl, sym, arith}
use Rattle.ist_map.proofs.HandLemmas.{any_refused, passed_on, stops, stops_here, all_unasked, one_asked}
use Rattle.ist_map.proofs.RunLemmas.{run_none, one_more, underway_more}
use Rattle.ist_map.proofs.running.Map.run_until.Goals as goal

-- no tree yet
pub loop-hands-init : goal.loop-hands-init
loop-hands-init g c = record {
  few = c.requires.few;
  underway = run_none _ _ _ _ c.know.ensures.stands;
}

-- no tree was opened, over the words that the last one left
pub returns-in_err-run_once-clause-fault : goal.returns-in_err-run_once-clause-fault
returns-in_err-run_once-clause-fault g c =
    passed_on c.from_residual.result _ _ c.from_residual.ensures.1
    (stops_here (λ h. g.W.Worker.told h.worker) (λ h. h.refused) _ _ _ _ _ _ _ _ _ _ _
    c.loop-hands.invariant.underway c.in_err-run_once.ensures.fault
    c.in_err-run_once.ensures.unchanged c.in_err-run_once.ensures.kept
    c.in_err-run_once.ensures.idle)

pub returns-in_err-run_once-clause-ran : goal.returns-in_err-run_once-clause-ran
returns-in_err-run_once-clause-ran g c =
    (stops_here (λ h. g.W.Worker.told h.worker) (λ h. h.refused) _ _ _ _ _ _ _ _ _ _ _
    c.loop-hands.invariant.underway c.in_err-run_once.ensures.fault
    c.in_err-run_once.ensures.unchanged c.in_err-run_once.ensures.kept
    c.in_err-run_once.ensures.idle).ran

-- one tree more, on which none was refused
pub returns-then-not-has_refused-clause-ran : goal.returns-then-not-has_refused-clause-ran
returns-then-not-has_refused-clause-ran g c =
    one_more _ _ _ _ _ _ _ _ _ _ _ _ c.loop-hands.invariant.underway c.in_ok-run_once.ensures.ran

-- all are done on it if none stopped by request, and else one did
pub returns-then-not-has_refused-clause-done : goal.returns-then-not-has_refused-clause-done
returns-then-not-has_refused-clause-done g c none k d low =
    let unrefused : All (λ h. h.refused ≡ None) c.run_once.new.hands = search rules in
    c.in_ok-run_once.ensures.done k d low (unrefused k d low)
    (all_unasked (λ h. h.stopped) c.run_once.new.hands (sym c.left.ensures.value ∙ none) k d low)

pub returns-then-not-has_refused-clause-left : goal.returns-then-not-has_refused-clause-left
returns-then-not-has_refused-clause-left g c some =
    one_asked (λ h. h.stopped) c.run_once.new.hands (λ none. some (c.left.ensures.value ∙ none))

-- one tree more, and none may have more words
pub returns-in_err-words-clause-fault : goal.returns-in_err-words-clause-fault
returns-in_err-words-clause-fault g c =
    passed_on c.from_residual-in_err-words.result _ _ c.from_residual-in_err-words.ensures.1
    (stops _ _ _ _ _ _ _ _ _
    (underway_more _ _ _ _ _ _ _ _ _ _ _ _ c.loop-hands.invariant.underway
    c.in_ok-run_once.ensures.ran
    (any_refused (λ h. h.refused) c.run_once.new.hands (search rules)) _ refl)
    (c.in_err-words.ensures.fault c.run_once.new.self.closed))

pub returns-in_err-words-clause-ran : goal.returns-in_err-words-clause-ran
returns-in_err-words-clause-ran g c =
    one_more _ _ _ _ _ _ _ _ _ _ _ _ c.loop-hands.invariant.underway c.in_ok-run_once.ensures.ran

-- the next tree has more words, and the last one no more than the most
pub loop-hands-smaller : goal.loop-hands-smaller
loop-hands-smaller g c = let more = c.in_ok-run_once.ensures.more in
    let within = c.in_ok-run_once.ensures.within in
    let less = c.in_ok-words.ensures.more c.in_ok-run_once.ensures.some in omega arith

pub loop-hands-preserved : goal.loop-hands-preserved
loop-hands-preserved g c = record {
  few = search rules;
  underway = underway_more _ _ _ _ _ _ _ _ _ _ _ _ c.loop-hands.invariant.underway
      c.in_ok-run_once.ensures.ran (any_refused (λ h. h.refused) c.run_once.new.hands (search rules)) _
      c.in_ok-words.ensures.next;
}
