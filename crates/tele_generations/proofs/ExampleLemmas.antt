-- A turn of one lane on a small log. Serves `examples`.
use Rattle.std.proofs.Common.{zero, suc, [], ◌∷◌, None, refl, arith, All}
use Rattle.std.specs.List.Sorted.{IsStrictlyIncreasing}
use Rattle.std.proofs.lemmas.List.Sorted.{IsPermutation-refl}
use Rattle.ist_core.specs.declared.calls.Call.{Call}
use Rattle.ist_core.specs.declared.commands.Command.TheVariants.{Put}
use Rattle.ist_core.specs.TreeTerms.{map_of, StandsIn}
use Rattle.ist_core.specs.ExampleLogs.{put_resolved}
use Rattle.ist_core.proofs.PutExampleLemmas.{put_is_lawful}
use Rattle.laws_histories.specs.Telling.{map_now}
use Rattle.laws_histories.proofs.PositionLemmas.{put_changes}
use Rattle.tele_lanes.specs.Lines.{task_lines}
use Rattle.tele_generations.specs.Runs.{HasRun, RanOn}
use Rattle.tele_generations.specs.Turns.{IsUnderWay}
use Rattle.tele_generations.specs.ExampleTurns.{line_one, line_two, answer_one, one_run}
use Rattle.tele_generations.proofs.TurnLemmas.{lanes_turn}

-- the call of the put
abbrev the_call : Call
the_call = record { command = Put 1 1; reply = None; position = 0; stamp = 1 }

-- the call is in the log, as its one change
call_stands : StandsIn [] 15 put_resolved 0 (the_call ∷ [])
call_stands = grind (arith, put_changes)

-- the lane ran on the table
pub put_ran : RanOn [] 15 put_resolved 1 (line_one ∷ line_two ∷ []) (one_run ∷ [])
put_ran = record {
  some = omega arith;
  rising = rise;
  lanes = record { lanes = refl; ran = ran };
  rests = record {
    lawful = put_is_lawful;
    calls = (the_call ∷ []) ∷ [];
    told_are = refl;
    at_rest = refl;
    stand = (call_stands, tt);
  };
}
  where
    rise : IsStrictlyIncreasing (task_lines (line_one ∷ line_two ∷ []))
    rise zero h = omega arith
    rise (suc k) h = absurd (omega arith)

    ran : All HasRun (one_run ∷ [])
    ran zero d h = record { calls = refl; answers = refl; replies = refl }
    ran (suc k) d h = absurd (omega arith)

-- the round is under way, with the second line left
pub put_under_way : IsUnderWay (map_of []) (line_one ∷ line_two ∷ []) (answer_one ∷ [])
    (line_two ∷ []) (map_now [] 15 put_resolved)
put_under_way = lanes_turn [] 15 put_resolved 1 (line_one ∷ line_two ∷ []) (one_run ∷ []) put_ran
    (answer_one ∷ [])
    record { same = IsPermutation-refl (answer_one ∷ []); rising = λ k h. absurd (omega arith) }
    (line_two ∷ [])
    record { same = IsPermutation-refl (line_two ∷ []); rising = λ k h. absurd (omega arith) }
