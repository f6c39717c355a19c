-- A walk by one step down, the walk from there, and a Count on the way back. Serves `descend`.
use Rattle.std.proofs.Common.{◌≡◌, ◌≢◌, ℕ, List, [], ◌∷◌, ◌++◌, Option, Some, None, Result, Ok, Err, refl, sym, subst, arith}
use Rattle.ist_core.specs.declared.commands.Command.{Command}
use Rattle.ist_core.specs.declared.events.Event.{Event}
use Rattle.ist_core.specs.declared.pairs.Pair.{Pair}
use Rattle.ist_core.specs.declared.ports.Full.{Full}
use Rattle.ist_core.specs.TreeTerms.{CanCount, WasLinked}
use Rattle.ist_core.specs.LogTerms.{Log}
use Rattle.ist_core.specs.WordTerms.{InnerAt, ref_of, SlotHolds, start}
use Rattle.ist_core.proofs.AllWordLemmas.{word_of-ref_of}
use Rattle.ist_rule.specs.RuleTerms.{TokenFace, WentOn, now, GoesOnTo}
use Rattle.ist_rule.specs.declared.view.View.{View}
use Rattle.ist_rule.proofs.WentOnLemmas.{went_same, went_more, goes_on_went, later_by-goes_on}
use Rattle.laws_histories.proofs.PositionLemmas.{node_met}
use Rattle.laws_stability.proofs.LaterLemmas.{ever_later}
use Rattle.laws_calls.proofs.WalkLemmas.{meeting_comes}
use Rattle.ist_rows.specs.RowTerms.{StaysReady}
use Rattle.ist_rows.specs.declared.callers.Caller.{Caller}
use Rattle.ist_find.specs.Searches.{HasCome, Came}
use Rattle.ist_updates.specs.declared.updates.Applied.{Applied}
use Rattle.ist_updates.specs.declared.updates.Outcome.{Outcome}
use Rattle.ist_updates.specs.declared.updates.Outcome.TheVariants.{Took, Nothing, Unmet}
use Rattle.ist_updates.specs.Asking.{Updates, command_for, IsAsked}
use Rattle.ist_updates.specs.Refusals.{IsUpdateRefused}
use Rattle.ist_updates.specs.Trying.{Tries, BeganSince}
use Rattle.ist_updates.specs.Walking.{HasStood, HasCounted, HasTriedSince, IsAskedStill, IsNotThere, HasWalked}
use Rattle.ist_updates.proofs.NextRowLemmas.{may_count_next}
use Rattle.ist_updates.proofs.TriedWalkLemmas.{went_table}

-- a caller that went down by a load
module _ (old : Caller) (token : TokenFace) (g : GoesOnTo old.token.view token.view) where
  abbrev v : View
  v = old.token.view

  abbrev w : View
  w = token.view

  abbrev there : Caller
  there = record old { token = token }

  -- what holds for its table held for the table before
  back : (Q : List Pair → ℕ → Type 0) → Q w.start w.words → Q v.start v.words
  back Q h = grind arith

  -- what it reached from there, it reached from before
  pub went_before : (P : Event → Type 0) (u : View) → WentOn P w u → WentOn P v u
  went_before P u h = went_more P v w u (goes_on_went P v w g) h

  -- a caller that stayed ready after the step down stayed so in the whole walk
  pub on_before : (P : Event → Type 0) (new : Caller) → StaysReady P there new
      → StaysReady P old new
  on_before P new on = grind (arith, went_before)

  -- a caller that is still asked after the step down is still asked after the whole walk
  pub still_before : (new : Caller) (command : Command) → IsAskedStill there new command
      → IsAskedStill old new command
  still_before new command h = grind (arith, went_before)

  -- if there was nothing to remove after the step down, there was nothing in the whole walk
  pub not_there_before : (u : View) (key : ℕ) (value : Option ℕ) → IsNotThere w u key value
      → IsNotThere v u key value
  not_there_before u key value h = grind arith

  -- what holds for each first view of the later view's search holds for each of the earlier view's
  pub refused_before : (R : View → Type 0) → ((first : View) → BeganSince first w → R first)
      → (first : View) → BeganSince first v → R first
  refused_before R h first b = grind (arith, went_more, goes_on_went)

  tried_there : (first : View) → HasTriedSince first v old.number → HasTriedSince first w old.number
  tried_there first h = grind (arith, went_more, goes_on_went)

  -- a walk that ends at this node
  pub walked_here : (key : ℕ) (value : Option ℕ) (node words : ℕ) (result : Result (Option Outcome) Full)
      (new : Caller) → ((rows : List ℕ) → HasCome v key node rows → HasCome w key node rows)
      → HasWalked there key value node words result new
      → HasWalked old key value node words result new
  walked_here key value node words (Ok (Some (Took done))) new stays h =
      grind (arith, back, tried_there)
  walked_here key value node words (Ok (Some Nothing)) new stays h = (
    still_before new (command_for key value) h.0,
    not_there_before new.token.view key value h.1,
  )
  walked_here key value node words (Ok None) new stays h =
      still_before new (command_for key value) h
  walked_here key value node words (Ok (Some Unmet)) new stays h =
      still_before new (command_for key value) h
  walked_here key value node words (Err full) new stays h = (
    still_before new (command_for key value) h.0,
    refused_before (λ first. IsUpdateRefused first key value words full new.token.view) h.1,
  )

  -- a walk that took no effect from a row below took none from this node
  pub none_below : (key : ℕ) (value : Option ℕ) (node row words : ℕ) (new : Caller)
      (r : Result (Option Outcome) Full) → ((done : Applied) → r ≢ Ok (Some (Took done)))
      → HasWalked there key value row words r new → HasWalked old key value node words r new
  none_below key value node row words new (Ok (Some (Took done))) none h = absurd (none done refl)
  none_below key value node row words new (Ok (Some Nothing)) none h = (
    still_before new (command_for key value) h.0,
    not_there_before new.token.view key value h.1,
  )
  none_below key value node row words new (Ok None) none h =
      still_before new (command_for key value) h
  none_below key value node row words new (Ok (Some Unmet)) none h =
      still_before new (command_for key value) h
  none_below key value node row words new (Err full) none h = (
    still_before new (command_for key value) h.0,
    refused_before (λ first. IsUpdateRefused first key value words full new.token.view) h.1,
  )

  -- a walk that went on from a row below
  module _ (key : ℕ) (value : Option ℕ) (node index word row : ℕ)
      (a : IsAsked there (command_for key value)) (came : Came v key node)
      (down : (rows : List ℕ) → HasCome v key node rows → HasCome w key row (rows ++ row ∷ []))
      (stays : (rows : List ℕ) → HasCome v key node rows → HasCome w key node rows)
      (holds : SlotHolds (now w) node index word) (is : ref_of word ≡ Some (InnerAt row)) where
    module _ (words : ℕ) (below : Applied) (second : Caller)
        (number_is : second.number ≡ old.number) (went : WentOn Updates w second.token.view)
        (h : HasWalked there key value row words (Ok (Some (Took below))) second) where
      abbrev u : View
      u = second.token.view

      -- what was counted below, by the table and the number of the caller after it
      counted_there : (first : View) (rows : List ℕ) → HasTriedSince first w old.number
          → HasCome w key row rows
          → HasCounted u.start u.words first.log u.log second.number (command_for key value) rows below
      counted_there first rows since come = grind (arith, went_table)

      -- the row may be counted at
      pub may_count_there : CanCount (start u.start u.words) u.log second.number row
      may_count_there = let lawful = went.sound.lawful in
          may_count_next u.start u.words lawful.opens w.log u.log lawful.enabled second.number
          (command_for key value) came.0 row below
          (counted_there w (came.0 ++ row ∷ [])
          record { went = went_same Tries w g.sound; none_yet = a.none_yet } (down came.0 came.1))

      -- it stood in the slot of the node
      pub stood_there : HasStood u.start u.words u.log node index row
      stood_there = went_table Updates w u went (λ p n. HasStood p n u.log node index row)
          record {
            prefix = w.log;
            goes_on = later_by-goes_on went.later;
            stood = subst (SlotHolds (now w) node index)
                (sym (word_of-ref_of word (InnerAt row) is).same_word) holds;
            linked = grind (arith, ever_later, later_by-goes_on, linked);
          }
        where
          linked : WasLinked (start w.start w.words) w.log node
          linked = let here = stays came.0 came.1 in let lawful = g.sound.lawful in
              (node_met w.start w.words lawful.opens w.log lawful.enabled key w.loads.since here.last
              node (meeting_comes w.start w.words w.log key w.loads.since here.last node came.0
              here.comes)).linked

      -- and with the Count there the update was counted at one row more
      pub counted_here : (done : Applied) (last : Log)
          → ((earlier : Log) (command : Command) (rows : List ℕ)
          → HasCounted u.start u.words earlier u.log second.number command (rows ++ row ∷ []) below
          → HasCounted u.start u.words earlier last second.number command rows done)
          → (first : View) (rows : List ℕ) → HasTriedSince first v old.number
          → HasCome v key node rows
          → HasCounted v.start v.words first.log last old.number (command_for key value) rows done
      counted_here done last more first rows since come =
          let x = more first.log (command_for key value) rows
          (counted_there first (rows ++ row ∷ []) (tried_there first since) (down rows come)) in
          back (λ p n. HasCounted p n first.log last old.number (command_for key value) rows done)
          (back_there (λ p n. HasCounted p n first.log last old.number (command_for key value) rows
          done)
          (subst (λ n. HasCounted u.start u.words first.log last n (command_for key value) rows done)
          number_is x))
        where
          back_there : (Q : List Pair → ℕ → Type 0) → Q u.start u.words → Q w.start w.words
          back_there Q y = grind arith
