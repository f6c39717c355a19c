-- A try of the whole walk, from its begin to its result. Serves `apply`.
use Rattle.std.proofs.Common.{◌≡◌, ℕ, List, [], length, Option, Some, None, Ok, sym, ap, ◌∙◌, subst, inl, arith}
use Rattle.ist_core.specs.declared.commands.Command.{Command}
use Rattle.ist_core.specs.declared.commands.Command.TheVariants.{Remove}
use Rattle.ist_core.specs.declared.pairs.Pair.{Pair}
use Rattle.ist_core.specs.declared.ports.Full.{Full}
use Rattle.ist_core.specs.LogTerms.{GoesOnBy}
use Rattle.ist_core.specs.WordTerms.{anchor}
use Rattle.ist_rule.specs.RuleTerms.{TokenFace, SearchedOn, WentOn, Turned, searching}
use Rattle.ist_rule.specs.declared.view.View.{View}
use Rattle.ist_rule.proofs.LaterLemmas.{goes_on_length}
use Rattle.ist_rule.proofs.SearchedOnLemmas.{searched_all, searched_more, searching_on, went_searched}
use Rattle.ist_rule.proofs.WentOnLemmas.{went_all, went_now, went_lawful, went_more, later_by-goes_on}
use Rattle.laws_calls.proofs.WalkLemmas.{met_chain}
use Rattle.ist_rows.specs.RowTerms.{IsCaller, IsQuiet}
use Rattle.ist_rows.specs.declared.callers.Caller.{Caller}
use Rattle.ist_find.specs.Searches.{HasCome}
use Rattle.ist_find.proofs.SearchLemmas.{begun_comes}
use Rattle.ist_updates.specs.declared.updates.Applied.{Applied}
use Rattle.ist_updates.specs.declared.updates.Due.{Due}
use Rattle.ist_updates.specs.declared.updates.Outcome.TheVariants.{Took}
use Rattle.ist_updates.specs.Asking.{Updates, command_for, IsAsked, MayEnd}
use Rattle.ist_updates.specs.Counting.{CountedNowhere, IsCounted, LeavesDue}
use Rattle.ist_updates.specs.Refusals.{IsUpdateRefused, WasRefused}
use Rattle.ist_updates.specs.Trying.{Tries, BeganSince}
use Rattle.ist_updates.specs.Walking.{HasStood, IsDueBy, HasCounted, HasTriedSince, IsAskedAgain, IsAskedStill, IsNotThere, HasWalked}
use Rattle.ist_updates.proofs.WayLemmas.{NoEvent, asked_searched, recounted}
use Rattle.ist_updates.proofs.MissLemmas.{taken_ends, nothing_ends}
use Rattle.ist_updates.proofs.OwnCountLemmas.{CountsNone, came_none, counted_nowhere}
use Rattle.ist_updates.proofs.TriedWalkLemmas.{went_table, tried_by}
use Rattle.ist_updates.proofs.StepLemmas.{tries_updates}

-- ---- the begin

-- the caller began a walk at the anchor, after walks of which none took effect
pub record HasBegunWalk (old who : Caller) (key : ℕ) (command : Command) : Type 0 where
  pub number : who.number ≡ old.number
  pub asked : IsAsked who command
  pub went : SearchedOn Tries old.token.view who.token.view
  pub come : HasCome who.token.view key anchor []
  pub since : who.token.view.loads.since ≡ length who.token.view.log

-- it does so by beginning a search
pub begun_walk : (old who : Caller) (token : TokenFace) (key : ℕ) (command : Command)
    → who.number ≡ old.number → IsAskedAgain old who command
    → Turned who.token.view (searching who.token.view) token.view
    → HasBegunWalk old (record who { token = token }) key command
begun_walk old who token key command number s t =
    grind (arith, asked_searched, searching_on, NoEvent, searched_more, begun_comes)

module _ (old who : Caller) (key : ℕ) (value : Option ℕ) (a : IsAsked old (command_for key value))
    (b : HasBegunWalk old who key (command_for key value)) where
  abbrev v : View
  v = who.token.view

  -- the caller as it was, as if it had begun as many searches
  abbrev was : Caller
  was = record old { token = record old.token { view = record old.token.view { searches = v.searches } } }

  abbrev first : View
  first = was.token.view

  -- ---- the end

  -- all steps were steps of an update
  pub all_went : (new : Caller) → WentOn Updates v new.token.view
      → WentOn Updates first new.token.view
  all_went new g =
      went_more Updates first v new.token.view (went_all Tries Updates tries_updates first v b.went.went) g

  -- apart from the searches that it began
  pub all_searched : (new : Caller) → WentOn Updates v new.token.view
      → SearchedOn Updates old.token.view new.token.view
  all_searched new g = searched_more Updates old.token.view v new.token.view
      (searched_all Tries Updates tries_updates old.token.view v b.went)
      (went_searched Updates v new.token.view g)

  -- a walk that took no effect leaves the caller as it was asked
  pub still_on : (new : Caller) → IsAskedStill who new (command_for key value)
      → IsAskedAgain old new (command_for key value)
  still_on new s = grind (arith, searched_more, went_searched)

  -- it was refused since the call began
  pub refused_first : (words : ℕ) (full : Full) (new : Caller)
      → ((before : View) → BeganSince before v
      → IsUpdateRefused before key value words full new.token.view)
      → WentOn Updates v new.token.view
      → WasRefused old.token.view key value words full new.token.view
  refused_first words full new h g = let none = ap (λ x. x.searches) g.same in
      subst (λ n. IsUpdateRefused (record old.token.view { searches = n }) key value words full
      new.token.view) (sym none)
      (h first record {
        went = went_all Tries Updates tries_updates first v b.went.went;
        since = grind (arith, goes_on_length, later_by-goes_on);
      })

  tried : HasTriedSince first v who.number
  tried = grind arith

  -- walks that took no effect counted nowhere
  pub still_due : (new : Caller) → IsAskedStill who new (command_for key value)
      → LeavesDue first new.token.view old.number None
  still_due new s = came_none first.start first.words first.log old.number new.token.view.log
      (subst (λ m. GoesOnBy (CountsNone m) first.log new.token.view.log) b.number
      (tried_by who (command_for key value) b.asked first tried new.token.view s.went))

  -- nowhere at all
  pub still_counted : (new : Caller) → IsAskedStill who new (command_for key value)
      → CountedNowhere first.log new.token.view.log old.number
  still_counted new s = counted_nowhere old.number first.log new.token.view.log
      (subst (λ m. GoesOnBy (CountsNone m) first.log new.token.view.log) b.number
      (tried_by who (command_for key value) b.asked first tried new.token.view s.went))

  -- ---- if it took effect

  module _ (new : Caller) (words : ℕ) (done : Applied) (g : WentOn Updates v new.token.view)
      (h : HasWalked who key value anchor words (Ok (Some (Took done))) new) where
    abbrev w : View
    w = new.token.view

    -- it was counted at each row
    took_counted : HasCounted first.start first.words first.log w.log old.number
        (command_for key value) [] done
    took_counted =
        subst (λ n. HasCounted first.start first.words first.log w.log n (command_for key value) []
        done) b.number
        (back (λ p n. HasCounted p n first.log w.log who.number (command_for key value) [] done)
        (h first [] tried b.come))
      where
        back : (Q : List Pair → ℕ → Type 0) → Q v.start v.words → Q first.start first.words
        back Q y = grind arith

    -- the update was counted at each row on the chain of its change
    pub took_is_counted : IsCounted first.start first.words first.log w.log old.number
        (command_for key value)
    took_is_counted = grind (arith, took_counted, went_lawful, met_chain)

    -- the call may end
    pub took_ends : IsCaller new → new.number ≡ who.number → IsQuiet new
        → MayEnd new (command_for key value) done.reply
    took_ends c same q =
        taken_ends was new (command_for key value) (recounted old (command_for key value) v.searches a) (all_went new g) [] done took_counted c
        (same ∙ b.number) q

    -- and the topmost row that reached its limit is returned
    pub took_due : LeavesDue old.token.view w old.number done.due
    took_due = due_told done.due took_counted.due
      where
        due_told : (due : Option Due)
            → IsDueBy first.start first.words first.log w.log old.number due
            → LeavesDue old.token.view w old.number due
        due_told None none = none
        due_told (Some due) d =
            let stood = went_table Updates first w (all_went new g)
            (λ p n. HasStood p n w.log due.parent due.index due.target) d.stood in
            record {
              may = record {
                prefix = stood.prefix;
                goes_on = stood.goes_on;
                stood = stood.stood;
                linked = stood.linked;
                row = d.row;
                published = grind (arith, went_now);
                due = inl d.is_due;
              };
              due = d.is_due;
              came = d.came;
              top = d.top;
            }

  -- ---- if there was nothing to remove

  module _ (new : Caller) (s : IsAskedStill who new (command_for key value))
      (n : IsNotThere v new.token.view key value) where
    -- if there was nothing to remove, the call may end with no value
    pub nothing_told : IsCaller new → new.number ≡ who.number → IsQuiet new
        → MayEnd new (command_for key value) None
    nothing_told c same q =
        let there : IsAsked who (Remove key) = subst (λ o. IsAsked who (command_for key o)) n.remove
        b.asked in
        let here : IsAsked new (Remove key) = subst (λ o. IsAsked new (command_for key o)) n.remove
        s.asked in
        subst (λ o. MayEnd new (command_for key o) None) (sym n.remove)
        (nothing_ends who new key there here s.went same b.since n.since n.found c q)
