-- A caller has the same entries if none of its puts and removes was decided yes since. Serves the
-- entry law.
use Rattle.std.proofs.Common.{[], ap, arith, inl, inr, refl, ◌++◌, ◌∷◌, ◌≡◌, List, None, Option, Some, append-nil, false, length, length-append, option_map, sym, true, ℕ, ◌+◌, ◌==◌, ◌∙◌, ◌≢◌, ◌≤◌, ◌⊎◌}
use Rattle.ist_core.specs.declared.events.Event.{Event}
use Rattle.ist_core.specs.declared.commands.Command.{Command}
use Rattle.ist_core.specs.declared.events.Event.TheVariants.{Decide, Install}
use Rattle.ist_core.specs.declared.pairs.Pair.{Pair}
use Rattle.ist_core.specs.declared.states.ChangeRow.{ChangeRow}
use Rattle.ist_core.specs.LogTerms.{GoesOnBy, no_more, one_more, GoesOn, Happened, Log, one_event, same_log, CanOpen, EachEnabled, state_of}
use Rattle.ist_core.proofs.AllLogLemmas.{goes_on_length, goes_on-append, enabled_before, grow_between, grow_after, change_there, inner_there, leaf_there, rebuild_there, goes_on_by}
use Rattle.std.proofs.lemmas.Bool.Decides.{eqb_tells}
use Rattle.std.proofs.lemmas.List.Elements.{filter-append}
use Rattle.ist_core.specs.TreeTerms.{Entry, changes_of, command_of, entry_for, entry_of, AllResolvedOf, entries_by}
use Rattle.ist_core.specs.WordTerms.{Change, Inner, Leaf, Piece, Pieces, Rebuild, with_decision, start, decided_yes, undecided}
use Rattle.ist_core.proofs.AllWordLemmas.{changed_at-same, same_change, no_value}
use Rattle.laws_links.proofs.ChangeLemmas.{undecided_unresolved}
use Rattle.laws_histories.specs.Calls.{MadeNoEntry}
use Rattle.laws_histories.proofs.EffectLemmas.{took_effect}
use Rattle.laws_calls.specs.Accepting.{NoneAcceptedSince, WasAccepted, InstallsNoYes}
use Rattle.ist_core.proofs.CommandLemmas.{command_update}
use Rattle.laws_calls.proofs.OwnLemmas.{change_since}
use Rattle.laws_calls.specs.Owning.{HasChange, WasInstalled}

-- ---- events between two logs. Serves the laws on entries and on Counts.

-- an event that satisfies P, after one log and within a longer one
pub record Met (P : Event → Type 0) (rest log : Log) : Type 0 where
  pub event : Event
  pub here : P event
  pub before : Log
  pub since : GoesOn rest before
  pub until : GoesOn (event ∷ before) log

-- a longer log is its prefix with more events
pub events_after : (rest log : Log) → GoesOn rest log → (later : Log) × (log ≡ later ++ rest)
events_after rest _ same_log = ([], refl)
events_after rest _ (one_event {log = log} event on) =
    let it = events_after rest log on in (event ∷ it.0, ap (λ xs. event ∷ xs) it.1)

-- what happened in the newer part of a log is an event after the older part
pub happened_met : (P : Event → Type 0) (later rest : Log) → Happened P later
    → Met P rest (later ++ rest)
happened_met P [] rest none = absurd none
happened_met P (event ∷ later) rest (inl here) = record {
  event = event;
  here = here;
  before = later ++ rest;
  since = goes_on-append later rest;
  until = same_log;
}
happened_met P (event ∷ later) rest (inr there) = let it = happened_met P later rest there in
    record {
      event = it.event;
      here = it.here;
      before = it.before;
      since = it.since;
      until = one_event event it.until;
    }

-- an event of a longer log is its last event, or an earlier one
last_or_sooner : (P : Event → Type 0) (event last : Event) (before log : Log)
    → GoesOn (event ∷ before) (last ∷ log) → P last → (GoesOn (event ∷ before) log → P event)
    → P event
last_or_sooner P event _ before _ same_log here again = here
last_or_sooner P event _ before _ (one_event _ sooner) here again = again sooner

-- each event between is one by which the log went on
pub event_by : (P : Event → Type 0) (earlier log : Log) → GoesOnBy P earlier log → (event : Event)
    → (before : Log) → GoesOn earlier before → GoesOn (event ∷ before) log → P event
event_by P earlier _ no_more event before since until = grind (arith, goes_on_length)
event_by P earlier _ (one_more {log = log} last later p) event before since until =
    last_or_sooner P event last before log until p
    (λ sooner. event_by P earlier log later event before since sooner)

-- a list with one element more is longer
one_more_is_longer : (xs ys : List Entry) (entry : Entry) → xs ≡ ys → xs ≡ ys ++ entry ∷ [] → ⊥
one_more_is_longer xs ys entry same more = let a = ap length same in let b = ap length more in
    let c = length-append ys (entry ∷ []) in omega arith

-- as long a list is no longer by more than one
pub no_longer : (xs ys : List Entry) → xs ≡ ys → length xs ≤ length ys + 1
no_longer xs ys same = let a = ap length same in omega arith

module _ (pairs : List Pair) (words : ℕ) (opens : CanOpen pairs words) where
  -- ---- no yes makes no entry

  -- if each update that is accepted was accepted in an earlier log, that also holds for a prefix
  accepted_back : (earlier log : Log) (event : Event) (number : ℕ)
      → EachEnabled (start pairs words) (event ∷ log)
      → WasAccepted pairs words number earlier (event ∷ log)
      → WasAccepted pairs words number earlier log
  accepted_back earlier log event number h was base change command e own said is =
      let it = change_there (state_of pairs words log).pieces
      (state_of pairs words (event ∷ log)).pieces (grow_after pairs words log event h) base change
      e in
      was base it.0 command it.1 (ap (λ c. c.owner) it.2.others ∙ own)
      (it.2.decided (λ none. (let a = said in omega arith)) ∙ said) (ap command_of it.2.others ∙ is)

  -- a decision makes no entry of the caller
  no_entry : (earlier log : Log) → GoesOn earlier log → (caller base number : ℕ)
      → EachEnabled (start pairs words) (Decide caller base true ∷ log)
      → WasAccepted pairs words number earlier (Decide caller base true ∷ log)
      → (let ps = (state_of pairs words log).pieces in
      entries_by number (entry_of ps (ps base)) ≡ [])
  no_entry earlier log g caller base number h was =
      ap (entries_by number) (ap (entry_of ps) h.1.pending.published)
      ∙ at (command_of h.1.change) refl (eqb_tells h.1.change.owner number)
    where
      ps : Pieces
      ps = (state_of pairs words log).pieces

      at : (o : Option Command) → command_of h.1.change ≡ o
          → (((h.1.change.owner == number) ≡ true) × (h.1.change.owner ≡ number))
          ⊎ (((h.1.change.owner == number) ≡ false) × (h.1.change.owner ≢ number))
          → entries_by number (entry_for ps h.1.change (command_of h.1.change)) ≡ []
      at None is k = ap (λ o. entries_by number (entry_for ps h.1.change o)) is
      at (Some command) is (inr k) = grind (arith, ps)
      at (Some command) is (inl k) =
          let turned : ChangeRow = record (h.1.change) { decision = decided_yes } in
          let there = changed_at-same ps base (with_decision decided_yes)
          ∙ ap (option_map (with_decision decided_yes)) h.1.pending.published in
          let old = was base turned command there k.1 refl is in
          let it = change_there (state_of pairs words earlier).pieces ps
          (grow_between pairs words earlier log h.0 g) base old.0 old.1 in
          let same = same_change (ps base) it.0 h.1.change it.1 h.1.pending.published in
          let yes_still = it.2.decided (λ none. (let a = old.2 in omega arith)) ∙ old.2 in
          let unset = ap (λ c. c.decision) same ∙ h.1.pending.unset in absurd (omega arith)

  -- if each of its updates that is decided yes was already so, a caller made no entry
  pub no_yes_no_entry : (earlier log : Log) → GoesOn earlier log
      → EachEnabled (start pairs words) log → (number : ℕ)
      → WasAccepted pairs words number earlier log → MadeNoEntry pairs words number earlier log
  no_yes_no_entry earlier _ same_log h number was = refl
  no_yes_no_entry earlier _ (one_event {log = log} (Decide caller base true) g) h number was =
      let ps = (state_of pairs words log).pieces in
      filter-append (λ entry. entry.owner == number) (changes_of pairs words log)
      (entry_of ps (ps base))
      ∙ ap (λ es. entries_by number (changes_of pairs words log) ++ es)
      (no_entry earlier log g caller base number h was)
      ∙ append-nil (entries_by number (changes_of pairs words log))
      ∙ no_yes_no_entry earlier log g h.0 number (accepted_back earlier log
      (Decide caller base true) number h was)
  no_yes_no_entry earlier _ (one_event {log = log} event g) h number was =
      no_yes_no_entry earlier log g h.0 number (accepted_back earlier log event number h was)

  -- ---- no entry takes that there was no yes

  -- if a caller made no entry, each of its updates that is decided yes was already so
  pub no_entry_no_yes : (earlier log : Log) → GoesOn earlier log
      → EachEnabled (start pairs words) log → (number : ℕ)
      → MadeNoEntry pairs words number earlier log → WasAccepted pairs words number earlier log
  no_entry_no_yes earlier log g h number none base change command e own said is =
      at ((state_of pairs words earlier).pieces base) refl
    where
      Found : Type 0
      Found = (old : ChangeRow) × ((state_of pairs words earlier).pieces base ≡ Some (Change old))
          × (old.decision ≡ decided_yes)

      made : ((old : ChangeRow) → (state_of pairs words earlier).pieces base ≡ Some (Change old)
          → old.decision ≢ decided_yes) → ⊥
      made unsaid =
          let it = took_effect pairs words opens earlier log h g number 0 base change command e said
          own is unsaid (no_longer (entries_by number (changes_of pairs words log))
          (entries_by number (changes_of pairs words earlier)) none) in
          one_more_is_longer (entries_by number (changes_of pairs words log))
          (entries_by number (changes_of pairs words earlier)) _ none it.effect.alone

      other : (p : Piece) → ((old : ChangeRow) → Some p ≡ Some (Change old) → ⊥)
          → (state_of pairs words earlier).pieces base ≡ Some p → ⊥
      other p differs is_p = made (λ old f. absurd (differs old (sym is_p ∙ f)))

      at : (o : Option Piece) → (state_of pairs words earlier).pieces base ≡ o
          → (old : ChangeRow) × ((state_of pairs words earlier).pieces base ≡ Some (Change old))
          × (old.decision ≡ decided_yes)
      at None there = grind (arith, made)
      at (Some (Change old)) there = grind (arith, made, same_change, eqb_tells)
      at (Some (Leaf r)) there = absurd (other (Leaf r) (λ old q. cc) there)
      at (Some (Inner r)) there = absurd (other (Inner r) (λ old q. cc) there)
      at (Some (Rebuild r)) there = absurd (other (Rebuild r) (λ old q. cc) there)

  -- ---- if all changes were resolved

  -- if all its changes were resolved and no newer update is decided yes, a caller made no entry
  pub resolved_no_entry : (earlier log : Log) → GoesOn earlier log
      → EachEnabled (start pairs words) log → (number : ℕ)
      → AllResolvedOf (state_of pairs words earlier) earlier number
      → NoneAcceptedSince pairs words number earlier log
      → MadeNoEntry pairs words number earlier log
  resolved_no_entry earlier log g h number resolved since =
      no_yes_no_entry earlier log g h number was
    where
      was : WasAccepted pairs words number earlier log
      was base change command e own said is = at ((state_of pairs words earlier).pieces base) refl
        where
          clash : (p q : Piece) → (state_of pairs words log).pieces base ≡ Some q → Some q ≡ Some
              (Change change) → ⊥ → ⊥
          clash p q a b c = c

          now : (q : Piece) → (state_of pairs words log).pieces base ≡ Some q → q ≡ Change change
          now q f = let k : Some q ≡ Some (Change change) = sym f ∙ e in cc

          at : (o : Option Piece) → (state_of pairs words earlier).pieces base ≡ o
              → (old : ChangeRow) × ((state_of pairs words earlier).pieces base ≡ Some (Change old))
              × (old.decision ≡ decided_yes)
          at None there = absurd (since base change command there e own is said)
          at (Some (Leaf r)) there =
              let k = now (Leaf r) (leaf_there (state_of pairs words earlier).pieces
              (state_of pairs words log).pieces (grow_between pairs words earlier log h g) base r
              there) in absurd (cc)
          at (Some (Inner r)) there =
              let it = inner_there (state_of pairs words earlier).pieces
              (state_of pairs words log).pieces (grow_between pairs words earlier log h g) base r
              there in
              let k = now (Inner it.0) it.1 in absurd (cc)
          at (Some (Rebuild r)) there =
              let it = rebuild_there (state_of pairs words earlier).pieces
              (state_of pairs words log).pieces (grow_between pairs words earlier log h g) base r
              there in
              let k = now (Rebuild it.0) it.1 in absurd (cc)
          at (Some (Change old)) there =
              let it = change_there (state_of pairs words earlier).pieces
              (state_of pairs words log).pieces (grow_between pairs words earlier log h g) base old
              there in
              let same = same_change ((state_of pairs words log).pieces base) it.0 change it.1 e in
              let owner = ap (λ c. c.owner) (sym it.2.others) ∙ ap (λ c. c.owner) same ∙ own in
              let decided : old.decision ≢ undecided = grind (arith, undecided_unresolved, enabled_before) in
              (old, there, sym (it.2.decided decided) ∙ ap (λ c. c.decision) same ∙ said)

-- ---- if no update that was installed since is decided yes, no entry was made. Serves the entry law.

module _ (pairs : List Pair) (words : ℕ) (opens : CanOpen pairs words) where
  -- if all its changes were resolved and it installed no update that is decided yes, a caller made
  -- no entry
  pub installed_no_entry : (earlier log : Log) → EachEnabled (start pairs words) log → (number : ℕ)
      → GoesOnBy (InstallsNoYes (state_of pairs words log) number) earlier log
      → AllResolvedOf (state_of pairs words earlier) earlier number
      → MadeNoEntry pairs words number earlier log
  installed_no_entry earlier log h number later resolved =
      resolved_no_entry pairs words opens earlier log (goes_on_by later) h number resolved since
    where
      since : NoneAcceptedSince pairs words number earlier log
      since base change command none e own is said =
          by_origin (change_since pairs words earlier log (goes_on_by later) h base change e)
        where
          by_origin : HasChange (state_of pairs words earlier) base
              ⊎ WasInstalled earlier log change.owner base → ⊥
          by_origin (inl old) =
              no_value ((state_of pairs words earlier).pieces base) (Change old.0) none old.1
          by_origin (inr w) =
              event_by (InstallsNoYes (state_of pairs words log) number) earlier log later
              (Install change.owner base w.rows) w.at w.since w.until own change e
              (command_update change command is) said
