-- What an update knows stays so while its caller rebuilds: its call may end still, and its change
-- is counted. Serves `update`.
use Rattle.std.proofs.Common.{◌≡◌, ◌≢◌, ℕ, ◌⊎◌, List, Option, Some, sym, ap, ◌∙◌, subst, inl, inr, arith, length, refl}
use Rattle.ist_core.specs.declared.calls.Call.{Call}
use Rattle.ist_core.specs.declared.commands.Command.{Command}
use Rattle.ist_core.specs.declared.events.Event.{Event}
use Rattle.ist_core.specs.declared.events.Event.TheVariants.{Install}
use Rattle.ist_core.specs.declared.pairs.Pair.{Pair}
use Rattle.ist_core.specs.declared.states.ChangeRow.{ChangeRow}
use Rattle.ist_core.specs.declared.events.Who.TheVariants.{Caller as CallerOf}
use Rattle.ist_core.specs.LogTerms.{GoesOnBy, no_more, one_more, whose, LaterBy, EachEnabled, Lawful, state_of, GoesOn, Log, same_log, Later}
use Rattle.ist_core.specs.TreeTerms.{command_of, AllResolvedOf, IsUpdate, first_change}
use Rattle.ist_core.specs.WordTerms.{Change, start, decided_yes}
use Rattle.ist_core.proofs.AllLogLemmas.{enabled_before, grow_between, change_there}
use Rattle.laws_links.proofs.ComesLemmas.{change_comes}
use Rattle.laws_links.proofs.PassLemmas.{ChangeComes, change_was, is_decided, is_installed}
use Rattle.laws_histories.specs.Calls.{MadeNoEntry, HasCalls}
use Rattle.laws_histories.proofs.CallLemmas.{stand_on, keep_calls}
use Rattle.laws_calls.proofs.AcceptedLemmas.{resolved_no_entry}
use Rattle.laws_calls.specs.Accepting.{NoneAcceptedSince}
use Rattle.ist_rule.specs.RuleTerms.{CanEnd, IsResolved, WentOn, now, TokenFace, TurnedAt, beginning, IsSound, HasMade}
use Rattle.ist_rule.specs.declared.view.View.{View}
use Rattle.ist_core.proofs.AllWordLemmas.{no_value}
use Rattle.ist_core.proofs.CommandLemmas.{command_update}
use Rattle.ist_rule.proofs.LaterLemmas.{goes_on_more, later-goes_on}
use Rattle.ist_rule.proofs.WentOnLemmas.{later_by-goes_on, went_lawful}
use Rattle.ist_rows.specs.RowTerms.{StaysReady}
use Rattle.ist_rows.specs.declared.callers.Caller.{Caller}
use Rattle.laws_calls.specs.Walking.{IsChainOf}
use Rattle.ist_updates.specs.Asking.{MayEnd, IsAsked}
use Rattle.ist_updates.specs.Counting.{IsCounted}
use Rattle.ist_tree.specs.CallTerms.{Rebuilds, IsPass}
use Rattle.ist_tree.proofs.LoadingLemmas.{chain_on}
use Rattle.ist_tree.proofs.GoingLemmas.{between_after, has_its_calls, no_entry_after, IsLaterView, caller_on, lawful_after}
use Rattle.std.proofs.Math.Nat.{le_refl}

-- ---- no entries

-- the event installs no put or remove of the caller
abbrev InstallsNoUpdate : ℕ → Event → Type 0
InstallsNoUpdate caller (Install by base rows) =
    by ≡ caller → (change : ChangeRow) → first_change rows ≡ Some change → ¬ (IsUpdate change.kind)
InstallsNoUpdate caller _ = Unit {0}

-- what others do, and what rebuilding is, installs none
installs_no_update : (number : ℕ) (event : Event)
    → (whose event ≢ CallerOf number) ⊎ Rebuilds event → InstallsNoUpdate number event
installs_no_update number (Install by base rows) (inl other) = grind arith
installs_no_update number (Install by base rows) (inr p) = λ same. p
installs_no_update number _ p = tt

module _ (pairs : List Pair) (words : ℕ) where
  -- a put or remove of a caller that installs none stood there before
  update_was : (P : Event → Type 0) (earlier : Log) (number : ℕ)
      → ((event : Event) → P event → InstallsNoUpdate number event) → (log : Log)
      → GoesOnBy P earlier log → EachEnabled (start pairs words) log
      → (base : ℕ) (x : ChangeRow) → (state_of pairs words log).pieces base ≡ Some (Change x)
      → x.owner ≡ number → IsUpdate x.kind
      → (y : ChangeRow) × ((state_of pairs words earlier).pieces base ≡ Some (Change y))
  update_was P earlier number none _ no_more h base x e own up = (x, e)
  update_was P earlier number none _ (one_more {log = log} event later p) h base x e own up =
      at event (none event p) (change_comes pairs words log event h base x e)
      (λ y old mine kind. update_was P earlier number none log later h.0 base y old mine kind)
    where
      at : (event : Event) → InstallsNoUpdate number event
          → ChangeComes (start pairs words) log base x event
          → ((y : ChangeRow) → (state_of pairs words log).pieces base ≡ Some (Change y)
          → y.owner ≡ number → IsUpdate y.kind
          → (z : ChangeRow) × ((state_of pairs words earlier).pieces base ≡ Some (Change z)))
          → (z : ChangeRow) × ((state_of pairs words earlier).pieces base ≡ Some (Change z))
      at event nothing (change_was old) before = before x old own up
      at _ nothing (is_installed {caller = by} can is) before = absurd
          (nothing (sym can.owned ∙ ap (λ y. y.owner) (sym is) ∙ own) can.change
          (ap first_change can.rows_are)
          (subst (λ k. IsUpdate k) (ap (λ (y : ChangeRow). y.kind) is) up))
      at _ nothing (is_decided can is) before =
          before can.change can.pending.published (ap (λ y. y.owner) (sym is) ∙ own)
          (subst (λ k. IsUpdate k) (ap (λ (y : ChangeRow). y.kind) is) up)

-- a caller makes no entry while it rebuilds
pub rebuilt_no_entry : (v w : View) (number : ℕ) → v.who ≡ CallerOf number → IsResolved v number
    → WentOn Rebuilds v w → MadeNoEntry v.start v.words number v.log w.log
rebuilt_no_entry v w number mine resolved went = let lawful = went_lawful Rebuilds v w went in
    resolved_no_entry v.start v.words lawful.opens v.log w.log (later_by-goes_on went.later)
    lawful.enabled number resolved none
  where
    none : NoneAcceptedSince v.start v.words number v.log w.log
    none base change command fresh e own is said = let lawful = went_lawful Rebuilds v w went in
        let it = update_was v.start v.words
        (λ event. (whose event ≢ CallerOf number) ⊎ Rebuilds event) v.log number
        (installs_no_update number) w.log
        (subst (λ x. LaterBy x Rebuilds v.log w.log) mine went.later) lawful.enabled base change e
        own (command_update change command is) in
        no_value ((now v).pieces base) (Change it.0) fresh it.1

-- ---- a call that may end

-- so a call that may end may so still
pub can_end_on : (v w : View) (number : ℕ) (call : Call) → v.who ≡ CallerOf number
    → WentOn Rebuilds v w → IsResolved w number → CanEnd v call → CanEnd w call
can_end_on v w number call mine went resolved c =
    grind (arith, later_by-goes_on, rebuilt_no_entry, stand_on, goes_on_more)

-- a command that may end with a reply may do so after steps of rebuilding too
pub may_end_on : (old new : Caller) (command : Command) (reply : Option ℕ)
    → old.token.view.who ≡ CallerOf old.number → StaysReady Rebuilds old new
    → MayEnd old command reply → MayEnd new command reply
may_end_on old new command reply mine on m = grind (arith, can_end_on)

-- ---- a change that was counted

-- a change that isn't decided yes wasn't decided yes before
pub not_yes_before : (pairs : List Pair) (words : ℕ) (earlier before : Log) → GoesOn earlier before
    → EachEnabled (start pairs words) before → (base : ℕ)
    → ((change : ChangeRow) → (state_of pairs words before).pieces base ≡ Some (Change change)
    → change.decision ≢ decided_yes)
    → (change : ChangeRow) → (state_of pairs words earlier).pieces base ≡ Some (Change change)
    → change.decision ≢ decided_yes
not_yes_before pairs words earlier before g enabled base none change there said =
    grind (arith, change_there, grow_between)

-- what was counted in a part of a log was counted in all of it
pub counted_on : (pairs : List Pair) (words : ℕ) (earlier before log longer : Log)
    → GoesOn earlier before → GoesOn before log → GoesOn log longer → Lawful pairs words longer
    → (number : ℕ) (command : Command) → IsCounted pairs words before log number command
    → IsCounted pairs words earlier longer number command
counted_on pairs words earlier before log longer g on h lawful number command c =
    let it = change_there (state_of pairs words log).pieces (state_of pairs words longer).pieces
    (grow_between pairs words log longer lawful.enabled h) c.base c.change c.published in
    let same = it.2.others in let yes = c.decision in record {
      base = c.base;
      change = it.0;
      published = it.1;
      owned = ap (λ x. x.owner) same ∙ c.owned;
      command_is = ap command_of same ∙ c.command_is;
      decision = it.2.decided (λ none. omega arith) ∙ c.decision;
      since = not_yes_before pairs words earlier before g
          (enabled_before (start pairs words) before longer (goes_on_more on h) lawful.enabled)
          c.base c.since;
      rows = c.rows;
      chain = subst (λ node. IsChainOf pairs words longer node c.rows) (sym (ap (λ x. x.node) same))
          (chain_on pairs words log longer lawful h c.change.node c.rows c.chain);
      counted = λ row i.
          (let w = c.counted row i in
          record { at = w.at; since = goes_on_more g w.since; until = goes_on_more w.until h });
    }

-- ---- a put or a remove begins: nothing of it took effect yet. Serves `update`.

module _ (who : Caller) (token : TokenFace) (command : Command) (s : IsSound who.token.view)
    (p : IsPass who)
    (begun : TurnedAt who.token.view (beginning who.token.view (Some command)) token.view) where
  -- the view before the call
  abbrev v : View
  v = who.token.view

  -- the view when the call has begun
  abbrev b : View
  b = token.view

  later : Later (CallerOf who.number) v.log b.log
  later = subst (λ x. Later x v.log b.log) p.caller.mine begun.later

  -- the begun view is a later one
  pub begun_view : IsLaterView v b
  begun_view = grind (arith, later)

  -- its calls are placed in the log that it has seen by then
  pub begun_calls : HasCalls b.start b.words b.log who.number b.stamp b.calls
  begun_calls =
      grind (
        arith,
        keep_calls,
        later-goes_on,
        later,
        no_entry_after,
        lawful_after,
        begun_view,
        le_refl,
        has_its_calls,
      )

  -- the caller was asked
  pub begun_asked : IsAsked (record who { token = token }) command
  begun_asked = let it = caller_on who token p.caller p.refused begun_view in
      let between = between_after v who.number s p.caller.mine p.in_none b.log
      (lawful_after v b begun_view) later in
      record {
        caller = it.caller;
        refused = it.refused;
        pending = record { command = Some command; length = length b.log };
        in_call = ap (λ (y : View). y.pending) begun.view;
        command_is = refl;
        seen = b.log;
        goes_on = same_log;
        length_is = refl;
        had = begun_calls;
        resolved =
            subst (λ (y : View). AllResolvedOf (state_of y.start y.words b.log) b.log who.number)
            (sym begun.view) between.resolved;
        none_yet =
            subst (λ (y : View). HasMade y.start y.words b.log who.number y.calls) (sym begun.view)
            between.made;
      }
