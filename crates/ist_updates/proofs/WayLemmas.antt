-- The slot to which a key leads, and what was met there. Serves the functions of `trying`.
use Rattle.std.proofs.Common.{◌≡◌, ◌≢◌, ℕ, List, Some, refl, sym, ap, ◌∙◌, subst, arith, inl, inr}
use Rattle.ist_core.specs.declared.pairs.Pair.{Pair}
use Rattle.ist_core.specs.declared.states.LeafRow.{LeafRow}
use Rattle.ist_core.specs.declared.commands.Command.{Command}
use Rattle.ist_core.specs.declared.events.Event.{Event}
use Rattle.ist_core.specs.declared.events.Who.{Who}
use Rattle.ist_core.specs.declared.events.Who.TheVariants.{Caller as CallerOf}
use Rattle.ist_core.specs.LogTerms.{Lawful, state_of, GoesOn, Log, no_more, one_more, Later, LaterBy}
use Rattle.ist_core.specs.TreeTerms.{Leads}
use Rattle.ist_core.specs.WordTerms.{Leaf, LeafAt, ref_of, start}
use Rattle.ist_core.proofs.AllLogLemmas.{grow_between, child_remains, leaf_there, rebuild_there}
use Rattle.ist_core.proofs.AllPlaceLemmas.{IsRebuildFor}
use Rattle.ist_core.proofs.AllWordLemmas.{same_leaf}
use Rattle.laws_stability.proofs.LaterLemmas.{ever_later}
use Rattle.ist_rule.specs.RuleTerms.{now, IsSound, TokenFace, SearchedOn, WentOn, HasMade}
use Rattle.ist_rule.specs.declared.view.View.{View}
use Rattle.ist_rule.proofs.EventLemmas.{goes_on_same}
use Rattle.ist_rule.proofs.LaterLemmas.{goes_on_more, later-goes_on}
use Rattle.ist_rule.proofs.WentOnLemmas.{goes_on_grow, later_by-goes_on, went_all, went_lawful}
use Rattle.laws_histories.proofs.ChangeLemmas.{at_prefix, at_rises}
use Rattle.ist_find.specs.Searches.{Names, SeesLeaf}
use Rattle.ist_updates.specs.declared.plans.Aim.{Aim}
use Rattle.ist_updates.specs.Changing.{WasAtSlot}
use Rattle.ist_updates.specs.Refusals.{IsOnWay, LeadsToSlot, MetOtherLeaf}
use Rattle.ist_updates.specs.Trying.{BeganSince, IsAtSlot}
use Rattle.ist_updates.proofs.PlanLemmas.{slot_met}
use Rattle.ist_rule.proofs.CallLemmas.{between_later}
use Rattle.ist_rows.specs.RowTerms.{KeepsRows, InstallsNone}
use Rattle.ist_rows.specs.declared.callers.Caller.{Caller}
use Rattle.ist_rows.proofs.CallerLawLemmas.{caller_went, refused_went, resolved_went}
use Rattle.ist_updates.specs.Asking.{IsAsked}
use Rattle.ist_updates.proofs.TriedWalkLemmas.{went_table}

-- a key leads to the slot in each longer log
pub leads_on : (pairs : List Pair) (words : ℕ) (log longer : Log) → Lawful pairs words longer
    → GoesOn log longer → (key node index : ℕ) → LeadsToSlot pairs words log key node index
    → LeadsToSlot pairs words longer key node index
leads_on pairs words log longer lawful g key node index l = record {
  led = ever_later (start pairs words) (λ t. Leads t key node) g l.led;
  child = child_remains (state_of pairs words log) (state_of pairs words longer)
      (grow_between pairs words log longer lawful.enabled g) node key index l.child;
}

-- a rebuild on the key's way is so in each longer log
pub way_longer : (pairs : List Pair) (words : ℕ) (log longer : Log) → Lawful pairs words longer
    → GoesOn log longer → (key rebuild : ℕ) → IsOnWay pairs words log key rebuild
    → IsOnWay pairs words longer key rebuild
way_longer pairs words log longer lawful g key rebuild w =
    let it = rebuild_there (state_of pairs words log).pieces (state_of pairs words longer).pieces
    (grow_between pairs words log longer lawful.enabled g) rebuild w.row w.published in
    record {
      row = it.0;
      published = it.1;
      leads = subst (λ n. LeadsToSlot pairs words longer key n it.0.index) (sym it.2.parent)
          (subst (λ i. LeadsToSlot pairs words longer key w.row.parent i) (sym it.2.index)
          (leads_on pairs words log longer lawful g key w.row.parent w.row.index w.leads));
    }

-- a leaf of another key that was met between two logs was met between wider ones
pub met_wider : (pairs : List Pair) (words : ℕ) (a b c d : Log) → GoesOn a b → GoesOn c d → (key : ℕ)
    → MetOtherLeaf pairs words b c key → MetOtherLeaf pairs words a d key
met_wider pairs words a b c d g h key m = record {
  at = m.at;
  since = goes_on_more g m.since;
  until = goes_on_more m.until h;
  node = m.node;
  index = m.index;
  leads = m.leads;
  word = m.word;
  holds = m.holds;
  base = m.base;
  names = m.names;
  other = m.other;
  leaf = m.leaf;
  differs = m.differs;
}

-- ---- at the slot

-- a caller at the slot has made no step since it was there
pub slot_here : (v : View) (aim : Aim) → IsSound v
    → IsAtSlot v aim.key aim.node aim.index aim.word → WasAtSlot v aim
slot_here v aim s at = record { before = v; at = at; sound = s; seen = goes_on_same v s }

module _ (v : View) (aim : Aim) (at : WasAtSlot v aim) where
  abbrev b : View
  b = at.before

  -- the key leads to the slot
  pub slot_leads : LeadsToSlot b.start b.words b.log aim.key aim.node aim.index
  slot_leads = record { led = (slot_met b aim (slot_here b aim at.sound at.at)).led; child = at.at.child }

  b_to_v : GoesOn b.log v.log
  b_to_v = later-goes_on at.seen.later

  module _ (first : View) (began : BeganSince first v) where
    -- since a search that began after the first view
    first_to_b : GoesOn first.log b.log
    first_to_b = grind (arith, later_by-goes_on, at_prefix, at_rises)

    -- the slot held a leaf of another key
    pub met_other : (w : View) → GoesOn v.log w.log → (base : ℕ) (row : LeafRow)
        → ref_of aim.word ≡ Some (LeafAt base) → (now v).pieces base ≡ Some (Leaf row)
        → row.key ≢ aim.key → MetOtherLeaf first.start first.words first.log w.log aim.key
    met_other w on base row is stands differs =
        subst (λ p. MetOtherLeaf p first.words first.log w.log aim.key)
        (sym (ap (λ (x : View). x.start) at.seen.same) ∙ ap (λ (x : View). x.start) began.went.same)
        (subst (λ n. MetOtherLeaf b.start n first.log w.log aim.key)
        (sym (ap (λ (x : View). x.words) at.seen.same) ∙ ap (λ (x : View). x.words) began.went.same)
        here)
      where
        seen : SeesLeaf b base
        seen = subst (Names b) is at.at.names

        same : seen.row ≡ row
        same = same_leaf ((now v).pieces base) seen.row row
            (leaf_there (now b).pieces (now v).pieces (goes_on_grow b v at.seen) base seen.row
            seen.published) stands

        here : MetOtherLeaf b.start b.words first.log w.log aim.key
        here = record {
          at = b.log;
          since = first_to_b;
          until = goes_on_more b_to_v on;
          node = aim.node;
          index = aim.index;
          leads = slot_leads;
          word = aim.word;
          holds = at.at.holds;
          base = base;
          names = is;
          other = seen.row.key;
          leaf = record { row = seen.row; published = seen.published; key_is = refl };
          differs = subst (λ (x : LeafRow). x.key ≢ aim.key) (sym same) differs;
        }

-- a rebuild in the slot is on the key's way
pub slot_on_way : (v : View) → IsSound v → (key node index word rebuild : ℕ)
    → IsAtSlot v key node index word → IsRebuildFor (now v).pieces node index rebuild
    → IsOnWay v.start v.words v.log key rebuild
unfolding slot_here
slot_on_way v s key node index word rebuild at named =
    let aim : Aim = record { node = node; index = index; word = word; key = key } in
    let leads = slot_leads v aim (slot_here v aim s at) in record {
      row = named.row;
      published = named.published;
      leads = subst (λ n. LeadsToSlot v.start v.words v.log key n named.row.index) (sym named.parent)
          (subst (λ i. LeadsToSlot v.start v.words v.log key node i) (sym named.index) leads);
    }

-- ---- a caller that was asked an update is still asked it after loads, and after it began a search.
-- Serves `descend` and `apply`.

-- no event
abbrev pub NoEvent : Event → Type 0
NoEvent event = ⊥

-- a log that went on without own events went on by others
pub by_others : {who : Who} {a b : Log} → LaterBy who NoEvent a b → Later who a b
by_others no_more = no_more
by_others (one_more event l (inl other)) = one_more event (by_others l) other
by_others (one_more event l (inr none)) = absurd none

module _ (who : Caller) (token : TokenFace) (command : Command) (a : IsAsked who command)
    (g : WentOn NoEvent who.token.view token.view) where
  abbrev v : View
  v = who.token.view

  abbrev w : View
  w = token.view

  -- what is true of any event
  by_none : (P : Event → Type 0) → WentOn P v w
  by_none P = went_all NoEvent P (λ event none. absurd none) v w g

  later : Later (CallerOf who.number) v.log w.log
  later = by_others (subst (λ x. LaterBy x NoEvent v.log w.log) a.caller.mine g.later)

  made : HasMade v.start v.words w.log who.number v.calls
  made =
      (between_later v.start v.words who.number v.calls v.log w.log
      (went_lawful NoEvent v w g).enabled later
      record { made = a.none_yet; resolved = a.resolved }).made

  stamp_is : w.stamp ≡ v.stamp
  stamp_is = ap (λ x. x.stamp) g.same

  calls_are : w.calls ≡ v.calls
  calls_are = ap (λ x. x.calls) g.same

  -- the caller is still asked
  pub asked_went : IsAsked (record who { token = token }) command
  asked_went = record {
    caller = caller_went who token a.caller (by_none KeepsRows);
    refused = refused_went who token a.caller a.refused (by_none KeepsRows);
    pending = a.pending;
    in_call = ap (λ x. x.pending) g.same ∙ a.in_call;
    command_is = a.command_is;
    seen = a.seen;
    goes_on = goes_on_more a.goes_on (later_by-goes_on g.later);
    length_is = a.length_is;
    had = grind (arith, went_table, calls_are, stamp_is);
    resolved = resolved_went v w who.number a.caller.mine a.resolved (by_none InstallsNone);
    none_yet = grind (arith, went_table, calls_are, made);
  }

-- what is asked doesn't depend on how many searches the caller began
pub recounted : (who : Caller) (command : Command) (n : ℕ) → IsAsked who command
    → IsAsked (record who { token = record who.token { view = record who.token.view { searches = n } } }) command
recounted who command n a = grind arith

-- a search that is begun leaves the caller as it was asked
pub asked_searched : (who : Caller) (token : TokenFace) (command : Command) → IsAsked who command
    → SearchedOn NoEvent who.token.view token.view → IsAsked (record who { token = token }) command
asked_searched who token command a g = let n = token.view.searches in
    asked_went (record who { token = record who.token { view = record who.token.view { searches = n } } })
    token command (recounted who command n a) g.went
