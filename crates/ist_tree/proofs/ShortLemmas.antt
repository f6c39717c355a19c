-- Starts and helps that were refused because too few words were left. Serves `rebuild_due` and
-- `freeze`.
use Rattle.std.proofs.Common.{◌≡◌, ℕ, ◌+◌, ◌<◌, List, Option, Some, sym, ap, ◌∙◌, subst, ◌≤◌, length, filter, arith, length-append, Result, Ok, Err}
use Rattle.std.specs.Prelude.{IfSome, OnOk}
use Rattle.ist_core.specs.declared.events.Event.{Event}
use Rattle.ist_core.specs.declared.pairs.Pair.{Pair}
use Rattle.ist_core.specs.declared.ports.Full.{Full}
use Rattle.ist_core.specs.TreeTerms.{AllGrow, Entry, changes_of, IsFinishedWith}
use Rattle.ist_core.specs.LogTerms.{Log, shown_next, Snapshot, spent, GoesOn}
use Rattle.ist_core.specs.WordTerms.{RebuildAt, ref_of, SlotHolds, past_change, start}
use Rattle.ist_core.proofs.AllLogLemmas.{rebuild_there, words_are_spent}
use Rattle.ist_core.proofs.AllPlaceLemmas.{IsRebuildFor, SlotNames, slot_names, names}
use Rattle.laws_links.proofs.FinishedLemmas.{target_grows}
use Rattle.laws_links.proofs.FormLemmas.{replaced_grows, started_grows, finished_with_grows}
use Rattle.laws_links.proofs.RebuiltLemmas.{read_unreplaced}
use Rattle.ist_rule.specs.RuleTerms.{WentOn, now, IsSound, TokenFace, GoesOnTo, TurnedAt, beginning_read}
use Rattle.ist_rule.specs.declared.view.View.{View}
use Rattle.ist_rule.proofs.WentOnLemmas.{went_grow}
use Rattle.ist_rebuild.specs.Going.{Begins, ServesRebuild}
use Rattle.ist_rows.specs.RowTerms.{LeavesTooFew, RanShort, IsCaller}
use Rattle.ist_rows.specs.declared.callers.Caller.{Caller}
use Rattle.ist_rows.proofs.ShortLemmas.{left_as}
use Rattle.ist_rebuild.specs.Helping.{IsHelpRefused, IsAskedFor, for_change, for_node}
use Rattle.ist_rebuild.specs.Lacking.{LacksNow}
use Rattle.ist_rebuild.specs.Starting.{IsStartRefused, IsStartedAt, StoodInstead}
use Rattle.ist_updates.specs.declared.updates.Due.{Due}
use Rattle.ist_tree.specs.Working.{for_other, for_own, for_start}
use Rattle.ist_tree.specs.CallTerms.{IsAskedToRebuild, IsDueRefused, IsInDueSlot, HeldInnerRow, face_as, LackedAt, HasSeenMore, PassFace, IsPassWith, pass_face}
use Rattle.ist_tree.proofs.FurtherLemmas.{other_started}
use Rattle.std.proofs.lemmas.List.Elements.{filter-append}
use Rattle.laws_calls.specs.Finishing.{is_put, puts_in}
use Rattle.laws_histories.proofs.ChangeLemmas.{changes_on}
use Rattle.ist_rule.proofs.LaterLemmas.{goes_on_more}
use Rattle.ist_tree.proofs.GoingLemmas.{IsLaterView}
use Rattle.ist_find.specs.Sweeps.{SweptBetween}
use Rattle.ist_tree.specs.Sweeps.{HasSweptOver}
use Rattle.ist_tree.proofs.ReadLemmas.{read_began, read_calls, read_once, read_pass, read_seen, read_stamp, read_step, read_view}

-- ---- too few words

-- too few words are left by the end of the log
pub short_now : (P : Event → Type 0) {A B : ℕ → Type 0} (v : View) (words : ℕ) (full : Full)
    (w : View) → RanShort (WentOn P) A v words full w → (A full.asked → B full.asked)
    → LeavesTooFew B w.start words w.log full
short_now P v words full w s to = left_as full
    record {
      next_is = s.looked.stood (now w).next shown_next
          ∙ words_are_spent w.start w.words w.log s.looked.sound.lawful;
      few = s.few;
    }
    to

-- too few words were left by another name of the table, for something else that was asked for
abbrev pub left_same : {A B : ℕ → Type 0} {pairs others : List Pair} {words more : ℕ} {at : Log}
    (full : Full) → pairs ≡ others → words ≡ more → LeavesTooFew A pairs words at full
    → (A full.asked → B full.asked) → LeavesTooFew B others more at full
left_same {at = at} full start all l to = record {
  next_is = l.next_is ∙ ap (λ p. spent p at) start;
  few = record {
    words_is = l.few.words_is ∙ all;
    small = subst (λ n. n < full.next + full.asked) all l.few.small;
    asked = to l.few.asked;
  };
}

-- a start was refused
pub start_refused : (s : Snapshot) (v : View) (due : Due) (words : ℕ) (full : Full) (w : View)
    → IsStartRefused v words full w → LacksNow w full.asked → IsDueRefused s w due words full
start_refused s v due words full w r lacks =
    short_now Begins v words full w r (λ start. for_start start lacks)

-- helping the rebuild that was started was refused
pub own_refused : (s : Snapshot) (v w : View) (rebuild : ℕ) (due : Due) (words : ℕ) (full : Full)
    → IsStartedAt (now v) rebuild due.parent due.index due.target → WentOn ServesRebuild v w
    → IsHelpRefused v rebuild words full w → IsDueRefused s w due words full
own_refused s v w rebuild due words full at went r = let grow = went_grow ServesRebuild v w went in
    short_now ServesRebuild v words full w r
    (for_own rebuild (started_grows (now v) (now w) grow rebuild at.started)
    (target_grows (now v) (now w) grow rebuild due.target
    record { row = at.row; published = at.published; target_is = at.target_is }))

-- a rebuild that was started in a slot was started there as rows grow
pub due_slot_grows : (t u : Snapshot) → AllGrow t.pieces u.pieces → (rebuild : ℕ) (due : Due)
    → IsInDueSlot t rebuild due → IsInDueSlot u rebuild due
due_slot_grows t u grow rebuild due b = grind (arith, rebuild_there)

-- helping another rebuild, which stood in the slot, was refused
pub other_refused : (v w : View) → IsSound v → (due : Due) (word rebuild words : ℕ)
    (full : Full) → StoodInstead v due.parent due.index due.target word
    → ref_of word ≡ Some (RebuildAt rebuild)
    → WentOn ServesRebuild v w → IsHelpRefused v rebuild words full w
    → IsDueRefused (now v) w due words full
other_refused v w s due word rebuild words full stood is went r =
    short_now ServesRebuild v words full w r
    (for_other rebuild
    (started_grows (now v) (now w) (went_grow ServesRebuild v w went) rebuild
    (other_started v s due.parent due.index due.target word rebuild stood is))
    (λ replaced.
    read_unreplaced v.start v.words s.lawful.opens v.log s.lawful.enabled rebuild named.row
    named.published record {
      word = word;
      holds = subst (λ m. SlotHolds (now v) m named.row.index word) (sym named.parent)
          (subst (λ i. SlotHolds (now v) due.parent i word) (sym named.index) stood.holds);
      reads = ap (past_change (now v).pieces) is;
    } replaced)
    (due_slot_grows (now v) (now w) (went_grow ServesRebuild v w went) rebuild due record {
      site = named.row;
      published = named.published;
      parent_is = named.parent;
      index_is = named.index;
    }))
  where
    named : IsRebuildFor (now v).pieces due.parent due.index rebuild
    named = subst (SlotNames (now v).pieces due.parent due.index) is
        (slot_names (now v) due.parent due.index word
        (names v.start v.words s.lawful.opens v.log s.lawful.enabled) stood.holds)

-- a rebuild that was refused since a state was refused since an earlier one
pub due_refused_more : (s t : Snapshot) → AllGrow s.pieces t.pieces → (w : View)
    (due : Due) (words : ℕ) (full : Full) → IsDueRefused t w due words full
    → IsDueRefused s w due words full
due_refused_more s t grow w due words full d = left_as full d asked
  where
    asked : IsAskedToRebuild t w due full.asked → IsAskedToRebuild s w due full.asked
    asked (for_start e lacks) = for_start e lacks
    asked (for_own rebuild started of a) = for_own rebuild started of a
    asked (for_other rebuild started unreplaced slot a) =
        for_other rebuild started (λ k. unreplaced (replaced_grows s t grow rebuild k)) slot a

-- ---- results

-- what is true of a value, if there is one, is true of the value that there is
pub some_is : {A : Type 0} (o : Option A) (a : A) (P : A → Type 0) → o ≡ Some a → IfSome o P → P a
some_is o a P is h = subst (λ o. IfSome o P) is h

-- ---- what helping a rebuild asks for stays so as rows grow; what was in the anchor's slot, and how many
-- puts there were, over longer logs. Serves `apply_in_call` and `freeze`.

-- what helping a rebuild asked for is what it asks for as rows grow
pub asked_grows : (L M : ℕ → Type 0) (t u : Snapshot) → AllGrow t.pieces u.pieces
    → (rebuild asked : ℕ) → (L asked → M asked) → IsAskedFor L t rebuild asked
    → IsAskedFor M u rebuild asked
asked_grows L M t u grow rebuild asked same (for_change e lacks) = for_change e (same lacks)
asked_grows L M t u grow rebuild asked same (for_node row k e f node) =
    let it = rebuild_there t.pieces u.pieces grow rebuild row e in for_node it.0 k it.1
    (subst (λ n. IsFinishedWith u n k) (sym it.2.target)
    (finished_with_grows t u grow row.target k f)) node

-- the same of one state
pub asked_same : (L M : ℕ → Type 0) (t : Snapshot) (rebuild asked : ℕ) → (L asked → M asked)
    → IsAskedFor L t rebuild asked → IsAskedFor M t rebuild asked
asked_same L M t rebuild asked same (for_change e lacks) = for_change e (same lacks)
asked_same L M t rebuild asked same (for_node row k e f node) = for_node row k e f node

-- a row that a caller lacked at the end of its work was lacked then by its pass, whatever others did
-- since
pub lacked_then : (new : Caller) (token : TokenFace) → IsCaller new
    → IsLaterView new.token.view token.view → (q : Option Full) (asked : ℕ)
    → LacksNow new.token.view asked → LackedAt (face_as token new.number q) new.token.view.log asked
lacked_then new token c l q asked lacks = grind arith

-- an inner row that the anchor's slot held between two logs it held between two wider ones
pub held_on : (pairs : List Pair) (words : ℕ) (a b c d : Log) → GoesOn a b → GoesOn c d
    → HeldInnerRow pairs words b c → HeldInnerRow pairs words a d
held_on pairs words a b c d g h k = record {
  at = k.at;
  since = goes_on_more g k.since;
  until = goes_on_more k.until h;
  row = k.row;
  holds = k.holds;
}

-- a longer log has no fewer puts
pub puts_rise : (pairs : List Pair) (words : ℕ) (earlier log : Log) → GoesOn earlier log
    → puts_in (changes_of pairs words earlier) ≤ puts_in (changes_of pairs words log)
puts_rise pairs words earlier log g = let on = changes_on (start pairs words) earlier log g in
    let same = ap puts_in on.1
    ∙ ap length (filter-append (λ (e : Entry). is_put e.command) (changes_of pairs words earlier) on.0)
    ∙ length-append (filter (λ (e : Entry). is_put e.command) (changes_of pairs words earlier))
    (filter (λ (e : Entry). is_put e.command) on.0) in
    omega arith

-- ---- a pass that swept a range of keys, in no call of its own. Serves `sweeping`.

-- what it results in, for a pass with this face
pub record SweepEnds {A E : Type 0} (old : PassFace) (who : Caller) (refused : Option Full)
    (token : TokenFace) (first last : ℕ) (before after : List Pair) (r : Result A E) : Type 0 where
  pub pass : IsPassWith (record who { token = token }) refused
  pub seen : HasSeenMore old (face_as token who.number refused)
  pub swept : OnOk r (HasSweptOver old (face_as token who.number refused) first last before after)
  pub once : token.view.searches ≡ old.searches + 1
  pub calls : token.view.calls ≡ old.calls
  pub stamp : token.view.stamp ≡ old.stamp

-- a sweep ends so
pub sweep_ends : {A E : Type 0} (who : Caller) (refused : Option Full) (b : View) (token : TokenFace)
    → IsPassWith who refused → TurnedAt who.token.view (beginning_read who.token.view) b
    → GoesOnTo b token.view → (first last : ℕ) (before after : List Pair) (r : Result A E)
    → OnOk r (SweptBetween b token.view first last before after)
    → (old : PassFace) → pass_face who refused ≡ old
    → SweepEnds old who refused token first last before after r
sweep_ends {A} {E} who refused b token all t g first last before after r swept old view =
    subst (λ (o : PassFace). SweepEnds o who refused token first last before after r) view from
  where
    v : View
    v = who.token.view

    w : View
    w = token.view

    over : (s : Result A E) → OnOk s (SweptBetween b w first last before after)
        → OnOk s (HasSweptOver (pass_face who refused) (face_as token who.number refused) first last
        before after)
    over (Err e) h = tt
    over (Ok x) h = grind (arith, read_view, read_began, read_step, read_once)

    from : SweepEnds (pass_face who refused) who refused token first last before after r
    from = record {
      pass = read_pass who refused b token all t g;
      seen = read_seen who refused b token all t g;
      swept = over r swept;
      once = read_once who refused b token all t g;
      calls = read_calls who refused b token all t g;
      stamp = read_stamp who refused b token all t g;
    }
