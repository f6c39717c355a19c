-- A search from its begin to its end, as it knows it. Serves `find_from_anchor`.
use Rattle.std.proofs.Common.{◌≡◌, ℕ, List, [], length, Option, sym, ap, ◌∙◌, subst, arith, ◌≢◌, Some, None, refl, inl}
use Rattle.std.proofs.Math.Nat.{le_trans}
use Rattle.ist_core.specs.declared.pairs.Pair.{Pair}
use Rattle.ist_core.specs.WordTerms.{anchor, Ref, start, IsChildFor, child_count, of_anchor, of_row}
use Rattle.ist_core.specs.LogTerms.{Log, GoesOn, state_of, Snapshot, same_log, EachEnabled, CanOpen}
use Rattle.ist_core.specs.TreeTerms.{WasLinked, place_of_slot, AllGrow, IsChild, Leads, from_anchor, down}
use Rattle.ist_core.proofs.AllLogLemmas.{child_remains, grow_between, goes_on_length, enabled_before, inner_there, goes_on_more}
use Rattle.ist_rule.specs.RuleTerms.{IsSound, now, GoesOnTo, Turned, searching}
use Rattle.ist_rule.specs.declared.view.View.{View}
use Rattle.ist_rule.proofs.LaterLemmas.{later_more, later-goes_on}
use Rattle.laws_histories.specs.Loads.{log_at, IsLoad}
use Rattle.laws_histories.specs.Searching.{LooksAt, ComesTo, HasPosition, ReadsValue}
use Rattle.laws_calls.specs.Walking.{begins_by}
use Rattle.laws_calls.proofs.WalkLemmas.{meeting_comes}
use Rattle.laws_histories.proofs.ChangeLemmas.{changes_rise, at_on, at_prefix, load_on, come_on, side_on, target_on, at_same}
use Rattle.laws_histories.proofs.PositionLemmas.{search_position, node_met}
use Rattle.ist_find.specs.Searches.{HasBegunSearch, HasSearched, HasFound, HasCome}
use Rattle.ist_find.specs.Reads.{HasLooked, TellsValue}
use Rattle.ist_find.proofs.LoadLemmas.{by_table, goes_log}
use Rattle.std.proofs.lemmas.List.{take_all}
use Rattle.ist_core.proofs.AllPlaceLemmas.{names, one_home, anchor_free, child_mentioned, one_parent, LedTo, parent_of, child_is, was_led}
use Rattle.laws_histories.specs.Finding.{Finds}
use Rattle.laws_histories.specs.Telling.{map_now}
use Rattle.laws_histories.proofs.ContentLemmas.{told_at}
use Rattle.laws_histories.proofs.LoadLemmas.{look_of, value_of}
use Rattle.laws_histories.proofs.ToldLemmas.{all_needed}
use Rattle.laws_histories.proofs.ReadLemmas.{ReadsAs}
use Rattle.laws_histories.proofs.SearchLemmas.{Look, saw, ever_at, finds_below}
use Rattle.laws_histories.proofs.SeenLemmas.{Saw}
use Rattle.std.specs.FinMap as fin

-- ---- the begin

-- a search is at the anchor
pub at_anchor : (w : View) (key : ℕ) → IsSound w → HasCome w key anchor []
at_anchor w key s = record { last = w.loads.since; until = s.well_made.since; comes = begins_by }

-- so is one that begins
pub begun_comes : (v w : View) (key : ℕ) → Turned v (searching v) w → HasCome w key anchor []
begun_comes v w key t = at_anchor w key t.sound

-- a caller that has begun a search and gone on by loads has searched
pub has_searched : (v b w : View) → Turned v (searching v) b → GoesOnTo b w → HasSearched v w
has_searched v b w t g = grind (arith, goes_on_length, later-goes_on, later_more)

-- ---- the end

module _ (pairs : List Pair) (words : ℕ) (log longer : Log) (g : GoesOn log longer) where
  -- a look is one in a longer log too, at the same slot
  pub look_later : (key least last node i : ℕ) (ref : Ref)
      → (x : LooksAt pairs words log key least last node ref) → x.index ≡ i
      → (y : LooksAt pairs words longer key least last node ref) × (y.index ≡ i)
  look_later key least last node i ref x e =
      let same = sym (at_same log longer g x.slot.length x.is_load.within) in (
        record {
          slot = x.slot;
          index = x.index;
          index_is = subst (λ l. IsChildFor (state_of pairs words l) node key x.index) same x.index_is;
          is_load = subst (λ l. IsLoad pairs words longer
              (place_of_slot (state_of pairs words l) node x.index) least x.slot) same
              (load_on pairs words log longer g _ least x.slot x.is_load);
          side = x.side;
          side_is = side_on pairs words log longer g x.slot x.side last x.side_is;
          ref_is = target_on pairs words log longer g last x.side ref x.ref_is;
        },
        e,
      )

-- the value was loaded after the last look
pub has_found : (v w : View) (key node i : ℕ) (rows : List ℕ) (ref : Ref) (value : Option ℕ)
    → HasLooked v key node i rows ref → TellsValue v w key ref value → HasFound w key node i value
has_found v w key node i rows ref value h t = let g = goes_log v w t.seen in
    let look = by_table v w t.seen
    (λ p n. (y : LooksAt p n v.log key h.least h.last node ref) × (y.index ≡ i))
    (h.look, h.index_is) in
    let later = look_later w.start w.words v.log w.log g key h.least h.last node i ref look.0 look.1
    in
    record {
      searched = record {
        least = h.least;
        last = h.last;
        since = t.seen.sound.well_made.since;
        comes = subst (λ n. ComesTo w.start w.words w.log key n h.least node) (sym t.seen.since)
            (come_on w.start w.words v.log w.log g key v.loads.since h.least node
            (by_table v w t.seen (λ p n. ComesTo p n v.log key v.loads.since h.least node)
            (meeting_comes v.start v.words v.log key v.loads.since h.least node rows h.comes)));
        ref = ref;
        look = later.0;
        value_is = t.has h.last h.until;
      };
      index_is = later.1;
    }

-- ---- what was found

-- the map has the value at a position, not before the changes that were seen when the search began
pub found_since : (b w : View) → HasBegunSearch b → GoesOnTo b w
    → (key node i : ℕ) (value : Option ℕ) → HasFound w key node i value
    → HasPosition w.start w.words b.log w.log key value
found_since b w begun g key node i value f = let s = g.sound.lawful in
    let at : log_at w.log w.loads.since ≡ b.log =
    ap (log_at w.log) (g.since ∙ begun) ∙ at_prefix b.log w.log (goes_log b w g) in
    subst (λ l. HasPosition w.start w.words l w.log key value) at
    (search_position w.start w.words s.opens w.log s.enabled key w.loads.since node value f.searched)

-- nor before those that were seen earlier
pub found_position : (v b w : View) → Turned v (searching v) b → GoesOnTo b w
    → (key node i : ℕ) (value : Option ℕ) → HasFound w key node i value
    → HasPosition w.start w.words v.log w.log key value
found_position v b w t g key node i value f =
    let p = found_since b w (ap (λ x. x.loads.since) t.view) g key node i value f in
    let rise = changes_rise (start w.start w.words) v.log b.log (later-goes_on t.later) in record {
      position = p.position;
      from = le_trans rise p.from;
      to = p.to;
      value_is = p.value_is;
    }

-- the node was linked
pub found_linked : (w : View) → IsSound w → (key node i : ℕ) (value : Option ℕ)
    → HasFound w key node i value → WasLinked (start w.start w.words) w.log node
found_linked w s key node i value f = grind (arith, node_met)

-- the slot is the one of the child for the key
pub found_child : (w : View) → IsSound w → (key node i : ℕ) (value : Option ℕ)
    → HasFound w key node i value → IsChildFor (now w) node key i
found_child w s key node i value f = let look = f.searched.look in
    let at = log_at w.log look.slot.length in subst (IsChildFor (now w) node key) f.index_is
    (child_remains (state_of w.start w.words at) (now w)
    (grow_between w.start w.words at w.log s.lawful.enabled (at_on w.log look.slot.length)) node
    key look.index look.index_is)

-- ---- keys that led to a node find what its slots read as at one moment after another. Serves `sweeping`.

-- a key that has the child of another key had it whenever the other had it
pub child_back : (t u : Snapshot) → AllGrow t.pieces u.pieces → u.pieces anchor ≡ None
    → (node key k i j : ℕ) → IsChildFor t node key j → IsChildFor u node key i
    → IsChildFor u node k i → IsChildFor t node k j
child_back t u g free node key k i j (of_anchor a b) x y = of_anchor a b
child_back t u g free node key k i j (of_row r e f) x y =
    let on = inner_there t.pieces u.pieces g node r e in
    let a = child_is u node key i on.0 free on.1 x in
    let b = child_is u node k i on.0 free on.1 y in
    of_row r e (f ∙ ap (λ ks. child_count ks key) (sym on.2.keys) ∙ sym a ∙ b
    ∙ ap (λ ks. child_count ks k) on.2.keys)

module _ (opened : List Pair) (words : ℕ) (opens : CanOpen opened words) where
  -- ---- leading

  -- a key that leads to a node by what is named for slots leads to it if another key does
  leads_too : (log : Log) → EachEnabled (start opened words) log → (one key node : ℕ)
      → Leads (state_of opened words log) one node → LedTo (state_of opened words log) key node
      → Leads (state_of opened words log) key node
  leads_too log h one key _ from_anchor led = from_anchor
  leads_too log h one key _ (down {node = node} {child = child} i way for is) led =
      let t = state_of opened words log in let o = names opened words opens log h in
      let lies = parent_of t o (one_home opened words opens log h) (anchor_free opened words log h)
      child key led node i (child_mentioned t node i child o is) in
      down i (leads_too log h one key node way lies.led) lies.child_for is

  -- so it leads there later, if another key does
  pub leads_later : (earlier log : Log) → GoesOn earlier log → EachEnabled (start opened words) log
      → (one key node : ℕ) → Leads (state_of opened words earlier) key node
      → Leads (state_of opened words log) one node → Leads (state_of opened words log) key node
  leads_later earlier log g h one key node led other = grind (arith, leads_too, was_led, ever_at)

  -- a key that leads to a child leads to the node in whose slot it hung
  pub leads_above : (earlier log : Log) → GoesOn earlier log → EachEnabled (start opened words) log
      → (key node i child : ℕ) → child ≢ anchor → IsChild (state_of opened words earlier) node i child
      → Leads (state_of opened words log) key child → Leads (state_of opened words log) key node
  leads_above earlier log g h key node i _ other is from_anchor = absurd (other refl)
  leads_above earlier log g h key node i _ other is (down {node = parent} {child = child} j way for here) =
      let same = one_parent opened words opens earlier log g h node i parent j child is here in
      subst (Leads (state_of opened words log) key) (sym same.0) way

  -- ---- what a look saw

  -- what the look saw was so at one moment since the key led to the node
  pub saw_since : (log : Log) → EachEnabled (start opened words) log → (floor : Log)
      → GoesOn floor log → (key last node : ℕ) (ref : Ref)
      → Leads (state_of opened words floor) key node
      → LooksAt opened words log key (length floor) last node ref
      → Saw opened words key floor (log_at log last) node (Some ref)
  saw_since log h floor g key last node ref led look =
      saw opened words opens (all_needed opened words opens) key floor floor (log_at log last) same_log
      (enabled_before (start opened words) (log_at log last) log (at_on log last) h) node (Some ref)
      (inl led)
      (subst (λ l. Look opened words key l (log_at log last) node (Some ref)) (at_prefix floor log g)
      (look_of opened words opens log h key (length floor) last node ref look))

  -- what the slot read as gives a key what the map had for it then
  pub value_then : (log : Log) → EachEnabled (start opened words) log → (at : Log)
      → (key last node index : ℕ) (ref : Ref) (value : Option ℕ) → GoesOn at (log_at log last)
      → Leads (state_of opened words at) key node
      → IsChildFor (state_of opened words at) node key index
      → ReadsAs (state_of opened words at) node index (Some ref)
      → ReadsValue opened words log key last ref value
      → value ≡ fin.get (map_now opened words at) key
  value_then log h at key last node index ref value until led for read is =
      let l = enabled_before (start opened words) at log (goes_on_more until (at_on log last)) h in
      let t = state_of opened words at in let given = fin.get (map_now opened words at) key in
      let found = finds_below t key node index read.word given (anchor_free opened words at l) led for
      read.holds ((told_at opened words opens at l).gives key) in
      value_of opened words opens log h at key last ref value given until is
      (subst (λ r. Finds t.pieces key r given) read.reads found)

-- ---- positions

-- what the map had after a log, it had at a position between an earlier log and this one
pub had_at : (opened : List Pair) (words : ℕ) (earlier at : Log) → GoesOn earlier at → (key : ℕ)
    (value : Option ℕ) → value ≡ fin.get (map_now opened words at) key
    → HasPosition opened words earlier at key value
had_at opened words earlier at since key value is = grind (arith, changes_rise, take_all)
