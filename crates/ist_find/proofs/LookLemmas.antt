-- Looks at slots and the nodes that a search reaches, by what a caller has loaded. Serves
-- `finding`.
use Rattle.std.proofs.Common.{◌≡◌, ◌≢◌, ℕ, ◌<◌, ◌≤◌, ◌⊎◌, List, [], ◌∷◌, ◌++◌, length, Some, refl, sym, subst, inl, inr, arith}
use Rattle.std.proofs.Math.Nat.{le_trans}
use Rattle.ist_core.specs.declared.loads.Load.{Load}
use Rattle.ist_core.specs.declared.pairs.Pair.{Pair}
use Rattle.ist_core.specs.declared.states.InnerRow.{InnerRow}
use Rattle.ist_core.specs.WordTerms.{anchor, Ref, Empty, Unset, LeafAt, InnerAt, ChangeAt, RebuildAt, ref_of, Inner, start, SlotHolds, IsChildFor}
use Rattle.ist_core.specs.LogTerms.{Log, GoesOn, EachEnabled, state_of}
use Rattle.ist_core.specs.TreeTerms.{place_of_slot}
use Rattle.ist_core.proofs.AllLogLemmas.{enabled_before, leads_linked}
use Rattle.ist_core.proofs.AllPlaceLemmas.{slot_names, names}
use Rattle.laws_links.proofs.ContentLemmas.{linked_set}
use Rattle.ist_rule.specs.RuleTerms.{IsSound, now, GoesOnTo, IsNode, is_anchor, is_inner}
use Rattle.ist_rule.specs.declared.view.View.{View}
use Rattle.ist_rule.proofs.EventLemmas.{goes_on_more}
use Rattle.ist_dcss.proofs.SlotPlaceLemmas.{shown_in_slot}
use Rattle.laws_histories.specs.Loads.{log_at, IsLoad}
use Rattle.laws_histories.specs.Searching.{ReadsSide}
use Rattle.laws_calls.specs.Walking.{ComesBy, goes_by}
use Rattle.laws_calls.proofs.WalkLemmas.{meeting_comes, meeting_on}
use Rattle.laws_histories.proofs.ChangeLemmas.{at_on, at_prefix, load_on, side_on}
use Rattle.laws_histories.proofs.LoadLemmas.{look_of, comes_of}
use Rattle.laws_histories.proofs.SearchLemmas.{seen, there_on}
use Rattle.laws_histories.proofs.PositionLemmas.{node_met, look_up}
use Rattle.laws_histories.proofs.ToldLemmas.{all_needed}
use Rattle.ist_find.specs.Searches.{Names, HasCome}
use Rattle.ist_find.specs.Reads.{IsPlain, IsFoundAs, IsReached, TellsSide, TellsTarget, HasLooked}
use Rattle.ist_find.specs.Sweeps.{LookedSince}
use Rattle.ist_find.proofs.LoadLemmas.{by_table, goes_log, goes_length, shown_load}
use Rattle.ist_find.proofs.ReadLemmas.{slot_named, no_change_told, no_rebuild_told}

-- ---- in a longer log

module _ (pairs : List Pair) (words : ℕ) (log longer : Log) (g : GoesOn log longer) where
  -- the word that a slot held is a load of its place
  pub slot_later : EachEnabled (start pairs words) log → (node i word least : ℕ)
      → SlotHolds (state_of pairs words log) node i word → least ≤ length log
      → IsLoad pairs words longer
      (place_of_slot (state_of pairs words (log_at longer (length log))) node i) least
      record {
        place = place_of_slot (state_of pairs words log) node i;
        word = word;
        length = length log;
      }
  slot_later enabled node i word least holds low =
      let place = place_of_slot (state_of pairs words log) node i in
      let slot : Load = record { place = place; word = word; length = length log } in
      let here = shown_load pairs words log place word least
      (λ x s. sym (shown_in_slot pairs words log enabled node i word x holds s)) low in
      subst (λ l. IsLoad pairs words longer (place_of_slot (state_of pairs words l) node i) least slot)
      (sym (at_prefix log longer g)) (load_on pairs words log longer g place least slot here)

-- ---- the node

-- a node to which a search has come is the anchor or a published inner row
pub come_node : (v : View) → IsSound v → (key last node : ℕ) (rows : List ℕ)
    → ComesBy v.start v.words v.log key v.loads.since last node rows → IsNode (now v) node
come_node v s key last node rows comes =
    let met = node_met v.start v.words s.lawful.opens v.log s.lawful.enabled key v.loads.since last
    node (meeting_comes v.start v.words v.log key v.loads.since last node rows comes) in
    at (there_on v.start v.words s.lawful.opens key (log_at v.log last) v.log (at_on v.log last)
    s.lawful.enabled node met.published)
  where
    at : (node ≡ anchor) ⊎ ((r : InnerRow) × ((now v).pieces node ≡ Some (Inner r)))
        → IsNode (now v) node
    at (inl e) = is_anchor e
    at (inr e) = is_inner e.0 e.1

-- the word in a slot names a row
pub holds_named : (v : View) → IsSound v → (node i word : ℕ) → SlotHolds (now v) node i word
    → Names v (ref_of word)
holds_named v s node i word h = slot_named v node i (ref_of word)
    (slot_names (now v) node i word (names v.start v.words s.lawful.opens v.log s.lawful.enabled) h)

-- ---- the look

-- a search that reached a node has still reached it after loads of it
pub comes_later : (v w : View) → GoesOnTo v w → (key last node : ℕ) (rows : List ℕ)
    → ComesBy v.start v.words v.log key v.loads.since last node rows
    → ComesBy w.start w.words w.log key w.loads.since last node rows
comes_later v w g key last node rows comes =
    subst (λ n. ComesBy w.start w.words w.log key n last node rows) (sym g.since)
    (meeting_on w.start w.words v.log w.log (goes_log v w g) key v.loads.since last node rows
    (by_table v w g (λ p n. ComesBy p n v.log key v.loads.since last node rows) comes))

-- so it has still come there
pub come_later : (v w : View) → GoesOnTo v w → (key node : ℕ) (rows : List ℕ)
    → HasCome v key node rows → HasCome w key node rows
come_later v w g key node rows h = grind (arith, le_trans, goes_length, comes_later)

-- the child, the side and the target together are a look at the slot
pub look_since : (v u t w : View) (key least node i word side : ℕ) (ref : Ref) → GoesOnTo v u
    → least ≤ length v.log → IsChildFor (now u) node key i → SlotHolds (now u) node i word
    → TellsSide u t word side → TellsTarget t w side ref → LookedSince w key least node i ref
look_since v u t w key least node i word side ref a low index holds told target =
    let b = goes_on_more u t w told.seen target.seen in
    let place = place_of_slot (state_of w.start w.words u.log) node i in record {
      last = told.has.last;
      until = le_trans told.has.until (goes_length t w target.seen);
      look = record {
        slot = record { place = place; word = word; length = length u.log };
        index = i;
        index_is = subst (λ l. IsChildFor (state_of w.start w.words l) node key i)
            (sym (at_prefix u.log w.log (goes_log u w b)))
            (by_table u w b (λ p n. IsChildFor (state_of p n u.log) node key i) index);
        is_load = slot_later w.start w.words u.log w.log (goes_log u w b)
            (enabled_before (start w.start w.words) u.log w.log (goes_log u w b)
            target.seen.sound.lawful.enabled) node i word least
            (by_table u w b (λ p n. SlotHolds (state_of p n u.log) node i word) holds)
            (le_trans low (goes_length v u a));
        side = side;
        side_is = side_on w.start w.words t.log w.log (goes_log t w target.seen)
            record { place = place; word = word; length = length u.log } side told.has.last
            (by_table t w target.seen (λ p n. ReadsSide p n t.log
            record { place = place; word = word; length = length u.log } side told.has.last)
            (told.has.side_is place));
        ref_is = target.has told.has.last told.has.until;
      };
      index_is = refl;
    }

-- and of a search that had come to the node, by these rows
pub look_told : (v u t w : View) (key node i word side : ℕ) (ref : Ref) (rows : List ℕ)
    → HasCome v key node rows → GoesOnTo v u → IsChildFor (now u) node key i → SlotHolds (now u) node i word
    → TellsSide u t word side → TellsTarget t w side ref → HasLooked w key node i rows ref
look_told v u t w key node i word side ref rows h a index holds told target =
    let g = goes_on_more v u w a (goes_on_more u t w told.seen target.seen) in
    let since = look_since v u t w key h.last node i word side ref a h.until index holds told target in
    record {
      least = h.last;
      last = since.last;
      until = since.until;
      comes = comes_later v w g key h.last node rows h.comes;
      look = since.look;
      index_is = since.index_is;
    }

-- a search never reads a slot as a part that isn't built yet
pub look_is_set : (v : View) → IsSound v → (key node i : ℕ) (rows : List ℕ)
    → ¬ (HasLooked v key node i rows Unset)
look_is_set v s key node i rows h = let p = v.start in let n = v.words in
    let enabled : (m : ℕ) → EachEnabled (start p n) (log_at v.log m) =
    λ m. enabled_before (start p n) (log_at v.log m) v.log (at_on v.log m) s.lawful.enabled in
    let opens = s.lawful.opens in
    let saw = seen p n opens (all_needed p n opens) key (log_at v.log v.loads.since)
    (log_at v.log h.least) (log_at v.log h.last) node (Some Unset) (enabled h.last)
    (comes_of p n opens v.log s.lawful.enabled key v.loads.since h.least node
    (meeting_comes p n v.log key v.loads.since h.least node rows h.comes))
    (look_of p n opens v.log s.lawful.enabled key h.least h.last node Unset h.look) in
    linked_set p n opens saw.at
    (enabled_before (start p n) saw.at (log_at v.log h.last) saw.until (enabled h.last)) node
    saw.index saw.read.word (leads_linked (state_of p n saw.at) key node saw.led) saw.read.holds
    saw.read.reads

-- what it reads there is reached: nothing, a leaf, or an inner row above the node
pub look_reaches : (v : View) → IsSound v → (key node i : ℕ) (rows : List ℕ) (ref : Ref)
    → HasLooked v key node i rows ref → IsFoundAs v ref → IsReached v node ref
look_reaches v s key node i rows Empty h f = tt
look_reaches v s key node i rows Unset h f = absurd (look_is_set v s key node i rows h)
look_reaches v s key node i rows (LeafAt base) h f = f
look_reaches v s key node i rows (InnerAt base) h f = (
  look_up v.start v.words s.lawful.opens v.log s.lawful.enabled key v.loads.since h.least h.last
      node base (meeting_comes v.start v.words v.log key v.loads.since h.least node rows h.comes)
      h.look,
  f,
)
look_reaches v s key node i rows (ChangeAt base) h f = absurd f
look_reaches v s key node i rows (RebuildAt base) h f = absurd f

-- a search that read an inner row has reached it
pub look_comes : (v : View) (key node i : ℕ) (rows : List ℕ) (base : ℕ)
    → HasLooked v key node i rows (InnerAt base) → HasCome v key base (rows ++ base ∷ [])
look_comes v key node i rows base h =
    record { last = h.last; until = h.until; comes = goes_by h.comes h.look }

-- ---- words as they are

-- the word in the slot, which names no change and no rebuild, is a look at it
pub word_looked : (v w : View) → GoesOnTo v w → (key node i word : ℕ) (ref : Ref) (rows : List ℕ)
    → HasCome v key node rows → IsChildFor (now w) node key i → SlotHolds (now w) node i word
    → ref_of word ≡ Some ref → ((base : ℕ) → ref ≢ ChangeAt base)
    → ((base : ℕ) → ref ≢ RebuildAt base) → HasLooked w key node i rows ref
word_looked v w g key node i word ref rows h index holds is no_change no_rebuild =
    let named = holds_named w g.sound node i word holds in
    let plain : IsPlain (ref_of word) =
    λ base e. no_change base (cc) in
    look_told v w w w key node i word word ref rows h g index holds
    (no_change_told w g.sound word named plain)
    (no_rebuild_told w g.sound word ref is named plain
    (λ base e. no_rebuild base (cc)))

-- a walk goes down by a word that is an inner row
pub word_down : (v w : View) → GoesOnTo v w → (key node i word child : ℕ) (rows : List ℕ)
    → HasCome v key node rows → IsChildFor (now w) node key i → SlotHolds (now w) node i word
    → ref_of word ≡ Some (InnerAt child) → HasLooked w key node i rows (InnerAt child)
word_down v w g key node i word child rows h index holds is =
    word_looked v w g key node i word (InnerAt child) rows h index holds is (λ base e. cc)
    (λ base e. cc)

-- and never meets Unset
pub word_is_set : (v w : View) → GoesOnTo v w → (key node i word : ℕ) (rows : List ℕ)
    → HasCome v key node rows → IsChildFor (now w) node key i → SlotHolds (now w) node i word
    → ref_of word ≢ Some Unset
word_is_set v w g key node i word rows h index holds is = look_is_set w g.sound key node i rows
    (word_looked v w g key node i word Unset rows h index holds is (λ base e. cc) (λ base e. cc))

-- the row lies above the node
pub step_up : (v w : View) → GoesOnTo v w → (key node i word child : ℕ) (rows : List ℕ)
    → HasCome v key node rows → IsChildFor (now w) node key i → SlotHolds (now w) node i word
    → ref_of word ≡ Some (InnerAt child) → node < child
step_up v w g key node i word child rows h index holds is =
    let look = word_down v w g key node i word child rows h index holds is in
    look_up w.start w.words g.sound.lawful.opens w.log g.sound.lawful.enabled key w.loads.since
    look.least look.last node child
    (meeting_comes w.start w.words w.log key w.loads.since look.least node rows look.comes) look.look
