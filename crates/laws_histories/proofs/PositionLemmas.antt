-- A search has a position, and its call is placed there. Serves `laws.searches_have_a_position` and
-- `laws.searches_go_up`.
use Rattle.std.proofs.Common.{◌≡◌, ℕ, ◌+◌, ◌<◌, false, List, length, take, Option, Some, refl, sym, ap, ◌∙◌, subst, ⊎_elim, arith, [], ◌∷◌, slice_get, None}
use Rattle.std.proofs.Math.Seq.{take-append_seam}
use Rattle.ist_core.specs.declared.commands.Command.{Command}
use Rattle.ist_core.specs.declared.calls.Call.{Call}
use Rattle.ist_core.specs.declared.pairs.Pair.{Pair}
use Rattle.ist_core.specs.declared.loads.Load.{Load}
use Rattle.ist_core.specs.declared.commands.Command.TheVariants.{Put}
use Rattle.ist_core.specs.declared.states.ChangeRow.{ChangeRow}
use Rattle.ist_core.specs.declared.states.LeafRow.{LeafRow}
use Rattle.ist_core.specs.TreeTerms.{map_of, key_of, Linked, Leads, changes_of, map_after_entries, makes_entry, IsRead, IsFresh, leaf_here, HasContents}
use Rattle.ist_core.specs.WordTerms.{InnerAt, start, Empty, LeafAt, ref_of, put_kind, Piece, Leaf, Change, words_of, rows_within, of_anchor}
use Rattle.ist_core.specs.LogTerms.{Log, GoesOn, same_log, EachEnabled, CanOpen, state_of}
use Rattle.ist_core.proofs.AllLogLemmas.{enabled_before, goes_on_more, leads_linked, shown_in_anchor, shown_in_row, one_word}
use Rattle.ist_core.proofs.AllPlaceLemmas.{anchor_free}
use Rattle.laws_histories.specs.Finding.{Finds}
use Rattle.laws_histories.specs.Calls.{MadeNoEntry, HasCalls}
use Rattle.laws_histories.specs.Loads.{log_at, IsLoad}
use Rattle.laws_histories.specs.Searching.{LooksAt, ComesTo, Searched, HasPosition, SearchIsAdded, WasMet, by_to, by_from, no_rebuild, begins, of_nothing, of_key}
use Rattle.laws_histories.specs.Telling.{map_now}
use Rattle.laws_histories.proofs.ChangeLemmas.{changes_on, changes_rise, at_on}
use Rattle.laws_histories.proofs.CallLemmas.{add_reading}
use Rattle.laws_histories.proofs.SearchLemmas.{seen, standing, goes_up, ever_at, leads_there, there_on, finds_below}
use Rattle.laws_histories.proofs.LoadLemmas.{look_of, comes_of, value_of, enabled_at}
use Rattle.laws_histories.proofs.ToldLemmas.{all_needed}
use Rattle.laws_histories.proofs.ContentLemmas.{told_at}
use Rattle.ist_core.specs.ExampleTables.{pair}
use Rattle.ist_core.specs.ExampleLogs.{put_decided, put_resolved}
use Rattle.ist_core.proofs.PutExampleLemmas.{put_is_lawful}
use Rattle.std.specs.FinMap as fin

-- what the map had after a log in between, it had after some number of changes
at_position : (pairs : List Pair) (words : ℕ) (earlier at log : Log) → GoesOn earlier at
    → GoesOn at log → (key : ℕ) (value : Option ℕ)
    → value ≡ fin.get (map_now pairs words at) key → HasPosition pairs words earlier log key value
at_position pairs words earlier at log since until key value is = let first = start pairs words in
    let on = changes_on first at log until in let front = changes_of pairs words at in
    let same : take (length front) (changes_of pairs words log) ≡ front =
    ap (take (length front)) on.1 ∙ take-append_seam front on.0 in
    record {
      position = length front;
      from = changes_rise first earlier at since;
      to = changes_rise first at log until;
      value_is = is ∙ ap (λ es. fin.get (map_after_entries (map_of pairs) es) key) (sym same);
    }

module _ (pairs : List Pair) (words : ℕ) (opens : CanOpen pairs words) (log : Log)
    (h : EachEnabled (start pairs words) log) where
  -- a search has a position
  pub search_position : (key began node : ℕ) (value : Option ℕ)
      → Searched pairs words log key began node value
      → HasPosition pairs words (log_at log began) log key value
  search_position key began node value x = let needs = all_needed pairs words opens in
      let comes = comes_of pairs words opens log h key began x.least node x.comes in
      let look = look_of pairs words opens log h key x.least x.last node x.ref x.look in
      let s =
      seen pairs words opens needs key (log_at log began) (log_at log x.least)
      (log_at log x.last) node (Some x.ref) (enabled_at pairs words opens log h x.last) comes look in
      let l =
      enabled_before (start pairs words) s.at (log_at log x.last) s.until (enabled_at pairs words opens log h x.last) in
      let t = state_of pairs words s.at in let given = fin.get (map_now pairs words s.at) key in
      let found =
      finds_below t key node s.index s.read.word given
      (anchor_free pairs words s.at l) s.led s.index_is s.read.holds
      ((told_at pairs words opens s.at l).gives key) in
      at_position pairs words (log_at log began) s.at log s.since
      (goes_on_more s.until (at_on log x.last)) key value
      (value_of pairs words opens log h s.at key x.last x.ref value given s.until x.value_is (subst (λ ref. Finds t.pieces key ref given) s.read.reads found))

  -- the call of a search is placed at its position
  pub search_added : (seen : Log) (number stamp : ℕ) (calls : List Call)
      → HasCalls pairs words seen number stamp calls
      → MadeNoEntry pairs words number seen log → (began node : ℕ) → GoesOn seen (log_at log began)
      → (command : Command) (value : Option ℕ) → makes_entry command value ≡ false
      → Searched pairs words log (key_of command) began node value
      → SearchIsAdded pairs words seen log number stamp calls command value
  search_added seen number stamp calls has none began node since command value plain x =
      let p = search_position (key_of command) began node value x in
      let call : Call =
      record { command = command; reply = value; position = p.position; stamp = stamp + 1 } in
      let rise = changes_rise (start pairs words) seen (log_at log began) since in
      let from = p.from in
      let fresh : IsFresh pairs words seen stamp call =
      record { position = omega arith; later = omega arith } in
      let read : IsRead (map_of pairs) (changes_of pairs words log) call =
      record { within = p.to; reply = p.value_is } in
      record {
        call = call;
        command_is = refl;
        reply_is = refl;
        stamp_is = refl;
        added = record {
          has_calls = add_reading pairs words seen log number stamp calls call has
              (goes_on_more since (at_on log began)) none plain fresh read;
          fresh = fresh;
        };
      }

  -- each node of a search was met
  pub node_met : (key began last node : ℕ) → ComesTo pairs words log key began last node
      → WasMet pairs words log key last node
  node_met key began last node c = let first = start pairs words in
      let comes = comes_of pairs words opens log h key began last node c in
      let at : (n : Log) → GoesOn n (log_at log last) → Leads (state_of pairs words n) key node → WasMet pairs words log key last node =
      λ n until led.
      let l = enabled_before first n (log_at log last) until (enabled_at pairs words opens log h last) in
      let on = goes_on_more until (at_on log last) in record {
        led = ever_at first (λ t. Leads t key node) n log on led;
        linked = ever_at first (λ t. Linked t node) n log on
            (leads_linked (state_of pairs words n) key node led);
        published =
            there_on pairs words opens key n (log_at log last) until (enabled_at pairs words opens log h last) node
            (leads_there pairs words opens key n l node led);
      } in
      ⊎_elim (λ led. at (log_at log last) same_log led) (λ w. at w.at w.until w.led)
      (standing pairs words opens (all_needed pairs words opens) key (log_at log began) (log_at log last) node (enabled_at pairs words opens log h last) comes)

  -- a look of a search leads up
  pub look_up : (key began least last node child : ℕ) → ComesTo pairs words log key began least node
      → LooksAt pairs words log key least last node (InnerAt child) → node < child
  look_up key began least last node child c look =
      goes_up pairs words opens (all_needed pairs words opens) key (log_at log began)
      (log_at log least) (log_at log last) node child (enabled_at pairs words opens log h last)
      (comes_of pairs words opens log h key began least node c)
      (look_of pairs words opens log h key least last node (InnerAt child) look)

-- ---- a put, and a search that loads its change, on a small log. Serves `examples`.

-- ---- the put

-- the put is the one change
pub put_changes : changes_of [] 15 put_resolved ≡ record { owner = 0; command = Put 1 1; reply = None } ∷ []
unfolding ref_of rows_within
put_changes = refl

-- its leaf
abbrev the_leaf : LeafRow
the_leaf = record { key = 1; value = 1 }

-- the contents are its pair
pub put_contents : HasContents (state_of [] 15 put_resolved) (pair 1 1 ∷ [])
unfolding ref_of rows_within
put_contents =
    record { leaves = record { base = 4; row = the_leaf } ∷ []; reached = leaf_here the_leaf refl; pairs_are = refl }

-- ---- loads

-- the put's change, with a decision
abbrev the_put : ℕ → ChangeRow
the_put decision =
    record { decision = decision; kind = put_kind; node = 2; index = 0; from = 0; to = 33; owner = 0; key = 1; value = 1 }

-- a load, made when the log had `length` events
abbrev load : ℕ → ℕ → ℕ → Load
load place word length = record { place = place; word = word; length = length }

-- the log is enabled
decided : EachEnabled (start [] 15) put_decided
decided = put_is_lawful.enabled.0

-- the anchor's slot is loaded while the change is undecided
slot_load : IsLoad [] 15 put_decided 3 4 (load 3 51 4)
slot_load =
    record { tells = λ word h. one_word [] 15 (log_at put_decided 4) decided.0.0 3 51 word (shown_in_anchor refl refl) h; place_is = refl; since = omega arith; within = omega arith }

-- a word of a row is loaded after the decision
row_load : (base k word : ℕ) (p : Piece) → (state_of [] 15 put_decided).pieces base ≡ Some p
    → slice_get (words_of p) k ≡ Some word
    → IsLoad [] 15 put_decided (base + k) 4 (load (base + k) word 6)
row_load base k word p e read =
    record { tells = λ other h. one_word [] 15 (log_at put_decided 6) decided (base + k) word other (shown_in_row base k p e refl read) h; place_is = refl; since = omega arith; within = omega arith }

-- a word of a row is loaded before the decision
early_load : (base k word : ℕ) (p : Piece)
    → (state_of [] 15 (log_at put_decided 5)).pieces base ≡ Some p
    → slice_get (words_of p) k ≡ Some word
    → IsLoad [] 15 put_decided (base + k) 4 (load (base + k) word 5)
early_load base k word p e read =
    record { tells = λ other h. one_word [] 15 (log_at put_decided 5) decided.0 (base + k) word other (shown_in_row base k p e refl read) h; place_is = refl; since = omega arith; within = omega arith }

-- a load that counts only from a later moment
since_6 : (base k word : ℕ) (p : Piece) → (state_of [] 15 put_decided).pieces base ≡ Some p
    → slice_get (words_of p) k ≡ Some word
    → IsLoad [] 15 put_decided (base + k) 6 (load (base + k) word 6)
since_6 base k word p e read = grind (arith, row_load)

-- ---- the search

-- the look that loads the decision after the yes
look_after : LooksAt [] 15 put_decided 1 4 6 2 (LeafAt 4)
unfolding ref_of rows_within
look_after = record {
  slot = load 3 51 4;
  index = 0;
  index_is = of_anchor refl refl;
  is_load = slot_load;
  side = 33;
  side_is = by_to 6 (load 6 1 6) (load 11 33 6) refl
      (row_load 6 0 1 (Change (the_put 1)) refl refl) refl
      (row_load 6 5 33 (Change (the_put 1)) refl refl);
  ref_is = no_rebuild (LeafAt 4) refl (λ base e. cc);
}

-- a search that loads the decision after the yes finds the value
pub search_after : Searched [] 15 put_decided 1 4 2 (Some 1)
unfolding rows_within
search_after = record {
  least = 4;
  last = 6;
  since = omega arith;
  comes = begins;
  ref = LeafAt 4;
  look = look_after;
  value_is =
      of_key {base = 4} (load 4 1 6) (load 5 1 6) (since_6 4 0 1 (Leaf the_leaf) refl refl) refl
      (since_6 4 1 1 (Leaf the_leaf) refl refl);
}

-- the look that loads the decision before the yes
look_before : LooksAt [] 15 put_decided 1 4 5 2 Empty
unfolding ref_of rows_within
look_before = record {
  slot = load 3 51 4;
  index = 0;
  index_is = of_anchor refl refl;
  is_load = slot_load;
  side = 0;
  side_is = by_from 6 (load 6 0 5) (load 10 0 5) refl
      (early_load 6 0 0 (Change (the_put 0)) refl refl) (λ e. omega arith)
      (early_load 6 4 0 (Change (the_put 0)) refl refl);
  ref_is = no_rebuild Empty refl (λ base e. cc);
}

-- a search that loads the decision before the yes finds none
pub search_before : Searched [] 15 put_decided 1 4 2 None
search_before =
    record { least = 4; last = 5; since = omega arith; comes = begins; ref = Empty; look = look_before; value_is = of_nothing }
