-- A walk by the children for a key is a search for it. Serves the law on walks by key.
use Rattle.std.proofs.Common.{List, None, Option, Some, ap, arith, false, inl, inr, length, refl, slice_get, subst, sym, true, ℕ, ◌+◌, ◌==◌, ◌∙◌, ◌≡◌, ◌≢◌, ◌≤◌, ◌⊎◌}
use Rattle.std.proofs.lemmas.Bool.Decides.{eqb_tells}
use Rattle.ist_core.specs.declared.loads.Load.{Load}
use Rattle.ist_core.specs.declared.pairs.Pair.{Pair}
use Rattle.ist_core.specs.declared.states.ChangeRow.{ChangeRow}
use Rattle.ist_core.specs.LogTerms.{side_of, CanOpen, EachEnabled, Lawful, state_of, GoesOn, Log, same_log, IsShown, shown_row, Snapshot}
use Rattle.ist_core.specs.TreeTerms.{IsChild, place_of_slot}
use Rattle.ist_core.specs.WordTerms.{Change, Inner, Leaf, Piece, Rebuild, words_of, ChangeAt, Empty, InnerAt, LeafAt, RebuildAt, Ref, Unset, ref_of, change_decision_offset, change_from_offset, change_to_offset, rebuild_target_offset, IsChildFor, change_reads, logical, past_change, past_rebuild, rebuild_reads, start, decided_yes}
use Rattle.ist_core.proofs.AllLogLemmas.{enabled_before, side_not_yes, one_word, goes_on_more, goes_on_length}
use Rattle.ist_core.proofs.AllPlaceLemmas.{anchor_free, slot_once}
use Rattle.laws_links.proofs.ReadLemmas.{side_yes}
use Rattle.laws_stability.proofs.HoldingLemmas.{slot_later}
use Rattle.laws_histories.specs.Loads.{IsLoad, log_at}
use Rattle.laws_histories.specs.Searching.{LooksAt, ReadsSide, ReadsTarget, by_from, by_target, by_to, no_change, no_rebuild}
use Rattle.laws_histories.proofs.ChangeLemmas.{at_prefix}
use Rattle.laws_calls.specs.Walking.{ComesBy, WalksByKey, WalksTo, at_first, at_top, begins_by, goes_by, walks_down, walks_for}

-- a walk by key is a walk
pub key_walk : (pairs : List Pair) (words key : ℕ) (first at : Log) (node : ℕ) (rows : List ℕ)
    → WalksByKey pairs words key first at node rows → WalksTo pairs words at node rows
key_walk pairs words key first _ _ _ at_first = at_top
key_walk pairs words key first _ _ _
    (walks_for {before = before} {node = node} {rows = rows} i w on is c) =
    walks_down i (key_walk pairs words key first before node rows w) on c

module _ (pairs : List Pair) (words : ℕ) (opens : CanOpen pairs words) (log : Log)
    (h : EachEnabled (start pairs words) log) (at : Log) (on : GoesOn at log) where
  -- ---- loads of one moment

  -- the state at this moment
  abbrev t : Snapshot
  t = state_of pairs words at

  -- the log was lawful at this moment
  lawful : Lawful pairs words at
  lawful = record { opens = opens; enabled = enabled_before (start pairs words) at log on h }

  -- the log as it was at this moment
  then_is : log_at log (length at) ≡ at
  then_is = at_prefix at log on

  -- a load at this moment, of a place with this word
  abbrev load_of : ℕ → ℕ → Load
  load_of place word = record { place = place; word = word; length = length at }

  -- a load at this moment, of a place that shows its word, is a load in the definitions' sense
  is_load : (place word least : ℕ) → least ≤ length at
      → ((other : ℕ) → IsShown t place other → word ≡ other)
      → IsLoad pairs words log place least (load_of place word)
  is_load place word least since tells = grind (arith, then_is, goes_on_length)

  -- a word of a published row
  row_load : (base k word : ℕ) (p : Piece) → t.pieces base ≡ Some p
      → slice_get (words_of p) k ≡ Some word
      → IsLoad pairs words log (base + k) (length at) (load_of (base + k) word)
  row_load base k word p e get = is_load (base + k) word (length at) (omega arith)
      (λ other shown. one_word pairs words at lawful.enabled (base + k) word other
      (shown_row base p k e get) shown)

  -- ---- what the loads read

  -- if a reference leads to a child, the child is read directly or as the target of its rebuild
  target_read : (word child : ℕ) → past_rebuild t.pieces (ref_of word) ≡ Some (InnerAt child)
      → ReadsTarget pairs words log (length at) word (InnerAt child)
  target_read word child reads = case (ref_of word) refl reads
    where
      by_rebuild : (base : ℕ) → ref_of word ≡ Some (RebuildAt base) → (o : Option Piece)
          → t.pieces base ≡ o → rebuild_reads o ≡ Some (InnerAt child)
          → ReadsTarget pairs words log (length at) word (InnerAt child)
      by_rebuild base is (Some (Rebuild r)) e reads =
          let same : InnerAt r.target ≡ InnerAt child = cc in
          subst (λ ref. ReadsTarget pairs words log (length at) word ref) same
          (by_target base (load_of (base + rebuild_target_offset) r.target) is
          (row_load base rebuild_target_offset r.target (Rebuild r) e refl))
      by_rebuild base is (Some (Leaf r)) e reads = absurd (cc)
      by_rebuild base is (Some (Inner r)) e reads = absurd (cc)
      by_rebuild base is (Some (Change r)) e reads = absurd (cc)
      by_rebuild base is None e reads = absurd (cc)

      case : (o : Option Ref) → ref_of word ≡ o → past_rebuild t.pieces o ≡ Some (InnerAt child)
          → ReadsTarget pairs words log (length at) word (InnerAt child)
      case (Some (RebuildAt base)) is reads = by_rebuild base is (t.pieces base) refl reads
      case (Some (InnerAt base)) is reads = no_rebuild (InnerAt child) (is ∙ reads) (λ base e. cc)
      case (Some Empty) is reads = absurd (cc)
      case (Some Unset) is reads = absurd (cc)
      case (Some (LeafAt base)) is reads = absurd (cc)
      case (Some (ChangeAt base)) is reads = absurd (cc)
      case None is reads = absurd (cc)

  -- what a slot's word reads as, once changes are read away
  record SideRead (slot : Load) (child : ℕ) : Type 0 where
    side : ℕ
    side_is : ReadsSide pairs words log slot side (length at)
    reads : past_rebuild t.pieces (ref_of side) ≡ Some (InnerAt child)

  -- the side of a change that its decision leaves is loaded
  change_read : (place word child base : ℕ) (x : ChangeRow) → ref_of word ≡ Some (ChangeAt base)
      → t.pieces base ≡ Some (Change x)
      → past_rebuild t.pieces (ref_of (side_of x)) ≡ Some (InnerAt child)
      → SideRead (load_of place word) child
  change_read place word child base x is e reads = by_decision (eqb_tells x.decision decided_yes)
    where
      by_decision : (((x.decision == decided_yes) ≡ true) × (x.decision ≡ decided_yes))
          ⊎ (((x.decision == decided_yes) ≡ false) × (x.decision ≢ decided_yes))
          → SideRead (load_of place word) child
      by_decision (inl said) = record {
        side = x.to;
        side_is = by_to base (load_of (base + change_decision_offset) x.decision)
            (load_of (base + change_to_offset) x.to) is
            (row_load base change_decision_offset x.decision (Change x) e refl) said.1
            (row_load base change_to_offset x.to (Change x) e refl);
        reads = grind (arith, side_yes);
      }
      by_decision (inr unsaid) = record {
        side = x.from;
        side_is = by_from base (load_of (base + change_decision_offset) x.decision)
            (load_of (base + change_from_offset) x.from) is
            (row_load base change_decision_offset x.decision (Change x) e refl) unsaid.1
            (row_load base change_from_offset x.from (Change x) e refl);
        reads = grind (arith, side_not_yes);
      }

  -- a slot's word that reads as a child
  side_read : (place word child : ℕ) → logical t.pieces word ≡ Some (InnerAt child)
      → SideRead (load_of place word) child
  side_read place word child reads = case (ref_of word) refl reads
    where
      by_change : (base : ℕ) → ref_of word ≡ Some (ChangeAt base) → (o : Option Piece)
          → t.pieces base ≡ o → past_rebuild t.pieces (change_reads o) ≡ Some (InnerAt child)
          → SideRead (load_of place word) child
      by_change base is (Some (Change x)) e reads = change_read place word child base x is e reads
      by_change base is (Some (Leaf x)) e reads = absurd (cc)
      by_change base is (Some (Inner x)) e reads = absurd (cc)
      by_change base is (Some (Rebuild x)) e reads = absurd (cc)
      by_change base is None e reads = absurd (cc)

      plain : (o : Option Ref) → ref_of word ≡ o → ((base : ℕ) → o ≢ Some (ChangeAt base))
          → past_rebuild t.pieces o ≡ Some (InnerAt child) → SideRead (load_of place word) child
      plain o is other reads = record {
        side = word;
        side_is = no_change (λ base e. other base (sym is ∙ e));
        reads = ap (past_rebuild t.pieces) is ∙ reads;
      }

      case : (o : Option Ref) → ref_of word ≡ o
          → past_rebuild t.pieces (past_change t.pieces o) ≡ Some (InnerAt child)
          → SideRead (load_of place word) child
      case (Some (ChangeAt base)) is reads = by_change base is (t.pieces base) refl reads
      case (Some (RebuildAt base)) is reads = plain (Some (RebuildAt base)) is (λ b e. cc) reads
      case (Some (InnerAt base)) is reads = plain (Some (InnerAt base)) is (λ b e. cc) reads
      case (Some Empty) is reads = absurd (cc)
      case (Some Unset) is reads = absurd (cc)
      case (Some (LeafAt base)) is reads = absurd (cc)
      case None is reads = absurd (cc)

  -- ---- one look

  -- a step of the walk is a look
  step_look : (key least node i child : ℕ) → least ≤ length at → IsChildFor t node key i
      → IsChild t node i child → LooksAt pairs words log key least (length at) node (InnerAt child)
  step_look key least node i child since is c = let place = place_of_slot t node i in
      let it = side_read place c.word child c.reads in
      let free = anchor_free pairs words at lawful.enabled in record {
        slot = load_of place c.word;
        index = i;
        index_is = subst (λ xs. IsChildFor (state_of pairs words xs) node key i) (sym then_is) is;
        is_load = subst
            (λ xs. IsLoad pairs words log (place_of_slot (state_of pairs words xs) node i) least
            (load_of place c.word)) (sym then_is)
            (is_load place c.word least since
            (λ other shown. slot_once t node i c.word other free c.holds
            (slot_later pairs words at at same_log lawful.enabled node i c.word c.holds other
            shown)));
        side = it.side;
        side_is = it.side_is;
        ref_is = target_read it.side child it.reads;
      }

module _ (pairs : List Pair) (words : ℕ) (opens : CanOpen pairs words) (log : Log)
    (h : EachEnabled (start pairs words) log) (key : ℕ) (first : Log) where
  -- the walk is a search
  pub walk_comes : (at : Log) → GoesOn at log → (node : ℕ) (rows : List ℕ)
      → WalksByKey pairs words key first at node rows
      → ComesBy pairs words log key (length first) (length at) node rows
  walk_comes _ on _ _ at_first = begins_by
  walk_comes _ on _ _
      (walks_for {before = before} {at = at} {node = node} {child = child} {rows = rows} i w more is
      c) =
      goes_by (walk_comes before (goes_on_more more on) node rows w)
      (step_look pairs words opens log h at on key (length before) node i child
      (goes_on_length more) is c)
