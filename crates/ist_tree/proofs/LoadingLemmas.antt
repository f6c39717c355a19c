-- What a search costs is the same by each longer log: chains and keys stay. Serves `find`.
use Rattle.std.proofs.Common.{◌≡◌, ℕ, ◌+◌, ◌≤◌, List, [], ◌∷◌, Option, Some, None, refl, sym, ap, ◌∙◌, le_refl, arith, inl, inr, ⊎_elim}
use Rattle.std.specs.List.{sum_by}
use Rattle.std.proofs.lemmas.List.Sums.{sum_by-append}
use Rattle.std.proofs.lemmas.Bool.Decides.{nat_tests}
use Rattle.ist_core.specs.declared.pairs.Pair.{Pair}
use Rattle.ist_core.specs.declared.ports.Full.{Full}
use Rattle.ist_core.specs.WordTerms.{child_count, Piece, Leaf, Inner, Change, Rebuild, as_inner, start}
use Rattle.ist_core.specs.LogTerms.{Snapshot, Log, GoesOn, same_log, Lawful, state_of}
use Rattle.ist_core.specs.TreeTerms.{AllGrow, Chain, no_row, one_row, IsReplaced}
use Rattle.ist_core.proofs.AllLogLemmas.{inner_there, ever_from, grow_between}
use Rattle.ist_math.specs.Guess.{guess_in, distance}
use Rattle.ist_rule.proofs.LaterLemmas.{goes_on_more}
use Rattle.laws_calls.specs.Walking.{IsChainOf, WalksTo, at_top, walks_down}
use Rattle.laws_calls.proofs.WalkLemmas.{walked_chain}
use Rattle.ist_find.specs.Searches.{keys_in}
use Rattle.ist_tree.specs.CallTerms.{row_loads, PassFace, IsAskedForRow, IsAskedIn, IsRefused, IsRowRefused, KeepsRowRefusal, for_leaf, for_other, for_own, for_pair, for_put, for_rebuild, for_remove, for_start}
use Rattle.std.proofs.Math.Nat.{le_trans}
use Rattle.laws_histories.proofs.ChangeLemmas.{changes_rise}
use Rattle.laws_links.proofs.FormLemmas.{replaced_grows}
use Rattle.ist_rows.proofs.ShortLemmas.{left_as, left_between}
use Rattle.laws_real_time.specs.Moments.{Moments}
use Rattle.ist_updates.proofs.WayLemmas.{met_wider}

-- ---- chains

-- a chain is a walk at one moment
chain_walks : (pairs : List Pair) (words : ℕ) (at : Log) (node : ℕ) (rows : List ℕ)
    → Chain (state_of pairs words at) node rows → WalksTo pairs words at node rows
chain_walks pairs words at _ _ no_row = at_top
chain_walks pairs words at _ _ (one_row {node = node} {child = child} {rows = rows} i chain c) =
    walks_down i (chain_walks pairs words at node rows chain) same_log c

-- so the chain of a node is its chain in each longer log
pub chain_on : (pairs : List Pair) (words : ℕ) (log longer : Log) → Lawful pairs words longer
    → GoesOn log longer → (node : ℕ) (rows : List ℕ) → IsChainOf pairs words log node rows
    → IsChainOf pairs words longer node rows
chain_on pairs words log longer lawful g node rows is =
    grind (arith, ever_from, walked_chain, goes_on_more, chain_walks)

-- ---- costs

-- what some keys cost
abbrev keys_cost : ℕ → List ℕ → ℕ
keys_cost key keys = distance (guess_in keys key) (child_count keys key) + 12

-- no keys cost least
none_cost : (key : ℕ) → keys_cost key [] ≡ 12
none_cost key = grind (arith, nat_tests)

-- a row costs no less in a later state
row_rises : (t u : Snapshot) → AllGrow t.pieces u.pieces → (key row : ℕ)
    → row_loads t key row ≤ row_loads u key row
row_rises t u g key row = at (t.pieces row) refl
  where
    least : (p : Option Piece) → t.pieces row ≡ p → as_inner p ≡ None
        → row_loads t key row ≤ row_loads u key row
    least p e none = grind (arith, none_cost)

    at : (p : Option Piece) → t.pieces row ≡ p → row_loads t key row ≤ row_loads u key row
    at (Some (Inner r)) e = let on = inner_there t.pieces u.pieces g row r e in
        let same : row_loads u key row ≡ row_loads t key row =
        ap (λ (q : Option Piece). keys_cost key (keys_in (as_inner q))) on.1
        ∙ ap (keys_cost key) on.2.keys
        ∙ sym (ap (λ (q : Option Piece). keys_cost key (keys_in (as_inner q))) e) in
        omega arith
    at (Some (Leaf r)) e = least (Some (Leaf r)) e refl
    at (Some (Change r)) e = least (Some (Change r)) e refl
    at (Some (Rebuild r)) e = least (Some (Rebuild r)) e refl
    at None e = least None e refl

-- what rows cost together doesn't fall
pub costs_rise : (t u : Snapshot) → AllGrow t.pieces u.pieces → (key : ℕ) (rows : List ℕ)
    → sum_by (row_loads t key) rows ≤ sum_by (row_loads u key) rows
costs_rise t u g key [] = le_refl 0
costs_rise t u g key (row ∷ rows) =
    let before : sum_by (row_loads t key) (row ∷ rows)
    ≡ (0 + row_loads t key row) + sum_by (row_loads t key) rows =
    sum_by-append (row_loads t key) (row ∷ []) rows in
    let following : sum_by (row_loads u key) (row ∷ rows)
    ≡ (0 + row_loads u key row) + sum_by (row_loads u key) rows =
    sum_by-append (row_loads u key) (row ∷ []) rows in
    let one = row_rises t u g key row in let more = costs_rise t u g key rows in omega arith

-- ---- a pass that has let calls go: the refusals of its next call are refusals since the beginning too.
-- Serves `run_rounds`.

-- the pass as it was let go, when it had seen the log and the moments, had made this many loads and
-- had begun this many walks
abbrev pub let_go_at : PassFace → Log → ℕ → ℕ → Moments → PassFace
let_go_at p seen loaded searches moments =
    record p { seen = seen; moments = moments; loaded = loaded; searches = searches }

module _ (p : PassFace) (seen : Log) (loaded searches : ℕ) (moments : Moments) (g : GoesOn p.seen seen) (q : PassFace) where
  -- the pass between the two parts
  abbrev m : PassFace
  m = let_go_at p seen loaded searches moments

  -- what wasn't replaced between the parts wasn't before
  unreplaced_since : Lawful p.tree.start p.tree.words seen → (rebuild : ℕ)
      → ¬ (IsReplaced (state_of p.tree.start p.tree.words seen) rebuild)
      → ¬ (IsReplaced (state_of p.tree.start p.tree.words p.seen) rebuild)
  unreplaced_since lawful rebuild unreplaced k = unreplaced
      (replaced_grows (state_of p.tree.start p.tree.words p.seen)
      (state_of p.tree.start p.tree.words seen)
      (grow_between p.tree.start p.tree.words p.seen seen lawful.enabled g) rebuild k)

  -- a refusal to rebuild a row in the second part is one since the first
  pub row_since : Lawful p.tree.start p.tree.words seen → (row : ℕ) (full : Full)
      → IsRowRefused m q row full → IsRowRefused p q row full
  row_since lawful row full r = record {
    came = record {
      at = r.came.at;
      since = goes_on_more g r.came.since;
      until = r.came.until;
      row = r.came.row;
      published = r.came.published;
      reached = r.came.reached;
    };
    had = record {
      at = r.had.at;
      since = goes_on_more g r.had.since;
      until = r.had.until;
      left = left_as full r.had.left (here r.had.at);
    };
    after = r.after;
  }
    where
      here : (at : Log) → IsAskedForRow m q at row full.asked → IsAskedForRow p q at row full.asked
      here at (for_start e lacked) = for_start e lacked
      here at (for_own own) = for_own own
      here at (for_other met slot size help) = for_other
          record {
            rebuild = met.rebuild;
            started = met.started;
            unreplaced = unreplaced_since lawful met.rebuild met.unreplaced;
          }
          slot size help

  -- what the second part asked for
  asked_since : Lawful p.tree.start p.tree.words seen → (at : Log) (key : ℕ) (value : Option ℕ)
      (asked : ℕ) → IsAskedIn m q at key value asked → IsAskedIn p q at key value asked
  asked_since lawful at key _ asked (for_leaf e lacked) = for_leaf e lacked
  asked_since lawful at key _ asked (for_pair e lacked met) = for_pair e lacked
      (met_wider p.tree.start p.tree.words p.seen seen q.seen q.seen g same_log key met)
  asked_since lawful at key _ asked (for_put e lacked) = for_put e lacked
  asked_since lawful at key _ asked (for_remove found has e lacked) = for_remove found
      record {
        position = has.position;
        from = le_trans (changes_rise (start p.tree.start p.tree.words) p.seen seen g) has.from;
        to = has.to;
        value_is = has.value_is;
      }
      e lacked
  asked_since lawful at key value asked (for_rebuild met way size help) = for_rebuild
      record {
        rebuild = met.rebuild;
        started = met.started;
        unreplaced = unreplaced_since lawful met.rebuild met.unreplaced;
      }
      way size help

  -- a refusal of the second part is one since the first
  pub refused_since : Lawful p.tree.start p.tree.words seen → (key : ℕ) (value : Option ℕ) (full : Full)
      → IsRefused m q key value full → IsRefused p q key value full
  refused_since lawful key value full r =
      left_between g same_log full r (λ at since until. asked_since lawful at key value full.asked)

  -- a refusal of a rebuild is kept since the first part
  pub keeps_since : Lawful p.tree.start p.tree.words seen → KeepsRowRefusal m q → KeepsRowRefusal p q
  keeps_since lawful k = record {
    stays = k.stays;
    cause = λ full e.
        ⊎_elim (λ was. inl was) (λ r. inr (r.0, row_since lawful r.0 full r.1)) (k.cause full e);
  }
