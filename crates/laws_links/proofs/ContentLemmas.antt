-- Contents exist after each lawful log, so linked slots are set. Serves `laws.updates_alone_change`.
use Rattle.std.proofs.Common.{List, Some, [], ap, arith, map, refl, subst, sym, true, ℕ, ⊎_elim, ◌↔◌, ◌∙◌, ◌∷◌, ◌≡◌, ◌≢◌, ◌⊎◌, length, ◌*◌, ◌+◌, ◌≤◌}
use Rattle.std.proofs.lemmas.Bool.Decides.{eqb_tells}
use Rattle.ist_core.specs.declared.events.Event.{Event}
use Rattle.ist_core.specs.declared.events.Event.TheVariants.{Decide, Finish}
use Rattle.ist_core.specs.declared.pairs.Pair.{Pair}
use Rattle.ist_core.specs.declared.states.InnerRow.{InnerRow}
use Rattle.ist_core.specs.LogTerms.{CanOpen, EachEnabled, state_of, Log}
use Rattle.ist_core.specs.TreeTerms.{HasContents, pair_of, Linked, at_anchor, below, IsUpdate, HasLeaves, PlacedLeaf, CanFinish, IsFinishedWith}
use Rattle.ist_core.specs.WordTerms.{InnerAt, Unset, anchor, first_row, SlotHolds, in_anchor, in_row, logical, past_change, past_rebuild, start, tree_at, Inner, place_limit, finished_word}
use Rattle.ist_core.proofs.AllPlaceLemmas.{mentioned_here, contents_are_one, child_mentioned, names, anchor_free, no_row, Mentions, reached, leaves_lie, one_home, AreRisingKeys, key_of_leaf}
use Rattle.ist_core.proofs.AllEventLemmas.{start_anchor, start_hangs}
use Rattle.ist_core.proofs.AllWordLemmas.{same_change, same_inner}
use Rattle.laws_links.proofs.UntouchedLemmas.{not_the_anchor, was_linked_parent}
use Rattle.laws_links.proofs.ExistLemmas.{HasSome, row_slot, split_reads, split_some}
use Rattle.laws_links.proofs.KeepingContentLemmas.{contents_kept, unset_leaves, leaves_step}
use Rattle.laws_links.specs.Replacing.{LeavesContents}
use Rattle.laws_links.proofs.ReplacedLemmas.{update_contents}
use Rattle.ist_core.proofs.AllLogLemmas.{leaves_kept, published_good, distinct_below}
use Rattle.laws_links.proofs.ClosedLemmas.{closed_was_linked}
use Rattle.laws_links.proofs.ComesLemmas.{status_comes, start_quiet}
use Rattle.laws_links.proofs.LinkLemmas.{linked_or_finished}
use Rattle.laws_links.proofs.PassLemmas.{StatusComes, finished_now, is_new, marked_now, status_was}
use Rattle.laws_links.proofs.FinishedLemmas.{bases_distinct, bases_low, leaf_bases, leaves_stand, length-leaf_bases}
use Rattle.laws_links.proofs.NumberLemmas.{number_is}
use Rattle.ist_core.proofs.UnderLemmas as under

module _ (pairs : List Pair) (words : ℕ) (opens : CanOpen pairs words) where
  -- is this the kind of a put or remove
  kind_is : (kind : ℕ) → IsUpdate kind ⊎ ¬ (IsUpdate kind)
  kind_is kind = grind (arith, eqb_tells)

  -- the anchor has some leaves
  abbrev AnchorHas : Log → Type 0
  AnchorHas log = let t = state_of pairs words log in HasSome t.pieces (logical t.pieces t.anchor)

  kept : (log : Log) (event : Event) → EachEnabled (start pairs words) (event ∷ log)
      → LeavesContents (state_of pairs words log) event → AnchorHas log → AnchorHas (event ∷ log)
  kept log event h leaves some =
      let c = contents_kept pairs words opens log event h leaves (map pair_of some.leaves) record { leaves = some.leaves; reached = some.reached; pairs_are = refl } in
      record { leaves = c.leaves; reached = c.reached }

  -- an event keeps the contents, or is a Decide with yes of a put or remove
  contents_some : (log : Log) (event : Event) → EachEnabled (start pairs words) (event ∷ log)
      → AnchorHas log → AnchorHas (event ∷ log)
  contents_some log (Decide caller base true) h some = ⊎_elim
      (λ update. update_contents pairs words opens log caller base h update some)
      (λ other. kept log (Decide caller base true) h (λ change e k. other (subst (λ c. IsUpdate c.kind) (same_change ((state_of pairs words log).pieces base) change h.1.change e h.1.pending.published) k)) some)
      (kind_is h.1.change.kind)
  contents_some log event h some = kept log event h tt some

  -- contents exist
  anchor_has : (log : Log) → EachEnabled (start pairs words) log → AnchorHas log
  anchor_has [] h = let t = start pairs words in
      let hang = start_hangs pairs words opens anchor (omega arith) in
      let some = split_some (λ pair. pair.key) t.pieces (tree_at first_row pairs) pairs hang.rows hang.splits in
      let read : logical t.pieces t.anchor ≡ Some (tree_at first_row pairs) =
      ap (λ o. past_rebuild t.pieces (past_change t.pieces o)) (start_anchor pairs words opens) ∙ split_reads (λ pair. pair.key) t.pieces (tree_at first_row pairs) pairs hang.rows hang.splits in
      subst (λ o. HasSome t.pieces o) (sym read) some
  anchor_has (event ∷ log) h = contents_some log event h (anchor_has log h.0)

  -- contents exist after each lawful log
  pub contents_exist : (log : Log) → EachEnabled (start pairs words) log
      → (contents : List Pair) × HasContents (state_of pairs words log) contents
  contents_exist log h = let some = anchor_has log h in
      (map pair_of some.leaves, record { leaves = some.leaves; reached = some.reached; pairs_are = refl })

  -- an event that decides no update yes leaves the contents
  pub contents_same : (log : Log) (event : Event) → EachEnabled (start pairs words) (event ∷ log)
      → LeavesContents (state_of pairs words log) event → (contents : List Pair)
      → HasContents (state_of pairs words log) contents ↔ HasContents (state_of pairs words (event ∷ log)) contents
  contents_same log event h leaves contents =
      (contents_kept pairs words opens log event h leaves contents, back)
    where
      back : HasContents (state_of pairs words (event ∷ log)) contents
          → HasContents (state_of pairs words log) contents
      back now = let it = contents_exist log h.0 in
          let same = contents_are_one (state_of pairs words (event ∷ log)) it.0 contents (contents_kept pairs words opens log event h leaves it.0 it.1) now in
          subst (λ xs. HasContents (state_of pairs words log) xs) same it.1

  -- ---- linked rows

  -- each slot of a linked node has some leaves
  linked_slot : (log : Log) → EachEnabled (start pairs words) log → (node i word : ℕ)
      → Linked (state_of pairs words log) node → SlotHolds (state_of pairs words log) node i word
      → HasSome (state_of pairs words log).pieces (logical (state_of pairs words log).pieces word)
  linked_slot log h _ i word at_anchor (in_anchor a b e) = grind (arith, HasSome, anchor_has)
  linked_slot log h _ i word at_anchor (in_row r e at) = grind (arith, no_row, anchor_free)
  linked_slot log h _ i word (below {node = node} {child = child} j l c) (in_anchor a b e) =
      let t = state_of pairs words log in let o = names pairs words opens log h in
      let row = mentioned_here t node j child o (child_mentioned t node j child o c) in
      absurd (not_the_anchor pairs words opens log h child row.0 row.1 a)
  linked_slot log h _ i word (below {node = node} {child = child} j l c) (in_row r e at) =
      let t = state_of pairs words log in let up = linked_slot log h node j c.word l c.holds in
      row_slot t.pieces child r e (subst (λ o. HasSome t.pieces o) c.reads up) i word at

  -- a slot of a linked node is set
  pub linked_set : (log : Log) → EachEnabled (start pairs words) log → (node i word : ℕ)
      → Linked (state_of pairs words log) node → SlotHolds (state_of pairs words log) node i word
      → logical (state_of pairs words log).pieces word ≢ Some Unset
  linked_set log h node i word l slot unset = let t = state_of pairs words log in
      let some = subst (λ o. HasSome t.pieces o) unset (linked_slot log h node i word l slot) in
      unset_leaves t.pieces some.leaves some.reached

  -- a linked row has some leaves
  pub linked_some : (log : Log) → EachEnabled (start pairs words) log → (node : ℕ) → node ≢ anchor
      → Linked (state_of pairs words log) node
      → HasSome (state_of pairs words log).pieces (Some (InnerAt node))
  linked_some log h _ apart at_anchor = absurd (apart refl)
  linked_some log h _ apart (below {node = node} i l c) =
      subst (λ o. HasSome (state_of pairs words log).pieces o) c.reads
      (linked_slot log h node i c.word l c.holds)

-- ---- a finished row has leaves below it; its number is how many, and there are at most as many as a
-- table has places. Serves `laws.numbers_count_leaves`.

-- two inner rows are one
pub inner_base : (a b : ℕ) → Some (InnerAt a) ≡ Some (InnerAt b) → InnerAt a ≡ InnerAt b
inner_base a b e = cc

module _ (pairs : List Pair) (words : ℕ) (opens : CanOpen pairs words) where
  -- a row that may be finished is linked
  pub finishing_linked : (log : Log) → EachEnabled (start pairs words) log → (caller node keys : ℕ)
      → CanFinish (state_of pairs words log) log caller node keys
      → Linked (state_of pairs words log) node
  finishing_linked log h caller node keys can =
      grind (arith, same_inner, linked_or_finished, closed_was_linked)

  -- a finished row has some leaves
  finished_some : (log : Log) → EachEnabled (start pairs words) log → (node k : ℕ) (r : InnerRow)
      → (state_of pairs words log).pieces node ≡ Some (Inner r) → r.status ≡ finished_word k
      → HasSome (state_of pairs words log).pieces (Some (InnerAt node))
  finished_some [] h node k r e is =
      let open_status : r.status ≡ 0 = start_quiet pairs words node (Inner r) e in
      let odd : r.status ≡ 4 * k + 3 = is in absurd (omega arith)
  finished_some (event ∷ log) h node k r e is =
      by_origin event h (status_comes pairs words log event h node r e)
      (λ s old same. finished_some log h.0 node k s old same)
    where
      by_origin : (event : Event) → EachEnabled (start pairs words) (event ∷ log)
          → StatusComes (start pairs words) log node r.status event
          → ((s : InnerRow) → (state_of pairs words log).pieces node ≡ Some (Inner s)
          → s.status ≡ finished_word k
          → HasSome (state_of pairs words log).pieces (Some (InnerAt node)))
          → HasSome (state_of pairs words (event ∷ log)).pieces (Some (InnerAt node))
      by_origin event all (status_was s old same) before = let it = before s old (sym same ∙ is) in
          record { leaves = it.leaves; reached = leaves_kept pairs words opens log event all node it.leaves (k, record { row = s; published = old; status = sym same ∙ is }) it.reached }
      by_origin event all (is_new none same) before = grind arith
      by_origin _ all (marked_now can same) before = grind arith
      by_origin _ all (finished_now {caller = caller} {keys = keys} can same) before =
          let apart = not_the_anchor pairs words opens log all.0 node can.row can.published in
          let it = linked_some pairs words opens log all.0 node apart (finishing_linked log all.0 caller node keys can) in
          record { leaves = it.leaves; reached = leaves_step pairs words opens log (Finish caller node keys) all tt (Some (InnerAt node)) it.leaves it.reached }

  -- a finished row has leaves, and its number is how many
  pub finished_leaves : (log : Log) → EachEnabled (start pairs words) log → (node k : ℕ)
      → IsFinishedWith (state_of pairs words log) node k
      → (leaves : List PlacedLeaf) × HasLeaves (state_of pairs words log).pieces (Some (InnerAt node)) leaves × (length leaves ≡ k)
  finished_leaves log h node k f = let it = finished_some log h node k f.row f.published f.status in
      (it.leaves, it.reached, number_is pairs words opens log h node k it.leaves f it.reached)

  -- the leaves below a finished row have strictly increasing keys
  finished_rise : (log : Log) → EachEnabled (start pairs words) log → (node k : ℕ)
      → IsFinishedWith (state_of pairs words log) node k → (leaves : List PlacedLeaf)
      → HasLeaves (state_of pairs words log).pieces (Some (InnerAt node)) leaves
      → AreRisingKeys key_of_leaf leaves
  finished_rise log h node k f leaves reached = let t = state_of pairs words log in
      let some = f.status in
      let was =
      closed_was_linked pairs words opens log h node f.row f.published (λ o. omega arith) in
      let up = was_linked_parent pairs words opens log h node (not_the_anchor pairs words opens log h node f.row f.published) was in
      (under.leaves_under t (Some (InnerAt node)) leaves (names pairs words opens log h) (one_home pairs words opens log h) (anchor_free pairs words log h) (leaves_lie pairs words opens log h) reached up.parent up.i
      record {
        a_leaf = λ base e. absurd (cc);
        a_row =
            λ base e. subst (λ r. Mentions t up.parent up.i r) (inner_base node base e) up.named;
      }).1

  -- a row is finished with at most as many keys as a table has places
  pub finished_few : (log : Log) → EachEnabled (start pairs words) log → (node k : ℕ)
      → IsFinishedWith (state_of pairs words log) node k → k ≤ place_limit
  finished_few log h node k f = let t = state_of pairs words log in
      let it = finished_leaves log h node k f in
      let rise = finished_rise log h node k f it.0 it.1 in
      let all = leaves_stand t.pieces (Some (InnerAt node)) it.0 it.1 in
      let few = distinct_below place_limit (leaf_bases it.0) (bases_distinct t.pieces it.0 all rise)
      (bases_low t.pieces place_limit (λ b p there. (published_good pairs words opens log b p h there).below_limit) it.0 all) in
      let long = length-leaf_bases it.0 in let number = it.2 in omega arith
