-- A root of one row that a caller has built, and that it may put in place or lose. Serves `races`.
use Rattle.std.proofs.Common.{◌≡◌, ◌≢◌, ℕ, ◌+◌, ◌-◌, ◌/◌, ◌<◌, List, [], ◌∷◌, length, take, drop, slice_get, Some, refl, sym, ap, ap₂, ◌∙◌, subst, ⊎_elim, arith}
use Rattle.std.proofs.lemmas.List.{take_all}
use Rattle.ist_core.specs.declared.events.Event.{Event}
use Rattle.ist_core.specs.declared.events.Event.TheVariants.{Root, Lose}
use Rattle.ist_core.specs.declared.events.Who.TheVariants.{Caller as CallerOf}
use Rattle.ist_core.specs.declared.lists.HeldRow.{HeldRow}
use Rattle.ist_core.specs.declared.lists.Row.{Row}
use Rattle.ist_core.specs.WordTerms.{degree, square_root, root_up_to, part_len, part_lens, IsIdeal, Inner, Rebuild, with_inners, Ref, InnerAt, ref_of, tag_count, unset_word, pair_words, rebuild_root_offset, shape, shape_within}
use Rattle.ist_core.specs.TreeTerms.{CanRoot, IsRoot, root_whole, AllGrow, HasTarget, PlacedLeaf, HasLeaves, IsFinishedWith}
use Rattle.ist_core.specs.LogTerms.{Among, Each, state_of, Snapshot, bases_of, sizes_of, HoldsRows, IsShown, shown_row, no_more}
use Rattle.ist_core.proofs.AllLogLemmas.{rebuild_there, finished_leaves_stay}
use Rattle.ist_core.proofs.AllPlaceLemmas.{placed, claimed_within}
use Rattle.laws_coming.specs.Builds.{IsRootBuilt}
use Rattle.laws_coming.proofs.RootLemmas.{root_comes, root_comes_or_loses}
use Rattle.laws_coming.proofs.SizeLemmas.{IsRootSizes, of_whole, of_top, root_sizes}
use Rattle.laws_links.proofs.FinishedLemmas.{target_grows}
use Rattle.laws_links.proofs.FormLemmas.{finished_with_grows}
use Rattle.laws_links.proofs.ContentLemmas.{finished_leaves}
use Rattle.ist_rebuild.proofs.EventLemmas.{started_went}
use Rattle.ist_rule.specs.RuleTerms.{CanExchangeOrLose, StoredAll, WentOn, now, GoesOnTo, Looked, IsSound, own_at, number_of}
use Rattle.ist_rule.specs.declared.view.View.{View}
use Rattle.ist_rule.specs.declared.view.OwnWord.{OwnWord}
use Rattle.ist_rule.proofs.EventLemmas.{looked_goes_on}
use Rattle.ist_rule.proofs.WentOnLemmas.{goes_on_grow, goes_on_lawful, goes_on_now, went_grow, went_lawful, went_now, later_by-goes_on}
use Rattle.ist_core.proofs.RebuildExampleLemmas.{two_is_few}
use Rattle.ist_rows.specs.declared.callers.Caller.{Caller}
use Rattle.ist_build.specs.Calls.{Builds, IsPartLaid, MayBuild, share_whole}
use Rattle.ist_build.proofs.HeldMoreLemmas.{stored_rows}
use Rattle.ist_build.proofs.LayingLemmas.{rows_free}
use Rattle.ist_build.proofs.RootReadyLemmas.{root_topped, topped_base, IsTopped}
use Rattle.test_rebuilds.specs.Races.{HasLaid, HoldsRoot, row_named, racing_at}
use Rattle.test_rebuilds.specs.Steps.{HasMarkedTarget}

-- ---- what is built

-- a root over two keys has one row
shape_two : shape 2 ≡ pair_words ∷ []
unfolding shape shape_within degree square_root root_up_to part_len part_lens
shape_two = refl

-- both leaves may be built over
pub may_build : (t : Snapshot) (rebuild target keys : ℕ) → keys ≡ 2 → HasMarkedTarget t rebuild target keys
    → MayBuild t target 0 2
may_build t rebuild target keys two m = grind (arith, two_is_few)

-- of one row of this size the list is that row's base
one_base : (rows : List Row) (base : ℕ) (rest : List ℕ) → sizes_of rows ≡ pair_words ∷ []
    → bases_of rows ≡ base ∷ rest → bases_of rows ≡ base ∷ []
one_base [] base rest e f = absurd (let n = ap length e in omega arith)
one_base (row ∷ []) base rest e f = let same : row.base ≡ base = cc in ap (λ b. b ∷ []) same
one_base (row ∷ other ∷ rows) base rest e f = absurd (let n = ap length e in omega arith)

-- what was built over both leaves is a root for the rebuild
module _ (old new : Caller) (rebuild target keys word : ℕ) (ref : Ref) (two : keys ≡ 2)
    (s : IsSound old.token.view) (m : HasMarkedTarget (now old.token.view) rebuild target keys)
    (mine : old.token.view.who ≡ CallerOf old.number) (number : new.number ≡ old.number)
    (went : WentOn Builds old.token.view new.token.view)
    (laid : (all : List PlacedLeaf)
    → HasLeaves (now old.token.view).pieces (Some (InnerAt target)) all
    → IsPartLaid old new ref (take 2 (drop 0 all))) (ref_is : ref_of word ≡ Some ref) where
  abbrev v : View
  v = old.token.view

  abbrev w : View
  w = new.token.view

  grow : AllGrow (now v).pieces (now w).pieces
  grow = went_grow Builds v w went

  on : HasTarget (now w) rebuild target
  on = target_grows (now v) (now w) grow rebuild target m.target_is

  finished : IsFinishedWith (now v) target 2
  finished = subst (IsFinishedWith (now v) target) two m.finished

  some : (leaves : List PlacedLeaf) × HasLeaves (now v).pieces (Some (InnerAt target)) leaves
      × (length leaves ≡ 2)
  some = finished_leaves v.start v.words s.lawful.opens v.log s.lawful.enabled target 2 finished

  low : target < (now v).next
  low =
      let it = claimed_within v.start v.words v.log target _ s.lawful.enabled
      ((placed v.start v.words v.log s.lawful.enabled).published target (Inner finished.row)
      finished.published) in
      let below = it.below_next in let words = it.some in omega arith

  p : IsPartLaid old new ref (take 2 (drop 0 some.0))
  p = laid some.0 some.1

  reached : HasLeaves (now w).pieces (Some (InnerAt target)) some.0
  reached = grind (arith, went_now, finished_leaves_stay, later_by-goes_on, went_lawful, finished)

  all : take 2 (drop 0 some.0) ≡ some.0
  all = take_all 2 some.0 (let n = some.2 in omega arith)

  root : IsRoot (with_inners (now w).pieces p.rows) word 2 some.0 target (bases_of p.rows)
  root = root_whole ref two_is_few ref_is
      (subst (λ leaves. IsIdeal (with_inners (now w).pieces p.rows) ref leaves target (bases_of p.rows))
      all (p.ideal target low))

  fit : {xs : List ℕ} → IsRootSizes 2 xs → xs ≡ shape 2
  fit (of_whole few e) = e
  fit (of_top many e) = absurd (let few = two_is_few in omega arith)

  sizes : sizes_of p.rows ≡ pair_words ∷ []
  sizes =
      fit (root_sizes (now w).pieces p.rows word 2 some.0 target p.owns.once
      (rows_free w went.sound new.number p.rows p.owns.held) some.2 root)
      ∙ shape_two

  topped : IsTopped word (bases_of p.rows)
  topped = grind (arith, root_topped, root)

  -- the caller holds the one row of the root that it has built
  pub has_laid : HasLaid w new.number rebuild word
  has_laid = record {
    mine = ap (λ x. x.who) went.same ∙ mine ∙ ap CallerOf (sym number);
    rows = p.rows;
    bases = one_base p.rows (word / tag_count) topped.rest sizes
        (topped.bases_are
        ∙ ap (λ b. b ∷ topped.rest) (sym (topped_base word (bases_of p.rows) topped)));
    sizes = sizes;
    stored = p.owns.stored;
    built = record {
      row = on.row;
      published = on.published;
      started = started_went Builds v w went rebuild m.started;
      k = 2;
      finished = subst (λ n. IsFinishedWith (now w) n 2) (sym on.target_is)
          (finished_with_grows (now v) (now w) grow target 2 finished);
      leaves = some.0;
      reached = subst (λ n. HasLeaves (now w).pieces (Some (InnerAt n)) some.0)
          (sym on.target_is) reached;
      root = subst (λ n. IsRoot (with_inners (now w).pieces p.rows) word 2 some.0 n
          (bases_of p.rows)) (sym on.target_is) root;
      once = p.owns.once;
      held = p.owns.held;
    };
  }

-- ---- seeing that there is no root

-- a load of its root word that gives Unset leaves it so, and has seen that the rebuild has no root
module _ (v w : View) (number rebuild place word stood : ℕ) (s : IsSound v)
    (at : place ≡ rebuild + rebuild_root_offset) (looked : Looked v place stood w)
    (is : stood ≡ unset_word) (h : HasLaid v number rebuild word) where
  abbrev root_place : ℕ
  root_place = rebuild + rebuild_root_offset

  g : GoesOnTo v w
  g = looked_goes_on v place stood w looked

  shown : IsShown (now w) root_place unset_word
  shown =
      let on = rebuild_there (now v).pieces (now w).pieces (goes_on_grow v w g) rebuild h.built.row
      h.built.published in
      let here : IsShown (now w) root_place on.0.root =
      shown_row rebuild (Rebuild on.0) 3 on.1 refl in
      subst (IsShown (now w) root_place)
      (sym (looked.stood on.0.root (subst (λ q. IsShown (now w) q on.0.root) (sym at) here)) ∙ is)
      here

  can : CanRoot (state_of v.start v.words w.log) number rebuild word h.rows
  can =
      ((root_comes v s number rebuild word h.rows h.mine h.stored h.built).comes w.log
      record { later = g.later; lawful = goes_on_lawful v w g }
      (subst (λ t. IsShown t root_place unset_word) (goes_on_now v w g) shown)).enabled

  -- and it has seen that the rebuild had no root yet
  pub has_built : HoldsRoot w number rebuild word
  has_built = record {
    laid = record {
      mine = ap (λ x. x.who) g.same ∙ h.mine;
      rows = h.rows;
      bases = h.bases;
      sizes = h.sizes;
      stored = subst (λ (own : List OwnWord). Each (λ (row : Row). (k : ℕ)
          → k < length row.words → slice_get row.words k ≡ Some (own_at own (row.base + k)))
          h.rows) (sym (ap (λ x. x.own) g.same)) h.stored;
      built = subst (λ t. IsRootBuilt t number rebuild word h.rows) (sym (goes_on_now v w g))
          record {
            row = can.row;
            published = can.published;
            started = can.started;
            k = can.k;
            finished = can.finished;
            leaves = can.leaves;
            reached = can.reached;
            root = can.root;
            once = can.once;
            held = can.held;
          };
    };
    unset = record { prefix = w.log; since = no_more; shown = shown };
  }

-- ---- the exchange

-- the row that the word names, as one that is held
abbrev held_row : View → ℕ → HeldRow
held_row v word = record { caller = number_of v.who; base = word / tag_count; size = pair_words }

-- the row that the word names is the one that was built
named : (v : View) (number word : ℕ) → v.who ≡ CallerOf number → IsSound v → (rows : List Row)
    → bases_of rows ≡ word / tag_count ∷ [] → sizes_of rows ≡ pair_words ∷ [] → StoredAll v rows
    → HoldsRows (now v) number rows → row_named v word ≡ rows
named v number word mine s [] bases sizes stored held = grind arith
named v number word mine s (row ∷ []) bases sizes stored held =
    stored_rows v number s (row ∷ []) (held_row v word ∷ []) bases stored held
    (λ h i. ⊎_elim (λ e. subst (λ x. Among x (now v).held) (sym (e ∙ same)) held.0) (λ none. absurd none) i)
  where
    base_is : row.base ≡ word / tag_count
    base_is = cc

    size_is : length row.words ≡ pair_words
    size_is = cc

    same : held_row v word ≡ record { caller = number; base = row.base; size = length row.words }
    same = grind (arith, base_is, size_is)
named v number word mine s (row ∷ other ∷ rows) bases sizes stored held = grind arith

-- the exchange may be the Root, or the Lose
pub may_race : (v : View) (number rebuild place word unset : ℕ) → IsSound v
    → place ≡ rebuild + rebuild_root_offset → unset ≡ unset_word → HoldsRoot v number rebuild word
    → CanExchangeOrLose v place unset word (racing_at v place word).0 (racing_at v place word).1
may_race v number rebuild place word unset s at is h =
    subst (λ (e : Event). CanExchangeOrLose v place unset word e (racing_at v place word).1) (sym root_is)
    (subst (λ (e : Event). CanExchangeOrLose v place unset word (Root number rebuild word h.laid.rows) e)
    (sym lose_is)
    (subst (λ q. CanExchangeOrLose v q unset word (Root number rebuild word h.laid.rows)
    (Lose number (bases_of h.laid.rows))) (sym at)
    (subst (λ u. CanExchangeOrLose v (rebuild + rebuild_root_offset) u word
    (Root number rebuild word h.laid.rows) (Lose number (bases_of h.laid.rows))) (sym is)
    (root_comes_or_loses v s number rebuild word h.laid.rows h.laid.mine h.laid.stored h.laid.built some
    h.unset))))
  where
    root_is : (racing_at v place word).0 ≡ Root number rebuild word h.laid.rows
    root_is = grind (arith, named)

    lose_is : (racing_at v place word).1 ≡ Lose number (bases_of h.laid.rows)
    lose_is = ap₂ {C = Event} Lose (ap number_of h.laid.mine) (sym h.laid.bases)

    some : h.laid.rows ≢ []
    some e = absurd (let n = ap length (sym h.laid.bases ∙ ap bases_of e) in omega arith)
