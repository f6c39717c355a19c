-- The root of a rebuild, and what was built as one. Serves `root`.
use Rattle.std.proofs.Common.{◌≡◌, ◌≢◌, ℕ, ◌+◌, ◌/◌, ◌<◌, ◌≤◌, List, [], ◌∷◌, ◌++◌, length, take, drop, Option, Some, option_map, refl, sym, ap, ap₂, ◌∙◌, subst, inl, inr, arith}
use Rattle.std.proofs.lemmas.List.{take_all}
use Rattle.ist_core.specs.declared.events.Event.TheVariants.{Root, Lose}
use Rattle.ist_core.specs.declared.lists.Row.{Row}
use Rattle.ist_core.specs.declared.states.RebuildRow.{RebuildRow}
use Rattle.ist_core.specs.WordTerms.{degree, IsIdeal, of_none, of_one, of_more, Piece, Pieces, Rebuild, Inner, with_inners, with_root, Ref, InnerAt, Unset, ref_of, unset_word, tag_count, inner_words, rebuild_root_offset, shape, share_from, start}
use Rattle.ist_core.specs.TreeTerms.{IsRoot, root_whole, root_top, AllGrow, PlacedLeaf, HasLeaves, HasTarget, IsFinishedWith}
use Rattle.ist_core.specs.LogTerms.{Among, EachEnabled, state_of, Snapshot, bases_of, sizes_of, IsShown, shown_row}
use Rattle.ist_core.proofs.AllEventLemmas.{held_free, sound, sound_start}
use Rattle.ist_core.proofs.AllWordLemmas.{each-among, ref_of-unset, word_of-ref_of, changed_at-same, with_inners-other, no_value}
use Rattle.ist_core.proofs.AllLogLemmas.{grow_between, rebuild_there}
use Rattle.ist_core.proofs.AllPlaceLemmas.{placed, claimed_within}
use Rattle.laws_links.proofs.FormLemmas.{finished_with_grows, started_grows}
use Rattle.ist_rule.specs.RuleTerms.{IsSound, now, Looked, Logged, LoggedLoad}
use Rattle.ist_rule.specs.declared.view.View.{View}
use Rattle.ist_rule.proofs.EventLemmas.{looked_goes_on}
use Rattle.ist_rule.proofs.LaterLemmas.{later-goes_on}
use Rattle.ist_dcss.proofs.FieldLemmas.{looked_row}
use Rattle.ist_mark.proofs.MarkLemmas.{before_enabled}
use Rattle.ist_rows.specs.RowTerms.{IsInBuild, sizes_built}
use Rattle.ist_rows.specs.declared.callers.Caller.{Caller}
use Rattle.laws_coming.specs.Builds.{IsRootBuilt}
use Rattle.laws_coming.proofs.SizeLemmas.{IsRootSizes, of_whole, of_top, root_sizes}
use Rattle.ist_build.specs.Calls.{IsTold}
use Rattle.ist_build.specs.Laying.{Rises, BuiltOn, OwnsRows, IsLaid, IsTopLaid, IsRootLaid, IsTarget}
use Rattle.ist_build.specs.Putting.{HasRoot}
use Rattle.ist_build.proofs.BuiltLemmas.{built_grow}
use Rattle.ist_build.proofs.LayingLemmas.{rows_free}
use Rattle.ist_build.proofs.ReadingLemmas.{leaves_number}
use Rattle.ist_build.proofs.TopBegunLemmas.{leaves_on}

-- ---- the root of a rebuild

-- what is known of a rebuild stays true
pub told_on : (t u : Snapshot) → AllGrow t.pieces u.pieces → (rebuild k : ℕ) → IsTold t rebuild k
    → IsTold u rebuild k
told_on t u g rebuild k h = let it = rebuild_there t.pieces u.pieces g rebuild h.row h.published in
    record {
      row = it.0;
      published = it.1;
      started = started_grows t u g rebuild h.started;
      finished = subst (λ n. IsFinishedWith u n k) (sym it.2.target)
          (finished_with_grows t u g h.row.target k h.finished);
    }

-- its target
pub told_target : (t : Snapshot) (rebuild target k : ℕ) → IsTold t rebuild k
    → HasTarget t rebuild target → IsTarget t target k
told_target t rebuild target k h g = grind arith

-- a load of its root word
pub root_looked : (v w : View) (rebuild place word : ℕ) (row : RebuildRow)
    → (now v).pieces rebuild ≡ Some (Rebuild row) → place ≡ rebuild + rebuild_root_offset
    → Looked v place word w → word ≢ unset_word → HasRoot (now w) rebuild word
root_looked v w rebuild place word row e at l set = let g = looked_goes_on v place word w l in
    let grow = grow_between w.start w.words v.log w.log l.sound.lawful.enabled (later-goes_on l.later) in
    let same : state_of w.start w.words v.log ≡ now v =
    ap₂ (λ p n. state_of p n v.log) (ap (λ x. x.start) g.same) (ap (λ x. x.words) g.same) in
    let it = rebuild_there (now v).pieces (now w).pieces
    (subst (λ t. AllGrow t.pieces (now w).pieces) same grow) rebuild row e in
    record {
      row = it.0;
      published = it.1;
      root_is = sym (looked_row v place word w l rebuild (Rebuild it.0) 3 it.0.root it.1 refl at);
      set = set;
    }

-- after a Root the rebuild has this root
pub root_put : (v w : View) (number rebuild word : ℕ) (rows : List Row) → word ≢ unset_word
    → Logged v (Root number rebuild word rows) w → HasRoot (now w) rebuild word
root_put v w number rebuild word rows set l = let event = Root number rebuild word rows in
    let b = state_of v.start v.words l.before in let enabled = before_enabled v event w l in
    let can = (subst (λ (x : View). EachEnabled (start x.start x.words) x.log) l.view
    l.sound.lawful.enabled).1 in
    let s = sound (start v.start v.words) l.before (sound_start v.start v.words) enabled in
    let there : with_inners b.pieces rows rebuild ≡ Some (Rebuild can.row) =
    with_inners-other b.pieces rows rebuild
    (λ i. no_value (b.pieces rebuild) (Rebuild can.row) (held_free b number rows can.held s rebuild i)
    can.published) ∙ can.published in
    record {
      row = record (can.row) { root = word };
      published = ap (λ x. (now x).pieces rebuild) l.view
          ∙ changed_at-same (with_inners b.pieces rows) rebuild (with_root word)
          ∙ ap (option_map (with_root word)) there;
      root_is = refl;
      set = set;
    }

-- and after a Lose the root that was found
pub root_lost : (v w : View) (number rebuild place word : ℕ) (bases : List ℕ) (row : RebuildRow)
    → (now v).pieces rebuild ≡ Some (Rebuild row) → place ≡ rebuild + rebuild_root_offset
    → word ≢ unset_word → LoggedLoad v (Lose number bases) place word w → HasRoot (now w) rebuild word
root_lost v w number rebuild place word bases row e at set l =
    let b = state_of v.start v.words l.before in
    let enabled = (subst (λ (x : View). EachEnabled (start x.start x.words) x.log) l.view
    l.sound.lawful.enabled).0 in
    let it = rebuild_there (now v).pieces b.pieces
    (grow_between v.start v.words v.log l.before enabled (later-goes_on l.later)) rebuild row e in
    record {
      row = it.0;
      published = ap (λ x. (now x).pieces rebuild) l.view ∙ it.1;
      root_is = sym (l.stood it.0.root (subst (λ q. IsShown b q it.0.root) (sym at)
          (shown_row rebuild (Rebuild it.0) 3 it.1 refl)));
      set = set;
    }

-- ---- what was built

-- a row lies below the first free word
published_low : (v : View) → IsSound v → (node k : ℕ) → IsFinishedWith (now v) node k
    → node < (now v).next
published_low v s node k f =
    let it = claimed_within v.start v.words v.log node _ s.lawful.enabled
    ((placed v.start v.words v.log s.lawful.enabled).published node (Inner f.row) f.published) in
    let low = it.below_next in let some = it.some in omega arith

module _ (old new : Caller) (target k word : ℕ) (s : IsSound old.token.view) (number : new.number ≡ old.number)
    (b : BuiltOn old.token.view new.token.view) (t : IsTarget (now old.token.view) target k)
    (leaves : List PlacedLeaf)
    (has : HasLeaves (now old.token.view).pieces (Some (InnerAt target)) leaves) where
  -- the target has k leaves
  pub many : length leaves ≡ k
  many = leaves_number old.token.view s target k t.finished leaves has

  -- the target lies below the first free word
  pub low : target < (now old.token.view).next
  low = published_low old.token.view s target k t.finished

  -- its rows have the sizes of a root
  sizes_fit : (rows : List Row) → OwnsRows new.token.view new.number (now old.token.view).next rows
      → IsRoot (with_inners (now new.token.view).pieces rows) word k leaves target (bases_of rows)
      → IsRootSizes k (sizes_of rows)
  sizes_fit rows o root = root_sizes (now new.token.view).pieces rows word k leaves target o.once
      (rows_free new.token.view b.sound new.number rows o.held) many root

  -- an ideal subtree over all leaves of a target with few keys is a root for it
  pub whole_laid : k < share_from
      → IsLaid new.token.view new.number (now old.token.view).next word (take k (drop 0 leaves))
      → IsInBuild new (sizes_built old) (shape k) [] → IsRootLaid old new target k word leaves
  whole_laid few h at =
      let root = root_whole h.ref few h.ref_is
      (subst (λ xs. IsIdeal (with_inners (now new.token.view).pieces h.rows) h.ref xs target (bases_of h.rows))
      (take_all k leaves (let m = many in omega arith)) (h.ideal target low)) in record {
        rows = h.rows;
        owns = h.owns;
        root = root;
        sizes = at.sizes ∙ ap (λ xs. sizes_built old ++ xs) (sym (fit (sizes_fit h.rows h.owns root)));
      }
    where
      fit : {xs : List ℕ} → IsRootSizes k xs → xs ≡ shape k
      fit (of_whole less e) = e
      fit (of_top more e) = absurd (omega arith)

  -- the top row with Unset slots is a root for a target with enough keys for a shared root
  pub top_root : share_from ≤ k
      → IsTopLaid new.token.view new.number (now old.token.view).next word leaves
      → sizes_built new ≡ sizes_built old ++ inner_words (degree k) ∷ []
      → IsRootLaid old new target k word leaves
  top_root more h is =
      let root = root_top h.base h.row more h.ref_is (h.top target low) h.unset h.one in record {
        rows = h.rows;
        owns = h.owns;
        root = root;
        sizes = is ∙ ap (λ xs. sizes_built old ++ xs) (sym (fit (sizes_fit h.rows h.owns root)));
      }
    where
      fit : {xs : List ℕ} → IsRootSizes k xs → xs ≡ inner_words (degree k) ∷ []
      fit (of_whole less e) = absurd (omega arith)
      fit (of_top great e) = e

-- it may be put in place
pub root_ready : (old new : Caller) (rebuild target k word : ℕ) → IsSound old.token.view
    → BuiltOn old.token.view new.token.view → IsTold (now old.token.view) rebuild k
    → HasTarget (now old.token.view) rebuild target → (leaves : List PlacedLeaf)
    → HasLeaves (now old.token.view).pieces (Some (InnerAt target)) leaves
    → (h : IsRootLaid old new target k word leaves)
    → IsRootBuilt (now new.token.view) new.number rebuild word h.rows
unfolding told_target
root_ready old new rebuild target k word s b told g leaves has h = let v = old.token.view in
    let w = new.token.view in let on = told_on (now v) (now w) (built_grow v w b) rebuild k told in
    let t = told_target (now v) rebuild target k told g in
    let it = rebuild_there (now v).pieces (now w).pieces (built_grow v w b) rebuild t.row t.published in
    let same : on.row.target ≡ target =
    one ((now w).pieces rebuild) on.row it.0 on.published it.1 ∙ it.2.target ∙ t.target_is in
    record {
      row = on.row;
      published = on.published;
      started = on.started;
      k = k;
      finished = on.finished;
      leaves = leaves;
      reached = subst (λ n. HasLeaves (now w).pieces (Some (InnerAt n)) leaves) (sym same)
          (leaves_on v w b target k t.finished leaves has);
      root = subst (λ n. IsRoot (with_inners (now w).pieces h.rows) word k leaves n (bases_of h.rows))
          (sym same) h.root;
      once = h.owns.once;
      held = h.owns.held;
    }
  where
    one : (o : Option Piece) (r x : RebuildRow) → o ≡ Some (Rebuild r) → o ≡ Some (Rebuild x)
        → r.target ≡ x.target
    one o r x e f = let same : r ≡ x = cc in ap (λ y. y.target) same

-- ---- its first row

-- the word names a row, which is the first of these
pub record IsTopped (word : ℕ) (bases : List ℕ) : Type 0 where
  pub base : ℕ
  pub ref_is : ref_of word ≡ Some (InnerAt base)
  pub rest : List ℕ
  pub bases_are : bases ≡ base ∷ rest

-- the word of a root over at least two leaves names a row, the first of its rows
pub root_topped : (ps : Pieces) (word k : ℕ) (leaves : List PlacedLeaf) (target : ℕ)
    (bases : List ℕ) → 2 ≤ length leaves → IsRoot ps word k leaves target bases → IsTopped word bases
root_topped ps word k leaves target bases two (root_whole ref few e ideal) =
    by ref leaves target bases two ideal e
  where
    by : (x : Ref) (ls : List PlacedLeaf) (above : ℕ) (bs : List ℕ) → 2 ≤ length ls
        → IsIdeal ps x ls above bs → ref_of word ≡ Some x → IsTopped word bs
    by _ _ _ _ more of_none f = absurd (omega arith)
    by _ _ _ _ more (of_one same there) f = absurd (omega arith)
    by _ _ _ _ more (of_more {base = base} {rows = rows} r top under) f = grind arith
root_topped ps word k leaves target bases two (root_top base row all e top unset one) = grind arith

-- the word of a row is its base and the tag
pub topped_base : (word : ℕ) (bases : List ℕ) (h : IsTopped word bases) → word / tag_count ≡ h.base
topped_base word bases h = let it = word_of-ref_of word (InnerAt h.base) h.ref_is in
    let is = it.same_word in omega arith

-- a word that names a row isn't Unset
pub topped_set : (word : ℕ) (bases : List ℕ) (h : IsTopped word bases) → word ≢ unset_word
topped_set word bases h e = grind (arith, ref_of-unset)

-- the others lie above it
pub first_least : (bases : List ℕ) (base : ℕ) (rest : List ℕ) → bases ≡ base ∷ rest → Rises bases
    → (b : ℕ) → Among b bases → base ≤ b
first_least [] base rest e rising b i = absurd i
first_least (x ∷ xs) base rest e rising b (inl f) = let same : x ≡ base = cc in omega arith
first_least (x ∷ xs) base rest e rising b (inr i) = let same : x ≡ base = cc in
    let less = each-among (λ y. x < y) b xs rising.0 i in omega arith
