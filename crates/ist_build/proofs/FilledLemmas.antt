-- A root whose slots are all set is filled. Serves `filling`.
use Rattle.std.proofs.Common.{◌≡◌, ◌≢◌, ℕ, ◌+◌, ◌/◌, ◌^◌, ◌<◌, ◌≤◌, Some, None, refl, sym, ap, ◌∙◌, subst, arith, zero, suc, List, [], ◌∷◌, map, take, drop, Option}
use Rattle.ist_core.specs.declared.ports.Full.{Full}
use Rattle.ist_core.specs.WordTerms.{degree, Rebuild, InnerAt, ref_of, unset_word, rebuild_root_offset, share_from, SlotHolds, in_anchor, in_row, Ref, LeafAt}
use Rattle.ist_core.specs.TreeTerms.{AllGrow, HasTarget, IsFinishedWith, PlacedLeaf, HasLeaves}
use Rattle.ist_core.specs.LogTerms.{Snapshot}
use Rattle.ist_core.proofs.AllLogLemmas.{rebuild_there, set_by, finished_once}
use Rattle.ist_core.proofs.AllPlaceLemmas.{get_below, anchor_free, slot_once, RootNames, names}
use Rattle.ist_core.proofs.AllWordLemmas.{word_of-ref_of, same_rebuild}
use Rattle.ist_rule.specs.RuleTerms.{IsSound, now, Looked, WentOn}
use Rattle.ist_rule.specs.declared.view.View.{View}
use Rattle.ist_rule.proofs.EventLemmas.{looked_goes_on}
use Rattle.ist_dcss.proofs.FieldLemmas.{looked_row}
use Rattle.ist_dcss.proofs.SlotPlaceLemmas.{has_degree}
use Rattle.laws_calls.specs.Rooting.{HasRootForm, IsWholeRow}
use Rattle.laws_calls.proofs.RootFormLemmas.{root_has_form}
use Rattle.ist_build.specs.Calls.{IsForBuild, IsTold, IsRooted, IsBuiltOut, Builds, MayBuild, RebuildIsShort, IsLeafAmong}
use Rattle.ist_build.specs.Putting.{PutOn, IsShared, IsSlotSet, IsStopped, HasRoot}
use Rattle.ist_build.proofs.BuiltLemmas.{built_grow, loads_built, put_grow, put_more, built_put, laid_went}
use Rattle.ist_build.proofs.RootReadyLemmas.{told_on, told_target}
use Rattle.ist_rows.proofs.ShortLemmas.{short_from}
use Rattle.laws_links.proofs.ContentLemmas.{finished_leaves}
use Rattle.ist_rows.specs.RowTerms.{RanShort}
use Rattle.ist_build.specs.Laying.{BuiltOn, IsForNode, IsLaid, IsShort}

-- a root stays
pub rooted_on : (t u : Snapshot) → AllGrow t.pieces u.pieces → (rebuild : ℕ) → IsRooted t rebuild
    → IsRooted u rebuild
rooted_on t u g rebuild h = grind (arith, rebuild_there)

-- its form, by the number of keys
form_of : (v : View) → IsSound v → (rebuild k : ℕ) → IsTold (now v) rebuild k
    → (h : IsRooted (now v) rebuild) → HasRootForm (now v) h.row.root k
form_of v s rebuild k told h = grind (arith, same_rebuild, root_has_form)

-- over few keys the root is filled
pub few_filled : (v : View) → IsSound v → (rebuild k : ℕ) → IsTold (now v) rebuild k
    → IsRooted (now v) rebuild → k < share_from → IsBuiltOut (now v) rebuild
few_filled v s rebuild k told h few = let f = form_of v s rebuild k told h in record {
  row = h.row;
  published = h.published;
  built = record {
    set = h.set;
    whole = λ base i word e holds. by base i word (f.few few base e) holds;
  };
}
  where
    by : (base i word : ℕ) → IsWholeRow (now v) base → SlotHolds (now v) base i word → word ≢
        unset_word
    by base i word it (in_anchor a b e) = grind (arith, anchor_free)
    by base i word it (in_row r e got) = grind arith

-- over many keys it is filled if each slot is set
pub many_filled : (v : View) → IsSound v → (rebuild target root k : ℕ)
    → IsShared (now v) rebuild target root k
    → ((i : ℕ) → i < degree k → IsSlotSet (now v) root i) → IsBuiltOut (now v) rebuild
many_filled v s rebuild target root k sh all = record {
  row = sh.row;
  published = sh.published;
  built = record {
    set = set_by sh.row.root _ sh.root_is (λ q. cc);
    whole = λ base i word e holds.
        by i word (subst (λ n. SlotHolds (now v) n i word) (cc (sym e ∙ sh.root_is))
        holds);
  };
}
  where
    by : (i word : ℕ) → SlotHolds (now v) root i word → word ≢ unset_word
    by i word (in_anchor a b e) = grind (arith, anchor_free)
    by i word (in_row r e got) = λ is. let row_is : sh.node.row ≡ r = cc (sh.node.published) in
        let d = has_degree v.start v.words v.log s.lawful.enabled root r e in let many = d.slots in
        let degree_is : r.degree ≡ degree k = ap (λ x. x.degree) (sym row_is) ∙ sh.node.degree_is in
        let inside = get_below r.slots i word got in let h = all i (omega arith) in
        h.set (slot_once (now v) root i h.word word
        (anchor_free v.start v.words v.log s.lawful.enabled) h.holds (in_row r e got) ∙ is)

-- ---- the shared root

-- its word names its row
pub record NamesRoot (v : View) (rebuild target k word : ℕ) : Type 0 where
  pub low : word / 8 < 2 ^ 32
  pub shared : IsShared (now v) rebuild target (word / 8) k

-- a load of the root word of a shared root names the root
pub names_root : (v w : View) (rebuild target k place word : ℕ) → IsTold (now v) rebuild k
    → HasTarget (now v) rebuild target → IsRooted (now v) rebuild → share_from ≤ k
    → place ≡ rebuild + rebuild_root_offset → Looked v place word w
    → NamesRoot w rebuild target k word
names_root v w rebuild target k place word told g h many at l =
    let grow = built_grow v w (loads_built v w (looked_goes_on v place word w l)) in
    let on = told_on (now v) (now w) grow rebuild k told in
    let root = rooted_on (now v) (now w) grow rebuild h in
    let t = told_target (now v) rebuild target k told g in
    let top = (form_of w l.sound rebuild k on root).many many in
    let is = looked_row v place word w l rebuild (Rebuild root.row) 3 root.row.root root.published
    refl at in
    let read = word_of-ref_of root.row.root (InnerAt top.base) top.ref_is in
    let word_is = read.same_word in let base_is : word / 8 ≡ top.base = omega arith in
    let limit = read.good.below_limit in
    let row_is = same_rebuild ((now w).pieces rebuild) on.row root.row on.published root.published
    in
    let there = rebuild_there (now v).pieces (now w).pieces grow rebuild g.row g.published in
    let target_is : on.row.target ≡ target =
    ap (λ r. r.target) (same_rebuild ((now w).pieces rebuild) on.row there.0 on.published there.1)
    ∙ there.2.target ∙ g.target_is in
    record {
      low = omega arith;
      shared = subst (λ n. IsShared (now w) rebuild target n k) (sym base_is)
          record {
            row = on.row;
            published = on.published;
            target_is = target_is;
            started = on.started;
            finished = subst (λ n. IsFinishedWith (now w) n k) target_is on.finished;
            shared = many;
            root_is = ap (λ r. ref_of r.root) row_is ∙ top.ref_is;
            node = record { row = top.row; published = top.published; degree_is = top.degree_is };
          };
    }

-- ---- refusals

-- a call that was stopped after other steps was stopped
pub err_stopped_on : (u v w : View) (rebuild words k : ℕ) → IsTold (now u) rebuild k → PutOn u v
    → (full : Full) → IsStopped v rebuild words full w → IsStopped u rebuild words full w
err_stopped_on u v w rebuild words k told a full h =
    short_from PutOn PutOn u v (λ x. put_more u v x a) words full w h here
  where
    -- what was asked for then was asked for before
    here : IsForBuild (now v) rebuild full.asked → IsForBuild (now u) rebuild full.asked
    here build = let on = told_on (now u) (now v) (put_grow u v a) rebuild k told in
        let row_is = same_rebuild ((now v).pieces rebuild) on.row build.told.row on.published
        build.told.published in
        let same = finished_once (now v) build.told.row.target k build.k
        (subst (λ r. IsFinishedWith (now v) r.target k) row_is on.finished) build.told.finished in
        record { k = build.k; told = subst (IsTold (now u) rebuild) same told; node = build.node }

-- ---- what the calls of this crate return, in terms of references and of the one relation between a
-- caller's views. Serves `calls`.

-- ---- leaves

-- the leaf that was read is the one with this number
pub leaf_number : (leaves : List PlacedLeaf) (i base : ℕ)
    → map (λ leaf. leaf.base) (take 1 (drop i leaves)) ≡ base ∷ []
    → IsLeafAmong leaves i (LeafAt base)
leaf_number [] zero base e = absurd (cc)
leaf_number [] (suc i) base e = absurd (cc)
leaf_number (leaf ∷ leaves) zero base e = grind arith
leaf_number (leaf ∷ leaves) (suc i) base e = let it = leaf_number leaves i base e in
    record { leaf = it.leaf; there = it.there; ref_is = it.ref_is }

-- ---- going on

-- a caller that built went on by events of builds
pub built_went : (v w : View) → BuiltOn v w → WentOn Builds v w
built_went v w b = laid_went Builds v w (built_put v w b)

-- a caller that puts a build in place makes only events of builds
pub put_went : (v w : View) → PutOn v w → WentOn Builds v w
put_went v w b = laid_went Builds v w b

-- ---- refusals

-- a build that was refused
pub short_out : (v w : View) (words keys : ℕ) (full : Full) → IsShort v words keys full w
    → RanShort (WentOn Builds) (IsForNode keys) v words full w
short_out v w words keys full h = grind (arith, short_from, built_went)

-- a call that was stopped is short of words for the rebuild
pub stopped_out : (v w : View) (rebuild words : ℕ) (full : Full)
    → IsStopped v rebuild words full w → RebuildIsShort v rebuild words full w
stopped_out v w rebuild words full h = grind (arith, short_from, put_went)

-- ---- words that name something

-- what was laid names something
pub laid_named : (v w : View) → IsSound v → (number low target start len word : ℕ)
    → MayBuild (now v) target start len
    → ((all : List PlacedLeaf) → HasLeaves (now v).pieces (Some (InnerAt target)) all
    → IsLaid w number low word (take len (drop start all))) → ref_of word ≢ None
laid_named v w s number low target start len word may laid =
    let it = finished_leaves v.start v.words s.lawful.opens v.log s.lawful.enabled target may.k
    may.finished in
    λ none. nothing (ref_of word) (laid it.0 it.1).ref (laid it.0 it.1).ref_is none
  where
    nothing : (o : Option Ref) (ref : Ref) → o ≡ Some ref → o ≡ None → ⊥
    nothing o ref e f = cc

-- and so does a root
pub root_named : (v : View) → IsSound v → (rebuild word : ℕ) → HasRoot (now v) rebuild word
    → ref_of word ≢ None
root_named v s rebuild word h =
    let o = (names v.start v.words s.lawful.opens v.log s.lawful.enabled).rows rebuild (Rebuild h.row)
    h.published in
    λ none. no_root h.row.target (ref_of h.row.root) o.2 (ap ref_of h.root_is ∙ none)
  where
    no_root : (target : ℕ) (o : Option Ref) → RootNames (now v).pieces target o → o ≡ None → ⊥
    no_root target None n e = n
    no_root target (Some ref) n e = cc
