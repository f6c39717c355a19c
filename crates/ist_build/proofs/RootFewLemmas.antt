-- A root over no key or over one, and what is known before a build. Serves `root`.
use Rattle.std.proofs.Common.{◌≡◌, ◌≢◌, ℕ, ◌+◌, ◌-◌, ◌<◌, List, [], ◌∷◌, length, map, take, drop, Some, refl, sym, ap, ◌∙◌, subst, append-nil, ⊎_elim, arith}
use Rattle.std.proofs.lemmas.Bool.Decides.{eqb_tells}
use Rattle.ist_core.specs.declared.events.Event.{Event}
use Rattle.ist_core.specs.declared.events.Event.TheVariants.{Root}
use Rattle.ist_core.specs.declared.events.Who.TheVariants.{Caller as CallerOf}
use Rattle.ist_core.specs.TreeTerms.{IsRoot, root_whole, root_top, PlacedLeaf, HasLeaves, HasTarget, IsFinishedWith}
use Rattle.ist_core.specs.LogTerms.{Each}
use Rattle.ist_core.specs.WordTerms.{IsIdeal, of_none, of_one, Pieces, Rebuild, Leaf, Ref, Empty, LeafAt, InnerAt, Unset, IsGoodBase, ref_of, word_of, unset_word, rebuild_root_offset, share_from, share_from_fits}
use Rattle.ist_core.proofs.AllWordLemmas.{ref_of-unset, ref_of-word_of}
use Rattle.laws_links.proofs.FinishedLemmas.{target_grows, leaves_stand}
use Rattle.ist_rule.specs.RuleTerms.{CanExchange, TokenFace, IsSound, now, Looked, Logged, Exchanged, GoesOnTo}
use Rattle.ist_rule.specs.declared.view.View.{View}
use Rattle.ist_core.proofs.AllLogLemmas.{finished_once}
use Rattle.ist_rule.proofs.EventLemmas.{looked_goes_on, goes_on_same, goes_on_more, goes_on_who}
use Rattle.ist_dcss.proofs.FieldLemmas.{row_low, good_base}
use Rattle.ist_rows.specs.RowTerms.{sizes_built, TakesNoWords}
use Rattle.ist_rows.specs.declared.callers.Caller.{Caller}
use Rattle.ist_rows.proofs.FewStepLemmas.{none_loads}
use Rattle.laws_coming.specs.Builds.{IsRootBuilt, WasUnset}
use Rattle.laws_coming.proofs.RootLemmas.{root_comes}
use Rattle.ist_build.specs.Laying.{BuiltOn, IsRootLaid, IsTarget, IsLeaf}
use Rattle.ist_build.specs.BuildEvents.{rooting_few}
use Rattle.ist_build.specs.Calls.{IsTold}
use Rattle.ist_build.proofs.BuiltLemmas.{built_grow, loads_built, leaf_goes_on}
use Rattle.ist_build.proofs.FewLemmas.{none_then, leaf_there}
use Rattle.ist_build.proofs.ReadingLemmas.{leaves_number}
use Rattle.laws_links.proofs.ContentLemmas.{finished_leaves}
use Rattle.laws_links.specs.Linking.{IsFinished}
use Rattle.ist_build.proofs.TopBegunLemmas.{sizes_on}
use Rattle.ist_build.proofs.PartSlotLemmas.{unset_built}
use Rattle.ist_build.specs.Back.{IsFreeToBuild, IsBack, HasPutRoot}
use Rattle.ist_build.proofs.BackLemmas.{back_logged, back_loads}
use Rattle.ist_build.proofs.RootReadyLemmas.{told_on, told_target, root_looked, root_put, root_ready}

-- ---- a root over no key or one

-- over no key, the Empty word is a root
pub none_root : (v : View) → IsSound v → (target k word : ℕ) → IsFinishedWith (now v) target k → k ≡
    0 → word ≡ word_of Empty → (ps : Pieces) (leaves : List PlacedLeaf)
    → HasLeaves (now v).pieces (Some (InnerAt target)) leaves → IsRoot ps word k leaves target []
none_root v s target k word f none is ps leaves has =
    at leaves (leaves_number v s target k f leaves has)
  where
    few : k < share_from
    few = let fits = share_from_fits in omega arith

    at : (ls : List PlacedLeaf) → length ls ≡ k → IsRoot ps word k ls target []
    at [] e = root_whole Empty few (ap ref_of is ∙ ref_of-word_of Empty tt) of_none
    at (x ∷ ls) e = absurd (omega arith)

-- a leaf that was read lies at a good base
pub leaf_good : (v : View) → IsSound v → (base : ℕ) → IsLeaf (now v) base → IsGoodBase base
leaf_good v s base h = good_base v s base (Leaf h.row) h.published (omega arith)

-- the base of the first leaf of a finished target is a good base
pub one_key_good : (v : View) → IsSound v → (target k base : ℕ) → IsFinishedWith (now v) target k
    → k ≢ 0
    → ((leaves : List PlacedLeaf) → HasLeaves (now v).pieces (Some (InnerAt target)) leaves
    → map (λ l. l.base) (take 1 (drop 0 leaves)) ≡ base ∷ [])
    → IsGoodBase base
one_key_good v s target k base f some told = leaf_good v s base
    (leaf_there v v s (goes_on_same v s) target 0 base
    record { k = k; finished = f; enough = omega arith } told)

-- and one over one key is its leaf
pub one_root : (v w : View) → IsSound v → GoesOnTo v w → (target k base word : ℕ)
    → IsFinishedWith (now v) target k → k < 2 → k ≢ 0
    → ((leaves : List PlacedLeaf) → HasLeaves (now v).pieces (Some (InnerAt target)) leaves
    → map (λ l. l.base) (take 1 (drop 0 leaves)) ≡ base ∷ [])
    → IsGoodBase base → word ≡ word_of (LeafAt base) → (leaves : List PlacedLeaf)
    → HasLeaves (now v).pieces (Some (InnerAt target)) leaves
    → IsRoot (now w).pieces word k leaves target []
one_root v w s g target k base word f small some told good is leaves has =
    at leaves (leaves_number v s target k f leaves has) (told leaves has)
    (leaves_stand (now v).pieces (Some (InnerAt target)) leaves has)
  where
    few : k < share_from
    few = let fits = share_from_fits in omega arith

    at : (ls : List PlacedLeaf) → length ls ≡ k → map (λ l. l.base) (take 1 (drop 0 ls)) ≡ base ∷ []
        → Each (λ l. (now v).pieces l.base ≡ Some (Leaf l.row)) ls
        → IsRoot (now w).pieces word k ls target []
    at [] e first all = absurd (omega arith)
    at (x ∷ y ∷ ls) e first all = absurd (omega arith)
    at (x ∷ []) e first all = let same : x.base ≡ base = cc in
        root_whole (LeafAt base) few (ap ref_of is ∙ ref_of-word_of (LeafAt base) good)
        (of_one same (ap (now w).pieces (sym same) ∙ leaf_goes_on v w g x.base x.row all.0))

-- the event that an exchange for such a word names
pub rooting_few_is : (v : View) (number rebuild place word : ℕ) → v.who ≡ CallerOf number
    → place ≡ rebuild + rebuild_root_offset → rooting_few v place word ≡ Root number rebuild word []
rooting_few_is v number rebuild place word mine at = grind arith

-- the exchange may be made, and what is known after it
pub record MayRootFew (old : Caller) (token : TokenFace) (rebuild word place : ℕ) : Type 0 where
  pub low : place < token.view.words
  pub allowed : (unset : ℕ) → unset ≡ unset_word
      → CanExchange token.view place unset word (rooting_few token.view place word)
  pub hit : (last : TokenFace) → Logged token.view (rooting_few token.view place word) last.view
      → HasPutRoot old (record old { token = last }) rebuild word
  pub missed : (last : TokenFace) (found : ℕ) → found ≢ unset_word
      → Looked token.view place found last.view
      → HasPutRoot old (record old { token = last }) rebuild found
  pub none : (last : TokenFace) (unset found : ℕ)
      → Exchanged token.view (rooting_few token.view place word) place unset found last.view
      → TakesNoWords old (record old { token = last })

module _ (old : Caller) (token : TokenFace) (r : IsFreeToBuild old)
    (s : IsSound old.token.view) (gone : GoesOnTo old.token.view token.view)
    (rebuild target k word : ℕ) (told : IsTold (now old.token.view) rebuild k)
    (g : HasTarget (now old.token.view) rebuild target)
    (root : (leaves : List PlacedLeaf)
    → HasLeaves (now old.token.view).pieces (Some (InnerAt target)) leaves
    → IsRoot (now token.view).pieces word k leaves target [])
    (place : ℕ) (at : place ≡ rebuild + rebuild_root_offset) where
  abbrev mid : Caller
  mid = record old { token = token }

  b : BuiltOn old.token.view token.view
  b = loads_built old.token.view token.view gone

  t : IsTarget (now old.token.view) target k
  t = told_target (now old.token.view) rebuild target k told g

  some : (leaves : List PlacedLeaf) × HasLeaves (now old.token.view).pieces (Some (InnerAt target))
      leaves × (length leaves ≡ k)
  some = finished_leaves old.token.view.start old.token.view.words s.lawful.opens old.token.view.log
      s.lawful.enabled target k t.finished

  few_laid : IsRootLaid old mid target k word some.0
  few_laid = record {
    rows = [];
    owns = record { stored = tt; held = tt; once = tt; rising = tt; high = tt };
    root = root some.0 some.1;
    sizes = sizes_on old token r.caller gone ∙ sym (append-nil (sizes_built old));
  }

  ready : IsRootBuilt (now token.view) old.number rebuild word []
  unfolding few_laid
  ready = root_ready old mid rebuild target k word s b told g some.0 some.1 few_laid

  mine : token.view.who ≡ CallerOf old.number
  mine = ap (λ x. x.who) gone.same ∙ r.caller.mine

  -- an exchange of the Unset root for this word may be made, and is a Root without rows
  few_allowed : (unset : ℕ) → unset ≡ unset_word
      → CanExchange token.view place unset word (rooting_few token.view place word)
  few_allowed unset is = subst (λ (e : Event). CanExchange token.view place unset word e)
      (sym (rooting_few_is token.view old.number rebuild place word mine at))
      (subst (λ q. CanExchange token.view q unset word (Root old.number rebuild word [])) (sym at)
      (subst (λ q. CanExchange token.view (rebuild + rebuild_root_offset) q word
      (Root old.number rebuild word [])) (sym is)
      (root_comes token.view gone.sound old.number rebuild word [] mine tt ready)))

  few_set : word ≢ unset_word
  few_set = at_root (root some.0 some.1)
    where
      at_root : IsRoot (now token.view).pieces word k some.0 target [] → word ≢ unset_word
      at_root (root_whole ref less e ideal) f = by ref some.0 ideal
          (sym e ∙ ap ref_of f ∙ ref_of-unset)
        where
          by : (x : Ref) (ls : List PlacedLeaf) → IsIdeal (now token.view).pieces x ls target []
              → Some x ≡ Some Unset → ⊥
          by _ _ of_none h = cc
          by _ _ (of_one same there) h = cc
      at_root (root_top base row more e top unset one) f = grind arith

  -- if it was made, the rebuild has this word as its root
  few_hit : (last : TokenFace) → Logged token.view (rooting_few token.view place word) last.view
      → HasPutRoot old (record old { token = last }) rebuild word
  few_hit last l = let event = Root old.number rebuild word [] in
      let logged = subst (λ (e : Event). Logged token.view e last.view)
      (rooting_few_is token.view old.number rebuild place word mine at) l in
      record {
        back = back_logged old mid
            record { ready = r; sound = s; number = refl; rows = refl; built = b } []
            record { stored = tt; held = tt; once = tt; rising = tt; high = tt }
            (sizes_on old token r.caller gone ∙ sym (append-nil (sizes_built old))) event tt (λ n. refl)
            (λ x. refl) last logged;
        root = root_put token.view last.view old.number rebuild word [] few_set logged;
      }

  -- if another word was found there, the rebuild has that word as its root
  few_missed : (last : TokenFace) (found : ℕ) → found ≢ unset_word
      → Looked token.view place found last.view
      → HasPutRoot old (record old { token = last }) rebuild found
  few_missed last found set l = record {
    back = back_loads old last r
        (goes_on_more old.token.view token.view last.view gone
        (looked_goes_on token.view place found last.view l));
    root = root_looked token.view last.view rebuild place found ready.row ready.published at l set;
  }

  -- the place of the root word lies in the table
  few_low : place < token.view.words
  few_low =
      let low = (row_low token.view gone.sound rebuild (Rebuild ready.row) ready.published 3
      (omega arith)).0 in
      omega arith

  -- and no word was taken
  few_none : (last : TokenFace) (unset found : ℕ)
      → Exchanged token.view (rooting_few token.view place word) place unset found last.view
      → TakesNoWords old (record old { token = last })
  few_none last unset found x = ⊎_elim
      (λ same. none_then old token last r.caller.mine gone (rooting_few token.view place word)
      (x.0 same.1) refl)
      (λ other. none_loads old last r.caller.mine (goes_on_more old.token.view token.view last.view gone
      (looked_goes_on token.view place found last.view (x.1 other.1))))
      (eqb_tells found unset)

  -- a root without rows may be put in place
  pub may_root_few : MayRootFew old token rebuild word place
  may_root_few =
      record { low = few_low; allowed = few_allowed; hit = few_hit; missed = few_missed; none = few_none }

-- ---- before the build

-- what was found of a rebuild by loads
pub record IsFound (old new : Caller) (rebuild target k : ℕ) : Type 0 where
  pub back : IsBack old new
  pub seen : GoesOnTo old.token.view new.token.view
  pub told : IsTold (now new.token.view) rebuild k
  pub target_is : HasTarget (now new.token.view) rebuild target

-- the target is finished
pub target_done : (v w : View) → GoesOnTo v w → (rebuild target k : ℕ) → IsTold (now v) rebuild k
    → HasTarget (now w) rebuild target → IsFinished (now w) target
target_done v w g rebuild target k told h =
    let on = told_on (now v) (now w) (built_grow v w (loads_built v w g)) rebuild k told in
    (k, (told_target (now w) rebuild target k on h).finished)

-- what was found by loads, as one record
pub found_so : (old : Caller) (token last : TokenFace) → IsFreeToBuild old
    → (first : GoesOnTo old.token.view token.view) → (second : GoesOnTo token.view last.view)
    → (rebuild target k n : ℕ) → IsTold (now old.token.view) rebuild k
    → HasTarget (now token.view) rebuild target → IsFinishedWith (now last.view) target n
    → IsFound old (record old { token = last }) rebuild target n
found_so old token last r first second rebuild target k n told h f = let v = old.token.view in
    let goes = goes_on_more v token.view last.view first second in
    let on = told_on (now v) (now last.view) (built_grow v last.view (loads_built v last.view goes))
    rebuild k told in
    let there = target_grows (now token.view) (now last.view)
    (built_grow token.view last.view (loads_built token.view last.view second)) rebuild target h in
    let t = told_target (now last.view) rebuild target k on there in
    let same : k ≡ n = finished_once (now last.view) target k n t.finished f in record {
      back = back_loads old last r goes;
      seen = goes;
      told = subst (IsTold (now last.view) rebuild) same on;
      target_is = there;
    }

-- a place that was seen Unset was seen so after loads too
pub found_unset : (old new : Caller) (place : ℕ) → IsBack old new
    → GoesOnTo old.token.view new.token.view → WasUnset old.token.view old.number place
    → WasUnset new.token.view new.number place
found_unset old new place b g was = subst (λ n. WasUnset new.token.view n place) (sym b.number)
    (unset_built old.token.view new.token.view old.number place
    (sym (goes_on_who g) ∙ b.ready.caller.mine ∙ ap CallerOf b.number)
    (loads_built old.token.view new.token.view g) was)
