-- A root that was put in place or lost. Serves `root`.
use Rattle.std.proofs.Common.{◌≡◌, ◌≢◌, ℕ, ◌+◌, ◌-◌, ◌/◌, ◌<◌, ◌≤◌, List, [], ◌∷◌, ◌++◌, length, Some, refl, sym, ap, ap₂, ◌∙◌, subst, arith}
use Rattle.ist_core.specs.declared.events.Event.{Event}
use Rattle.ist_core.specs.declared.events.Event.TheVariants.{Root, Lose}
use Rattle.ist_core.specs.declared.lists.Row.{Row}
use Rattle.ist_core.specs.declared.events.Who.TheVariants.{Caller as CallerOf}
use Rattle.ist_core.specs.LogTerms.{Each, bases_of, sizes_of}
use Rattle.ist_core.specs.TreeTerms.{PlacedLeaf, HasLeaves}
use Rattle.ist_core.specs.WordTerms.{Rebuild, InnerAt, unset_word, tag_count, rebuild_root_offset}
use Rattle.ist_rule.specs.RuleTerms.{CanExchangeOrLose, TokenFace, IsSound, now, Logged, LoggedLoad, number_of}
use Rattle.ist_dcss.proofs.FieldLemmas.{row_low}
use Rattle.ist_rows.specs.RowTerms.{IsCaller, spares_of, build_sizes, sizes_built}
use Rattle.ist_rows.specs.declared.callers.Caller.{Caller}
use Rattle.laws_coming.specs.Builds.{IsRootBuilt, WasUnset}
use Rattle.laws_coming.proofs.RootLemmas.{root_comes_or_loses}
use Rattle.ist_build.specs.Laying.{BuiltOn, OwnsRows, IsRootLaid}
use Rattle.ist_build.specs.BuildEvents.{rooting, losing, held_rows_from}
use Rattle.ist_build.specs.Back.{HasBuilt, IsRootMade, HasPutRoot}
use Rattle.ist_build.proofs.HeldBeforeLemmas.{rows_named}
use Rattle.laws_links.proofs.ContentLemmas.{finished_leaves}
use Rattle.ist_build.proofs.PartSlotLemmas.{unset_built}
use Rattle.ist_build.proofs.BackLemmas.{back_logged, back_lost}
use Rattle.ist_build.proofs.RootReadyLemmas.{IsTopped, first_least, root_lost, root_put, root_ready, root_topped, topped_base, topped_set}

-- ---- names

-- the rows from the base on which the word names are those that were built
pub rows_of_topped : (old mid : Caller) → IsCaller old → IsSound old.token.view
    → mid.number ≡ old.number → spares_of mid ≡ spares_of old
    → BuiltOn old.token.view mid.token.view → (word : ℕ) (rows : List Row)
    → OwnsRows mid.token.view mid.number (now old.token.view).next rows
    → sizes_built mid ≡ sizes_built old ++ sizes_of rows → IsTopped word (bases_of rows)
    → held_rows_from mid.token.view (word / tag_count) ≡ rows
rows_of_topped old mid c s number spares b word rows owns sizes topped =
    let base_is = topped_base word (bases_of rows) topped in
    rows_named old c s mid.token.view b (sizes_of rows)
    (ap₂ (λ n own. build_sizes (now mid.token.view) n own) (sym number) (sym spares) ∙ sizes) rows
    (subst (λ n. OwnsRows mid.token.view n (now old.token.view).next rows) number owns) refl
    (word / tag_count)
    (subst (λ x. (now old.token.view).next ≤ x) (sym base_is)
    (first_high rows topped.base topped.rest topped.bases_are owns.high))
    (λ x i. subst (λ y. y ≤ x) (sym base_is)
    (first_least (bases_of rows) topped.base topped.rest topped.bases_are owns.rising x i))
  where
    first_high : (xs : List Row) (base : ℕ) (rest : List ℕ) → bases_of xs ≡ base ∷ rest
        → Each (λ row. (now old.token.view).next ≤ row.base) xs → (now old.token.view).next ≤ base
    first_high [] base rest e high = absurd (let n = ap length e in omega arith)
    first_high (row ∷ xs) base rest e high = grind arith

module _ (old new : Caller) (c : IsCaller old) (s : IsSound old.token.view)
    (number : new.number ≡ old.number) (spares : spares_of new ≡ spares_of old)
    (b : BuiltOn old.token.view new.token.view) (target k word : ℕ) (leaves : List PlacedLeaf)
    (two : 2 ≤ length leaves) (h : IsRootLaid old new target k word leaves) where
  topped : IsTopped word (bases_of h.rows)
  topped = root_topped _ word k leaves target (bases_of h.rows) two h.root

  owns_old : OwnsRows new.token.view old.number (now old.token.view).next h.rows
  owns_old = subst (λ n. OwnsRows new.token.view n (now old.token.view).next h.rows) number h.owns

  sizes_old : build_sizes (now new.token.view) old.number (spares_of old)
      ≡ sizes_built old ++ sizes_of h.rows
  sizes_old = ap₂ (λ n own. build_sizes (now new.token.view) n own) (sym number) (sym spares) ∙ h.sizes

  -- the rows that the exchange names are those that were built
  pub root_named : held_rows_from new.token.view (word / tag_count) ≡ h.rows
  root_named = let base_is = topped_base word (bases_of h.rows) topped in
      rows_named old c s new.token.view b (sizes_of h.rows) sizes_old h.rows owns_old refl
      (word / tag_count)
      (subst (λ x. (now old.token.view).next ≤ x) (sym base_is)
      (first_high h.rows topped.base topped.rest topped.bases_are h.owns.high))
      (λ x i. subst (λ y. y ≤ x) (sym base_is)
      (first_least (bases_of h.rows) topped.base topped.rest topped.bases_are h.owns.rising x i))
    where
      first_high : (rows : List Row) (base : ℕ) (rest : List ℕ) → bases_of rows ≡ base ∷ rest
          → Each (λ row. (now old.token.view).next ≤ row.base) rows
          → (now old.token.view).next ≤ base
      first_high [] base rest e high = absurd (let n = ap length e in omega arith)
      first_high (row ∷ rows) base rest e high = grind arith

  mine_new : number_of new.token.view.who ≡ new.number
  mine_new = ap number_of (ap (λ x. x.who) b.same ∙ c.mine) ∙ sym number

  -- the exchange that puts the root in place is the Root with the rows that were built
  rooting_is : (rebuild place : ℕ) → place ≡ rebuild + rebuild_root_offset
      → rooting new.token.view place word ≡ Root new.number rebuild word h.rows
  rooting_is rebuild place at = grind (arith, mine_new, root_named)

  -- an exchange that fails is the Lose of the rows that were built
  losing_is : losing new.token.view word ≡ Lose new.number (bases_of h.rows)
  losing_is = ap₂ (λ n rows. Lose n (bases_of rows)) mine_new root_named

  -- at least one row was built
  root_some : h.rows ≢ []
  root_some e = let none : bases_of h.rows ≡ [] = ap bases_of e in
      let long = ap length (sym topped.bases_are ∙ none) in absurd (omega arith)

  -- the word of the root isn't Unset
  root_set : word ≢ unset_word
  root_set = topped_set word (bases_of h.rows) topped

-- ---- after the exchange

-- the exchange may be made, and what is known after it
pub record MayRoot (old mid : Caller) (rebuild word place : ℕ) : Type 0 where
  pub low : place < mid.token.view.words
  pub allowed : (unset : ℕ) → unset ≡ unset_word
      → CanExchangeOrLose mid.token.view place unset word (rooting mid.token.view place word)
      (losing mid.token.view word)
  pub hit : (token : TokenFace) → Logged mid.token.view (rooting mid.token.view place word) token.view
      → HasPutRoot old (record mid { token = token }) rebuild word
  pub missed : (token : TokenFace) (found : ℕ) → found ≢ unset_word
      → LoggedLoad mid.token.view (losing mid.token.view word) place found token.view
      → HasPutRoot old (record mid { token = token }) rebuild found

module _ (old mid : Caller) (rebuild word : ℕ) (m : IsRootMade old mid rebuild word)
    (place : ℕ) (at : place ≡ rebuild + rebuild_root_offset) where
  abbrev a : HasBuilt old mid
  a = m.has_built

  some : (leaves : List PlacedLeaf)
      × HasLeaves (now old.token.view).pieces (Some (InnerAt m.target)) leaves
      × (length leaves ≡ m.keys)
  some = grind (arith, finished_leaves)

  two : 2 ≤ length some.0
  two = let is = some.2 in let several = m.several in omega arith

  h : IsRootLaid old mid m.target m.keys word some.0
  h = m.laid some.0 some.1

  ready : IsRootBuilt (now mid.token.view) mid.number rebuild word h.rows
  ready =
      root_ready old mid rebuild m.target m.keys word a.sound a.built m.told m.target_is some.0 some.1 h

  mine : mid.token.view.who ≡ CallerOf mid.number
  mine = ap (λ x. x.who) a.built.same ∙ a.ready.caller.mine ∙ ap CallerOf (sym a.number)

  root_is : rooting mid.token.view place word ≡ Root mid.number rebuild word h.rows
  root_is =
      rooting_is old mid a.ready.caller a.sound a.number a.rows a.built m.target m.keys word some.0 two
      h rebuild place at

  lose_is : losing mid.token.view word ≡ Lose mid.number (bases_of h.rows)
  lose_is =
      losing_is old mid a.ready.caller a.sound a.number a.rows a.built m.target m.keys word some.0 two h

  -- the exchange may be made
  root_allowed : (unset : ℕ) → unset ≡ unset_word
      → CanExchangeOrLose mid.token.view place unset word (rooting mid.token.view place word)
      (losing mid.token.view word)
  root_allowed unset is = let w = mid.token.view in
      let there : WasUnset w mid.number (rebuild + rebuild_root_offset) =
      subst (λ n. WasUnset w n (rebuild + rebuild_root_offset)) (sym a.number)
      (unset_built old.token.view w old.number (rebuild + rebuild_root_offset) a.ready.caller.mine
      a.built m.unset) in
      let can = root_comes_or_loses w a.built.sound mid.number rebuild word h.rows mine h.owns.stored
      ready
      (root_some old mid a.ready.caller a.sound a.number a.rows a.built m.target m.keys word some.0 two h)
      there in
      subst (λ (e : Event). CanExchangeOrLose w place unset word (rooting w place word) e)
      (sym lose_is)
      (subst (λ (e : Event). CanExchangeOrLose w place unset word e (Lose mid.number (bases_of h.rows)))
      (sym root_is)
      (subst (λ q. CanExchangeOrLose w q unset word (Root mid.number rebuild word h.rows)
      (Lose mid.number (bases_of h.rows))) (sym at)
      (subst (λ q. CanExchangeOrLose w (rebuild + rebuild_root_offset) q word
      (Root mid.number rebuild word h.rows) (Lose mid.number (bases_of h.rows))) (sym is) can)))

  -- it was the Root
  root_hit : (token : TokenFace) → Logged mid.token.view (rooting mid.token.view place word) token.view
      → HasPutRoot old (record mid { token = token }) rebuild word
  root_hit token l = let w = mid.token.view in let event = Root mid.number rebuild word h.rows in
      let logged = subst (λ (e : Event). Logged w e token.view) root_is l in record {
        back = back_logged old mid a h.rows h.owns h.sizes event tt (λ n. refl) (λ x. refl) token logged;
        root = root_put w token.view mid.number rebuild word h.rows
            (root_set old mid a.ready.caller a.sound a.number a.rows a.built m.target m.keys word
            some.0 two h)
            logged;
      }

  -- or the Lose
  root_missed : (token : TokenFace) (found : ℕ) → found ≢ unset_word
      → LoggedLoad mid.token.view (losing mid.token.view word) place found token.view
      → HasPutRoot old (record mid { token = token }) rebuild found
  root_missed token found set l = let w = mid.token.view in
      let event = Lose mid.number (bases_of h.rows) in
      let lost = subst (λ (e : Event). LoggedLoad w e place found token.view) lose_is l in record {
        back = back_lost old mid a h.rows h.owns h.sizes event tt (λ n. refl) (λ x. refl) token place
            found lost;
        root = root_lost w token.view mid.number rebuild place found (bases_of h.rows) ready.row
            ready.published at set lost;
      }

  -- the place lies in the table
  root_low : place < mid.token.view.words
  root_low =
      let low = (row_low mid.token.view a.built.sound rebuild (Rebuild ready.row) ready.published 3
      (omega arith)).0 in
      omega arith

  -- a root that was made may be put in place
  pub may_root : MayRoot old mid rebuild word place
  may_root = record { low = root_low; allowed = root_allowed; hit = root_hit; missed = root_missed }
