-- Where the rows of a caller lie, and the pair row that it gives up. Serves `drop_below` and `take_pair`.
use Rattle.std.proofs.Common.{◌≡◌, ◌≢◌, ℕ, ◌+◌, ◌<◌, ◌≤◌, [], ◌∷◌, Some, None, IfSome, refl, sym, ◌∙◌, subst, arith, List, length, ap, ⊎_elim}
use Rattle.ist_core.specs.declared.events.Event.{Event}
use Rattle.ist_core.specs.declared.events.Event.TheVariants.{Lose}
use Rattle.ist_core.specs.declared.lists.HeldRow.{HeldRow}
use Rattle.ist_core.specs.declared.states.ChangeRow.{ChangeRow}
use Rattle.ist_core.specs.LogTerms.{Among, Snapshot, bases_of}
use Rattle.ist_core.specs.TreeTerms.{AllGrow, new_leaf, pair_row}
use Rattle.ist_core.specs.WordTerms.{Inner, IsGoodBase, inner_status_offset, start, words_of}
use Rattle.ist_core.proofs.AllLogLemmas.{inner_there, next_within, words_same}
use Rattle.ist_core.proofs.AllEventLemmas.{HeldLieApart, sound, sound_start}
use Rattle.ist_core.proofs.AllPlaceLemmas.{placed, claimed_within, claimed_apart}
use Rattle.ist_rule.specs.RuleTerms.{now, IsSound, IsNode, is_anchor, is_inner, own_at, StoredAll}
use Rattle.ist_rule.specs.declared.view.View.{View}
use Rattle.ist_rule.proofs.WentOnLemmas.{logged_load_went}
use Rattle.ist_rows.specs.RowTerms.{HasRefused, without_row, HasPairBelow, HasLost, kind_words, IsCaller, row_of, spares_of, HasGone, AreBasesOf, storing_all, with_own, filled_with, StandAt}
use Rattle.ist_rows.specs.declared.callers.Caller.{Caller}
use Rattle.ist_rows.specs.declared.kinds.Kind.{Kind}
use Rattle.ist_rows.specs.declared.kinds.Kind.TheVariants.{Pair, Leaf, Change}
use Rattle.ist_rows.proofs.CallerLawLemmas.{loaded_made, refused_made}
use Rattle.ist_updates.specs.Changing.{Prepares, fresh_rows, kinds_of}
use Rattle.ist_rows.proofs.FillingLemmas.{stored_at, stored_else}
use Rattle.ist_updates.specs.declared.plans.Fresh.{Fresh}
use Rattle.ist_updates.specs.declared.plans.Fresh.TheVariants.{Nothing, Leaf as LeafRow, Pair as PairRow}
use Rattle.ist_updates.specs.Filling.{KeepsOthers}

-- ---- where rows lie

-- the state that a sound view has seen is sound
pub sound_now : (v : View) → IsSound v → HeldLieApart (now v)
sound_now v s = sound (start v.start v.words) v.log (sound_start v.start v.words) s.lawful.enabled

-- a held row lies at a good base
pub held_good : (v : View) → IsSound v → (h : HeldRow) → Among h (now v).held → 0 < h.size
    → IsGoodBase h.base
held_good v s h i some =
    let claim = claimed_within v.start v.words v.log h.base h.size s.lawful.enabled
    ((placed v.start v.words v.log s.lawful.enabled).held h i) in
    let high = claim.below_next in
    let low = next_within v.start v.words s.lawful.opens v.log s.lawful.enabled in
    let all = words_same v.start v.words s.lawful.opens v.log in
    let within = s.lawful.opens.within in
    record { after_fixed = claim.after_fixed; below_limit = omega arith }

-- the row of a kind lies at a good base
pub row_good : (who : Caller) → IsSound who.token.view → IsCaller who → (kind : Kind) (base : ℕ)
    → row_of kind (spares_of who) ≡ Some base → 0 < kind_words kind → IsGoodBase base
row_good who s c kind base is some = held_good who.token.view s record {
  caller = who.number;
  base = base;
  size = kind_words kind;
} (c.rows kind base is) some

-- so does the row that a caller holds after it has gone on
pub taken_good : {P : Event → Type 0} {old new : Caller} → HasGone P old new → (kind : Kind)
    {base : ℕ} → row_of kind (spares_of new) ≡ Some base → 0 < kind_words kind → IsGoodBase base
taken_good {P} {old} {new} gone kind {base} is some = grind (arith, row_good)

-- a node stays one when rows grow
pub node_on : (t u : Snapshot) → AllGrow t.pieces u.pieces → (node : ℕ) → IsNode t node
    → IsNode u node
node_on t u g node (is_anchor e) = is_anchor e
node_on t u g node (is_inner r e) =
    let it = inner_there t.pieces u.pieces g node r e in is_inner it.0 it.1

-- a node lies below each good base after the words in use
pub fresh_above : (v : View) → IsSound v → (node base : ℕ) → IsNode (now v) node
    → (now v).next ≤ base → IsGoodBase base → node < base
fresh_above v s node base (is_anchor e) high good = let low = good.after_fixed in omega arith
fresh_above v s node base (is_inner r e) high good =
    let low = (sound_now v s).below node (Inner r) e in omega arith

module _ (who : Caller) (s : IsSound who.token.view) (c : IsCaller who) (base : ℕ)
    (is : who.pair ≡ Some base) where
  abbrev row : HeldRow
  row = record { caller = who.number; base = base; size = 7 }

  -- the pair row lies at a good base
  pub pair_good : IsGoodBase base
  pair_good = held_good who.token.view s row (c.rows Pair base is) (omega arith)

  -- if it lies below a node, that node is an inner row
  pub pair_below : (node : ℕ) → IsNode (now who.token.view) node → base < node
      → HasPairBelow who node
  pair_below node (is_anchor e) less = let low = pair_good.after_fixed in absurd (omega arith)
  pair_below node (is_inner r e) less = grind arith

  -- and else above it
  pub pair_above : (node : ℕ) → IsNode (now who.token.view) node → node ≤ base → node < base
  pair_above node (is_anchor e) low = let good = pair_good.after_fixed in omega arith
  pair_above node (is_inner r e) low =
      let apart : node ≢ base = λ same. clash
      (sym ((sound_now who.token.view s).unpublished row (c.rows Pair base is))
      ∙ subst (λ b. (now who.token.view).pieces b ≡ Some (Inner r)) same e) in
      omega arith
    where
      clash : None ≡ Some (Inner r) → ⊥
      clash e = cc

-- ---- giving it up

-- a caller that gave up its pair row went on by preparing steps only
pub dropped : (old new : Caller) (node pair : ℕ) → IsCaller old → HasRefused old
    → old.pair ≡ Some pair
    → IfSome old.pair (λ p. HasLost old.token.view old.number p node new.token.view) → IsCaller new
    → new.number ≡ old.number → spares_of new ≡ without_row Pair (spares_of old)
    → HasGone Prepares old new
dropped old new node pair c refused is lost caller number rows =
    let l = subst (λ o. IfSome o (λ p. HasLost old.token.view old.number p node new.token.view)) is
    lost in
    let event : Event = Lose old.number (pair ∷ []) in let place = node + inner_status_offset in
    record {
      caller = caller;
      number = number;
      refused = refused_made old new (Pair ∷ []) event (pair ∷ []) c l.1.before
          (loaded_made old.token.view event place l.0 new.token.view l.1) refl refl (is, tt)
          record { number = number; rows = rows } refused;
      went = logged_load_went Prepares old.token.view event place l.0 new.token.view l.1 tt refl;
    }

-- ---- rows that a caller has filled, one after another. Serves `filling`.

-- rows of kinds of other sizes lie at other bases
pub kinds_apart : (who : Caller) → IsSound who.token.view → IsCaller who → (k j : Kind) (a b : ℕ)
    → row_of k (spares_of who) ≡ Some a → row_of j (spares_of who) ≡ Some b
    → kind_words k ≢ kind_words j → a ≢ b
kinds_apart who s c k j a b first second differ same =
    differ (ap (λ (h : HeldRow). h.size) ((sound_now who.token.view s).once
    record { caller = who.number; base = a; size = kind_words k }
    record { caller = who.number; base = b; size = kind_words j } (c.rows k a first)
    (c.rows j b second) same))

-- what the filling of a row results in
pub record HasFilledRow (old new : Caller) (base : ℕ) (words : List ℕ) : Type 0 where
  pub same : new ≡ with_own old new.token.view.own
  pub stands : StandAt new.token.view.own base words
  pub others : KeepsOthers (λ at. at ≡ base) old new

-- a caller that stored words into a row of its own has filled it so
pub row_filled : (old new : Caller) (kind : Kind) (base : ℕ) (words : List ℕ) → IsSound old.token.view
    → IsCaller old → row_of kind (spares_of old) ≡ Some base → length words ≤ kind_words kind
    → new ≡ filled_with old base words → HasFilledRow old new base words
row_filled old new kind base words s c held within is =
    let own : new.token.view.own ≡ storing_all old.token.view.own base words =
    ap (λ (x : Caller). x.token.view.own) is in
    record {
      same = is ∙ ap {B = Caller} (with_own old) (sym own);
      stands = grind (arith, stored_at);
      others = λ h mine i out k less. ap (λ o. own_at o (h.base + k)) own
          ∙ stored_else old.token.view.own base words (h.base + k) (away h i out k less);
    }
  where
    v : View
    v = old.token.view

    away : (h : HeldRow) → Among h (now v).held → ¬ (h.base ≡ base) → (k : ℕ) → k < h.size → (j : ℕ)
        → j < length words → base + j ≢ h.base + k
    away h i out k less j low = let set = placed v.start v.words v.log s.lawful.enabled in
        ⊎_elim (λ e. absurd (out (sym e.0))) (λ a. grind arith)
        (claimed_apart v.start v.words v.log base (kind_words kind) h.base h.size s.lawful.enabled
        (set.held record { caller = old.number; base = base; size = kind_words kind }
        (c.rows kind base held))
        (set.held h i))

-- words of another row are kept
pub stand_kept : (old new : Caller) (base : ℕ) → KeepsOthers (λ at. at ≡ base) old new
    → (h : HeldRow) → h.caller ≡ old.number → Among h (now old.token.view).held → h.base ≢ base
    → (words : List ℕ) → length words ≤ h.size → StandAt old.token.view.own h.base words
    → StandAt new.token.view.own h.base words
stand_kept old new base kept h mine i out words low stand k less = grind arith

-- the row of a kind stays the same if only the caller's own words change
held_as : (old mid : Caller) (kind : Kind) (base : ℕ) → mid ≡ with_own old mid.token.view.own
    → row_of kind (spares_of old) ≡ Some base → row_of kind (spares_of mid) ≡ Some base
held_as old mid kind base same e = ap (λ (x : Caller). row_of kind (spares_of x)) same ∙ e

-- a pair row has its seven words
pair_length : (key leaf other_key other : ℕ)
    → length (words_of (pair_row key leaf other_key other)) ≤ 7
pair_length key leaf other_key other = grind arith

module _ (old mid new : Caller) (s : IsSound old.token.view) (c : IsCaller old) (d : IsCaller mid)
    (same : mid ≡ with_own old mid.token.view.own) where
  -- the words of a row of another kind are kept
  other_stands : (kind that : Kind) (base other : ℕ) → row_of kind (spares_of old) ≡ Some base
      → row_of that (spares_of old) ≡ Some other → kind_words that ≢ kind_words kind
      → KeepsOthers (λ at. at ≡ base) mid new → (words : List ℕ) → length words ≤ kind_words that
      → StandAt mid.token.view.own other words → StandAt new.token.view.own other words
  other_stands kind that base other first second differ kept words low stands =
      stand_kept mid new base kept
      record { caller = mid.number; base = other; size = kind_words that } refl
      (d.rows that other (held_as old mid that other same second))
      (kinds_apart old s c that kind other base second first differ) words low stands

  -- the words of a pair row and its leaf are stored
  pub pair_stored : (row : ChangeRow) (base leaf other other_key : ℕ) → old.pair ≡ Some base
      → old.leaf ≡ Some leaf → KeepsOthers (λ at. at ≡ base) mid new
      → StandAt mid.token.view.own leaf (words_of (new_leaf row))
      → StandAt new.token.view.own base (words_of (pair_row row.key leaf other_key other))
      → StoredAll new.token.view (fresh_rows row (PairRow base leaf other other_key))
  pair_stored row base leaf other other_key has_pair has_leaf kept leaf_stands pair_stands = (
    pair_stands,
    (
      other_stands Pair Leaf base leaf has_pair has_leaf (omega arith) kept (words_of (new_leaf row))
          (omega arith) leaf_stands,
      tt,
    ),
  )

  -- the fresh rows keep their words while the change's row is filled
  pub fresh_kept : (row : ChangeRow) (base : ℕ) (fresh : Fresh) → old.change ≡ Some base
      → AreBasesOf (kinds_of fresh) (spares_of old) (bases_of (fresh_rows row fresh))
      → KeepsOthers (λ at. at ≡ base) mid new → StoredAll mid.token.view (fresh_rows row fresh)
      → StoredAll new.token.view (fresh_rows row fresh)
  fresh_kept row base Nothing has rows kept stored = tt
  fresh_kept row base (LeafRow leaf) has rows kept stored = (
    other_stands Change Leaf base leaf has rows.0 (omega arith) kept (words_of (new_leaf row))
        (omega arith) stored.0,
    tt,
  )
  fresh_kept row base (PairRow pair leaf other other_key) has rows kept stored = (
    other_stands Change Pair base pair has rows.0 (omega arith) kept
        (words_of (pair_row row.key leaf other_key other))
        (pair_length row.key leaf other_key other) stored.0,
    (
      other_stands Change Leaf base leaf has rows.1.0 (omega arith) kept (words_of (new_leaf row))
          (omega arith) stored.1.0,
      tt,
    ),
  )

-- other own words twice
pub own_twice : (old mid new : Caller) → mid ≡ with_own old mid.token.view.own
    → new ≡ with_own mid new.token.view.own → new ≡ with_own old new.token.view.own
own_twice old mid new a b = b ∙ ap {B = Caller} (λ (c : Caller). with_own c new.token.view.own) a
