-- One more part of a row that is built only by stores. Serves `lay`.
use Rattle.std.proofs.Common.{◌≡◌, ◌≢◌, ℕ, ◌+◌, ◌<◌, ◌≤◌, List, ◌∷◌, length, slice_index_or, refl, sym, ap, ◌∙◌, subst, arith}
use Rattle.std.specs.List.{sum, flat_map}
use Rattle.std.proofs.lemmas.List.{take-map, drop-map}
use Rattle.std.proofs.lemmas.List.Sums.{sum_by-append}
use Rattle.ist_core.specs.WordTerms.{degree, part_len, inner_words, place_limit, shape}
use Rattle.ist_core.specs.TreeTerms.{PlacedLeaf}
use Rattle.ist_core.specs.LogTerms.{Snapshot}
use Rattle.ist_rule.specs.RuleTerms.{IsSound, own_at, now}
use Rattle.ist_rule.specs.declared.view.View.{View}
use Rattle.ist_rule.specs.declared.view.OwnWord.{OwnWord}
use Rattle.ist_rows.specs.RowTerms.{IsCaller, HoldsBlock}
use Rattle.ist_rows.specs.declared.callers.Caller.{Caller}
use Rattle.laws_calls.specs.Dividing.{lens_to, share_of}
use Rattle.ist_build.specs.Laying.{ArePlaced, HaveLeaves, AreKeysOf, IsWritten, IsLaidBelow}
use Rattle.ist_build.specs.Midway.{lens_from, IsLaying, setting}
use Rattle.ist_build.proofs.PartLeafLemmas.{each_take, each_drop, length-share_of, keys_set}
use Rattle.ist_build.proofs.PartsLemmas.{sizes_next, sizes_left}
use Rattle.ist_build.proofs.RowOpenedLemmas.{elsewhere, opened_on, setting_is}
use Rattle.ist_build.proofs.BlockLemmas.{holds_split, part_laid_too}
use Rattle.ist_build.proofs.KeyLemmas.{keys_share, key_first}

-- the leaves of a part, in the same state
pub share_placed : (t : Snapshot) (n j : ℕ) (bases : List ℕ) (leaves : List PlacedLeaf)
    → ArePlaced t bases leaves → ArePlaced t (share_of n j bases) (share_of n j leaves)
share_placed t n j bases leaves a = grind (arith, take-map, drop-map, each_take, each_drop)

-- the first key of a part is its first leaf's key
share_key : (t : Snapshot) (n j : ℕ) (bases keys own_keys : List ℕ) → AreKeysOf t bases keys
    → own_keys ≡ share_of n j keys → (placed : List PlacedLeaf) → ArePlaced t bases placed
    → (leaf : PlacedLeaf) (others : List PlacedLeaf) → share_of n j placed ≡ leaf ∷ others
    → slice_index_or own_keys 0 0 ≡ leaf.row.key
share_key t n j bases keys own_keys have keys_are placed a leaf others is =
    let it = subst (ArePlaced t (share_of n j bases)) is (share_placed t n j bases placed a) in
    ap (λ xs. slice_index_or xs 0 0) keys_are
    ∙ key_first t (share_of n j bases) (share_of n j keys) (keys_share t n j bases keys have) leaf others
    it.bases_are it.published.0

-- the rows of a part, and the rows of the parts after it
part_block : (old who : Caller) (leaves : List ℕ) (base d j next : ℕ)
    → IsLaying old leaves base d j next who → j < degree (length leaves)
    → HoldsBlock (now who.token.view) who.number next (shape (part_len (length leaves) j))
    × HoldsBlock (now who.token.view) who.number (next + sum (shape (part_len (length leaves) j)))
    (flat_map shape (lens_from (length leaves) (j + 1)))
part_block old who leaves base d j next m less = grind (arith, holds_split, sizes_left)

-- ---- before a part is laid

module _ (old who : Caller) (leaves keys : List ℕ) (base d j next : ℕ)
    (m : IsLaying old leaves base d j next who) (less : j < degree (length leaves))
    (own own_keys : List ℕ) (own_is : own ≡ share_of (length leaves) j leaves)
    (keys_are : own_keys ≡ share_of (length leaves) j keys) where
  -- nothing but words was stored
  same_state : now who.token.view ≡ now old.token.view
  same_state = ap (λ (x : Caller). now x.token.view) m.written.same

  -- it has the length of the part, and one key per leaf
  pub long_part : length own ≡ part_len (length leaves) j
  long_part = ap length own_is ∙ length-share_of (length leaves) j leaves refl less

  -- if the keys are one per leaf, so are the keys of the part
  pub long_keys : length keys ≡ length leaves → length own_keys ≡ length own
  long_keys many = grind (arith, length-share_of, long_part)

  -- its rows are held
  pub held_part : HoldsBlock (now who.token.view) who.number next (shape (length own))
  held_part = subst (λ k. HoldsBlock (now who.token.view) who.number next (shape k)) (sym long_part)
      (part_block old who leaves base d j next m less).0

  -- its leaves are published, and its keys are theirs
  pub leaves_part : HaveLeaves (now old.token.view) leaves → HaveLeaves (now who.token.view) own
  leaves_part have =
      subst (λ t. HaveLeaves t own) (sym same_state) (
        share_of (length leaves) j have.0,
        subst (λ xs. ArePlaced (now old.token.view) xs (share_of (length leaves) j have.0)) (sym own_is)
            (share_placed (now old.token.view) (length leaves) j leaves have.0 have.1),
      )

  -- if the keys are the leaves' keys, the part's keys are the keys of the part's leaves
  pub keys_part : AreKeysOf (now old.token.view) leaves keys → AreKeysOf (now who.token.view) own own_keys
  keys_part have = grind (arith, same_state, keys_share)

  -- and its first key is its first leaf's key
  pub key_part : AreKeysOf (now old.token.view) leaves keys
      → (placed : List PlacedLeaf) → ArePlaced (now old.token.view) leaves placed
      → (leaf : PlacedLeaf) (others : List PlacedLeaf) → share_of (length leaves) j placed ≡ leaf ∷ others
      → slice_index_or own_keys 0 0 ≡ leaf.row.key
  key_part have placed a leaf others is = grind (arith, share_key)

-- ---- once it is laid

module _ (old who : Caller) (leaves : List ℕ) (base d j next end key word : ℕ)
    (nown : List OwnWord) (m : IsLaying old leaves base d j next who)
    (d_is : d ≡ degree (length leaves)) (less : j < d) (some : 1 ≤ part_len (length leaves) j)
    (sound : IsSound (record who.token.view { own = nown }))
    (below : (p : ℕ) → p < next → own_at nown p ≡ own_at who.token.view.own p)
    (above : (p : ℕ) → end ≤ p → own_at nown p ≡ own_at who.token.view.own p)
    (end_is : end ≡ next + sum (shape (part_len (length leaves) j))) (low : end ≤ place_limit)
    (laid : (part : List PlacedLeaf)
    → ArePlaced (now who.token.view) (share_of (length leaves) j leaves) part
    → IsLaidBelow (record who.token.view { own = nown }) who.number next end word part)
    (key_is : (placed : List PlacedLeaf) → ArePlaced (now old.token.view) leaves placed
    → (leaf : PlacedLeaf) (others : List PlacedLeaf)
    → share_of (length leaves) j placed ≡ leaf ∷ others → key ≡ leaf.row.key)
  where
    abbrev n : ℕ
    n = length leaves

    abbrev v : View
    v = who.token.view

    abbrev c : View
    c = record v { own = nown }

    abbrev words : List OwnWord
    words = (setting c base d j key word).own

    abbrev last : Caller
    last = record who { token = record who.token { view = record v { own = words } } }

    in_row : base + inner_words d ≤ next
    in_row = let is = m.next_is in omega arith

    up : next ≤ end
    up = omega arith

    -- what was stored before lies still
    stays : (p : ℕ) → p < next → p ≢ base + 3 + d + j → (1 ≤ j → p ≢ base + 3 + j)
        → own_at words p ≡ own_at v.own p
    stays p l ne nk = elsewhere c base d j key word less p ne nk ∙ below p l

    same_now : now v ≡ now old.token.view
    same_now = ap (λ (x : Caller). now x.token.view) m.written.same

    all_sizes : end ≡ base + inner_words d + sum (flat_map shape (lens_to n (j + 1)))
    all_sizes = grind (arith, sizes_next, sum_by-append)

    -- when the part's word and key are stored, one part more of the row is built
    pub laying_set : IsCaller last → IsSound (record v { own = words })
        → IsLaying old leaves base d (j + 1) end last
    laying_set caller sound_last = let inside = in_row in let more = up in record {
      written = record {
        same = ap (λ (x : Caller). record x {
          token = record x.token { view = record x.token.view { own = words } };
        }) m.written.same;
        caller = caller;
        sound = sound_last;
        below = λ p l. stays p (omega arith) (λ e. omega arith) (λ one e. omega arith)
            ∙ m.written.below p l;
        above = λ p l. elsewhere c base d j key word less p (λ e. omega arith)
            (λ one e. omega arith) ∙ above p l ∙ m.written.above p (omega arith);
      };
      next_is = all_sizes;
      low = low;
      held = m.held;
      rest = subst (λ b. HoldsBlock (now v) who.number b (flat_map shape (lens_from n (j + 1))))
          (sym end_is) (part_block old who leaves base d j next m
          (let q : j < degree n = omega (arith, d_is) in q)).1;
      opened = opened_on v.own words base d n
          (λ p l. stays p (omega arith) (λ e. omega arith) (λ one e. omega arith)) m.opened;
      laid = λ placed a.
          part_laid_too v who.number base d n j next end key word nown less in_row up below sound
          placed (m.laid placed a)
          (laid (share_of n j placed)
          (share_placed (now v) n j leaves placed
          (subst (λ t. ArePlaced t leaves placed) (sym same_now) a)));
      keys = λ placed a.
          keys_set v.own c base d j key word less (now old.token.view) leaves placed a d_is some
          (λ p l. stays p (omega arith)) (m.keys placed a) (key_is placed a);
    }

-- ---- in the form of the functions' clauses

-- the part was laid, and its word and key were stored
pub laying_part : (old who new last : Caller) (leaves : List ℕ) (base d j next end key word : ℕ)
    → IsLaying old leaves base d j next who → d ≡ degree (length leaves) → j < d
    → 1 ≤ part_len (length leaves) j → IsWritten who new next end
    → end ≡ next + sum (shape (part_len (length leaves) j)) → end ≤ place_limit
    → ((part : List PlacedLeaf)
    → ArePlaced (now who.token.view) (share_of (length leaves) j leaves) part
    → IsLaidBelow new.token.view new.number next end word part)
    → ((placed : List PlacedLeaf) → ArePlaced (now old.token.view) leaves placed
    → (leaf : PlacedLeaf) (others : List PlacedLeaf)
    → share_of (length leaves) j placed ≡ leaf ∷ others → key ≡ leaf.row.key)
    → last ≡ record new { token = record new.token { view = setting new.token.view base d j key word } }
    → IsCaller last → IsSound last.token.view → IsLaying old leaves base d (j + 1) end last
laying_part old who new last leaves base d j next end key word m d_is less some written end_is low laid
    key_is is caller sound =
    let nown = new.token.view.own in
    let there : Caller =
    record who { token = record who.token { view = record who.token.view { own = nown } } } in
    let set = λ (x : Caller). record x {
      token = record x.token { view = setting x.token.view base d j key word };
    } in
    let view_is = setting_is there.token.view base d j key word less in
    let whole = is ∙ ap set written.same
    ∙ ap (λ v. record there { token = record there.token { view = v } }) view_is in
    subst (IsLaying old leaves base d (j + 1) end) (sym whole)
    (laying_set old who leaves base d j next end key word nown m d_is less some
    (subst (λ (x : Caller). IsSound x.token.view) written.same written.sound)
    written.below written.above end_is low
    (λ part a. subst (λ (x : Caller). IsLaidBelow x.token.view x.number next end word part) written.same
    (laid part a))
    key_is (subst IsCaller whole caller)
    (subst (λ (x : Caller). IsSound x.token.view) whole sound))
