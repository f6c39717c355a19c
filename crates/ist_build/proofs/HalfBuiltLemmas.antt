-- A half-built row, after each part. Serves `build`.
use Rattle.std.proofs.Common.{◌≡◌, ◌≢◌, ℕ, ◌+◌, ◌-◌, ◌<◌, ◌≤◌, List, [], ◌∷◌, ◌++◌, length, drop, sym, ap, ap₂, ◌∙◌, subst, append_assoc, arith}
use Rattle.std.specs.List.{flat_map}
use Rattle.ist_core.specs.WordTerms.{degree, part_len, first_keys, inner_words, shape}
use Rattle.ist_core.specs.LogTerms.{Each, HoldsRow}
use Rattle.ist_core.specs.TreeTerms.{PlacedLeaf}
use Rattle.ist_core.proofs.AllLogLemmas.{all_grow_same}
use Rattle.ist_rule.specs.RuleTerms.{IsSound, own_at, now}
use Rattle.ist_rule.specs.declared.view.View.{View}
use Rattle.ist_rule.specs.declared.view.OwnWord.{OwnWord}
use Rattle.ist_core.specs.declared.events.Who.TheVariants.{Caller as CallerOf}
use Rattle.ist_rows.specs.RowTerms.{spares_of, IsCaller, Reserved, IsInBuild, HasTaken}
use Rattle.ist_rows.specs.declared.callers.Caller.{Caller}
use Rattle.ist_build.specs.Laying.{BuiltOn, ArePlaced, IsLaid}
use Rattle.laws_calls.specs.Dividing.{lens_to, parts_to, share_of}
use Rattle.laws_calls.proofs.PartLemmas.{parts_next}
use Rattle.ist_build.specs.Midway.{words_at, AreLaid, lens_from, IsMidway, opening, setting}
use Rattle.ist_build.proofs.BuiltLemmas.{built_more, built_held, built_grow, rewritten_built}
use Rattle.ist_build.proofs.LayingLemmas.{row_within, rows_below, are_laid_on, same_rows, words_at_same, words_at_more}
use Rattle.ist_build.proofs.JoinedSubtreeLemmas.{are_laid_more}
use Rattle.ist_build.proofs.PartsLemmas.{sizes_next, sizes_left}
use Rattle.ist_build.proofs.RowOpenedLemmas.{at_rewritten, at_slot, elsewhere, midway_first, opened_on, setting_is}
use Rattle.ist_build.proofs.PartLeafLemmas.{part_placed, keys_set}

module _ (old who new : Caller) (leaves : List ℕ) (base d j key word : ℕ)
    (s : IsSound who.token.view) (m : IsMidway old leaves base d j who)
    (degree_is : d ≡ degree (length leaves)) (less : j < d)
    (caller : IsCaller new) (number : new.number ≡ who.number)
    (rows : spares_of new ≡ spares_of who) (b : BuiltOn who.token.view new.token.view)
    (laid : (part : List PlacedLeaf)
    → ArePlaced (now who.token.view) (share_of (length leaves) j leaves) part
    → IsLaid new.token.view new.number (now who.token.view).next word part)
    (taken : HasTaken who (shape (part_len (length leaves) j)) new)
    (key_is : (placed : List PlacedLeaf) → ArePlaced (now old.token.view) leaves placed
    → (leaf : PlacedLeaf) (others : List PlacedLeaf)
    → share_of (length leaves) j placed ≡ leaf ∷ others → key ≡ leaf.row.key)
    (some : 1 ≤ part_len (length leaves) j) where
  abbrev n : ℕ
  n = length leaves

  abbrev v : View
  v = who.token.view

  abbrev c : View
  c = new.token.view

  abbrev words : List OwnWord
  words = (setting c base d j key word).own

  abbrev w : View
  w = record c { own = words }

  abbrev last : Caller
  last = record new { token = record new.token { view = w } }

  inside : base + inner_words d ≤ (now v).next
  inside = (row_within v s who.number base (inner_words d) m.held).0

  -- what was stored before lies still
  stays : (p : ℕ) → p < base + inner_words d → p ≢ base + 3 + d + j → (1 ≤ j → p ≢ base + 3 + j)
      → own_at words p ≡ own_at v.own p
  stays p low ne nk = grind (arith, inside, elsewhere)

  held_new : HoldsRow (now c) new.number base (inner_words d)
  held_new = subst (λ k. HoldsRow (now c) k base (inner_words d)) (sym number)
      (built_held v c b who.number base (inner_words d) m.caller.mine m.held)

  module _ (placed : List PlacedLeaf) (a : ArePlaced (now old.token.view) leaves placed) where
    part : List PlacedLeaf
    part = share_of n j placed

    before : AreLaid v new.number (base + inner_words d) base (words_at v.own (base + 3 + d) j)
        (parts_to n j placed)
    before = grind arith

    there : IsLaid c new.number (now v).next word (share_of n j placed)
    there = laid (share_of n j placed) (part_placed old.token.view v m.built n j leaves placed a)

    on : AreLaid c new.number (base + inner_words d) base (words_at v.own (base + 3 + d) j)
        (parts_to n j placed)
    on = are_laid_on v c s b.sound new.number (base + inner_words d) (built_grow v c b)
        (λ b2 size h. built_held v c b new.number b2 size (m.caller.mine ∙ ap CallerOf (sym number)) h)
        (λ place low high2. b.own place high2) base (words_at v.own (base + 3 + d) j)
        (parts_to n j placed) before

    same : on.rows ≡ before.rows
    unfolding on
    same = grind (arith, same_rows, built_grow, built_held, before)

    joined : AreLaid c new.number (base + inner_words d) base
        (words_at v.own (base + 3 + d) j ++ word ∷ []) (parts_to n j placed ++ share_of n j placed ∷ [])
    joined = let high = inside in
        are_laid_more c b.sound new.number (base + inner_words d) (now v).next base inside (omega arith)
        (words_at v.own (base + 3 + d) j) (parts_to n j placed) word (share_of n j placed) on there
        (subst (Each (λ row. row.base < (now v).next)) (sym same)
        (rows_below v s new.number before.rows before.owns.held))

    words_now : words_at words (base + 3 + d) (j + 1) ≡ words_at v.own (base + 3 + d) j ++ word ∷ []
    words_now = words_at_more words (base + 3 + d) j ∙ ap₂ (λ xs x. xs ++ x ∷ [])
        (words_at_same words v.own (base + 3 + d) j
        (λ p low high. stays p (omega arith) (λ e. omega arith) (λ one e. omega arith)))
        (at_slot c base d j key word less)

    -- with one more word the first j + 1 parts are laid
    pub laid_more : IsSound w → AreLaid w new.number (base + inner_words d) base
        (words_at words (base + 3 + d) (j + 1)) (parts_to n (j + 1) placed)
    laid_more sound =
        subst (AreLaid w new.number (base + inner_words d) base (words_at words (base + 3 + d) (j + 1)))
        (sym (parts_next n j placed))
        (subst (λ xs. AreLaid w new.number (base + inner_words d) base xs
        (parts_to n j placed ++ share_of n j placed ∷ [])) (sym words_now)
        (are_laid_on c w b.sound sound new.number (base + inner_words d) (all_grow_same (now c).pieces)
        (λ b2 size h. h)
        (λ place low high. elsewhere c base d j key word less place (λ e. omega arith)
        (λ one e. omega arith))
        base (words_at v.own (base + 3 + d) j ++ word ∷ [])
        (parts_to n j placed ++ share_of n j placed ∷ []) joined))

    keys_more : words_at words (base + 4) (j + 1 - 1)
        ≡ first_keys (λ (leaf : PlacedLeaf). leaf.row.key) (drop 1 (parts_to n (j + 1) placed))
    keys_more =
        keys_set v.own c base d j key word less (now old.token.view) leaves placed a degree_is some
        stays (m.keys placed a) (key_is placed a)

  due_more : (stuck done rest : List ℕ) → IsInBuild old stuck done (shape n ++ rest)
      → IsInBuild last stuck (done ++ inner_words d ∷ flat_map shape (lens_to n (j + 1)))
      (flat_map shape (lens_from n (j + 1)) ++ rest)
  due_more stuck done rest h = let fore = done ++ inner_words d ∷ flat_map shape (lens_to n j) in
      let next = flat_map shape (lens_from n (j + 1)) in let len = part_len n j in
      let following : flat_map shape (lens_from n j) ++ rest ≡ shape len ++ (next ++ rest) =
      ap (λ xs. xs ++ rest) (sizes_left n j (let q : j < degree n = omega (arith, degree_is) in q))
      ∙ append_assoc (shape len) next rest in
      let front : fore ++ shape len ≡ done ++ inner_words d ∷ flat_map shape (lens_to n (j + 1)) =
      append_assoc done (inner_words d ∷ flat_map shape (lens_to n j)) (shape len)
      ∙ ap (λ xs. done ++ inner_words d ∷ xs) (sym (sizes_next n j)) in
      at_rewritten new words stuck _ _
      (subst (λ xs. IsInBuild new stuck xs (next ++ rest)) front
      (taken stuck fore (next ++ rest)
      (subst (IsInBuild who stuck fore) following (m.due stuck done rest h))))

  -- when the part's word and key are stored, the half-built row has one part more
  pub midway_set : IsCaller last → IsSound w → IsMidway old leaves base d (j + 1) last
  midway_set caller_last sound = let up_first = m.high in record {
    caller = caller_last;
    number = number ∙ m.number;
    rows = rows ∙ m.rows;
    built = rewritten_built old.token.view c words (built_more old.token.view v c m.built b) sound
        (λ p low. elsewhere c base d j key word less p (λ e. omega arith) (λ one e. omega arith));
    high = m.high;
    held = held_new;
    opened = opened_on v.own words base d n
        (λ p low. stays p (omega arith) (λ e. omega arith) (λ one e. omega arith)) m.opened;
    laid = λ placed a. laid_more placed a sound;
    keys = λ placed a. keys_more placed a;
    due = due_more;
  }

-- ---- in the form of the functions' clauses

-- the row was opened
pub midway_opened : (old new last : Caller) (leaves : List ℕ) (base d : ℕ) → IsSound old.token.view
    → old.token.view.who ≡ CallerOf old.number → 2 ≤ length leaves → d ≡ degree (length leaves)
    → new.number ≡ old.number → spares_of new ≡ spares_of old
    → Reserved old.token.view old.number base (inner_words d) new.token.view
    → HasTaken old (inner_words d ∷ []) new
    → last ≡ record new { token = record new.token { view = opening new.token.view base d (length leaves) } }
    → IsCaller last → IsSound last.token.view → IsMidway old leaves base d 0 last
midway_opened old new last leaves base d s mine two d_is number rows r taken is caller sound =
    subst (IsMidway old leaves base d 0) (sym is)
    (subst (λ k. Reserved old.token.view old.number base (inner_words k) new.token.view
    → HasTaken old (inner_words k ∷ []) new
    → IsCaller (record new { token = record new.token { view = opening new.token.view base k (length leaves) } })
    → IsSound (opening new.token.view base k (length leaves))
    → IsMidway old leaves base k 0
    (record new { token = record new.token { view = opening new.token.view base k (length leaves) } }))
    (sym d_is) (λ a b c e. midway_first old new leaves base s mine two number rows a b c e)
    r taken (subst IsCaller is caller) (subst (λ (who : Caller). IsSound who.token.view) is sound))

-- the part was set
pub midway_part : (old who new last : Caller) (leaves : List ℕ) (base d j key word : ℕ)
    → IsSound who.token.view → IsMidway old leaves base d j who → d ≡ degree (length leaves) → j < d
    → IsCaller new → new.number ≡ who.number → spares_of new ≡ spares_of who
    → BuiltOn who.token.view new.token.view
    → ((part : List PlacedLeaf)
    → ArePlaced (now who.token.view) (share_of (length leaves) j leaves) part
    → IsLaid new.token.view new.number (now who.token.view).next word part)
    → HasTaken who (shape (part_len (length leaves) j)) new
    → ((placed : List PlacedLeaf) → ArePlaced (now old.token.view) leaves placed
    → (leaf : PlacedLeaf) (others : List PlacedLeaf)
    → share_of (length leaves) j placed ≡ leaf ∷ others → key ≡ leaf.row.key)
    → 1 ≤ part_len (length leaves) j
    → last ≡ record new { token = record new.token { view = setting new.token.view base d j key word } }
    → IsCaller last → IsSound last.token.view → IsMidway old leaves base d (j + 1) last
midway_part old who new last leaves base d j key word s m d_is less caller number rows b laid taken
    key_is some is caller_last sound =
    let view_is = setting_is new.token.view base d j key word less in
    let whole = is ∙ ap (λ v. record new { token = record new.token { view = v } }) view_is in
    subst (IsMidway old leaves base d (j + 1)) (sym whole)
    (midway_set old who new leaves base d j key word s m d_is less caller number rows b laid taken
    key_is some (subst IsCaller whole caller_last)
    (subst (λ (who : Caller). IsSound who.token.view) whole sound))
