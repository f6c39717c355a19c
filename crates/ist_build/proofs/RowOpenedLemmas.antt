-- A row that was opened, and words that are set in it. Serves `build`.
use Rattle.std.proofs.Common.{◌≡◌, ◌≢◌, ℕ, ◌+◌, ◌<◌, ◌≤◌, List, [], ◌∷◌, ◌++◌, length, refl, sym, ap, ◌∙◌, subst, inl, arith}
use Rattle.std.proofs.lemmas.Bool.Decides.{nat_tests}
use Rattle.std.specs.List.{flat_map}
use Rattle.ist_core.specs.WordTerms.{degree, inner_words, shape}
use Rattle.ist_core.specs.LogTerms.{state_of, HoldsRow}
use Rattle.ist_core.proofs.AllWordLemmas.{among_right, shape_many}
use Rattle.ist_rule.specs.RuleTerms.{IsSound, own_at, now, storing}
use Rattle.ist_rule.specs.declared.view.View.{View}
use Rattle.ist_rule.specs.declared.view.OwnWord.{OwnWord}
use Rattle.ist_core.specs.declared.events.Who.TheVariants.{Caller as CallerOf}
use Rattle.ist_rule.proofs.WentOnLemmas.{later_by}
use Rattle.ist_rows.specs.RowTerms.{spares_of, IsCaller, Reserved, HoldsPlace, IsInBuild, HasTaken}
use Rattle.ist_rows.specs.declared.callers.Caller.{Caller}
use Rattle.ist_rows.proofs.BuildingCallLemmas.{at_storing}
use Rattle.ist_rows.proofs.ReserveLemmas.{took}
use Rattle.ist_build.specs.Laying.{IsReservation}
use Rattle.laws_calls.specs.Dividing.{lens_to}
use Rattle.ist_rule.proofs.StoreLemmas.{own_here, own_else}
use Rattle.ist_build.specs.Midway.{lens_from, IsOpened, IsMidway, opening, setting}
use Rattle.ist_build.proofs.BuiltLemmas.{reserved_built, rewritten_built, next_between}
use Rattle.ist_build.proofs.JoinedSubtreeLemmas.{are_laid_none}
use Rattle.ist_build.proofs.PartsLemmas.{lens_first}

-- who holds a row holds each place of it
pub holds_place : (who : Caller) (base d at : ℕ)
    → HoldsRow (now who.token.view) who.number base (inner_words d) → at < inner_words d
    → HoldsPlace who base at
holds_place who base d at held less = record { size = inner_words d; held = held; within = less }

-- ---- a fresh row

-- where a row lies that was reserved: from the first free word on, and its words are 0
pub record LiesFresh (v : View) (number base size : ℕ) (w : View) : Type 0 where
  pub high : (now v).next ≤ base
  pub held : HoldsRow (now w) number base size
  -- the caller's own word at each place from the row's base on is 0
  pub zero_words : (place : ℕ) → base ≤ place → own_at w.own place ≡ 0

-- a reserved row is a fresh row
pub fresh_row : (v : View) → IsSound v → (number base size : ℕ) (w : View)
    → Reserved v number base size w → LiesFresh v number base size w
fresh_row v s number base size w r = let it = took v number base size w r in
    let up = next_between v.start v.words v.who IsReservation v.log it.before it.lawful.enabled.0
    (later_by it.later) in
    let at_next = it.lawful.enabled.1.base_is in
    let own_is : w.own ≡ v.own = ap (λ x. x.own) r.reserved.view ∙ ap (λ x. x.own) r.seen.same in
    record {
      high = omega arith;
      held = subst (λ t. HoldsRow t number base size) (sym it.now_is)
          (among_right record { caller = number; base = base; size = size }
          (state_of v.start v.words it.before).held
          (record { caller = number; base = base; size = size } ∷ []) (inl refl));
      zero_words = λ place le. ap (λ o. own_at o place) own_is
          ∙ s.is_true.fresh place (omega arith);
    }

-- who reserved a row holds it
pub reserved_held : (old new : Caller) → IsSound old.token.view → new.number ≡ old.number
    → (base size : ℕ) → Reserved old.token.view old.number base size new.token.view
    → HoldsRow (now new.token.view) new.number base size
reserved_held old new s number base size r =
    subst (λ n. HoldsRow (now new.token.view) n base size) (sym number)
    (fresh_row old.token.view s old.number base size new.token.view r).held

-- ---- the first row

module _ (old new : Caller) (leaves : List ℕ) (base : ℕ) (s : IsSound old.token.view)
    (mine : old.token.view.who ≡ CallerOf old.number) (two : 2 ≤ length leaves)
    (number : new.number ≡ old.number) (rows : spares_of new ≡ spares_of old)
    (r : Reserved old.token.view old.number base (inner_words (degree (length leaves))) new.token.view)
    (taken : HasTaken old (inner_words (degree (length leaves)) ∷ []) new) where
  abbrev d : ℕ
  d = degree (length leaves)

  abbrev view : View
  view = opening new.token.view base d (length leaves)

  abbrev who : Caller
  who = record new { token = record new.token { view = view } }

  fresh : LiesFresh old.token.view old.number base (inner_words d) new.token.view
  fresh = fresh_row old.token.view s old.number base (inner_words d) new.token.view r

  -- its first words are stored
  pub opened : IsOpened view.own base d (length leaves)
  opened = let o = new.token.view.own in let first = record { place = base + 2; word = d } ∷ o in
      record {
        status = own_else first (base + 3) (length leaves) base (λ e. omega arith)
            ∙ own_else o (base + 2) d base (λ e. omega arith) ∙ fresh.zero_words base (omega arith);
        count = own_else first (base + 3) (length leaves) (base + 1) (λ e. omega arith)
            ∙ own_else o (base + 2) d (base + 1) (λ e. omega arith)
            ∙ fresh.zero_words (base + 1) (omega arith);
        degree_is = own_else first (base + 3) (length leaves) (base + 2) (λ e. omega arith)
            ∙ own_here o (base + 2) d;
        size_is = own_here first (base + 3) (length leaves);
      }

  due_first : (stuck done rest : List ℕ) → IsInBuild old stuck done (shape (length leaves) ++ rest)
      → IsInBuild who stuck (done ++ inner_words d ∷ flat_map shape (lens_to (length leaves) 0))
      (flat_map shape (lens_from (length leaves) 0) ++ rest)
  due_first stuck done rest h =
      let whole : shape (length leaves) ≡ inner_words d ∷ flat_map shape (lens_from (length leaves) 0) =
      shape_many (length leaves) two
      ∙ ap (λ xs. inner_words d ∷ flat_map shape xs) (sym (lens_first (length leaves))) in
      at_storing (record new { token = record new.token { view = storing new.token.view (base + 2) d } })
      (base + 3) (length leaves) stuck _ _
      (at_storing new (base + 2) d stuck _ _
      (taken stuck done (flat_map shape (lens_from (length leaves) 0) ++ rest)
      (subst (λ xs. IsInBuild old stuck done (xs ++ rest)) whole h)))

  -- no part of it is built yet
  pub midway_first : IsCaller who → IsSound view → IsMidway old leaves base d 0 who
  midway_first caller sound = let high = fresh.high in record {
    caller = caller;
    number = number;
    rows = rows;
    built = rewritten_built old.token.view new.token.view view.own
        (reserved_built old.token.view old.number base (inner_words d) new.token.view r) sound
        (λ p low. own_else (record { place = base + 2; word = d } ∷ new.token.view.own)
        (base + 3) (length leaves) p (λ e. omega arith)
        ∙ own_else new.token.view.own (base + 2) d p (λ e. omega arith));
    high = fresh.high;
    held = subst (λ n. HoldsRow (now new.token.view) n base (inner_words d)) (sym number) fresh.held;
    opened = opened;
    laid = λ placed a. are_laid_none view new.number (base + inner_words d) base;
    keys = λ placed a. refl;
    due = due_first;
  }

-- ---- after a load

-- the first words of a row stay the same if none of them was stored again
pub opened_on : (a b : List OwnWord) (base d size : ℕ)
    → ((p : ℕ) → p < base + 4 → own_at b p ≡ own_at a p)
    → IsOpened a base d size → IsOpened b base d size
opened_on a b base d size same o = grind arith

-- ---- after a part

-- the words of the row that were stored before stay when others are stored after a part
module _ (v : View) (base d j key word : ℕ) (less : j < d) where
  -- a slot that is set holds its word
  pub at_slot : own_at (setting v base d j key word).own (base + 3 + d + j) ≡ word
  at_slot = grind (arith, own_else, own_here)

  -- and its key lies in its place
  pub at_key : 1 ≤ j → own_at (setting v base d j key word).own (base + 3 + j) ≡ key
  at_key some = grind (arith, own_here, nat_tests)

  -- every other place is as it was
  pub elsewhere : (p : ℕ) → p ≢ base + 3 + d + j → (1 ≤ j → p ≢ base + 3 + j)
      → own_at (setting v base d j key word).own p ≡ own_at v.own p
  elsewhere p ne nk = grind (arith, nat_tests, own_else)

  -- the view is the old one but for its words
  pub setting_is : setting v base d j key word ≡ record v { own = (setting v base d j key word).own }
  setting_is = grind arith

-- a caller with other words of its own is where it was
pub at_rewritten : (who : Caller) (own : List OwnWord) (stuck done rest : List ℕ)
    → IsInBuild who stuck done rest
    → IsInBuild (record who { token = record who.token { view = record who.token.view { own = own } } })
    stuck done rest
at_rewritten who own stuck done rest h = grind arith
