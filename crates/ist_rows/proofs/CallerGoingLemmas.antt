-- A caller goes on with its token: by loads, by a row reserved, by a word stored. Serves
-- `reserving`.
use Rattle.std.proofs.Common.{◌≡◌, ◌≢◌, ℕ, ◌+◌, ◌<◌, ◌≤◌, ◌⊎◌, ◌==◌, ◌||◌, not, Bool, true, false, if◌then◌else◌, List, [], ◌∷◌, ◌++◌, map, filter, Some, None, refl, sym, ap, ap₂, ◌∙◌, subst, inl, inr, ⊎_elim, append-nil, arith}
use Rattle.std.proofs.lemmas.Bool.Decides.{eqb_tells}
use Rattle.std.proofs.lemmas.List.Elements.{filter-append}
use Rattle.std.proofs.lemmas.Bool.{ne_eqb}
use Rattle.ist_core.specs.declared.pairs.Pair.{Pair}
use Rattle.ist_core.specs.declared.lists.HeldRow.{HeldRow}
use Rattle.ist_core.specs.declared.ports.Full.{Full}
use Rattle.ist_core.specs.declared.events.Event.TheVariants.{Reserve}
use Rattle.ist_core.specs.declared.events.Who.TheVariants.{Caller as CallerOf}
use Rattle.ist_core.specs.WordTerms.{place_limit, start}
use Rattle.ist_core.specs.LogTerms.{Among, Snapshot, Log, EachEnabled, Lawful, state_of, Later}
use Rattle.ist_core.proofs.AllWordLemmas.{among-filter, among_left, among_right}
use Rattle.ist_core.proofs.AllEventLemmas.{sound, sound_start}
use Rattle.ist_core.proofs.AllLogLemmas.{next_within, words_same, all_grow_same}
use Rattle.ist_rule.specs.RuleTerms.{IsSound, TokenFace, now, GoesOnTo, IsOwn}
use Rattle.ist_rule.specs.declared.view.View.{View}
use Rattle.ist_rule.proofs.ShownLemmas.{held_loose}
use Rattle.ist_rule.proofs.EventLemmas.{goes_on_who}
use Rattle.ist_rule.proofs.WentOnLemmas.{goes_on_now}
use Rattle.ist_rows.specs.RowTerms.{Caller, Kind, Leaf, Pair as PairKind, Change, Rebuild, kind_words, Spares, spares_of, row_of, with_spare, is_spare, held_by, build_sizes, IsCaller, Reserved, IsFull, HoldsPlace}
use Rattle.ist_rows.proofs.ReserveLemmas.{ComesAfter, builds_on, took}
use Rattle.ist_rows.proofs.CallerLemmas.{IsCallerIn, caller_later}
use Rattle.ist_rows.proofs.ShortLemmas.{short_goes_on}

-- ---- a caller's token goes on

-- a caller whose token made loads is a caller
pub caller_goes_on : (who : Caller) (token : TokenFace) → IsCaller who
    → GoesOnTo who.token.view token.view → IsCaller (record who { token = token })
caller_goes_on who token c g = let v = who.token.view in
    let lawful : Lawful v.start v.words token.view.log =
    subst (λ p. Lawful p v.words token.view.log) (ap (λ x. x.start) g.same)
    (subst (λ n. Lawful token.view.start n token.view.log) (ap (λ x. x.words) g.same)
    g.sound.lawful) in
    let it = caller_later v.start v.words v.log token.view.log who.number (spares_of who) lawful
    (subst (λ w. Later w v.log token.view.log) c.mine g.later) record {
      rows = c.rows;
      builds = c.builds;
    } in
    let there = subst (λ t. IsCallerIn t who.number (spares_of who)) (sym (goes_on_now v token.view g))
    it in
    record { mine = goes_on_who g ∙ c.mine; rows = there.rows; builds = there.builds }

-- a base equals itself by the test
pub base_same : (base : ℕ) → (base == base) ≡ true
base_same base = ⊎_elim (λ k. k.0) (λ k. absurd (k.1 refl)) (eqb_tells base base)

-- a disjunction holds if its second part does
pub or_any : (a : Bool) → (a || true) ≡ true
or_any true = refl
or_any false = refl

-- another row is as spare as it was
pub spare_else : (own : Spares) (kind : Kind) (base x : ℕ) → row_of kind own ≡ None → base ≢ x
    → is_spare (with_spare kind base own) x ≡ is_spare own x
spare_else own Leaf base x none ne = grind (arith, ne_eqb)
spare_else own PairKind base x none ne = grind (arith, ne_eqb)
spare_else own Change base x none ne = grind (arith, ne_eqb)
spare_else own Rebuild base x none ne = grind (arith, ne_eqb)

-- the new row is spare
pub spare_here : (own : Spares) (kind : Kind) (base : ℕ) → is_spare (with_spare kind base own) base ≡ true
spare_here own Leaf base = grind (arith, base_same)
spare_here own PairKind base = grind (arith, base_same, or_any)
spare_here own Change base = grind (arith, base_same, or_any)
spare_here own Rebuild base = grind (arith, base_same, or_any)

-- filters whose tests agree on each element
pub filter_same : {A : Type 0} (p q : A → Bool) (xs : List A) → ((x : A) → Among x xs → p x ≡ q x)
    → filter p xs ≡ filter q xs
filter_same p q [] h = refl
filter_same p q (x ∷ xs) h = ap₂ (λ b ys. if b then x ∷ ys else ys) (h x (inl refl))
    (filter_same p q xs (λ y i. h y (inr i)))

-- the row of a kind, if one of a kind is taken
row_taken : (own : Spares) (kind other : Kind) (base b : ℕ)
    → row_of other (with_spare kind base own) ≡ Some b
    → ((kind ≡ other) × (base ≡ b)) ⊎ (row_of other own ≡ Some b)
row_taken own Leaf Leaf base b e = inl (refl, cc)
row_taken own PairKind PairKind base b e = inl (refl, cc)
row_taken own Change Change base b e = inl (refl, cc)
row_taken own Rebuild Rebuild base b e = inl (refl, cc)
row_taken own _ _ base b e = inr e

-- a caller that reserved a row of a kind, in the state after it
module _ (pairs : List Pair) (words : ℕ) (log : Log) (number : ℕ) (own : Spares) (kind : Kind)
    (base : ℕ)
    (enabled : EachEnabled (start pairs words) (Reserve number base (kind_words kind) ∷ log))
    (none : row_of kind own ≡ None) where
  abbrev t : Snapshot
  t = state_of pairs words log

  abbrev u : Snapshot
  u = state_of pairs words (Reserve number base (kind_words kind) ∷ log)

  abbrev new_row : HeldRow
  new_row = record { caller = number; base = base; size = kind_words kind }

  held_now : held_by u number ≡ held_by t number ++ new_row ∷ []
  held_now = grind (arith, filter-append, base_same)

  old_base : (h : HeldRow) → Among h (held_by t number) → base ≢ h.base
  old_base h i same = let it = among-filter (λ (x : HeldRow). x.caller == number) h t.held i in
      let low = (sound (start pairs words) log (sound_start pairs words) enabled.0).held_below h
      it.0 in
      let at_next = enabled.1.base_is in omega arith

  -- the row is a spare, so the sizes of its builds are as they were
  pub sizes_taken : build_sizes u number (with_spare kind base own) ≡ build_sizes t number own
  sizes_taken =
      ap (λ held. map (λ h. h.size) (filter (λ h. not (is_spare (with_spare kind base own) h.base))
      held)) held_now
      ∙ ap (map (λ (h : HeldRow). h.size))
      (filter-append (λ (h : HeldRow). not (is_spare (with_spare kind base own) h.base))
      (held_by t number) (new_row ∷ [])
      ∙ ap₂ (λ xs ys. xs ++ ys)
      (filter_same (λ (h : HeldRow). not (is_spare (with_spare kind base own) h.base))
      (λ h. not (is_spare own h.base)) (held_by t number)
      (λ h i. ap not (spare_else own kind base h.base none (old_base h i))))
      (ap (λ b. if not b then new_row ∷ [] else []) (spare_here own kind base))
      ∙ append-nil (filter (λ (h : HeldRow). not (is_spare own h.base)) (held_by t number)))

  following : ComesAfter t u
  following = grind (arith, all_grow_same)

  -- a caller that reserved a row is a caller with that row
  pub taken_caller : IsCallerIn t number own → IsCallerIn u number (with_spare kind base own)
  taken_caller c =
      grind (arith, among_right, among_left, row_taken, builds_on, following, sizes_taken)

-- a caller that reserved a row is a caller with that row
pub caller_reserved : (old new : Caller) (kind : Kind) (base : ℕ) → IsCaller old
    → row_of kind (spares_of old) ≡ None
    → Reserved old.token.view old.number base (kind_words kind) new.token.view
    → new.number ≡ old.number → spares_of new ≡ with_spare kind base (spares_of old) → IsCaller new
caller_reserved old new kind base c none r number rows = let v = old.token.view in
    let w = new.token.view in let it = took v old.number base (kind_words kind) w r in
    let before = caller_later v.start v.words v.log it.before old.number (spares_of old)
    record { opens = it.lawful.opens; enabled = it.lawful.enabled.0 }
    (subst (λ x. Later x v.log it.before) c.mine it.later)
    record { rows = c.rows; builds = c.builds } in
    let taken = taken_caller v.start v.words it.before old.number (spares_of old) kind base
    it.lawful.enabled none before in
    let there = subst (λ own. IsCallerIn (now w) new.number own) (sym rows)
    (subst (λ n. IsCallerIn (now w) n (with_spare kind base (spares_of old))) (sym number)
    (subst (λ t. IsCallerIn t old.number (with_spare kind base (spares_of old))) (sym it.now_is)
    taken)) in
    record {
      mine = it.who_is ∙ c.mine ∙ ap CallerOf (sym number);
      rows = there.rows;
      builds = there.builds;
    }

-- a word of an own row lies within the table
pub place_low : (who : Caller) (base at : ℕ) → IsSound who.token.view → IsCaller who
    → HoldsPlace who base at → IsOwn who.token.view (base + at) × (base + at < who.token.view.words)
place_low who base at s c h = let v = who.token.view in
    let loose = held_loose v.start v.words v.log s.lawful.enabled record {
      caller = who.number;
      base = base;
      size = h.size;
    } h.held at h.within in
    let below = loose.below in
    let low = next_within v.start v.words s.lawful.opens v.log s.lawful.enabled in
    let all = words_same v.start v.words s.lawful.opens v.log in (
      record {
        row = record { caller = who.number; base = base; size = h.size };
        held = h.held;
        mine = c.mine;
        offset = at;
        within = h.within;
        at = refl;
      },
      omega arith,
    )

-- a table is small
pub words_low : (v : View) → IsSound v → v.words ≤ place_limit
words_low v s = s.lawful.opens.within

-- a caller whose reserving was refused is a caller
pub caller_refused : (who : Caller) (token : TokenFace) (words size : ℕ) (full : Full) → IsCaller who
    → IsFull who.token.view words size full token.view
    → IsCaller (record who { token = token })
caller_refused who token words size full c f =
    caller_goes_on who token c (short_goes_on who.token.view words full token.view f)
