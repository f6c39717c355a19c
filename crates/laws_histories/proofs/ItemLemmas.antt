-- Each call has its item among the items of the woven history, and what follows it is never placed
-- before it. Serves `laws.calls_have_places`.
use Rattle.std.proofs.Common.{◌≡◌, ℕ, zero, suc, ◌+◌, if◌then◌else◌, Bool, true, false, List, [], ◌∷◌, map, slice_get, Some, refl, sym, ap, ◌∙◌, subst, inl, inr, arith, ◌<◌, length, ⊎_elim, length-append}
use Rattle.ist_core.specs.declared.calls.Call.{Call}
use Rattle.ist_core.specs.declared.pairs.Pair.{Pair}
use Rattle.ist_core.specs.declared.events.Event.TheVariants.{Decide}
use Rattle.ist_core.specs.LogTerms.{Among, Log, GoesOn, PassCalls, StandInPrefixes, readings_of, readings, same_log, one_event, EachEnabled, CanOpen, state_of}
use Rattle.ist_core.specs.WordTerms.{start}
use Rattle.ist_core.specs.TreeTerms.{Entry, changes_of, is_change, entry_by, Follows, StandsIn, command_of, reply_of, entry_for, entry_of}
use Rattle.ist_core.proofs.AllWordLemmas.{among_left, among_right, among_filter, each-among, same_change}
use Rattle.laws_histories.specs.Placing.{change_at, reading_by, changes_from, items, StandsBefore, item_of}
use Rattle.laws_histories.proofs.ChangeLemmas.{changes_on, get_left, changes_rise}
use Rattle.ist_core.proofs.AllLogLemmas.{change_there, enabled_before, grow_between, goes_on_more}
use Rattle.laws_histories.proofs.DecisionLemmas.{prefixes, decided_after}
use Rattle.laws_histories.specs.Telling.{IsEntryOf}
use Rattle.laws_histories.proofs.EntryLemmas.{command_stays}

-- an entry at a place is the change with its number
among_changes : (position : ℕ) (entries : List Entry) (i : ℕ) (entry : Entry)
    → slice_get entries i ≡ Some entry
    → Among (change_at (position + i) entry) (changes_from position entries)
among_changes position [] i entry e = absurd (cc)
among_changes position (x ∷ entries) zero entry e = grind arith
among_changes position (x ∷ entries) (suc i) entry e =
    let next : position + 1 + i ≡ position + suc i = omega arith in
    inr (subst (λ n. Among (change_at n entry) (changes_from (position + 1) entries)) next (among_changes (position + 1) entries i entry e))

-- what is among a list is among it with more
pub among_map : {A B : Type 0} (f : A → B) (x : A) (xs : List A) → Among x xs → Among (f x) (map f xs)
among_map f x [] h = h
among_map f x (y ∷ xs) (inl e) = inl (ap f e)
among_map f x (y ∷ xs) (inr h) = inr (among_map f x xs h)

-- a call of a pass that changes nothing is one of its readings
among_readings_of : (pass : PassCalls) (call : Call) → Among call pass.calls
    → is_change call ≡ false
    → Among (record { number = pass.number; call = call }) (readings_of pass)
among_readings_of pass call i plain = grind (arith, among_map, among_filter)

-- a call of one of the passes that changes nothing is one of the readings
among_readings : (passes : List PassCalls) (pass : PassCalls) → Among pass passes → (call : Call)
    → Among call pass.calls → is_change call ≡ false
    → Among (record { number = pass.number; call = call }) (readings passes)
among_readings [] pass h call i plain = absurd h
among_readings (one ∷ passes) pass (inl e) call i plain =
    grind (arith, among_left, among_readings_of)
among_readings (one ∷ passes) pass (inr h) call i plain =
    among_right (record { number = pass.number; call = call }) (readings_of one) (readings passes)
    (among_readings passes pass h call i plain)

-- each call of the passes has its item
pub calls_placed : (pairs : List Pair) (words : ℕ) (log : Log) (passes : List PassCalls)
    → StandInPrefixes pairs words log passes
    → (pass : PassCalls) → Among pass passes → (call : Call) → Among call pass.calls
    → Among (item_of pass.number call) (items (changes_of pairs words log) passes)
calls_placed pairs words log passes all pass h call i = at (is_change call) refl
  where
    entries : List Entry
    entries = changes_of pairs words log

    stands : (prefix : Log) × GoesOn prefix log × StandsIn pairs words prefix pass.number pass.calls
    stands = grind (arith, each-among)

    made : is_change call ≡ true
        → slice_get entries call.position ≡ Some (entry_by pass.number call)
    made e = let on = changes_on (start pairs words) stands.0 log stands.1 in
        subst (λ es. slice_get es call.position ≡ Some (entry_by pass.number call)) (sym on.1)
        (get_left (changes_of pairs words stands.0) on.0 call.position (entry_by pass.number call) (stands.2.made call i e))

    at : (v : Bool) → is_change call ≡ v
        → Among (if v then change_at call.position (entry_by pass.number call) else reading_by record { number = pass.number; call = call }) (items entries passes)
    at true e = grind (arith, among_left, entries, among_changes, made)
    at false e = grind (arith, among_right, entries, among_map, among_readings)

-- a call that follows another is never placed before it
pub follower_later : (number other : ℕ) (call later : Call) → Follows call later
    → ¬ (StandsBefore (item_of other later) (item_of number call))
follower_later number other call later f = grind arith

-- ---- of one change there is one entry, and an entry is of one change. Serves `laws.updates_are_entries`.

module _ (pairs : List Pair) (words : ℕ) (opens : CanOpen pairs words) where
  -- a change that was decided isn't pending later
  undecided_later : (caller base other : ℕ) (a b : Log)
      → EachEnabled (start pairs words) (Decide other base true ∷ b)
      → ¬ (GoesOn (Decide caller base true ∷ a) b)
  undecided_later caller base other a b h g = grind (arith, decided_after)

  -- a change is decided yes after only one log
  one_decision : (log : Log) → EachEnabled (start pairs words) log → (c d base : ℕ) (a b : Log)
      → GoesOn (Decide c base true ∷ a) log → GoesOn (Decide d base true ∷ b) log → a ≡ b
  one_decision log h c d base a b g k =
      ⊎_elim (λ x. later c d a b x k) (λ x. sym (later d c b a x g))
      (prefixes (Decide c base true ∷ a) (Decide d base true ∷ b) log g k)
    where
      later : (c d : ℕ) (a b : Log) → GoesOn (Decide c base true ∷ a) (Decide d base true ∷ b)
          → GoesOn (Decide d base true ∷ b) log → a ≡ b
      later c d a b x k = grind (arith, undecided_later, enabled_before)

  -- of one change there is one entry
  pub entries_once : (log : Log) → EachEnabled (start pairs words) log → (base p q : ℕ)
      → IsEntryOf pairs words log p base → IsEntryOf pairs words log q base → p ≡ q
  entries_once log h base p q x y = grind (arith, one_decision)

  -- after the decision of an update there are more changes
  more_changes : (log : Log) → EachEnabled (start pairs words) log → (position base : ℕ)
      → (x : IsEntryOf pairs words log position base) → (b : Log)
      → GoesOn (Decide x.caller base true ∷ x.earlier) b → GoesOn b log
      → position < length (changes_of pairs words b)
  more_changes log h position base x b g k = let first = start pairs words in
      let m = enabled_before first (Decide x.caller base true ∷ x.earlier) log x.decided h in
      let t = state_of pairs words x.earlier in
      let it = change_there t.pieces (state_of pairs words log).pieces
      (grow_between pairs words x.earlier log h (goes_on_more (one_event (Decide x.caller base true) same_log) x.decided)) base m.1.change m.1.pending.published in
      let same =
      same_change ((state_of pairs words log).pieces base) it.0 x.change it.1 x.published in
      let is : command_of m.1.change ≡ Some x.command =
      sym (command_stays m.1.change it.0 it.2) ∙ ap command_of same ∙ x.command_is in
      let made : entry_of t.pieces (t.pieces base) ≡ record { owner = m.1.change.owner; command = x.command; reply = reply_of t.pieces m.1.change } ∷ [] =
      ap (entry_of t.pieces) m.1.pending.published ∙ ap (entry_for t.pieces m.1.change) is in
      let long =
      length-append (changes_of pairs words x.earlier) (entry_of t.pieces (t.pieces base)) in
      let one = ap length made in
      let rise = changes_rise first (Decide x.caller base true ∷ x.earlier) b g in
      let at = x.position_is in omega arith

  -- an entry is of one change
  pub entries_of_one : (log : Log) → EachEnabled (start pairs words) log → (position base other : ℕ)
      → IsEntryOf pairs words log position base
      → IsEntryOf pairs words log position other → base ≡ other
  entries_of_one log h position base other x y =
      ⊎_elim (λ g. later base other x y g) (λ g. sym (later other base y x g))
      (prefixes (Decide x.caller base true ∷ x.earlier) (Decide y.caller other true ∷ y.earlier) log x.decided y.decided)
    where
      later : (m n : ℕ) (x : IsEntryOf pairs words log position m)
          (y : IsEntryOf pairs words log position n)
          → GoesOn (Decide x.caller m true ∷ x.earlier) (Decide y.caller n true ∷ y.earlier) → m ≡ n
      later m n x y g = at (Decide y.caller n true ∷ y.earlier) refl g
        where
          at : (whole : Log) → whole ≡ Decide y.caller n true ∷ y.earlier
              → GoesOn (Decide x.caller m true ∷ x.earlier) whole → m ≡ n
          at _ e same_log = cc
          at _ e (one_event {log = rest} event z) = let tail : rest ≡ y.earlier = cc in
              let before = subst (λ r. GoesOn (Decide x.caller m true ∷ x.earlier) r) tail z in
              let less =
              more_changes log h position m x y.earlier before
              (goes_on_more (one_event (Decide y.caller n true) same_log) y.decided) in
              let same = y.position_is in absurd (omega arith)
