-- The call with which a put or a remove ends, by its view and its reply: at its caller's one
-- entry since it began, or at the first position with this reply, if it made no entry. Serves
-- `update`.
use Rattle.std.proofs.Common.{◌≡◌, ℕ, ◌+◌, ◌≤◌, ◌==◌, Bool, true, false, if◌then◌else◌, List, [], ◌∷◌, ◌++◌, length, map, filter, slice_get, Option, Some, None, refl, sym, ap, ◌∙◌, subst, inl, zero, suc, arith, append-nil, length-append}
use Rattle.std.proofs.lemmas.List.{length-map}
use Rattle.std.proofs.lemmas.List.Elements.{filter-append}
use Rattle.std.proofs.lemmas.Option.{slice_get_within}
use Rattle.ist_core.specs.declared.calls.Call.{Call}
use Rattle.ist_core.specs.declared.commands.Command.{Command}
use Rattle.ist_core.specs.declared.commands.Command.TheVariants.{Get}
use Rattle.ist_core.specs.declared.events.Who.{Who}
use Rattle.ist_core.specs.declared.events.Who.TheVariants.{Caller as CallerOf}
use Rattle.ist_core.specs.TreeTerms.{Entry, changes_of, key_of, IsFresh, entries_by, entry_by, is_change, makes_entry}
use Rattle.ist_core.specs.LogTerms.{Log}
use Rattle.ist_core.specs.WordTerms.{start}
use Rattle.ist_core.proofs.AllWordLemmas.{among_right}
use Rattle.laws_histories.specs.Calls.{HasCalls, MadeNoEntry}
use Rattle.laws_histories.specs.Loads.{log_at}
use Rattle.laws_histories.proofs.CallLemmas.{add_reading}
use Rattle.laws_histories.proofs.ChangeLemmas.{changes_on, at_prefix}
use Rattle.ist_rule.specs.RuleTerms.{CanEnd}
use Rattle.ist_rule.specs.declared.view.Pending.{Pending}
use Rattle.ist_rule.specs.declared.view.View.{View}
use Rattle.ist_tree.proofs.PositionLemmas.{command_in, first_from, first_is, first_place, position_of}
use Rattle.ist_rows.proofs.CallerGoingLemmas.{base_same}

-- ---- which call it is

-- is this an entry of the caller
abbrev pub is_owned : ℕ → Option Entry → Bool
is_owned number (Some entry) = entry.owner == number
is_owned number None = false

-- is the entry at this place one of this caller
abbrev pub owned_at : List Entry → Who → ℕ → Bool
owned_at entries (CallerOf number) i = is_owned number (slice_get entries i)
owned_at entries _ i = false

-- the position of the call, from the changes of the log that was seen when it began
abbrev pub place_of : View → Log → Command → Option ℕ → ℕ
place_of v seen command reply = if makes_entry command reply then
    first_from (owned_at (changes_of v.start v.words v.log) v.who)
    (length (changes_of v.start v.words seen)) (length (changes_of v.start v.words v.log) + 1)
    else position_of v.start v.words seen v.log (key_of command) reply

-- the call
abbrev pub ending_in : View → Option Pending → Option ℕ → Call
ending_in v None reply = record { command = Get 0; reply = reply; position = 0; stamp = 0 }
ending_in v (Some pending) reply = let command = command_in pending.command in record {
  command = command;
  reply = reply;
  position = place_of v (log_at v.log pending.length) command reply;
  stamp = v.stamp + 1;
}

-- the call with which the view ends its pending command
abbrev pub ended_call : View → Option ℕ → Call
ended_call v reply = ending_in v v.pending reply

-- ---- one entry

some_of_one : (n : ℕ) (x : Entry) (xs : List Entry) (b : Bool)
    → n ≤ length xs → n ≤ length (if b then x ∷ xs else xs)
some_of_one n x xs true le = omega arith
some_of_one n x xs false le = le

-- if an entry is the caller's, the caller has at least one entry
owned_some : (number : ℕ) (xs : List Entry) (i : ℕ) → is_owned number (slice_get xs i) ≡ true
    → 1 ≤ length (entries_by number xs)
owned_some number [] i e = absurd (cc)
owned_some number (x ∷ xs) zero e = grind arith
owned_some number (x ∷ xs) (suc i) e =
    some_of_one 1 x (entries_by number xs) (x.owner == number) (owned_some number xs i e)

-- and one more before them makes two
two : (number : ℕ) (x : Entry) (xs : List Entry) → length (entries_by number (x ∷ xs)) ≤ 1
    → (x.owner == number) ≡ true → 1 ≤ length (entries_by number xs) → ⊥
two number x xs few e some = grind arith

-- if there is at most one, it is at one place
one_owned : (number : ℕ) (xs : List Entry) → length (entries_by number xs) ≤ 1 → (i j : ℕ)
    → is_owned number (slice_get xs i) ≡ true → is_owned number (slice_get xs j) ≡ true → i ≡ j
one_owned number [] few i j e f = absurd (cc)
one_owned number (x ∷ xs) few zero zero e f = refl
one_owned number (x ∷ xs) few zero (suc j) e f = grind (arith, two, owned_some)
one_owned number (x ∷ xs) few (suc i) zero e f = grind (arith, two, owned_some)
one_owned number (x ∷ xs) few (suc i) (suc j) e f =
    ap suc (one_owned number xs
    (fewer (length (entries_by number xs))
    (some_of_one (length (entries_by number xs)) x (entries_by number xs) (x.owner == number)
    (same_or (length (entries_by number xs)))) few) i j e f)
  where
    same_or : (n : ℕ) → n ≤ n
    same_or n = omega arith

    fewer : (n : ℕ) {m : ℕ} → n ≤ m → m ≤ 1 → n ≤ 1
    fewer n a b = omega arith

-- this holds after some older entries too
one_owned_after : (number : ℕ) (old more : List Entry) → length (entries_by number more) ≤ 1
    → (i j : ℕ) → length old ≤ i → length old ≤ j
    → is_owned number (slice_get (old ++ more) i) ≡ true
    → is_owned number (slice_get (old ++ more) j) ≡ true → i ≡ j
one_owned_after number [] more few i j a b e f = one_owned number more few i j e f
one_owned_after number (x ∷ old) more few zero j a b e f = absurd (omega arith)
one_owned_after number (x ∷ old) more few (suc i) zero a b e f = absurd (omega arith)
one_owned_after number (x ∷ old) more few (suc i) (suc j) a b e f =
    ap suc (one_owned_after number old more few i j (omega arith) (omega arith) e f)

-- ---- the call may end

one_change : (call : Call) → is_change call ≡ true → length (filter is_change (call ∷ [])) ≡ 1
one_change call e = ap (λ b. length (if b then call ∷ [] else [])) e

module _ (v : View) (call : Call) (c : CanEnd v call)
    (had : HasCalls v.start v.words c.seen c.number v.stamp v.calls) where
  abbrev entries : List Entry
  entries = changes_of v.start v.words v.log

  abbrev old : List Entry
  old = changes_of v.start v.words c.seen

  on : (more : List Entry) × (entries ≡ old ++ more)
  on = changes_on (start v.start v.words) c.seen v.log c.goes_on

  -- if it changed the map, the caller has one entry since
  one_since : is_change call ≡ true → length (entries_by c.number on.0) ≤ 1
  one_since e =
      let all = ap length c.stand.exactly
      ∙ length-map (filter is_change (v.calls ++ call ∷ [])) (entry_by c.number)
      ∙ ap length (filter-append is_change v.calls (call ∷ []))
      ∙ length-append (filter is_change v.calls) (filter is_change (call ∷ [])) in
      let before = ap length had.stand.exactly
      ∙ length-map (filter is_change v.calls) (entry_by c.number) in
      let parts = ap (λ es. length (entries_by c.number es)) on.1
      ∙ ap length (filter-append (λ (x : Entry). x.owner == c.number) old on.0)
      ∙ length-append (entries_by c.number old) (entries_by c.number on.0) in
      let one = one_change call e in omega arith

  -- so that entry is the one that is found
  found_entry : is_change call ≡ true
      → first_from (owned_at entries v.who) (length old) (length entries + 1) ≡ call.position
  found_entry e = let at = c.stand.made call (among_right call v.calls (call ∷ []) (inl refl)) e in
      let here = ap (is_owned c.number) at ∙ base_same c.number in
      let high = slice_get_within entries call.position (entry_by c.number call) at in
      let low = c.fresh.position in
      let first = first_is (λ i. is_owned c.number (slice_get entries i)) (length old)
      (length entries + 1) call.position low (omega arith) here in
      ap (λ who. first_from (owned_at entries who) (length old) (length entries + 1)) c.mine
      ∙ one_owned_after c.number old on.0 (one_since e)
      (first_from (λ i. is_owned c.number (slice_get entries i)) (length old) (length entries + 1))
      call.position first.low low
      (subst (λ es. is_owned c.number (slice_get es
      (first_from (λ i. is_owned c.number (slice_get entries i)) (length old) (length entries + 1)))
      ≡ true) on.1 first.passes)
      (subst (λ es. is_owned c.number (slice_get es call.position) ≡ true) on.1 here)

  -- the call at another position that is right for it
  abbrev moved : ℕ → Call
  moved position = record call { position = position }

  -- if it changed nothing, the first position with its reply is right
  moved_reading : is_change call ≡ false
      → CanEnd v (moved (position_of v.start v.words c.seen v.log (key_of call.command) call.reply))
  moved_reading e =
      let read = c.stand.read call (among_right call v.calls (call ∷ []) (inl refl)) e in
      let place = first_place v.start v.words c.seen v.log (key_of call.command) call.reply
      record {
        position = call.position;
        from = c.fresh.position;
        to = read.within;
        value_is = read.reply;
      } in
      let fresh : IsFresh v.start v.words c.seen v.stamp (moved (position_of v.start v.words c.seen v.log (key_of call.command) call.reply)) =
      record { position = place.from; later = c.fresh.later } in
      let none : MadeNoEntry v.start v.words c.number c.seen v.log =
      c.stand.exactly
      ∙ ap (map (entry_by c.number)) (filter-append is_change v.calls (call ∷ [])
      ∙ no_change_more e)
      ∙ sym had.stand.exactly in
      record {
        number = c.number;
        mine = c.mine;
        pending = c.pending;
        in_call = c.in_call;
        command_is = c.command_is;
        stamp_is = c.stamp_is;
        resolved = c.resolved;
        stand =
            (add_reading v.start v.words c.seen v.log c.number v.stamp v.calls
            (moved (position_of v.start v.words c.seen v.log (key_of call.command) call.reply)) had
            c.goes_on none e fresh record { within = place.to; reply = place.value_is }).stand;
        seen = c.seen;
        goes_on = c.goes_on;
        length_is = c.length_is;
        fresh = fresh;
      }
    where
      no_change_more : is_change call ≡ false
          → filter is_change v.calls ++ filter is_change (call ∷ []) ≡ filter is_change v.calls
      no_change_more f = ap (λ b. filter is_change v.calls ++ (if b then call ∷ [] else [])) f
          ∙ append-nil (filter is_change v.calls)

  -- so the call that is picked may end
  pub can_end_so : CanEnd v (ended_call v call.reply)
  can_end_so =
      grind (arith, command_in, at_prefix, first_from, position_of, found_entry, moved_reading)
