-- Each change of a caller is that of a call that returned, or of the call that it is in. Serves
-- `laws.made_calls_are_linearizable`.
use Rattle.std.proofs.Common.{◌≡◌, ◌⊎◌, ℕ, zero, suc, ◌+◌, ◌-◌, ◌<◌, ◌≤◌, ◌==◌, true, List, [], ◌∷◌, ◌++◌, filter, take, drop, length, slice_get, Option, Some, None, refl, sym, ap, ◌∙◌, subst, inl, inr, ⊎_elim, arith, length-append}
use Rattle.std.proofs.lemmas.List.{append_cancel_left, take-append-drop, length-map}
use Rattle.std.proofs.lemmas.List.Elements.{filter-append}
use Rattle.ist_core.specs.declared.calls.Call.{Call}
use Rattle.ist_core.specs.TreeTerms.{Map, Entry, is_change, entry_by, entries_by}
use Rattle.ist_core.specs.LogTerms.{Among, Each}
use Rattle.ist_core.proofs.AllWordLemmas.{each-among, among-filter, among_filter, each_of, slice_get-drop, slice_get-take}
use Rattle.laws_real_time.specs.Moments.{Moments, Begun, in_call, Ended, ended}
use Rattle.laws_real_time.specs.Timing.{IsInTime, IsOfEnded, IsOfBegun}
use Rattle.laws_real_time.specs.Making.{calls_returned, changes_by, HasMadeChanges, none_since, one_since, AreAccounted}
use Rattle.laws_real_time.proofs.PairLemmas.{Pairwise, pairwise_filter, pairwise_map, pairwise_gives, among-map}
use Rattle.laws_real_time.proofs.MomentLemmas.{begun_in, ended_in, ended_before, AreApartInTime, same_call, comes_first, comes_later, ended_apart, ended_in_order}
use Rattle.laws_real_time.proofs.CountLemmas.{IsAtIndex, IsFound, only_one, entry_found}
use Rattle.laws_real_time.proofs.ChangeCountLemmas.{changes_rise}
use Rattle.std.proofs.lemmas.Bool.{eqb-true, eq-eqb}
use Rattle.std.proofs.lemmas.Bool.Decides.{leb_tells}

-- what is at a place is an element
among_get : (xs : List Entry) (j : ℕ) (x : Entry) → slice_get xs j ≡ Some x → Among x xs
among_get [] j x h = absurd (cc)
among_get (y ∷ xs) zero x h = inl (cc)
among_get (y ∷ xs) (suc j) x h = inr (among_get xs j x h)

module _ (m : Map) (entries : List Entry) (moments : Moments)
    (all : AreAccounted m entries moments) (number : ℕ) where
  -- the caller's calls that returned
  abbrev own_calls : List Ended
  own_calls = filter (λ x. x.caller == number) (ended moments)

  -- the calls that change the map
  abbrev changing : List Call
  changing = filter is_change (calls_returned number moments)

  -- such a call, as one that returned
  record IsChanging (call : Call) : Type 0 where
    of : Ended
    among : Among of (ended moments)
    caller : of.caller ≡ number
    is : call ≡ of.call
    change : is_change call ≡ true

  changing_of : (call : Call) → Among call changing → IsChanging call
  changing_of call i = grind (arith, among-filter, among-map, eqb-true)

  placed_of : (x : Ended) → Among x (ended moments) → IsInTime m entries x
  placed_of x i = each-among (IsInTime m entries) x (ended moments) all.placed i

  past_of : (x : Ended) → IsInTime m entries x → is_change x.call ≡ true
      → x.call.position + 1 ≤ x.changes
  past_of x placed e = rw e at placed.to

  -- a change by an earlier call comes first
  comes_before : (x y : Ended) → Among x (ended moments) → Among y (ended moments)
      → x.caller ≡ y.caller → is_change x.call ≡ true → x.time < y.time
      → x.call.position < y.call.position
  comes_before x y i j c e l =
      grind (
        arith,
        ended_apart,
        AreApartInTime,
        same_call,
        comes_first,
        ended_in,
        past_of,
        placed_of,
        changes_rise,
        comes_later,
      )

  -- the second call is at a higher position, if the first is a change
  abbrev RisesPast : Call → Call → Type 0
  RisesPast a b = is_change a ≡ true → a.position < b.position

  own_of : (x : Ended) → Among x own_calls → Among x (ended moments) × (x.caller ≡ number)
  own_of x i = grind (arith, among-filter, eqb-true)

  rising : Pairwise (λ a b. a.position < b.position) changing
  rising = pairwise_gives RisesPast (λ a b. a.position < b.position) changing
      (λ a b i j r. r (among-filter is_change a (calls_returned number moments) i).1)
      (pairwise_filter RisesPast is_change (calls_returned number moments)
      (pairwise_map (λ x y. x.time < y.time) RisesPast (λ (x : Ended). x.call) own_calls
      (λ x y i j l e. (let a = own_of x i in let b = own_of y j in
      comes_before x y a.0 b.0 (a.1 ∙ sym b.1) e l))
      (pairwise_filter (λ x y. x.time < y.time) (λ x. x.caller == number) (ended moments)
      (ended_in_order moments))))

  -- a change is at its place
  entry_of_call : (call : Call) → IsChanging call
      → slice_get entries call.position ≡ Some (entry_by number call)
  entry_of_call call c = grind (arith, placed_of)

  all_at : Each (IsAtIndex number entries 0) changing
  all_at = each_of (IsAtIndex number entries 0) changing
      (λ call i. record {
        index = call.position;
        position_is = omega arith;
        entry = entry_of_call call (changing_of call i);
      })

  -- a change of a call that was found
  found : (position : ℕ) → IsFound number changing (0 + position) → IsOfEnded moments position
  found position f = grind (arith, changing_of)

  -- how many changes the calls make
  few_by : (xs : List Entry) → entries_by number xs ≡ changes_by number (calls_returned number moments)
      → length (entries_by number xs) ≤ length changing
  few_by xs e = grind (arith, length-map)

  -- before the call in progress each change is that of a call that returned
  before : (begun : Begun) → in_call number moments ≡ Some begun
      → (position : ℕ) (entry : Entry) → slice_get entries position ≡ Some entry
      → entry.owner ≡ number → position < begun.changes → IsOfEnded moments position
  before begun i position entry at o l = found position
      (entry_found number (take begun.changes entries) 0 changing rising all_early
      (few_by (take begun.changes entries) ((all.callers number).began begun i)) position entry
      (slice_get-take begun.changes entries position l ∙ at) o)
    where
      all_early : Each (IsAtIndex number (take begun.changes entries) 0) changing
      all_early = each_of (IsAtIndex number (take begun.changes entries) 0) changing
          (λ call j. (let c = changing_of call j in
          let past =
          past_of c.of (placed_of c.of c.among) (subst (λ x. is_change x ≡ true) c.is c.change) in
          let late =
          ended_before moments c.of begun c.among
          (subst (λ n. in_call n moments ≡ Some begun) (sym c.caller) i) in
          let a = ended_in moments c.of c.among in let b = begun_in number moments begun i in
          let rise =
          changes_rise moments all.never_fall c.of.time begun.time (omega (arith, late)) b.within in
          let place : call.position ≡ c.of.call.position = ap (λ (x : Call). x.position) c.is in
          let low : call.position < begun.changes
          = omega (arith, past, a.changes, b.changes, rise, place) in
          record {
            index = call.position;
            position_is = omega arith;
            entry = slice_get-take begun.changes entries call.position low
                ∙ entry_of_call call (changing_of call j);
          }))

  -- the changes since the call in progress began
  abbrev since : Begun → List Entry
  since begun = drop begun.changes entries

  -- the caller's changes are those from before, and those since
  cut : (begun : Begun) → in_call number moments ≡ Some begun → entries_by number entries
      ≡ changes_by number (calls_returned number moments) ++ entries_by number (since begun)
  cut begun i = ap (entries_by number) (sym (take-append-drop begun.changes entries))
      ∙ filter-append (λ entry. entry.owner == number) (take begun.changes entries) (since begun)
      ∙ ap (λ xs. xs ++ entries_by number (since begun)) ((all.callers number).began begun i)

  -- since the call in progress began there is no change of the caller, or one with its command
  data HasSince (begun : Begun) : Type 0 where
    nothing : entries_by number (since begun) ≡ [] → HasSince begun
    one : (entry : Entry) → entries_by number (since begun) ≡ entry ∷ []
        → begun.command ≡ Some entry.command → HasSince begun

  since_of : (begun : Begun) (o : Option Begun) → in_call number moments ≡ Some begun
      → o ≡ Some begun → HasMadeChanges entries number (calls_returned number moments) o
      → HasSince begun
  since_of begun o i is (none_since e) =
      nothing (nil_of (entries_by number (since begun))
      (let long = ap length (sym (cut begun i) ∙ e) in
      let both =
      length-append (changes_by number (calls_returned number moments)) (entries_by number (since begun)) in
      omega (arith, long, both)))
    where
      nil_of : (xs : List Entry) → length xs ≡ 0 → xs ≡ []
      nil_of [] h = refl
      nil_of (x ∷ xs) h = absurd (omega arith)
  since_of begun _ i is (one_since {begun = b} entry e command) = let same : b ≡ begun = cc in
      one entry
      (append_cancel_left (changes_by number (calls_returned number moments))
      (entries_by number (since begun)) (entry ∷ []) (sym (cut begun i) ∙ e))
      (subst (λ (x : Begun). x.command ≡ Some entry.command) same command)

  -- few changes since
  few_since : (begun : Begun) → HasSince begun → length (entries_by number (since begun)) ≤ 1
  few_since begun (nothing e) = let long = ap length e in omega (arith, long)
  few_since begun (one entry e command) = let long = ap length e in omega (arith, long)

  -- a change since
  since_at : (begun : Begun) (position : ℕ) (entry : Entry)
      → slice_get entries position ≡ Some entry → begun.changes ≤ position
      → (j : ℕ) × (position ≡ begun.changes + j) × (slice_get (since begun) j ≡ Some entry)
  since_at begun position entry at l =
      let there : begun.changes + (position - begun.changes) ≡ position = omega arith in (
        position - begun.changes,
        sym there,
        slice_get-drop begun.changes entries (position - begun.changes)
            ∙ ap (slice_get entries) there ∙ at,
      )

  -- a change since has the command of the call in progress
  command_since : (begun : Begun) → HasSince begun → (j : ℕ) (entry : Entry)
      → slice_get (since begun) j ≡ Some entry → entry.owner ≡ number
      → begun.command ≡ Some entry.command
  command_since begun h j entry at o = near h
    where
      kept : Among entry (entries_by number (since begun))
      kept = grind (arith, among_filter, among_get, eq-eqb)

      near : HasSince begun → begun.command ≡ Some entry.command
      near (nothing e) = absurd (subst (Among entry) e kept)
      near (one first e command) = grind (arith, kept)

  -- each change of the caller is that of a call
  pub owned : (position : ℕ) (entry : Entry) → slice_get entries position ≡ Some entry
      → entry.owner ≡ number → IsOfEnded moments position ⊎ IsOfBegun moments position entry
  owned position entry at o = near (in_call number moments) refl (all.callers number).made
    where
      near : (p : Option Begun) → in_call number moments ≡ p
          → HasMadeChanges entries number (calls_returned number moments) p
          → IsOfEnded moments position ⊎ IsOfBegun moments position entry
      near None is (none_since e) =
          inl (found position
          (entry_found number entries 0 changing rising all_at (few_by entries e) position entry at o))
      near (Some begun) is made = ⊎_elim
          (λ e. (let l = e.1 in let since = since_at begun position entry at l in
          let command =
          command_since begun (since_of begun (Some begun) is refl made) since.0 entry since.2 o in
          inr record {
            begun = begun;
            in_it = subst (λ n. in_call n moments ≡ Some begun) (sym o) is;
            command = command;
            from = l;
          })) (λ e. inl (before begun is position entry at o e.1))
          (leb_tells begun.changes position)

  -- two changes of the caller since its call in progress began are one
  pub one_of : (begun : Begun) → in_call number moments ≡ Some begun → (p q : ℕ) (e f : Entry)
      → slice_get entries p ≡ Some e → slice_get entries q ≡ Some f
      → e.owner ≡ number → f.owner ≡ number → begun.changes ≤ p → begun.changes ≤ q → p ≡ q
  one_of begun i p q e f at bt o r l k = let a = since_at begun p e at l in
      let b = since_at begun q f bt k in
      let made =
      subst (HasMadeChanges entries number (calls_returned number moments)) i (all.callers number).made in
      let few = few_since begun (since_of begun (Some begun) i refl made) in
      let same = only_one number (since begun) few a.0 b.0 e f a.2 b.2 o r in let left = a.1 in
      let right = b.1 in omega arith
