-- Where the count of a row comes from: a row that is due was made due by a Count. Serves the
-- settled law.
use Rattle.std.proofs.Common.{List, None, Some, [], ap, arith, false, inl, inr, refl, subst, sym, true, ℕ, if◌then◌else◌, ◌+◌, ◌<◌, ◌==◌, ◌∙◌, ◌∷◌, ◌≡◌, ◌≢◌, ◌≤◌, ◌⊎◌}
use Rattle.std.proofs.lemmas.Bool.Decides.{eqb_tells}
use Rattle.ist_core.specs.declared.events.Event.TheVariants.{Count, Place, Root}
use Rattle.ist_core.specs.declared.events.Event.{Event}
use Rattle.ist_core.specs.declared.pairs.Pair.{Pair}
use Rattle.ist_core.specs.declared.states.InnerRow.{InnerRow}
use Rattle.ist_core.specs.LogTerms.{side_of, CanOpen, EachEnabled, state_of, Log, state, Snapshot}
use Rattle.ist_core.specs.WordTerms.{limit, Change, Inner, Leaf, Piece, Rebuild, counted, drawn, with_decision, with_root, with_slot, with_status, ChangeAt, word_of, start, finished_word, marked_word}
use Rattle.ist_core.specs.TreeTerms.{CanCount, WasLinked}
use Rattle.ist_core.proofs.AllEventLemmas.{Born}
use Rattle.ist_core.proofs.AllLogLemmas.{on_chain_inner, known_step, grow_after}
use Rattle.ist_core.proofs.CountLemmas.{counts}
use Rattle.ist_core.proofs.AllPlaceLemmas.{absent}
use Rattle.ist_core.proofs.TallyLemmas.{count_at_most}
use Rattle.laws_links.proofs.UntouchedLemmas.{on_chain_was_linked}
use Rattle.laws_links.proofs.RowEventLemmas.{RowCame, BecameBy, as_it_was, by_count, by_decide, by_draw, by_finish, by_install, by_mark, by_place, by_resolve, by_root, came, from_new, from_old}
use Rattle.laws_links.proofs.PassLemmas.{inner_is}
use Rattle.laws_calls.specs.Settling.{MadeDue, due_before, due_now}
use Rattle.ist_core.proofs.BornLemmas as born
use Rattle.ist_core.proofs.AllWordLemmas.{no_value}

-- ---- what an event makes of a count

-- the change of a row leaves the count and size of inner rows, and makes no inner row of another
abbrev KeepsCounts : (Piece → Piece) → Type 0
KeepsCounts f = (p : Piece) (x : InnerRow) → f p ≡ Inner x
    → (r : InnerRow) × (p ≡ Inner r) × (x.count ≡ r.count) × (x.size ≡ r.size)

count-with_slot : (i word : ℕ) → KeepsCounts (with_slot i word)
count-with_slot i word (Inner r) x e =
    (r, refl, ap (λ y. y.count) (inner_is _ x e), ap (λ y. y.size) (inner_is _ x e))
count-with_slot i word (Leaf r) x e = absurd (cc)
count-with_slot i word (Change r) x e = absurd (cc)
count-with_slot i word (Rebuild r) x e = absurd (cc)

count-with_status : (status : ℕ) → KeepsCounts (with_status status)
count-with_status status (Inner r) x e =
    (r, refl, ap (λ y. y.count) (inner_is _ x e), ap (λ y. y.size) (inner_is _ x e))
count-with_status status (Leaf r) x e = absurd (cc)
count-with_status status (Change r) x e = absurd (cc)
count-with_status status (Rebuild r) x e = absurd (cc)

count-with_decision : (decision : ℕ) → KeepsCounts (with_decision decision)
count-with_decision decision (Inner r) x e = grind (arith, inner_is)
count-with_decision decision (Leaf r) x e = absurd (cc)
count-with_decision decision (Change r) x e = absurd (cc)
count-with_decision decision (Rebuild r) x e = absurd (cc)

count-with_root : (word : ℕ) → KeepsCounts (with_root word)
count-with_root word (Inner r) x e = grind (arith, inner_is)
count-with_root word (Leaf r) x e = absurd (cc)
count-with_root word (Change r) x e = absurd (cc)
count-with_root word (Rebuild r) x e = absurd (cc)

count-drawn : KeepsCounts drawn
count-drawn (Inner r) x e = grind (arith, inner_is)
count-drawn (Leaf r) x e = absurd (cc)
count-drawn (Change r) x e = absurd (cc)
count-drawn (Rebuild r) x e = absurd (cc)

count-counted : (p : Piece) (x : InnerRow) → counted p ≡ Inner x
    → (r : InnerRow) × (p ≡ Inner r) × (x.count ≡ r.count + 1) × (x.size ≡ r.size)
count-counted (Inner r) x e =
    (r, refl, ap (λ y. y.count) (inner_is _ x e), ap (λ y. y.size) (inner_is _ x e))
count-counted (Leaf r) x e = absurd (cc)
count-counted (Change r) x e = absurd (cc)
count-counted (Rebuild r) x e = absurd (cc)

-- where the count of a row after an event comes from
data CountComes (first : Snapshot) (log : Log) (node : ℕ) (x : InnerRow) : Event → Type 0 where
  count_was : {event : Event} (r : InnerRow) → (state first log).pieces node ≡ Some (Inner r)
      → x.count ≡ r.count → x.size ≡ r.size → CountComes first log node x event
  is_counted : {caller : ℕ} (r : InnerRow) → CanCount first log caller node
      → (state first log).pieces node ≡ Some (Inner r) → x.count ≡ r.count + 1 → x.size ≡ r.size
      → CountComes first log node x (Count caller node)
  is_uncounted : {event : Event} → x.count ≡ 0 → CountComes first log node x event

module _ (pairs : List Pair) (words : ℕ) (opens : CanOpen pairs words) where
  -- a row that isn't published wasn't counted
  no_counts : (log : Log) → EachEnabled (start pairs words) log → (node : ℕ)
      → (state_of pairs words log).pieces node ≡ None → counts node log ≡ 0
  unfolding counts
  no_counts [] h node none = refl
  no_counts (Count caller at ∷ log) h node none =
      let before = absent ((state_of pairs words log).pieces node) (λ p e.
      grind (arith, grow_after, no_value)) in
      here before (no_counts log h.0 node before) (eqb_tells at node)
    where
      here : (state_of pairs words log).pieces node ≡ None → counts node log ≡ 0
          → (((at == node) ≡ true) × (at ≡ node)) ⊎ (((at == node) ≡ false) × (at ≢ node))
          → (if at == node then counts node log + 1 else counts node log) ≡ 0
      here before rest (inl k) = grind (arith, on_chain_inner, no_value)
      here before rest (inr k) = grind (arith, counts)
  no_counts (event ∷ log) h node none = no_counts log h.0 node
      (absent ((state_of pairs words log).pieces node) (λ p e.
      let on = grow_after pairs words log event h node p e in no_value
      ((state_of pairs words (event ∷ log)).pieces node) on.0 none on.1))

  -- a row that an event publishes counts nothing
  born_uncounted : (log : Log) (event : Event) → EachEnabled (start pairs words) (event ∷ log)
      → (node : ℕ) (x : InnerRow)
      → (state_of pairs words (event ∷ log)).pieces node ≡ Some (Inner x)
      → (state_of pairs words log).pieces node ≡ None
      → Born (start pairs words) log node (Inner x) event → x.count ≡ 0
  unfolding counts
  born_uncounted log _ h node x e none (born.by_install {caller = caller} {change = change}
      {rows = rows} can new) =
      grind (arith, count_at_most, no_counts, counts)
  born_uncounted log _ h node x e none (born.by_root {caller = caller} {rebuild = rebuild}
      {word = word} {rows = rows} i p) =
      let most = count_at_most node pairs words (Root caller rebuild word rows ∷ log) h (Inner x)
      e in
      let zero = no_counts log h.0 node none in at most zero
    where
      at : x.count ≤ counts node log → counts node log ≡ 0 → x.count ≡ 0
      at a b = omega arith
  born_uncounted log _ h node x e none (born.by_place {caller = caller} {rebuild = rebuild} {i = i}
      {word = word} {rows = rows} k p) =
      let most = count_at_most node pairs words (Place caller rebuild i word rows ∷ log) h (Inner x)
      e in
      let zero = no_counts log h.0 node none in at most zero
    where
      at : x.count ≤ counts node log → counts node log ≡ 0 → x.count ≡ 0
      at a b = omega arith

  -- the count of a row that was there before, if its event leaves counts
  same_count : (log : Log) (event : Event) (node : ℕ) (x : InnerRow) (p : Piece) (f : Piece → Piece)
      → KeepsCounts f → (state_of pairs words log).pieces node ≡ Some p → Inner x ≡ f p
      → CountComes (start pairs words) log node x event
  same_count log event node x p f keeps old is = let it = keeps p x (sym is) in
      count_was it.0 (old ∙ ap (λ y. Some y) it.1) it.2 it.3

  turned_count : (log : Log) (event : Event) (node : ℕ) (x : InnerRow) (p : Piece)
      → (state_of pairs words log).pieces node ≡ Some p
      → BecameBy (start pairs words) log node p (Inner x) event
      → CountComes (start pairs words) log node x event
  turned_count log event node x p old (as_it_was is) =
      count_was x (old ∙ ap (λ y. Some y) (sym is)) refl refl
  turned_count log _ node x p old (by_install {change = change} h here is) =
      same_count log _ node x p (with_slot h.change.index (word_of (ChangeAt change)))
      (count-with_slot h.change.index (word_of (ChangeAt change))) old is
  turned_count log _ node x p old (by_resolve h here is) =
      same_count log _ node x p (with_slot h.change.index (side_of h.change))
      (count-with_slot h.change.index (side_of h.change)) old is
  turned_count log _ node x p old (by_place {i = i} {word = word} h here is) =
      same_count log _ node x p (with_slot i word) (count-with_slot i word) old is
  turned_count log _ node x p old (by_decide {said = said} h is) =
      grind (arith, same_count, count-with_decision)
  turned_count log _ node x p old (by_count h is) = let it = count-counted p x (sym is) in
      is_counted it.0 h (old ∙ ap (λ y. Some y) it.1) it.2 it.3
  turned_count log _ node x p old (by_mark h is) =
      same_count log _ node x p (with_status marked_word) (count-with_status marked_word) old is
  turned_count log _ node x p old (by_finish {keys = keys} h is) =
      same_count log _ node x p (with_status (finished_word keys))
      (count-with_status (finished_word keys)) old is
  turned_count log _ node x p old (by_root {word = word} h is) =
      same_count log _ node x p (with_root word) (count-with_root word) old is
  turned_count log _ node x p old (by_draw h is) = grind (arith, same_count, count-drawn)

  count_comes : (log : Log) (event : Event) → EachEnabled (start pairs words) (event ∷ log)
      → (node : ℕ) (x : InnerRow)
      → (state_of pairs words (event ∷ log)).pieces node ≡ Some (Inner x)
      → CountComes (start pairs words) log node x event
  count_comes log event h node x e = at (came pairs words log event h node (Inner x) e)
    where
      at : RowCame (start pairs words) log event node (Inner x)
          → CountComes (start pairs words) log node x event
      at (from_old p old turned) = turned_count log event node x p old turned
      at (from_new new none) = is_uncounted (born_uncounted log event h node x e none new)

  -- a caller that is known made the row due
  pub record WasMadeDue (log : Log) (node : ℕ) : Type 0 where
    pub caller : ℕ
    pub known : caller < (state_of pairs words log).callers
    pub made : MadeDue (start pairs words) caller node log

  no_counts_first : (node n : ℕ) → n ≤ counts node [] → n ≡ 0
  unfolding counts
  no_counts_first node n low = omega arith

  some_limit : (size count : ℕ) → limit size ≤ count → count ≡ 0 → ⊥
  some_limit size count low none = omega arith

  -- each row that is due was made due by a known caller
  pub due_was_made : (log : Log) → EachEnabled (start pairs words) log → (node : ℕ) (x : InnerRow)
      → (state_of pairs words log).pieces node ≡ Some (Inner x) → limit x.size ≤ x.count
      → WasMadeDue log node
  due_was_made [] h node x e due =
      absurd (some_limit x.size x.count due (no_counts_first node x.count
      (count_at_most node pairs words [] h (Inner x) e)))
  due_was_made (event ∷ log) h node x e due =
      at event h due (count_comes log event h node x e) (λ r old d. due_was_made log h.0 node r old
      d)
    where
      at : (event : Event) → EachEnabled (start pairs words) (event ∷ log) → limit x.size ≤ x.count
          → CountComes (start pairs words) log node x event
          → ((r : InnerRow) → (state_of pairs words log).pieces node ≡ Some (Inner r)
          → limit r.size ≤ r.count → WasMadeDue log node)
          → WasMadeDue (event ∷ log) node
      at event all d (count_was r old same size) before =
          let it = before r old (subst (λ s. limit s ≤ r.count) size
          (subst (λ c. limit x.size ≤ c) same d)) in
          record {
            caller = it.caller;
            known = known_step (start pairs words) log event it.caller it.known;
            made = due_before event it.made;
          }
      at _ all d (is_counted {caller = caller} r can old more size) before = record {
        caller = caller;
        known = grind (arith, known_step);
        made =
            due_now r old (subst (λ s. limit s ≤ r.count + 1) size
            (subst (λ c. limit x.size ≤ c) more d));
      }
      at event all d (is_uncounted none) before = absurd (some_limit x.size x.count d none)

  -- a row that was made due was linked
  made_due_linked : (caller node : ℕ) (log : Log) → EachEnabled (start pairs words) log
      → MadeDue (start pairs words) caller node log → WasLinked (start pairs words) log node
  made_due_linked caller node _ h (due_now {log = log} row e l) = grind (arith, on_chain_was_linked)
  made_due_linked caller node _ h (due_before {log = log} event made) =
      inr (made_due_linked caller node log h.0 made)

  -- so a row that is due was linked
  pub due_was_linked : (log : Log) → EachEnabled (start pairs words) log → (node : ℕ) (x : InnerRow)
      → (state_of pairs words log).pieces node ≡ Some (Inner x) → limit x.size ≤ x.count
      → WasLinked (start pairs words) log node
  due_was_linked log h node x e due = let it = due_was_made log h node x e due in
      made_due_linked it.caller node log h it.made
