-- Rows that wait to be remembered: what was remembered so far, with what hangs by those, is what hangs by the first.
-- Serves `linking.rt`.
use Rattle.std.proofs.Common.{◌≡◌, ◌↔◌, ◌<◌, ◌+◌, ◌-◌, ◌⊎◌, ℕ, take, List, [], ◌∷◌, ◌++◌, length, slice_get, Some, None, refl, sym, subst, inl, inr, ⊎_elim, arith}
use Rattle.std.proofs.lemmas.List.{append-nil}
use Rattle.std.specs.Ordering.{nat_cmp}
use Rattle.std.specs.BTreeMap as tree
use Rattle.std.specs.BTreeMap.{BTreeMap}
use Rattle.ist_core.specs.declared.states.InnerRow.{InnerRow}
use Rattle.ist_core.specs.LogTerms.{Among, Snapshot}
use Rattle.ist_core.specs.WordTerms.{anchor, InnerAt, Inner, logical}
use Rattle.ist_core.specs.TreeTerms.{IsChild}
use Rattle.ist_core.proofs.AllWordLemmas.{among-append, among_left, among_right}
use Rattle.ist_core.proofs.AllPlaceLemmas.{get_below}
use Rattle.check_events.specs.declared.pasts.Slot.{Slot}
use Rattle.check_state.specs.declared.linking.Link.{Link}
use Rattle.check_state.specs.Hanging.{Hangs, hangs_here, hangs_below, SomeHangs, PutsLink, PutsLinks, HasSlot, AddsSlots, HangsOnce}
use Rattle.check_state.proofs.HangingLemmas.{hangs_split, first_child, child_by_word, child_within}
use Rattle.check_state.proofs.WayToRowLemmas.{IsIt, one_entry, once_more}

module _ (t : Snapshot) where
  -- how far the remembering has come of what hangs in or below a slot
  pub record Noted (old now : BTreeMap ℕ Slot) (node i : ℕ) (waiting : List Link) : Type 0 where
    pub once : HangsOnce now t
    -- each link that waits is of a child in its slot
    pub links : (l : Link) → Among l waiting → IsChild t l.node l.index l.child
    -- what was remembered before or hangs there is what is remembered now or hangs by what waits
    pub told : (under j child : ℕ) → (HasSlot old under j child ⊎ Hangs t node i under j child)
        ↔ (HasSlot now under j child ⊎ SomeHangs t waiting under j child)

  -- at first nothing is remembered, and the row in the slot waits
  pub noted_none : (old : BTreeMap ℕ Slot) (node i child : ℕ) (waiting : List Link) → HangsOnce old t
      → IsChild t node i child
      → waiting ≡ record { node = node; index = i; child = child } ∷ []
      → Noted old old node i waiting
  noted_none old node i child waiting once c is = subst (λ ls. Noted old old node i ls) (sym is)
      record {
        once = once;
        links = λ l a. ⊎_elim (λ e. at l e) (λ none. absurd none) a;
        told = λ under j x. (
          (λ h. ⊎_elim (λ o. inl o) (λ hangs. inr (link, inl refl, hangs)) h),
          (λ h. ⊎_elim (λ o. inl o)
              (λ s. inr (⊎_elim (λ e. below s.0 e s.2) (λ none. absurd none) s.1)) h),
        );
      }
    where
      link : Link
      link = record { node = node; index = i; child = child }

      at : (l : Link) → l ≡ link → IsChild t l.node l.index l.child
      at l e = subst (λ x. IsChild t x.node x.index x.child) (sym e) c

      below : {under j x : ℕ} (l : Link) → l ≡ link → Hangs t l.node l.index under j x
          → Hangs t node i under j x
      below {under = under} {j = j} {x = x} l e h = grind arith

  -- with nothing waiting all is remembered
  pub noted_all : (old now : BTreeMap ℕ Slot) (node i : ℕ) (waiting : List Link) → waiting ≡ []
      → Noted old now node i waiting → AddsSlots old now (Hangs t node i)
  noted_all old now node i waiting is noted under j child =
      let it = subst (λ ls. Noted old now node i ls) is noted in (
        (λ h. (it.told under j child).1 (inl h)),
        (λ h. ⊎_elim (λ e. e) (λ s. absurd s.1) ((it.told under j child).0 h)),
      )

  -- ---- one row

  module _ (old now mid : BTreeMap ℕ Slot) (node i : ℕ) (rest next : List Link) (l : Link)
      (noted : Noted old now node i (rest ++ l ∷ []))
      (u : tree.Updates nat_cmp now mid l.child (Some record { node = l.node; index = l.index }))
      (puts : PutsLinks t l.child rest next) where
    last : Among l (rest ++ l ∷ [])
    last = among_right l rest (l ∷ []) (inl refl)

    child : IsChild t l.node l.index l.child
    child = noted.links l last

    entry : AddsSlots now mid (IsIt t now mid l.node l.index l.child noted.once child u)
    entry = one_entry t now mid l.node l.index l.child noted.once child u

    -- what hangs by the row is the row, or hangs by one of those in its slots
    by_row : (under j x : ℕ) → Hangs t l.node l.index under j x
        → HasSlot mid under j x ⊎ SomeHangs t next under j x
    by_row under j x h = ⊎_elim (λ it. inl ((entry under j x).1 (inr it)))
        (λ b. let c = first_child t l.child b.0 under j x b.1 in
        let m : Link = record { node = l.child; index = b.0; child = c.0 } in
        inr (m, (puts m).1 (inr (refl, c.1)), b.1))
        (hangs_split t noted.once.anchor_free l.node l.index l.child under j x child h)

    forth : (under j x : ℕ) → HasSlot now under j x ⊎ SomeHangs t (rest ++ l ∷ []) under j x
        → HasSlot mid under j x ⊎ SomeHangs t next under j x
    forth under j x (inl e) = inl ((entry under j x).1 (inl e))
    forth under j x (inr s) = ⊎_elim (λ a. inr (s.0, (puts s.0).1 (inl a), s.2))
        (λ a. ⊎_elim
        (λ e. by_row under j x (subst (λ y. Hangs t y.node y.index under j x) e s.2))
        (λ none. absurd none) a)
        (among-append s.0 rest (l ∷ []) s.1)

    back : (under j x : ℕ) → HasSlot mid under j x ⊎ SomeHangs t next under j x
        → HasSlot now under j x ⊎ SomeHangs t (rest ++ l ∷ []) under j x
    back under j x (inl e) = ⊎_elim (λ o. inl o) (λ it. inr (l, last, here it))
        ((entry under j x).0 e)
      where
        here : (under ≡ l.node) × (j ≡ l.index) × (x ≡ l.child) → Hangs t l.node l.index under j x
        here it = subst (λ m. Hangs t l.node l.index m j x) (sym it.0)
            (subst (λ k. Hangs t l.node l.index l.node k x) (sym it.1)
            (hangs_here (subst (λ y. IsChild t l.node l.index y) (sym it.2) child)))
    back under j x (inr s) = ⊎_elim (λ a. inr (s.0, among_left s.0 rest (l ∷ []) a, s.2))
        (λ below. let h = subst (λ n. Hangs t n s.0.index under j x) below.0 s.2 in
        let c = subst (λ n. IsChild t n s.0.index s.0.child) (sym below.0) below.1 in
        inr (l, last, hangs_below l.child s.0.index child h))
        ((puts s.0).0 s.1)

    -- when a row was remembered, it is replaced by those that hang in its slots among those that
    -- wait
    pub noted_one : Noted old mid node i next
    noted_one = record {
      once = once_more t now mid l.node l.index l.child noted.once child u;
      links = λ m a. ⊎_elim (λ b. noted.links m (among_left m rest (l ∷ []) b))
          (λ below. subst (λ n. IsChild t n m.index m.child) (sym below.0) below.1) ((puts m).0 a);
      told = λ under j x. (
        (λ h. forth under j x ((noted.told under j x).0 h)),
        (λ h. (noted.told under j x).1 (back under j x h)),
      );
    }

  -- ---- the slots of a node

  -- the row hangs in a slot of the node before slot k
  abbrev pub HangsBefore : ℕ → ℕ → Link → Type 0
  HangsBefore node k l = (l.node ≡ node) × (l.index < k) × IsChild t node l.index l.child

  -- with the row in slot k those before slot k + 1 wait
  pub puts_one : (node k word : ℕ) (row : InnerRow) (old mid new : List Link)
      → t.pieces anchor ≡ None → t.pieces node ≡ Some (Inner row) → slice_get row.slots k ≡ Some word
      → ((l : Link) → Among l mid ↔ (Among l old ⊎ HangsBefore node k l))
      → PutsLink t node k word mid new
      → (l : Link) → Among l new ↔ (Among l old ⊎ HangsBefore node (k + 1) l)
  puts_one node k word row old mid new free e g before puts l = grind (arith, child_by_word)

  -- before the end of the slots is anywhere
  pub puts_all : (node : ℕ) (row : InnerRow) (old new : List Link) (n : ℕ) → n ≡ length row.slots
      → t.pieces anchor ≡ None → t.pieces node ≡ Some (Inner row)
      → ((l : Link) → Among l new ↔ (Among l old ⊎ HangsBefore node n l)) → PutsLinks t node old new
  puts_all node row old new n end free e all l = grind (arith, child_within, get_below)

  -- one more row waits
  pub puts_link : (node i word child : ℕ) (old new : List Link)
      → logical t.pieces word ≡ Some (InnerAt child)
      → new ≡ old ++ record { node = node; index = i; child = child } ∷ []
      → PutsLink t node i word old new
  puts_link node i word child old new reads is l = (
    (λ a. ⊎_elim (λ o. inl o)
        (λ b. ⊎_elim (λ e. inr (at l e)) (λ none. absurd none) b)
        (among-append l old (link ∷ []) (subst (Among l) is a))),
    (λ h. subst (Among l) (sym is) (⊎_elim (λ o. among_left l old (link ∷ []) o)
        (λ p. among_right l old (link ∷ []) (inl (same l p.0 p.1 (cc (p.2))))) h)),
  )
    where
      link : Link
      link = record { node = node; index = i; child = child }

      at : (l : Link) → l ≡ link
          → (l.node ≡ node) × (l.index ≡ i) × (logical t.pieces word ≡ Some (InnerAt l.child))
      at l e = grind arith

      same : (l : Link) → l.node ≡ node → l.index ≡ i → l.child ≡ child → l ≡ link
      same l a b c = λ k. record { node = a k; index = b k; child = c k }

  -- no row waits more
  pub puts_no_link : (node i word : ℕ) (old : List Link)
      → ((child : ℕ) → ¬ (logical t.pieces word ≡ Some (InnerAt child)))
      → PutsLink t node i word old old
  puts_no_link node i word old none l = grind arith

-- if no row waits, none is next
pub nothing_waits : (waiting rest : List Link) (n : ℕ) → waiting ≡ rest ++ [] → rest ≡ take (n - 1) waiting
    → n ≡ 0 → waiting ≡ []
nothing_waits waiting rest n is taken none = grind (arith, append-nil)
