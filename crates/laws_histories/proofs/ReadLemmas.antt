-- What the word of a slot reads as, at an event and over a log: the same, except when its change is
-- decided yes. Serves the search law and the changes law.
use Rattle.std.proofs.Common.{◌≡◌, ◌≢◌, ℕ, ◌⊎◌, true, List, ◌∷◌, Option, Some, None, refl, sym, ap, ◌∙◌, subst, inl, inr, ⊎_elim, arith, ◌<◌, [], map, replicate}
use Rattle.std.proofs.lemmas.Bool.Decides.{eqb_tells}
use Rattle.ist_core.specs.declared.pairs.Pair.{Pair}
use Rattle.ist_core.specs.declared.states.ChangeRow.{ChangeRow}
use Rattle.ist_core.specs.declared.events.Event.{Event}
use Rattle.ist_core.specs.declared.events.Event.TheVariants.{Decide}
use Rattle.ist_core.specs.declared.states.InnerRow.{InnerRow}
use Rattle.ist_core.specs.WordTerms.{Ref, Unset, InnerAt, ChangeAt, RebuildAt, ref_of, decided_yes, Pieces, Change, start, SlotHolds, change_reads, past_change, rebuild_reads, past_rebuild, logical, degree, square_root, root_up_to, part_len, part_lens, ideal_words, ideal_words_within, rows_within, in_row}
use Rattle.ist_core.specs.LogTerms.{Snapshot, side_of, Log, EachEnabled, CanOpen, state_of, Each, state, Lawful}
use Rattle.ist_core.specs.TreeTerms.{AllGrow, IsPending, PlacedLeaf, HasLeaves, HasContents, IsBuilt}
use Rattle.ist_core.proofs.AllLogLemmas.{change_there, rebuild_there, side_not_yes, grow_after}
use Rattle.ist_core.proofs.AllPlaceLemmas.{SideNames, SlotNames, WordsName, slot_names, side_names, names, past_change_names, Rising, next_from_rising}
use Rattle.laws_links.proofs.ReadEventLemmas.{decide_reads}
use Rattle.std.specs.List.Sorted.{IsStrictlyIncreasing}
use Rattle.laws_histories.specs.ExampleShares.{many_pairs, finish_of, share_placed}
use Rattle.laws_histories.proofs.EventTestLemmas.{then, less, known}
use Rattle.laws_histories.proofs.ShareExampleLemmas.{many}
use Rattle.laws_histories.proofs.ShareRootExampleLemmas.{leaves_by, new_top}
use Rattle.laws_histories.proofs.SharePlaceExampleLemmas.{share_placed_enabled}
use Rattle.laws_links.proofs.ReadLemmas as links
use Rattle.laws_links.proofs.ReadStepLemmas as steps

-- ---- references

-- a rebuild always reads as its target
pub side_reads : (ps qs : Pieces) → AllGrow ps qs → (node i : ℕ) (ref : Option Ref)
    → SideNames ps node i ref → past_rebuild qs ref ≡ past_rebuild ps ref
side_reads ps qs g node i (Some (RebuildAt base)) h =
    let it = rebuild_there ps qs g base h.row h.published in
    ap rebuild_reads it.1 ∙ ap (λ n. Some (InnerAt n)) it.2.target
    ∙ sym (ap rebuild_reads h.published)
side_reads ps qs g node i _ h = refl

-- a change reads as the side that its decision leaves
pub change_logical : (ps : Pieces) (word base : ℕ) (r : ChangeRow)
    → ref_of word ≡ Some (ChangeAt base) → ps base ≡ Some (Change r)
    → logical ps word ≡ past_rebuild ps (ref_of (side_of r))
change_logical ps word base r is e = grind arith

-- ---- over a log

-- the reference is a change of slot i of the node, which isn't decided yes in the first state and is in the second
pub record IsTurned (t u : Snapshot) (node i : ℕ) (ref : Option Ref) : Type 0 where
  pub base : ℕ
  pub is : ref ≡ Some (ChangeAt base)
  pub old : ChangeRow
  pub published : t.pieces base ≡ Some (Change old)
  pub node_is : old.node ≡ node
  pub index : old.index ≡ i
  pub not_yet : old.decision ≢ decided_yes
  pub new : ChangeRow
  pub later : u.pieces base ≡ Some (Change new)
  pub yes : new.decision ≡ decided_yes

-- what a change reads as depends on its sides and its decision
same_side : (x y : ChangeRow) → x.from ≡ y.from → x.to ≡ y.to → x.decision ≡ y.decision
    → side_of x ≡ side_of y
same_side x y f t d = rw (f, t, d) refl

-- what slot i of the node holds reads later as it did, or is a change that was turned
pub word_reads : (t u : Snapshot) → AllGrow t.pieces u.pieces → WordsName t → (node i : ℕ)
    (ref : Option Ref) → SlotNames t.pieces node i ref
    → (past_rebuild u.pieces (past_change u.pieces ref) ≡ past_rebuild t.pieces (past_change t.pieces ref)) ⊎ IsTurned t u node i ref
word_reads t u g o node i (Some (ChangeAt base)) h = let old = h.row in
    let it = change_there t.pieces u.pieces g base old h.published in let new = it.0 in
    let row = o.rows base (Change old) h.published in let from = ap (λ c. c.from) it.2.others in
    let to = ap (λ c. c.to) it.2.others in
    let alike : side_of new ≡ side_of old
    → past_rebuild u.pieces (past_change u.pieces (Some (ChangeAt base))) ≡ past_rebuild t.pieces (past_change t.pieces (Some (ChangeAt base))) =
    λ e. ap (λ x. past_rebuild u.pieces (change_reads x)) it.1
    ∙ ap (λ w. past_rebuild u.pieces (ref_of w)) e
    ∙ side_reads t.pieces u.pieces g old.node old.index (ref_of (side_of old))
    (side_names t.pieces old.node old.index old row.0 row.1)
    ∙ sym (ap (λ x. past_rebuild t.pieces (change_reads x)) h.published) in
    ⊎_elim
    (λ yes. inl (alike (same_side new old from to (it.2.decided (λ none. (let one = yes.1 in absurd (omega arith)))))))
    (λ not_yet. ⊎_elim
    (λ yes. inr record { base = base; is = refl; old = old; published = h.published; node_is = h.node_is; index = h.index; not_yet = not_yet.1; new = new; later = it.1; yes = yes.1 })
    (λ no. inl (alike (side_not_yes new no.1 ∙ from ∙ sym (side_not_yes old not_yet.1))))
    (eqb_tells new.decision 1))
    (eqb_tells old.decision 1)
word_reads t u g o node i (Some (RebuildAt base)) h =
    inl (side_reads t.pieces u.pieces g node i (Some (RebuildAt base)) h)
word_reads t u g o node i _ h = inl refl

-- ---- at an event

-- the event decides the change yes
pub record IsYesOf (event : Event) (base : ℕ) : Type 0 where
  pub caller : ℕ
  pub is : event ≡ Decide caller base true

-- what slot i of the node reads as
pub record ReadsAs (t : Snapshot) (node i : ℕ) (ref : Option Ref) : Type 0 where
  pub word : ℕ
  pub holds : SlotHolds t node i word
  pub reads : logical t.pieces word ≡ ref

-- the event decides a change of slot i of the node yes, so that the slot reads as what the change puts in, in place of what it
-- takes out, the reference
pub record Turns (t u : Snapshot) (event : Event) (node i : ℕ) (ref : Option Ref) : Type 0 where
  pub base : ℕ
  pub decides : IsYesOf event base
  pub change : ChangeRow
  pub pending : IsPending t base change
  pub node_is : change.node ≡ node
  pub index : change.index ≡ i
  pub from : past_rebuild t.pieces (ref_of change.from) ≡ ref
  pub now : ReadsAs u node i (past_rebuild t.pieces (ref_of change.to))

module _ (pairs : List Pair) (words : ℕ) (opens : CanOpen pairs words) where
  -- a change that the event decides yes turns its slot
  turned : (log : Log) (event : Event) → EachEnabled (start pairs words) (event ∷ log)
      → (node i : ℕ) (ref : Ref) → links.Turns (start pairs words) log node i ref event
      → Turns (state_of pairs words log) (state_of pairs words (event ∷ log)) event node i
      (past_rebuild (state_of pairs words log).pieces (Some ref))
  turned log _ h node i ref (links.turned_by {caller = caller} {base = base} can node_is index from) =
      let t = state_of pairs words log in
      let u = state_of pairs words (Decide caller base true ∷ log) in let change = can.change in
      let row = (names pairs words opens log h.0).rows base (Change change) can.pending.published in
      let now : ReadsAs u change.node change.index (past_rebuild t.pieces (ref_of change.to)) =
      put_in (ref_of change.to) refl row.1 in
      record {
        base = base;
        decides = record { caller = caller; is = refl };
        change = change;
        pending = can.pending;
        node_is = node_is;
        index = index;
        from = ap (past_rebuild t.pieces) from;
        now = subst (λ j. ReadsAs u node j (past_rebuild t.pieces (ref_of change.to))) index
            (subst (λ n. ReadsAs u n change.index (past_rebuild t.pieces (ref_of change.to))) node_is now);
      }
    where
      put_in : (o : Option Ref) → ref_of can.change.to ≡ o
          → SideNames (state_of pairs words log).pieces can.change.node can.change.index o
          → ReadsAs (state_of pairs words (Decide caller base true ∷ log)) can.change.node can.change.index (past_rebuild (state_of pairs words log).pieces (ref_of can.change.to))
      put_in None is side = absurd side
      put_in (Some to) is side = let t = state_of pairs words log in
          let u = state_of pairs words (Decide caller base true ∷ log) in
          let r =
          decide_reads pairs words opens log caller base h can.change can.pending.published to is in
          record {
            word = r.word;
            holds = r.holds;
            reads = ap (past_rebuild u.pieces) r.reads ∙ side_reads t.pieces u.pieces
                (grow_after pairs words log (Decide caller base true) h) can.change.node can.change.index (Some to) side
                ∙ ap (past_rebuild t.pieces) (sym is);
          }

  -- a slot that is set reads the same after an event, or the event turns a change of it
  pub reads_step : (log : Log) (event : Event) → EachEnabled (start pairs words) (event ∷ log)
      → (node i : ℕ) (ref : Option Ref) → ref ≢ Some Unset
      → ReadsAs (state_of pairs words log) node i ref
      → ReadsAs (state_of pairs words (event ∷ log)) node i ref
      ⊎ Turns (state_of pairs words log) (state_of pairs words (event ∷ log)) event node i ref
  reads_step log event h node i ref set r = ⊎_elim
      (λ side. at (past_change t.pieces (ref_of r.word)) refl side)
      (λ unset. absurd (set (sym r.reads ∙ ap (past_rebuild t.pieces) unset)))
      (past_change_names t node i (ref_of r.word) (names pairs words opens log h.0) (slot_names t node i r.word (names pairs words opens log h.0) r.holds))
    where
      t : Snapshot
      t = state_of pairs words log

      u : Snapshot
      u = state_of pairs words (event ∷ log)

      unset_side : (plain : Ref) → plain ≡ Unset → ¬ (SideNames t.pieces node i (Some plain))
      unset_side plain e side = subst (λ x. SideNames t.pieces node i (Some x)) e side

      at : (o : Option Ref) → past_change t.pieces (ref_of r.word) ≡ o → SideNames t.pieces node i o
          → ReadsAs u node i ref ⊎ Turns t u event node i ref
      at None is side = absurd side
      at (Some plain) is side =
          let same : past_rebuild t.pieces (Some plain) ≡ ref =
          ap (past_rebuild t.pieces) (sym is) ∙ r.reads in
          ⊎_elim
          (λ k.
          inl record {
            word = k.word;
            holds = k.holds;
            reads = ap (past_rebuild u.pieces) k.reads
                ∙ side_reads t.pieces u.pieces (grow_after pairs words log event h) node i
                (Some plain) side ∙ same;
          })
          (λ k. inr (subst (λ x. Turns t u event node i x) same (turned log event h node i plain k)))
          (steps.reads_step pairs words opens log event h node i plain (λ e. unset_side plain e side) record { word = r.word; holds = r.holds; reads = is })

-- ---- the log of a shared root is lawful, and what it leaves. Serves `examples`.

-- each number is above the low one, or nothing is said
abbrev above_by : (low : ℕ) (xs : List ℕ) → Option (Each (λ x. low < x) xs)
above_by low [] = Some tt
above_by low (x ∷ xs) =
    then (less low x) (λ here. then (above_by low xs) (λ rest. Some (here, rest)))

-- the test whether numbers are strictly increasing
abbrev rising_by : (xs : List ℕ) → Option (Rising xs)
rising_by [] = Some tt
rising_by (x ∷ xs) = then (above_by x xs) (λ here. then (rising_by xs) (λ rest. Some (here, rest)))

-- the keys are strictly increasing
many_rising : IsStrictlyIncreasing (map (λ pair. pair.key) many_pairs)
many_rising = let keys = map (λ pair. pair.key) many_pairs in
    next_from_rising keys (known (rising_by keys) refl)

-- the table may open
many_open : CanOpen many_pairs 3000
unfolding ideal_words ideal_words_within degree square_root root_up_to part_len part_lens
many_open = record { rising = many_rising; room = omega arith; within = omega arith }

-- the log is lawful
pub share_is_lawful : Lawful many_pairs 3000 share_placed
share_is_lawful = record { opens = many_open; enabled = share_placed_enabled }

-- 2215 words are used
pub share_next : (state many share_placed).next ≡ 2215
unfolding finish_of ref_of rows_within degree square_root root_up_to part_len part_lens ideal_words ideal_words_within
share_next = refl

-- the root, with one part
abbrev root_now : InnerRow
root_now = new_top (16962 ∷ replicate 15 7)

-- the part is in the first slot
pub share_part : SlotHolds (state many share_placed) 2085 0 16962
unfolding finish_of ref_of rows_within degree square_root root_up_to part_len part_lens ideal_words ideal_words_within
share_part = in_row root_now refl refl

-- the second is Unset
pub share_unset : SlotHolds (state many share_placed) 2085 1 7
unfolding finish_of ref_of rows_within degree square_root root_up_to part_len part_lens ideal_words ideal_words_within
share_unset = in_row root_now refl refl

-- so the root isn't built
pub share_unbuilt : ¬ (IsBuilt (state many share_placed) 16682)
unfolding ref_of
share_unbuilt built = built.whole 2085 1 7 refl share_unset refl

-- the leaves of the target
leaves_now : (leaves : List PlacedLeaf)
    × HasLeaves (state many share_placed).pieces (Some (InnerAt 4)) leaves
unfolding finish_of ref_of rows_within degree square_root root_up_to part_len part_lens ideal_words ideal_words_within
leaves_now = known (leaves_by 6 (state many share_placed).pieces (Some (InnerAt 4))) refl

-- the contents are the same as at the start
pub share_contents : HasContents (state many share_placed) many_pairs
unfolding leaves_now finish_of ref_of rows_within degree square_root root_up_to part_len part_lens ideal_words ideal_words_within
share_contents = record { leaves = leaves_now.0; reached = leaves_now.1; pairs_are = refl }
