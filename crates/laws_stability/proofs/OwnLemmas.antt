-- The changes of a caller come only from its own events, and what is decided of them. Serves the
-- clauses on Install and Count.
use Rattle.std.proofs.Common.{List, ℕ, ◌<◌, ◌≤◌, ◌≡◌, ◌∷◌, refl, inl, inr, arith, Some, ap, subst, sym, ⊎_elim, ◌∙◌, ◌≢◌, Option}
use Rattle.ist_core.specs.declared.events.Event.{Event}
use Rattle.ist_core.specs.declared.events.Event.TheVariants.{Install, Resolve, Place}
use Rattle.ist_core.specs.declared.lists.Row.{Row}
use Rattle.ist_core.specs.declared.events.Who.TheVariants.{Caller}
use Rattle.ist_core.specs.declared.pairs.Pair.{Pair}
use Rattle.ist_core.specs.declared.states.ChangeRow.{ChangeRow}
use Rattle.ist_core.specs.declared.states.InnerRow.{InnerRow}
use Rattle.ist_core.specs.LogTerms.{GoesOn, Happened, Log, Resolves, one_event, same_log, Later, whose, no_more, one_more, EachEnabled, state_of, Snapshot, CanOpen}
use Rattle.laws_stability.specs.Progress.{advance_by, progress}
use Rattle.std.proofs.lemmas.Bool.Decides.{eqb_tells}
use Rattle.ist_core.specs.TreeTerms.{ChangeGrows, IsUnrefused, IsChild, Linked, below, IsCalled, as_child, as_target, after_rebuild}
use Rattle.ist_core.specs.WordTerms.{Change, start, undecided, Inner, InnerAt, RebuildAt, Ref, ref_of, unset_word, IsOpen, SlotHolds, anchor_is, past_change, past_rebuild, rebuild_reads, row_is, open_word}
use Rattle.ist_core.proofs.AllLogLemmas.{grow_between, change_there, goes_on_by, inner_there, grow_after}
use Rattle.laws_links.proofs.ComesLemmas.{change_comes, status_comes}
use Rattle.laws_links.proofs.PassLemmas.{ChangeComes, change_was, is_decided, is_installed, StatusComes, finished_now, is_new, marked_now, status_was}
use Rattle.laws_stability.specs.Meanwhile.{NoneRefused}
use Rattle.ist_core.proofs.AllPlaceLemmas.{Mentions, child_mentioned, SlotNames, slot_names, names, one_home, anchor_free, slot_once, place_writes, slot_stays}
use Rattle.ist_core.proofs.AllWordLemmas.{same_inner}
use Rattle.laws_links.proofs.InductionLemmas.{sound_after}
use Rattle.laws_links.proofs.ClosedLemmas.{closed_is_called}
use Rattle.laws_links.proofs.ReplacedLemmas.{replaced_unlinked, target_named}
use Rattle.laws_links.proofs.RebuiltLemmas.{started_reads}
use Rattle.laws_links.proofs.OpenRowLemmas.{passed_closed}

-- ---- progress never falls, and grows with each event that counts. Serves `laws.progress_is_bounded`.

-- a longer log has come no less far
pub never_falls : (earlier log : Log) → GoesOn earlier log → progress earlier ≤ progress log
never_falls earlier _ same_log = omega arith
never_falls earlier _ (one_event {log = log} event g) = let before = never_falls earlier log g in
    omega arith

-- if an event that counts happened between two logs, the table has come further
pub rises : (P : Event → Type 0) → ((event : Event) → P event → advance_by event ≡ 1)
    → (earlier log : Log) → GoesOn earlier log → ¬ (Happened P earlier) → Happened P log
    → progress earlier < progress log
rises P counts earlier _ same_log none happened = absurd (none happened)
rises P counts earlier _ (one_event {log = log} event g) none (inl now) = grind (arith, never_falls)
rises P counts earlier _ (one_event {log = log} event g) none (inr before) =
    let less = rises P counts earlier log g none before in omega arith

-- a Resolve counts
resolve_counts : (base : ℕ) (event : Event) → Resolves base event → advance_by event ≡ 1
resolve_counts base (Resolve c d) is = refl
resolve_counts base _ is = absurd is

-- if a change was resolved between two logs, the table has come further
pub resolving : (earlier log : Log) → GoesOn earlier log → (base : ℕ)
    → ¬ (Happened (Resolves base) earlier) → Happened (Resolves base) log
    → progress earlier < progress log
resolving earlier log g base = rises (Resolves base) (resolve_counts base) earlier log g

-- if a change was installed between two logs, the table has come further
pub installing : (earlier at log : Log) (caller base : ℕ) (rows : List Row) → GoesOn earlier at
    → GoesOn (Install caller base rows ∷ at) log → progress earlier < progress log
installing earlier at log caller base rows g more = grind (arith, never_falls)

-- a change in the second state was also a change in the first
pub record Was (t u : Snapshot) (base : ℕ) (x : ChangeRow) : Type 0 where
  pub old : ChangeRow
  pub published : t.pieces base ≡ Some (Change old)
  pub grew : ChangeGrows old x

module _ (pairs : List Pair) (words : ℕ) (caller : ℕ) where
  -- if others made the further events, a change of the caller was there before
  own_before : {earlier log : Log} → Later (Caller caller) earlier log
      → EachEnabled (start pairs words) log → (base : ℕ) (x : ChangeRow)
      → (state_of pairs words log).pieces base ≡ Some (Change x) → x.owner ≡ caller
      → (old : ChangeRow) × ((state_of pairs words earlier).pieces base ≡ Some (Change old))
  own_before no_more h base x e own = (x, e)
  own_before {earlier = earlier} (one_more {log = log} event later other) h base x e own =
      at event other (change_comes pairs words log event h base x e) (own_before later h.0 base)
    where
      at : (event : Event) → whose event ≢ Caller caller
          → ChangeComes (start pairs words) log base x event
          → ((y : ChangeRow) → (state_of pairs words log).pieces base ≡ Some (Change y)
          → y.owner ≡ caller
          → (old : ChangeRow) × ((state_of pairs words earlier).pieces base ≡ Some (Change old)))
          → (old : ChangeRow) × ((state_of pairs words earlier).pieces base ≡ Some (Change old))
      at event out (change_was old) before = before x old own
      at _ out (is_installed {caller = c} can is) before = grind arith
      at _ out (is_decided can is) before =
          before can.change can.pending.published (ap (λ y. y.owner) (sym is) ∙ own)

  -- such a change is the same row as before, possibly decided since
  pub own_was : {earlier log : Log} → Later (Caller caller) earlier log
      → EachEnabled (start pairs words) log → (base : ℕ) (x : ChangeRow)
      → (state_of pairs words log).pieces base ≡ Some (Change x) → x.owner ≡ caller
      → Was (state_of pairs words earlier) (state_of pairs words log) base x
  own_was {earlier = earlier} {log = log} later h base x e own =
      let it = own_before later h base x e own in
      let there = change_there (state_of pairs words earlier).pieces
      (state_of pairs words log).pieces
      (grow_between pairs words earlier log h (goes_on_by later)) base it.0 it.1 in
      record {
        old = it.0;
        published = it.1;
        grew = subst (λ y. ChangeGrows it.0 y) (cc (there.1)) there.2;
      }

  -- no change of the caller on the node was decided no, if none was so before and none is meanwhile
  pub unrefused_later : {earlier log : Log} → Later (Caller caller) earlier log
      → EachEnabled (start pairs words) log → (node : ℕ)
      → IsUnrefused (state_of pairs words earlier) caller node
      → NoneRefused (state_of pairs words earlier) (state_of pairs words log) caller node
      → IsUnrefused (state_of pairs words log) caller node
  unrefused_later later h node before none base x e own on refused =
      let was = own_was later h base x e own in
      let owner = ap (λ y. y.owner) (sym was.grew.others) ∙ own in
      let place = ap (λ y. y.node) (sym was.grew.others) ∙ on in ⊎_elim
      (λ same. none base was.old x record { published = was.published; unset = same.1 } owner place
      e refused)
      (λ other. before base was.old was.published owner place
      (sym (was.grew.decided other.1) ∙ refused))
      (eqb_tells was.old.decision undecided)

-- ---- what stays as it is while a table comes no further. Serves `laws.tables_stand_still`.

-- the word of a row isn't the word of a rebuild
inner_no_rebuild : (a : Option Ref) (child rebuild : ℕ) → a ≡ Some (InnerAt child)
    → a ≡ Some (RebuildAt rebuild) → ⊥
inner_no_rebuild a child rebuild e f = cc

module _ (pairs : List Pair) (words : ℕ) (opens : CanOpen pairs words) where
  -- ---- one event that doesn't count

  slot_step : (log : Log) (event : Event) → EachEnabled (start pairs words) (event ∷ log)
      → advance_by event ≡ 0 → (node i word : ℕ) → word ≢ unset_word
      → SlotHolds (state_of pairs words log) node i word
      → SlotHolds (state_of pairs words (event ∷ log)) node i word
  slot_step log (Install c d rows) h none node i word set here = absurd (omega arith)
  slot_step log (Resolve c d) h none node i word set here = absurd (omega arith)
  slot_step log (Place c o j w rows) h none node i word set here =
      ⊎_elim (λ k. absurd (set k.0)) (λ stays. stays)
      ((place_writes (state_of pairs words log) c o j w rows h.1 (sound_after pairs words log h.0)
      (anchor_free pairs words log h.0)).others node i word here)
  slot_step log event h none node i word set here =
      slot_stays (start pairs words) log event h.1 (sound_after pairs words log h.0) tt node i
      word here

  status_step : (log : Log) (event : Event) (node status : ℕ) (r : InnerRow) → advance_by event ≡ 0
      → (state_of pairs words log).pieces node ≡ Some (Inner r) → r.status ≡ open_word
      → StatusComes (start pairs words) log node status event → status ≡ open_word
  status_step log event node status r none e is (status_was q old same) =
      same ∙ ap (λ x. x.status) (same_inner ((state_of pairs words log).pieces node) q r old e) ∙ is
  status_step log event node status r none e is (is_new free same) = same
  status_step log _ node status r none e is (marked_now can same) = absurd (omega arith)
  status_step log _ node status r none e is (finished_now can same) = let one = can.marked in
      let row = ap (λ x. x.status) (same_inner ((state_of pairs words log).pieces node) can.row r
      can.published e) in
      absurd (omega arith)

  open_step : (log : Log) (event : Event) → EachEnabled (start pairs words) (event ∷ log)
      → advance_by event ≡ 0 → (node : ℕ) → IsOpen (state_of pairs words log) node
      → IsOpen (state_of pairs words (event ∷ log)) node
  open_step log event h none node (anchor_is a) = anchor_is a
  open_step log event h none node (row_is r e is) =
      let there = inner_there (state_of pairs words log).pieces
      (state_of pairs words (event ∷ log)).pieces (grow_after pairs words log event h) node r e in
      row_is there.0 there.1
      (status_step log event node there.0.status r none e is
      (status_comes pairs words log event h node there.0 there.1))

  -- ---- from a log to a longer one

  -- while progress stays the same, a slot that is set holds its word
  pub slots_stand : (earlier log : Log) → EachEnabled (start pairs words) log → GoesOn earlier log
      → progress log ≤ progress earlier → (node i word : ℕ) → word ≢ unset_word
      → SlotHolds (state_of pairs words earlier) node i word
      → SlotHolds (state_of pairs words log) node i word
  slots_stand earlier _ h same_log few node i word set here = here
  slots_stand earlier _ h (one_event {log = log} event g) few node i word set here =
      let least = never_falls earlier log g in let none : advance_by event ≡ 0 = omega arith in
      let fewer : progress log ≤ progress earlier = omega arith in
      slot_step log event h none node i word set
      (slots_stand earlier log h.0 g fewer node i word set here)

  -- while progress stays the same, an open node stays open
  pub open_stands : (earlier log : Log) → EachEnabled (start pairs words) log → GoesOn earlier log
      → progress log ≤ progress earlier → (node : ℕ) → IsOpen (state_of pairs words earlier) node
      → IsOpen (state_of pairs words log) node
  open_stands earlier _ h same_log few node is = is
  open_stands earlier _ h (one_event {log = log} event g) few node is =
      let least = never_falls earlier log g in let none : advance_by event ≡ 0 = omega arith in
      let fewer : progress log ≤ progress earlier = omega arith in
      open_step log event h none node (open_stands earlier log h.0 g fewer node is)

  -- ---- a row in a slot of an open node

  module _ (log : Log) (h : EachEnabled (start pairs words) log) (node i word child : ℕ)
      (linked : Linked (state_of pairs words log) node) (is : IsOpen (state_of pairs words log) node)
      (here : SlotHolds (state_of pairs words log) node i word)
      (names_it : ref_of word ≡ Some (InnerAt child)) where
    abbrev t : Snapshot
    t = state_of pairs words log

    child_is : IsChild t node i child
    child_is = record { word = word; holds = here; reads = ap (λ ref. past_rebuild t.pieces (past_change t.pieces ref)) names_it }

    named : Mentions t node i (InnerAt child)
    named = child_mentioned t node i child (names pairs words opens log h) child_is

    unread : (rebuild other : ℕ) → SlotHolds t node i other
        → past_change t.pieces (ref_of other) ≡ Some (RebuildAt rebuild) → ⊥
    unread rebuild other there reads = grind (arith, slot_once, anchor_free, inner_no_rebuild)

    uncalled : IsCalled t log child → ⊥
    uncalled (as_target rebuild target started) =
        let here_too = subst (λ m. Mentions t target.row.parent target.row.index (InnerAt m)) target.target_is (target_named pairs words opens log rebuild target.row target.published) in
        let home = (one_home pairs words opens log h).one node i target.row.parent target.row.index child named here_too in
        ⊎_elim
        (λ k. replaced_unlinked pairs words opens log h k.base k.change k.published k.decision rebuild target.row k.from target.published (subst (λ m. Linked t m) (sym target.target_is) (below i linked child_is)))
        (λ k. unread rebuild k.word (subst (λ n. SlotHolds t n i k.word) (sym home.0) (subst (λ j. SlotHolds t target.row.parent j k.word) (sym home.1) k.holds)) k.reads)
        (started_reads pairs words opens log h rebuild target.row target.published started)
    uncalled (as_child above j w p leads) =
        passed_closed pairs words opens log h node i child above j w named p (ap (past_rebuild t.pieces) leads) is
    uncalled (after_rebuild above j w rebuild p leads target) =
        passed_closed pairs words opens log h node i child above j w named p
        (ap (past_rebuild t.pieces) leads ∙ ap rebuild_reads target.published ∙ ap (λ n. Some (InnerAt n)) target.target_is) is

    -- the row that the slot names is open
    pub child_open : IsOpen t child
    child_open =
        let it : SlotNames t.pieces node i (Some (InnerAt child)) =
        subst (SlotNames t.pieces node i) names_it
        (slot_names t node i word (names pairs words opens log h) here) in
        ⊎_elim (λ k. row_is it.1.0 it.1.1 k.1)
        (λ k. absurd (uncalled (closed_is_called pairs words log h child it.1.0 it.1.1 k.1)))
        (eqb_tells it.1.0.status open_word)
