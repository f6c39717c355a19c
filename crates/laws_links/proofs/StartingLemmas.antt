-- Which changes name a rebuild: one start and its finishes, all of one slot. Serves the replacement law.
use Rattle.std.proofs.Common.{List, None, Some, ap, arith, inl, inr, subst, sym, ℕ, ◌∙◌, ◌∷◌, ◌≡◌, ◌⊎◌, ◌<◌}
use Rattle.ist_core.specs.declared.events.Event.{Event}
use Rattle.ist_core.specs.declared.events.Event.TheVariants.{Decide, Install}
use Rattle.ist_core.specs.declared.lists.Row.{Row}
use Rattle.ist_core.specs.declared.pairs.Pair.{Pair}
use Rattle.ist_core.specs.declared.states.ChangeRow.{ChangeRow}
use Rattle.ist_core.specs.TreeTerms.{CanInstall, FitsKind, IsStarted}
use Rattle.ist_core.specs.LogTerms.{CanOpen, EachEnabled, state_of, Log, HoldsRows, Snapshot}
use Rattle.ist_core.specs.WordTerms.{Change, Rebuild, row_at, ChangeAt, RebuildAt, Ref, ref_of, word_of, SlotHolds, start, decided_yes, start_kind, undecided}
use Rattle.ist_core.proofs.AllEventLemmas.{HeldLieApart, holds_installed}
use Rattle.ist_core.proofs.AllPlaceLemmas.{IsRebuildFor, RootNames, SideNames, WordsName, names, anchor_free, slot_once}
use Rattle.laws_links.proofs.ChangeLemmas.{undecided_stands}
use Rattle.laws_links.proofs.ComesLemmas.{change_comes}
use Rattle.laws_links.proofs.FormLemmas.{IsFinish, IsFormed, of_finish, of_leaf_put, of_pair_put, of_remove, of_start}
use Rattle.laws_links.proofs.InductionLemmas.{changes_by, sound_after}
use Rattle.laws_links.proofs.PassLemmas.{ChangeComes, change_was, is_decided, is_installed}
use Rattle.laws_links.proofs.ReadEventLemmas.{change_past}
use Rattle.laws_links.proofs.ReadLemmas.{ReadsAs, side_undecided}
use Rattle.ist_core.proofs.AllWordLemmas.{no_value, same_rebuild, same_change}
use Rattle.ist_core.proofs.AllLogLemmas.{same_change_word, said_something, known_step}
use Rattle.ist_core.specs.Installing as kinds

-- ---- changes that name a rebuild

-- a change that takes a rebuild out is a finish of it
pub record IsFinishOfRebuild (t : Snapshot) (x : ChangeRow) (rebuild : ℕ) : Type 0 where
  pub form : IsFinish t x
  pub same : form.rebuild ≡ rebuild

-- a change whose `from` is a rebuild is the rebuild's finish
pub finish_of : (t : Snapshot) (x : ChangeRow) (rebuild : ℕ) → IsFormed t x
    → ref_of x.from ≡ Some (RebuildAt rebuild) → IsFinishOfRebuild t x rebuild
finish_of t x rebuild (of_leaf_put f) e = grind arith
finish_of t x rebuild (of_pair_put f) e = absurd (cc (sym f.from ∙ e))
finish_of t x rebuild (of_remove f) e = absurd (cc (sym f.from ∙ e))
finish_of t x rebuild (of_start f) e = absurd (cc (sym f.from ∙ e))
finish_of t x rebuild (of_finish f) e = record { form = f; same = one (sym f.from ∙ e) }
  where
    one : Some (RebuildAt f.rebuild) ≡ Some (RebuildAt rebuild) → f.rebuild ≡ rebuild
    one q = cc

-- a rebuild that a change of a slot names is one for this slot
pub side_rebuild : (t : Snapshot) → WordsName t → (base : ℕ) (x : ChangeRow)
    → t.pieces base ≡ Some (Change x) → (rebuild : ℕ) → (ref_of x.from ≡ Some (RebuildAt rebuild))
    ⊎ (ref_of x.to ≡ Some (RebuildAt rebuild)) → IsRebuildFor t.pieces x.node x.index rebuild
side_rebuild t o base x e rebuild (inl from) =
    subst (λ r. SideNames t.pieces x.node x.index r) from (o.rows base (Change x) e).0
side_rebuild t o base x e rebuild (inr to) =
    subst (λ r. SideNames t.pieces x.node x.index r) to (o.rows base (Change x) e).1

module _ (pairs : List Pair) (words : ℕ) (opens : CanOpen pairs words) where
  -- an undecided change reads as what it takes out
  pub undecided_reads : (log : Log) → EachEnabled (start pairs words) log
      → (base : ℕ) (x : ChangeRow)
      → (state_of pairs words log).pieces base ≡ Some (Change x) → x.decision ≡ undecided
      → (ref : Ref)
      → ref_of x.from ≡ Some ref → ReadsAs (state_of pairs words log) x.node x.index ref
  undecided_reads log h base x e none ref is = record {
    word = word_of (ChangeAt base);
    holds = undecided_stands pairs words opens log h base x e none;
    reads = change_past pairs words opens log h base x e ∙ ap ref_of (side_undecided x none) ∙ is;
  }

  -- ---- one start

  -- the rebuild of a start that is installed is new
  pub start_new : (log : Log) (caller base : ℕ) (rows : List Row)
      → EachEnabled (start pairs words) (Install caller base rows ∷ log)
      → (can : CanInstall (start pairs words) log caller base rows) → (rebuild : ℕ)
      → ref_of can.change.to ≡ Some (RebuildAt rebuild)
      → (state_of pairs words log).pieces rebuild ≡ None
  start_new log caller base rows h can rebuild to = at can.fits
    where
      s : HeldLieApart (state_of pairs words log)
      s = sound_after pairs words log h.0

      at : FitsKind (start pairs words) log can.change can.fresh
          → (state_of pairs words log).pieces rebuild ≡ None
      at (kinds.a_put f) = absurd (cc (sym f.to ∙ to))
      at (kinds.a_pair f) = absurd (cc (sym f.to ∙ to))
      at (kinds.a_remove f) = absurd (cc (sym f.to ∙ to))
      at (kinds.a_start f) =
          let held = subst (λ xs. HoldsRows (state_of pairs words log) caller (row_at base (Change can.change) ∷ xs)) f.fresh_are (holds_installed (start pairs words) log caller base rows can) in
          subst (λ b. (state_of pairs words log).pieces b ≡ None) (cc (sym f.to ∙ to))
          (s.unpublished record { caller = caller; base = f.rebuild; size = 5 } held.1.0)
      at (kinds.a_finish f) =
          let row = (names pairs words opens log h.0).rows f.rebuild (Rebuild f.row) f.published in
          absurd
          (subst (λ o. RootNames (state_of pairs words log).pieces f.row.target o) (ap ref_of (sym f.to) ∙ to) row.2)

  -- while a start is undecided its rebuild isn't started
  pub undecided_unstarted : (log : Log) → EachEnabled (start pairs words) log
      → (base : ℕ) (x : ChangeRow)
      → (state_of pairs words log).pieces base ≡ Some (Change x) → x.decision ≡ undecided
      → (rebuild : ℕ)
      → ref_of x.to ≡ Some (RebuildAt rebuild) → ¬ (IsStarted (state_of pairs words log) rebuild)
  undecided_unstarted = changes_by pairs words
      (λ log base x. x.decision ≡ undecided → (rebuild : ℕ) → ref_of x.to ≡ Some (RebuildAt rebuild) → ¬ (IsStarted (state_of pairs words log) rebuild))
      (λ log event h base x old there before none rebuild to s.
      kept log s.base s.change event h base x old there none rebuild to (before none rebuild to) s.kind s.decision s.to s.published (change_comes pairs words log event h s.base s.change s.published))
      (λ log caller base rows h can none rebuild to s.
      fresh log caller base rows h can rebuild to s (Install caller base rows) (change_comes pairs words log (Install caller base rows) h s.base s.change s.published))
      (λ log caller base said h can before none. absurd (said_something said none))
    where
      -- a start that is being installed isn't decided
      fresh : (log : Log) (caller base : ℕ) (rows : List Row)
          → EachEnabled (start pairs words) (Install caller base rows ∷ log)
          → (can : CanInstall (start pairs words) log caller base rows) → (rebuild : ℕ)
          → ref_of can.change.to ≡ Some (RebuildAt rebuild)
          → (s : IsStarted (state_of pairs words (Install caller base rows ∷ log)) rebuild)
          → (event : Event) → ChangeComes (start pairs words) log s.base s.change event → ⊥
      fresh log caller base rows h can rebuild to s event (change_was old) =
          let it = side_rebuild (state_of pairs words log) (names pairs words opens log h.0) s.base s.change old rebuild (inr s.to) in
          no_value ((state_of pairs words log).pieces rebuild) (Rebuild it.row)
          (start_new log caller base rows h can rebuild to) it.published
      fresh log caller base rows h can rebuild to s _ (is_installed other same) = grind arith
      fresh log caller base rows h can rebuild to s _ (is_decided other same) =
          let it = side_rebuild (state_of pairs words log) (names pairs words opens log h.0) s.base other.change other.pending.published rebuild (inr (ap (λ c. ref_of c.to) (sym same) ∙ s.to)) in
          no_value ((state_of pairs words log).pieces rebuild) (Rebuild it.row)
          (start_new log caller base rows h can rebuild to) it.published

      -- two undecided starts of one rebuild are one
      kept : (log : Log) (at : ℕ) (c : ChangeRow) (event : Event)
          → EachEnabled (start pairs words) (event ∷ log) → (base : ℕ) (x : ChangeRow)
          → (state_of pairs words log).pieces base ≡ Some (Change x)
          → (state_of pairs words (event ∷ log)).pieces base ≡ Some (Change x)
          → x.decision ≡ undecided → (rebuild : ℕ) → ref_of x.to ≡ Some (RebuildAt rebuild)
          → ¬ (IsStarted (state_of pairs words log) rebuild)
          → c.kind ≡ start_kind → c.decision ≡ decided_yes → ref_of c.to ≡ Some (RebuildAt rebuild)
          → (state_of pairs words (event ∷ log)).pieces at ≡ Some (Change c)
          → ChangeComes (start pairs words) log at c event → ⊥
      kept log at c event h base x old there none rebuild to before kind is also_to now
          (change_was was) =
          before
          record { base = at; change = c; published = was; kind = kind; decision = is; to = also_to }
      kept log at c _ h base x old there none rebuild to before kind is also_to now
          (is_installed other same) =
          let unset = other.unset in let also = ap (λ y. y.decision) same in omega arith
      kept log at c _ h base x old there none rebuild to before kind is also_to now
          (is_decided {caller = caller} {said = said} other same) =
          let t = state_of pairs words log in let o = names pairs words opens log h.0 in
          let mine = side_rebuild t o base x old rebuild (inr to) in
          let its = side_rebuild t o at other.change other.pending.published rebuild (inr (ap (λ y. ref_of y.to) (sym same) ∙ also_to)) in
          let row = same_rebuild (t.pieces rebuild) mine.row its.row mine.published its.published in
          let node : other.change.node ≡ x.node =
          sym its.parent ∙ ap (λ r. r.parent) (sym row) ∙ mine.parent in
          let i : other.change.index ≡ x.index =
          sym its.index ∙ ap (λ r. r.index) (sym row) ∙ mine.index in
          let here = undecided_stands pairs words opens log h.0 base x old none in
          let also = undecided_stands pairs words opens log h.0 at other.change other.pending.published other.pending.unset in
          let slot = subst (λ n. SlotHolds t n x.index (word_of (ChangeAt at))) node (subst (λ j. SlotHolds t other.change.node j (word_of (ChangeAt at))) i also) in
          let one = same_change_word base at (slot_once t x.node x.index (word_of (ChangeAt base)) (word_of (ChangeAt at)) (anchor_free pairs words log h.0) here slot) in
          let u = state_of pairs words (Decide caller at said ∷ log) in
          let both = ap (λ y. y.decision) (same_change (u.pieces at) x c (subst (λ b. u.pieces b ≡ Some (Change x)) one there) now) in
          omega arith

-- ---- the owner of each change is a caller that entered. Serves each law about all callers.

module _ (pairs : List Pair) (words : ℕ) where
  -- the owner of each change is known
  pub owner_known : (log : Log) → EachEnabled (start pairs words) log → (base : ℕ) (x : ChangeRow)
      → (state_of pairs words log).pieces base ≡ Some (Change x)
      → x.owner < (state_of pairs words log).callers
  owner_known = changes_by pairs words (λ log base x. x.owner < (state_of pairs words log).callers)
      (λ log event h base x old there before. known_step (start pairs words) log event x.owner
      before)
      (λ log caller base rows h can.
      known_step (start pairs words) log (Install caller base rows) can.change.owner
      (subst (λ c. c < (state_of pairs words log).callers) (sym can.owned) can.known))
      (λ log caller base said h can before.
      known_step (start pairs words) log (Decide caller base said) can.change.owner before)
