-- A put or remove reached its slot by its key. Serves the changes law.
use Rattle.std.proofs.Common.{◌≡◌, ℕ, List, ◌∷◌, arith, Some, false, [], refl, inl, inr}
use Rattle.ist_core.specs.declared.pairs.Pair.{Pair}
use Rattle.ist_core.specs.declared.lists.Row.{Row}
use Rattle.ist_core.specs.declared.states.ChangeRow.{ChangeRow}
use Rattle.ist_core.specs.declared.events.Event.{Event}
use Rattle.ist_core.specs.declared.events.Event.TheVariants.{Install, Decide, Mark}
use Rattle.ist_core.specs.declared.states.InnerRow.{InnerRow}
use Rattle.ist_core.specs.LogTerms.{Snapshot, Log, GoesOn, one_event, EachEnabled, state_of, state, Lawful}
use Rattle.ist_core.specs.WordTerms.{start, IsChildFor, Change, degree, square_root, root_up_to, part_len, part_lens, ideal_words, ideal_words_within, ref_of, put_kind, with_status, rows_within, IsOpen, anchor_is, row_is, in_anchor, in_row, of_anchor, of_row}
use Rattle.ist_core.specs.TreeTerms.{Leads, IsUpdate, FitsKind, a_put, a_pair, a_remove, a_start, a_finish, ComesByKey, IsChild, at_anchor, below, from_anchor, down, leaf_here, row_here, no_slot, one_slot, HasContents, IsStarted, CanInstall, same_key, CanDecide, CanResolve, CanMark, as_target, changes_of}
use Rattle.ist_core.proofs.AllLogLemmas.{ever_from, child_remains, grow_after, NotRefused, NoneDecidedNo, none_refused-changed_at, status_keeps}
use Rattle.laws_links.proofs.InductionLemmas.{changes_by}
use Rattle.ist_core.specs.ExampleLogs.{start_pairs, late_reserved, late_rows, rebuild_replaced}
use Rattle.ist_core.proofs.StartExampleLemmas.{two}
use Rattle.ist_core.proofs.RebuildExampleLemmas.{the_start, the_rebuild, low, high, both}
use Rattle.ist_core.proofs.FinishExampleLemmas.{none_refused_started}
use Rattle.ist_core.proofs.LateExampleLemmas.{late_is_lawful}
use Rattle.laws_histories.specs.ExampleCalls.{refused_installed, refused}

-- after some prefix the key of the change led to its node, and its slot is the one for the key
pub record CameByKey (pairs : List Pair) (words : ℕ) (log : Log) (change : ChangeRow) : Type 0 where
  pub at : Log
  pub until : GoesOn at log
  pub led : Leads (state_of pairs words at) change.key change.node
  pub index_is : IsChildFor (state_of pairs words log) change.node change.key change.index

-- an update is installed by its key
installed_by_key : (first : Snapshot) (log : Log) (change : ChangeRow) (fresh : List Row)
    → FitsKind first log change fresh → IsUpdate change.kind → ComesByKey first log change
installed_by_key first log change fresh (a_put f) update = f.by_key
installed_by_key first log change fresh (a_pair f) update = f.by_key
installed_by_key first log change fresh (a_remove f) update = f.by_key
installed_by_key first log change fresh (a_start f) update = grind arith
installed_by_key first log change fresh (a_finish f) update = grind arith

module _ (pairs : List Pair) (words : ℕ) where
  -- that stays true after an event
  came_on : (log : Log) (event : Event) → EachEnabled (start pairs words) (event ∷ log)
      → (x : ChangeRow) → CameByKey pairs words log x → CameByKey pairs words (event ∷ log) x
  came_on log event h x c = record {
    at = c.at;
    until = one_event event c.until;
    led = c.led;
    index_is = child_remains (state_of pairs words log) (state_of pairs words (event ∷ log))
        (grow_after pairs words log event h) x.node x.key x.index c.index_is;
  }

  -- each published put or remove reached its slot by its key
  pub came : (log : Log) → EachEnabled (start pairs words) log → (base : ℕ) (x : ChangeRow)
      → (state_of pairs words log).pieces base ≡ Some (Change x) → IsUpdate x.kind
      → CameByKey pairs words log x
  came = changes_by pairs words (λ log base x. IsUpdate x.kind → CameByKey pairs words log x)
      (λ log event h base x old there before update. came_on log event h x (before update))
      (λ log caller base rows h can update.
      (let by_key = installed_by_key (start pairs words) log can.change can.fresh can.fits update in
      let led =
      ever_from (start pairs words) (λ t. Leads t can.change.key can.change.node) log by_key.led in
      came_on log (Install caller base rows) h can.change record { at = led.0; until = led.1; led = led.2; index_is = by_key.index }))
      (λ log caller base said h can before update.
      (let c = came_on log (Decide caller base said) h can.change (before update) in record { at = c.at; until = c.until; led = c.led; index_is = c.index_is }))

-- ---- the log of a put that is refused is lawful, and changes nothing. Serves `examples`.

-- the put, with a decision
abbrev the_put : ℕ → ChangeRow
the_put decision =
    record { decision = decision; kind = put_kind; node = 4; index = 1; from = 105; to = 233; owner = 1; key = 20; value = 9 }

-- the target, with a status and the word in its second slot
abbrev target : ℕ → ℕ → InnerRow
target status word =
    record { status = status; count = 0; degree = 2; size = 2; keys = 20 ∷ []; slots = 89 ∷ word ∷ [] }

-- the log is enabled until its row is reserved
reserved : EachEnabled two late_reserved
reserved = late_is_lawful.enabled.0.0.0.0.0.0.0.0.0

-- the rebuild is started
is_started : IsStarted (state two late_reserved) 15
unfolding ref_of
is_started =
    record { base = 20; change = the_start 1; published = refl; kind = refl; decision = refl; to = refl }

-- so its target may be marked
marked : CanMark (state two late_reserved) late_reserved 0 4
unfolding rows_within degree square_root root_up_to part_len part_lens ideal_words ideal_words_within
marked = record {
  known = omega arith;
  row = target 0 105;
  published = refl;
  row_open = refl;
  called =
      as_target 15 record { row = the_rebuild 7; published = refl; target_is = refl } is_started;
}

-- the target hangs below the anchor, under the rebuild
target_hangs : IsChild (state two (Mark 0 4 ∷ late_reserved)) 2 0 4
unfolding ref_of
target_hangs = record { word = 124; holds = in_anchor refl refl refl; reads = refl }

-- no change was refused before
none_refused : NoneDecidedNo (state two (Mark 0 4 ∷ late_reserved)).pieces
none_refused = none_refused-changed_at _ 4 (with_status 1) (status_keeps 1) none_refused_started

-- the put is installed after the mark
installed : CanInstall two (Mark 0 4 ∷ late_reserved) 1 31 late_rows
unfolding NotRefused ref_of rows_within degree square_root root_up_to part_len part_lens ideal_words ideal_words_within
installed = record {
  known = omega arith;
  change = the_put 0;
  fresh = record { base = 29; words = 20 ∷ 9 ∷ [] } ∷ [];
  rows_are = refl;
  held = (inr (inl refl), (inl refl, tt));
  owned = refl;
  unset = refl;
  in_slot = in_row (target 1 105) refl refl;
  linked = inl (below 0 at_anchor target_hangs);
  unrefused = λ base earlier e _ _. none_refused base (Change earlier) e;
  fits = a_put record {
    kind = refl;
    by_key =
        record { led = inl (down 0 from_anchor (of_anchor refl refl) target_hangs); index = of_row (target 1 105) refl refl };
    from = same_key 13 refl record { row = high; published = refl; key_is = refl };
    leaf = 29;
    to = refl;
    fresh_are = refl;
  };
}

-- the target is marked, so only no is left
not_open : ¬ (IsOpen (state two refused_installed) 4)
unfolding rows_within degree square_root root_up_to part_len part_lens ideal_words ideal_words_within
not_open (anchor_is e) = omega arith
not_open (row_is r e s) = let one : ◌≡◌ {A = ℕ} 1 r.status = cc in omega arith

-- it is decided no, since its node is marked
decided : CanDecide (state two refused_installed) refused_installed 2 31 false
decided =
    record { known = omega arith; change = the_put 0; pending = record { published = refl; unset = refl }; outcome = not_open }

-- the change is resolved
resolved : CanResolve (state two (Decide 2 31 false ∷ refused_installed)) 0 31
unfolding rows_within degree square_root root_up_to part_len part_lens ideal_words ideal_words_within
resolved =
    record { known = omega arith; change = the_put 2; published = refl; decided = λ e. omega arith; in_slot = in_row (target 1 251) refl refl }

-- the log is lawful
pub refused_is_lawful : Lawful start_pairs 100 refused
refused_is_lawful = grind (arith, reserved, marked, installed, decided, resolved)

-- it changes nothing
pub refused_changes : changes_of start_pairs 100 refused ≡ []
unfolding ref_of rows_within degree square_root root_up_to part_len part_lens ideal_words ideal_words_within
refused_changes = refl

-- its contents are the same as at the start
pub refused_contents : HasContents (state two refused) start_pairs
unfolding ref_of rows_within degree square_root root_up_to part_len part_lens ideal_words ideal_words_within
refused_contents = record {
  leaves = both;
  reached = row_here (target 1 105) refl
      (one_slot (leaf_here low refl) (one_slot (leaf_here high refl) no_slot));
  pairs_are = refl;
}

-- a whole rebuild makes no change either
pub rebuild_changes : changes_of start_pairs 100 rebuild_replaced ≡ []
unfolding ref_of rows_within degree square_root root_up_to part_len part_lens ideal_words ideal_words_within
rebuild_changes = refl
