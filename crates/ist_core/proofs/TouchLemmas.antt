-- Which word each event finds at its place. Serves the image law.
use Rattle.std.proofs.Common.{◌≡◌, ◌≢◌, ℕ, ◌+◌, List, slice_get, Some, None, refl, sym, ap, ◌∙◌, subst, arith, zero, suc, [], ◌∷◌, slice_set, Option}
use Rattle.std.proofs.lemmas.Bool.Decides.{nat_tests}
use Rattle.ist_core.specs.Types.{Pair, Event, Enter, Reserve, Install, Okay, Decide, Resolve, Count, Mark, Pass, Finish, Root, Draw, Place, Lose}
use Rattle.ist_core.specs.WordTerms.{anchor, unset_word, open_word, Inner, Change, Rebuild, as_inner, as_change, as_rebuild, IsImage, start, SlotHolds, in_row, IsOpen, anchor_is, row_is, ChangeAt, word_of, marked_word, finished_word, Pieces, Piece, with_inners, changed_at, with_slot, with_status, with_decision}
use Rattle.ist_core.specs.LogTerms.{Snapshot, Log, Enabled, EachEnabled, CanOpen, state_of, after, decision_word}
use Rattle.ist_core.specs.ImageLaws.{IsNoLose, Touches}
use Rattle.ist_core.specs.TreeTerms.{touch_of, touch_of_okay, touch_of_resolve, touch_of_count, touch_of_draw, touch_of_place, touch_in_root, place_of_slot, place_of_status, Touch, touched, published_by, RowsStand}
use Rattle.ist_core.proofs.PlaceLemmas.{anchor_free}
use Rattle.ist_core.proofs.RoomLemmas.{no_row}
use Rattle.ist_core.proofs.ShapedLemmas.{shaped}
use Rattle.ist_core.proofs.ImageLemmas.{slot_found}
use Rattle.ist_core.proofs.KeyLemmas.{on_chain_inner}
use Rattle.ist_core.proofs.SoundLemmas.{sound}
use Rattle.ist_core.proofs.StepLemmas.{sound_start, rows_placed}
use Rattle.ist_core.proofs.InstallLemmas.{with_installed}
use Rattle.ist_core.proofs.ImageEventLemmas.{image_same, image_enter, image_reserve, image_word, image_count, image_draw, SlotsReady, image_resolve, image_place, image_root, image_install}
use Rattle.ist_core.proofs.HomeStepLemmas.{rows_apart}
use Rattle.ist_core.proofs.OptionLemmas.{same_value}

-- the status of an open node is at its place
status_found : (t : Snapshot) (words : List ℕ) (node : ℕ) → IsImage t words → t.pieces anchor ≡ None
    → IsOpen t node → slice_get words (place_of_status node) ≡ Some open_word
status_found t words node image free (anchor_is a) = grind arith
status_found t words node image free (row_is r p e) =
    ap (slice_get words) (place (λ a. no_row t.pieces node r free a p)) ∙ image.rows node (Inner r)
    p 0 (omega arith) ∙ ap (λ x. Some x) e
  where
    place : node ≢ anchor → place_of_status node ≡ node + 0
    place out = grind (arith, nat_tests)

module _ (pairs : List Pair) (words : ℕ) (opens : CanOpen pairs words) (log : Log)
    (enabled : EachEnabled (start pairs words) log) (ws : List ℕ)
    (image : IsImage (state_of pairs words log) ws) where
  -- the word of a slot is at its place
  pub slot_there : (node i word : ℕ) → SlotHolds (state_of pairs words log) node i word
      → slice_get ws (place_of_slot (state_of pairs words log) node i) ≡ Some word
  slot_there node i word slot = slot_found (state_of pairs words log) ws node i word image
      (anchor_free pairs words log enabled)
      (λ base r e. shaped pairs words log enabled base (Inner r) e) slot

  -- each event but a Lose finds its word
  pub touches : (event : Event) → Enabled (start pairs words) log event → IsNoLose event
      → Touches (state_of pairs words log) event ws
  touches (Enter caller) h k = record { touch = _; is = refl; found = image.callers }
  touches (Reserve caller base size) h k = record
      { touch = _; is = refl; found = image.next ∙ ap (λ x. Some x) (sym h.base_is) }
  touches (Install caller base rows) h k = record {
    touch = _;
    is = ap (λ xs. touch_of (state_of pairs words log) (Install caller base xs)) h.rows_are;
    found = slot_there h.change.node h.change.index h.change.from h.in_slot;
  }
  touches (Okay caller base) h k = record {
    touch = _;
    is = ap (λ o. touch_of_okay (as_change o)) h.pending.published;
    found = status_found (state_of pairs words log) ws h.change.node image
        (anchor_free pairs words log enabled) h.node_open;
  }
  touches (Decide caller base said) h k = record {
    touch = _;
    is = refl;
    found = image.rows base (Change h.change) h.pending.published 0
        (omega arith) ∙ ap (λ x. Some x) h.pending.unset;
  }
  touches (Resolve caller base) h k = record {
    touch = _;
    is = ap (λ o. touch_of_resolve (state_of pairs words log) base (as_change o)) h.published;
    found = slot_there h.change.node h.change.index _ h.in_slot;
  }
  touches (Count caller node) h k =
      let it = on_chain_inner pairs words opens log enabled h.update.change.node node h.on_chain in
      record {
        touch = _;
        is = ap (λ o. touch_of_count node (as_inner o)) it.1;
        found = image.rows node (Inner it.0) it.1 1 (omega arith);
      }
  touches (Mark caller node) h k = record {
    touch = _;
    is = refl;
    found = image.rows node (Inner h.row) h.published 0 (omega arith) ∙ ap (λ x. Some x) h.row_open;
  }
  touches (Pass caller node i word) h k = record
      { touch = _; is = refl; found = slot_there node i word (in_row h.row h.published h.in_slot) }
  touches (Finish caller node keys) h k = record {
    touch = _;
    is = refl;
    found = image.rows node (Inner h.row) h.published 0 (omega arith) ∙ ap (λ x. Some x) h.marked;
  }
  touches (Root caller rebuild word rows) h k = record {
    touch = _;
    is = refl;
    found = image.rows rebuild (Rebuild h.row) h.published 3 (omega arith)
        ∙ ap (λ x. Some x) h.rootless;
  }
  touches (Draw caller rebuild part) h k = record {
    touch = _;
    is = ap (λ o. touch_of_draw rebuild (as_rebuild o)) h.published;
    found = image.rows rebuild (Rebuild h.row) h.published 4 (omega arith);
  }
  touches (Place caller rebuild i word rows) h k = record {
    touch = _;
    is = ap (λ o. touch_of_place (state_of pairs words log) o i word)
        (ap as_rebuild h.published) ∙ ap
        (λ o. touch_in_root (state_of pairs words log) o i word) h.root_is;
    found = slot_there h.root i unset_word (in_row h.root_row h.root_published h.free);
  }
  touches (Lose caller bases) h k = absurd k

-- ---- each event writes one word of the image, or none. Serves `laws.one_word_is_written`.

-- ---- all events

-- a word that is set to what it is
set_same : (xs : List ℕ) (i word : ℕ) → slice_get xs i ≡ Some word → slice_set xs i word ≡ xs
set_same [] i word e = absurd (cc)
set_same (x ∷ xs) zero word e = let same : x ≡ word = cc in ap (λ y. y ∷ xs) (sym same)
set_same (x ∷ xs) (suc i) word e = ap (λ ys. x ∷ ys) (set_same xs i word e)

-- a touch that leaves what it finds
left_found : (o : Option Touch) (v w : Touch) → o ≡ Some v → o ≡ Some w → v.left ≡ v.found
    → w.left ≡ w.found
left_found o v w e f same = subst (λ x. x.left ≡ x.found) (same_value o v w e f) same

module _ (pairs : List Pair) (words : ℕ) (opens : CanOpen pairs words) where
  -- slots may be written after a log from a new table
  pub slots_ready : (log : Log) → EachEnabled (start pairs words) log
      → SlotsReady (state_of pairs words log)
  slots_ready log h = record {
    free = anchor_free pairs words log h;
    shaped = λ base r e. shaped pairs words log h base (Inner r) e;
    sound = sound (start pairs words) log (sound_start pairs words) h;
  }

  -- no row is published at the anchor
  free_published : (log : Log) (event : Event) → EachEnabled (start pairs words) (event ∷ log)
      → (qs : Pieces) (at : ℕ) (f : Piece → Piece)
      → (state_of pairs words (event ∷ log)).pieces ≡ changed_at qs at f → qs anchor ≡ None
  free_published log event h qs at f pieces = none (qs anchor) refl
      (anchor_free pairs words (event ∷ log) h)
    where
      none : (o : Option Piece) → qs anchor ≡ o
          → (state_of pairs words (event ∷ log)).pieces anchor ≡ None → qs anchor ≡ None
      none None e free = e
      none (Some p) e free = grind arith

  -- a step that leaves what it finds changes no word
  image_loaded : (log : Log) (event : Event) → EachEnabled (start pairs words) (event ∷ log)
      → (ws : List ℕ) → IsImage (state_of pairs words log) ws
      → (it : Touches (state_of pairs words log) event ws) → it.touch.left ≡ it.touch.found
      → state_of pairs words (event ∷ log) ≡ state_of pairs words log
      → IsImage (state_of pairs words (event ∷ log))
      (touched ws (touch_of (state_of pairs words log) event))
  image_loaded log event h ws image it same still = grind (arith, set_same)

  -- each event writes its one word, or none
  pub image_step : (log : Log) (event : Event) → EachEnabled (start pairs words) (event ∷ log)
      → (ws : List ℕ) → IsImage (state_of pairs words log) ws → RowsStand ws (published_by event)
      → IsImage (state_of pairs words (event ∷ log))
      (touched ws (touch_of (state_of pairs words log) event))
  image_step log (Enter caller) h ws image stand = image_enter (state_of pairs words log) caller ws
      (rows_apart pairs words log h.0) image
  image_step log (Reserve caller base size) h ws image stand = image_reserve
      (state_of pairs words log) caller base size ws h.1.base_is (rows_apart pairs words log h.0)
      image
  image_step log (Install caller base rows) h ws image stand =
      image_install (start pairs words) log caller base rows ws h.1 (slots_ready log h.0)
      (rows_apart pairs words (Install caller base rows ∷ log) h)
      (free_published log (Install caller base rows) h
      (with_installed (state_of pairs words log).pieces base h.1.change h.1.fresh)
      h.1.change.node (with_slot h.1.change.index (word_of (ChangeAt base)))
      (ap (λ xs. (after (state_of pairs words log) (Install caller base xs)).pieces) h.1.rows_are))
      stand image
  image_step log (Okay caller base) h ws image stand =
      let it = touches pairs words opens log h.0 ws image (Okay caller base) h.1 tt in
      image_loaded log (Okay caller base) h ws image it
      (left_found (touch_of (state_of pairs words log) (Okay caller base)) _ it.touch
      (ap (λ o. touch_of_okay (as_change o)) h.1.pending.published) it.is refl) refl
  image_step log (Decide caller base said) h ws image stand =
      image_word (state_of pairs words log) (state_of pairs words (Decide caller base said ∷ log))
      ws base 0 (decision_word said) (Change h.1.change) (with_decision (decision_word said))
      (rows_apart pairs words (Decide caller base said ∷ log) h) refl refl refl refl refl
      h.1.pending.published (omega arith) refl image
  image_step log (Resolve caller base) h ws image stand = image_resolve (state_of pairs words log)
      caller base ws h.1 (slots_ready log h.0)
      (rows_apart pairs words (Resolve caller base ∷ log) h) image
  image_step log (Count caller node) h ws image stand =
      let it = on_chain_inner pairs words opens log h.0 h.1.update.change.node node h.1.on_chain in
      image_count (state_of pairs words log) caller node ws it.0 it.1
      (rows_apart pairs words (Count caller node ∷ log) h) image
  image_step log (Mark caller node) h ws image stand =
      image_word (state_of pairs words log) (state_of pairs words (Mark caller node ∷ log)) ws node
      0 marked_word (Inner h.1.row) (with_status marked_word)
      (rows_apart pairs words (Mark caller node ∷ log) h) refl refl refl refl refl h.1.published
      (omega arith) refl image
  image_step log (Pass caller node i word) h ws image stand =
      let it = touches pairs words opens log h.0 ws image (Pass caller node i word) h.1 tt in
      image_loaded log (Pass caller node i word) h ws image it
      (left_found (touch_of (state_of pairs words log) (Pass caller node i word)) _ it.touch refl
      it.is refl) refl
  image_step log (Finish caller node keys) h ws image stand =
      image_word (state_of pairs words log) (state_of pairs words (Finish caller node keys ∷ log))
      ws node 0 (finished_word keys) (Inner h.1.row) (with_status (finished_word keys))
      (rows_apart pairs words (Finish caller node keys ∷ log) h) refl refl refl refl refl
      h.1.published (omega arith) refl image
  image_step log (Root caller rebuild word rows) h ws image stand =
      image_root (state_of pairs words log) caller rebuild word rows ws h.1 (slots_ready log h.0)
      (rows_apart pairs words (Root caller rebuild word rows ∷ log) h) stand image
  image_step log (Draw caller rebuild part) h ws image stand =
      image_draw (state_of pairs words log) caller rebuild part ws h.1.row h.1.published
      (rows_apart pairs words (Draw caller rebuild part ∷ log) h) image
  image_step log (Place caller rebuild i word rows) h ws image stand =
      image_place (state_of pairs words log) caller rebuild i word rows ws h.1 (slots_ready log h.0)
      (rows_apart pairs words (Place caller rebuild i word rows ∷ log) h)
      (free_published log (Place caller rebuild i word rows) h
      (with_inners (state_of pairs words log).pieces rows) h.1.root (with_slot i word)
      (rows_placed (state_of pairs words log) caller rebuild i word rows h.1)) stand image
  image_step log (Lose caller bases) h ws image stand = grind (arith, image_same)
