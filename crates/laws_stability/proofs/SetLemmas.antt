-- A slot that is set stays set: no event puts Unset into a slot. Serves the clause on Install.
use Rattle.std.proofs.Common.{Bool, List, false, if◌then◌else◌, subst, sym, true, ℕ, ⊎_elim, ◌*◌, ◌+◌, ◌==◌, ◌∷◌, ◌≡◌, ◌≢◌, ap, inr, ◌++◌, ◌<◌, arith}
use Rattle.ist_core.specs.declared.events.Event.{Event}
use Rattle.ist_core.specs.declared.events.Event.TheVariants.{Install, Place, Resolve, Lose, Reserve, Root}
use Rattle.ist_core.specs.declared.pairs.Pair.{Pair}
use Rattle.ist_core.specs.declared.states.ChangeRow.{ChangeRow}
use Rattle.ist_core.specs.declared.events.Who.TheVariants.{Caller, Maker}
use Rattle.ist_core.specs.LogTerms.{side_of, CanOpen, EachEnabled, state_of, GoesOn, Log, one_event, same_log, Snapshot, CanEnter, CanReserve, AreBuilds, IsBuilding, last_build, no_build, stuck_build, state, Later, whose, no_more, one_more}
use Rattle.ist_core.specs.WordTerms.{ChangeAt, unset_word, word_of, SlotHolds, start, decided_yes, pair_words}
use Rattle.ist_core.proofs.AllPlaceLemmas.{anchor_free, WritesSlot, WritesNoSlot, install_writes, place_writes, resolve_writes, slot_stays}
use Rattle.ist_core.proofs.AllLogLemmas.{change_set, room_set, set_by, grow_between, inner_there, rebuild_there, words_same, next_word, goes_on_by}
use Rattle.laws_links.proofs.FormLemmas.{IsFormed, of_finish, of_leaf_put, of_pair_put, of_remove, of_start, finished_with_grows, started_grows}
use Rattle.laws_links.proofs.FormedLemmas.{changes_are_formed}
use Rattle.laws_links.proofs.InductionLemmas.{sound_after}
use Rattle.ist_core.specs.TreeTerms.{CanLose, IsBeaten, LosesBuild, LosesPair, AllGrow, IsFinishedWith}
use Rattle.laws_stability.specs.Words.{FindsItsWord}
use Rattle.laws_stability.proofs.HoldingLemmas.{bases_later, holds_later, sizes_later, finds}
use Rattle.laws_stability.proofs.LaterLemmas.{callers_later, known_later}

-- neither side of a change is Unset
sides_set : (t : Snapshot) (change : ChangeRow) → IsFormed t change
    → (change.from ≢ unset_word) × (change.to ≢ unset_word)
sides_set t change (of_leaf_put h) = grind (arith, room_set, set_by)
sides_set t change (of_pair_put h) = grind (arith, set_by)
sides_set t change (of_remove h) = grind (arith, set_by)
sides_set t change (of_start h) = grind (arith, set_by)
sides_set t change (of_finish h) = grind (arith, set_by)

-- the side that a formed change leaves isn't Unset
side_set : (t : Snapshot) (change : ChangeRow) → IsFormed t change → side_of change ≢ unset_word
side_set t change formed = at (change.decision == decided_yes)
  where
    at : (v : Bool) → (if v then change.to else change.from) ≢ unset_word
    at true = (sides_set t change formed).1
    at false = (sides_set t change formed).0

-- the slot holds a word that isn't Unset
pub record IsSet (t : Snapshot) (node i : ℕ) : Type 0 where
  pub word : ℕ
  pub holds : SlotHolds t node i word
  pub set : word ≢ unset_word

-- a slot stays set when a slot is written with a word that isn't Unset
set_written : (t u : Snapshot) (node i at j new old : ℕ) → WritesSlot t u at j new old
    → new ≢ unset_word → IsSet t node i → IsSet u node i
set_written t u node i at j new old w set h = ⊎_elim
    (λ here. record {
      word = new;
      holds = subst (λ k. SlotHolds u node k new) (sym here.2)
          (subst (λ n. SlotHolds u n j new) (sym here.1) w.now);
      set = set;
    })
    (λ there. record { word = h.word; holds = there; set = h.set }) (w.others node i h.word h.holds)

-- a slot that is set stays set when an event takes Unset out of a slot
set_filled : (t u : Snapshot) (node i at j new : ℕ) → WritesSlot t u at j new unset_word
    → IsSet t node i → IsSet u node i
set_filled t u node i at j new w h = ⊎_elim (λ here. absurd (h.set here.0))
    (λ there. record { word = h.word; holds = there; set = h.set }) (w.others node i h.word h.holds)

module _ (pairs : List Pair) (words : ℕ) (opens : CanOpen pairs words) where
  quiet : (log : Log) (event : Event) → EachEnabled (start pairs words) (event ∷ log)
      → WritesNoSlot event → (node i : ℕ) → IsSet (state_of pairs words log) node i
      → IsSet (state_of pairs words (event ∷ log)) node i
  quiet log event h none node i s = record {
    word = s.word;
    holds = slot_stays (start pairs words) log event h.1
        (sound_after pairs words log h.0) none node i s.word s.holds;
    set = s.set;
  }

  -- an event leaves a slot set
  set_step : (log : Log) (event : Event) → EachEnabled (start pairs words) (event ∷ log)
      → (node i : ℕ) → IsSet (state_of pairs words log) node i
      → IsSet (state_of pairs words (event ∷ log)) node i
  set_step log (Install caller base rows) h node i s =
      set_written _ _ node i h.1.change.node h.1.change.index
      (word_of (ChangeAt base)) h.1.change.from
      (install_writes (start pairs words) log caller base rows h.1
      (sound_after pairs words log h.0) (anchor_free pairs words log h.0))
      (change_set base) s
  set_step log (Resolve caller base) h node i s =
      set_written _ _ node i h.1.change.node h.1.change.index (side_of h.1.change)
      (word_of (ChangeAt base))
      (resolve_writes (state_of pairs words log) caller base h.1 (anchor_free pairs words log h.0))
      (side_set (state_of pairs words log) h.1.change
      (changes_are_formed pairs words log h.0 base h.1.change h.1.published)) s
  set_step log (Place caller rebuild j word rows) h node i s = set_filled _ _ node i h.1.root j word
      (place_writes (state_of pairs words log) caller rebuild j word rows h.1
      (sound_after pairs words log h.0) (anchor_free pairs words log h.0)) s
  set_step log event h node i s = quiet log event h tt node i s

  -- a set slot stays set
  pub set_later : {earlier log : Log} → GoesOn earlier log → EachEnabled (start pairs words) log
      → (node i : ℕ) → IsSet (state_of pairs words earlier) node i
      → IsSet (state_of pairs words log) node i
  set_later same_log h node i s = s
  set_later (one_event {log = log} event g) h node i s =
      set_step log event h node i (set_later g h.0 node i s)

-- ---- enters, Reserves and Loses stay enabled under events of others. Serves their clauses.

-- a building list stays one
building_later : (t u : Snapshot) → AllGrow t.pieces u.pieces → (sizes : List ℕ)
    → IsBuilding t sizes → IsBuilding u sizes
building_later t u g sizes b =
    let it = rebuild_there t.pieces u.pieces g b.rebuild b.row b.published in record {
      rebuild = b.rebuild;
      row = it.0;
      published = it.1;
      started = started_grows t u g b.rebuild b.started;
      k = b.k;
      finished = subst (λ n. IsFinishedWith u n b.k) (sym it.2.target)
          (finished_with_grows t u g b.row.target b.k b.finished);
      build = b.build;
    }

-- builds stay builds if the number of free words stays: a stuck one stays stuck
builds_later : (t u : Snapshot) → AllGrow t.pieces u.pieces → u.words ≡ t.words → u.next ≡ t.next
    → (sizes : List ℕ) → AreBuilds t sizes → AreBuilds u sizes
builds_later t u g same next _ no_build = no_build
builds_later t u g same next _ (last_build {sizes = sizes} rest b) =
    last_build rest (building_later t u g (sizes ++ rest) b)
builds_later t u g same next _ (stuck_build {sizes = sizes} {more = more} stuck others) =
    let full = stuck.no_room in stuck_build
    record {
      next_size = stuck.next_size;
      rest = stuck.rest;
      building = building_later t u g (sizes ++ stuck.next_size ∷ stuck.rest) stuck.building;
      no_room = subst (λ n. u.words < n + stuck.next_size) (sym next)
          (subst (λ n. n < t.next + stuck.next_size) (sym same) full);
    }
    (builds_later t u g same next more others)

-- another's event leaves a build beaten
beaten_step : (caller : ℕ) (sizes : List ℕ) (event : Event) (log : Log) → whose event ≢ Caller caller
    → IsBeaten caller sizes log → IsBeaten caller sizes (event ∷ log)
beaten_step caller sizes (Root c rebuild word rows) log other b = ((λ e. other (ap Caller e)), inr b)
beaten_step caller sizes (Place c rebuild i word rows) log other b = grind arith
beaten_step caller sizes (Lose c bases) log other b = ((λ e. other (ap Caller e)), b)
beaten_step caller sizes _ log other b = b

beaten_later : (caller : ℕ) (sizes : List ℕ) {earlier log : Log} → Later (Caller caller) earlier log
    → IsBeaten caller sizes earlier → IsBeaten caller sizes log
beaten_later caller sizes no_more b = b
beaten_later caller sizes (one_more {log = log} event later other) b =
    beaten_step caller sizes event log other (beaten_later caller sizes later b)

-- an Enter stays enabled
pub enter_stays : (first : Snapshot) {earlier log : Log} → Later Maker earlier log → (caller : ℕ)
    → CanEnter (state first earlier) caller → CanEnter (state first log) caller
enter_stays first later caller can = grind (arith, callers_later)

module _ (pairs : List Pair) (words : ℕ) (opens : CanOpen pairs words) {earlier log : Log}
    (caller : ℕ) (later : Later (Caller caller) earlier log)
    (h : EachEnabled (start pairs words) log) where
  -- a Reserve stays enabled if the first free word is the same
  pub reserve_stays : (base size : ℕ) → CanReserve (state_of pairs words earlier) caller base size
      → FindsItsWord (state_of pairs words earlier) (state_of pairs words log)
      (Reserve caller base size) → CanReserve (state_of pairs words log) caller base size
  reserve_stays base size can f =
      grind (
        arith,
        finds,
        next_word,
        words_same,
        known_later,
        goes_on_by,
        sizes_later,
        builds_later,
        grow_between,
      )

  pair_later : (bases : List ℕ) → LosesPair (state_of pairs words earlier) caller bases
      → LosesPair (state_of pairs words log) caller bases
  pair_later bases p =
      let it = inner_there (state_of pairs words earlier).pieces
      (state_of pairs words log).pieces (grow_between pairs words earlier log h (goes_on_by later)) p.node p.row p.published in
      record {
        pair = p.pair;
        bases_are = p.bases_are;
        held = holds_later pairs words caller later h p.pair pair_words p.held;
        node = p.node;
        row = it.0;
        published = it.1;
        above = p.above;
      }

  build_later : (bases : List ℕ) → LosesBuild (state_of pairs words earlier) earlier caller bases
      → LosesBuild (state_of pairs words log) log caller bases
  build_later bases b = record {
    sizes = b.sizes;
    held = bases_later pairs words caller later h bases b.sizes b.held;
    once = b.once;
    building = building_later (state_of pairs words earlier)
        (state_of pairs words log) (grow_between pairs words earlier log h (goes_on_by later)) b.sizes b.building;
    beaten = beaten_later caller b.sizes later b.beaten;
  }

  -- a Lose stays enabled
  pub lose_stays : (bases : List ℕ) → CanLose (state_of pairs words earlier) earlier caller bases
      → CanLose (state_of pairs words log) log caller bases
  lose_stays bases can = grind (arith, known_later, goes_on_by, pair_later, build_later)
