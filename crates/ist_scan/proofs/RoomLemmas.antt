-- A pass that looked for room, and then took a shot or was refused one. Serves `look_for` and
-- `take_if_room`.
use Rattle.std.proofs.Common.{◌≡◌, ℕ, ◌+◌, ◌<◌, ◌≤◌, Result, Ok, Err, IfOk, IfErr, OnOk, ap, subst, arith}
use Rattle.ist_core.specs.declared.ports.Full.{Full}
use Rattle.ist_core.specs.LogTerms.{state_of, Log, same_log, spent}
use Rattle.ist_core.specs.WordTerms.{anchor, change_words, rebuild_words, SlotHolds, InnerAt, word_of}
use Rattle.ist_core.proofs.AllLogLemmas.{goes_on_more}
use Rattle.ist_tree.specs.CallTerms.{HasSeenMore, TreeFace, PassFace, FreezesInFew, IsFreezeRefused, StepsIn, HadTooFew, IsTopRefused, KeepsRefusal}
use Rattle.ist_tree.specs.declared.freezing.Frozen.{Frozen}
use Rattle.ist_tree.specs.Room.{HasLeft, HasMadeNone}
use Rattle.ist_tree.proofs.RoomLemmas.{few_before, freezes_before, lone_whole, room_is_enough}
use Rattle.ist_tree.proofs.ShortLemmas.{left_same}
use Rattle.ist_tree.proofs.HeardLemmas.{seen_more_then, steps_from, steps_until}
use Rattle.ist_scan.specs.Room.{HadRoom, HadNoRoom, IsShotRefused, LoneShotsAreTaken, LoneShotsAreWhole, for_start}
use Rattle.ist_scan.specs.Shots.{HasTakenShot}

-- ---- the look

-- enough words were left
pub had_room : (p q : PassFace) (left words : ℕ) → HasSeenMore p q → HasLeft q left
    → StepsIn p q q.seen → words ≤ left → HadRoom p q words
had_room p q left words seen has step enough = grind arith

-- too few were left
pub had_no_room : (p q : PassFace) (left words : ℕ) (full : Full) → HasSeenMore p q
    → HasLeft q left → StepsIn p q q.seen → HasMadeNone p q → left < words
    → full.next + left ≡ p.tree.words
    → full.asked ≡ words → full.words ≡ p.tree.words → HadNoRoom p q words full
had_no_room p q left words full seen has step none few next asked all =
    let sum : spent p.tree.start q.seen + left ≡ p.tree.words
    = subst (λ (t : TreeFace). spent t.start q.seen + left ≡ t.words) seen.tree has in
    record {
      had = record {
        at = q.seen;
        since = seen.seen;
        until = same_log;
        left = record {
          next_is = omega arith;
          few = record { words_is = all; small = omega arith; asked = asked };
        };
      };
      step = step;
      none = none;
    }

-- ---- a lone shot

-- room for the two rows of a start is enough
pub lone_taken : LoneShotsAreTaken
lone_taken p q words full room rows alone refused =
    room_is_enough p q words full room.at room.step.seen room.enough rows alone refused

-- room for all words of the shot is enough for the whole
pub lone_shot_whole : LoneShotsAreWhole
lone_shot_whole p q shot words few room le alone = let enough = room.enough in
    lone_whole p q shot few room.at room.step.seen (omega arith) alone

-- ---- the shot after it

module _ (p m q : PassFace) (look : HasSeenMore p m) (after : HasSeenMore m q) where
  -- both together have seen more
  pub seen_both : HasSeenMore p q
  seen_both = seen_more_then p m q look after

  -- the room that was found was there in the call
  room_both : (words : ℕ) → HadRoom p m words → HadRoom p q words
  room_both words h = grind (arith, steps_until)

  -- a shot that was taken after the look was taken in the call
  taken_both : (shot : Frozen) → HasTakenShot m q shot → HasTakenShot p q shot
  taken_both shot h = grind (arith, steps_from)

  -- too few words after the look were too few in the call
  abbrev short_both : {A B : Log → ℕ → Type 0} (full : Full) → HadTooFew A m q full
      → ((at : Log) → A at full.asked → B at full.asked) → HadTooFew B p q full
  short_both full h to = record {
    at = h.at;
    since = goes_on_more look.seen h.since;
    until = h.until;
    left = left_same full (ap (λ (t : TreeFace). t.start) look.tree)
        (ap (λ (t : TreeFace). t.words) look.tree) h.left (to h.at);
  }

  -- a freeze that was refused after the look was refused in the call
  refused_both : HasMadeNone p m → (full : Full) → IsFreezeRefused m q full
      → IsFreezeRefused p q full
  refused_both none full h = record {
    had = short_both full h.had (λ at for. record {
      start = for.start;
      lacked = for.lacked;
      few = few_before p m look.number none q.seen full.asked (rebuild_words + change_words)
          for.few;
    });
    held = record {
      at = h.held.at;
      since = goes_on_more look.seen h.held.since;
      until = h.held.until;
      row = h.held.row;
      holds = subst (λ (t : TreeFace). SlotHolds (state_of t.start t.words h.held.at) anchor 0
          (word_of (InnerAt h.held.row))) look.tree h.held.holds;
    };
  }

  top_both : (full : Full) → IsTopRefused m q full → IsTopRefused p q full
  top_both full h = grind (arith, goes_on_more)

  -- the refusal that the pass keeps has its cause in the call
  pub keeps_both : m.refused ≡ p.refused → KeepsRefusal m q → KeepsRefusal p q
  keeps_both same k = grind (arith, top_both)

  -- what the shot after the look returned, it returned in the call
  pub ok_both : (r : Result Frozen Full) → IfOk r (HasTakenShot m q) → IfOk r (HasTakenShot p q)
  ok_both (Ok shot) h = taken_both shot h
  ok_both (Err full) h = tt

  -- and took as few words
  pub few_if_ok : HasMadeNone p m → m.refused ≡ p.refused → (r : Result Frozen Full)
      → IfOk r (FreezesInFew m q) → IfOk r (FreezesInFew p q)
  few_if_ok none same (Ok shot) h =
      freezes_before p m q shot look.number look.tree look.seen none same h
  few_if_ok none same (Err full) h = tt

  -- if it was taken, there was room
  pub room_if_ok : (words : ℕ) → HadRoom p m words → (r : Result Frozen Full)
      → OnOk r (HadRoom p q words)
  room_if_ok words room (Ok shot) = room_both words room
  room_if_ok words room (Err full) = tt

  -- if it was refused, there was room before
  pub err_both : (words : ℕ) → HadRoom p m words → HasMadeNone p m → (r : Result Frozen Full)
      → IfErr r (IsFreezeRefused m q) → IfErr r (IsShotRefused p q words)
  err_both words room none (Ok shot) h = tt
  err_both words room none (Err full) h = let had = room_both words room in
      let refused = refused_both none full h in for_start had refused
      (λ rows alone. lone_taken p q words full had rows alone refused)
