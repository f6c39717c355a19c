-- A pass that read the first free word, in no call of its own. Serves `room`.
use Rattle.std.proofs.Common.{◌≡◌, ℕ, ◌+◌, ◌-◌, ◌≤◌, ◌∷◌, Option, None, refl, sym, ap, ◌∙◌, subst, arith, ◌⊎◌, ◌==◌, Bool, true, false, if◌then◌else◌, List, inl, inr}
use Rattle.ist_core.specs.declared.ports.Full.{Full}
use Rattle.ist_core.specs.declared.events.Event.{Event}
use Rattle.ist_core.specs.declared.events.Event.TheVariants.{Reserve}
use Rattle.ist_core.specs.declared.events.Who.TheVariants.{Caller as CallerOf}
use Rattle.ist_core.specs.declared.pairs.Pair.{Pair}
use Rattle.ist_core.specs.WordTerms.{next_place, change_words, rebuild_words}
use Rattle.ist_core.specs.LogTerms.{shown_next, Later, same_log, GoesOnBy, no_more, one_more, whose, GoesOn, Log, one_event, reserved_by, spent}
use Rattle.ist_core.proofs.AllLogLemmas.{next_within, words_same, words_are_spent, goes_on_more}
use Rattle.ist_rule.specs.RuleTerms.{TokenFace, moment_seen, now, TurnedAt, MomentsGoOn, number_of, one_moment, same_moments, IsSound}
use Rattle.ist_rule.specs.declared.view.View.{View}
use Rattle.ist_rule.specs.Glancing.{glancing, Glanced}
use Rattle.laws_real_time.specs.declared.moments.Deed.TheVariants.{Begins, GivesUp}
use Rattle.ist_rule.proofs.LaterLemmas.{later-goes_on}
use Rattle.ist_rows.specs.RowTerms.{taken_at, taken_by}
use Rattle.ist_rows.specs.declared.callers.Caller.{Caller}
use Rattle.ist_tree.specs.CallTerms.{HasSeenMore, PassFace, HasStartedNone, IsPassWith, face_as, pass_face, StepsIn, Frozen, TreeFace, FreezesInFew, FreezesWhole, IsFreezeRefused, froze_few, ran_short, words_of_freeze}
use Rattle.ist_tree.specs.Room.{HasLeft, HasMadeNone, TakesAlone}
use Rattle.ist_tree.proofs.GoingLemmas.{between_calls, IsLaterView, pass_with_later, starts_none_later}
use Rattle.ist_rule.proofs.SpeakLemmas.{go_on_more, later_goes_on}
use Rattle.ist_rows.proofs.FewStepLemmas.{own_takes, taken_grows, taken_later}
use Rattle.ist_tree.proofs.ShortLemmas.{left_same}

-- the first free word that was read isn't beyond the table
pub next_fits : (v : View) (next : ℕ) (w : View) → Glanced v next_place next w → next ≤ w.words
next_fits v next w l = let is = l.stood (now w).next shown_next in
    let lawful = l.turned.sound.lawful in
    let low = next_within w.start w.words lawful.opens w.log lawful.enabled in
    let all = words_same w.start w.words lawful.opens w.log in omega arith

-- so it and the words after it are all words of the table
pub room_sum : (v : View) (next count : ℕ) (w : View) → Glanced v next_place next w
    → w.words ≡ count → (next ≤ count) × (next + (count - next) ≡ w.words)
room_sum v next count w l all = let low = next_fits v next w l in (omega arith, omega arith)

-- what it results in, for a pass with this face
pub record RoomEnds (old : PassFace) (who : Caller) (refused : Option Full) (token : TokenFace)
    (left : ℕ) : Type 0 where
  pub pass : IsPassWith (record who { token = token }) refused
  pub seen : HasSeenMore old (face_as token who.number refused)
  pub left_is : HasLeft (face_as token who.number refused) left
  pub step : StepsIn old (face_as token who.number refused) token.view.log
  pub none : HasMadeNone old (face_as token who.number refused)
  pub unstarted : HasStartedNone old (face_as token who.number refused)
  pub no_walk : token.view.searches ≡ old.searches
  pub loads : token.view.loaded ≡ old.loaded + 1
  pub calls : token.view.calls ≡ old.calls
  pub stamp : token.view.stamp ≡ old.stamp

-- a read of the first free word ends so
pub room_ends : (who : Caller) (refused : Option Full) (token : TokenFace) → IsPassWith who refused
    → IsSound who.token.view → (next left : ℕ) → Glanced who.token.view next_place next token.view
    → next + left ≡ token.view.words → (old : PassFace)
    → pass_face who refused ≡ old → RoomEnds old who refused token left
room_ends who refused token all sound next left l sum old view =
    subst (λ (o : PassFace). RoomEnds o who refused token left) view from
  where
    v : View
    v = who.token.view

    w : View
    w = token.view

    t : TurnedAt v (glancing v) w
    t = l.turned

    later : IsLaterView v w
    later = record {
      who_is = ap (λ (y : View). y.who) t.view;
      start_is = ap (λ (y : View). y.start) t.view;
      words_is = ap (λ (y : View). y.words) t.view;
      later = t.later;
      sound = t.sound;
    }

    -- the moments go on from those at the step
    moments : MomentsGoOn (moment_seen v w.log (Begins None) ∷ t.before) w.moments
    moments = subst (MomentsGoOn (moment_seen v w.log (Begins None) ∷ t.before))
        (sym (ap (λ (y : View). y.moments) t.view))
        (one_moment (moment_seen v w.log GivesUp) same_moments)

    from : RoomEnds (pass_face who refused) who refused token left
    from = let stamps = ap (λ (y : View). y.stamp) t.view in
        let is = l.stood (now w).next shown_next in
        let used = words_are_spent w.start w.words w.log t.sound.lawful in record {
          pass = pass_with_later who token refused all later
              (ap (λ (y : View). y.pending) t.view ∙ all.pass.in_none);
          seen = record {
            tree = ap (λ (y : View). record { table = y.table; start = y.start; words = y.words })
                t.view;
            number = refl;
            seen = later-goes_on t.later;
            heard = go_on_more v.moments t.before w.moments (later_goes_on t.since)
                (go_on_more t.before (moment_seen v w.log (Begins None) ∷ t.before) w.moments
                (one_moment (moment_seen v w.log (Begins None)) same_moments) moments);
            stamp = omega arith;
          };
          left_is = omega arith;
          step = record {
            before = t.before;
            since = later_goes_on t.since;
            step = moment_seen v w.log (Begins None);
            step_by = ap number_of all.pass.caller.mine;
            heard = moments;
            seen = later-goes_on t.later;
            until = same_log;
            placed = t.placed;
          };
          none = subst (λ x. Later x v.log w.log) all.pass.caller.mine t.later;
          unstarted = starts_none_later v w later who.number all.pass.caller.mine
              (between_calls v who.number sound all.pass.caller.mine all.pass.in_none).resolved;
          no_walk = ap (λ (y : View). y.searches) t.view;
          loads = ap (λ (y : View). y.loaded) t.view;
          calls = ap (λ (y : View). y.calls) t.view;
          stamp = stamps;
        }

-- ---- a pass that alone took words: a start for which there was room isn't refused. Serves the crates above.

-- ---- one event

at_most : (b : Bool) (size : ℕ) → (if b then size else 0) ≤ size
at_most true size = omega arith
at_most false size = omega arith

-- an event takes no more for a caller than it reserves
takes_less : (number : ℕ) (event : Event) → taken_at number event ≤ reserved_by event
takes_less number (Reserve caller base size) = at_most (caller == number) size
takes_less number _ = omega arith

-- an event of the caller takes all that it reserves for it
own_all : (number : ℕ) (event : Event) → whose event ≡ CallerOf number
    → taken_at number event ≡ reserved_by event
own_all number (Reserve caller base size) mine = grind (arith, own_takes)
own_all number _ mine = refl

-- ---- logs

-- what the caller took between two logs was spent
pub spent_more : (pairs : List Pair) (number : ℕ) {a b : Log} → GoesOn a b
    → spent pairs a + taken_by number b ≤ spent pairs b + taken_by number a
spent_more pairs number same_log = omega arith
spent_more pairs number (one_event event g) = let before = spent_more pairs number g in
    let less = takes_less number event in omega arith

-- and nothing else was, if only the caller took words
pub spent_alone : (pairs : List Pair) (number : ℕ) {a b : Log}
    → GoesOnBy (λ event. (whose event ≡ CallerOf number) ⊎ (reserved_by event ≡ 0)) a b
    → spent pairs b + taken_by number a ≡ spent pairs a + taken_by number b
spent_alone pairs number no_more = omega arith
spent_alone pairs number (one_more event g (inl mine)) = let before = spent_alone pairs number g in
    let all = own_all number event mine in omega arith
spent_alone pairs number (one_more event g (inr none)) = let before = spent_alone pairs number g in
    let less = takes_less number event in omega arith

-- ---- passes

-- what a pass took after a look, at which it made no event, it took since before the look
pub few_before : (p m : PassFace) → m.number ≡ p.number → HasMadeNone p m → (at : Log)
    (asked n : ℕ) → taken_by m.number at + asked ≤ taken_by m.number m.seen + n
    → taken_by p.number at + asked ≤ taken_by p.number p.seen + n
few_before p m number none at asked n few = grind (arith, taken_later)

-- if there was room for the two rows of a start at a step of the call, and since then only the pass
-- took words, a freeze isn't refused
pub room_is_enough : (p q : PassFace) (words : ℕ) (full : Full) (at : Log) → GoesOn p.seen at
    → spent p.tree.start at + words ≤ p.tree.words → rebuild_words + change_words ≤ words
    → TakesAlone p at q.seen → ¬ (IsFreezeRefused p q full)
room_is_enough p q words full at since enough rows alone r =
    let all = spent_alone p.tree.start p.number alone in
    let more = spent_more p.tree.start p.number r.had.until in
    let rise = taken_grows p.number since in let last = taken_grows p.number r.had.until in
    let left = r.had.left in let few = left.few.asked.few in let next = left.next_is in
    let small = left.few.small in omega arith

-- if its words were left at a step of the call, and since then only the pass took words, a freeze is
-- whole
pub lone_whole : (p q : PassFace) (frozen : Frozen) → FreezesInFew p q frozen → (at : Log)
    → GoesOn p.seen at → spent p.tree.start at + words_of_freeze frozen.keys ≤ p.tree.words
    → TakesAlone p at q.seen → FreezesWhole p q frozen
lone_whole p q frozen (froze_few whole) at since enough alone = whole
lone_whole p q frozen (ran_short r) at since enough alone =
    let all = spent_alone p.tree.start p.number alone in let full = r.0 in let ran = r.1 in
    let more = spent_more p.tree.start p.number ran.until in
    let rise = taken_grows p.number since in
    let few : taken_by p.number ran.at + full.asked
    ≤ taken_by p.number p.seen + words_of_freeze frozen.keys = ran.left.few.asked in
    let next = ran.left.next_is in let small = ran.left.few.small in absurd (omega arith)

-- what a freeze took after a look, at which the pass made no event, it took since before the look
pub freezes_before : (p m q : PassFace) (frozen : Frozen) → m.number ≡ p.number → m.tree ≡ p.tree
    → GoesOn p.seen m.seen → HasMadeNone p m → m.refused ≡ p.refused → FreezesInFew m q frozen
    → FreezesInFew p q frozen
freezes_before p m q frozen number tree seen none same (froze_few w) = grind (arith, taken_later)
freezes_before p m q frozen number tree seen none same (ran_short r) = let full = r.0 in
    let start = ap (λ (t : TreeFace). t.start) tree in
    let all = ap (λ (t : TreeFace). t.words) tree in
    ran_short (
      full,
      record {
        at = r.1.at;
        since = goes_on_more seen r.1.since;
        until = r.1.until;
        left = left_same full start all r.1.left
            (few_before p m number none r.1.at full.asked (words_of_freeze frozen.keys));
      },
    )
