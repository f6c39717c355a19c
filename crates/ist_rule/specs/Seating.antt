-- Seats that are split from others and joined to others; the words at the opening and at the close.
use Rattle.std.specs.Prelude.{◌≡◌, ◌≢◌, ℕ, ◌+◌, ◌&&◌, max, Bool, true, false, nat_lt, nat_le, if◌then◌else◌, List, [], ◌∷◌, length, Option, Some, None}
use Rattle.atomic_table.specs.Table as T
use Rattle.ist_core.specs.declared.calls.Call.{Call}
use Rattle.ist_core.specs.Images.{IsImage}
use Rattle.ist_core.specs.Logs.{Log}
use Rattle.ist_core.specs.Snapshots.{Snapshot}
use Rattle.ist_core.specs.Lawful.{Lawful, state_of}
use Rattle.ist_rule.specs.declared.view.View.{View}
use Rattle.ist_rule.specs.declared.view.About.{About}
use Rattle.ist_rule.specs.declared.view.Met.{Met}
use Rattle.ist_rule.specs.declared.view.Taken.{Taken}
use Rattle.ist_core.specs.declared.events.Who.{Who}
use Rattle.ist_core.specs.declared.events.Who.TheVariants.{Maker, Caller, Note, Spent}
use Rattle.ist_core.specs.Authors.{Later}
use Rattle.ist_core.specs.Changes.{changes_of, map_after_entries}
use Rattle.ist_core.specs.Map.{map_of}
use Rattle.laws_real_time.specs.Moments.{Moments}
use Rattle.laws_real_time.specs.Joining.{LinearizesTo}
use Rattle.ist_rule.specs.Rule.{no_table, HasView, IsWellMade, IsTrueIn, IsHeard, Kept}

-- ---- splitting

-- is the seat the maker's
abbrev pub is_maker : Who → Bool
is_maker Maker = true
is_maker _ = false

-- the maker entered a caller that has no seat yet
abbrev pub awaits_seat : View → Bool
awaits_seat v = is_maker v.who && nat_lt v.given v.made

-- the caller whose calls a note of the seat keeps
abbrev pub noted_by : Who → Option ℕ
noted_by (Caller number) = Some number
noted_by (Note of) = of
noted_by _ = None

-- the seat that another was split from: a maker gave a seat to the caller that it entered, or the
-- seat is as it was
abbrev pub split_left : View → View
split_left v = if awaits_seat v then record v { given = v.given + 1 } else v

-- the log and the stamp of a seat, without its rows, its loads and its call
abbrev pub plain : View → Who → List Call → View
plain v who calls =
    record v {
      who = who;
      olds = [];
      own = [];
      calls = calls;
      loads = record { since = 0; list = [] };
      loaded = 0;
      searches = 0;
      pending = None;
      made = 0;
      given = 0;
      taken = [];
    }

-- the seat that was split from another: the seat of the caller entered last, which made no call, or
-- a note
abbrev pub split_right : View → View
split_right v = if awaits_seat v then plain v (Caller v.given) [] else plain v
    (Note (noted_by v.who)) v.calls

-- ---- joining

-- the longer of two logs
abbrev pub longer : Log → Log → Log
longer a b = if nat_le (length b) (length a) then a else b

-- the longer of two lists of moments
abbrev pub longer_moments : Moments → Moments → Moments
longer_moments a b = if nat_le (length b) (length a) then a else b

-- the callers that were taken back, with the caller of a seat that is joined now
abbrev pub with_taken : Who → List Call → Log → List Taken → List Taken
with_taken (Caller number) calls log taken =
    record { number = number; calls = calls; log = log } ∷ taken
with_taken _ calls log taken = taken

-- a seat that met another, with the log of both
abbrev pub met_as : View → Log → Met
met_as v both = record { who = v.who; log = v.log; moments = v.moments; both = both }

-- the seat that another was joined to: it has the longer log and the greater stamp, and keeps what
-- both had seen
abbrev pub joined : View → View → View
joined v w =
    let both = longer v.log w.log in
    record v {
      log = both;
      olds = met_as v both ∷ met_as w both ∷ [];
      moments = longer_moments v.moments w.moments;
      stamp = max v.stamp w.stamp;
      taken = with_taken w.who w.calls w.log v.taken;
    }

-- the seat that was joined away
abbrev pub gone : View
gone =
    record {
      table = no_table;
      start = [];
      words = 0;
      who = Spent;
      log = [];
      olds = [];
      moments = [];
      own = [];
      calls = [];
      stamp = 0;
      loads = record { since = 0; list = [] };
      loaded = 0;
      searches = 0;
      pending = None;
      made = 0;
      given = 0;
      taken = [];
    }

-- the second seat may be joined to the first: it isn't the maker's, is in no call, and a caller's
-- is joined to the maker's
pub record CanJoin (v w : View) : Type 0 where
  pub no_maker : w.who ≢ Maker
  pub in_none : w.pending ≡ None
  pub to_maker : (number : ℕ) → w.who ≡ Caller number → v.who ≡ Maker

-- ---- opening

-- this is the view of a maker that has entered no caller and seen no event
pub record IsNewMaker (v : View) : Type 0 where
  pub maker : v.who ≡ Maker
  pub made : v.made ≡ 0
  pub seen : v.log ≡ []

-- between any two steps at which a seat has this view, the words of its table are the image of this
-- state
abbrev pub HasImage : View → Snapshot → Type 0
HasImage v t =
    (k : About) (s : T.State (Unit {0}) View) (i : ℕ) → Kept k s → HasView s i v
    → IsImage t s.words

-- ---- closing

-- the words are the image of a lawful log that goes on from the seat's by events of others, and the
-- view is true of that log. All calls on the table are linearizable and lead to the map after the changes
-- of the log, and those of the callers that were taken back are their calls
pub record IsLast (v : View) (image : List ℕ) : Type 0 where
  pub log : Log
  pub later : Later v.who v.log log
  pub lawful : Lawful v.start v.words log
  pub is_image : IsImage (state_of v.start v.words log) image
  pub well_made : IsWellMade v.start v.words v
  pub is_true : IsTrueIn v.start v.words log v
  pub moments : Moments
  pub linear : LinearizesTo (map_of v.start) moments
      (map_after_entries (map_of v.start) (changes_of v.start v.words log))
  pub heard : IsHeard moments v
