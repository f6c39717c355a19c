-- The rule of the table: what holds of the words and of all views between any two steps.
use Rattle.std.specs.Prelude.{◌≡◌, ◌≢◌, ℕ, ◌+◌, ◌<◌, ◌≤◌, ◌==◌, if◌then◌else◌, List, [], ◌∷◌, map, length, slice_get, Some, None}
use mathlib.Core.Option.{some}
use lib.ListN.{get_elem?}
use Rattle.atomic_table.specs.Table as T
use Rattle.ist_core.specs.declared.lists.HeldRow.{HeldRow}
use Rattle.ist_core.specs.declared.pairs.Pair.{Pair}
use Rattle.ist_core.specs.Elements.{Among, Each, Distinct}
use Rattle.ist_core.specs.Images.{IsImage}
use Rattle.ist_core.specs.Logs.{Log, GoesOn}
use Rattle.ist_core.specs.Lawful.{Lawful, state_of}
use Rattle.ist_rule.specs.declared.view.TableName.{TableName}
use Rattle.ist_rule.specs.declared.view.View.{View}
use Rattle.ist_rule.specs.declared.view.OwnWord.{OwnWord}
use Rattle.ist_core.specs.declared.loads.Load.{Load}
use Rattle.ist_rule.specs.declared.view.Met.{Met}
use Rattle.ist_rule.specs.declared.view.Taken.{Taken}
use Rattle.ist_rule.specs.declared.view.About.{About}
use Rattle.ist_core.specs.declared.events.Who.{Who}
use Rattle.ist_core.specs.declared.events.Who.TheVariants.{Maker, Caller, Note, Spent}
use Rattle.ist_core.specs.Authors.{Later, IsIdleIn}
use Rattle.ist_core.specs.Shown.{IsShown}
use Rattle.laws_real_time.specs.Moments.{Moments, in_call}
use Rattle.laws_real_time.specs.Making.{calls_returned}
use Rattle.laws_real_time.specs.Keeping.{KeepsTime}
use Rattle.ist_rule.specs.Standings.{StandsInPrefix, IsBetween, CallStands}
use Rattle.ist_rule.specs.Speaking.{pending_of, HasSpoken, IsSilent, MomentsGoOn, MomentsLater, HasMoments}

-- the word that was stored at the place last, and 0 if none was
abbrev pub own_at : List OwnWord → ℕ → ℕ
own_at [] place = 0
own_at (own ∷ more) place = if own.place == place then own.word else own_at more place

-- the seat is the maker's or a caller's; of each there is at most one seat
abbrev pub IsNamed : Who → Type 0
IsNamed (Note of) = ⊥
IsNamed Spent = ⊥
IsNamed _ = Unit {0}

-- the seat keeps the calls of the caller with this number: it is the caller's, or a note of it
pub data KeepsCalls (number : ℕ) : Who → Type 0 where
  its_own : KeepsCalls number (Caller number)
  noted : KeepsCalls number (Note (Some number))

-- ---- what a view says of the log that it has seen

-- a load gave the word that the image had there after a prefix of the log, whose length it notes
pub record Recalls (pairs : List Pair) (words : ℕ) (log : Log) (load : Load) : Type 0 where
  pub prefix : Log
  pub goes_on : GoesOn prefix log
  pub length_is : load.length ≡ length prefix
  pub stood : (word : ℕ) → IsShown (state_of pairs words prefix) load.place word → load.word ≡ word

-- the lengths of the loads never fall, and none is below the length at which the search began
abbrev pub NeverFall : ℕ → List Load → Type 0
NeverFall since [] = Unit {0}
NeverFall since (load ∷ loads) = (since ≤ load.length) × Each (λ l. l.length ≤ load.length) loads
    × NeverFall since loads

-- the seat that met another went on to the log of both by events of others, and all of that is seen
pub record IsMet (log : Log) (moments : Moments) (met : Met) : Type 0 where
  pub heard : MomentsGoOn met.moments moments
  pub later : Later met.who met.log met.both
  pub seen : GoesOn met.both log

-- the view by itself: the places of its calls, what its loads gave, which seats met at its join
pub record IsWellMade (pairs : List Pair) (words : ℕ) (v : View) : Type 0 where
  pub stands : (number : ℕ) → KeepsCalls number v.who
      → StandsInPrefix pairs words v.log number v.calls
  pub stamps : Each (λ call. call.stamp ≤ v.stamp) v.calls
  pub recalls : Each (Recalls pairs words v.log) v.loads.list
  pub in_order : NeverFall v.loads.since v.loads.list
  pub since : v.loads.since ≤ length v.log
  pub olds : Each (IsMet v.log v.moments) v.olds
  pub taken_stand : Each (λ t. StandsInPrefix pairs words t.log t.number t.calls) v.taken
  pub taken_seen : Each (λ t. GoesOn t.log v.log) v.taken
  pub taken_once : Distinct (map (λ t. t.number) v.taken)
  pub taken_given : Each (λ t. t.number < v.given) v.taken
  pub maker_takes : v.who ≢ Maker → v.taken ≡ []
  pub in_none : (v.who ≡ Maker) → v.pending ≡ None
  pub moments : HasMoments pairs v.who v.given v.moments v.calls v.pending

-- ---- what a view says of the longest log

-- a caller that was taken back: its number is below the callers', its changes are its calls', and
-- it made no event after what its seat had seen
pub record IsTakenBack (pairs : List Pair) (words : ℕ) (log : Log) (t : Taken) : Type 0 where
  pub low : t.number < (state_of pairs words log).callers
  pub between : IsBetween pairs words log t.number t.calls
  pub later : Later (Caller t.number) t.log log

-- what a view and a log agree on: numbers of callers, own words, and what became of the caller's
-- changes
pub record IsTrueIn (pairs : List Pair) (words : ℕ) (log : Log) (v : View) : Type 0 where
  pub low : (number : ℕ) → v.who ≡ Caller number → number < (state_of pairs words log).callers
  pub made : v.who ≡ Maker → (v.made ≡ (state_of pairs words log).callers) × (v.given ≤ v.made)
      × (v.made ≤ v.given + 1)
  pub idle : v.who ≡ Maker → (number : ℕ) → v.given ≤ number → IsIdleIn (Caller number) log
  pub fresh : (place : ℕ) → (state_of pairs words log).next ≤ place → own_at v.own place ≡ 0
  pub call : (number : ℕ) → v.who ≡ Caller number
      → CallStands pairs words log number v.calls v.pending
  pub taken : Each (IsTakenBack pairs words log) v.taken

-- what holds of the view of each seat that was not joined away
pub record IsSound (v : View) : Type 0 where
  pub lawful : Lawful v.start v.words v.log
  pub live : v.who ≢ Spent
  pub well_made : IsWellMade v.start v.words v
  pub is_true : IsTrueIn v.start v.words v.log v

-- ---- the rule

-- the words of the rows that the caller holds are what its view says
abbrev pub Owns : List Pair → ℕ → Log → List ℕ → View → Type 0
Owns pairs words log image v =
    (h : HeldRow) → Among h (state_of pairs words log).held → v.who ≡ Caller h.caller
    → (k : ℕ) → k < h.size → slice_get image (h.base + k) ≡ Some (own_at v.own (h.base + k))

-- a view under the words and the longest log: it has seen a prefix, with all events of its own
pub record Fits (k : About) (log : Log) (image : List ℕ) (v : View) : Type 0 where
  pub start_is : v.start ≡ k.start.value.items
  pub words_is : v.words ≡ k.words
  pub later : Later v.who v.log log
  pub owns : Owns k.start.value.items k.words log image v
  pub well_made : IsWellMade k.start.value.items k.words v
  pub is_true : IsTrueIn k.start.value.items k.words log v

-- the moments that a seat has seen are followed by those of others only. A caller without a seat
-- has no moment, and one that was taken back has its calls
pub record IsHeardOf (moments : Moments) (who : Who) (seen : Moments) (given : ℕ)
    (back : List Taken) : Type 0 where
  pub later : MomentsLater who seen moments
  pub silent : who ≡ Maker → (number : ℕ) → given ≤ number → IsSilent number moments
  pub taken : Each (λ t. HasSpoken moments t.number t.calls None) back

-- the same of a view
abbrev pub IsHeard : Moments → View → Type 0
IsHeard moments v = IsHeardOf moments v.who v.moments v.given v.taken

-- the moments of all calls: they are kept beside the log, what became of each caller's changes is
-- known by them, and each seat has seen the first of them
pub record IsTimed (k : About) (log : Log) (moments : Moments) (views : List View) : Type 0 where
  pub kept : KeepsTime k.start.value.items k.words log moments
  pub working : (number : ℕ)
      → CallStands k.start.value.items k.words log number (calls_returned number moments)
      (pending_of (in_call number moments))
  pub heard : (i : ℕ) (v : View) → get_elem? views i ≡ some v → v.who ≢ Spent → IsHeard moments v

-- seat i has this view
abbrev pub HasView : T.State (Unit {0}) View → ℕ → View → Type 0
HasView s i v = get_elem? s.views i ≡ some v

-- a caller that was taken back has no seat
abbrev pub IsRetired : T.State (Unit {0}) View → Taken → Type 0
IsRetired s t = (i : ℕ) (w : View) → HasView s i w → w.who ≢ Caller t.number

-- the rule: there is a lawful log of which each seat has seen a prefix, and the words are its image
pub record Kept (k : About) (s : T.State (Unit {0}) View) : Type 0 where
  pub log : Log
  pub lawful : Lawful k.start.value.items k.words log
  pub image : IsImage (state_of k.start.value.items k.words log) s.words
  pub seats : (i : ℕ) (v : View) → HasView s i v → v.who ≢ Spent → Fits k log s.words v
  -- there is one maker, and callers' numbers differ
  pub apart : (i j : ℕ) (v w : View) → HasView s i v → HasView s j w → IsNamed v.who → w.who ≡ v.who
      → j ≡ i
  -- a caller that was not given its seat has none
  pub unborn : (i : ℕ) (v : View) → HasView s i v → v.who ≡ Maker → (number : ℕ) → v.given ≤ number
      → (j : ℕ) (w : View) → HasView s j w → w.who ≢ Caller number
  pub retired : (i : ℕ) (v : View) → HasView s i v → v.who ≢ Spent
      → Each (IsRetired s) v.taken
  -- the moments of all calls
  pub moments : Moments
  pub timed : IsTimed k log moments s.views

-- ---- a new table

-- a name that says nothing
abbrev pub no_table : TableName
no_table =
    record {
      words = 0;
      slots = 0;
      views_name = 0;
      atom = 0;
      block = 0;
      offset = 0;
      slot_names = [];
    }

-- the view of the first seat, which is the maker's
abbrev pub opened_view : TableName → List Pair → ℕ → View
opened_view table pairs words =
    record {
      table = table;
      start = pairs;
      words = words;
      who = Maker;
      log = [];
      olds = [];
      moments = [];
      own = [];
      calls = [];
      stamp = 0;
      loads = record { since = 0; list = [] };
      loaded = 0;
      searches = 0;
      pending = None;
      made = 0;
      given = 0;
      taken = [];
    }

-- the same, by what the table is given, before it has a name
abbrev pub first_view : About → View
first_view k = opened_view no_table k.start.value.items k.words
