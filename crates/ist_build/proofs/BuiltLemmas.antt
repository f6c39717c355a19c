-- What a caller does while it builds. Serves `building` and `parts`.
use Rattle.std.proofs.Common.{◌≡◌, ℕ, ◌+◌, ◌<◌, ◌≤◌, List, refl, sym, ap, ◌∙◌, subst, le_refl, arith, inl, inr, ◌∷◌, Some}
use Rattle.ist_core.specs.declared.events.Event.{Event}
use Rattle.ist_core.specs.declared.pairs.Pair.{Pair}
use Rattle.ist_core.specs.declared.events.Who.{Who}
use Rattle.ist_core.specs.declared.events.Event.TheVariants.{Reserve}
use Rattle.ist_core.specs.declared.lists.HeldRow.{HeldRow}
use Rattle.ist_core.specs.declared.states.LeafRow.{LeafRow}
use Rattle.ist_core.specs.declared.events.Who.TheVariants.{Caller}
use Rattle.ist_core.specs.declared.ports.Full.{Full}
use Rattle.ist_core.specs.LogTerms.{no_more, one_more, LaterBy, EachEnabled, Lawful, state_of, Log, Among, HoldsRow}
use Rattle.ist_core.specs.TreeTerms.{AllGrow}
use Rattle.ist_core.specs.WordTerms.{start, Leaf}
use Rattle.ist_core.proofs.AllPlaceLemmas.{placed, claimed_within}
use Rattle.ist_core.proofs.AllLogLemmas.{next-state, leaf_there}
use Rattle.ist_rule.specs.RuleTerms.{WentOn, KeepsWords, IsSound, own_at, now, made_after, GoesOnTo, Logged, LoggedLoad}
use Rattle.ist_rule.specs.declared.view.View.{View}
use Rattle.ist_rule.specs.declared.view.OwnWord.{OwnWord}
use Rattle.ist_rule.proofs.WentOnLemmas.{goes_on_went, logged_load_went, logged_went, went_all, went_grow, went_lawful, went_more, went_now, went_same, goes_on_grow}
use Rattle.ist_build.specs.Laying.{LaidOn, IsReservation, BuiltOn, IsShort, IsForNode}
use Rattle.ist_core.proofs.AllWordLemmas.{among_left}
use Rattle.ist_core.proofs.AllEventLemmas.{sound, sound_start}
use Rattle.ist_rule.proofs.WatchLemmas.{held_by_others}
use Rattle.ist_rows.specs.RowTerms.{Reserved, RanShort}
use Rattle.ist_build.specs.Calls.{Builds, IsTold}
use Rattle.ist_build.specs.Putting.{PutOn, IsStopped}
use Rattle.ist_rows.proofs.ShortLemmas.{short_from}
use Rattle.std.proofs.Math.Nat.{le_trans}

-- ---- how a caller goes on while it lays rows of its own: the same for each kind of event that it
-- makes meanwhile. Serves `BuiltOn` and `PutOn`.

-- the first free word never falls
pub next_between : (pairs : List Pair) (words : ℕ) (who : Who) (P : Event → Type 0) (old log : Log)
    → EachEnabled (start pairs words) log → LaterBy who P old log
    → (state_of pairs words old).next ≤ (state_of pairs words log).next
next_between pairs words who P old _ h no_more = le_refl _
next_between pairs words who P old _ h (one_more {log = log} event l is) =
    let before = next_between pairs words who P old log h.0 l in
    let more = next-state (start pairs words) log event h.1 in omega arith

-- what went on so, and kept the words of its rows, laid rows
laid_by : (P : Event → Type 0) (v w : View) → WentOn P v w
    → ((place : ℕ) → place < (now v).next → own_at w.own place ≡ own_at v.own place) → LaidOn P v w
laid_by P v w g own = grind (arith, sound)

module _ (P : Event → Type 0) (v w : View) (b : LaidOn P v w) where
  -- it went on by these events
  pub laid_went : WentOn P v w
  laid_went = record { later = b.later; sound = b.sound; same = b.same; loaded = b.loaded }

  -- the state after the log, by the first view's table
  pub laid_now : now w ≡ state_of v.start v.words w.log
  laid_now = went_now P v w laid_went

  -- the later view's log is lawful from the start of the earlier one
  pub laid_lawful : Lawful v.start v.words w.log
  laid_lawful = went_lawful P v w laid_went

  -- rows grow
  pub laid_grow : AllGrow (now v).pieces (now w).pieces
  laid_grow = went_grow P v w laid_went

  -- the first free word only rises
  pub laid_next : (now v).next ≤ (now w).next
  laid_next = grind (arith, laid_now, next_between)

  -- and the rows that the caller had keep their words
  pub laid_words : IsSound v → KeepsWords v w
  laid_words s h mine before after k less =
      let inside = claimed_within v.start v.words v.log h.base h.size s.lawful.enabled
      ((placed v.start v.words v.log s.lawful.enabled).held h before) in
      let high = inside.below_next in b.own (h.base + k) (omega arith)

-- nothing was done
pub laid_same : (P : Event → Type 0) (v : View) → IsSound v → LaidOn P v v
laid_same P v s = laid_by P v v (went_same P v s) (λ place low. refl)

-- going on twice
pub laid_more : (P : Event → Type 0) (u v w : View) → LaidOn P u v → LaidOn P v w → LaidOn P u w
laid_more P u v w a b = laid_by P u w (went_more P u v w (laid_went P u v a) (laid_went P v w b))
    (λ place low. let up = laid_next P u v a in b.own place (omega arith) ∙ a.own place low)

-- by events of which more is true
pub laid_all : (P Q : Event → Type 0) → ((event : Event) → P event → Q event) → (v w : View)
    → LaidOn P v w → LaidOn Q v w
laid_all P Q all v w b = laid_by Q v w (went_all P Q all v w (laid_went P v w b)) b.own

-- by loads
pub goes_on_laid : (P : Event → Type 0) (v w : View) → GoesOnTo v w → LaidOn P v w
goes_on_laid P v w g = grind (arith, laid_by, goes_on_went)

-- by one event
pub logged_laid : (P : Event → Type 0) (v : View) (event : Event) (w : View) → Logged v event w
    → P event → made_after event v.made ≡ v.made → LaidOn P v w
logged_laid P v event w l is made = laid_by P v w (logged_went P v event w l is made)
    (λ place low. ap (λ x. own_at x.own place) l.view)

-- by one that came at a load
pub logged_load_laid : (P : Event → Type 0) (v : View) (event : Event) (place word : ℕ) (w : View)
    → LoggedLoad v event place word w → P event → made_after event v.made ≡ v.made → LaidOn P v w
logged_load_laid P v event place word w l is made =
    laid_by P v w (logged_load_went P v event place word w l is made)
    (λ at low. ap (λ x. own_at x.own at) l.view)

-- ---- leaves

-- a published leaf is the same after loads
pub leaf_goes_on : (v w : View) → GoesOnTo v w → (base : ℕ) (r : LeafRow)
    → (now v).pieces base ≡ Some (Leaf r) → (now w).pieces base ≡ Some (Leaf r)
leaf_goes_on v w g base r e = leaf_there (now v).pieces (now w).pieces (goes_on_grow v w g) base r e

-- ---- going on

module _ (pairs : List Pair) (words : ℕ) where
  -- what is held stays held if the holder only reserves
  held_between : (h : HeldRow) (old log : Log) → EachEnabled (start pairs words) log
      → LaterBy (Caller h.caller) IsReservation old log
      → Among h (state_of pairs words old).held → Among h (state_of pairs words log).held
  held_between h old _ enabled no_more i = i
  held_between h old _ enabled (one_more {log = log} event l (inl other)) i =
      held_by_others (start pairs words) log event enabled.1
      (sound (start pairs words) log (sound_start pairs words) enabled.0) h
      (held_between h old log enabled.0 l i) other
  held_between h old _ enabled (one_more {log = log} event l (inr own)) i =
      by_event event own (held_between h old log enabled.0 l i)
    where
      by_event : (e : Event) → IsReservation e → Among h (state_of pairs words log).held
          → Among h (state_of pairs words (e ∷ log)).held
      by_event (Reserve caller base size) own j = grind (arith, among_left)
      by_event _ own j = absurd own

-- the state after the log, by the first view's table
pub built_now : (v w : View) → BuiltOn v w → now w ≡ state_of v.start v.words w.log
built_now = laid_now IsReservation

-- the log after a build is lawful
pub built_lawful : (v w : View) → BuiltOn v w → Lawful v.start v.words w.log
built_lawful = laid_lawful IsReservation

-- rows grow
pub built_grow : (v w : View) → BuiltOn v w → AllGrow (now v).pieces (now w).pieces
built_grow = laid_grow IsReservation

-- the first free word never falls
pub built_next : (v w : View) → BuiltOn v w → (now v).next ≤ (now w).next
built_next = laid_next IsReservation

-- what the caller held it holds
pub built_held : (v w : View) → BuiltOn v w → (number base size : ℕ) → v.who ≡ Caller number
    → HoldsRow (now v) number base size → HoldsRow (now w) number base size
built_held v w b number base size mine i =
    subst (λ t. HoldsRow t number base size) (sym (built_now v w b))
    (held_between v.start v.words record { caller = number; base = base; size = size } v.log w.log
    (built_lawful v w b).enabled
    (subst (λ x. LaterBy x IsReservation v.log w.log) mine b.later) i)

-- nothing was done
pub built_same : (v : View) → IsSound v → BuiltOn v v
built_same v s = laid_same IsReservation v s

-- going on twice
pub built_more : (u v w : View) → BuiltOn u v → BuiltOn v w → BuiltOn u w
built_more = laid_more IsReservation

-- a caller that went on by loads has built on
pub loads_built : (v w : View) → GoesOnTo v w → BuiltOn v w
loads_built = goes_on_laid IsReservation

-- a caller that reserved a row has built on
pub reserved_built : (v : View) (number base size : ℕ) (w : View) → Reserved v number base size w
    → BuiltOn v w
reserved_built v number base size w r = built_more v r.before w (loads_built v r.before r.seen)
    (logged_laid IsReservation r.before (Reserve number base size) w r.reserved tt refl)

-- so has one that stored words into rows that it reserved since
pub rewritten_built : (u v : View) (own : List OwnWord) → BuiltOn u v
    → IsSound (record v { own = own })
    → ((place : ℕ) → place < (now u).next → own_at own place ≡ own_at v.own place)
    → BuiltOn u (record v { own = own })
rewritten_built u v own b s stays = grind (arith, sound)

-- ---- what a caller does while it builds and puts in place. Serves `root`.

-- the state after the log, by the first view's table
pub put_now : (v w : View) → PutOn v w → now w ≡ state_of v.start v.words w.log
put_now = laid_now Builds

-- the log afterwards is lawful
pub put_lawful : (v w : View) → PutOn v w → Lawful v.start v.words w.log
put_lawful = laid_lawful Builds

-- the pieces grow
pub put_grow : (v w : View) → PutOn v w → AllGrow (now v).pieces (now w).pieces
put_grow = laid_grow Builds

-- going on twice
pub put_more : (u v w : View) → PutOn u v → PutOn v w → PutOn u w
put_more = laid_more Builds

-- a reservation is an event of a build
builds_reserving : (event : Event) → IsReservation event → Builds event
builds_reserving (Reserve c base size) is = tt
builds_reserving _ is = absurd is

-- a caller that only reserved has put on
pub built_put : (v w : View) → BuiltOn v w → PutOn v w
built_put = laid_all IsReservation Builds builds_reserving

-- a caller that made loads has put on
pub loads_put : (v w : View) → GoesOnTo v w → PutOn v w
loads_put = goes_on_laid Builds

-- a caller that did nothing has put on
pub put_same : (v : View) → IsSound v → PutOn v v
put_same v s = built_put v v (built_same v s)

-- ---- refusals

-- a build that was refused, after what was done before
pub short_stopped : (u v w : View) (rebuild words k : ℕ) (full : Full) → IsTold (now u) rebuild k
    → PutOn u v → IsShort v words k full w → IsStopped u rebuild words full w
short_stopped u v w rebuild words k full told a h =
    short_from BuiltOn PutOn u v (λ x s. put_more u v x a (built_put v x s)) words full w h
    (λ node. record { k = k; told = told; node = node })

-- ---- too few words for a row of a build, seen from an earlier view on. Serves the functions that
-- build.

-- a node over no more than fewer keys is one over no more than many
for_more : (keys more asked : ℕ) → keys ≤ more → IsForNode keys asked → IsForNode more asked
for_more keys more asked le n = grind (arith, le_trans)

-- too few words were left since one view, so they were since another from which the caller came
-- there, and for a node over more keys
pub short_for_more : (S T : View → View → Type 0) (u v : View) → ((x : View) → S v x → T u x)
    → (words keys more : ℕ) (full : Full) (w : View) → keys ≤ more
    → RanShort S (IsForNode keys) v words full w → RanShort T (IsForNode more) u words full w
short_for_more S T u v on words keys more full w le h = grind (arith, short_from, for_more)
