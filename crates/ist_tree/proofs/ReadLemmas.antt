-- A pass that began a read, in no call of its own, and then made only loads. Serves `span` and `sweep`.
use Rattle.std.proofs.Common.{◌≡◌, ◌+◌, ◌∷◌, Option, None, refl, ap, ◌∙◌, subst, sym, arith, ℕ, ◌≤◌}
use Rattle.ist_core.specs.declared.ports.Full.{Full}
use Rattle.ist_core.specs.declared.pairs.Pair.{Pair}
use Rattle.ist_core.specs.LogTerms.{Later}
use Rattle.laws_real_time.specs.declared.moments.Deed.TheVariants.{Begins, GivesUp}
use Rattle.ist_rule.specs.RuleTerms.{TokenFace, GoesOnTo, TurnedAt, moment_seen, beginning_read, MomentsGoOn, one_moment, same_moments, now}
use Rattle.ist_rule.specs.declared.view.View.{View}
use Rattle.ist_rule.proofs.LaterLemmas.{later-goes_on, later_more}
use Rattle.ist_rule.proofs.SpeakLemmas.{later_goes_on}
use Rattle.ist_rows.specs.declared.callers.Caller.{Caller}
use Rattle.ist_tree.specs.CallTerms.{HasSeenMore, PassFace, IsPassWith, face_as, pass_face, StepsIn}
use Rattle.ist_tree.proofs.GoingLemmas.{IsLaterView, pass_with_later}
use Rattle.ist_core.proofs.AllLogLemmas.{goes_on_length}
use Rattle.laws_histories.specs.Searching.{HasPosition}
use Rattle.ist_find.specs.Searches.{HasBegunSearch}
use Rattle.ist_find.specs.Spans.{pair_value, HasFewSpanLoads, EndAtEdges}
use Rattle.ist_tree.specs.Spans.{AllHave, HasLoadedFewOver, state_seen}

module _ (who : Caller) (refused : Option Full) (b : View) (token : TokenFace)
    (all : IsPassWith who refused) (turned : TurnedAt who.token.view (beginning_read who.token.view) b)
    (on : GoesOnTo b token.view) where
  -- the view before the read
  abbrev v : View
  v = who.token.view

  -- the view after the read
  abbrev w : View
  w = token.view

  -- the pass after the read
  abbrev following : PassFace
  following = face_as token who.number refused

  w_is : w ≡ record (beginning_read v b.log turned.before) {
    log = w.log;
    loads = w.loads;
    loaded = w.loaded;
  }
  w_is = grind arith

  -- others made the events
  pub read_later : Later v.who v.log w.log
  read_later = grind (arith, later_more)

  -- it is the view of the same caller, later
  pub read_view : IsLaterView v w
  read_view = grind (arith, w_is, read_later)

  -- it is a pass still
  pub read_pass : IsPassWith (record who { token = token }) refused
  read_pass = pass_with_later who token refused all read_view
      (ap (λ (y : View). y.pending) w_is ∙ all.pass.in_none)

  -- whose calls are the same
  pub read_calls : w.calls ≡ v.calls
  read_calls = ap (λ (y : View). y.calls) w_is

  -- as its stamp is
  pub read_stamp : w.stamp ≡ v.stamp
  read_stamp = ap (λ (y : View). y.stamp) w_is

  -- it began one walk
  pub read_once : w.searches ≡ v.searches + 1
  read_once = ap (λ (y : View). y.searches) w_is

  -- by one load
  pub read_began : b.loaded ≡ v.loaded + 1
  read_began = ap (λ (y : View). y.loaded) turned.view

  w_heard : MomentsGoOn (moment_seen v b.log (Begins None) ∷ turned.before) w.moments
  w_heard = subst (MomentsGoOn (moment_seen v b.log (Begins None) ∷ turned.before))
      (sym (ap (λ (y : View). y.moments) w_is))
      (one_moment (moment_seen v b.log GivesUp) same_moments)

  -- it has seen more
  pub read_seen : HasSeenMore (pass_face who refused) following
  read_seen = let stamps = read_stamp in record {
    tree = ap (λ (y : View). record { table = y.table; start = y.start; words = y.words }) w_is;
    number = refl;
    seen = later-goes_on read_later;
    heard = subst (MomentsGoOn v.moments) (sym (ap (λ (y : View). y.moments) w_is))
        (one_moment (moment_seen v b.log GivesUp)
        (one_moment (moment_seen v b.log (Begins None)) (later_goes_on turned.since)));
    stamp = omega arith;
  }

  -- since a step in this call
  pub read_step : StepsIn (pass_face who refused) following b.log
  read_step = grind (arith, later_goes_on, w_heard, later-goes_on)

-- ---- a pass that searched, in no call of its own. Serves `span`.

-- what it results in, for a pass with this face
pub record SpanEnds (old : PassFace) (who : Caller) (refused : Option Full) (token : TokenFace)
    (key first last : ℕ) (pair : Option Pair) : Type 0 where
  pub pass : IsPassWith (record who { token = token }) refused
  pub seen : HasSeenMore old (face_as token who.number refused)
  pub values : AllHave old (face_as token who.number refused) first last pair
  pub calls : token.view.calls ≡ old.calls
  pub stamp : token.view.stamp ≡ old.stamp
  pub edges : EndAtEdges (state_seen (face_as token who.number refused)) first last
  pub loads : HasLoadedFewOver old (face_as token who.number refused) key (pair_value pair key)

-- a read begins with a search that was begun
pub read_begun : (v b : View) → TurnedAt v (beginning_read v) b → HasBegunSearch b
read_begun v b t = ap (λ (y : View). y.loads.since) t.view

-- a search for a range ends so
pub span_ends : (who : Caller) (refused : Option Full) (b : View) (token : TokenFace)
    → IsPassWith who refused → TurnedAt who.token.view (beginning_read who.token.view) b
    → GoesOnTo b token.view → (key first last : ℕ) (pair : Option Pair)
    → HasFewSpanLoads b token.view key (pair_value pair key)
    → EndAtEdges (now token.view) first last → ((k : ℕ) → first ≤ k → k ≤ last → HasPosition token.view.start token.view.words
    b.log token.view.log k (pair_value pair k))
    → (old : PassFace) → pass_face who refused ≡ old → SpanEnds old who refused token key first last pair
span_ends who refused b token all t g key first last pair few edges values old view =
    subst (λ (o : PassFace). SpanEnds o who refused token key first last pair) view from
  where
    v : View
    v = who.token.view

    w : View
    w = token.view

    from : SpanEnds (pass_face who refused) who refused token key first last pair
    from = let later = read_view who refused b token all t g in
        let one = read_began who refused b token all t g in
        let begun = g.since ∙ read_begun v b t in
        let long = goes_on_length (later-goes_on t.later) in let little = few.few in record {
          pass = read_pass who refused b token all t g;
          seen = read_seen who refused b token all t g;
          values = record {
            at = b.log;
            step = read_step who refused b token all t g;
            values = λ k low high.
                subst (λ p. HasPosition p v.words b.log w.log k (pair_value pair k)) later.start_is
                (subst (λ n. HasPosition w.start n b.log w.log k (pair_value pair k)) later.words_is
                (values k low high));
          };
          calls = read_calls who refused b token all t g;
          stamp = read_stamp who refused b token all t g;
          edges = edges;
          loads = record {
            once = read_once who refused b token all t g;
            began = w.loads.since;
            since = omega arith;
            node = few.node;
            searched = few.found.searched;
            rows = few.rows;
            chain = few.chain;
            few = omega arith;
          };
        }
