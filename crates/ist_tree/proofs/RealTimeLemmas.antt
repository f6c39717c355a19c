-- The calls of a tree in real time. Serves `Pass::know` and `close`.
use Rattle.std.proofs.Common.{◌≡◌, ◌≢◌, ◌⊎◌, ℕ, ◌<◌, ◌≤◌, ◌==◌, true, false, List, [], ◌∷◌, map, Option, refl, ◌∙◌, inl, inr, arith, Bool, length, Some, None, sym, ap, subst, ⊎_elim}
use Rattle.std.proofs.lemmas.Bool.Decides.{eqb_tells}
use Rattle.ist_core.specs.declared.ports.Full.{Full}
use Rattle.ist_core.specs.declared.states.ChangeRow.{ChangeRow}
use Rattle.ist_core.specs.LogTerms.{Each, Log, Lawful, state_of}
use Rattle.laws_real_time.specs.Moments.{in_call}
use Rattle.ist_rule.specs.RuleTerms.{IsSound, TokenFace, IsTakenBack, IsLast, HasSpoken, IsSilent, StandsInPrefix}
use Rattle.ist_rule.specs.declared.view.Taken.{Taken}
use Rattle.ist_rule.specs.declared.view.View.{View}
use Rattle.ist_rule.proofs.SpeakLemmas.{out_of_call, later_goes_on, silent_spoken}
use Rattle.ist_rows.specs.declared.callers.Caller.{Caller}
use Rattle.ist_tree.specs.CallTerms.{calls_numbered, pass_face, taken_pass, IsPass, IsLinearizableFor, MakerFace, ClosesInTime, calls_taken, ClosesWith, maker_face, IsMakerWith, HasSettled}
use Rattle.ist_core.specs.WordTerms.{IsImage, Change}
use Rattle.ist_core.specs.TreeTerms.{Entry, changes_of, map_after_entries, map_of, replay, AllResolved, AllStandIn, IsSettled, StandsIn}
use Rattle.ist_core.proofs.AllWordLemmas.{each-among, each_of}
use Rattle.ist_core.proofs.AllLogLemmas.{words_same}
use Rattle.laws_links.proofs.StartingLemmas.{owner_known}
use Rattle.laws_histories.proofs.CallLemmas.{stand_on}
use Rattle.laws_histories.proofs.EntryLemmas.{entry_update}
use Rattle.laws_real_time.specs.declared.moments.Moment.{Moment}
use Rattle.ist_rule.proofs.LaterLemmas.{later-goes_on, goes_on_more}
use Rattle.ist_rule.proofs.JoinLemmas.{below_or}
use Rattle.laws_calls.proofs.SettledLemmas.{settled}
use Rattle.ist_tree.proofs.GoingLemmas.{settled_later}
use Rattle.ist_tree.proofs.FewChangesLemmas.{all_below, each_number, numbers_long, IsNumbered, numbered_is, lists_long, lists_stand, each_get}

-- the calls that a pass has heard of are linearizable
pub pass_linear : (who : Caller) (refused : Option Full) → IsSound who.token.view → IsPass who
    → IsLinearizableFor (pass_face who refused)
pass_linear who refused s p = grind (arith, out_of_call)

-- a number that no caller has whose token was taken back has no calls
pub none_numbered : (number bound : ℕ) (ts : List Taken) → bound ≤ number
    → Each (λ t. t.number < bound) ts → calls_numbered number (map taken_pass ts) ≡ []
none_numbered number bound [] above low = refl
none_numbered number bound (t ∷ ts) above low =
    at (none_numbered number bound ts above low.1) (eqb_tells t.number number)
  where
    at : calls_numbered number (map taken_pass ts) ≡ []
        → (((t.number == number) ≡ true) × (t.number ≡ number)) ⊎ (((t.number == number) ≡ false) × (t.number ≢ number))
        → calls_numbered number (map taken_pass (t ∷ ts)) ≡ []
    at rest (inl k) = let less = low.0 in let same = k.1 in absurd (omega arith)
    at rest (inr k) = rw k.0 rest

-- ---- the words of a tree whose passes were all taken back. Serves `close`.

-- what is true of the last log, in a table of this many words
record EndsIn (m : MakerFace) (image : List ℕ) (log : Log) (words : ℕ) : Type 0 where
  pub lawful : Lawful m.tree.start words log
  pub is_image : IsImage (state_of m.tree.start words log) image
  pub resolved : AllResolved (state_of m.tree.start words log) log
  pub callers : (state_of m.tree.start words log).callers ≡ length (calls_taken m)
  pub stand : AllStandIn m.tree.start words log 0 (calls_taken m)
  pub owners : Each (λ (e : Entry). e.owner < m.made) (changes_of m.tree.start words log)
  -- if no rebuild was refused, each linked inner row is open and below its limit
  pub settled : m.refused ≡ false → IsSettled (state_of m.tree.start words log)

-- the last words of a table whose maker took all passes back
module _ (token : TokenFace) (image : List ℕ) (refused : Bool) (is : IsMakerWith token.view refused)
    (all_back : length (map taken_pass token.view.taken) ≡ token.view.made)
    (last : IsLast token.view image) where
  abbrev v : View
  v = token.view

  abbrev m : MakerFace
  m = maker_face token refused

  -- it has as many callers as passes were made
  made_is : v.made ≡ (state_of v.start v.words last.log).callers
  made_is = (last.is_true.made is.maker.maker).0

  -- each of them was taken back
  numbered : (number : ℕ) → number < v.made → IsNumbered number v.taken
  numbered number lt = let given = is.maker.given in let long = numbers_long v.taken in
      numbered_is number v.taken
      (all_below v.made (map (λ (t : Taken). t.number) v.taken) last.well_made.taken_once
      (each_number (λ n. n < v.made) v.taken
      (subst (λ n. Each (λ (t : Taken). t.number < n) v.taken) given last.well_made.taken_given))
      (long ∙ all_back) number lt)

  -- and its calls are placed in the last log
  stands : (number : ℕ) → number < v.made
      → StandsIn v.start v.words last.log number (calls_numbered number (map taken_pass v.taken))
  stands number lt = let it = numbered number lt in let t = it.taken in
      let back = each-among (IsTakenBack v.start v.words last.log) t v.taken last.is_true.taken
      it.among in
      let old = each-among (λ (x : Taken). StandsInPrefix v.start v.words x.log x.number x.calls) t
      v.taken last.well_made.taken_stand it.among in
      subst (λ calls. StandsIn v.start v.words last.log number calls) (sym it.calls_are)
      (subst (λ n. StandsIn v.start v.words last.log n t.calls) it.number_is
      (stand_on v.start v.words old.prefix last.log t.number t.calls
      (goes_on_more old.goes_on (later-goes_on back.later))
      (back.between.made ∙ sym old.stands.exactly) old.stands))

  -- each change is of one of them
  known : (base : ℕ) (change : ChangeRow)
      → (state_of v.start v.words last.log).pieces base ≡ Some (Change change)
      → change.owner < v.made
  known base change e = grind (arith, owner_known, made_is)

  -- all of its own is settled, if none met a refused rebuild
  own_settled : refused ≡ false → (number : ℕ) → number < v.made
      → HasSettled v.start v.words last.log number
  own_settled unrefused number lt = let it = numbered number lt in let t = it.taken in
      let back = each-among (IsTakenBack v.start v.words last.log) t v.taken last.is_true.taken
      it.among in
      let old = each-among (λ (x : Taken). HasSettled v.start v.words x.log x.number) t v.taken
      (is.settled unrefused) it.among in
      subst (HasSettled v.start v.words last.log) it.number_is
      (settled_later v.start v.words t.log last.log last.lawful t.number back.later old)

  ends_here : EndsIn m image last.log v.words
  ends_here = record {
    lawful = last.lawful;
    is_image = last.is_image;
    resolved = λ caller base change e own.
        (let it = numbered change.owner (known base change e) in
        let back = each-among (IsTakenBack v.start v.words last.log) it.taken v.taken
        last.is_true.taken it.among in
        back.between.resolved base change e (sym it.number_is));
    callers = sym made_is ∙ sym (lists_long 0 v.made (map taken_pass v.taken));
    stand = lists_stand v.start v.words last.log (map taken_pass v.taken) 0 v.made
        (λ w lt. stands w (omega arith));
    owners = each_get (λ (e : Entry). e.owner < v.made) (changes_of v.start v.words last.log)
        (λ i e at.
        (let u = entry_update v.start v.words last.lawful.opens last.log last.lawful.enabled i e
        at in
        let low = known u.0 u.1.change u.1.published in
        let own = same_owner e _ (sym at ∙ u.1.entry) in
        omega arith));
    settled = λ unrefused. settled v.start v.words last.lawful.opens last.log last.lawful.enabled
        (λ number lt. (own_settled unrefused number (below number lt)).starts)
        (λ number lt. (own_settled unrefused number (below number lt)).due);
  }
    where
      same_owner : (a b : Entry) → Some a ≡ Some b → a.owner ≡ b.owner
      same_owner a b e = ap (λ (x : Entry). x.owner) (let s : a ≡ b = cc in s)

      below : (number : ℕ) → number < (state_of v.start v.words last.log).callers → number < v.made
      below number lt = subst (λ n. number < n) (sym made_is) lt

  -- the words are as many as the table has
  pub image_long : length image ≡ v.words
  image_long = last.is_image.size ∙ words_same v.start v.words last.lawful.opens last.log

  -- no moment is of a number from this one on
  silent : (number : ℕ) → v.made ≤ number → IsSilent number last.moments
  silent number le =
      let given = is.maker.given in last.heard.silent is.maker.maker number (omega arith)

  -- by the moments each pass made the calls that were kept of it
  spoken : (number : ℕ)
      → HasSpoken last.moments number (calls_numbered number (map taken_pass v.taken)) None
  spoken number = ⊎_elim near far (below_or number v.made)
    where
      near : number < v.made
          → HasSpoken last.moments number (calls_numbered number (map taken_pass v.taken)) None
      near lt = let it = numbered number lt in
          subst (λ calls. HasSpoken last.moments number calls None) (sym it.calls_are)
          (subst (λ n. HasSpoken last.moments n it.taken.calls None) it.number_is
          (each-among (λ (t : Taken). HasSpoken last.moments t.number t.calls None) it.taken v.taken
          last.heard.taken it.among))

      far : v.made ≤ number
          → HasSpoken last.moments number (calls_numbered number (map taken_pass v.taken)) None
      far le = subst (λ calls. HasSpoken last.moments number calls None)
          (sym (none_numbered number v.made v.taken le
          (subst (λ n. Each (λ (t : Taken). t.number < n) v.taken) is.maker.given last.well_made.taken_given)))
          (silent_spoken number last.moments (silent number le))

  -- the calls of all passes are linearizable
  in_time : ClosesInTime m.tree.start m.made m.moments m.taken
  in_time = record {
    moments = last.moments;
    goes_on = later_goes_on last.heard.later;
    linear = last.linear.linear;
    callers = each_of (λ (x : Moment). x.caller < v.made) last.moments
        (λ x i. ⊎_elim (λ l. l)
        (λ l. absurd (each-among (λ (y : Moment). y.caller ≢ x.caller) x last.moments
        (silent x.caller l) i refl)) (below_or x.caller v.made));
    calls = λ number. (spoken number).calls_are;
    over = λ number. out_of_call (in_call number last.moments) (spoken number).pending_is;
  }

  -- the words represent the calls of all passes
  pub closes_with : ClosesWith m image
  unfolding in_time
  closes_with = let e = subst (EndsIn m image last.log) (sym image_long) ends_here in record {
    stands = record {
      log = last.log;
      lawful = e.lawful;
      image = e.is_image;
      resolved = e.resolved;
      calls = calls_taken m;
      told_are = refl;
      at_rest = e.callers;
      stand = e.stand;
    };
    calls_are = refl;
    goes_on = later-goes_on last.later;
    owners = e.owners;
    timed = in_time;
    leads = subst (λ n. replay (map_of v.start) (map (λ x. x.command) last.linear.linear.order)
        ≡ map_after_entries (map_of v.start) (changes_of v.start n last.log)) (sym image_long)
        last.linear.leads;
    settled = e.settled;
  }
