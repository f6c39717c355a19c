-- New passes and notes. Serves `pass`, `take_back`, `note` and `learn`.
use Rattle.std.proofs.Common.{◌≡◌, ℕ, ◌+◌, ◌≤◌, ◌||◌, not, Bool, true, false, List, [], ◌∷◌, length, map, filter, is_some, Option, Some, None, refl, sym, ap, ◌∙◌, subst, arith}
use Rattle.ist_core.specs.declared.lists.HeldRow.{HeldRow}
use Rattle.ist_core.specs.declared.ports.Full.{Full}
use Rattle.ist_core.specs.declared.events.Event.TheVariants.{Enter}
use Rattle.ist_core.specs.declared.events.Who.TheVariants.{Maker, Caller as CallerOf, Note}
use Rattle.ist_core.specs.LogTerms.{Each, caller_limit, PassCalls, GoesOn, one_event, IsIdleIn}
use Rattle.ist_rule.specs.RuleTerms.{TokenFace, IsSound, MomentsGoOn, now, Looked, awaits_seat, joined, plain, split_right, with_taken}
use Rattle.ist_rule.specs.declared.view.Taken.{Taken}
use Rattle.ist_rule.specs.declared.view.View.{View}
use Rattle.ist_rule.proofs.LaterLemmas.{later-goes_on}
use Rattle.ist_rows.specs.RowTerms.{spares_of, is_spare, held_by, IsCaller, AreStuck, none_stuck, HasEntered}
use Rattle.ist_rows.specs.declared.callers.Caller.{Caller}
use Rattle.ist_tree.specs.CallTerms.{TreeFace, PassFace, MakerFace, with_back, MakerHasLearnt, MakerHasSeenMore, IsPass, IsPassWith, IsMaker, IsMakerWith, IsMakerCounted, HasSettled, IsNote, maker_face, pass_face, taken_pass}
use Rattle.ist_tree.proofs.GoingLemmas.{has_its_calls, idle_settled}
use Rattle.ist_tree.proofs.FewChangesLemmas.{taken_few}

-- a caller that holds no row has no build that goes on
pub new_pass : (who : Caller) → IsCaller who → held_by (now who.token.view) who.number ≡ []
    → who.token.view.pending ≡ None → IsPass who
new_pass who c holds none = record {
  caller = c;
  refused = subst (λ (held : List HeldRow). AreStuck (now who.token.view)
      (map (λ (h : HeldRow). h.size)
      (filter (λ (h : HeldRow). not (is_spare (spares_of who) h.base)) held))) (sym holds)
      none_stuck;
  in_none = none;
}

-- a new caller is a pass's caller: it started and made due nothing
pub new_pass_with : (who : Caller) → IsCaller who → held_by (now who.token.view) who.number ≡ []
    → who.token.view.pending ≡ None → IsSound who.token.view
    → IsIdleIn (CallerOf who.number) who.token.view.log → IsPassWith who None
new_pass_with who c holds none s idle = grind (arith, new_pass, idle_settled)

-- the maker that entered a caller has seen what it had seen
pub entered_goes_on : (v : View) (number : ℕ) (w : View) → HasEntered v number w
    → GoesOn v.log w.log
entered_goes_on v number w h = subst (GoesOn v.log) (sym (ap (λ (x : View). x.log) h.view))
    (one_event (Enter number) (later-goes_on h.later))

-- a maker that enters a caller keeps the passes that it took back
pub entered_maker : (v : View) (number : ℕ) (w : View) (refused : Bool) → HasEntered v number w
    → w.who ≡ Maker → w.given ≡ w.made → IsMakerWith v refused → IsMakerWith w refused
entered_maker v number w refused h maker given m = record {
  maker = record { maker = maker; given = given };
  settled = λ unrefused.
      subst (λ (x : View). Each (λ (t : Taken). HasSettled x.start x.words t.log t.number) x.taken)
      (sym h.view) (m.settled unrefused);
}

-- and counts the new one
pub entered_counted : (v : View) (number : ℕ) (w : View) (refused : Bool) → HasEntered v number w
    → w.who ≡ Maker → w.made ≡ v.made + 1 → w.given ≡ w.made → (made taken_back : ℕ)
    → IsMakerCounted v refused made taken_back → (more : ℕ) → more ≡ v.made + 1
    → IsMakerCounted w refused more taken_back
entered_counted v number w refused h maker one given made taken_back m more is = record {
  with = entered_maker v number w refused h maker given m.with;
  made_is = is ∙ sym one;
  taken_is = m.taken_is ∙ sym (ap (λ (x : View). length (map taken_pass x.taken)) h.view);
}

-- ---- passes that come back

-- a pass that met no refused rebuild, or none is kept of
none_refused : (a : Bool) (r : Option Full) → (a || is_some r) ≡ false → (a ≡ false) × (r ≡ None)
none_refused false None e = (refl, refl)
none_refused false (Some full) e = absurd (cc)
none_refused true r e = absurd (cc)

-- the maker that took it back keeps that all of its own is settled
taken_back : (v w x : View) (number word : ℕ) (before : Bool) (refused : Option Full)
    → IsMakerWith v before → w.who ≡ CallerOf number
    → (refused ≡ None → HasSettled w.start w.words w.log number)
    → w.start ≡ v.start → w.words ≡ v.words → Looked (joined v w) 0 word x
    → IsMakerWith x (before || is_some refused)
taken_back v w x number word before refused m mine its start_is words_is l =
    let who_is = ap (λ (y : View). y.who) l.view in
    let taken_is : x.taken
    ≡ record { number = number; calls = w.calls; log = w.log } ∷ v.taken =
    ap (λ (y : View). y.taken) l.view ∙ ap (λ k. with_taken k w.calls w.log v.taken) mine in
    record {
      maker = record {
        maker = who_is ∙ m.maker.maker;
        given = ap (λ (y : View). y.given) l.view ∙ m.maker.given
            ∙ sym (ap (λ (y : View). y.made) l.view);
      };
      settled = λ unrefused. let both = none_refused before refused unrefused in
          subst (λ (y : View). Each (λ (t : Taken). HasSettled y.start y.words t.log t.number) x.taken)
          (sym l.view)
          (subst (Each (λ (t : Taken). HasSettled v.start v.words t.log t.number)) (sym taken_is) (
            subst (λ pairs. HasSettled pairs v.words w.log number) start_is
                (subst (λ words. HasSettled w.start words w.log number) words_is (its both.1)),
            m.settled both.0,
          ));
    }

-- and counts it
pub back_long : (v w x : View) (number word : ℕ) → w.who ≡ CallerOf number
    → Looked (joined v w) 0 word x
    → length (map taken_pass x.taken) ≡ length (map taken_pass v.taken) + 1
back_long v w x number word mine l = grind arith

-- a maker that took a pass back has not taken back more than the limit
pub back_few : (v w x : View) (number word : ℕ) (refused : Bool) (made back : ℕ)
    → IsMakerCounted v refused made back → w.who ≡ CallerOf number → Looked (joined v w) 0 word x
    → back + 1 ≤ caller_limit
back_few v w x number word refused made back m mine l =
    let maker : IsMaker x = record {
      maker = ap (λ (y : View). y.who) l.view ∙ m.with.maker.maker;
      given = ap (λ (y : View). y.given) l.view ∙ m.with.maker.given
          ∙ sym (ap (λ (y : View). y.made) l.view);
    } in
    let few = taken_few x l.sound maker in let long = back_long v w x number word mine l in
    omega (arith, few.0, few.1, long, m.taken_is)

-- and counts all that it took back
pub back_counted : {v x : View} (w : View) {number word : ℕ} {before said : Bool} {refused : Option Full}
    {made back : ℕ} → IsMakerCounted v before made back → w.who ≡ CallerOf number
    → (refused ≡ None → HasSettled w.start w.words w.log number) → {p q : TreeFace} → p ≡ q
    → p.start ≡ w.start → p.words ≡ w.words → q.start ≡ v.start → q.words ≡ v.words
    → Looked (joined v w) 0 word x → said ≡ is_some refused
    → IsMakerCounted x (before || said) made (back + 1)
back_counted {v} {x} w {number} {word} {before} {said} {refused} m mine its same a b c d l is =
    let long = back_long v w x number word mine l in record {
      with = subst (λ said. IsMakerWith x (before || said)) (sym is)
          (taken_back v w x number word before refused m.with mine its
          (sym a ∙ ap (λ (t : TreeFace). t.start) same ∙ c)
          (sym b ∙ ap (λ (t : TreeFace). t.words) same ∙ d) l);
      made_is = m.made_is ∙ sym (ap (λ (y : View). y.made) l.view);
      taken_is = omega (arith, long, m.taken_is);
    }

-- ---- notes

-- a maker that learnt what a note holds keeps the passes that it took back
pub learnt : (v w x : View) (word : ℕ) (refused : Bool) → IsMakerWith v refused → IsNote w
    → Looked (joined v w) 0 word x → IsMakerWith x refused × (x.taken ≡ v.taken)
learnt v w x word refused m note l =
    let taken_is : x.taken ≡ v.taken = ap (λ (y : View). y.taken) l.view
    ∙ ap (λ k. with_taken k w.calls w.log v.taken) note.of_pass in (
      record {
        maker = record {
          maker = ap (λ (y : View). y.who) l.view ∙ m.maker.maker;
          given = ap (λ (y : View). y.given) l.view ∙ m.maker.given
              ∙ sym (ap (λ (y : View). y.made) l.view);
        };
        settled = λ unrefused.
            subst (λ (y : View). Each (λ (t : Taken). HasSettled y.start y.words t.log t.number) x.taken)
            (sym l.view)
            (subst (Each (λ (t : Taken). HasSettled v.start v.words t.log t.number)) (sym taken_is)
            (m.settled unrefused));
      },
      taken_is,
    )

-- in the view of a caller no other waits for its token
awaits_none : (v : View) (number : ℕ) → v.who ≡ CallerOf number → awaits_seat v ≡ false
awaits_none v number mine = grind arith

-- what is split from it is a note of it
note_is : (v : View) (number : ℕ) → v.who ≡ CallerOf number
    → split_right v ≡ plain v (Note (Some number)) v.calls
note_is v number mine = grind (arith, awaits_none)

-- a note of a pass keeps the pass's calls
pub new_note : (who : Caller) (w : View) → IsSound who.token.view → IsPass who
    → w ≡ split_right who.token.view → IsNote w
new_note who w s p is = let v = who.token.view in
    subst IsNote (sym (is ∙ note_is v who.number p.caller.mine)) record {
      number = who.number;
      of_pass = refl;
      in_none = refl;
      calls = has_its_calls v who.number s p.caller.mine p.in_none;
    }

-- ---- what a maker knows after it met a pass or a note

module _ (old new : TokenFace) (w : View) (word : ℕ) (l : Looked (joined old.view w) 0 word new.view)
  where
    -- it has seen more, and has these passes back
    pub maker_more : GoesOn old.view.log new.view.log
        → MomentsGoOn old.view.moments new.view.moments → (before after : Bool)
        → (taken : List PassCalls) → map taken_pass new.view.taken ≡ taken
        → MakerHasSeenMore (record (maker_face old before) { taken = taken; refused = after })
        (maker_face new after)
    maker_more on heard before after taken is = grind arith

    -- and what that one knew
    pub maker_learnt : GoesOn w.log new.view.log → MomentsGoOn w.moments new.view.moments
        → {q p : PassFace} → q ≡ p → q.seen ≡ w.log → q.moments ≡ w.moments → q.stamp ≡ w.stamp
        → {after : Bool} → MakerHasLearnt (maker_face new after) p
    maker_learnt on heard same seen_is moments_is stamp_is {after} = grind arith

-- a maker that took a pass back has its calls
pub maker_back : (old new : TokenFace) (who : Caller) (word : ℕ)
    → Looked (joined old.view who.token.view) 0 word new.view
    → who.token.view.who ≡ CallerOf who.number → GoesOn old.view.log new.view.log
    → MomentsGoOn old.view.moments new.view.moments → {before said : Bool} {refused : Option Full}
    → said ≡ is_some refused → {p : PassFace} → pass_face who refused ≡ p → {m : MakerFace}
    → maker_face old before ≡ m → MakerHasSeenMore (with_back p m) (maker_face new (before || said))
maker_back old new who word l mine on heard {before} {said} {refused} is {p} pass {m} maker =
    grind arith
