-- All next rows of a build at one step: they may be reserved so, and the caller has them then. Serves
-- `reserve_block` and the crates above.
use Rattle.std.proofs.Common.{◌≡◌, ℕ, ◌+◌, ◌<◌, ◌≤◌, List, [], ◌∷◌, ◌++◌, length, Option, Some, None, IfSome, refl, sym, ap, ◌∙◌, subst, append_assoc, append-nil, inl, arith}
use Rattle.std.specs.List.{sum}
use Rattle.std.proofs.lemmas.List.Sums.{sum_by-cons}
use Rattle.ist_core.specs.declared.pairs.Pair.{Pair}
use Rattle.ist_core.specs.declared.lists.HeldRow.{HeldRow}
use Rattle.ist_core.specs.declared.events.Event.TheVariants.{Reserve}
use Rattle.ist_core.specs.declared.events.Who.TheVariants.{Caller as CallerOf}
use Rattle.ist_core.specs.WordTerms.{next_place, start}
use Rattle.ist_core.specs.LogTerms.{Among, Each, Log, Enabled, EachEnabled, Lawful, state_of, Later, shown_next}
use Rattle.ist_core.proofs.AllWordLemmas.{among_left, among_right}
use Rattle.ist_core.proofs.AllLogLemmas.{words_same, next_word}
use Rattle.ist_rule.specs.RuleTerms.{TokenFace, IsSound, now, GoesOnTo, CanMake}
use Rattle.ist_rule.specs.declared.view.View.{View}
use Rattle.ist_rule.specs.Several.{with_events, made_after_all, ComeAt, CanExchangeAll}
use Rattle.ist_rule.proofs.LaterLemmas.{later_more}
use Rattle.ist_rule.proofs.ListLogLemmas.{enabled_before}
use Rattle.ist_rule.proofs.EventLemmas.{callers_later, may_come_before, goes_on_who}
use Rattle.ist_rows.specs.RowTerms.{Caller, Spares, spares_of, IsCaller, IsInBuild, HasTaken, HoldsBlock, reservings, AreNext, ReservedAll, HasNoRoom, MayTakeAll}
use Rattle.ist_rows.proofs.CallerLemmas.{IsCallerIn, caller_later, fair_inner}
use Rattle.ist_rows.proofs.CallerGoingLemmas.{caller_refused}
use Rattle.ist_rows.proofs.BuildingLemmas.{IsInBuildIn, at_later, next_fair, taken_inner, taken_at}

-- ---- in a state

module _ (pairs : List Pair) (words number : ℕ) (own : Spares) (stuck rest : List ℕ) where
  -- rows of these sizes may be reserved at one step, if they fit
  pub come_all : (log : Log) → EachEnabled (start pairs words) log
      → number < (state_of pairs words log).callers
      → IsCallerIn (state_of pairs words log) number own → (done sizes : List ℕ)
      → IsInBuildIn (state_of pairs words log) number own stuck done (sizes ++ rest)
      → (base : ℕ) → base ≡ (state_of pairs words log).next
      → base + sum sizes ≤ (state_of pairs words log).words
      → ComeAt pairs words log (reservings number base sizes) next_place base (base + sum sizes)
  come_all log enabled low c done [] h base is room = grind arith
  come_all log enabled low c done (size ∷ more) h base is room =
      let all : sum (size ∷ more) ≡ size + sum more = sum_by-cons (λ x. x) size more in
      let builds = next_fair pairs words log enabled number own stuck done (more ++ rest) size c h in
      let can : Enabled (start pairs words) log (Reserve number base size) = record {
        known = low;
        base_is = is;
        room = omega arith;
        fair = fair_inner pairs words log enabled number own c size builds;
      } in
      let after : EachEnabled (start pairs words) (Reserve number base size ∷ log) =
      (enabled, can) in
      let end : base + size + sum more ≡ base + sum (size ∷ more) = omega arith in (
        can,
        base + size,
        refl,
        subst (ComeAt pairs words (Reserve number base size ∷ log)
            (reservings number (base + size) more) next_place (base + size)) end
            (come_all (Reserve number base size ∷ log) after low
            (taken_inner pairs words log number own size base after c builds)
            (done ++ size ∷ []) more
            (taken_at pairs words log number own size base after c stuck done (more ++ rest) h)
            (base + size) refl (omega arith)),
      )

  -- after them the caller is still one, and is at the row that follows them
  pub after_all : (log : Log) (done sizes : List ℕ) (base : ℕ)
      → EachEnabled (start pairs words) (with_events (reservings number base sizes) log)
      → IsCallerIn (state_of pairs words log) number own
      → IsInBuildIn (state_of pairs words log) number own stuck done (sizes ++ rest)
      → IsCallerIn (state_of pairs words (with_events (reservings number base sizes) log)) number own
      × IsInBuildIn (state_of pairs words (with_events (reservings number base sizes) log)) number
      own stuck (done ++ sizes) rest
  after_all log done [] base enabled c h = (
    c,
    subst (λ xs. IsInBuildIn (state_of pairs words log) number own stuck xs rest)
        (sym (append-nil done)) h,
  )
  after_all log done (size ∷ more) base enabled c h =
      let here = enabled_before (start pairs words) (reservings number (base + size) more)
      (Reserve number base size ∷ log) enabled in
      let builds = next_fair pairs words log here.0 number own stuck done (more ++ rest) size c h in
      let last = with_events (reservings number (base + size) more)
      (Reserve number base size ∷ log) in
      let it = after_all (Reserve number base size ∷ log) (done ++ size ∷ []) more (base + size)
      enabled (taken_inner pairs words log number own size base here c builds)
      (taken_at pairs words log number own size base here c stuck done (more ++ rest) h) in (
        it.0,
        subst (λ xs. IsInBuildIn (state_of pairs words last) number own stuck xs rest)
            (append_assoc done (size ∷ []) more) it.1,
      )

-- what is held stays held after more reservings
held_through : (pairs : List Pair) (words number : ℕ) (log : Log) (sizes : List ℕ) (base : ℕ)
    (h : HeldRow) → Among h (state_of pairs words log).held
    → Among h (state_of pairs words (with_events (reservings number base sizes) log)).held
held_through pairs words number log [] base h i = i
held_through pairs words number log (size ∷ more) base h i =
    held_through pairs words number (Reserve number base size ∷ log) more (base + size) h
    (among_left h (state_of pairs words log).held
    (record { caller = number; base = base; size = size } ∷ []) i)

-- the caller holds all the rows
pub holds_all : (pairs : List Pair) (words number : ℕ) (log : Log) (sizes : List ℕ) (base : ℕ)
    → HoldsBlock (state_of pairs words (with_events (reservings number base sizes) log)) number base
    sizes
holds_all pairs words number log [] base = tt
holds_all pairs words number log (size ∷ more) base = (
  held_through pairs words number (Reserve number base size ∷ log) more (base + size)
      record { caller = number; base = base; size = size }
      (among_right record { caller = number; base = base; size = size }
      (state_of pairs words log).held
      (record { caller = number; base = base; size = size } ∷ []) (inl refl)),
  holds_all pairs words number (Reserve number base size ∷ log) more (base + size),
)

-- reservings enter no caller
pub none_made : (number base : ℕ) (sizes : List ℕ) (made : ℕ)
    → made_after_all (reservings number base sizes) made ≡ made
none_made number base [] made = refl
none_made number base (size ∷ more) made = none_made number (base + size) more made

-- ---- may be reserved

-- a caller may take all next rows of its build, whatever others do meanwhile
pub may_take_all : (who : Caller) (sizes : List ℕ) → IsSound who.token.view → IsCaller who
    → AreNext who sizes → MayTakeAll who.token.view who.number sizes
may_take_all who sizes s c n log m room = let v = who.token.view in
    let l = subst (λ w. Later w v.log log) c.mine m.later in
    let h = at_later v.start v.words v.log log who.number (spares_of who) n.stuck n.done
    (sizes ++ n.rest) m.lawful l
    record { sizes = n.at.sizes; all_stuck = n.at.all_stuck; building = n.at.building } in
    let in_it = caller_later v.start v.words v.log log who.number (spares_of who) m.lawful l
    record { rows = c.rows; builds = c.builds } in
    let low = s.is_true.low who.number c.mine in
    let more = callers_later v.start v.words v.log log m.later in
    come_all v.start v.words who.number (spares_of who) n.stuck n.rest log m.lawful.enabled
    (omega arith) in_it n.done sizes h (state_of v.start v.words log).next refl room

-- what a caller may take it may take later
pub may_take_all_on : (v w : View) (number : ℕ) (sizes : List ℕ) → GoesOnTo v w
    → MayTakeAll v number sizes → MayTakeAll w number sizes
may_take_all_on v w number sizes g fair log m =
    subst (λ p. (state_of p w.words log).next + sum sizes ≤ (state_of p w.words log).words
    → ComeAt p w.words log (reservings number (state_of p w.words log).next sizes)
    next_place (state_of p w.words log).next ((state_of p w.words log).next + sum sizes))
    (sym (ap (λ x. x.start) g.same))
    (subst (λ n. (state_of v.start n log).next + sum sizes ≤ (state_of v.start n log).words
    → ComeAt v.start n log (reservings number (state_of v.start n log).next sizes)
    next_place (state_of v.start n log).next ((state_of v.start n log).next + sum sizes))
    (sym (ap (λ x. x.words) g.same))
    (fair log (may_come_before v w g log m)))

-- any token of the caller may make each of the reservings
make_all : (who number base : _) (sizes : List ℕ) → who ≡ CallerOf number
    → Each (λ event. (w : View) → w.who ≡ who → CanMake w event) (reservings number base sizes)
make_all who number base [] is = tt
make_all who number base (size ∷ more) is = (
  (λ w e. record { mine = sym is ∙ sym e; stored = tt; allowed = tt }),
  make_all who number (base + size) more is,
)

-- one reserving per size
length-reservings : (number base : ℕ) (sizes : List ℕ)
    → length (reservings number base sizes) ≡ length sizes
length-reservings number base [] = refl
length-reservings number base (size ∷ more) =
    let it = length-reservings number (base + size) more in omega arith

-- an exchange of the first word may be all the reservings
pub can_reserve_all : (v : View) (number old : ℕ) (sizes : List ℕ) → v.who ≡ CallerOf number
    → 1 ≤ length sizes → old + sum sizes ≤ v.words → MayTakeAll v number sizes
    → CanExchangeAll v next_place old (old + sum sizes) (reservings number old sizes)
can_reserve_all v number old sizes who several room fair = record {
  some = let it = length-reservings number old sizes in omega arith;
  make = make_all v.who number old sizes who;
  known = λ log m. ((state_of v.start v.words log).next, shown_next);
  comes = λ log m shown.
      let is = next_word v.start v.words log m.lawful.enabled next_place old shown refl in
      let all = words_same v.start v.words m.lawful.opens log in
      subst (λ n. ComeAt v.start v.words log (reservings number n sizes) next_place n
      (n + sum sizes)) (sym is) (fair log m (omega arith));
}

-- ---- a caller that reserved them

-- the log after the reservings, as a list of enabled events, and the place of the caller before
pub record TookAll (v : View) (number base : ℕ) (sizes : List ℕ) (w : View) : Type 0 where
  pub before : Log
  pub lawful : Lawful v.start v.words (with_events (reservings number base sizes) before)
  pub later : Later v.who v.log before
  pub now_is : now w ≡ state_of v.start v.words (with_events (reservings number base sizes) before)
  pub who_is : w.who ≡ v.who

-- a token that reserved these rows has such a log
pub took_all : (v : View) (number base : ℕ) (sizes : List ℕ) (w : View)
    → ReservedAll v number base sizes w → TookAll v number base sizes w
took_all v number base sizes w r = grind (arith, later_more, goes_on_who)

module _ (who : Caller) (token : TokenFace) (base : ℕ) (sizes : List ℕ) (c : IsCaller who)
    (r : ReservedAll who.token.view who.number base sizes token.view) where
  abbrev v : View
  v = who.token.view

  it : TookAll v who.number base sizes token.view
  it = took_all v who.number base sizes token.view r

  later : Later (CallerOf who.number) v.log it.before
  later = subst (λ x. Later x v.log it.before) c.mine it.later

  before : Lawful v.start v.words it.before
  before = grind (arith, enabled_before)

  both : (stuck done rest : List ℕ) → IsInBuild who stuck done (sizes ++ rest)
      → IsCallerIn (now token.view) who.number (spares_of who)
      × IsInBuildIn (now token.view) who.number (spares_of who) stuck (done ++ sizes) rest
  both stuck done rest h =
      subst (λ t. IsCallerIn t who.number (spares_of who)
      × IsInBuildIn t who.number (spares_of who) stuck (done ++ sizes) rest) (sym it.now_is)
      (after_all v.start v.words who.number (spares_of who) stuck rest it.before done sizes base
      it.lawful.enabled
      (caller_later v.start v.words v.log it.before who.number (spares_of who) before later
      record { rows = c.rows; builds = c.builds })
      (at_later v.start v.words v.log it.before who.number (spares_of who) stuck done
      (sizes ++ rest) before later
      record { sizes = h.sizes; all_stuck = h.all_stuck; building = h.building }))

  -- a caller that took the rows is a caller
  pub caller_took_all : AreNext who sizes → IsCaller (record who { token = token })
  caller_took_all n = let there = (both n.stuck n.done n.rest n.at).0 in
      record { mine = it.who_is ∙ c.mine; rows = there.rows; builds = there.builds }

  -- the caller has taken the rows
  pub has_taken_all : HasTaken who sizes (record who { token = token })
  has_taken_all stuck done rest h = let there = (both stuck done rest h).1 in
      record { sizes = there.sizes; all_stuck = there.all_stuck; building = there.building }

  -- the caller holds the rows
  pub holds_them : HoldsBlock (now token.view) who.number base sizes
  holds_them = grind (arith, holds_all)

-- ---- what a reserving of all returns

-- a caller is still one after it, whatever it returns
pub caller_after_all : (who : Caller) (token : TokenFace) (words asked : ℕ) (sizes : List ℕ)
    (answer : Option ℕ) → IsCaller who → AreNext who sizes
    → IfSome answer (λ base. ReservedAll who.token.view who.number base sizes token.view)
    → (answer ≡ None → HasNoRoom who.token.view words asked token.view)
    → IsCaller (record who { token = token })
caller_after_all who token words asked sizes (Some base) c n ok none =
    caller_took_all who token base sizes c ok n
caller_after_all who token words asked sizes None c n ok none = let it = none refl in
    caller_refused who token words asked it.0 c it.1

-- if it returns a base, the caller has taken the rows
pub taken_after_all : (who : Caller) (token : TokenFace) (sizes : List ℕ) (answer : Option ℕ)
    → IsCaller who
    → IfSome answer (λ base. ReservedAll who.token.view who.number base sizes token.view)
    → IfSome answer (λ base. HasTaken who sizes (record who { token = token }))
taken_after_all who token sizes (Some base) c ok = has_taken_all who token base sizes c ok
taken_after_all who token sizes None c ok = tt
