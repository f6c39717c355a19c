-- A caller whose reserving took the next row of its build, or was refused. Serves `reserve_inner`
-- and the crates above.
use Rattle.std.proofs.Common.{◌≡◌, ℕ, List, [], ◌∷◌, ◌++◌, Result, Ok, Err, IfOk, IfErr, sym, ap, ◌∙◌, subst, arith}
use Rattle.ist_core.specs.declared.ports.Full.{Full}
use Rattle.ist_core.specs.declared.events.Who.TheVariants.{Caller as CallerOf}
use Rattle.ist_core.specs.LogTerms.{Lawful, state_of, Later}
use Rattle.ist_core.proofs.AllLogLemmas.{words_same}
use Rattle.ist_rule.specs.RuleTerms.{TokenFace, now, GoesOnTo, storing}
use Rattle.ist_rule.specs.declared.view.View.{View}
use Rattle.ist_rule.proofs.WentOnLemmas.{goes_on_now}
use Rattle.ist_rows.specs.RowTerms.{Caller, spares_of, IsCaller, Reserved, IsFull, AreStuck, IsInBuild, IsNext, HasTaken, HasRefused}
use Rattle.ist_rows.proofs.CallerLemmas.{IsCallerIn, caller_later}
use Rattle.ist_rows.proofs.CallerGoingLemmas.{caller_refused}
use Rattle.ist_rows.proofs.ReserveLemmas.{Took, looked_next, took}
use Rattle.ist_rows.proofs.BuildingLemmas.{IsInBuildIn, stuck_last, at_later, next_fair, taken_inner, taken_at}
use Rattle.ist_rows.proofs.ShortLemmas.{short_goes_on}

-- a caller that took the next row of its build is a caller, and is at the row after it
module _ (who : Caller) (token : TokenFace) (base size : ℕ) (c : IsCaller who)
    (r : Reserved who.token.view who.number base size token.view) where
  abbrev v : View
  v = who.token.view

  abbrev w : View
  w = token.view

  it : Took v who.number base size w
  it = took v who.number base size w r

  later : Later (CallerOf who.number) v.log it.before
  later = subst (λ x. Later x v.log it.before) c.mine it.later

  before : Lawful v.start v.words it.before
  before = record { opens = it.lawful.opens; enabled = it.lawful.enabled.0 }

  caller_before : IsCallerIn (state_of v.start v.words it.before) who.number (spares_of who)
  caller_before =
      caller_later v.start v.words v.log it.before who.number (spares_of who) before later
      record { rows = c.rows; builds = c.builds }

  at_before : (stuck done rest : List ℕ) → IsInBuild who stuck done rest
      → IsInBuildIn (state_of v.start v.words it.before) who.number (spares_of who) stuck done rest
  at_before stuck done rest h =
      at_later v.start v.words v.log it.before who.number (spares_of who) stuck done rest before
      later record { sizes = h.sizes; all_stuck = h.all_stuck; building = h.building }

  -- a caller that took the next row is a caller
  pub caller_took : IsNext who size → IsCaller (record who { token = token })
  caller_took n =
      let there = subst (λ t. IsCallerIn t who.number (spares_of who)) (sym it.now_is)
      (taken_inner v.start v.words it.before who.number (spares_of who) size base it.lawful.enabled
      caller_before (next_fair v.start v.words it.before it.lawful.enabled.0 who.number
      (spares_of who) n.stuck n.done n.rest size caller_before
      (at_before n.stuck n.done (size ∷ n.rest) n.at))) in
      record { mine = it.who_is ∙ c.mine; rows = there.rows; builds = there.builds }

  -- the caller is at the row after the one that it took
  pub at_took : (stuck done rest : List ℕ) → IsInBuild who stuck done (size ∷ rest)
      → IsInBuild (record who { token = token }) stuck (done ++ size ∷ []) rest
  at_took stuck done rest h =
      let there = subst (λ t. IsInBuildIn t who.number (spares_of who) stuck
      (done ++ size ∷ []) rest) (sym it.now_is)
      (taken_at v.start v.words it.before who.number (spares_of who) size base it.lawful.enabled
      caller_before stuck done rest (at_before stuck done (size ∷ rest) h)) in
      record { sizes = there.sizes; all_stuck = there.all_stuck; building = there.building }

-- ---- the token goes on

-- a caller is at its build if its token made loads
pub at_goes_on : (who : Caller) (token : TokenFace) (stuck done rest : List ℕ) → IsCaller who
    → GoesOnTo who.token.view token.view → IsInBuild who stuck done rest
    → IsInBuild (record who { token = token }) stuck done rest
at_goes_on who token stuck done rest c g h = let v = who.token.view in
    let lawful : Lawful v.start v.words token.view.log =
    subst (λ p. Lawful p v.words token.view.log) (ap (λ x. x.start) g.same)
    (subst (λ n. Lawful token.view.start n token.view.log) (ap (λ x. x.words) g.same)
    g.sound.lawful) in
    let there = subst (λ t. IsInBuildIn t who.number (spares_of who) stuck done rest)
    (sym (goes_on_now v token.view g))
    (at_later v.start v.words v.log token.view.log who.number (spares_of who) stuck done rest lawful
    (subst (λ w. Later w v.log token.view.log) c.mine g.later)
    record { sizes = h.sizes; all_stuck = h.all_stuck; building = h.building }) in
    record { sizes = there.sizes; all_stuck = there.all_stuck; building = there.building }

-- a caller is at its build if it stored a word
pub at_storing : (who : Caller) (place word : ℕ) (stuck done rest : List ℕ)
    → IsInBuild who stuck done rest
    → IsInBuild (record who { token = record who.token { view = storing who.token.view place word } })
    stuck done rest
at_storing who place word stuck done rest h = grind arith

-- a caller whose build was refused has only refused builds
pub refused : (who : Caller) (token : TokenFace) (words size : ℕ) (full : Full) → IsCaller who
    → words ≡ who.token.view.words
    → IsNext who size → IsFull who.token.view words size full token.view
    → HasRefused (record who { token = token })
refused who token words size full c words_is n f = let v = who.token.view in let w = token.view in
    let g = short_goes_on v words full w f in
    let h = at_goes_on who token n.stuck n.done (size ∷ n.rest) c g n.at in
    let next = looked_next f.before full.next w f.looked in
    let all = words_same w.start w.words g.sound.lawful.opens w.log in
    let same = ap (λ (x : View). x.words) g.same in let small = f.few.small in
    let asked = f.few.asked in subst (AreStuck (now w)) (sym h.sizes)
    (stuck_last (now w) n.stuck n.done h.all_stuck record {
      next_size = size;
      rest = n.rest;
      building = h.building;
      no_room = omega arith;
    })

-- ---- what a reserving answers

-- a caller is a caller after the call, whatever it returns
pub caller_after : (who : Caller) (token : TokenFace) (words size : ℕ) (answer : Result ℕ Full)
    → IsCaller who → IsNext who size
    → IfOk answer (λ base. Reserved who.token.view who.number base size token.view)
    → IfErr answer (λ full. IsFull who.token.view words size full token.view)
    → IsCaller (record who { token = token })
caller_after who token words size (Ok base) c n ok err = caller_took who token base size c ok n
caller_after who token words size (Err full) c n ok err =
    caller_refused who token words size full c err

-- if it returns a row, the caller has taken it
pub taken_after : (who : Caller) (token : TokenFace) (size : ℕ) (answer : Result ℕ Full)
    → IsCaller who
    → IfOk answer (λ base. Reserved who.token.view who.number base size token.view)
    → IfOk answer (λ base. HasTaken who (size ∷ []) (record who { token = token }))
taken_after who token size (Ok base) c ok =
    λ stuck done rest h. at_took who token base size c ok stuck done rest h
taken_after who token size (Err full) c ok = tt

-- if no row is returned, its build was refused
pub refused_after : (who : Caller) (token : TokenFace) (words size : ℕ) (answer : Result ℕ Full)
    → IsCaller who → words ≡ who.token.view.words → IsNext who size
    → IfErr answer (λ full. IsFull who.token.view words size full token.view)
    → IfErr answer (λ full. HasRefused (record who { token = token }))
refused_after who token words size (Ok base) c words_is n err = tt
refused_after who token words size (Err full) c words_is n err =
    refused who token words size full c words_is n err
