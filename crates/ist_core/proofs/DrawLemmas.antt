-- Each caller draws past the last part once. Serves `laws.draws_are_low`.
use Rattle.std.proofs.Common.{◌≡◌, ◌≢◌, ℕ, ◌+◌, ◌<◌, ◌≤◌, ◌⊎◌, ◌==◌, nat_le, if◌then◌else◌, true, false, List, [], ◌∷◌, Some, refl, sym, ap, ◌∙◌, subst, inl, inr, ⊎_elim, arith}
use Rattle.std.proofs.lemmas.Bool.Decides.{eqb_tells, leb_tells}
use Rattle.ist_core.specs.Types.{Pair, RebuildRow, Event, Enter, Reserve, Install, Okay, Decide, Resolve, Count, Mark, Pass, Finish, Root, Draw, Place, Lose}
use Rattle.ist_core.specs.WordTerms.{degree, finished_word, Rebuild, start}
use Rattle.ist_core.specs.LogTerms.{Among, Each, Distinct, Snapshot, Log, state, Happened, Draws, Enabled, caller_limit, EachEnabled, state_of}
use Rattle.ist_core.specs.TreeTerms.{IsFinishedWith, CanDraw, StatusGoesOn, status_stays, is_marked, is_finished, is_closed, AllGrow}
use Rattle.ist_core.proofs.CallerLemmas.{callers-installed, callers-resolved}
use Rattle.ist_core.proofs.SoundLemmas.{sound}
use Rattle.ist_core.proofs.StepLemmas.{sound_start, grow_step}
use Rattle.ist_core.proofs.GrowingLemmas.{inner_there, rebuild_there}
use Rattle.ist_core.proofs.YesLemmas.{distinct_below}
use Rattle.ist_core.proofs.DrawnLemmas.{past, drawn_at_most}
use Rattle.ist_core.proofs.OptionLemmas.{same_inner, same_rebuild}

-- ---- callers

-- callers are only added, and no more than the limit
record CallersOnlyGrow (t u : Snapshot) : Type 0 where
  more : t.callers ≤ u.callers
  few : t.callers ≤ caller_limit → u.callers ≤ caller_limit

callers_same : (t u : Snapshot) → u.callers ≡ t.callers → CallersOnlyGrow t u
callers_same t u e = record { more = omega arith; few = λ h. subst (λ n. n ≤ caller_limit) (sym e) h }

callers_go_on : (first : Snapshot) (log : Log) (event : Event) → Enabled first log event
    → CallersOnlyGrow (state first log) (state first (event ∷ log))
callers_go_on first log (Enter caller) h = grind arith
callers_go_on first log (Install caller base rows) h = callers_same _ _
    (callers-installed (state first log) base rows)
callers_go_on first log (Resolve caller base) h = grind (arith, callers_same, callers-resolved)
callers_go_on first log _ h = callers_same _ _ refl

-- there are at most as many callers as the limit
pub callers_low : (pairs : List Pair) (words : ℕ) (log : Log) → EachEnabled (start pairs words) log
    → (state_of pairs words log).callers ≤ caller_limit
callers_low pairs words [] h = grind arith
callers_low pairs words (event ∷ log) h = (callers_go_on (start pairs words) log event h.1).few
    (callers_low pairs words log h.0)

-- ---- a finished node stays finished

finished_on : (k status : ℕ) → StatusGoesOn (finished_word k) status → status ≡ finished_word k
finished_on k status (status_stays e) = e
finished_on k status (is_marked e f) = absurd (omega arith)
finished_on k status (is_finished n e f) = absurd (omega arith)
finished_on k status (is_closed n e f) = absurd (omega arith)

-- a row that is finished with k keys stays so as rows grow
pub finished_grows : (t u : Snapshot) (node k : ℕ) → AllGrow t.pieces u.pieces → IsFinishedWith t
    node k → IsFinishedWith u node k
finished_grows t u node k g h = grind (arith, inner_there, finished_on)

-- a row is finished with one number
pub finished_once : (t : Snapshot) (node j k : ℕ) → IsFinishedWith t node j → IsFinishedWith t node k
    → j ≡ k
finished_once t node j k h l = grind (arith, same_inner)

module _ (pairs : List Pair) (words rebuild last : ℕ) where
  -- whenever the rebuild's target is finished, the last part is the one for its number of keys
  LastIs : Log → Type 0
  LastIs log = (row : RebuildRow) (k : ℕ) → (state_of pairs words log).pieces rebuild ≡ Some
      (Rebuild row) → IsFinishedWith (state_of pairs words log) row.target k → degree k ≡ last

  last_before : (log : Log) (event : Event) → EachEnabled (start pairs words) (event ∷ log)
      → LastIs (event ∷ log) → LastIs log
  unfolding LastIs
  last_before log event h is row k e f = let t = state_of pairs words log in
      let u = state_of pairs words (event ∷ log) in
      let grows = grow_step (start pairs words) log event h.1
      (sound (start pairs words) log (sound_start pairs words) h.0) in
      let it = rebuild_there t.pieces u.pieces grows rebuild row e in
      is it.0 k it.1 (subst (λ n. IsFinishedWith u n k) (sym it.2.target)
      (finished_grows t u row.target k grows f))

  -- a caller that drew past the last part has a Draw of such a part
  past_drew : (log : Log) (caller : ℕ) → Among caller (past rebuild last log)
      → (part : ℕ) × Happened (Draws caller rebuild part) log × (last ≤ part)
  unfolding past
  past_drew [] caller i = absurd i
  past_drew (Draw c at part ∷ log) caller i = here (λ j. past_drew log caller j)
      (eqb_tells at rebuild) (leb_tells last part) i
    where
      here : (Among caller (past rebuild last log) → (p : ℕ) × Happened (Draws caller rebuild p) log
          × (last ≤ p))
          → (((at == rebuild) ≡ true) × (at ≡ rebuild)) ⊎
          (((at == rebuild) ≡ false) × (at ≢ rebuild))
          → ((nat_le last part ≡ true) × (last ≤ part)) ⊎
          ((nat_le last part ≡ false) × (part < last)) → Among caller
          (if at == rebuild then (if nat_le last part then c ∷ past rebuild last log else past
          rebuild last log) else past rebuild last log)
          → (p : ℕ) × Happened (Draws caller rebuild p) (Draw c at part ∷ log) × (last ≤ p)
      here again (inr k) l j = grind (arith, past)
      here again (inl k) (inr l) j = grind (arith, past)
      here again (inl k) (inl l) j = ⊎_elim (λ e. (part, inl (sym e, k.1, refl), l.1))
          (λ m. let it = again m in (it.0, inr it.1, it.2))
          (subst (λ b. Among caller (if b then c ∷ past rebuild last log else past rebuild last
          log)) l.0
          (subst (λ b. Among caller (if b then
          (if nat_le last part then c ∷ past rebuild last log else past rebuild last log) else
          past rebuild last log)) k.0 j))
  past_drew (Enter c ∷ log) caller i = let it = past_drew log caller i in (it.0, inr it.1, it.2)
  past_drew (Reserve c b z ∷ log) caller i = let it = past_drew log caller i in (it.0, inr it.1, it.2)
  past_drew (Install c d rows ∷ log) caller i = let it = past_drew log caller i in
      (it.0, inr it.1, it.2)
  past_drew (Okay c d ∷ log) caller i = let it = past_drew log caller i in (it.0, inr it.1, it.2)
  past_drew (Decide c d said ∷ log) caller i = let it = past_drew log caller i in (it.0, inr it.1, it.2)
  past_drew (Resolve c d ∷ log) caller i = let it = past_drew log caller i in (it.0, inr it.1, it.2)
  past_drew (Count c n ∷ log) caller i = let it = past_drew log caller i in (it.0, inr it.1, it.2)
  past_drew (Mark c n ∷ log) caller i = let it = past_drew log caller i in (it.0, inr it.1, it.2)
  past_drew (Pass c n j w ∷ log) caller i = let it = past_drew log caller i in (it.0, inr it.1, it.2)
  past_drew (Finish c n k ∷ log) caller i = let it = past_drew log caller i in (it.0, inr it.1, it.2)
  past_drew (Root c o w rows ∷ log) caller i = let it = past_drew log caller i in (it.0, inr it.1, it.2)
  past_drew (Place c o j w rows ∷ log) caller i = let it = past_drew log caller i in
      (it.0, inr it.1, it.2)
  past_drew (Lose c bases ∷ log) caller i = let it = past_drew log caller i in (it.0, inr it.1, it.2)

  each_wider : (m n : ℕ) (xs : List ℕ) → m ≤ n → Each (λ x. x < m) xs → Each (λ x. x < n) xs
  each_wider m n [] le h = tt
  each_wider m n (x ∷ xs) le h = let low = h.0 in (omega arith, each_wider m n xs le h.1)

  -- the callers that drew past are callers, each once
  PastOnce : Log → Type 0
  PastOnce log = Each (λ c. c < (state_of pairs words log).callers) (past rebuild last log) ×
      Distinct (past rebuild last log)

  past_draw : (log : Log) (c at part : ℕ) → CanDraw (state_of pairs words log) log c at part
      → LastIs log → PastOnce log → PastOnce (Draw c at part ∷ log)
  unfolding past PastOnce LastIs
  past_draw log c at part can is once = here (eqb_tells at rebuild) (leb_tells last part)
    where
      fresh : at ≡ rebuild → ¬ (Among c (past rebuild last log))
      fresh e i = let it = past_drew log c i in
          let below = can.not_past it.0 (subst (λ o. Happened (Draws c o it.0) log) (sym e) it.1) in
          let same = is can.row can.k (subst
          (λ b. (state_of pairs words log).pieces b ≡ Some (Rebuild can.row)) e can.published)
          can.finished in
          let past_it = it.2 in omega arith

      Both : List ℕ → Type 0
      Both xs = Each (λ x. x < (state_of pairs words log).callers) xs × Distinct xs

      here : (((at == rebuild) ≡ true) × (at ≡ rebuild)) ⊎
          (((at == rebuild) ≡ false) × (at ≢ rebuild))
          → ((nat_le last part ≡ true) × (last ≤ part)) ⊎
          ((nat_le last part ≡ false) × (part < last))
          → Both (if at == rebuild then (if nat_le last part then c ∷ past rebuild last log else
          past rebuild last log) else past rebuild last log)
      here (inr k) l = grind (arith, Both, past)
      here (inl k) (inr l) = grind (arith, Both, past)
      here (inl k) (inl l) = grind (arith, Both, past, fresh)

  past_on : (log : Log) (event : Event) → Enabled (start pairs words) log event
      → past rebuild last (event ∷ log) ≡ past rebuild last log → PastOnce log
      → PastOnce (event ∷ log)
  unfolding PastOnce
  past_on log event h same once = let go = callers_go_on (start pairs words) log event h in
      subst (λ xs. Each (λ c. c < (state_of pairs words (event ∷ log)).callers) xs × Distinct xs)
      (sym same) (
        each_wider (state_of pairs words log).callers (state_of pairs words (event ∷ log)).callers
            (past rebuild last log) go.more once.0,
        once.1,
      )

  past_once : (log : Log) → EachEnabled (start pairs words) log → LastIs log → PastOnce log
  unfolding past PastOnce
  past_once [] h is = (tt, tt)
  past_once (Draw c at part ∷ log) h is = let before = last_before log (Draw c at part) h is in
      past_draw log c at part h.1 before (past_once log h.0 before)
  past_once (Enter c ∷ log) h is = past_on log (Enter c) h.1 refl
      (past_once log h.0 (last_before log (Enter c) h is))
  past_once (Reserve c b z ∷ log) h is = past_on log (Reserve c b z) h.1 refl
      (past_once log h.0 (last_before log (Reserve c b z) h is))
  past_once (Install c d rows ∷ log) h is = past_on log (Install c d rows) h.1 refl
      (past_once log h.0 (last_before log (Install c d rows) h is))
  past_once (Okay c d ∷ log) h is = past_on log (Okay c d) h.1 refl
      (past_once log h.0 (last_before log (Okay c d) h is))
  past_once (Decide c d said ∷ log) h is = past_on log (Decide c d said) h.1 refl
      (past_once log h.0 (last_before log (Decide c d said) h is))
  past_once (Resolve c d ∷ log) h is = past_on log (Resolve c d) h.1 refl
      (past_once log h.0 (last_before log (Resolve c d) h is))
  past_once (Count c n ∷ log) h is = past_on log (Count c n) h.1 refl
      (past_once log h.0 (last_before log (Count c n) h is))
  past_once (Mark c n ∷ log) h is = past_on log (Mark c n) h.1 refl
      (past_once log h.0 (last_before log (Mark c n) h is))
  past_once (Pass c n j w ∷ log) h is = past_on log (Pass c n j w) h.1 refl
      (past_once log h.0 (last_before log (Pass c n j w) h is))
  past_once (Finish c n k ∷ log) h is = past_on log (Finish c n k) h.1 refl
      (past_once log h.0 (last_before log (Finish c n k) h is))
  past_once (Root c o w rows ∷ log) h is = past_on log (Root c o w rows) h.1 refl
      (past_once log h.0 (last_before log (Root c o w rows) h is))
  past_once (Place c o j w rows ∷ log) h is = past_on log (Place c o j w rows) h.1 refl
      (past_once log h.0 (last_before log (Place c o j w rows) h is))
  past_once (Lose c bases ∷ log) h is = past_on log (Lose c bases) h.1 refl
      (past_once log h.0 (last_before log (Lose c bases) h is))

  -- the draw word is at most the last part plus the number of callers
  pub few_draws : (log : Log) → EachEnabled (start pairs words) log → (row : RebuildRow) (k : ℕ)
      → (state_of pairs words log).pieces rebuild ≡ Some (Rebuild row)
      → IsFinishedWith (state_of pairs words log) row.target k → degree k ≡ last
      → row.draw ≤ last + (state_of pairs words log).callers
  unfolding LastIs PastOnce
  few_draws log h row k e f is = let ps = (state_of pairs words log).pieces in
      let last_is : LastIs log = λ other j g l.
      let same = same_rebuild (ps rebuild) other row g e in
      ap degree (finished_once (state_of pairs words log) row.target j k
      (subst (λ r. IsFinishedWith (state_of pairs words log) r.target j) same l) f) ∙ is in
      let once = past_once log h last_is in
      let few = distinct_below (state_of pairs words log).callers (past rebuild last log) once.1
      once.0 in
      let most = drawn_at_most rebuild last pairs words log h (Rebuild row) e in omega arith
