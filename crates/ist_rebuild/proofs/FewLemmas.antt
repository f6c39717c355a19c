-- How few words a caller takes while it starts or helps a rebuild. Serves each function.
use Rattle.std.proofs.Common.{◌≡◌, ℕ, ◌+◌, ◌≤◌, Option, Some, None, Result, Ok, Err, IfSome, IfErr, refl, sym, ap, ◌∙◌, subst, arith}
use Rattle.std.specs.List.{sum}
use Rattle.ist_core.specs.WordTerms.{shape, change_words}
use Rattle.ist_core.specs.declared.events.Event.{Event}
use Rattle.ist_core.specs.declared.events.Event.TheVariants.{Install}
use Rattle.ist_core.specs.declared.events.Who.TheVariants.{Caller as CallerOf}
use Rattle.ist_core.specs.declared.ports.Full.{Full}
use Rattle.ist_rule.specs.RuleTerms.{TokenFace, WentOn, now, GoesOnTo, IsSound}
use Rattle.ist_rule.proofs.EventLemmas.{goes_on_who}
use Rattle.ist_rows.specs.RowTerms.{kind_words, IsCaller, IsFreshRow, IsKindRefused, HasRunOut, HasTakenFew, HasTakenFewIn, TakesNoWords, IsLaterCaller, took_few, IsReady}
use Rattle.ist_rows.specs.declared.callers.Caller.{Caller}
use Rattle.ist_rows.specs.declared.kinds.Kind.TheVariants.{Change}
use Rattle.ist_rows.proofs.FewLemmas.{later_went, few_less, few_low, few_more, few_then, few_wider, out_wider}
use Rattle.ist_rows.proofs.FewStepLemmas.{few_call, few_kept, few_reserved, few_same, full_out, none_kept, none_loads, none_logged, none_more}
use Rattle.ist_build.specs.Calls.{IsTold, parts_words, root_words}
use Rattle.ist_build.proofs.LeftLemmas.{root_most}
use Rattle.ist_build.proofs.RootReadyLemmas.{told_on}
use Rattle.ist_dcss.specs.Helping.{Serves as HelpsWith}
use Rattle.ist_dcss.specs.Installing.{Filling, IsInstalled, rows_of}
use Rattle.ist_dcss.proofs.ResolvedLemmas.{serves_keep}
use Rattle.ist_rule.proofs.WentOnLemmas.{went_grow}
use Rattle.ist_rebuild.specs.Helping.{HasHelped, IsHelpRefused}
use Rattle.ist_rebuild.proofs.RefusalLemmas.{answer_refused}
use Rattle.ist_rebuild.proofs.EventLemmas.{helped_loads, helped_more, helped_same}
use Rattle.ist_rebuild.specs.Going.{Begins, ServesRebuild}
use Rattle.ist_rebuild.specs.Needs.{needed, wanting}
use Rattle.ist_build.specs.Laying.{IsReservation}
use Rattle.ist_rebuild.specs.StartSteps.{HasBegun, HasReserved}

-- ---- how a caller goes on

-- a caller that helped is a later state
pub after_helped : (old new : Caller) → HasHelped old new → IsLaterCaller old new
after_helped old new h = later_went ServesRebuild old new h.on.gone.number h.on.gone.went

-- a target stays finished
pub told_went : (P : Event → Type 0) (old new : Caller) → WentOn P old.token.view new.token.view
    → (rebuild k : ℕ) → IsTold (now old.token.view) rebuild k → IsTold (now new.token.view) rebuild k
told_went P old new g rebuild k told =
    told_on (now old.token.view) (now new.token.view) (went_grow P old.token.view new.token.view g)
    rebuild k told

-- ---- steps that take none

-- which rows a caller says that it has changes nothing
none_beside : (old mid new : Caller) → new.token ≡ mid.token → new.number ≡ mid.number
    → TakesNoWords old mid → TakesNoWords old new
none_beside old mid new token number h = grind arith

-- help for a change
pub none_helped : (who : Caller) (token : TokenFace) (change : ℕ)
    → who.token.view.who ≡ CallerOf who.number → WentOn (HelpsWith change) who.token.view token.view
    → TakesNoWords who (record who { token = token })
none_helped who token change mine went =
    none_kept (HelpsWith change) (serves_keep change) who (record who { token = token }) refl mine went

-- an Install, and help for its change
pub none_installed : (who : Caller) (filling : Filling) (change : ℕ) (mid : TokenFace) (new : Caller)
    → who.token.view.who ≡ CallerOf who.number → IsInstalled who.token.view change filling mid.view
    → WentOn (HelpsWith change) mid.view new.token.view → new.number ≡ who.number
    → TakesNoWords who new
none_installed who filling change mid new mine i went number =
    let before = record who { token = record who.token { view = i.before } } in
    let installed = record who { token = mid } in let helped = record who { token = new.token } in
    let mine_before = goes_on_who i.seen ∙ mine in
    let mine_after = ap (λ x. x.who) i.logged.view ∙ mine_before in
    none_beside who helped new refl number
    (none_more who installed helped
    (none_more who before installed (none_loads who (record who.token { view = i.before }) mine i.seen)
    (none_logged before mid mine_before (Install i.number change (rows_of filling change)) i.logged
    refl))
    (none_helped installed new.token change mine_after went))

-- ---- the change's row

-- a change's row takes its words, if none is held
pub few_row : (old new : Caller) (words : ℕ) (answer : Result ℕ Full) → IsCaller old
    → words ≡ old.token.view.words → IfSome old.change (λ base. (answer ≡ Ok base) × (new ≡ old))
    → IsFreshRow Change old new answer → IfErr answer (λ f. IsKindRefused words Change old new f)
    → HasTakenFewIn answer (wanting old.change change_words) 0 old new
few_row old new words answer c words_is held fresh full = at old.change refl held answer fresh full
  where
    at : (o : Option ℕ) → old.change ≡ o → IfSome o (λ base. (answer ≡ Ok base) × (new ≡ old))
        → (a : Result ℕ Full) → IsFreshRow Change old new a
        → IfErr a (λ f. IsKindRefused words Change old new f)
        → HasTakenFewIn a (wanting o change_words) 0 old new
    at (Some base) e h (Ok found) f r = subst (HasTakenFew 0 0 old) (sym h.1) (few_same 0 old)
    at (Some base) e h (Err x) f r = absurd (cc (r.none))
    at None e h (Ok base) f r = few_reserved old new c base (kind_words Change) (f e).0
    at None e h (Err x) f r = full_out old new c words (kind_words Change) x words_is r.cause

-- at most those
pub wanting_most : (o : Option ℕ) (size : ℕ) → wanting o size ≤ size
wanting_most (Some base) size = omega arith
wanting_most None size = omega arith

-- few words, and then a call that helped
pub few_helped : {A : Type 0} (r : Result A Full) (old mid new : Caller) (n m left : ℕ) → HasHelped old mid
    → HasHelped mid new → HasTakenFew n m old mid → HasTakenFewIn r m left mid new
    → HasTakenFewIn r n left old new
few_helped r old mid new n m left h k f g =
    few_then old mid new (after_helped old mid h) (after_helped mid new k) n m left r f g

-- ---- turns of help

-- before the first nothing was done
pub turn_first : (who : Caller) → IsReady who → IsSound who.token.view → (n : ℕ)
    → HasHelped who who × HasTakenFew n n who who
turn_first who ready s n = (helped_same who ready s, few_same n who)

-- few words, and then a turn that leaves the change's row to be taken again
pub turn_more : (old mid new : Caller)
    → HasHelped old mid × HasTakenFew (wanting old.change change_words) (wanting mid.change change_words) old mid
    → HasHelped mid new → wanting new.change change_words ≡ 0
    → HasTakenFew (wanting mid.change change_words) 0 mid new → HasHelped old new
    × HasTakenFew (wanting old.change change_words) (wanting new.change change_words) old new
turn_more old mid new h k none f = (
  helped_more old mid new h.0 k,
  subst (λ left. HasTakenFew (wanting old.change change_words) left old new)
      (sym none) (few_helped (Ok new) old mid new (wanting old.change change_words)
      (wanting mid.change change_words) 0 h.0 k h.1 f),
)

-- ---- what is built

-- a root that ran out of words
pub out_root : (k : ℕ) (old new : Caller) → HasRunOut (root_words k) old new → HasRunOut (sum (shape k)) old new
out_root k old new r = out_wider (root_words k) (sum (shape k)) old new (root_most k) r

-- a root, and then its parts
pub few_built : {A : Type 0} (r : Result A Full) (old mid new : Caller) (rebuild : ℕ) → HasHelped old mid
    → HasHelped mid new
    → ((k : ℕ) → IsTold (now old.token.view) rebuild k → HasTakenFew (root_words k) 0 old mid)
    → ((k : ℕ) → IsTold (now mid.token.view) rebuild k → HasTakenFewIn r (parts_words k) 0 mid new)
    → (k : ℕ) → IsTold (now old.token.view) rebuild k → HasTakenFewIn r (sum (shape k)) 0 old new
few_built r old mid new rebuild h g f e k told = let most = root_most k in
    few_helped r old mid new (sum (shape k)) (parts_words k) 0 h g
    (few_low (root_words k + parts_words k) (0 + parts_words k) (sum (shape k)) (parts_words k) old
    mid (omega arith) (omega arith) (few_wider (root_words k) 0 (parts_words k) old mid (f k told)))
    (e k (told_went ServesRebuild old mid h.on.gone.went rebuild k told))

-- a caller that marked the target of a rebuild
module _ (old mid built : Caller) (rebuild : ℕ) (m : TakesNoWords old mid) (h : HasHelped old mid)
    (b : HasHelped mid built) where
  -- and then built it
  pub few_marked : {A : Type 0} (r : Result A Full)
      → ((k : ℕ) → IsTold (now mid.token.view) rebuild k → HasTakenFewIn r (sum (shape k)) 0 mid built)
      → (k : ℕ) → IsTold (now old.token.view) rebuild k
      → HasTakenFewIn r (sum (shape k) + change_words) change_words old built
  few_marked r f k told =
      grind (arith, few_call, after_helped, told_went, few_low, few_wider, out_wider)

  -- made loads, and finished it, has helped and took few words, and a refusal is one of the whole
  pub rebuilt : {A : Type 0} (r : Result A Full) (token : TokenFace) (new : Caller) (was words : ℕ)
      → ((k : ℕ) → IsTold (now mid.token.view) rebuild k → HasTakenFew (sum (shape k)) 0 mid built)
      → GoesOnTo built.token.view token.view → HasHelped (record built { token = token }) new
      → HasTakenFewIn r (wanting built.change change_words) 0 (record built { token = token }) new
      → was ≡ rebuild → IfErr r (λ full. IsHelpRefused token.view was words full new.token.view)
      → HasHelped old new
      × ((k : ℕ) → IsTold (now old.token.view) rebuild k
      → HasTakenFewIn r (sum (shape k) + change_words) 0 old new)
      × IfErr r (λ full. IsHelpRefused old.token.view rebuild words full new.token.view)
  rebuilt r token new was words f seen e g is refused = let plan = record built { token = token } in
      let all = helped_more old mid built h b in
      let on = helped_loads old built token all seen in (
        helped_more old plan new on e,
        λ k told. few_helped r old plan new (sum (shape k) + change_words) change_words 0 on e
            (few_kept (sum (shape k) + change_words) change_words old built plan
            (after_helped old built all) (none_loads built token all.on.gone.caller.mine seen)
            (few_marked (Ok built) f k told))
            (few_less r (wanting built.change change_words) 0 change_words 0 plan new
            (wanting_most built.change change_words) (omega arith) g),
        answer_refused r old.token.view token.view new.token.view was rebuild words is on.on.gone.went refused,
      )

-- ---- the rows of a start

-- a caller that only made the reservings of a start took no more than it needed
pub few_needed : (old new : Caller) → HasReserved old new → HasTakenFew (needed old) 0 old new
few_needed old new r = let few = r.few in took_few (omega arith)

-- and then no word
pub few_bare : (old mid new : Caller) → HasReserved old mid → TakesNoWords mid new
    → HasTakenFew (needed old) 0 old new
few_bare old mid new r none = grind (arith, few_kept, later_went, few_needed)

-- or then what it still needed
pub few_begun : {target : ℕ} (old mid new : Caller) → HasReserved old mid → HasBegun target mid new
    → HasTakenFew (needed mid) 0 mid new → HasTakenFew (needed old) 0 old new
few_begun old mid new r b f =
    few_more old mid new (later_went IsReservation old mid r.number r.went)
    (later_went Begins mid new b.number b.went) (needed old) (needed mid) 0 (took_few r.few) f
