-- Trying a finish: a load of the parent's status, and then steps of help. Serves `try_finish`.
use Rattle.std.proofs.Common.{ℕ, Result, Ok}
use Rattle.ist_core.specs.declared.ports.Full.{Full}
use Rattle.laws_coming.specs.Further.{CameFurther}
use Rattle.laws_coming.proofs.FurtherLemmas.{no_less}
use Rattle.ist_rule.specs.RuleTerms.{TokenFace, GoesOnTo}
use Rattle.ist_rows.specs.RowTerms.{IsReady, HasTakenFew, HasTakenFewIn, TakesNoWords}
use Rattle.ist_rows.specs.declared.callers.Caller.{Caller}
use Rattle.ist_rows.proofs.FewStepLemmas.{few_any, few_call, few_kept, none_loads, none_more}
use Rattle.ist_rows.proofs.GoneLemmas.{still_ready}
use Rattle.ist_rebuild.specs.Going.{ServesRebuild}
use Rattle.ist_rebuild.specs.Helping.{HasHelped}
use Rattle.ist_rebuild.proofs.FewLemmas.{after_helped}
use Rattle.ist_rebuild.proofs.EventLemmas.{helped_more, loads_helped}

module _ (who : Caller) (token : TokenFace) (ready : IsReady who)
    (seen : GoesOnTo who.token.view token.view) where
  abbrev mid : Caller
  mid = record who { token = token }

  -- after the load the caller is ready
  pub tried_ready : IsReady mid
  tried_ready = still_ready (loads_helped who token ready seen).on

  module _ (new : Caller) (h : HasHelped mid new) where
    -- if it then helps, it has helped
    pub tried_helped : HasHelped who new
    tried_helped = helped_more who mid new (loads_helped who token ready seen) h

    -- and took as few words as then
    pub tried_few : {A : Type 0} (r : Result A Full) (n left : ℕ) → HasTakenFewIn r n left mid new
        → HasTakenFewIn r n left who new
    tried_few r n left f =
        few_call r n left who mid new (none_loads who token ready.caller.mine seen) (after_helped mid new h) f

    -- none are few
    pub tried_none : (n : ℕ) → TakesNoWords mid new → HasTakenFew n 0 who new
    tried_none n none = tried_few (Ok new) n 0 (few_any n mid new none)

    -- two more steps of help that take none
    module _ (tried last : Caller) (k : HasHelped new tried) (l : HasHelped tried last) where
      pub tried_all : TakesNoWords new tried → TakesNoWords tried last → (n : ℕ)
          → HasTakenFew n 0 mid new → HasHelped who last × HasTakenFew n 0 who last
      tried_all a b n f = (
        helped_more who tried last (helped_more who new tried tried_helped k) l,
        few_kept n 0 who new last (after_helped who new tried_helped) (none_more new tried last a b)
            (tried_few (Ok new) n 0 f),
      )

      -- if the last came further, all did
      pub tried_further : CameFurther tried.token.view last.token.view
          → CameFurther who.token.view last.token.view
      tried_further f = no_less ServesRebuild who.token.view tried.token.view last.token.view
          (helped_more who new tried tried_helped k).on.gone.went f
