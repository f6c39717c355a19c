-- A caller that gives up its pair row. Serves `drop_pair`.
use Rattle.std.proofs.Common.{◌≡◌, ℕ, ◌+◌, ◌<◌, [], ◌∷◌, Some, None, refl, sym, ◌∙◌, subst, arith}
use Rattle.ist_core.specs.declared.events.Event.TheVariants.{Lose}
use Rattle.ist_core.specs.declared.events.Who.TheVariants.{Caller as CallerOf}
use Rattle.ist_core.specs.WordTerms.{inner_status_offset}
use Rattle.ist_rule.specs.RuleTerms.{TokenFace, LoggedLoad, LoadedAs, as_event, as_load, past_of, CanLoadPast}
use Rattle.ist_rule.specs.declared.view.View.{View}
use Rattle.ist_rows.specs.RowTerms.{Caller, Pair, IsCaller, HasPairBelow, HasLost}
use Rattle.ist_rows.proofs.CallerLawLemmas.{loaded_made, caller_made}

-- the caller may load the node's status, and so lose the row
pub may_drop : (who : Caller) (pair node : ℕ) → IsCaller who → HasPairBelow who node
    → who.pair ≡ Some pair → CanLoadPast who.token.view pair node
may_drop who pair node c h is = let same : h.pair ≡ pair = cc (sym h.held ∙ is) in record {
  number = who.number;
  mine = c.mine;
  held = c.rows Pair pair is;
  row = h.row;
  published = h.published;
  above = subst (λ n. n < node) same h.below;
}

-- the load is the loss
pub has_lost : (v : View) (number pair node place word : ℕ) (w : View) → v.who ≡ CallerOf number
    → place ≡ node + inner_status_offset → LoadedAs v (past_of v pair) place word w
    → HasLost v number pair node w
has_lost v number pair node place word w who at (as_load l none) = absurd (cc)
has_lost v number pair node place word w who at (as_event event l e) = grind arith

-- who lost its pair row is a caller without it
pub caller_dropped : (who : Caller) (token : TokenFace) (pair place word : ℕ) → IsCaller who
    → who.pair ≡ Some pair
    → LoggedLoad who.token.view (Lose who.number (pair ∷ [])) place word token.view
    → IsCaller (record who { token = token; pair = None })
caller_dropped who token pair place word c is l =
    caller_made who (record who { token = token; pair = None }) (Pair ∷ [])
    (Lose who.number (pair ∷ [])) (pair ∷ []) c l.before
    (loaded_made who.token.view (Lose who.number (pair ∷ [])) place word token.view l) refl refl
    (is, tt) record { number = refl; rows = refl }
