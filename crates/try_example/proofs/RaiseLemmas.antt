-- A pass that gets a counter again and again. Serves `counting.raise`.
use Rattle.std.proofs.Common.{◌≡◌, ◌∙◌, ℕ, List, [], ◌∷◌, ◌++◌, Option, Result, Ok, Err, OnErr, sym, ap}
use Rattle.std.proofs.lemmas.List.{append-nil, append_assoc}
use Rattle.ist_core.specs.declared.calls.Call.{Call}
use Rattle.ist_core.specs.declared.commands.Command.TheVariants.{Get}
use Rattle.ist_core.proofs.AllWordLemmas.{each_append}
use Rattle.ist_tree.specs.CallTerms.{AddsCall, HasSeenMore, PassFace}
use Rattle.ist_tree.proofs.HeardLemmas.{seen_more_then, seen_same}
use Rattle.try_example.specs.Raises.{HasOnlyGot}

-- a pass that made no call only got the counter
pub got_none : (p : PassFace) (key : ℕ) → HasOnlyGot p p key
got_none p key = record {
  since = seen_same p;
  gets = [];
  calls_are = sym (append-nil p.calls);
  only = tt;
}

-- a pass that only got it, and gets it once more
pub got_more : (p m q : PassFace) (key : ℕ) (reply : Option ℕ) → HasOnlyGot p m key
    → HasSeenMore m q → AddsCall m q (Get key) reply → HasOnlyGot p q key
got_more p m q key reply h seen added = record {
  since = seen_more_then p m q h.since seen;
  gets = h.gets ++ added.call ∷ [];
  calls_are = added.calls_are ∙ ap (λ cs. cs ++ added.call ∷ []) h.calls_are
      ∙ append_assoc p.calls h.gets (added.call ∷ []);
  only = each_append (λ call. call.command ≡ Get key) h.gets (added.call ∷ []) h.only (added.command_is, tt);
}

-- a pass that only got it, and then made no call
pub got_still : (p m q : PassFace) (key : ℕ) → HasOnlyGot p m key → HasSeenMore m q
    → q.calls ≡ m.calls → HasOnlyGot p q key
got_still p m q key h seen same = record {
  since = seen_more_then p m q h.since seen;
  gets = h.gets;
  calls_are = same ∙ h.calls_are;
  only = h.only;
}

-- what holds anyway holds if a call is refused
pub on_err : {A E : Type 0} (r : Result A E) (P : Type 0) → P → OnErr r P
on_err (Ok x) P p = tt
on_err (Err e) P p = p
