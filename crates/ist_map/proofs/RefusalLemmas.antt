-- A refusal of a pass is one on its tree, and stays one while the tree is open. Serves `Worker`.
use Rattle.std.proofs.Common.{◌≡◌, ◌∙◌, ◌⊎◌, ⊎_elim, inl, inr, ℕ, Option, Result, Some, None, IfSome, IfErr, sym}
use Rattle.std.proofs.lemmas.Option.{none-some}
use Rattle.std.proofs.lemmas.Result.{IfErr-weaker}
use Rattle.ist_core.specs.declared.ports.Full.{Full}
use Rattle.ist_core.specs.LogTerms.{Log, GoesOn, same_log}
use Rattle.ist_core.proofs.AllLogLemmas.{goes_on_more}
use Rattle.ist_tree.specs.CallTerms.{HasSeenMore, TreeFace, PassFace, KeepsRowRefusal, IsTurnedAway}
use Rattle.ist_map.specs.Refusing.{IsRefusedTo, to_update, to_rebuild, WasRefusedSince, IsRefusalOn}

-- ---- one call

-- a refused update was refused to the pass
pub update_refused : {A : Type 0} (p q : PassFace) (key : ℕ) (value : Option ℕ) (r : Result A Full)
    → IfErr r (IsTurnedAway p q key value) → IfErr r (IsRefusedTo p q)
update_refused p q key value r = IfErr-weaker r _ _ (λ full away. to_update away.cause)

-- so was a rebuild that the pass keeps the refusal of, if it kept none before
pub rebuild_refused : (p q : PassFace) → KeepsRowRefusal p q → (full : Full)
    → q.refused ≡ Some full → (p.refused ≡ Some full) ⊎ IsRefusedTo p q full
rebuild_refused p q keeps full now = ⊎_elim (λ before. inl before) (λ row. inr (to_rebuild row.1))
    (keeps.cause full now)

-- ---- several calls

-- the last of some calls was refused
pub refused_now : (first p q : PassFace) (full : Full) → HasSeenMore first p → HasSeenMore p q
    → IsRefusedTo p q full → WasRefusedSince first q.seen full
refused_now first p q full since call cause = record {
  began = p;
  ended = q;
  since = since;
  call = call;
  until = same_log;
  cause = cause;
}

-- a rebuild was refused in the last of some calls, since no refusal was kept before it
pub kept_now : (first p q : PassFace) (full : Full) → HasSeenMore first p → HasSeenMore p q
    → p.refused ≡ None → (p.refused ≡ Some full) ⊎ IsRefusedTo p q full
    → WasRefusedSince first q.seen full
kept_now first p q full since call none = ⊎_elim (λ some. absurd (none-some full (sym none ∙ some)))
    (refused_now first p q full since call)

-- ---- a tree

-- by the end of a later log too
pub refusal_later : (tree : TreeFace) (log later : Log) (refused : Option Full)
    → GoesOn log later → IfSome refused (IsRefusalOn tree log)
    → IfSome refused (IsRefusalOn tree later)
refusal_later tree log later None more was = tt
refusal_later tree log later (Some full) more was = (
  was.0,
  was.1,
  record {
    began = was.2.began;
    ended = was.2.ended;
    since = was.2.since;
    call = was.2.call;
    until = goes_on_more was.2.until more;
    cause = was.2.cause;
  },
)
