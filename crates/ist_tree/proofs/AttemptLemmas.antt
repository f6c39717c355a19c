-- Attempts to rebuild a row, and what several come to. Serves `help_own`, `help_other`, `try_due` and
-- `rebuild_due`.
use Rattle.std.proofs.Common.{◌≡◌, ◌⊎◌, ◌↔◌, ℕ, Bool, true, not, IsTrue, Some, Result, Ok, Err, IsErrAnd, inl, inr, sym, ap, subst, arith}
use Rattle.ist_core.specs.declared.ports.Full.{Full}
use Rattle.ist_core.specs.LogTerms.{Happened, Resolves, Snapshot}
use Rattle.ist_core.specs.TreeTerms.{IsReplaced}
use Rattle.ist_core.specs.WordTerms.{ChangeAt, RebuildAt, ref_of, IsOpen}
use Rattle.ist_rule.specs.RuleTerms.{TokenFace, WentOn, GoesOnTo, now, IsSound, IsNode, is_inner}
use Rattle.ist_rule.proofs.WentOnLemmas.{goes_on_went, went_grow}
use Rattle.ist_rows.specs.RowTerms.{IsReady}
use Rattle.ist_rows.specs.declared.callers.Caller.{Caller}
use Rattle.ist_rows.proofs.GoneLemmas.{still_ready}
use Rattle.ist_dcss.specs.Helping as dcss
use Rattle.ist_build.specs.Calls.{IsBuildable}
use Rattle.ist_rebuild.specs.Going.{ServesRebuild}
use Rattle.ist_rebuild.specs.Helping.{HasHelped, IsHelpRefused, IsLeftToParent}
use Rattle.ist_rebuild.specs.declared.answers.Started.{Started}
use Rattle.ist_rebuild.specs.declared.answers.Started.TheVariants as start
use Rattle.ist_rebuild.specs.Starting.{IsStartedAt, LeavesDone, MayStart, StartsDoneBut, StartsDoneSince, StoodInstead}
use Rattle.ist_updates.specs.declared.updates.Due.{Due}
use Rattle.ist_tree.specs.CallTerms.{Other, IsDueRefused, KeepsDone, Rebuilds, instead_of}
use Rattle.ist_tree.specs.Attempts.{GoesFor, HelpsOther, HelpsOwn, RebuildsRow, TriesOnce}
use Rattle.ist_tree.proofs.DueLemmas.{due_further, done_more, goes_more, goes_none, helped_for, helped_shut, loaded_for, marked_leaves, other_leaves, plain_for, started, yes_leaves}
use Rattle.ist_tree.proofs.EventLemmas.{help_aims, help_plain, serves_start_none}
use Rattle.ist_tree.proofs.InsteadLemmas.{change_helped, none_helped, rebuild_helped}
use Rattle.ist_tree.proofs.FurtherLemmas.{load_plain, may_start_went, plain_done, starts_went, all_done, not_open_shut, not_shut_open}
use Rattle.ist_tree.proofs.ShortLemmas.{due_refused_more, other_refused, own_refused}

-- ---- helping the rebuild that was started

module _ (old new : Caller) (due : Due) (words rebuild : ℕ) (h : HasHelped old new)
    (at : IsStartedAt (now old.token.view) rebuild due.parent due.index due.target) where
  -- it was helped to its end
  pub own_helped : IsReady old
      → IsReplaced (now new.token.view) rebuild ⊎ IsLeftToParent (now new.token.view) rebuild
      → HelpsOwn old new due words rebuild (Ok tt)
  own_helped r either = record {
    on = helped_for old new due.target h;
    shut = helped_shut old.token.view new.token.view h.on.gone.went rebuild due.parent due.index
        due.target at either;
    done = λ first but. all_done old.number old.token.view new.token.view r.caller.mine
        r.quiet.resolved h.on.gone.went rebuild first but either;
    full = tt;
  }

  -- too few words were left to help it
  pub own_short : (full : Full) → IsHelpRefused old.token.view rebuild words full new.token.view
      → HelpsOwn old new due words rebuild (Err full)
  own_short full refused = record {
    on = helped_for old new due.target h;
    shut = tt;
    done = tt;
    full = own_refused (now old.token.view) old.token.view new.token.view rebuild due words full at
        h.on.gone.went refused;
  }

-- ---- helping what the slot holds instead of the row

module _ (old new : Caller) (due : Due) (words word base : ℕ) (h : HasHelped old new)
    (is : ref_of word ≡ Some (RebuildAt base)) where
  -- another rebuild was helped to its end
  pub other_rebuilt : IsReady old → IsBuildable (now new.token.view) base
      → HelpsOther old new due words word (Ok tt)
  other_rebuilt r finished = record {
    on = helped_for old new due.target h;
    done = starts_went ServesRebuild old.number old.token.view new.token.view r.caller.mine
        h.on.gone.went (serves_start_none old.number) r.quiet.resolved;
    settled = rebuild_helped new.token.view word base is finished;
    full = tt;
  }

  -- too few words were left to help it
  pub other_short : IsSound old.token.view
      → StoodInstead old.token.view due.parent due.index due.target word → (full : Full)
      → IsHelpRefused old.token.view base words full new.token.view
      → HelpsOther old new due words word (Err full)
  other_short s stood full refused = record {
    on = helped_for old new due.target h;
    done = tt;
    settled = tt;
    full = other_refused old.token.view new.token.view s due word base words full stood is
        h.on.gone.went refused;
  }

-- a change was helped
pub other_changed : (who : Caller) (token : TokenFace) (due : Due) (words word base : ℕ) → IsReady who
    → WentOn (dcss.Serves base) who.token.view token.view → ref_of word ≡ Some (ChangeAt base)
    → Happened (Resolves base) token.view.log
    → HelpsOther who (record who { token = token }) due words word (Ok tt)
other_changed who token due words word base r went is resolved = record {
  on = plain_for (dcss.Serves base) (help_plain base) due.target (help_aims due.target base) who
      token r went;
  done = plain_done (dcss.Serves base) (help_plain base) who token r went;
  settled = change_helped token.view word base is resolved;
  full = tt;
}

-- nothing was there that can be helped
pub other_none : (who : Caller) (due : Due) (words word : ℕ) → IsSound who.token.view → IsReady who
    → instead_of (ref_of word) ≡ Other → HelpsOther who who due words word (Ok tt)
other_none who due words word s r is = record {
  on = goes_none who due.target s r;
  done = λ first done. done;
  settled = none_helped who.token.view word is;
  full = tt;
}

-- ---- one attempt

-- an attempt that was refused, which is handed on
pub tried_short : {old new : Caller} {due : Due} {words : ℕ} {full : Full} (answer : Result Bool Full)
    → IsErrAnd answer (λ x. x ≡ full) → GoesFor old new due.target
    → IsDueRefused (now old.token.view) new.token.view due words full
    → TriesOnce old new due words answer
tried_short (Ok a) same on refused = absurd same
tried_short {old} {new} {due} {words} {full} (Err e) same on refused = grind arith

-- the same, after a start that wasn't refused
pub later_short : {a b c : Caller} {due : Due} {words : ℕ} {full : Full} (answer : Result Bool Full)
    → IsErrAnd answer (λ x. x ≡ full) → GoesFor a b due.target → GoesFor b c due.target
    → IsDueRefused (now b.token.view) c.token.view due words full → TriesOnce a c due words answer
later_short {a} {b} {c} {due} {words} {full} answer same one two refused =
    tried_short answer same (goes_more a b c due.target one two)
    (due_refused_more (now a.token.view) (now b.token.view)
    (went_grow Rebuilds a.token.view b.token.view one.on.gone.went) c.token.view due words full
    refused)

-- what a start with this answer leaves done
abbrev StartLeaves : Caller → Caller → Started → Type 0
StartLeaves old new answer =
    (first : Snapshot) → StartsDoneSince first (now old.token.view) old.number
    → LeavesDone first (now new.token.view) old.number (Ok answer)

-- the rebuild that was started was helped to its end
pub own_tried : {a b c : Caller} {due : Due} {words rebuild : ℕ} {answer : Started}
    → GoesFor a b due.target → answer ≡ start.Yes rebuild → StartLeaves a b answer
    → HelpsOwn b c due words rebuild (Ok tt) → TriesOnce a c due words (Ok true)
own_tried {a} {b} {c} {due} {words} {rebuild} {answer} one is leaves h = record {
  on = goes_more a b c due.target one h.on;
  last = λ is. h.shut;
  further = λ is. absurd (cc);
  done = λ first done. subst (StartsDoneSince first (now c.token.view)) one.on.gone.number
      (h.done first (subst (λ n. StartsDoneBut first (now b.token.view) n rebuild)
      (sym one.on.gone.number)
      (yes_leaves first (now b.token.view) a.number answer rebuild is (leaves first done))));
  full = tt;
}

-- the parent was marked
pub marked_tried : {old new : Caller} {due : Due} {words : ℕ} {answer : Started}
    → GoesFor old new due.target → answer ≡ start.Marked
    → (started answer ≡ started start.Marked → ¬ (IsOpen (now new.token.view) due.parent))
    → StartLeaves old new answer → TriesOnce old new due words (Ok true)
marked_tried {old} {new} {due} {words} {answer} on is closed leaves = record {
  on = on;
  last = λ last. inr (closed (ap started is));
  further = λ is. absurd (cc);
  done = λ first done.
      marked_leaves first (now new.token.view) old.number answer is (leaves first done);
  full = tt;
}

-- the row is a node after both
pub due_node : {a b c : Caller} {parent index target : ℕ} → GoesFor a b target → GoesFor b c target
    → MayStart a.token.view parent index target → IsNode (now c.token.view) target
due_node {a} {b} {c} {parent} {index} {target} one two may =
    let on = goes_more a b c target one two in
    let m = may_start_went Rebuilds a.token.view c.token.view on.on.gone.went parent index target may in
    is_inner m.row m.published

-- what the slot held instead was helped, and then it was looked if the row is open
pub other_tried : {a b c : Caller} {token : TokenFace} {due : Due} {words word : ℕ} {opened : Bool}
    {answer : Started} → MayStart a.token.view due.parent due.index due.target
    → GoesFor a b due.target → answer ≡ start.Other word
    → ((word : ℕ) → started answer ≡ started (start.Other word)
    → StoodInstead b.token.view due.parent due.index due.target word) → StartLeaves a b answer
    → HelpsOther b c due words word (Ok tt) → GoesOnTo c.token.view token.view
    → IsTrue opened ↔ IsOpen (now token.view) due.target
    → TriesOnce a (record c { token = token }) due words (Ok (not opened))
other_tried {a} {b} {c} {token} {due} {words} {word} {opened} {answer} may one is other leaves h seen iff =
    record {
      on = goes_more a b last due.target one
          (goes_more b c last due.target h.on (loaded_for c token due.target (still_ready h.on.on) seen));
      last = λ is. inl (not_open_shut opened (IsOpen (now token.view) due.target) iff is);
      further = λ shut.
          due_further Rebuilds Rebuilds a.token.view b.token.view c.token.view token.view due.parent
          due.index due.target word may one.on.gone.went (other word (ap started is)) h.on.on.gone.went
          h.settled seen (not_shut_open opened (IsOpen (now token.view) due.target) iff (cc));
      done = done_more a b last one.on.gone.number kept
          (done_more b c last h.on.on.gone.number h.done
          (plain_done (λ event. ⊥) load_plain c token (still_ready h.on.on)
          (goes_on_went (λ event. ⊥) c.token.view token.view seen)));
      full = tt;
    }
  where
    last : Caller
    last = record c { token = token }

    kept : KeepsDone a b
    kept first done =
        other_leaves first (now b.token.view) a.number answer word is (leaves first done)

-- ---- attempt after attempt

module _ (a b c : Caller) (due : Due) (words : ℕ) (one : GoesFor a b due.target) where
  -- the last attempt was refused, which is handed on
  pub rebuilt_short : (answer : Result (Unit {0}) Full) (full : Full)
      → IsErrAnd answer (λ x. x ≡ full) → TriesOnce b c due words (Err full)
      → RebuildsRow a c due words answer
  rebuilt_short (Ok a) full same t = absurd same
  rebuilt_short (Err e) full same t = record {
    on = goes_more a b c due.target one t.on;
    shut = tt;
    done = tt;
    full = subst (IsDueRefused (now a.token.view) c.token.view due words) (sym same)
        (due_refused_more (now a.token.view) (now b.token.view)
        (went_grow Rebuilds a.token.view b.token.view one.on.gone.went) c.token.view due words full
        t.full);
  }

  -- the last attempt found the row or its parent not open
  pub rebuilt_last : (last : Bool) → KeepsDone a b → TriesOnce b c due words (Ok last) → last ≡ true
      → RebuildsRow a c due words (Ok tt)
  rebuilt_last last kept t is = record {
    on = goes_more a b c due.target one t.on;
    shut = t.last is;
    done = done_more a b c one.on.gone.number kept t.done;
    full = tt;
  }
