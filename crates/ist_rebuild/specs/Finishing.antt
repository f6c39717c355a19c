-- What the parts of a help promise each other: the words of a rebuild, and the change that will
-- finish it.
use Rattle.std.specs.Prelude.{◌≡◌, ℕ, ◌+◌, [], slice_get, Some}
use Rattle.ist_core.specs.declared.states.ChangeRow.{ChangeRow}
use Rattle.ist_core.specs.declared.states.RebuildRow.{RebuildRow}
use Rattle.ist_core.specs.Installing.{FitsKind}
use Rattle.ist_core.specs.Pieces.{Rebuild, words_of}
use Rattle.ist_core.specs.Rebuilding.{IsStarted}
use Rattle.ist_core.specs.References.{RebuildAt, word_of}
use Rattle.ist_core.specs.Snapshots.{Snapshot}
use Rattle.ist_core.specs.StartLayout.{start}
use Rattle.ist_core.specs.Statuses.{undecided, finish_kind}
use Rattle.ist_rule.specs.declared.view.View.{View}
use Rattle.ist_rule.specs.Learning.{now}
use Rattle.ist_rule.specs.Rule.{own_at}
use Rattle.ist_rows.specs.declared.callers.Caller.{Caller}
use Rattle.ist_dcss.specs.Installing.{Filling, IsInstallable}
use Rattle.ist_rebuild.specs.declared.sites.PlannedFinish.{PlannedFinish}

-- ---- the rebuild

-- the word is at this offset from the base of a published rebuild
pub record IsWordOf (t : Snapshot) (rebuild offset word : ℕ) : Type 0 where
  pub row : RebuildRow
  pub published : t.pieces rebuild ≡ Some (Rebuild row)
  pub is : slice_get (words_of (Rebuild row)) offset ≡ Some word

-- ---- the change

-- the change that puts the root of the rebuild in its place, owned by this caller
abbrev pub finish_row : PlannedFinish → ℕ → ChangeRow
finish_row plan owner =
    record {
      decision = undecided;
      kind = finish_kind;
      node = plan.parent;
      index = plan.index;
      from = word_of (RebuildAt plan.rebuild);
      to = plan.root;
      owner = owner;
      key = 0;
      value = 0;
    }

-- the plan is for a started rebuild, and gives its slot and its root, which is built; whoever owns
-- the finish, the change fits its kind
pub record IsPlan (v : View) (plan : PlannedFinish) : Type 0 where
  pub row : RebuildRow
  pub published : (now v).pieces plan.rebuild ≡ Some (Rebuild row)
  pub parent_is : row.parent ≡ plan.parent
  pub index_is : row.index ≡ plan.index
  pub started : IsStarted (now v) plan.rebuild
  pub fits : (owner : ℕ) → FitsKind (start v.start v.words) v.log (finish_row plan owner) []

-- the change that the caller has stored at the base, without fresh rows
abbrev pub filling_at : View → ℕ → Filling
filling_at v base =
    record {
      change = record {
        decision = own_at v.own base;
        kind = own_at v.own (base + 1);
        node = own_at v.own (base + 2);
        index = own_at v.own (base + 3);
        from = own_at v.own (base + 4);
        to = own_at v.own (base + 5);
        owner = own_at v.own (base + 6);
        key = own_at v.own (base + 7);
        value = own_at v.own (base + 8);
      };
      fresh = [];
    }

-- the caller holds its change row, and may install what it stored there: the finish of the plan
pub record IsPrepared (who : Caller) (plan : PlannedFinish) (change : ℕ) : Type 0 where
  pub row : who.change ≡ Some change
  pub is : (filling_at who.token.view change).change ≡ finish_row plan who.number
  pub may_install : IsInstallable who.token.view change (filling_at who.token.view change)
