-- Which rows a caller has stored into.
use Rattle.std.specs.Prelude.{◌≡◌, ℕ, ◌+◌, ◌<◌}
use Rattle.ist_core.specs.declared.lists.HeldRow.{HeldRow}
use Rattle.ist_core.specs.Elements.{Among}
use Rattle.ist_rule.specs.Learning.{now}
use Rattle.ist_rule.specs.Rule.{own_at}
use Rattle.ist_rows.specs.declared.callers.Caller.{Caller}

-- the caller has stored only into the rows at such bases: the words of its other rows are unchanged
abbrev pub KeepsOthers : (ℕ → Type 0) → Caller → Caller → Type 0
KeepsOthers At old new =
    (h : HeldRow) → h.caller ≡ old.number → Among h (now old.token.view).held → ¬ (At h.base)
    → (k : ℕ) → k < h.size → own_at new.token.view.own (h.base + k) ≡ own_at old.token.view.own (h.base + k)
