-- Which table a seat is of: the table's name tells it. Serves the steps.
use Rattle.std.proofs.Common.{◌≡◌, List, [], arith}
use Rattle.atomic_table.specs.Seated.{TableId}
use Rattle.ist_core.specs.declared.pairs.Pair.{Pair}
use Rattle.ist_rule.specs.RuleTerms.{View, TokenFace, TableFace, name_of, Seated, IsSound}

-- a seat whose view has the table's name is of the table
pub same_id : {x y : TableId} {v : View} {start : List Pair} {s : TokenFace} {t : TableFace}
    → v.table ≡ name_of x → record { view = v } ≡ s → record { table = name_of y; start = start } ≡ t
    → s.view.table ≡ t.table → x ≡ y
same_id named seen table same = grind arith

-- a seat is a token's if its view is sound, and of the table that it stays at
pub seat_holds : {x y : TableId} {m : Seated} {w : View} → m.0 ≡ w → m.1 ≡ [] → IsSound w
    → w.words ≡ x.words → w.table ≡ name_of x → y ≡ x
    → (m.1 ≡ []) × IsSound m.0 × (m.0.words ≡ y.words) × (m.0.table ≡ name_of y)
seat_holds is none sound words named same = grind arith
