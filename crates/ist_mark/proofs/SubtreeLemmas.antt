-- The rows of a subtree, and steps of marking it, as callers go on. Serves each function.
use Rattle.std.proofs.Common.{◌≡◌, ℕ, sym, ap, ◌∙◌, subst, arith}
use Rattle.ist_core.specs.declared.events.Event.{Event}
use Rattle.ist_core.specs.declared.events.Event.TheVariants.{Reserve, Install, Okay, Decide, Resolve, Mark, Pass, Finish, Root, Place, Lose}
use Rattle.ist_core.specs.LogTerms.{Log, Passes, Snapshot}
use Rattle.laws_links.proofs.FinishedLemmas.{target_grows}
use Rattle.ist_rule.specs.RuleTerms.{TokenFace, IsSound, now, GoesOnTo, WentOn, KeepsSearch}
use Rattle.ist_rule.specs.declared.view.TableName.{TableName}
use Rattle.ist_rule.specs.declared.view.View.{View}
use Rattle.ist_rule.proofs.WentOnLemmas.{went_grow, went_all, went_more, went_same, goes_on_went}
use Rattle.ist_rule.proofs.ExchangeLemmas.{keeps_more, keeps_same, goes_on_keeps}
use Rattle.ist_rows.specs.RowTerms.{KeepsRows}
use Rattle.ist_dcss.specs.Helping.{Serves}
use Rattle.ist_dcss.proofs.ResolvedLemmas.{went_row}
use Rattle.ist_mark.specs.Marking.{MayMark, LeadsTo, to_row, to_target, LiesUnder, the_node, one_lower, IsOnSubtree, Marks}
use Rattle.ist_mark.specs.Passing.{IsMetAt, MayPass, HasMarked}
use Rattle.ist_mark.proofs.KeepingLemmas.{happened_went, may_mark_went, may_pass_went}

-- ---- rows of a subtree

-- a word that leads to a row leads there still
pub leads_later : {P : Event → Type 0} (v w : View) → WentOn P v w → (word row : ℕ)
    → LeadsTo (now v) word row → LeadsTo (now w) word row
leads_later v w g word row (to_row is) = to_row is
leads_later {P = P} v w g word row (to_target rebuild is h) =
    to_target rebuild is (target_grows (now v) (now w) (went_grow P v w g) rebuild row h)

-- a row of a subtree stays a row of it
pub under_later : {P : Event → Type 0} (v w : View) → WentOn P v w → (node row : ℕ)
    → LiesUnder (now v) v.log node row → LiesUnder (now w) w.log node row
under_later v w g node _ the_node = the_node
under_later {P = P} v w g node _ (one_lower {above = above} {row = row} i word under p leads) =
    one_lower i word (under_later v w g node above under)
    (happened_went P v w g (Passes above i word) p) (leads_later v w g word row leads)

-- the rows of a subtree of a subtree are of it
pub under_lower : (t : Snapshot) (log : Log) (node child row : ℕ) → LiesUnder t log node child
    → LiesUnder t log child row → LiesUnder t log node row
under_lower t log node child _ top the_node = top
under_lower t log node child _ top (one_lower {above = above} i word under p leads) =
    one_lower i word (under_lower t log node child above top under) p leads

-- a change on a slot of it stays such a change
on_later : {P : Event → Type 0} (v w : View) → WentOn P v w → (node base : ℕ)
    → IsOnSubtree v node base → IsOnSubtree w node base
on_later {P = P} v w g node base s = grind (arith, went_row, under_later)

on_lower : (v : View) (node child base : ℕ) → LiesUnder (now v) v.log node child
    → IsOnSubtree v child base → IsOnSubtree v node base
on_lower v node child base top s = grind (arith, under_lower)

-- ---- steps of marking

-- a step of marking a subtree stays one in a later view
marks_later : {P : Event → Type 0} (v w : View) → WentOn P v w → (node : ℕ) (event : Event)
    → Marks v node event → Marks w node event
marks_later v w g node (Okay caller base) is = on_later v w g node base is
marks_later v w g node (Decide caller base said) is = on_later v w g node base is
marks_later v w g node (Resolve caller base) is = on_later v w g node base is
marks_later v w g node (Mark caller row) is = under_later v w g node row is
marks_later v w g node (Pass caller row i word) is = under_later v w g node row is
marks_later v w g node (Finish caller row keys) is = under_later v w g node row is
marks_later v w g node _ is = absurd is

-- a step of marking what hangs below the node is a step of marking the node's subtree
marks_lower : (v : View) (node child : ℕ) → LiesUnder (now v) v.log node child → (event : Event)
    → Marks v child event → Marks v node event
marks_lower v node child top (Okay caller base) is = on_lower v node child base top is
marks_lower v node child top (Decide caller base said) is = on_lower v node child base top is
marks_lower v node child top (Resolve caller base) is = on_lower v node child base top is
marks_lower v node child top (Mark caller row) is = under_lower (now v) v.log node child row top is
marks_lower v node child top (Pass caller row i word) is = grind (arith, under_lower)
marks_lower v node child top (Finish caller row keys) is = grind (arith, under_lower)
marks_lower v node child top _ is = absurd is

-- steps of help for a change on a slot of it are steps of marking it
serves_marks : (v : View) (node base : ℕ) → IsOnSubtree v node base → (event : Event)
    → Serves base event → Marks v node event
serves_marks v node base s (Okay caller other) is = subst (IsOnSubtree v node) (sym is) s
serves_marks v node base s (Decide caller other said) is = subst (IsOnSubtree v node) (sym is) s
serves_marks v node base s (Resolve caller other) is = subst (IsOnSubtree v node) (sym is) s
serves_marks v node base s _ is = absurd is

-- no step of marking changes what its caller holds
pub marks_keep : (v : View) (node : ℕ) (event : Event) → Marks v node event → KeepsRows event
marks_keep v node (Reserve caller base size) is = absurd is
marks_keep v node (Install caller base rows) is = absurd is
marks_keep v node (Root caller rebuild word rows) is = absurd is
marks_keep v node (Place caller rebuild i word rows) is = absurd is
marks_keep v node (Lose caller bases) is = absurd is
marks_keep v node _ is = tt

-- ---- callers that mark

-- marking on
pub marked_more : (node : ℕ) (u v w : View) → WentOn (Marks v node) u v → WentOn (Marks w node) v w
    → WentOn (Marks w node) u w
marked_more node u v w a b = went_more (Marks w node) u v w
    (went_all (Marks v node) (Marks w node) (marks_later v w b node) u v a) b

-- marking on below the node
pub marked_lower : (node child : ℕ) (u v w : View) → WentOn (Marks v node) u v
    → LiesUnder (now v) v.log node child → WentOn (Marks w child) v w → WentOn (Marks w node) u w
marked_lower node child u v w a under b = marked_more node u v w a
    (went_all (Marks w child) (Marks w node)
    (marks_lower w node child (under_later v w b node child under)) v w b)

-- helping a change that was met in a slot of the node
pub marked_help : (node base : ℕ) (u v w : View) → WentOn (Marks v node) u v → IsMetAt v node base
    → WentOn (Serves base) v w → WentOn (Marks w node) u w
marked_help node base u v w a m h =
    let on = went_row (Serves base) base v w h m.may_help.row m.may_help.installed in
    let node_is : node ≡ on.0.node = sym m.node_is ∙ sym (ap (λ r. r.node) on.2.others) in
    marked_more node u v w a
    (went_all (Serves base) (Marks w node)
    (serves_marks w node base record {
      change = on.0;
      published = on.1;
      under = subst (LiesUnder (now w) w.log node) node_is the_node;
    }) v w h)

-- ---- callers that only mark

-- marking on twice
pub mark_more : (node : ℕ) (a b c : TokenFace) → HasMarked node a b → HasMarked node b c
    → HasMarked node a c
mark_more node a b c first second = record {
  went = marked_more node a.view b.view c.view first.went second.went;
  search = keeps_more a.view b.view c.view first.search second.search;
}

-- marking on below the node
pub mark_lower : (node child : ℕ) (a b c : TokenFace) → HasMarked node a b
    → LiesUnder (now b.view) b.view.log node child → HasMarked child b c → HasMarked node a c
mark_lower node child a b c first under second = record {
  went = marked_lower node child a.view b.view c.view first.went under second.went;
  search = keeps_more a.view b.view c.view first.search second.search;
}

-- a caller that did nothing has only marked
pub mark_same : (node : ℕ) (a : TokenFace) → IsSound a.view → HasMarked node a a
mark_same node a s = grind (arith, went_same, keeps_same)

-- and so has one that made loads
pub mark_loads : (node : ℕ) (a b : TokenFace) → GoesOnTo a.view b.view → HasMarked node a b
mark_loads node a b g = grind (arith, goes_on_went, goes_on_keeps)

-- and one that helped a change which it met in a slot of the node
pub mark_help : (node base : ℕ) (a b c : TokenFace) → HasMarked node a b → IsMetAt b.view node base
    → WentOn (Serves base) b.view c.view → KeepsSearch b.view c.view → HasMarked node a c
mark_help node base a b c first met went search = record {
  went = marked_help node base a.view b.view c.view first.went met went;
  search = keeps_more a.view b.view c.view first.search search;
}

-- the token of a caller that only marked is of its table still
pub table_on : (node : ℕ) (a b : TokenFace) (t : TableName) → HasMarked node a b → a.view.table ≡ t
    → b.view.table ≡ t
table_on node a b t h is = ap (λ (v : View). v.table) h.went.same ∙ is

-- a node that may be marked may be marked still
pub may_mark_on : (node : ℕ) (a b : TokenFace) → HasMarked node a b → MayMark a.view node
    → MayMark b.view node
may_mark_on node a b h m = may_mark_went (Marks b.view node) a.view b.view h.went node m

-- and so may its slots be passed
pub may_pass_on : (node degree : ℕ) (a b : TokenFace) → HasMarked node a b → MayPass a.view node degree
    → MayPass b.view node degree
may_pass_on node degree a b h m = may_pass_went (Marks b.view node) a.view b.view h.went node degree m
