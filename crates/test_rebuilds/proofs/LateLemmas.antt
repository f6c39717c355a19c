-- A put that is filled before its node is marked: its rows, what its install asks, and what comes
-- of it. Serves the steps of `late`.
use Rattle.std.proofs.Common.{◌≡◌, ℕ, [], ◌∷◌, List, Some, sym, ap, ◌∙◌, subst, refl, arith}
use Rattle.ist_core.specs.declared.commands.Command.TheVariants.{Put}
use Rattle.ist_core.specs.declared.events.Who.TheVariants.{Caller as CallerOf}
use Rattle.ist_core.specs.declared.states.ChangeRow.{ChangeRow}
use Rattle.ist_core.specs.TreeTerms.{CanInstall, HasRoomFor, IsUnrefused}
use Rattle.ist_core.specs.WordTerms.{Change as ChangePiece, words_of, IsGoodBase, start}
use Rattle.ist_dcss.specs.Helping.{MayHelp}
use Rattle.ist_dcss.specs.Installing.{IsInstallable, IsInstalled, rows_of}
use Rattle.ist_rule.specs.RuleTerms.{StoredAll, now, IsSound}
use Rattle.ist_rule.specs.declared.view.View.{View}
use Rattle.ist_rule.proofs.EventLemmas.{goes_on_who}
use Rattle.ist_rows.specs.RowTerms.{filled_with, with_own, kind_words, IsCaller, HasGone}
use Rattle.ist_rows.specs.declared.callers.Caller.{Caller}
use Rattle.ist_rows.specs.declared.kinds.Kind.TheVariants.{Leaf, Change}
use Rattle.ist_updates.specs.Asking.{IsAsked}
use Rattle.ist_updates.specs.Changing.{Prepares}
use Rattle.ist_updates.proofs.StepLemmas.{asked_gone, prepares_none}
use Rattle.ist_updates.proofs.PlanLemmas.{leaf_planned}
use Rattle.ist_updates.proofs.StandingLemmas.{installed_row}
use Rattle.ist_updates.proofs.SlotLemmas.{prepared}
use Rattle.ist_updates.proofs.PairLemmas.{kinds_apart, own_twice, row_filled, stand_kept}
use Rattle.test_rebuilds.specs.Late.{HasBoth, WasAt, put_of, row_of_put}

-- ---- both rows

-- the result of filling both rows
pub record HasFilledBoth (old new : Caller) (change leaf : ℕ) (row : ChangeRow) : Type 0 where
  pub same : new ≡ with_own old new.token.view.own
  pub stored : StoredAll new.token.view (rows_of (put_of leaf row) change)

-- filling the leaf and then the change fills both rows
pub both_filled : (old mid new : Caller) (change leaf : ℕ) (row : ChangeRow) → IsSound old.token.view
    → IsSound mid.token.view → IsCaller old → IsCaller mid → HasBoth old change leaf
    → mid ≡ filled_with old leaf (row.key ∷ row.value ∷ [])
    → new ≡ filled_with mid change (words_of (ChangePiece row))
    → HasFilledBoth old new change leaf row
both_filled old mid new change leaf row s t c d has first second =
    let words : List ℕ = row.key ∷ row.value ∷ [] in
    let a = row_filled old mid Leaf leaf words s c has.leaf_is (omega arith) first in
    let change_there = ap (λ (x : Caller). x.change) first ∙ has.change_is in
    let leaf_there = ap (λ (x : Caller). x.leaf) first ∙ has.leaf_is in
    let b = row_filled mid new Change change (words_of (ChangePiece row)) t d change_there
    (omega arith) second in
    record {
      same = own_twice old mid new a.same b.same;
      stored = (
        b.stands,
        (
          stand_kept mid new change b.others
              record { caller = mid.number; base = leaf; size = kind_words Leaf } refl
              (d.rows Leaf leaf leaf_there)
              (kinds_apart mid t d Leaf Change leaf change leaf_there change_there (omega arith))
              words (omega arith) a.stands,
          tt,
        ),
      );
    }

-- ---- the install

-- the put is filled for a slot of a node that was open, and may be installed
pub put_filled : (old first mid new : Caller) (key value node index word change leaf : ℕ)
    (row : ChangeRow) → IsAsked old (Put key value) → HasGone Prepares old first
    → WasAt first.token.view key node index word → HasRoomFor (now first.token.view) key word
    → IsUnrefused (now first.token.view) first.number node → HasGone Prepares first mid
    → HasBoth mid change leaf → IsGoodBase leaf
    → row ≡ row_of_put key value node index word leaf mid.number → IsCaller new
    → IsSound new.token.view → new ≡ with_own mid new.token.view.own
    → StoredAll new.token.view (rows_of (put_of leaf row) change)
    → IsInstallable new.token.view change (put_of leaf row)
put_filled old first mid new key value node index word change leaf row asked gone at room unrefused
    taken has good row_is c s same stored =
    let planned = leaf_planned Prepares first mid taken.went
    record { node = node; index = index; word = word; key = key } at change has.change_is value
    leaf _ room has.leaf_is good refl row row_is in
    let asked_then = asked_gone Prepares old first (Put key value) asked gone prepares_none in
    (prepared first mid new record { node = node; index = index; word = word; key = key } _ _
    asked_then at unrefused taken planned c s same stored).installable

-- whoever installed the put may help it
pub late_helps : (v w : View) (number change leaf : ℕ) (row : ChangeRow) → v.who ≡ CallerOf number
    → IsInstalled v change (put_of leaf row) w → MayHelp w change
late_helps v w number change leaf row mine i = grind (arith, goes_on_who, installed_row)
