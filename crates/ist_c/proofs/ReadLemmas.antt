-- What reads by a pass behind a handle found, and what they wrote.
use Rattle.std.proofs.Common.{◌≡◌, ℕ, Bool, List, length, Option, sym, subst, ◌-◌, ◌≤◌, [], ◌∷◌, take, drop, refl, arith}
use Rattle.std.specs.Arc.{arc_value}
use Rattle.ist_core.specs.declared.pairs.Pair.{Pair}
use Rattle.ist_live.specs.Reading.{HasOnlyRead}
use Rattle.ist_handles.specs.declared.pieces.Piece.{Piece}
use Rattle.ist_handles.specs.declared.held.Held.{Held}
use Rattle.ist_handles.specs.declared.passes.TreePass.{TreePass}
use Rattle.ist_handles.specs.Results.{done, memory}
use Rattle.ist_handles.specs.Pairs.{Wrote, written}
use Rattle.ist_c.specs.Reads.{IsNextPair, ReadsBy, pass_reads, EntriesHold, ListsBy, pass_lists, HasWalkedRange, ListsLive, lists_live, lists_no_more, ReadsInTree, HasCountedRoom, CountsRoom, pass_counts}
use Rattle.std.proofs.lemmas.List.{drop_all, length-drop, take_all}
use Rattle.ist_c.specs.Listing.{ListsLeft, CountsLeft, lists_left, counts_left}
use Rattle.ist_handles.specs.declared.closed_trees.LeftPairs.{LeftPairs}
use Rattle.ist_handles.specs.declared.results.Stats.{Stats}
use Rattle.ist_handles.specs.declared.held.Held.TheVariants as of

-- what a pass behind a handle found as the next pair was read by this pass, and written
pub read_next : (way : Bool) (held : Held) (p q : TreePass) (key status : ℕ) (pair : Option Pair)
    (before after : Pair) → held ≡ of.Pass p → arc_value q.tree ≡ arc_value p.tree
    → HasOnlyRead p.pass q.pass → IsNextPair way p.pass q.pass key pair → Wrote pair status before after
    → ReadsBy way held (of.Pass q) key status before after
read_next way held p q key status pair before after is tree read next wrote =
    subst (λ (h : Held). ReadsBy way h (of.Pass q) key status before after) (sym is)
    (pass_reads way p q key status pair before after (record { same_tree = tree; read = read }) next wrote)

-- what a pass behind a handle listed was read by this pass, and written
pub read_range : (held : Held) (p q : TreePass) (first last : ℕ) (room after : List Pair)
    (before piece : Piece) → held ≡ of.Pass p → length after ≡ length room
    → EntriesHold p q first last after piece
    → ListsBy held (of.Pass q) first last done room after before piece
read_range held p q first last room after before piece is same listed =
    subst (λ (h : Held). ListsBy h (of.Pass q) first last done room after before piece) (sym is)
    (pass_lists p q first last room after before piece same listed)

-- what a pass behind a handle found in one walk is the list of a range, and written
pub listed_live : (held : Held) (p q : TreePass) (first last : ℕ) (found : List Pair)
    (room after : List Pair) (before count : ℕ) → held ≡ of.Pass p → HasWalkedRange p q first last found
    → after ≡ written found room → count ≡ length found
    → ListsLive held (of.Pass q) first last done room after before count
listed_live held p q first last found room after before count is listed wrote many =
    subst (λ (h : Held). ListsLive h (of.Pass q) first last done room after before count) (sym is)
    (subst (λ es. ListsLive (of.Pass p) (of.Pass q) first last done room es before count) (sym wrote)
    (subst (λ n. ListsLive (of.Pass p) (of.Pass q) first last done room (written found room) before n)
    (sym many) (lists_live p q first last found room before listed)))

-- without memory it has only read
pub listed_none : (held : Held) (p q : TreePass) (first last : ℕ) (room : List Pair) (count : ℕ)
    → held ≡ of.Pass p → ReadsInTree p q
    → ListsLive held (of.Pass q) first last memory room room count count
listed_none held p q first last room count is read =
    subst (λ (h : Held). ListsLive h (of.Pass q) first last memory room room count count) (sym is)
    (lists_no_more p q first last room count read)

-- what a pass behind a handle counted was left of its tree, and written
pub counted_room : (held : Held) (p q : TreePass) (before words : ℕ) → held ≡ of.Pass p
    → HasCountedRoom p q words → CountsRoom held (of.Pass q) done before words
counted_room held p q before words is counted =
    subst (λ (h : Held). CountsRoom h (of.Pass q) done before words) (sym is)
    (pass_counts p q before words counted)

-- ---- what is written of the pairs that are left. Serves `ist_list` and `ist_count`.

-- ---- entries

nothing_written : (room : List Pair) → room ≡ written [] room
nothing_written [] = refl
nothing_written (e ∷ room) = refl

-- past the last pair nothing is written
pub none_written : (pairs : List Pair) (room : List Pair) (from : ℕ) → length pairs ≤ from
    → room ≡ written (drop from pairs) room
none_written pairs room from past = grind (arith, nothing_written, drop_all)

-- a slice from a number on has all pairs up to the end
pub rest_written : (given pairs : List Pair) (room : List Pair) (from : ℕ) → given ≡ pairs
    → written (take (length given - from) (drop from given)) room ≡ written (drop from pairs) room
rest_written given pairs room from same = grind (arith, take_all, length-drop)

-- ---- by a handle

-- a handle of the pairs that are left lists them
pub listed_left : (held : Held) (left : LeftPairs) (from count : ℕ) (room after : List Pair) (before : ℕ)
    → held ≡ of.Left left → count ≡ length left.pairs.items → after ≡ written (drop from left.pairs.items) room
    → ListsLeft held from done room after before count
listed_left held left from count room after before is all wrote =
    subst (λ (h : Held). ListsLeft h from done room after before count) (sym is)
    (subst (λ es. ListsLeft (of.Left left) from done room es before count) (sym wrote)
    (subst (λ n. ListsLeft (of.Left left) from done room (written (drop from left.pairs.items) room) before n)
    (sym all) (lists_left left from room before)))

-- and says how many they are
pub counted_left : (held : Held) (left : LeftPairs) (count : ℕ) (before : Stats) → held ≡ of.Left left
    → count ≡ length left.pairs.items
    → CountsLeft held done before (record { keys = count; words = left.words; used = left.used })
counted_left held left count before is all =
    subst (λ (h : Held). CountsLeft h done before (record { keys = count; words = left.words; used = left.used }))
    (sym is)
    (subst (λ n. CountsLeft (of.Left left) done before (record { keys = n; words = left.words; used = left.used }))
    (sym all) (counts_left left before))
