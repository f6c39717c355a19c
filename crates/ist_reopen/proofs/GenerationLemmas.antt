-- Closed trees are generations, and the calls on trees that follow one another are one legal
-- history. Serves the laws.
use Rattle.std.proofs.Common.{◌≡◌, ℕ, ◌+◌, false, List, [], ◌∷◌, ◌++◌, map, Bool, true, ◌==◌, if◌then◌else◌, refl, sym, ap, subst, ◌∙◌, ◌<◌, length, arith}
use Rattle.std.proofs.lemmas.List.{map-append}
use Rattle.ist_core.specs.TreeTerms.{Map, map_after, Entry, map_after_entries, is_change, map_of, AllStandIn}
use Rattle.ist_core.specs.LogTerms.{Each, PassCalls, Reading, readings, at_position, told_by_entry, told_by_reading, woven_from, woven, IsLegal, Answered}
use Rattle.ist_core.proofs.AllWordLemmas.{each_of}
use Rattle.laws_histories.proofs.MapLemmas.{same_head, same_tail, replay-append, no_entry_leaves, legal_append}
use Rattle.laws_histories.proofs.WovenLemmas.{among-in_order, of_passes, taken_legal}
use Rattle.ist_reopen.specs.Generations.{map_told, Generation, generation_of, IsGeneration, FollowOn, history, changes_in, history_in, pairs_left}
use Rattle.ist_core.specs.declared.pairs.Pair.{Pair}
use Rattle.ist_core.proofs.AllPlaceLemmas.{map_of-pairs_of}
use Rattle.laws_histories.proofs.ContentLemmas.{told_at}
use Rattle.ist_tree.specs.CallTerms.{MakerFace, ClosesWith}
use Rattle.ist_tree.proofs.FewChangesLemmas.{lists_long}
use Rattle.ist_reopen.proofs.ReopenLemmas.{returned_are}

-- ---- a legal woven history leads where its changes lead. Serves `laws.histories_are_one`.

-- the map after two histories is the map after the second on the map after the first
pub told-append : (m : Map) (xs ys : List Answered)
    → map_told m (xs ++ ys) ≡ map_told (map_told m xs) ys
told-append m xs ys = grind (arith, map-append, replay-append)

-- the reading changes nothing
abbrev Plain : Reading → Type 0
Plain x = is_change x.call ≡ false

-- a history that begins with readings: they leave the map, and the rest is legal
record Stays (m : Map) (xs : List Reading) (rest : List Answered) : Type 0 where
  leaves : map_told m (map told_by_reading xs) ≡ m
  legal : IsLegal m rest

-- readings leave the map
readings_stay : (m : Map) (xs : List Reading) (rest : List Answered) → Each Plain xs
    → IsLegal m (map told_by_reading xs ++ rest) → Stays m xs rest
readings_stay m [] rest plain legal = record { leaves = refl; legal = legal }
readings_stay m (x ∷ xs) rest plain legal =
    let leaves : map_after m x.call.command ≡ m
    = no_entry_leaves m x.call.command x.call.reply plain.0 (sym (same_head _ _ _ _ legal)) in
    let more = readings_stay m xs rest plain.1
    (subst (λ n. IsLegal n (map told_by_reading xs ++ rest)) leaves (same_tail _ _ _ _ legal)) in
    record {
      leaves = ap (λ n. map_told n (map told_by_reading xs)) leaves ∙ more.leaves;
      legal = more.legal;
    }

-- the readings at a position change nothing either
plain_at : (position : ℕ) (xs : List Reading) → Each Plain xs → Each Plain (at_position position xs)
plain_at position [] h = tt
plain_at position (x ∷ xs) h = at (plain_at position xs h.1) (x.call.position == position)
  where
    at : Each Plain (at_position position xs) → (b : Bool)
        → Each Plain (if b then x ∷ at_position position xs else at_position position xs)
    at rest true = (h.0, rest)
    at rest false = rest

-- a legal history from a position on leads where the changes from there on lead
leads_from : (position : ℕ) (entries : List Entry) (xs : List Reading) (m : Map) → Each Plain xs
    → IsLegal m (woven_from position entries xs)
    → map_told m (woven_from position entries xs) ≡ map_after_entries m entries
leads_from position [] xs m plain legal =
    (readings_stay m (at_position position xs) [] (plain_at position xs plain)
    (subst (IsLegal m) (sym (append_none (map told_by_reading (at_position position xs)))) legal)).leaves
  where
    append_none : (ys : List Answered) → ys ++ [] ≡ ys
    append_none [] = refl
    append_none (y ∷ ys) = ap (λ zs. y ∷ zs) (append_none ys)
leads_from position (entry ∷ entries) xs m plain legal =
    let here = readings_stay m (at_position position xs)
    (told_by_entry entry ∷ woven_from (position + 1) entries xs) (plain_at position xs plain)
    legal in
    told-append m (map told_by_reading (at_position position xs))
    (told_by_entry entry ∷ woven_from (position + 1) entries xs)
    ∙ ap (λ n. map_told n (told_by_entry entry ∷ woven_from (position + 1) entries xs)) here.leaves
    ∙ leads_from (position + 1) entries xs (map_after m entry.command) plain
    (same_tail _ _ _ _ here.legal)

-- a legal woven history leads where its changes lead
pub woven_leads : (m : Map) (entries : List Entry) (passes : List PassCalls)
    → IsLegal m (woven entries passes)
    → map_told m (woven entries passes) ≡ map_after_entries m entries
woven_leads m entries passes legal = grind (arith, leads_from, each_of, of_passes, among-in_order)

-- a tree that was closed is a generation
pub closed_is : (m : MakerFace) (closed : List ℕ) (c : ClosesWith m closed)
    → IsGeneration (generation_of m closed c)
closed_is m closed c = record {
  lawful = c.stands.lawful;
  stand = subst (λ calls. AllStandIn m.tree.start (length closed) c.stands.log 0 calls) c.calls_are
      c.stands.stand;
  owners = subst (λ n. Each (λ entry. entry.owner < n) (changes_in (generation_of m closed c)))
      (sym (lists_long 0 m.made m.taken)) c.owners;
  linear = record { linear = c.timed.linear; leads = c.leads };
  over = c.timed.over;
  returned = returned_are m closed c;
}

-- the history of one tree is legal
pub one_legal : (g : Generation) → IsGeneration g → IsLegal (map_of g.start) (history_in g)
one_legal g h = grind (arith, taken_legal, told_at)

-- and leads to the pairs that it left
pub one_leads : (g : Generation) → IsGeneration g
    → map_told (map_of g.start) (history_in g) ≡ map_of (pairs_left g)
one_leads g h = grind (arith, woven_leads, one_legal, map_of-pairs_of)

-- the same from the pairs that the tree was opened with
from_first : (first : List Pair) (g : Generation) → g.start ≡ first → IsGeneration g
    → map_told (map_of first) (history_in g) ≡ map_of (pairs_left g)
from_first first g same h = grind (arith, one_leads)

-- the histories of trees that follow one another are legal together
pub history_legal : (first last : List Pair) (gs : List Generation) → FollowOn first gs last
    → IsLegal (map_of first) (history gs)
history_legal first last [] h = refl
history_legal first last (g ∷ gs) h = legal_append (map_of first) (history_in g) (history gs)
    (subst (λ ps. IsLegal (map_of ps) (history_in g)) h.0 (one_legal g h.1))
    (subst (λ m. IsLegal m (history gs)) (sym (from_first first g h.0 h.1))
    (history_legal (pairs_left g) last gs h.2))

-- and lead to the last pairs
pub history_leads : (first last : List Pair) (gs : List Generation) → FollowOn first gs last
    → map_told (map_of first) (history gs) ≡ map_of last
history_leads first last [] h = ap map_of (sym h)
history_leads first last (g ∷ gs) h = told-append (map_of first) (history_in g) (history gs)
    ∙ ap (λ m. map_told m (history gs)) (from_first first g h.0 h.1)
    ∙ history_leads (pairs_left g) last gs h.2
