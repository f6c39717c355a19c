-- An interval that has all keys below 2^64 has all pairs. Serves `listing.all_words`.
use Rattle.std.proofs.Common.{◌<◌, ◌^◌, ◌++◌, arith, subst, IfOk, Result, Ok, Err, get_or, ◌≡◌, ◌∙◌, sym, ap, ℕ, List, [], ◌∷◌, refl, length, suc, ◌+◌, ◌-◌, ◌≤◌, ⊎_elim, reverse, take, drop, slice_range}
use Rattle.std.proofs.lemmas.Bool.Decides.{nat_tests, leb_tells}
use Rattle.ist_core.specs.declared.pairs.Pair.{Pair}
use Rattle.ist_core.specs.TreeTerms.{pairs_between, pairs_of, listed, StandsFor}
use Rattle.ist_core.specs.WordTerms.{Ref, Empty, Unset, LeafAt, InnerAt, ChangeAt, RebuildAt, next_place, child_count}
use Rattle.ist_rest.specs.WordRows.{Span, word_at, reads_in}
use Rattle.ist_rest.specs.Walks.{Visit, first_visit, Walks, ends, goes_on, pairs_read, visits_below, IsGood}
use Rattle.ist_rest.specs.RestingWords.{HoldPairs, AreListed, Hold}
use Rattle.ist_rest.proofs.PublishedLemmas.{between-append, no_pair, IsStood}
use Rattle.ist_rest.proofs.WalkLemmas.{one_walk}
use Rattle.std.proofs.lemmas.Option.{get_or_from_slice_get}
use Rattle.ist_core.specs.LogTerms.{Answered, spent}
use Rattle.ist_core.proofs.AllLogLemmas.{words_are_spent}
use Rattle.laws_histories.specs.Telling.{map_now}
use Rattle.laws_histories.proofs.ContentLemmas.{contents_at}
use Rattle.ist_rest.specs.Standings.{Stands}
use Rattle.ist_rest.proofs.StandingLemmas.{hold_contents}
use Rattle.std.proofs.lemmas.List.{append_assoc, append-nil, reverse-append, drop_more}
use Rattle.std.proofs.lemmas.List.Sums.{sum_by-append, sum_by-cons}
use Rattle.std.specs.List.{sum_by}
use Rattle.ist_rest.specs.declared.slots.SlotLeft.{SlotLeft}
use Rattle.ist_core.proofs.AllPlaceLemmas.{child_count_tells}
use Rattle.ist_rest.specs.Steps.{GiveBetween, no_slot, one_slot, slot_of, slots_of, slots_between, pairs_at, work_of, work_left, IsGoodSlot}
use Rattle.ist_rest.specs.Listing.{HasListed}
use Rattle.ist_rest.proofs.GiveLemmas.{IsVisited, visited}
use Rattle.ist_rest.proofs.ReverseLemmas.{turned, turned_back, sum_reverse}
use Rattle.ist_rest.proofs.WorkLemmas.{work_falls}

-- words hold one list of pairs
pub same_pairs : (words : List ℕ) (xs ys : List Pair) → HoldPairs words xs → HoldPairs words ys
    → xs ≡ ys
same_pairs words xs ys h k = grind (arith, one_walk)

-- ---- the whole interval

module _ (words : List ℕ) (fit : (i : ℕ) → get_or words i 0 < 2 ^ 64) where
  one_pair : (base : ℕ) → pairs_between 0 18446744073709551615 (pairs_read words (LeafAt base))
      ≡ pairs_read words (LeafAt base)
  one_pair base = grind (arith, nat_tests)

  whole_read : (ref : Ref) → pairs_between 0 18446744073709551615 (pairs_read words ref)
      ≡ pairs_read words ref
  whole_read Empty = refl
  whole_read Unset = refl
  whole_read (LeafAt base) = one_pair base
  whole_read (InnerAt base) = refl
  whole_read (ChangeAt base) = refl
  whole_read (RebuildAt base) = refl

  whole : (zs : List Visit) (rows : List Span) (pairs : List Pair) → Walks words zs rows pairs
      → pairs_between 0 18446744073709551615 pairs ≡ pairs
  whole _ _ _ ends = refl
  whole _ _ _ (goes_on {visit = visit} {visits = visits} {rows = rows} {pairs = pairs} at w) =
      between-append 0 18446744073709551615 (pairs_read words at.ref) pairs
      ∙ ap (λ ps. ps ++ pairs_between 0 18446744073709551615 pairs) (whole_read at.ref)
      ∙ ap (λ ps. pairs_read words at.ref ++ ps)
      (whole (visits_below words visit at.ref ++ visits) rows pairs w)

  -- the pairs listed from 0 to the largest key are all pairs that the words hold
  pub held_whole : (found : List Pair) → AreListed words 0 18446744073709551615 found
      → HoldPairs words found
  held_whole found h = grind (arith, whole)

-- what follows for each successful result
pub if_ok_so : {A E : Type 0} (P Q : A → Type 0) (r : Result A E) → ((x : A) → P x → Q x)
    → IfOk r P → IfOk r Q
if_ok_so P Q (Ok x) f h = f x h
if_ok_so P Q (Err e) f h = h

-- ---- words that represent some pairs and calls hold the pairs of the map after the changes of their
-- log, and no others.

-- words that represent pairs and calls are the image of a lawful log
pub stood : (words : List ℕ) (pairs : List Pair) (told : List (List Answered))
    (s : StandsFor words pairs told) → IsStood pairs words s.log
stood words pairs told s = record { lawful = s.lawful; image = s.image; resolved = s.resolved }

-- standing words hold the map
pub hold_map : (words : List ℕ) (pairs : List Pair) (told : List (List Answered))
    (s : StandsFor words pairs told)
    → HoldPairs words (pairs_of (map_now pairs (length words) s.log))
hold_map words pairs told s = grind (arith, hold_contents, stood, contents_at)

-- standing words hold some pairs
pub stand_hold : (words : List ℕ) → Stands words → Hold words
stand_hold words s = (pairs_of (map_now s.0 (length words) s.2.log), hold_map words s.0 s.1 s.2)

-- what is listed is the interval of the map
pub listed_of_map : (words : List ℕ) (first last : ℕ) (found : List Pair) → AreListed words first
    last found → (pairs : List Pair) (told : List (List Answered)) (s : StandsFor words pairs told)
    → found ≡ listed first last (map_now pairs (length words) s.log)
listed_of_map words first last found h pairs told s = h.2 ∙ ap (pairs_between first last)
    (same_pairs words h.0 (pairs_of (map_now pairs (length words) s.log)) h.1
    (hold_map words pairs told s))

-- all that is listed is the map
pub pairs_of_map : (words : List ℕ) (found : List Pair) → HoldPairs words found
    → (pairs : List Pair) (told : List (List Answered)) (s : StandsFor words pairs told)
    → found ≡ pairs_of (map_now pairs (length words) s.log)
pairs_of_map words found h pairs told s =
    same_pairs words found (pairs_of (map_now pairs (length words) s.log)) h
    (hold_map words pairs told s)

-- the first free word is what was spent
pub used_spent : (words : List ℕ) (read : ℕ) → read ≡ word_at words next_place
    → (pairs : List Pair) (told : List (List Answered)) (s : StandsFor words pairs told)
    → read ≡ spent pairs s.log
used_spent words read e pairs told s = grind (arith, get_or_from_slice_get, words_are_spent)

-- ---- how far a listing has come, step by step. Serves `listing`.

module _ (words : List ℕ) (first last : ℕ) where
  -- a listing begins at the anchor's slot
  pub come_start : (pairs : List Pair) → HoldPairs words pairs
      → (left none : List SlotLeft) (found : List Pair) (word node : ℕ) → word ≡ word_at words 3
      → node ≡ 2
      → none ≡ [] → left ≡ none ++ record { word = word; node = node } ∷ [] → found ≡ []
      → HasListed words first last left found
  come_start pairs h left none found word node w e given is g =
      let f : left ≡ none ++ slot_of (first_visit words) ∷ [] =
      is ∙ ap (λ n. none ++ record { word = word; node = n } ∷ []) e
      ∙ ap (λ x. none ++ record { word = x; node = 2 } ∷ []) w in
      let all = pairs_between first last pairs ++ [] in
      let one : GiveBetween words first last (slot_of (first_visit words) ∷ []) all =
      one_slot (first_visit words) h.walk no_slot in
      let r : reverse left ≡ slot_of (first_visit words) ∷ [] =
      turned left none (slot_of (first_visit words)) f
      ∙ ap (λ (xs : List SlotLeft). slot_of (first_visit words) ∷ reverse xs) given in
      record {
        pairs = pairs;
        holds = h;
        rest = all;
        gives = subst (λ ss. GiveBetween words first last ss all) (sym r) one;
        so_far = sym (append-nil (pairs_between first last pairs))
            ∙ ap (λ (xs : List Pair). xs ++ all) (sym g);
      }

  -- the next slot is visited
  next : (left ys : List SlotLeft) (found : List Pair) (slot : SlotLeft)
      (h : HasListed words first last left found) → left ≡ ys ++ slot ∷ []
      → IsVisited words first last slot (reverse ys) h.rest
  next left ys found slot h e = grind (arith, visited, turned)

  -- it is in good shape
  pub come_good : (left ys : List SlotLeft) (found : List Pair) (slot : SlotLeft)
      → HasListed words first last left found → left ≡ ys ++ slot ∷ [] → IsGoodSlot words slot
  come_good left ys found slot h e = let it = next left ys found slot h e in it.good

  -- what is left is less
  pub come_less : (left ys new : List SlotLeft) (found : List Pair) (slot : SlotLeft)
      → HasListed words first last left found → left ≡ ys ++ slot ∷ []
      → new ≡ ys ++ reverse (slots_between words first last (reads_in words slot.word))
      → work_left words new < work_left words left
  come_less left ys new found slot h e f = let used = h.holds.bounds in
      let falls = work_falls words slot first last used.high (come_good left ys found slot h e) in
      let bs = slots_between words first last (reads_in words slot.word) in
      let a = sum_by-append (work_of words) ys (reverse bs) in
      let b = sum_reverse (work_of words) bs in
      let c = sum_by-append (work_of words) ys (slot ∷ []) in
      let d = sum_by-cons (work_of words) slot [] in let n : sum_by (work_of words) [] ≡ 0 = refl in
      let x = ap (sum_by (work_of words)) e in let y = ap (sum_by (work_of words)) f in omega arith

  -- the listing has come further
  pub come_step : (left ys new : List SlotLeft) (found more : List Pair) (slot : SlotLeft)
      → HasListed words first last left found → left ≡ ys ++ slot ∷ []
      → new ≡ ys ++ reverse (slots_between words first last (reads_in words slot.word))
      → more ≡ found ++ pairs_at words first last (reads_in words slot.word)
      → HasListed words first last new more
  come_step left ys new found more slot h e f g = let it = next left ys found slot h e in
      let ps = pairs_at words first last (reads_in words slot.word) in record {
        pairs = h.pairs;
        holds = h.holds;
        rest = it.rest;
        gives = subst (λ ss. GiveBetween words first last ss it.rest)
            (sym (turned_back ys (slots_between words first last (reads_in words slot.word)) new
            f)) it.gives;
        so_far = h.so_far ∙ ap (λ xs. found ++ xs) it.pairs_are
            ∙ sym (append_assoc found ps it.rest) ∙ ap (λ xs. xs ++ it.rest) (sym g);
      }

  -- no slot gives no pair
  none_left : (zs : List SlotLeft) (rest : List Pair) → GiveBetween words first last zs rest
      → zs ≡ [] → rest ≡ []
  none_left _ _ no_slot e = refl
  none_left _ _ (one_slot visit w more) e = absurd (cc)

  -- if no slot is left, all was found
  pub come_end : (left : List SlotLeft) (found : List Pair) → HasListed words first last left
      found → left ≡ [] → AreListed words first last found
  come_end left found h e = grind (arith, none_left, append-nil)

  -- an interval that ends before it begins has no pair
  pub none_between : (pairs : List Pair) → HoldPairs words pairs → (found : List Pair)
      → last < first → found ≡ [] → AreListed words first last found
  none_between pairs h found less e = (pairs, h, e ∙ sym (no_pair first last pairs less))

-- ---- slots of a node, from number k on

-- pushing the slot before the pushed ones leaves the slots of a longer range
pub pushed : (slots : List ℕ) (base at to word node : ℕ) (left start new : List SlotLeft)
    → 0 < at → at ≤ to → to ≤ length slots → word ≡ get_or slots (at - 1) 0 → node ≡ base
    → left ≡ start ++ reverse (slots_of base (slice_range slots at to))
    → new ≡ left ++ record { word = word; node = node } ∷ []
    → new ≡ start ++ reverse (slots_of base (slice_range slots (at - 1) to))
pushed slots base at to word node left start new some high within w n e f = let k = at - 1 in
    let on : List ℕ → List SlotLeft = slots_of base in
    let m : to - k ≡ suc (to - at) = omega arith in let j : k + 1 ≡ at = omega arith in
    let here : slice_range slots k to ≡ get_or slots k 0 ∷ slice_range slots at to =
    ap (λ i. take i (drop k slots)) m
    ∙ ap (take (suc (to - at))) (drop_more slots k 0 (omega arith))
    ∙ ap (λ i. get_or slots k 0 ∷ take (to - at) (drop i slots)) j in
    let xs = on (slice_range slots at to) in
    let x : SlotLeft = record { word = get_or slots k 0; node = base } in
    let back : reverse (x ∷ xs) ≡ reverse xs ++ x ∷ [] = reverse-append (x ∷ []) xs in
    f ∙ ap (λ i. left ++ record { word = word; node = i } ∷ []) n
    ∙ ap (λ i. left ++ record { word = i; node = base } ∷ []) w
    ∙ ap (λ ls. ls ++ x ∷ []) e ∙ append_assoc start (reverse xs) (x ∷ [])
    ∙ ap (λ ls. start ++ ls) (sym back)
    ∙ ap (λ ws. start ++ reverse (on ws)) (sym here)

-- a greater key has no earlier child
pub ordered : (keys : List ℕ) (first last from to : ℕ) → first ≤ last → from ≡ child_count keys
    first → to ≡ child_count keys last → from ≤ to + 1
ordered keys first last from to h e f =
    ⊎_elim (λ k. let l = k.1 in omega arith) (λ k. let l = k.1 in let less =
    child_count_tells keys last first (omega arith) in absurd (omega arith)) (leb_tells from to)

-- a slot in good shape reads as something
pub reads_some : (words : List ℕ) (slot : SlotLeft) → IsGoodSlot words slot
    → ((visit : Visit) → visit.word ≡ slot.word → IsGood words visit → ⊥) → ⊥
reads_some words slot g none = none g.visit (ap (λ s. s.word) g.slot_is) g.good
