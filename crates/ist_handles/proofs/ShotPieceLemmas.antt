-- What a walk over a shot has found so far. Serves `read_shot`.
use Rattle.std.proofs.Common.{◌≡◌, ◌≢◌, ℕ, zero, suc, ◌+◌, ◌-◌, ◌<◌, ◌≤◌, List, [], ◌∷◌, ◌++◌, length, take, slice_get, Option, Some, None, sym, ap, ◌∙◌, arith}
use Rattle.std.specs.Prelude.{IfSome}
use Rattle.std.proofs.lemmas.List.{take_all}
use Rattle.ist_core.specs.declared.pairs.Pair.{Pair}
use Rattle.ist_core.specs.LogTerms.{Lawful}
use Rattle.ist_core.specs.TreeTerms.{pairs_between}
use Rattle.ist_tree.specs.CallTerms.{PassFace, IsFrozenFor}
use Rattle.ist_tree.specs.declared.freezing.Frozen.{Frozen}
use Rattle.ist_live.specs.Pieces.{end_of}
use Rattle.ist_scan.specs.Shots.{HasOnlyLooked, ArePairsOf}
use Rattle.ist_scan.specs.Walks.{WalkFace, AreOneWalk, IsWalkOfPass}
use Rattle.ist_scan.proofs.PairLemmas.{rise}
use Rattle.ist_scan.proofs.ShotLemmas.{looked_not, looked_more, of_pairs, some_pairs}
use Rattle.ist_handles.specs.ShotPieces.{IsShotPiece}
use Rattle.ist_handles.proofs.UptoLemmas.{inside, upto}

-- the pass has only looked, and the pairs are the first ones of the interval in the shot
pub record IsShotReadTo (p q : PassFace) (shot : Frozen) (first last count : ℕ) (pairs : List Pair)
    : Type 0 where
  pub looked : HasOnlyLooked p q
  pub front : (all : List Pair) → ArePairsOf p shot all → pairs ≡ take count (pairs_between first last all)

-- the walk is over this interval of the shot, and has given this many pairs
pub record IsWalkOf (q : PassFace) (w : WalkFace) (shot : Frozen) (first last count : ℕ) : Type 0 where
  pub shot_is : w.shot ≡ shot
  pub first_is : w.first ≡ first
  pub last_is : w.last ≡ last
  pub given_is : w.given ≡ count
  pub way : IsWalkOfPass q w

-- ---- lists

past_all : (xs : List Pair) (n : ℕ) → slice_get xs n ≡ None → length xs ≤ n
past_all [] n at = omega arith
past_all (x ∷ xs) zero at = cc
past_all (x ∷ xs) (suc n) at = let rest = past_all xs n at in omega arith

take_next : (xs : List Pair) (n : ℕ) (x : Pair) → slice_get xs n ≡ Some x
    → take n xs ++ x ∷ [] ≡ take (suc n) xs
take_next [] n x at = cc
take_next (y ∷ xs) zero x at = let same : y ≡ x = cc in ap (λ z. z ∷ []) (sym same)
take_next (y ∷ xs) (suc n) x at = ap (λ l. y ∷ l) (take_next xs n x at)

-- ---- walks

-- nothing was read yet
pub read_to_none : (p : PassFace) (shot : Frozen) (first last : ℕ) (pairs : List Pair) → pairs ≡ []
    → IsShotReadTo p p shot first last 0 pairs
read_to_none p shot first last pairs none = record { looked = looked_not p; front = λ all h. none }

-- a walk that gave a pair is over the same interval, and has given one more
pub walk_on : (q m : PassFace) (w v : WalkFace) (shot : Frozen) (first last count : ℕ)
    → IsWalkOf m w shot first last count → AreOneWalk w v → v.given ≡ w.given + 1 → IsWalkOfPass q v
    → IsWalkOf q v shot first last (count + 1)
walk_on q m w v shot first last count walk one given way = grind arith

-- ---- pieces

-- what is said of the shot's pairs holds of the map's at each position that the shot is of
piece_of : (p : PassFace) (shot : Frozen) (first last : ℕ) (next : Option ℕ) (pairs : List Pair)
    → Lawful p.tree.start p.tree.words p.seen
    → ((all : List Pair) → ArePairsOf p shot all → pairs ≡ pairs_between first (end_of next last) all)
    → IfSome next (λ key. (first < key) × (key ≤ last)) → IsShotPiece p shot first last next pairs
piece_of p shot first last next pairs lawful by goes = grind (arith, of_pairs)

module _ (p m q : PassFace) (shot : Frozen) (first last count : ℕ) (pairs : List Pair) (w : WalkFace)
    (found : Option Pair) (read : IsShotReadTo p m shot first last count pairs)
    (walk : IsWalkOf m w shot first last count) (looked : HasOnlyLooked m q)
    (next : (all : List Pair) → ArePairsOf m shot all
    → found ≡ slice_get (pairs_between w.first w.last all) w.given) where
  -- the pass has only looked
  pub looked_on : HasOnlyLooked p q
  looked_on = looked_more p m q read.looked looked

  came : (all : List Pair) → ArePairsOf p shot all
      → slice_get (pairs_between first last all) count ≡ found
  came all h = grind arith

  -- if the walk found none, the pairs are all of the interval
  pub piece_ends : Lawful p.tree.start p.tree.words p.seen → found ≡ None
      → IsShotPiece p shot first last None pairs
  piece_ends lawful none =
      piece_of p shot first last None pairs lawful (λ all h. (let l : List Pair = pairs_between first last all in
      read.front all h ∙ take_all count l (past_all l count (came all h ∙ none)))) tt

  module _ (lawful : Lawful p.tree.start p.tree.words p.seen) (frozen : IsFrozenFor p shot) (pair : Pair)
      (some : found ≡ Some pair) where
    -- the pair is in the interval
    pub bounds : (first ≤ pair.key) × (pair.key ≤ last)
    bounds = grind (arith, some_pairs, inside)

    module _ (more : List Pair) (pushed : more ≡ pairs ++ pair ∷ []) where
      -- with it, these are the first pairs of the interval
      pub read_on : IsShotReadTo p q shot first last (count + 1) more
      read_on = record {
        looked = looked_on;
        front = λ all h. (let l : List Pair = pairs_between first last all in
            let same : suc count ≡ count + 1 = omega arith in
            pushed ∙ ap (λ ps. ps ++ pair ∷ []) (read.front all h)
            ∙ take_next l count pair (came all h ∙ some) ∙ ap (λ n. take n l) same);
      }

      upto_pair : (all : List Pair) → ArePairsOf p shot all → more ≡ pairs_between first pair.key all
      upto_pair all h = grind (arith, take_next, upto, rise)

      -- if it is the pair of the last key, they are all
      pub piece_full : pair.key ≡ last → IsShotPiece p shot first last None more
      piece_full is = piece_of p shot first last None more lawful
          (λ all h. upto_pair all h ∙ ap (λ n. pairs_between first n all) is) tt

      -- else the next piece begins after it
      pub piece_goes_on : pair.key ≢ last → IsShotPiece p shot first last (Some (pair.key + 1)) more
      piece_goes_on other = let b = bounds in let low = b.0 in let high = b.1 in
          let same : pair.key ≡ pair.key + 1 - 1 = omega arith in
          piece_of p shot first last (Some (pair.key + 1)) more lawful
          (λ all h. upto_pair all h ∙ ap (λ n. pairs_between first n all) same)
          (omega (arith, low), omega (arith, high, other))
