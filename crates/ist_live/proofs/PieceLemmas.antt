-- The pairs of a piece, one by one, and pieces one after another. Serves whoever reads in pieces.
use Rattle.std.proofs.Common.{◌≡◌, ℕ, ◌+◌, ◌-◌, ◌<◌, ◌≤◌, List, [], ◌∷◌, ◌++◌, Option, Some, None, sym, subst, append-nil, arith}
use Rattle.std.specs.Prelude.{IfSome}
use Rattle.std.proofs.lemmas.Bool.Decides.{eqb_tells}
use Rattle.ist_core.specs.declared.pairs.Pair.{Pair}
use Rattle.ist_find.specs.Spans.{pair_value}
use Rattle.ist_tree.specs.CallTerms.{PassFace}
use Rattle.ist_live.specs.Ends.{IsNextUp}
use Rattle.ist_live.specs.Reading.{HasOnlyRead, Had, HadNone}
use Rattle.ist_live.proofs.JoinLemmas.{live_join, turn_join, in_turn}
use Rattle.ist_live.proofs.ListLemmas.{all_live, none_live}
use Rattle.ist_live.proofs.ReadLemmas.{had_before, had_since, read_not, read_more}
use Rattle.ist_live.proofs.SlotLemmas.{SweepsUp, none_up, slot_up}
use Rattle.ist_live.specs.Pieces.{IsPiece, end_of}

-- ---- within a piece

-- the keys from the first up to this one were read, and these pairs found
pub record IsReadTo (p q : PassFace) (first from last : ℕ) (pairs : List Pair) : Type 0 where
  pub read : HasOnlyRead p q
  pub swept : SweepsUp p first q from pairs
  pub low : first ≤ from
  pub high : from ≤ last

-- nothing was read yet
pub read_to_none : (p : PassFace) (first last : ℕ) (pairs : List Pair) → pairs ≡ [] → first ≤ last
    → IsReadTo p p first first last pairs
read_to_none p first last pairs none some = record {
  read = read_not p;
  swept = subst (SweepsUp p first p first) (sym none) none_up;
  low = omega arith;
  high = some;
}

-- keys that were swept are a piece
swept_piece : (p q : PassFace) (first last : ℕ) (next : Option ℕ) (pairs : List Pair)
    → IfSome next (λ key. (first < key) × (key ≤ last)) → SweepsUp p first q (end_of next last + 1) pairs
    → IsPiece p q first last next pairs
swept_piece p q first last next pairs goes_on s = grind (arith, all_live, in_turn)

-- if there are no keys, the piece is empty
pub piece_none : (p : PassFace) (first last : ℕ) (pairs : List Pair) → pairs ≡ [] → last < first
    → IsPiece p p first last None pairs
piece_none p first last pairs none less = grind (arith, none_live, in_turn)

module _ (p m q : PassFace) (first from last : ℕ) (pairs : List Pair) (h : IsReadTo p m first from last pairs)
    (r : HasOnlyRead m q) where
  -- more was read
  pub read_on : HasOnlyRead p q
  read_on = read_more p m q h.read r

  -- if there is no pair up to the last key, it is the last piece
  pub piece_ends : HadNone m q from (last + 1) → IsPiece p q first last None pairs
  piece_ends none = let some = h.high in
      swept_piece p q first last None pairs tt (subst (SweepsUp p first q (last + 1)) (append-nil pairs)
      (slot_up None h.swept record {
        read = r;
        some = omega arith;
        within = tt;
        values = λ k low high. had_before p m q h.read k None (none k low high);
        since = λ k low high. had_since m q k None (none k low high);
      }))

  module _ (x : Pair) (next : IsNextUp m q from (Some x)) (all : List Pair) (is : all ≡ pairs ++ x ∷ []) where
    -- the next pair is one more
    one_more : SweepsUp p first q (x.key + 1) all
    one_more =
        subst (SweepsUp p first q (x.key + 1)) (sym is) (slot_up (Some x) h.swept record {
          read = r;
          some = let low = next.0 in omega arith;
          within = (next.0, omega arith);
          values = λ k low high. had_before p m q h.read k (pair_value (Some x) k) (had_here k low high);
          since = λ k low high. had_since m q k (pair_value (Some x) k) (had_here k low high);
        })
      where
        had_here : (k : ℕ) → from ≤ k → k < x.key + 1 → Had m q k (pair_value (Some x) k)
        had_here k low high = grind (arith, eqb_tells)

    -- it is the pair of the last key
    pub piece_full : x.key ≡ last → IsPiece p q first last None all
    piece_full at = swept_piece p q first last None all tt (subst (λ n. SweepsUp p first q (n + 1) all) at one_more)

    -- or the next piece begins after it
    pub piece_goes_on : x.key < last → IsPiece p q first last (Some (x.key + 1)) all
    piece_goes_on less = let low = next.0 in let least = h.low in
        let same : x.key + 1 ≡ x.key + 1 - 1 + 1 = omega arith in
        swept_piece p q first last (Some (x.key + 1)) all (omega arith, omega arith)
        (subst (λ n. SweepsUp p first q n all) same one_more)

    -- or the piece goes on
    pub read_to_more : x.key < last → IsReadTo p q first (x.key + 1) last all
    read_to_more less = let low = next.0 in let least = h.low in
        record { read = read_on; swept = one_more; low = omega arith; high = omega arith }

-- ---- piece after piece

-- a piece and the next one are one piece
pub pieces_join : (p m q : PassFace) (first from last : ℕ) (next : Option ℕ) (xs ys all : List Pair)
    → all ≡ xs ++ ys → HasOnlyRead p m → HasOnlyRead m q → IsPiece p m first last (Some from) xs
    → IsPiece m q from last next ys → IsPiece p q first last next all
pieces_join p m q first from last next xs ys all is r s a b =
    grind (arith, live_join, in_turn, turn_join)
