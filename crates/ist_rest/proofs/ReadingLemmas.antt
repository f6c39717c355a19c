-- How a slot word reads, in two steps. Serves `reading.reads`.
use Rattle.std.proofs.Common.{◌≡◌, ℕ, ◌≤◌, List, [], ◌∷◌, ◌++◌, length, Some, sym, ◌∙◌, arith}
use Rattle.ist_core.specs.WordTerms.{next_place, place_limit, Ref, Empty, Unset, LeafAt, InnerAt, ChangeAt, RebuildAt, ref_of}
use Rattle.ist_core.specs.LogTerms.{Each}
use Rattle.ist_rest.specs.WordRows.{word_at}
use Rattle.ist_rest.specs.Walks.{Reads, Visit, IsGood, IsGoodAs}
use Rattle.ist_rest.specs.Readings.{IsTreeRef, IsInUse, LeavesSide, LeadsPast}

-- the parts of a list joined
each_left : {A : Type 0} (P : A → Type 0) (xs ys : List A) → Each P (xs ++ ys) → Each P xs
each_left P [] ys h = tt
each_left P (x ∷ xs) ys h = (h.0, each_left P xs ys h.1)

each_right : {A : Type 0} (P : A → Type 0) (xs ys : List A) → Each P (xs ++ ys) → Each P ys
each_right P [] ys h = h
each_right P (x ∷ xs) ys h = each_right P xs ys h.1

-- a slot in good shape reads as nothing, a leaf or an inner row, at a place of a table
pub good_plain : (words : List ℕ) (visit : Visit) (ref : Ref) → IsGoodAs words visit ref
    → IsTreeRef ref
good_plain words visit Empty h = tt
good_plain words visit Unset h = absurd h
good_plain words visit (LeafAt base) h = tt
good_plain words visit (InnerAt base) h = tt
good_plain words visit (ChangeAt base) h = absurd h
good_plain words visit (RebuildAt base) h = absurd h

-- what a slot in good shape reads as has its base in the table
pub good_in_use : (words : List ℕ) (visit : Visit) (ref : Ref) → word_at words next_place ≤ length
    words → length words ≤ place_limit → IsGoodAs words visit ref → IsInUse words ref
good_in_use words visit Empty k l h = tt
good_in_use words visit Unset k l h = absurd h
good_in_use words visit (LeafAt base) k l h = tt
good_in_use words visit (InnerAt base) k l h = grind arith
good_in_use words visit (ChangeAt base) k l h = absurd h
good_in_use words visit (RebuildAt base) k l h = absurd h

-- a reading of a word goes by both steps
pub first_step : (words : List ℕ) (word : ℕ) (found ref : Ref) → ref_of word ≡ Some found
    → IsTreeRef ref → Reads words word ref
    → (side : Ref) × LeavesSide words found side × LeadsPast words side ref
first_step words word found ref e plain r = grind (arith, each_left, each_right)

-- what a slot reads as by one first step
pub same_side : (words : List ℕ) (found a b : Ref) → LeavesSide words found a
    → LeavesSide words found b → a ≡ b
same_side words found a b x y = let e : Some a ≡ Some b = sym x.is ∙ y.is in cc

-- if the second step reads nothing, no slot with the word is in good shape
pub none_by : (words : List ℕ) (word : ℕ) (found side : Ref) (visit : Visit)
    → word_at words next_place ≤ length words
    → length words ≤ place_limit → ref_of word ≡ Some found → LeavesSide words found side
    → ((r : Ref) → IsTreeRef r → LeadsPast words side r → IsInUse words r → ⊥)
    → visit.word ≡ word → IsGood words visit → ⊥
none_by words word found side visit used most e one none same good =
    grind (arith, good_plain, first_step, same_side, good_in_use)
