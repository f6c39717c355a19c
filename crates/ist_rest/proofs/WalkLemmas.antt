-- Walks: they are one, they are split between slots, and what is found below a slot lies as its way
-- says.
use Rattle.std.proofs.Common.{◌≡◌, ℕ, ◌+◌, List, [], ◌∷◌, ◌++◌, Some, refl, sym, ap, ◌∙◌, subst, inr, arith}
use Rattle.std.proofs.lemmas.List.{append_assoc}
use Rattle.ist_core.specs.declared.pairs.Pair.{Pair}
use Rattle.ist_core.specs.WordTerms.{Ref, Empty, Unset, LeafAt, InnerAt, ChangeAt, RebuildAt}
use Rattle.ist_core.specs.LogTerms.{Among, Each}
use Rattle.ist_core.proofs.AllWordLemmas.{each_append, each-among}
use Rattle.ist_rest.specs.WordRows.{Span}
use Rattle.ist_rest.specs.Walks.{Way, Visit, LeadsBy, IsGood, IsGoodAs, rows_read, pairs_read, visits_from, visits_below, Walks, ends, goes_on, AreApart}
use Rattle.ist_rest.specs.RestingWords.{read_on, BreaksFirstAt, breaks, later}

-- ---- split

-- a walk over two lists of slots, in two
pub record IsSplit (words : List ℕ) (xs ys : List Visit) (rows : List Span) (pairs : List Pair) :
    Type 0 where
  pub rows_here : List Span
  pub rows_there : List Span
  pub here : List Pair
  pub there : List Pair
  pub first : Walks words xs rows_here here
  pub second : Walks words ys rows_there there
  pub rows_are : rows ≡ rows_here ++ rows_there
  pub pairs_are : pairs ≡ here ++ there

-- a walk over joined slots is a walk over the first and then one over the others
pub split : (words : List ℕ) (zs : List Visit) (rows : List Span) (pairs : List Pair)
    → Walks words zs rows pairs
    → (xs ys : List Visit) → zs ≡ xs ++ ys → IsSplit words xs ys rows pairs
split words zs rows pairs w [] ys e = record {
  rows_here = [];
  rows_there = rows;
  here = [];
  there = pairs;
  first = ends;
  second = subst (λ vs. Walks words vs rows pairs) e w;
  rows_are = refl;
  pairs_are = refl;
}
split words _ _ _ ends (x ∷ xs) ys e = absurd (cc)
split words _ _ _ (goes_on {visit = visit} {visits = visits} {rows = rows} {pairs = pairs} at w)
    (x ∷ xs) ys e =
    let same : visit ≡ x = cc in let more : visits ≡ xs ++ ys = cc in
    let b = visits_below words visit at.ref in
    let it = split words (b ++ visits) rows pairs w (b ++ xs) ys (ap (λ vs. b ++ vs) more
    ∙ sym (append_assoc b xs ys)) in
    record {
      rows_here = rows_read words visit at.ref ++ it.rows_here;
      rows_there = it.rows_there;
      here = pairs_read words at.ref ++ it.here;
      there = it.there;
      first = subst (λ v. Walks words (v ∷ xs) (rows_read words visit at.ref ++ it.rows_here)
          (pairs_read words at.ref ++ it.here)) same (goes_on at it.first);
      second = it.second;
      rows_are = ap (λ rs. rows_read words visit at.ref ++ rs) it.rows_are
          ∙ sym (append_assoc (rows_read words visit at.ref) it.rows_here it.rows_there);
      pairs_are = ap (λ ps. pairs_read words at.ref ++ ps) it.pairs_are
          ∙ sym (append_assoc (pairs_read words at.ref) it.here it.there);
    }

-- ---- one walk

-- slots in good shape read as one thing
same_ref : (words : List ℕ) (visit : Visit) (a b : IsGood words visit) → a.ref ≡ b.ref
same_ref words visit a b = let e : Some a.ref ≡ Some b.ref = sym a.reads.is ∙ b.reads.is in cc

-- from the same slots the same is found
pub one_walk : (words : List ℕ) (zs : List Visit) (rows : List Span) (pairs : List Pair)
    → Walks words zs rows pairs
    → (ys : List Visit) (others : List Span) (more : List Pair) → zs ≡ ys → Walks words ys others
    more → (rows ≡ others) × (pairs ≡ more)
one_walk words _ _ _ ends _ _ _ e ends = (refl, refl)
one_walk words _ _ _ ends _ _ _ e (goes_on at w) = absurd (cc)
one_walk words _ _ _ (goes_on at w) _ _ _ e ends = absurd (cc)
one_walk words _ _ _ (goes_on {visit = x} {visits = xs} {rows = rows} {pairs = pairs} at w) _ _ _
    e (goes_on {visit = y} {visits = ys} {rows = others} {pairs = more} also v) =
    let first : x ≡ y = cc in let rest : xs ≡ ys = cc in
    let Same : Visit → Type 0 = λ z. (good : IsGood words z) → at.ref ≡ good.ref in
    let ref : at.ref ≡ also.ref = subst Same first (λ good. same_ref words x at good) also in
    let it = one_walk words (visits_below words x at.ref ++ xs) rows pairs w
    (visits_below words y also.ref ++ ys) others more (cc) v in
    let r = it.0 in let p = it.1 in (cc, cc)

-- ---- where pairs lie

-- what is found in a slot lies as each way to it says
lies_here : (words : List ℕ) (visit : Visit) (way : Way) (ref : Ref) → IsGoodAs words visit ref
    → Among way visit.ways → Each (λ pair. LeadsBy pair.key way) (pairs_read words ref)
lies_here words visit way Empty h a = tt
lies_here words visit way Unset h a = tt
lies_here words visit way (LeafAt base) h a = grind (arith, each-among)
lies_here words visit way (InnerAt base) h a = tt
lies_here words visit way (ChangeAt base) h a = tt
lies_here words visit way (RebuildAt base) h a = tt

-- the way to a slot is one of the ways to those below it
below_among : (way : Way) (node : ℕ) (ways : List Way) (keys : List ℕ) (i place : ℕ)
    (slots : List ℕ) → Among way ways
    → Each (λ v. Among way v.ways) (visits_from node ways keys i place slots)
below_among way node ways keys i place [] a = tt
below_among way node ways keys i place (s ∷ slots) a =
    (inr a, below_among way node ways keys (i + 1) (place + 1) slots a)

among_below : (words : List ℕ) (visit : Visit) (way : Way) (ref : Ref) → Among way visit.ways
    → Each (λ v. Among way v.ways) (visits_below words visit ref)
among_below words visit way (InnerAt base) a = grind (arith, below_among)
among_below words visit way Empty a = tt
among_below words visit way Unset a = tt
among_below words visit way (LeafAt base) a = tt
among_below words visit way (ChangeAt base) a = tt
among_below words visit way (RebuildAt base) a = tt

-- if all slots are reached this way, so are the keys of all pairs found in them
pub all_lie : (words : List ℕ) (way : Way) (zs : List Visit) (rows : List Span)
    (pairs : List Pair) → Walks words zs rows pairs
    → Each (λ v. Among way v.ways) zs → Each (λ pair. LeadsBy pair.key way) pairs
all_lie words way _ _ _ ends a = tt
all_lie words way _ _ _ (goes_on {visit = visit} {visits = visits} {rows = rows} {pairs = pairs}
    at w) a =
    each_append (λ pair. LeadsBy pair.key way) (pairs_read words at.ref) pairs
    (lies_here words visit way at.ref at.good a.0)
    (all_lie words way (visits_below words visit at.ref ++ visits) rows pairs w
    (each_append (λ v. Among way v.ways) (visits_below words visit at.ref) visits
    (among_below words visit way at.ref a.0) a.1))

-- ---- rows that share no word

-- rows of two lists are apart if the first are, and the second are apart from both
pub apart_both : (seen xs ys : List Span) → AreApart seen xs → AreApart (read_on seen xs) ys
    → AreApart seen (xs ++ ys)
apart_both seen [] ys h k = k
apart_both seen (x ∷ xs) ys h k = (h.0, apart_both (x ∷ seen) xs ys h.1 k)

-- if joined rows are apart, the first of them are
pub apart_first : (seen xs ys : List Span) → AreApart seen (xs ++ ys) → AreApart seen xs
apart_first seen [] ys h = tt
apart_first seen (x ∷ xs) ys h = (h.0, apart_first (x ∷ seen) xs ys h.1)

-- if joined rows are apart, the second of them are, once the first were read
pub apart_second : (seen xs ys : List Span) → AreApart seen (xs ++ ys)
    → AreApart (read_on seen xs) ys
apart_second seen [] ys h = h
apart_second seen (x ∷ xs) ys h = apart_second (x ∷ seen) xs ys h.1

-- a walk through rows that share no word breaks nowhere
pub no_break : (words : List ℕ) (seen : List Span) (zs : List Visit) (place : ℕ)
    → BreaksFirstAt words seen zs place
    → (ys : List Visit) (rows : List Span) (pairs : List Pair) → Walks words ys rows pairs
    → ys ≡ zs → AreApart seen rows → ⊥
no_break words seen _ _ (breaks not) _ _ _ ends e apart = cc
no_break words seen _ _ (breaks {visit = x} not) _ _ _ (goes_on {visit = visit} {visits = visits}
    {rows = rows} at w) e apart =
    let same : visit ≡ x = cc in
    let No : Visit → Type 0 = λ v. (good : IsGood words v)
    → AreApart seen (rows_read words v good.ref) → ⊥ in
    subst No (sym same) not at (apart_first seen (rows_read words visit at.ref) rows apart)
no_break words seen _ _ (later at so more) _ _ _ ends e apart = cc
no_break words seen _ place (later {visit = x} {visits = xs} good so more) _ _ _
    (goes_on {visit = visit} {visits = visits} {rows = rows} {pairs = pairs} at w) e apart =
    let same : visit ≡ x = cc in let rest : visits ≡ xs = cc in
    let Same : Visit → Type 0 = λ v. (also : IsGood words v) → at.ref ≡ also.ref in
    let ref : at.ref ≡ good.ref = subst Same same (λ also. same_ref words visit at also) good in
    let read : rows_read words visit at.ref ≡ rows_read words x good.ref = cc in
    let on : visits_below words visit at.ref ++ visits ≡ visits_below words x good.ref ++ xs = cc in
    no_break words (read_on seen (rows_read words x good.ref))
    (visits_below words x good.ref ++ xs) place more (visits_below words visit at.ref ++
    visits) rows pairs w on
    (subst (λ rs. AreApart (read_on seen rs) rows) read
    (apart_second seen (rows_read words visit at.ref) rows apart))

-- the first break is one
pub one_break : (words : List ℕ) (seen : List Span) (zs : List Visit) (place : ℕ)
    → BreaksFirstAt words seen zs place
    → (more : List Span) (ys : List Visit) (other : ℕ) → BreaksFirstAt words more ys other
    → seen ≡ more → zs ≡ ys → place ≡ other
one_break words seen _ _ (breaks {visit = x} not) more _ _ (breaks {visit = y} also) s e =
    let same : x ≡ y = cc in ap (λ v. v.place) same
one_break words seen _ _ (breaks {visit = x} not) more _ other (later {visit = y} at so on) s e =
    let same : x ≡ y = cc in
    let No : Visit → Type 0 = λ v. (good : IsGood words v)
    → AreApart seen (rows_read words v good.ref) → ⊥ in
    absurd (subst No same not at (subst (λ ss. AreApart ss (rows_read words y at.ref)) (sym s) so))
one_break words seen _ place (later {visit = x} at so on) more _ _ (breaks {visit = y} not) s e =
    let same : y ≡ x = cc in
    let No : Visit → Type 0 = λ v. (good : IsGood words v)
    → AreApart more (rows_read words v good.ref) → ⊥ in
    absurd (subst No same not at (subst (λ ss. AreApart ss (rows_read words x at.ref)) s so))
one_break words seen _ place (later {visit = x} {visits = xs} at so on) more _ other
    (later {visit = y} {visits = ys} good also next) s e =
    let same : x ≡ y = cc in let rest : xs ≡ ys = cc in
    let Same : Visit → Type 0 = λ v. (g : IsGood words v) → at.ref ≡ g.ref in
    let ref : at.ref ≡ good.ref = subst Same same (λ g. same_ref words x at g) good in
    one_break words (read_on seen (rows_read words x at.ref)) (visits_below words x at.ref ++ xs)
    place on
    (read_on more (rows_read words y good.ref)) (visits_below words y good.ref ++ ys) other next
    (cc) (cc)
