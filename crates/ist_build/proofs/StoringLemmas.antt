-- What `lay` begins with: no leaf, one leaf, and the first row of a block.
use Rattle.std.proofs.Common.{◌≡◌, ◌≢◌, ℕ, ◌+◌, ◌*◌, ◌<◌, ◌≤◌, List, [], ◌∷◌, length, slice_index_or, refl, sym, ap, ◌∙◌, subst, arith}
use Rattle.std.specs.List.{sum, flat_map}
use Rattle.ist_core.specs.WordTerms.{degree, no_part, of_none, of_one, Leaf, Empty, LeafAt, ref_of, word_of, inner_words, shape}
use Rattle.ist_core.specs.TreeTerms.{PlacedLeaf}
use Rattle.ist_core.specs.LogTerms.{Snapshot, HoldsRow}
use Rattle.ist_core.proofs.AllWordLemmas.{least_degree-le, ref_of-word_of, shape_few, shape_many}
use Rattle.ist_rule.specs.RuleTerms.{IsSound, own_at, now}
use Rattle.ist_rule.specs.declared.view.View.{View}
use Rattle.ist_rule.specs.declared.view.OwnWord.{OwnWord}
use Rattle.ist_rule.proofs.StoreLemmas.{own_here, own_else}
use Rattle.ist_rows.specs.RowTerms.{IsCaller, HoldsBlock}
use Rattle.ist_rows.specs.declared.callers.Caller.{Caller}
use Rattle.ist_rows.proofs.ReserveLemmas.{next_low}
use Rattle.ist_dcss.proofs.FieldLemmas.{good_base}
use Rattle.ist_build.specs.Laying.{ArePlaced, IsLaidBelow}
use Rattle.ist_build.specs.Midway.{lens_from, IsLaying, opening}
use Rattle.ist_build.proofs.LayingLemmas.{row_within}
use Rattle.ist_build.proofs.PartsLemmas.{lens_first}

-- a subtree over at most one leaf takes no place
pub small_end : (n next : ℕ) → n < 2 → next ≡ next + sum (shape n)
small_end n next few = let e : sum (shape n) ≡ 0 = ap sum (shape_few n few) in omega arith

-- over no leaf, the Empty word is the ideal subtree, in no row
pub none_below : (v : View) (number low word : ℕ) (leaves : List ℕ) → length leaves ≡ 0
    → word ≡ word_of Empty → (placed : List PlacedLeaf) → ArePlaced (now v) leaves placed
    → IsLaidBelow v number low low word placed
none_below v number low word leaves none is [] a = record {
  laid = record {
    rows = [];
    owns = record { stored = tt; held = tt; once = tt; rising = tt; high = tt };
    ref = Empty;
    ref_is = ap ref_of is ∙ ref_of-word_of Empty tt;
    ideal = λ above less. of_none;
  };
  ends = tt;
}
none_below v number low word leaves none is (leaf ∷ more) a = grind arith

-- over one leaf, its word is the ideal subtree, in no row
pub one_below : (v : View) → IsSound v → (number low word : ℕ) (leaves : List ℕ)
    → length leaves ≡ 1 → word ≡ word_of (LeafAt (slice_index_or leaves 0 0))
    → (placed : List PlacedLeaf) → ArePlaced (now v) leaves placed
    → IsLaidBelow v number low low word placed
one_below v s number low word leaves one is [] a = grind arith
one_below v s number low word leaves one is (leaf ∷ []) a =
    let first : slice_index_or leaves 0 0 ≡ leaf.base =
    ap (λ xs. slice_index_or xs 0 0) (sym a.bases_are) in
    record {
      laid = record {
        rows = [];
        owns = record { stored = tt; held = tt; once = tt; rising = tt; high = tt };
        ref = LeafAt leaf.base;
        ref_is = ap ref_of is ∙ ap (λ b. ref_of (word_of (LeafAt b))) first
            ∙ ref_of-word_of (LeafAt leaf.base)
            (good_base v s leaf.base (Leaf leaf.row) a.published.0 (omega arith));
        ideal = λ above less. of_one refl a.published.0;
      };
      ends = tt;
    }
one_below v s number low word leaves one is (leaf ∷ second ∷ more) a = grind arith

-- the first row of a block for several leaves, and the rows after it
pub block_first : (t : Snapshot) (number base n : ℕ) → 2 ≤ n → HoldsBlock t number base (shape n)
    → HoldsRow t number base (inner_words (degree n))
    × HoldsBlock t number (base + inner_words (degree n)) (flat_map shape (lens_from n 0))
block_first t number base n two h = grind (arith, shape_many, lens_first)

-- ---- the row

module _ (old : Caller) (leaves : List ℕ) (base d : ℕ) (s : IsSound old.token.view) (some : 1 ≤ d)
    (held : HoldsRow (now old.token.view) old.number base (inner_words d))
    (rest : HoldsBlock (now old.token.view) old.number (base + inner_words d)
    (flat_map shape (lens_from (length leaves) 0)))
    (fresh : (place : ℕ) → base ≤ place → own_at old.token.view.own place ≡ 0) where
  abbrev n : ℕ
  n = length leaves

  abbrev view : View
  view = opening old.token.view base d n

  abbrev who : Caller
  who = record old { token = record old.token { view = view } }

  abbrev o : List OwnWord
  o = old.token.view.own

  abbrev first : List OwnWord
  first = record { place = base + 2; word = d } ∷ o

  others : (p : ℕ) → p ≢ base + 2 → p ≢ base + 3 → own_at view.own p ≡ own_at o p
  others p a b = grind (arith, own_else)

  -- nothing is laid yet
  pub laying_first : IsCaller who → IsSound view → IsLaying old leaves base d 0 (base + (2 * d + 3)) who
  laying_first caller sound =
      let inside = (row_within old.token.view s old.number base (inner_words d) held).0 in
      let low = next_low old.token.view s in let free = low.0 in let all = low.1 in record {
        written = record {
          same = refl;
          caller = caller;
          sound = sound;
          below = λ p l. others p (λ e. omega arith) (λ e. omega arith);
          above = λ p l. others p (λ e. omega arith) (λ e. omega arith);
        };
        next_is = let q : base + (2 * d + 3) ≡ base + inner_words d + 0 = omega arith in q;
        low = omega arith;
        held = held;
        rest = subst (λ b. HoldsBlock (now old.token.view) old.number b
            (flat_map shape (lens_from (length leaves) 0)))
            (let q : base + inner_words d ≡ base + (2 * d + 3) = omega arith in q) rest;
        opened = record {
          status = others base (λ e. omega arith) (λ e. omega arith) ∙ fresh base (omega arith);
          count = others (base + 1) (λ e. omega arith) (λ e. omega arith)
              ∙ fresh (base + 1) (omega arith);
          degree_is = own_else first (base + 3) n (base + 2) (λ e. omega arith)
              ∙ own_here o (base + 2) d;
          size_is = own_here first (base + 3) n;
        };
        laid = λ placed a. record {
          laid = record {
            rows = [];
            owns = record { stored = tt; held = tt; once = tt; rising = tt; high = tt };
            ideal = no_part;
          };
          ends = tt;
        };
        keys = λ placed a. refl;
      }

-- the same, in the form of the clauses of `open_row`
pub laying_opened : (old last : Caller) (leaves : List ℕ) (base d : ℕ) → IsSound old.token.view
    → 2 ≤ length leaves → d ≡ degree (length leaves)
    → HoldsBlock (now old.token.view) old.number base (shape (length leaves))
    → ((place : ℕ) → base ≤ place → own_at old.token.view.own place ≡ 0)
    → last ≡ record old { token = record old.token { view = opening old.token.view base d (length leaves) } }
    → IsCaller last → IsSound last.token.view
    → IsLaying old leaves base d 0 (base + (2 * d + 3)) last
laying_opened old last leaves base d s two d_is held fresh is caller sound =
    let t = now old.token.view in let it = block_first t old.number base (length leaves) two held in
    let some = least_degree-le (length leaves) in
    subst (IsLaying old leaves base d 0 (base + (2 * d + 3))) (sym is)
    (laying_first old leaves base d s (omega arith)
    (subst (λ k. HoldsRow t old.number base (inner_words k)) (sym d_is) it.0)
    (subst (λ k. HoldsBlock t old.number (base + inner_words k)
    (flat_map shape (lens_from (length leaves) 0))) (sym d_is) it.1)
    fresh (subst IsCaller is caller)
    (subst (λ (who : Caller). IsSound who.token.view) is sound))
