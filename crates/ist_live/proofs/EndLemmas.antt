-- The next pair above and below a key. Serves `ends` and `cursors`.
use Rattle.std.proofs.Common.{◌≡◌, ◌≢◌, ℕ, ◌+◌, ◌-◌, ◌^◌, ◌<◌, ◌≤◌, List, [], ◌∷◌, Option, Some, None, ⊎_elim, inl, inr, refl, subst, append-nil, arith}
use Rattle.std.proofs.lemmas.Bool.{cases_lt}
use Rattle.std.proofs.lemmas.Bool.Decides.{eqb_tells}
use Rattle.ist_core.specs.declared.pairs.Pair.{Pair}
use Rattle.ist_find.specs.Spans.{IsEdge}
use Rattle.ist_find.specs.Sweeps.{one_of}
use Rattle.ist_tree.specs.CallTerms.{PassFace}
use Rattle.ist_tree.specs.Spans.{state_seen}
use Rattle.ist_live.specs.Reading.{ReadsFrom, HasOnlyRead, Had, HadNone, HasReadSpan, ReadsUp, ReadsDown, none_up, span_up, none_down, span_down}
use Rattle.ist_live.specs.Lists.{value_among}
use Rattle.ist_live.specs.Ends.{IsNextUp, IsNextDown, end_up, end_down}
use Rattle.ist_live.proofs.ReadLemmas.{read_not, read_more, had_before, had_after, up_to_pair, down_to_pair}
use Rattle.ist_live.proofs.ListLemmas.{Listed, all_up}

-- a pair gives no key but its own a value
other_key : (pair : Pair) (k : ℕ) → pair.key ≢ k → value_among (pair ∷ []) k ≡ None
other_key pair k ne = grind (arith, eqb_tells)

-- a list of one pair gives the pair's key the pair's value
pub own_key : (pair : Pair) → value_among (pair ∷ []) pair.key ≡ Some pair.value
own_key pair = grind (arith, eqb_tells)

-- ---- upwards

next_listed : (p q : PassFace) (first : ℕ) (pair : Option Pair)
    → Listed p q first (end_up pair) (one_of pair) → IsNextUp p q first pair
next_listed p q first (Some x) h =
    let above = h.within.0 in (
      above,
      subst (Had p q x.key) (own_key x) (h.values x.key above (omega arith)),
      (λ k low high. subst (Had p q k) (other_key x k (λ e. omega arith))
          (h.values k low (omega arith))),
    )
next_listed p q first None h = λ k low high. h.values k low high

-- what was read upwards for a pair has it as the next one
pub next_up : (p q : PassFace) (first : ℕ) (pair : Option Pair)
    → ReadsUp p first q (end_up pair) (one_of pair) → IsNextUp p q first pair
next_up p q first pair r = next_listed p q first pair (all_up p first q (end_up pair) (one_of pair) r)

-- ---- downwards

-- what is so where no pair was found yet
pub record NoneRead (p m : PassFace) (from following : ℕ) : Type 0 where
  pub read : HasOnlyRead p m
  pub under : from ≤ following
  pub none : HadNone p m from following

-- if keys were read downwards without finding a pair, each of them had no value at some position
pub none_read : (p : PassFace) (following : ℕ) (m : PassFace) (from : ℕ) (pairs : List Pair) → pairs ≡ []
    → ReadsDown p following m from pairs → NoneRead p m from following
none_read p following _ _ pairs e none_down =
    record { read = read_not p; under = omega arith; none = λ k low high. absurd (omega arith) }
none_read p following q first _ e (span_down {m = m} {from = from} {pairs = pairs} None r begins s) =
    let h = none_read p following m (from + 1) pairs e r in let under = h.under in
    let low = s.low in let high = s.high in record {
      read = read_more p m q h.read s.read;
      under = omega arith;
      none = λ k least most. ⊎_elim
          (λ (l : k < from + 1). had_before p m q h.read k None (s.values k least l))
          (λ (l : from + 1 ≤ k). had_after p m q s.read k None (h.none k l most)) (cases_lt k (from + 1));
    }
none_read p following q first _ e (span_down {pairs = pairs} (Some x) r begins s) = grind arith

-- one span more, with the pair or with none
pub next_down : (p m q : PassFace) (asked from following : ℕ) (pair : Option Pair)
    → ReadsDown p following m from [] → HasReadSpan m q asked (end_down pair) from pair
    → IsNextDown p q following pair
next_down p m q asked from following (Some x) r s =
    let h = none_read p following m from [] refl r in let under = h.under in
    let within = s.within.1 in (
      omega arith,
      had_before p m q h.read x.key (Some x.value)
          (subst (Had m q x.key) (own_key x) (s.values x.key (omega arith) within)),
      (λ k low high. ⊎_elim
          (λ (l : k < from). had_before p m q h.read k None
          (subst (Had m q k) (other_key x k (λ e. omega arith)) (s.values k (omega arith) l)))
          (λ (l : from ≤ k). had_after p m q s.read k None (h.none k l high)) (cases_lt k from)),
    )
next_down p m q asked from following None r s = let h = none_read p following m from [] refl r in
    λ k low high. ⊎_elim (λ (l : k < from). had_before p m q h.read k None (s.values k low l))
    (λ (l : from ≤ k). had_after p m q s.read k None (h.none k l high)) (cases_lt k from)

-- ---- one span more

-- a read found this as the next pair upwards, span after span
pub record FoundUp (p q : PassFace) (key : ℕ) (pair : Option Pair) : Type 0 where
  pub read : HasOnlyRead p q
  pub next : IsNextUp p q key pair
  pub spans : ReadsUp p key q (end_up pair) (one_of pair)

-- the keys from this one up to another were read, and none had a value
pub record IsUpTo (p m : PassFace) (key from : ℕ) : Type 0 where
  pub read : HasOnlyRead p m
  pub reads : ReadsUp p key m from []
  pub begins : ReadsFrom m key from
  pub small : from < 2 ^ 64

-- at first none was
pub up_to_none : (p : PassFace) (key : ℕ) → key < 2 ^ 64 → IsUpTo p p key key
up_to_none p key small = record { read = read_not p; reads = none_up; begins = inl refl; small = small }

module _ (p m q : PassFace) (key from to : ℕ) (o : Option Pair) (h : IsUpTo p m key from)
    (s : HasReadSpan m q from from (to + 1) o) where
  found : (pair : Option Pair) → ReadsUp p key q (end_up pair) (one_of pair) → FoundUp p q key pair
  found pair r = record { read = read_more p m q h.read s.read; next = next_up p q key pair r; spans = r }

  -- one span more, up to its pair
  pub found_up : (x : Pair) → o ≡ Some x → FoundUp p q key (Some x)
  found_up x is =
      found (Some x) (span_up (Some x) h.reads h.begins
      (up_to_pair m q from from (to + 1) x (subst (HasReadSpan m q from from (to + 1)) is s) refl))

  -- all of it, without a pair
  all_up_to : o ≡ None → ReadsUp p key q (to + 1) []
  all_up_to is = span_up None h.reads h.begins (subst (HasReadSpan m q from from (to + 1)) is s)

  -- up to the end of all keys
  pub found_none_up : o ≡ None → to + 1 ≡ 2 ^ 64 → FoundUp p q key None
  found_none_up is end = found None (subst (λ n. ReadsUp p key q n []) end (all_up_to is))

  -- or up to where it goes on
  pub up_to_on : o ≡ None → to + 1 < 2 ^ 64 → IsEdge (state_seen q) (to + 1) → IsUpTo p q key (to + 1)
  up_to_on is small edge = record {
    read = read_more p m q h.read s.read;
    reads = all_up_to is;
    begins = inr edge;
    small = small;
  }

-- a read found this as the next pair downwards, span after span
pub record FoundDown (p q : PassFace) (following : ℕ) (pair : Option Pair) : Type 0 where
  pub read : HasOnlyRead p q
  pub next : IsNextDown p q following pair
  pub spans : ReadsDown p following q (end_down pair) (one_of pair)

-- the keys below this one down to another were read, and none had a value
pub record IsDownTo (p m : PassFace) (following from : ℕ) : Type 0 where
  pub read : HasOnlyRead p m
  pub reads : ReadsDown p following m from []
  pub begins : ReadsFrom m following from

-- at first none was
pub down_to_none : (p : PassFace) (following : ℕ) → IsDownTo p p following following
down_to_none p following = record { read = read_not p; reads = none_down; begins = inl refl }

module _ (p m q : PassFace) (following from to : ℕ) (o : Option Pair) (h : IsDownTo p m following (from + 1))
    (s : HasReadSpan m q from to (from + 1) o) where
  lower : (pair : Option Pair) → HasReadSpan m q from (end_down pair) (from + 1) pair
      → FoundDown p q following pair
  lower pair r = record {
    read = read_more p m q h.read s.read;
    next = next_down p m q from (from + 1) following pair h.reads r;
    spans = subst (ReadsDown p following q (end_down pair)) (append-nil (one_of pair))
        (span_down pair h.reads h.begins r);
  }

  -- one span more, down to its pair
  pub found_down : (x : Pair) → o ≡ Some x → FoundDown p q following (Some x)
  found_down x is =
      lower (Some x) (down_to_pair m q from to (from + 1) x
      (subst (HasReadSpan m q from to (from + 1)) is s) refl)

  -- all of it, without a pair, down to 0
  pub found_none_down : o ≡ None → to ≡ 0 → FoundDown p q following None
  found_none_down is end =
      lower None (subst (λ n. HasReadSpan m q from n (from + 1) None) end
      (subst (HasReadSpan m q from to (from + 1)) is s))

  -- or down to where it goes on
  pub down_to_on : o ≡ None → 0 < to → IsEdge (state_seen q) to → IsDownTo p q following (to - 1 + 1)
  down_to_on is some edge = let same : to ≡ to - 1 + 1 = omega arith in
      subst (IsDownTo p q following) same record {
        read = read_more p m q h.read s.read;
        reads = span_down None h.reads h.begins (subst (HasReadSpan m q from to (from + 1)) is s);
        begins = inr edge;
      }
