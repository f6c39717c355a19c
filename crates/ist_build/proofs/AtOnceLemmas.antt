-- What holds of a build once all its rows are reserved, and once they are built. Serves
-- `build_at_once`.
use Rattle.std.proofs.Common.{◌≡◌, ℕ, ◌≤◌, List, ◌++◌, length, Result, Ok, Err, IfOk, IfErr, sym, ap, subst, arith}
use Rattle.std.specs.List.{sum}
use Rattle.ist_core.specs.declared.ports.Full.{Full}
use Rattle.ist_core.specs.WordTerms.{place_limit, shape}
use Rattle.ist_core.specs.TreeTerms.{PlacedLeaf}
use Rattle.ist_core.proofs.AllLogLemmas.{goes_on_by}
use Rattle.ist_core.proofs.AllWordLemmas.{shape_many}
use Rattle.ist_rule.specs.RuleTerms.{IsSound, own_at, now, GoesOnTo}
use Rattle.ist_rule.specs.declared.view.View.{View}
use Rattle.ist_rows.specs.RowTerms.{IsCaller, IsInBuild, HasTaken, HoldsBlock, AreNext, HasNoRoom, ReservedAll, HasTakenFew, HasTakenFewIn}
use Rattle.ist_rows.specs.declared.callers.Caller.{Caller}
use Rattle.ist_rows.proofs.FewLemmas.{out_in, out_on}
use Rattle.ist_rows.proofs.FewStepLemmas.{few_reserved_all, no_room_out}
use Rattle.ist_rows.proofs.BlockLemmas.{holds_them}
use Rattle.ist_rows.proofs.ReserveLemmas.{next_low}
use Rattle.ist_build.specs.Laying.{BuiltOn, ArePlaced, HaveLeaves, AreKeysOf, AreNextRows, IsLaid, IsShort, IsWritten, IsLaidBelow}
use Rattle.ist_build.proofs.BuiltLemmas.{built_grow, built_more, built_next, loads_built, rewritten_built}
use Rattle.ist_build.proofs.PartLeafLemmas.{published_on}
use Rattle.ist_build.proofs.KeyLemmas.{keys_on, IsFreshBlock, reserved_all_built, fresh_block}
use Rattle.ist_build.proofs.LayingLemmas.{row_within}
use Rattle.ist_build.proofs.RowOpenedLemmas.{at_rewritten}
use Rattle.ist_build.proofs.StoringLemmas.{block_first}
use Rattle.ist_build.proofs.ShareLemmas.{laid_lower, taken_on, short_on}

-- several keys take a row at least
pub some_rows : (n : ℕ) → 2 ≤ n → 1 ≤ length (shape n)
some_rows n two = let long = ap length (shape_many n two) in omega arith

-- the rows that are due are the next
pub due_next : (who : Caller) (n : ℕ) → AreNextRows who n → AreNext who (shape n)
due_next who n h = record { stuck = h.stuck; done = h.done; rest = h.rest; at = h.at }

-- so they are for a list that is the shape
pub shape_next : (who : Caller) (n : ℕ) (sizes : List ℕ) → sizes ≡ shape n → AreNextRows who n → 2 ≤ n
    → AreNext who sizes × (1 ≤ length sizes)
shape_next who n sizes is due two = grind (arith, due_next, some_rows)

-- leaves stay at their bases
pub placed_on : (v w : View) → BuiltOn v w → (bases : List ℕ) (leaves : List PlacedLeaf)
    → ArePlaced (now v) bases leaves → ArePlaced (now w) bases leaves
placed_on v w b bases leaves a =
    record { bases_are = a.bases_are; published = published_on v w b leaves a.published }

-- ---- once the rows are reserved

-- what was built in rows that were reserved together
pub record BlockBuilt (old new : Caller) (leaves : List ℕ) (word : ℕ) : Type 0 where
  pub built : BuiltOn old.token.view new.token.view
  pub laid : (placed : List PlacedLeaf) → ArePlaced (now old.token.view) leaves placed
      → IsLaid new.token.view new.number (now old.token.view).next word placed
  pub taken : HasTaken old (shape (length leaves)) new
  pub few : HasTakenFew (sum (shape (length leaves))) 0 old new

-- the rows are there to be laid, and what is known once they are
pub record BlockReady (old new : Caller) (leaves keys : List ℕ) (base : ℕ) : Type 0 where
  pub held : HoldsBlock (now new.token.view) new.number base (shape (length leaves))
  pub fresh : (place : ℕ) → base ≤ place → own_at new.token.view.own place ≡ 0
  pub low : base ≤ place_limit
  pub leaves_are : HaveLeaves (now new.token.view) leaves
  pub keys_are : AreKeysOf (now new.token.view) leaves keys
  pub laid : (last : Caller) (end word : ℕ) → IsWritten new last base end
      → ((placed : List PlacedLeaf) → ArePlaced (now new.token.view) leaves placed
      → IsLaidBelow last.token.view last.number base end word placed)
      → BlockBuilt old last leaves word

module _ (old new : Caller) (leaves keys : List ℕ) (at base : ℕ) (base_is : base ≡ at)
    (s : IsSound old.token.view) (c : IsCaller old) (two : 2 ≤ length leaves) (same : new ≡ record old { token = new.token })
    (reserved : ReservedAll old.token.view old.number at (shape (length leaves)) new.token.view)
    (was_taken : HasTaken old (shape (length leaves)) new)
    (have : HaveLeaves (now old.token.view) leaves)
    (have_keys : AreKeysOf (now old.token.view) leaves keys) where
  abbrev sizes : List ℕ
  sizes = shape (length leaves)

  r : ReservedAll old.token.view old.number base sizes new.token.view
  r = grind arith

  built : BuiltOn old.token.view new.token.view
  built = reserved_all_built old.token.view old.number base sizes new.token.view r

  fresh : IsFreshBlock old.token.view base new.token.view
  fresh =
      fresh_block old.token.view s old.number base sizes (some_rows (length leaves) two) new.token.view r

  -- they are held
  block_held : HoldsBlock (now new.token.view) new.number base sizes
  block_held = grind (arith, holds_them, r)

  -- they lie in the table
  block_low : base ≤ place_limit
  block_low = grind (arith, block_first, block_held, row_within, next_low)

  module _ (last : Caller) (end word : ℕ) (written : IsWritten new last base end) where
    -- the caller only reserved, and stored into what it reserved
    block_built : BuiltOn old.token.view last.token.view
    block_built = let high = fresh.high in
        subst (λ (x : Caller). BuiltOn old.token.view x.token.view) (sym written.same)
        (rewritten_built old.token.view new.token.view last.token.view.own built
        (subst (λ (x : Caller). IsSound x.token.view) written.same written.sound)
        (λ place low. written.below place (omega arith)))

    -- the word is laid
    block_laid : ((placed : List PlacedLeaf) → ArePlaced (now new.token.view) leaves placed
        → IsLaidBelow last.token.view last.number base end word placed)
        → (placed : List PlacedLeaf) → ArePlaced (now old.token.view) leaves placed
        → IsLaid last.token.view last.number (now old.token.view).next word placed
    block_laid laid placed a =
        laid_lower last.token.view last.number (now old.token.view).next base word placed fresh.high
        (laid placed (placed_on old.token.view new.token.view built leaves placed a)).laid

    -- and the caller has taken all rows
    block_taken : HasTaken old sizes last
    block_taken stuck done rest h =
        subst (λ (x : Caller). IsInBuild x stuck (done ++ sizes) rest) (sym written.same)
        (at_rewritten new last.token.view.own stuck (done ++ sizes) rest (was_taken stuck done rest h))

  -- the rows are there to be laid
  pub block_ready : BlockReady old new leaves keys base
  block_ready = record {
    held = block_held;
    fresh = fresh.zero_words;
    low = block_low;
    leaves_are = (have.0, placed_on old.token.view new.token.view built leaves have.0 have.1);
    keys_are = keys_on (now old.token.view) (now new.token.view)
        (built_grow old.token.view new.token.view built) leaves keys have_keys;
    laid = λ last end word written laid. record {
      built = block_built last end word written;
      laid = block_laid last end word written laid;
      taken = block_taken last end word written;
      few = subst (λ (x : Caller). HasTakenFew (sum sizes) 0 old x) (sym written.same)
          (few_reserved_all old new c at sizes reserved);
    };
  }

-- ---- if they don't fit

-- what a build gives after loads
pub record LaterBuilt (old new : Caller) (words : ℕ) (leaves : List ℕ) (answer : Result ℕ Full) : Type 0 where
  pub built : BuiltOn old.token.view new.token.view
  pub laid : IfOk answer (λ word. (placed : List PlacedLeaf)
      → ArePlaced (now old.token.view) leaves placed
      → IsLaid new.token.view new.number (now old.token.view).next word placed)
  pub taken : IfOk answer (λ word. HasTaken old (shape (length leaves)) new)
  pub few : HasTakenFewIn answer (sum (shape (length leaves))) 0 old new
  pub full : IfErr answer (λ full. IsShort old.token.view words (length leaves) full new.token.view)

-- a build that began after loads, as there was no room for all rows
pub later_built : (old mid new : Caller) (words : ℕ) (leaves : List ℕ) → IsCaller old
    → words ≡ old.token.view.words
    → HasNoRoom old.token.view words (sum (shape (length leaves))) mid.token.view
    → mid ≡ record old { token = mid.token } → GoesOnTo old.token.view mid.token.view
    → BuiltOn mid.token.view new.token.view → (answer : Result ℕ Full)
    → IfOk answer (λ word. (placed : List PlacedLeaf)
    → ArePlaced (now mid.token.view) leaves placed
    → IsLaid new.token.view new.number (now mid.token.view).next word placed)
    → IfOk answer (λ word. HasTaken mid (shape (length leaves)) new)
    → IfErr answer (λ full. IsShort mid.token.view words (length leaves) full new.token.view)
    → LaterBuilt old new words leaves answer
later_built old mid new words leaves c is room same g b (Ok word) laid taken full =
    let v = old.token.view in let on = loads_built v mid.token.view g in record {
      built = built_more v mid.token.view new.token.view on b;
      laid = λ placed a. laid_lower new.token.view new.number (now v).next (now mid.token.view).next word
          placed (built_next v mid.token.view on)
          (laid placed (placed_on v mid.token.view on leaves placed a));
      taken = taken_on old mid.token (shape (length leaves)) new c g
          (subst (λ (x : Caller). HasTaken x (shape (length leaves)) new) same taken);
      few = out_in (Ok word) _ 0 old new (out_on _ old mid new (goes_on_by b.later)
          (no_room_out old mid c words _ is room));
      full = tt;
    }
later_built old mid new words leaves c is room same g b (Err full) laid taken short =
    let v = old.token.view in record {
      built = built_more v mid.token.view new.token.view (loads_built v mid.token.view g) b;
      laid = tt;
      taken = tt;
      few = out_on _ old mid new (goes_on_by b.later) (no_room_out old mid c words _ is room);
      full = short_on v mid.token.view g words (length leaves) full new.token.view short;
    }
