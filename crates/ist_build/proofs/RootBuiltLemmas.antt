-- A root that was built, whole or only its top row. Serves `root`.
use Rattle.std.proofs.Common.{◌≡◌, ℕ, ◌+◌, ◌<◌, ◌≤◌, List, [], ◌∷◌, ◌++◌, take, drop, Some, Result, Ok, Err, IfOk, refl, subst, arith, ◌-◌, length, slice_index_or, sym, ap, ◌∙◌}
use Rattle.ist_core.specs.declared.ports.Full.{Full}
use Rattle.ist_core.specs.declared.states.RebuildRow.{RebuildRow}
use Rattle.ist_core.specs.WordTerms.{degree, Rebuild, InnerAt, unset_word, inner_words, rebuild_root_offset, shape, share_from, part_len, part_start, place_limit}
use Rattle.ist_core.specs.TreeTerms.{PlacedLeaf, HasLeaves, HasTarget}
use Rattle.ist_core.specs.LogTerms.{Snapshot, HoldsRow}
use Rattle.ist_rule.specs.RuleTerms.{IsSound, now, Looked, own_at}
use Rattle.ist_rule.specs.declared.view.View.{View}
use Rattle.ist_rows.specs.RowTerms.{spares_of, IsInBuild, sizes_built, IsCaller, HoldsBlock, HasTaken}
use Rattle.ist_rows.specs.declared.callers.Caller.{Caller}
use Rattle.laws_coming.specs.Builds.{WasUnset}
use Rattle.laws_coming.proofs.KnownLemmas.{fast_known, in_piece}
use Rattle.laws_coming.proofs.SeenLemmas.{unset_seen}
use Rattle.ist_build.specs.Calls.{MayBuild, IsTold}
use Rattle.ist_build.specs.Laying.{BuiltOn, IsLaid, IsTopLaid, IsRootLaid, IsTarget, ArePlaced, HaveLeaves, AreKeysOf, AreNextRows, IsShort, IsWritten, IsLaidBelow}
use Rattle.ist_build.proofs.RootReadyLemmas.{top_root, whole_laid}
use Rattle.ist_build.specs.Back.{IsFreeToBuild, IsRootMade}
use Rattle.std.specs.List.{sum}
use Rattle.ist_core.proofs.AllWordLemmas.{part_end-le}
use Rattle.ist_build.specs.Midway.{IsPart, IsMidway, IsLaying, setting}
use Rattle.ist_build.proofs.BuiltLemmas.{built_held}
use Rattle.ist_build.proofs.BuildingLemmas.{slice_part, part_leaves, length_own, part_due, part_short}
use Rattle.ist_build.proofs.KeyLemmas.{part_keys, part_key}
use Rattle.ist_build.proofs.LayingPartLemmas.{long_part, long_keys, held_part, leaves_part, keys_part, key_part, laying_part}
use Rattle.ist_build.proofs.HalfBuiltLemmas.{midway_part}
use Rattle.ist_build.proofs.PartLeafLemmas.{length-share_of}

-- the root was seen Unset
pub root_unset : (v w : View) (rebuild place word number : ℕ) (row : RebuildRow)
    → (now v).pieces rebuild ≡ Some (Rebuild row) → place ≡ rebuild + rebuild_root_offset
    → Looked v place word w → word ≡ unset_word → WasUnset w number (rebuild + rebuild_root_offset)
root_unset v w rebuild place word number row e at l is =
    grind (arith, fast_known, in_piece, unset_seen)

-- a target with few keys is built whole
pub whole_share : (t : Snapshot) (target k : ℕ) → IsTarget t target k → k < share_from
    → MayBuild t target 0 k
whole_share t target k h few = grind arith

-- if the whole subtree was built, its word is a root
pub ok_whole : (old new : Caller) (target k : ℕ) → IsSound old.token.view → new.number ≡ old.number
    → BuiltOn old.token.view new.token.view → IsTarget (now old.token.view) target k → k < share_from
    → 2 ≤ k → (answer : Result ℕ Full)
    → IfOk answer (λ word. (all : List PlacedLeaf)
    → HasLeaves (now old.token.view).pieces (Some (InnerAt target)) all
    → IsLaid new.token.view new.number (now old.token.view).next word (take k (drop 0 all)))
    → IfOk answer (λ word. 2 ≤ k → IsInBuild new (sizes_built old) (shape k) [])
    → IfOk answer (λ word. (leaves : List PlacedLeaf)
    → HasLeaves (now old.token.view).pieces (Some (InnerAt target)) leaves
    → IsRootLaid old new target k word leaves)
ok_whole old new target k s number b t few several (Ok word) laid at = grind (arith, whole_laid)
ok_whole old new target k s number b t few several (Err full) laid at = tt

-- if the top row was built, its word is a root
pub ok_top : (old new : Caller) (target k : ℕ) → IsSound old.token.view → new.number ≡ old.number
    → BuiltOn old.token.view new.token.view → IsTarget (now old.token.view) target k → share_from ≤ k
    → (answer : Result ℕ Full)
    → IfOk answer (λ word. (all : List PlacedLeaf)
    → HasLeaves (now old.token.view).pieces (Some (InnerAt target)) all
    → IsTopLaid new.token.view new.number (now old.token.view).next word all)
    → IfOk answer (λ word. sizes_built new ≡ sizes_built old ++ inner_words (degree k) ∷ [])
    → IfOk answer (λ word. (leaves : List PlacedLeaf)
    → HasLeaves (now old.token.view).pieces (Some (InnerAt target)) leaves
    → IsRootLaid old new target k word leaves)
ok_top old new target k s number b t many (Ok word) laid sizes = grind (arith, top_root)
ok_top old new target k s number b t many (Err full) laid sizes = tt

-- what was built over a target with several keys is a root made for its rebuild
pub root_made : (old new : Caller) (rebuild target keys word : ℕ) → IsFreeToBuild old
    → IsSound old.token.view → new.number ≡ old.number → spares_of new ≡ spares_of old
    → BuiltOn old.token.view new.token.view → IsTold (now old.token.view) rebuild keys
    → HasTarget (now old.token.view) rebuild target → 2 ≤ keys
    → WasUnset old.token.view old.number (rebuild + rebuild_root_offset)
    → ((leaves : List PlacedLeaf)
    → HasLeaves (now old.token.view).pieces (Some (InnerAt target)) leaves
    → IsRootLaid old new target keys word leaves)
    → IsRootMade old new rebuild word
root_made old new rebuild target keys word r s number rows b told target_is several unset laid =
    grind arith

-- ---- one part of a row, as the loops of `build` and of `lay` meet it: the slices, what a part asks for, and
-- the row once it is set.

-- ---- the slices

-- the slice from one place on, as code takes it
abbrev pub slice : List ℕ → ℕ → ℕ → List ℕ
slice xs start len = take (start + len - start) (drop start xs)

-- the slices of a part are that part
pub is_part : (n j d start len : ℕ) (leaves keys : List ℕ) → j < d → d ≡ degree n
    → start ≡ part_start n j → len ≡ part_len n j → 1 ≤ len
    → IsPart n j leaves keys (slice leaves start len) (slice keys start len)
is_part n j d start len leaves keys less d_is start_is len_is some = grind (arith, slice_part)

-- a part has no more leaves than all
pub part_long : (n j : ℕ) (leaves keys own own_keys : List ℕ) → length leaves ≡ n
    → IsPart n j leaves keys own own_keys → length own ≤ n
part_long n j leaves keys own own_keys all p = grind (arith, length-share_of, part_end-le)

-- ---- a part of a row that is built row by row

-- what a build of the part asks for
pub record PartAsked (who : Caller) (n : ℕ) (own own_keys : List ℕ) : Type 0 where
  pub due : AreNextRows who (length own)
  pub leaves : HaveLeaves (now who.token.view) own
  pub keys : AreKeysOf (now who.token.view) own own_keys
  pub many : length own_keys ≡ length own
  pub long : length own ≤ n

-- it is there
pub part_asked : (old who : Caller) (leaves keys : List ℕ) (base d j : ℕ) (own own_keys : List ℕ)
    → IsMidway old leaves base d j who → IsPart (length leaves) j leaves keys own own_keys
    → AreNextRows old (length leaves) → HaveLeaves (now old.token.view) leaves
    → AreKeysOf (now old.token.view) leaves keys → length keys ≡ length leaves
    → PartAsked who (length leaves) own own_keys
part_asked old who leaves keys base d j own own_keys m p due have keys_have many = record {
  due = part_due old who leaves base d j m p.less p.some own p.own_is due;
  leaves = part_leaves old who leaves base d j m p.less p.some own p.own_is have;
  keys = part_keys old who leaves keys base d j m keys_have own_keys p.keys_are own p.own_is;
  many = ap length p.keys_are ∙ length-share_of (length leaves) j keys many p.less
      ∙ sym (length_own old who leaves base d j m p.less p.some own p.own_is);
  long = part_long (length leaves) j leaves keys own own_keys refl p;
}

-- the caller holds the row after the build of a part
pub midway_held : (old who new : Caller) (leaves : List ℕ) (base d j : ℕ)
    → IsMidway old leaves base d j who → new.number ≡ who.number
    → BuiltOn who.token.view new.token.view → HoldsRow (now new.token.view) new.number base (inner_words d)
midway_held old who new leaves base d j m number b =
    subst (λ n. HoldsRow (now new.token.view) n base (inner_words d)) (sym number)
    (built_held who.token.view new.token.view b who.number base (inner_words d) m.caller.mine m.held)

-- what stops the build of the part stops the whole
pub part_stops : (old who : Caller) (leaves keys : List ℕ) (base d j : ℕ) (own own_keys : List ℕ)
    → IsMidway old leaves base d j who → IsPart (length leaves) j leaves keys own own_keys
    → (words : ℕ) (full : Full) (w : View) → IsShort who.token.view words (length own) full w
    → IsShort old.token.view words (length leaves) full w
part_stops old who leaves keys base d j own own_keys m p words full w short =
    part_short old who leaves base d j m p.less p.some own p.own_is words full w
    (part_long (length leaves) j leaves keys own own_keys refl p) short

-- the part was built, and its word and key were stored
pub midway_more : (old who new last : Caller) (leaves keys : List ℕ) (base d j word : ℕ)
    (own own_keys : List ℕ) → IsMidway old leaves base d j who
    → IsPart (length leaves) j leaves keys own own_keys → AreKeysOf (now old.token.view) leaves keys
    → d ≡ degree (length leaves) → j < d → IsCaller new → new.number ≡ who.number
    → spares_of new ≡ spares_of who → BuiltOn who.token.view new.token.view
    → ((part : List PlacedLeaf) → ArePlaced (now who.token.view) own part
    → IsLaid new.token.view new.number (now who.token.view).next word part)
    → HasTaken who (shape (length own)) new
    → last ≡ record new {
      token = record new.token {
        view = setting new.token.view base d j (slice_index_or own_keys 0 0) word;
      };
    }
    → IsCaller last → IsSound last.token.view → IsMidway old leaves base d (j + 1) last
midway_more old who new last leaves keys base d j word own own_keys m p have d_is less caller number
    rows b laid taken is caller_last sound =
    midway_part old who new last leaves base d j (slice_index_or own_keys 0 0) word m.built.sound m
    d_is less caller number rows b
    (λ part a. laid part
    (subst (λ bases. ArePlaced (now who.token.view) bases part) (sym p.own_is) a))
    (subst (λ k. HasTaken who (shape k) new)
    (length_own old who leaves base d j m p.less p.some own p.own_is) taken)
    (part_key old who leaves keys base d j m have own_keys p.keys_are) p.some is caller_last sound

-- ---- a part of a row that is built by stores only

-- what a laying of the part asks for
pub record LayAsked (who : Caller) (n next : ℕ) (own own_keys : List ℕ) : Type 0 where
  pub held : HoldsBlock (now who.token.view) who.number next (shape (length own))
  pub fresh : (place : ℕ) → next ≤ place → own_at who.token.view.own place ≡ 0
  pub leaves : HaveLeaves (now who.token.view) own
  pub keys : AreKeysOf (now who.token.view) own own_keys
  pub many : length own_keys ≡ length own
  pub long : length own ≤ n

-- it is there
pub lay_asked : (old who : Caller) (leaves keys : List ℕ) (base d j next : ℕ) (own own_keys : List ℕ)
    → IsLaying old leaves base d j next who → IsPart (length leaves) j leaves keys own own_keys
    → ((place : ℕ) → base ≤ place → own_at old.token.view.own place ≡ 0)
    → HaveLeaves (now old.token.view) leaves → AreKeysOf (now old.token.view) leaves keys
    → length keys ≡ length leaves → LayAsked who (length leaves) next own own_keys
lay_asked old who leaves keys base d j next own own_keys m p fresh have keys_have many =
    let next_is = m.next_is in record {
      held = held_part old who leaves keys base d j next m p.less own own_keys p.own_is p.keys_are;
      fresh = λ place le. m.written.above place le ∙ fresh place (omega arith);
      leaves = leaves_part old who leaves keys base d j next m p.less own own_keys p.own_is
          p.keys_are have;
      keys = keys_part old who leaves keys base d j next m p.less own own_keys p.own_is p.keys_are
          keys_have;
      many = long_keys old who leaves keys base d j next m p.less own own_keys p.own_is p.keys_are
          many;
      long = part_long (length leaves) j leaves keys own own_keys refl p;
    }

-- the part was laid, and its word and key were stored
pub laying_more : (old who new last : Caller) (leaves keys : List ℕ) (base d j next end word : ℕ)
    (own own_keys : List ℕ) → IsLaying old leaves base d j next who
    → IsPart (length leaves) j leaves keys own own_keys → AreKeysOf (now old.token.view) leaves keys
    → d ≡ degree (length leaves) → j < d → IsWritten who new next end
    → end ≡ next + sum (shape (length own)) → end ≤ place_limit
    → ((part : List PlacedLeaf) → ArePlaced (now who.token.view) own part
    → IsLaidBelow new.token.view new.number next end word part)
    → last ≡ record new {
      token = record new.token {
        view = setting new.token.view base d j (slice_index_or own_keys 0 0) word;
      };
    }
    → IsCaller last → IsSound last.token.view → IsLaying old leaves base d (j + 1) end last
laying_more old who new last leaves keys base d j next end word own own_keys m p have d_is less written
    end_is low laid is caller sound =
    let long = long_part old who leaves keys base d j next m p.less own own_keys p.own_is p.keys_are
    in
    laying_part old who new last leaves base d j next end (slice_index_or own_keys 0 0) word m d_is
    less p.some written (end_is ∙ ap (λ k. next + sum (shape k)) long) low
    (λ part a. laid part
    (subst (λ bases. ArePlaced (now who.token.view) bases part) (sym p.own_is) a))
    (key_part old who leaves keys base d j next m p.less own own_keys p.own_is p.keys_are have) is
    caller sound
