-- Where a root was Unset and is set, another's Root of the same sizes lies between. Serves
-- `laws.builds_come`.
use Rattle.std.proofs.Common.{◌≡◌, ◌≢◌, ℕ, ◌+◌, ◌*◌, List, ◌∷◌, Some, refl, sym, ap, ◌∙◌, subst, inl, inr, arith}
use Rattle.ist_core.specs.declared.events.Event.{Event}
use Rattle.ist_core.specs.declared.events.Event.TheVariants.{Root, Draw, Place, Lose}
use Rattle.ist_core.specs.declared.lists.Row.{Row}
use Rattle.ist_core.specs.declared.pairs.Pair.{Pair}
use Rattle.ist_core.specs.declared.states.RebuildRow.{RebuildRow}
use Rattle.ist_core.specs.declared.events.Who.{Who}
use Rattle.ist_core.specs.declared.events.Who.TheVariants.{Caller}
use Rattle.ist_core.specs.WordTerms.{unset_word, Rebuild, start}
use Rattle.ist_core.specs.LogTerms.{Snapshot, sizes_of, no_more, one_more, whose, Later, Log, EachEnabled, CanOpen, state_of}
use Rattle.ist_core.specs.TreeTerms.{IsBeaten, CanRoot, IsFinishedWith}
use Rattle.ist_core.proofs.AllEventLemmas.{held_free}
use Rattle.laws_links.proofs.ComesLemmas.{rebuild_comes}
use Rattle.laws_links.proofs.FormLemmas.{finished_with_grows}
use Rattle.laws_links.proofs.FormedLemmas.{rooted_is_finished}
use Rattle.laws_links.proofs.InductionLemmas.{sound_after}
use Rattle.laws_links.proofs.PassLemmas.{RebuildComes, rebuild_was, is_begun, is_rooted, is_drawn}
use Rattle.laws_links.proofs.NumberLemmas.{number_is}
use Rattle.ist_core.proofs.AllLogLemmas.{grow_after, finished_once}
use Rattle.laws_coming.specs.Builds.{EndsBuild, EndsNone}
use Rattle.laws_coming.proofs.SizeLemmas.{IsRootSizes, root_sizes, root_sizes_once}

-- ---- logs

-- an event of another ends no build of the caller
pub others_build : (number : ℕ) (event : Event) → whose event ≢ Caller number
    → ¬ (EndsBuild number event)
others_build number (Root c rebuild word rows) other = λ is. other (ap Caller is)
others_build number (Place c rebuild i word rows) other = λ is. other (ap Caller is)
others_build number (Lose c bases) other = λ is. other (ap Caller is)
others_build number _ other = λ is. is

-- a log that went on without such an event does so by events of others
pub without_later : (number : ℕ) {who : Who} {a b c : Log} → who ≡ Caller number
    → EndsNone number a b → Later who b c → EndsNone number a c
without_later number mine g no_more = g
without_later number mine g (one_more event later differs) =
    one_more event (without_later number mine g later)
    (others_build number event (λ e. differs (e ∙ sym mine)))

-- a caller that is beaten is so after each event that ends no build of it
pub beaten_on : (number : ℕ) (sizes : List ℕ) (log : Log) (event : Event)
    → ¬ (EndsBuild number event) → IsBeaten number sizes log → IsBeaten number sizes (event ∷ log)
beaten_on number sizes log (Root c rebuild word rows) out b = (out, inr b)
beaten_on number sizes log (Place c rebuild i word rows) out b = (out, inr b)
beaten_on number sizes log (Lose c bases) out b = (out, b)
beaten_on number sizes log _ out b = b

-- ---- roots

module _ (pairs : List Pair) (words : ℕ) (opens : CanOpen pairs words) where
  -- the rows of a Root have the sizes of a root over this many keys
  rooted_sizes : (log : Log) → EachEnabled (start pairs words) log → (caller rebuild word : ℕ)
      (rows : List Row) → (can : CanRoot (state_of pairs words log) caller rebuild word rows)
      → IsRootSizes can.k (sizes_of rows)
  rooted_sizes log h caller rebuild word rows can = let t = state_of pairs words log in
      root_sizes t.pieces rows word can.k can.leaves can.row.target can.once
      (held_free t caller rows can.held (sound_after pairs words log h))
      (number_is pairs words opens log h can.row.target can.k can.leaves can.finished can.reached)
      can.root

  abbrev first : Snapshot
  first = start pairs words

  module _ (number rebuild k : ℕ) (sizes : List ℕ) (fit : IsRootSizes k sizes) (prefix : Log)
      (unset : (r : RebuildRow) → (state_of pairs words prefix).pieces rebuild ≡ Some (Rebuild r)
      → r.root ≡ unset_word) where
    -- the target was finished before the event, if the root was set then
    finished_before : (log : Log) (event : Event) → EachEnabled first (event ∷ log)
        → (r s : RebuildRow) → (state_of pairs words log).pieces rebuild ≡ Some (Rebuild r)
        → r.root ≢ unset_word → s.target ≡ r.target
        → IsFinishedWith (state_of pairs words (event ∷ log)) s.target k
        → IsFinishedWith (state_of pairs words log) r.target k
    finished_before log event h r s e set same done = let t = state_of pairs words log in
        let u = state_of pairs words (event ∷ log) in
        let it = rooted_is_finished pairs words log h.0 rebuild r e set in
        let on = finished_with_grows t u (grow_after pairs words log event h) r.target it.0 it.1 in
        subst (IsFinishedWith t r.target)
        (finished_once u r.target it.0 k on
        (subst (λ n. IsFinishedWith u n k) same done)) it.1

    -- a root that was Unset and is set was set by another's Root of the same sizes
    pub beaten_root : (log : Log) → EndsNone number prefix log
        → EachEnabled first log → (r : RebuildRow)
        → (state_of pairs words log).pieces rebuild ≡ Some (Rebuild r) → r.root ≢ unset_word
        → IsFinishedWith (state_of pairs words log) r.target k → IsBeaten number sizes log
    beaten_root _ no_more h r e set done = absurd (set (unset r e))
    beaten_root _ (one_more {log = log} event g out) h r e set done =
        at event h out done (λ s f k l. beaten_root log g h.0 s f k l)
        (rebuild_comes pairs words log event h rebuild r e)
      where
        at : (event : Event) → EachEnabled first (event ∷ log) → ¬ (EndsBuild number event)
            → IsFinishedWith (state_of pairs words (event ∷ log)) r.target k
            → ((s : RebuildRow) → (state_of pairs words log).pieces rebuild ≡ Some (Rebuild s)
            → s.root ≢ unset_word → IsFinishedWith (state_of pairs words log) s.target k
            → IsBeaten number sizes log)
            → RebuildComes first log rebuild r event → IsBeaten number sizes (event ∷ log)
        at event h out done before (rebuild_was old) = beaten_on number sizes log event out
            (before r old set (finished_before log event h r r old set refl done))
        at _ h out done before (is_begun can s here same) = absurd (set (ap (λ x. x.root) same))
        at _ h out done before (is_rooted {caller = caller} {word = word} {rows = rows} can same) =
            let u = state_of pairs words (Root caller rebuild word rows ∷ log) in
            let on = finished_with_grows (state_of pairs words log) u
            (grow_after pairs words log (Root caller rebuild word rows) h) can.row.target can.k
            can.finished in
            let number_same : can.k ≡ k =
            grind (arith, finished_once) in (
              out,
              inl (root_sizes_once k (sizes_of rows) sizes
                  (subst (λ n. IsRootSizes n (sizes_of rows)) number_same
                  (rooted_sizes log h.0 caller rebuild word rows can)) fit),
            )
        at _ h out done before (is_drawn {caller = caller} {part = part} can same) =
            let root = ap (λ x. x.root) same in
            let set_before : can.row.root ≢ unset_word = λ e. set (root ∙ e) in
            beaten_on number sizes log (Draw caller rebuild part) out
            (before can.row can.published set_before
            (finished_before log (Draw caller rebuild part) h can.row r can.published set_before
            (ap (λ x. x.target) same) done))
