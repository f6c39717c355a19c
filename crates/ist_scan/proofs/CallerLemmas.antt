-- A shot that is read after its pass went on, or by another pass. Serves `callers.rt`.
use Rattle.std.proofs.Common.{◌≡◌, ℕ, List, [], ◌∷◌, ◌++◌, Option, ap, ◌∙◌, sym, subst, arith}
use Rattle.ist_core.specs.declared.commands.Command.TheVariants.{Remove}
use Rattle.ist_core.specs.declared.pairs.Pair.{Pair}
use Rattle.ist_core.specs.LogTerms.{Lawful}
use Rattle.ist_core.specs.TreeTerms.{listed, pairs_between}
use Rattle.ist_tree.specs.CallTerms.{HasSeenMore, HasLearnt, AddsCall, PassFace, noted}
use Rattle.ist_tree.specs.declared.freezing.Frozen.{Frozen}
use Rattle.ist_tree.proofs.HeardLemmas.{seen_more_then, steps_until}
use Rattle.ist_scan.specs.declared.totals.Total.{Total}
use Rattle.ist_scan.specs.Callers.{IsTotalBefore, IsListOnce}
use Rattle.ist_scan.specs.Shots.{IsOf, ArePairsOf, HasTakenShot, HasOnlyLooked, map_seen}
use Rattle.ist_scan.specs.Totals.{total_of}
use Rattle.ist_scan.proofs.ShotLemmas.{GoesOnWell, has_on, of_on, of_pairs, map_on, later_calls}

-- a pass that took a shot, made a call and then looked
module _ (p taken made q : PassFace) (seen : HasSeenMore taken made)
    (lawful : Lawful made.tree.start made.tree.words made.seen) (looked : HasOnlyLooked made q)
    (lawful_now : Lawful q.tree.start q.tree.words q.seen) where
  on : GoesOnWell taken made
  on = record { tree = seen.tree; seen = seen.seen; lawful = lawful }

  following : GoesOnWell made q
  following = record { tree = looked.seen.tree; seen = looked.seen.seen; lawful = lawful_now }

  -- a total read after a remove is of a position that isn't after the remove
  pub total_before : (shot : Frozen) (first last key : ℕ) (reply : Option ℕ) (total : Total)
      → HasTakenShot p taken shot → taken.calls ≡ p.calls → AddsCall taken made (Remove key) reply
      → ((position : ℕ) → IsOf made position shot
      → total ≡ total_of (listed first last (map_seen made position)))
      → IsTotalBefore p q first last key total
  total_before shot first last key reply total h calls added value =
      let at = of_on taken made on h.position shot h.is_of in record {
        at = h.at;
        step = steps_until p taken q h.at h.step (seen_more_then taken made q seen looked.seen);
        position = h.position;
        fresh = h.fresh;
        total_is = value h.position at
            ∙ ap (λ m. total_of (listed first last m)) (sym (map_on made q following h.position at.within));
        call = added.call;
        command_is = added.command_is;
        calls_are = looked.calls ∙ added.calls_are ∙ ap (λ cs. cs ++ added.call ∷ []) calls;
        following = later_calls taken made h.position shot (Remove key) reply h.is_of added;
      }

-- a pass that took a shot and then looked at it, which gave this list
module _ (p taken q : PassFace) (shot : Frozen) (h : HasTakenShot p taken shot)
    (lawful : Lawful taken.tree.start taken.tree.words taken.seen) (looked : HasOnlyLooked taken q)
    (lawful_now : Lawful q.tree.start q.tree.words q.seen) (first last : ℕ) (mine : List Pair)
    (value : (position : ℕ) → IsOf taken position shot
    → mine ≡ listed first last (map_seen taken position)) where
  -- the list is of one position
  pub listed_once : IsListOnce p q first last mine
  listed_once =
      let following : GoesOnWell taken q =
      record { tree = looked.seen.tree; seen = looked.seen.seen; lawful = lawful_now } in
      let at = of_on taken q following h.position shot h.is_of in record {
        at = h.at;
        step = steps_until p taken q h.at h.step looked.seen;
        position = h.position;
        fresh = h.fresh;
        within = at.within;
        pairs_are = value h.position h.is_of
            ∙ ap (listed first last) (sym (map_on taken q following h.position h.is_of.within));
      }

  -- a pass that learnt of the shot lists the same pairs
  pub listed_alike : (other : PassFace) → GoesOnWell taken other → (theirs : List Pair)
      → ((pairs : List Pair) → ArePairsOf other shot pairs → theirs ≡ pairs_between first last pairs)
      → mine ≡ theirs
  listed_alike other on theirs by = grind (arith, has_on, of_pairs)

-- a pass that met a note of another has learnt what that one knew
pub told_well : (took taken note other : PassFace) → note ≡ noted took → taken ≡ took
    → HasLearnt other note → Lawful other.tree.start other.tree.words other.seen
    → GoesOnWell taken other
told_well took taken note other noted_is same l lawful = grind arith

-- one pass took a shot and listed it, and another met its note and listed it too
module _ (p took taken q note other : PassFace) (shot : Frozen) (h : HasTakenShot p took shot)
    (noted_is : note ≡ noted took) (same : taken ≡ took)
    (lawful : Lawful taken.tree.start taken.tree.words taken.seen) (looked : HasOnlyLooked taken q)
    (lawful_now : Lawful q.tree.start q.tree.words q.seen) (learnt : HasLearnt other note)
    (lawful_other : Lawful other.tree.start other.tree.words other.seen) (first last : ℕ)
    (mine theirs : List Pair) (value : (position : ℕ) → IsOf taken position shot
    → mine ≡ listed first last (map_seen taken position))
    (by : (pairs : List Pair) → ArePairsOf other shot pairs
    → theirs ≡ pairs_between first last pairs) where
  its : HasTakenShot p taken shot
  its = subst (λ t. HasTakenShot p t shot) (sym same) h

  -- both lists are the same pairs
  pub both_alike : mine ≡ theirs
  both_alike = listed_alike p taken q shot its lawful looked lawful_now first last mine value other
      (told_well took taken note other noted_is same learnt lawful_other) theirs by

  -- the taker's list is of one position
  pub both_once : IsListOnce p q first last mine
  both_once = listed_once p taken q shot its lawful looked lawful_now first last mine value
