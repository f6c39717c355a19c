-- Runs on trees that follow one another, joined and told as one history. Serves `Map::run`.
use Rattle.std.proofs.Common.{◌≡◌, ◌∙◌, ℕ, List, [], ◌∷◌, ◌<◌, ◌++◌, length, map, slice_index_or, Option, Some, None, All, Any, IsSome, IfSome, refl, sym, ap, subst, arith}
use Rattle.std.proofs.lemmas.List.{append-nil, append_assoc}
use Rattle.ist_core.specs.declared.pairs.Pair.{Pair}
use Rattle.ist_core.specs.declared.ports.Full.{Full}
use Rattle.ist_core.proofs.AllLogLemmas.{goes_on_more}
use Rattle.ist_core.specs.TreeTerms.{map_of, pairs_of, Entry, changes_of, map_after_entries, told_by_call}
use Rattle.ist_core.specs.LogTerms.{Each, Answered}
use Rattle.laws_histories.specs.Telling.{map_now}
use Rattle.plain_map.specs.Rising.{IsRising}
use Rattle.plain_map.proofs.PlaceLemmas.{pairs_of-map_of}
use Rattle.ist_rest.specs.RestingWords.{HoldPairs}
use Rattle.ist_rest.proofs.WholeLemmas.{same_pairs, hold_map}
use Rattle.ist_rest.specs.Standings.{Stands}
use Rattle.ist_tree.specs.CallTerms.{TreeFace, MakerFace, ClosesWith, calls_taken, told_to}
use Rattle.ist_reopen.specs.Generations.{Generation, IsGeneration, generation_of, FollowOn, pairs_left, history, calls_of}
use Rattle.ist_reopen.specs.Interleaving.{told_over}
use Rattle.ist_map.specs.Hands.{HaveWorked}
use Rattle.ist_map.specs.Growing.{HaveDoubled, words_for_tree, words_after, asked_after, last_words}
use Rattle.ist_map.specs.Refusing.{IsRefusalOn, WasRefusedOn}
use Rattle.ist_map.specs.Running.{HasRunOn, HasRunOnOne, IsUnderway, WereRefused, IsOneHistory}
use Rattle.ist_reopen.proofs.GenerationLemmas.{closed_is, history_legal, history_leads}
use Rattle.ist_reopen.proofs.PassLemmas.{made_over}
use Rattle.ist_reopen.proofs.ReopenLemmas.{history_linear, moments_told}

-- trees that follow others, and one more that begins where these lead to
follow-push : (first middle : List Pair) (gs : List Generation) (g : Generation)
    → FollowOn first gs middle → g.start ≡ middle → IsGeneration g
    → FollowOn first (gs ++ g ∷ []) (pairs_left g)
follow-push first middle [] g f same is = (same ∙ f, is, refl)
follow-push first middle (x ∷ gs) g f same is =
    (f.0, f.1, follow-push (pairs_left x) middle gs g f.2 same is)

-- what a pass was told over these trees and one more
told_over-push : (gs : List Generation) (g : Generation) (number : ℕ)
    → told_over (gs ++ g ∷ []) number ≡ told_over gs number ++ map told_by_call (calls_of g number)
told_over-push [] g number = append-nil _
told_over-push (x ∷ gs) g number =
    ap (λ ts. map told_by_call (calls_of x number) ++ ts) (told_over-push gs g number)
    ∙ sym (append_assoc (map told_by_call (calls_of x number)) (told_over gs number)
    (map told_by_call (calls_of g number)))

-- the trees have the words that they should have, and so has one more
doubled-push : (asked : ℕ) (gs : List Generation) (g : Generation) → HaveDoubled asked gs
    → g.words ≡ words_for_tree (asked_after asked gs) g.start → HaveDoubled asked (gs ++ g ∷ [])
doubled-push asked [] g d size = (size, tt)
doubled-push asked (x ∷ gs) g d size = (d.0, doubled-push (words_after x.words) gs g d.1 size)

-- how many are asked for after these trees and one more
asked_after-push : (asked : ℕ) (gs : List Generation) (g : Generation)
    → asked_after asked (gs ++ g ∷ []) ≡ words_after g.words
asked_after-push asked [] g = refl
asked_after-push asked (x ∷ gs) g = asked_after-push (words_after x.words) gs g

-- and how many the last one has
last_words-push : (asked : ℕ) (gs : List Generation) (g : Generation)
    → last_words asked (gs ++ g ∷ []) ≡ g.words
last_words-push asked [] g = refl
last_words-push asked (x ∷ gs) g = last_words-push x.words gs g

-- what the workers were refused on the last one
refused-push : (gs : List Generation) (g : Generation) (refused : List (Option Full))
    → All (λ r. IfSome r (WasRefusedOn g)) refused → WereRefused (gs ++ g ∷ []) refused
refused-push [] g refused all = all
refused-push (x ∷ []) g refused all = all
refused-push (x ∷ y ∷ gs) g refused all = refused-push (y ∷ gs) g refused all

-- words that represent pairs and calls hold the pairs of one map
pub holds_some : (words : List ℕ) (s : Stands words)
    → HoldPairs words (pairs_of (map_now s.0 (length words) s.2.log))
holds_some words s = hold_map words s.0 s.1 s.2

-- a run of no tree: the words and what was told are as they were
unfoldable pub run_none : (words : List ℕ) (asked : ℕ) (told : List (List Answered))
    (refused : List (Option Full)) → Stands words
    → IsUnderway words words asked asked asked told told refused
run_none words asked told refused s = record {
  ran = record {
    began = pairs_of (map_now s.0 (length words) s.2.log);
    began_held = holds_some words s;
    ended = pairs_of (map_now s.0 (length words) s.2.log);
    ended_held = holds_some words s;
    trees = [];
    follow = refl;
    sizes = tt;
    left_is = refl;
    told = λ number. sym (append-nil _);
  };
  next_is = refl;
  one_refused = λ some. absurd (some refl);
  refusals = tt;
}

-- a run that goes on on one more tree, if as many words were asked for it as after the others
pub run_on : (first middle last : List ℕ) (asked left later : ℕ)
    (before between after : List (List Answered)) (refused : List (Option Full))
    → (a : HasRunOn first middle asked left before between)
    → HasRunOnOne middle last (asked_after asked a.trees) later between after refused
    → HasRunOn first last asked later before after
run_on first middle last asked left later before between after refused a b =
    let same : b.tree.start ≡ a.ended =
    same_pairs middle b.tree.start a.ended b.began_held a.ended_held in
    record {
      began = a.began;
      began_held = a.began_held;
      ended = pairs_left b.tree;
      ended_held = b.ended_held;
      trees = a.trees ++ b.tree ∷ [];
      follow = follow-push a.began a.ended a.trees b.tree a.follow same b.is;
      sizes = doubled-push asked a.trees b.tree a.sizes b.size;
      left_is = b.left_is ∙ sym (last_words-push asked a.trees b.tree);
      told = λ number. b.told number
          ∙ ap (λ ts. ts ++ map told_by_call (calls_of b.tree number)) (a.told number)
          ∙ append_assoc (slice_index_or before number []) (told_over a.trees number)
          (map told_by_call (calls_of b.tree number))
          ∙ ap (λ ts. slice_index_or before number [] ++ ts)
          (sym (told_over-push a.trees b.tree number));
    }

-- the same, if a worker was refused on it
pub run_further : (first middle last : List ℕ) (asked left later : ℕ)
    (before between after : List (List Answered)) (refused : List (Option Full))
    → (a : HasRunOn first middle asked left before between)
    → HasRunOnOne middle last (asked_after asked a.trees) later between after refused
    → Any IsSome refused
    → IsUnderway first last asked later (words_after later) before after refused
unfolding run_on
run_further first middle last asked left later before between after refused a b one = record {
  ran = run_on first middle last asked left later before between after refused a b;
  next_is = asked_after-push asked a.trees b.tree ∙ ap words_after (sym b.left_is);
  one_refused = λ some. one;
  refusals = refused-push a.trees b.tree refused b.refusals;
}

-- the same for a run that is underway, if it ends on this tree
pub one_more : (first middle last : List ℕ) (asked left next later : ℕ)
    (before between after : List (List Answered)) (old refused : List (Option Full))
    → IsUnderway first middle asked left next before between old
    → HasRunOnOne middle last next later between after refused
    → HasRunOn first last asked later before after
one_more first middle last asked left next later before between after old refused u one =
    run_on first middle last asked left later before between after refused u.ran
    (subst (λ n. HasRunOnOne middle last n later between after refused) (sym u.next_is) one)

-- and if it goes on
pub underway_more : (first middle last : List ℕ) (asked left next later : ℕ)
    (before between after : List (List Answered)) (old refused : List (Option Full))
    → IsUnderway first middle asked left next before between old
    → HasRunOnOne middle last next later between after refused → Any IsSome refused
    → (now : ℕ) → now ≡ words_after later
    → IsUnderway first last asked later now before after refused
underway_more first middle last asked left next later before between after old refused u one some now same =
    subst (λ n. IsUnderway first last asked later n before after refused) (sym same)
    (run_further first middle last asked left later before between after refused u.ran
    (subst (λ n. HasRunOnOne middle last n later between after refused) (sym u.next_is) one) some)

-- a pass was refused by the end of what the maker had seen, and so on the tree that it closed
pub refused_on : (m : MakerFace) (last : List ℕ) (c : ClosesWith m last) (tree : TreeFace)
    → m.tree ≡ tree → length last ≡ tree.words → (refused : Option Full)
    → IfSome refused (IsRefusalOn tree m.seen)
    → IfSome refused (WasRefusedOn (generation_of m last c))
refused_on m last c tree same long None r = tt
refused_on m last c tree same long (Some full) r = (
  r.0,
  ap (λ (t : TreeFace). t.start) (r.1 ∙ sym same),
  ap (λ (t : TreeFace). t.words) r.1 ∙ sym long,
  record {
    began = r.2.began;
    ended = r.2.ended;
    since = r.2.since;
    call = r.2.call;
    until = goes_on_more r.2.until c.goes_on;
    cause = r.2.cause;
  },
)

-- a run on one tree, which begins with the pairs of the words, has this many words, and was closed
-- with this maker
pub run_one : (first last : List ℕ) (asked words : ℕ) (before after : List (List Answered))
    (refused : List (Option Full)) (m : MakerFace) → HoldPairs first m.tree.start
    → length last ≡ words → words ≡ words_for_tree asked m.tree.start → (c : ClosesWith m last)
    → HaveWorked before (calls_taken m) after
    → All (λ r. IfSome r (WasRefusedOn (generation_of m last c))) refused
    → HasRunOnOne first last asked words before after refused
run_one first last asked words before after refused m holds long many c worked all = record {
  tree = generation_of m last c;
  is = closed_is m last c;
  began_held = holds;
  ended_held = hold_map last m.tree.start (told_to m) c.stands;
  size = long ∙ many;
  left_is = sym long;
  told = worked;
  refusals = all;
}

-- the calls of a run are one legal history
pub run_is_one : (first last : List ℕ) (asked left : ℕ) (before after : List (List Answered))
    → HasRunOn first last asked left before after → IsOneHistory first last before after
run_is_one first last asked left before after r =
    grind (arith, history_legal, history_leads, made_over, history_linear, moments_told)

-- ---- before the first run

-- where each entry is of a pass below none, there is no entry
no_entries : (entries : List Entry) (made : ℕ) → made ≡ 0
    → Each (λ entry. entry.owner < made) entries → entries ≡ []
no_entries [] made none h = refl
no_entries (entry ∷ entries) made none h = let low = h.0 in absurd (omega arith)

-- the words of a tree that no pass was made of hold the pairs that it was opened with
pub holds_first : (m : MakerFace) (closed : List ℕ) → ClosesWith m closed → m.made ≡ 0
    → IsRising m.tree.start → HoldPairs closed m.tree.start
holds_first m closed c none rising = subst (HoldPairs closed)
    (ap (λ es. pairs_of (map_after_entries (map_of m.tree.start) es))
    (no_entries (changes_of m.tree.start (length closed) c.stands.log) m.made none c.owners)
    ∙ pairs_of-map_of m.tree.start rising)
    (hold_map closed m.tree.start (told_to m) c.stands)
