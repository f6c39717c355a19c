-- A tree over the pairs of a closed one. Serves `open_after` and `reopen`.
use Rattle.std.proofs.Common.{◌≡◌, ◌∙◌, ℕ, List, length, sym, subst, zero, suc, ◌+◌, ◌<◌, ◌≤◌, [], ◌∷◌, ◌++◌, map, slice_index_or, refl, ap, ap₂, arith, ◌-◌, ◌^◌}
use Rattle.ist_core.specs.declared.pairs.Pair.{Pair}
use Rattle.ist_core.specs.TreeTerms.{pairs_of, StandsFor, Map, map_of, told_by_call}
use Rattle.ist_core.specs.LogTerms.{Answered, Each, PassCalls, Log, Lawful}
use Rattle.laws_histories.specs.Telling.{map_now}
use Rattle.ist_rest.specs.RestingWords.{HoldPairs}
use Rattle.ist_tree.specs.CallTerms.{TreeFace, MakerFace, IsNewTree, ClosesWith, told_to, calls_numbered, calls_from}
use Rattle.ist_reopen.specs.Reopening.{OpensAfter, BeginsAfter}
use Rattle.std.proofs.lemmas.Bool.Decides.{leb_tells}
use Rattle.std.proofs.lemmas.List.{map-append, length-map}
use Rattle.ist_core.proofs.AllPlaceLemmas.{map_of-pairs_of, one_kept, adds_few_keys, length-pairs_of}
use Rattle.laws_real_time.specs.Moments.{Moments}
use Rattle.laws_real_time.specs.Making.{calls_returned}
use Rattle.laws_real_time.specs.Joining.{LinearizesTo}
use Rattle.laws_real_time.proofs.DeedLemmas.{calls_of_other}
use Rattle.laws_real_time.proofs.JoinLemmas.{histories_join}
use Rattle.laws_real_time.proofs.ShiftLemmas.{calls_both}
use Rattle.ist_reopen.specs.Generations.{Generation, FollowOn, moments_over, pairs_left}
use Rattle.ist_reopen.specs.Interleaving.{told_over}
use Rattle.std.specs.List.Sorted.{IsStrictlyIncreasing}
use Rattle.std.specs.Ordering.{nat_cmp}
use Rattle.std.specs.Cmp.{nat_cmp_total}
use Rattle.ist_core.proofs.AllWordLemmas.{ideal_words_is}
use Rattle.laws_histories.proofs.ContentLemmas.{pairs_rise_at}
use Rattle.ist_rest.specs.Standings.{Stands}
use Rattle.ist_tree.proofs.FewChangesLemmas.{few_changes}
use Rattle.std.specs.FinMap as fin

-- a new tree of the pairs that were found in closed words
pub opens_after : (closed : List ℕ) (words : ℕ) (given found : List Pair) (tree : TreeFace)
    (maker : MakerFace) → IsNewTree words given tree maker → given ≡ found → HoldPairs closed found
    → ((pairs : List Pair) (told : List (List Answered)) (s : StandsFor closed pairs told)
    → found ≡ pairs_of (map_now pairs (length closed) s.log))
    → OpensAfter closed words tree maker
opens_after closed words given found tree maker new same holds of_map =
    let start = new.start_is ∙ same in record {
      new = subst (λ ps. IsNewTree words ps tree maker) (sym new.start_is) new;
      holds = subst (HoldPairs closed) (sym start) holds;
      of_map = λ pairs told s. start ∙ of_map pairs told s;
    }

-- if the words were closed with this maker, it begins with what the maker's passes left
pub follows : (m : MakerFace) (closed : List ℕ) (words : ℕ) (tree : TreeFace) (maker : MakerFace)
    → length closed ≡ m.tree.words → ClosesWith m closed → OpensAfter closed words tree maker
    → BeginsAfter m words tree maker
follows m closed words tree maker size closes opened = record {
  closed = closed;
  size = size;
  closes = closes;
  holds = opened.holds;
  new = opened.new;
  left = opened.of_map m.tree.start (told_to m) closes.stands;
}

-- ---- the calls on trees that follow one another are linearizable together. Serves
-- `laws.histories_are_linearizable`.

-- ---- one tree

-- list number `i` has the calls of the pass with this number
list_at : (number count : ℕ) (taken : List PassCalls) (i : ℕ) → i < count
    → slice_index_or (calls_from number count taken) i [] ≡ calls_numbered (number + i) taken
list_at number zero taken i low = absurd (omega arith)
list_at number (suc count) taken zero low = grind arith
list_at number (suc count) taken (suc i) low =
    let same : number + 1 + i ≡ number + suc i = omega arith in
    list_at (number + 1) count taken i (omega arith) ∙ ap (λ n. calls_numbered n taken) same

-- there is none past the last
none_past_count : (number count : ℕ) (taken : List PassCalls) (i : ℕ) → count ≤ i
    → slice_index_or (calls_from number count taken) i [] ≡ []
none_past_count number zero taken zero low = refl
none_past_count number zero taken (suc i) low = refl
none_past_count number (suc count) taken zero low = absurd (omega arith)
none_past_count number (suc count) taken (suc i) low =
    none_past_count (number + 1) count taken i (omega arith)

-- a number that is above those of all moments has no calls
none_returned : (number bound : ℕ) (moments : Moments) → bound ≤ number
    → Each (λ m. m.caller < bound) moments → calls_returned number moments ≡ []
none_returned number bound [] above low = refl
none_returned number bound (moment ∷ moments) above low = let less = low.0 in
    calls_of_other number moment moments (λ same. omega arith)
    ∙ none_returned number bound moments above low.1

-- by the moments each pass of a tree made the calls that its maker kept
pub returned_are : (m : MakerFace) (closed : List ℕ) (c : ClosesWith m closed) (number : ℕ)
    → calls_returned number c.timed.moments ≡ slice_index_or (calls_from 0 m.made m.taken) number []
returned_are m closed c number = grind (arith, none_returned, none_past_count, list_at, leb_tells)

-- ---- one tree after another

-- no moments lead to the same map
none_leads : (m : Map) → LinearizesTo m [] m
none_leads m = record {
  linear = record {
    well_formed = tt;
    order = [];
    calls = tt;
    all = tt;
    once = tt;
    legal = refl;
    real_time = tt;
  };
  leads = refl;
}

-- the calls on all trees are linearizable
pub history_linear : (first last : List Pair) (gs : List Generation) → FollowOn first gs last
    → LinearizesTo (map_of first) (moments_over gs) (map_of last)
history_linear first last [] h =
    subst (LinearizesTo (map_of first) []) (ap map_of (sym h)) (none_leads (map_of first))
history_linear first last (g ∷ gs) h =
    histories_join (map_of first) (map_now g.start g.words g.log) (map_of last) g.moments
    (moments_over gs)
    (subst (λ ps. LinearizesTo (map_of ps) g.moments (map_now g.start g.words g.log)) h.0 h.1.linear)
    h.1.over
    (subst (λ m. LinearizesTo m (moments_over gs) (map_of last))
    (map_of-pairs_of (map_now g.start g.words g.log)) (history_linear (pairs_left g) last gs h.2))

-- they are what the passes were told
pub moments_told : (first last : List Pair) (gs : List Generation) → FollowOn first gs last
    → (number : ℕ)
    → map told_by_call (calls_returned number (moments_over gs)) ≡ told_over gs number
moments_told first last [] h number = refl
moments_told first last (g ∷ gs) h number =
    ap (map told_by_call) (calls_both g.moments (moments_over gs) h.1.over number)
    ∙ map-append told_by_call (calls_returned number g.moments)
    (calls_returned number (moments_over gs))
    ∙ ap₂ (λ xs ys. map told_by_call xs ++ ys) (h.1.returned number)
    (moments_told (pairs_left g) last gs h.2 number)

-- ---- a closed tree holds few pairs: no more than it was opened with and had changes. Serves
-- `open_after`.

-- entries make a map of at most as many keys
len_entries : (es : List (ℕ × ℕ)) → fin.len (fin.from_entries {R = nat_cmp} es) ≤ length es
len_entries [] = omega (arith, fin.len-empty nat_cmp ℕ)
len_entries (e ∷ es) = let rest = len_entries es in
    let long = fin.len-insert nat_cmp_total (fin.from_entries {R = nat_cmp} es) e.0 e.1 in
    let high = one_kept (fin.contains_key (fin.from_entries {R = nat_cmp} es) e.0)
    (fin.len (fin.from_entries {R = nat_cmp} es)) in
    omega arith

-- after a lawful log there are fewer than 2 ^ 32 pairs
pub pairs_few : (pairs : List Pair) (words : ℕ) (log : Log) → Lawful pairs words log
    → length (pairs_of (map_now pairs words log)) < 2 ^ 32
pairs_few pairs words log lawful =
    grind (
      arith,
      few_changes,
      ideal_words_is,
      length-pairs_of,
      adds_few_keys,
      length-map,
      len_entries,
    )

-- standing words hold few pairs
pub found_few : (closed : List ℕ) (found : List Pair) → Stands closed
    → ((pairs : List Pair) (told : List (List Answered)) (s : StandsFor closed pairs told)
    → found ≡ pairs_of (map_now pairs (length closed) s.log))
    → length found < 2 ^ 32
found_few closed found stands of_map =
    subst (λ ps. length ps < 2 ^ 32) (sym (of_map stands.0 stands.1 stands.2))
    (pairs_few stands.0 (length closed) stands.2.log stands.2.lawful)

-- and their keys are strictly increasing
pub found_rise : (closed : List ℕ) (found : List Pair) → Stands closed
    → ((pairs : List Pair) (told : List (List Answered)) (s : StandsFor closed pairs told)
    → found ≡ pairs_of (map_now pairs (length closed) s.log))
    → IsStrictlyIncreasing (map (λ pair. pair.key) found)
found_rise closed found stands of_map =
    subst (λ ps. IsStrictlyIncreasing (map (λ pair. pair.key) ps))
    (sym (of_map stands.0 stands.1 stands.2))
    (pairs_rise_at stands.0 (length closed) stands.2.lawful.opens stands.2.log
    stands.2.lawful.enabled)
