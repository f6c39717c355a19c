-- How few words a build takes, function by function. Serves `block`, `parts`, `top` and `root`.
use Rattle.std.proofs.Common.{◌≡◌, ℕ, ◌+◌, ◌<◌, ◌≤◌, List, length, Result, sym, ap, ◌∙◌, subst, ⊎_elim, arith, ◌*◌, [], ◌∷◌, map, take, drop, Some}
use Rattle.std.specs.List.{sum}
use Rattle.std.proofs.lemmas.Bool.Decides.{nat_tests, eqb_tells}
use Rattle.ist_core.specs.declared.events.Event.{Event}
use Rattle.ist_core.specs.declared.ports.Full.{Full}
use Rattle.ist_core.specs.declared.events.Who.TheVariants.{Caller as CallerOf}
use Rattle.ist_core.specs.declared.states.LeafRow.{LeafRow}
use Rattle.ist_core.specs.WordTerms.{degree, inner_words, shape, share_from, square_root, Leaf, InnerAt, place_limit, share_from_is}
use Rattle.ist_core.specs.TreeTerms.{IsFinishedWith, PlacedLeaf, HasLeaves}
use Rattle.ist_core.specs.LogTerms.{Snapshot, Each}
use Rattle.ist_core.proofs.AllLogLemmas.{finished_once}
use Rattle.ist_core.proofs.AllWordLemmas.{same_rebuild, square_root-le}
use Rattle.ist_rule.specs.RuleTerms.{TokenFace, GoesOnTo, Logged, ExchangedOrLost, storing, IsSound, now}
use Rattle.ist_rule.specs.declared.view.View.{View}
use Rattle.ist_rule.proofs.EventLemmas.{goes_on_who}
use Rattle.ist_rows.specs.RowTerms.{IsCaller, HasTakenFew, HasTakenFewIn, IsLaterCaller, TakesFew, TakesNoWords, taken_at}
use Rattle.ist_rows.specs.declared.callers.Caller.{Caller}
use Rattle.ist_rows.proofs.FewLemmas.{later_went}
use Rattle.ist_rows.proofs.FewStepLemmas.{few_call, few_kept, none_loads, none_logged, none_logged_load, none_more}
use Rattle.ist_build.specs.Back.{HasBuilt, IsBack}
use Rattle.ist_build.specs.Calls.{Builds, IsTold, root_words, HasKeys}
use Rattle.ist_build.specs.Laying.{BuiltOn, IsReservation, LaidOn, IsLeaf}
use Rattle.ist_build.specs.Midway.{setting}
use Rattle.ist_build.specs.Reading.{HasReadOut}
use Rattle.ist_build.proofs.BuiltLemmas.{laid_went, leaf_goes_on}
use Rattle.laws_links.proofs.FinishedLemmas.{leaves_stand}
use Rattle.laws_links.proofs.ContentLemmas.{finished_few}
use Rattle.std.proofs.lemmas.Bool.{cases_lt}
use Rattle.std.proofs.Math.Nat.{mul-le-mul_right}
use Rattle.std.proofs.lemmas.List.{length-drop}
use Rattle.ist_build.proofs.PartLeafLemmas.{some_first, each_drop}
use Rattle.ist_build.proofs.ShareLemmas.{some_leaves}

-- a caller that laid rows is a later state
pub after_laid : (P : Event → Type 0) (old new : Caller) → new.number ≡ old.number
    → LaidOn P old.token.view new.token.view → IsLaterCaller old new
after_laid P old new number b = grind (arith, later_went, laid_went)

-- so is one that is back
pub after_back : (old new : Caller) → IsBack old new → IsLaterCaller old new
after_back old new b = after_laid Builds old new b.number b.put

-- ---- parts

-- a build over leaves that were read out
pub few_loaded : (who : Caller) (token : TokenFace) (new : Caller) (target start len : ℕ)
    (bases : List ℕ) → IsCaller who → HasReadOut who.token.view target start len bases token.view
    → new.number ≡ who.number → BuiltOn token.view new.token.view → (answer : Result ℕ Full)
    → (2 ≤ length bases
    → HasTakenFewIn answer (sum (shape (length bases))) 0 (record who { token = token }) new)
    → 2 ≤ len → HasTakenFewIn answer (sum (shape len)) 0 who new
few_loaded who token new target start len bases c r number b answer few two =
    let mid = record who { token = token } in
    few_call answer (sum (shape len)) 0 who mid new (none_loads who token c.mine r.seen)
    (after_laid IsReservation mid new number b)
    (subst (λ n. HasTakenFewIn answer (sum (shape n)) 0 mid new) r.size
    (few (subst (λ n. 2 ≤ n) (sym r.size) two)))

-- ---- the top row

-- a caller that loaded and then stored took as few words
pub few_stored : (n left : ℕ) (old who : Caller) (token : TokenFace) (new : Caller)
    → who.number ≡ old.number → BuiltOn old.token.view who.token.view → IsCaller who
    → GoesOnTo who.token.view token.view → new.token.view.log ≡ token.view.log
    → HasTakenFew n left old who → HasTakenFew n left old new
few_stored n left old who token new number b c seen log_is f = let v = old.token.view in
    subst (TakesFew old.number n left v.words v.start v.log) (sym log_is)
    (few_kept n left old who (record who { token = token }) (after_laid IsReservation old who number b)
    (none_loads who token c.mine seen) f)

-- storing a slot changes no log
pub set_log : (v : View) (base d j key word : ℕ) (new mid : Caller)
    → new ≡ record mid { token = record mid.token { view = setting v base d j key word } }
    → new.token.view.log ≡ v.log
set_log v base d j key word new mid e = grind arith

-- ---- the root

-- over few keys the root is the whole tree
pub root_few : (k : ℕ) → k < share_from → root_words k ≡ sum (shape k)
root_few k few = grind (arith, nat_tests)

-- over many it is its top row
pub root_many : (k : ℕ) → share_from ≤ k → root_words k ≡ inner_words (degree k)
root_many k many = grind (arith, nat_tests)

-- the token of a caller that has built is the caller's
pub built_mine : (old mid : Caller) → HasBuilt old mid → mid.token.view.who ≡ CallerOf mid.number
built_mine old mid a = ap (λ x. x.who) a.built.same ∙ a.ready.caller.mine ∙ ap CallerOf (sym a.number)

-- a rebuild has one target, with one number of keys
pub told_once : (t : Snapshot) (rebuild j k : ℕ) → IsTold t rebuild j → IsTold t rebuild k → j ≡ k
told_once t rebuild j k h l = grind (arith, same_rebuild, finished_once)

-- ---- steps that take none

-- loads, and then an event that reserves nothing
pub none_then : (who : Caller) (mid last : TokenFace) → who.token.view.who ≡ CallerOf who.number
    → GoesOnTo who.token.view mid.view → (event : Event) → Logged mid.view event last.view
    → taken_at who.number event ≡ 0 → TakesNoWords who (record who { token = last })
none_then who mid last mine g event l nothing = let via = record who { token = mid } in
    none_more who via (record who { token = last }) (none_loads who mid mine g)
    (none_logged via last (goes_on_who g ∙ mine) event l nothing)

-- an exchange whose two events reserve nothing
pub none_exchanged : (who : Caller) (token : TokenFace) → who.token.view.who ≡ CallerOf who.number
    → (event lost : Event) (place old found : ℕ)
    → ExchangedOrLost who.token.view event lost place old found token.view
    → taken_at who.number event ≡ 0 → taken_at who.number lost ≡ 0
    → TakesNoWords who (record who { token = token })
none_exchanged who token mine event lost place old found x nothing none =
    grind (arith, none_logged, none_logged_load, eqb_tells)

-- ---- one leaf of a finished node, its key, and how few keys and parts there are. Serves `top`, `leaf_at` and
-- `filling`.

-- ---- one leaf

-- the leaf number i of a finished target
pub leaf_is : (i base : ℕ) (leaves : List PlacedLeaf) (leaf : PlacedLeaf) (others : List PlacedLeaf)
    → map (λ l. l.base) (take 1 (drop i leaves)) ≡ base ∷ [] → drop i leaves ≡ leaf ∷ others
    → base ≡ leaf.base
leaf_is i base leaves leaf others is e = grind arith

-- it is published
pub leaf_there : (v w : View) → IsSound v → GoesOnTo v w → (target i base : ℕ)
    → HasKeys (now v) target (i + 1)
    → ((leaves : List PlacedLeaf) → HasLeaves (now v).pieces (Some (InnerAt target)) leaves
    → map (λ l. l.base) (take 1 (drop i leaves)) ≡ base ∷ [])
    → IsLeaf (now w) base
leaf_there v w s g target i base h told = let it = some_leaves v s target (i + 1) h in
    let long = it.2 in let rest = length-drop i it.0 in
    let first = some_first (drop i it.0) (omega arith) in
    let all = each_drop (λ leaf. (now v).pieces leaf.base ≡ Some (Leaf leaf.row)) i it.0
    (leaves_stand (now v).pieces (Some (InnerAt target)) it.0 it.1) in
    let here : (now v).pieces first.0.base ≡ Some (Leaf first.0.row) =
    (subst (Each (λ leaf. (now v).pieces leaf.base ≡ Some (Leaf leaf.row))) first.2 all).0 in
    subst (IsLeaf (now w)) (sym (leaf_is i base it.0 first.0 first.1 (told it.0 it.1) first.2))
    record { row = first.0.row; published = leaf_goes_on v w g first.0.base first.0.row here }

-- and so is its key
pub key_told_at : (v w : View) → GoesOnTo v w → (target i base key : ℕ)
    → ((leaves : List PlacedLeaf) → HasLeaves (now v).pieces (Some (InnerAt target)) leaves
    → map (λ l. l.base) (take 1 (drop i leaves)) ≡ base ∷ [])
    → ((row : LeafRow) → (now w).pieces base ≡ Some (Leaf row) → key ≡ row.key)
    → (leaves : List PlacedLeaf) → HasLeaves (now v).pieces (Some (InnerAt target)) leaves
    → (leaf : PlacedLeaf) (others : List PlacedLeaf) → drop i leaves ≡ leaf ∷ others
    → key ≡ leaf.row.key
key_told_at v w g target i base key told key_is leaves has leaf others e =
    grind (arith, each_drop, leaves_stand, leaf_is, leaf_goes_on)

-- ---- numbers

-- a target isn't large
pub target_few : (v : View) → IsSound v → (target k : ℕ) → IsFinishedWith (now v) target k
    → k ≤ place_limit
target_few v s target k f =
    finished_few v.start v.words s.lawful.opens v.log s.lawful.enabled target k f

twice : (x : ℕ) → 2 ≤ x → 2 * x ≤ x * x
twice x two = mul-le-mul_right x two

-- its degree is less than half of them
pub degree_small : (k : ℕ) → 4 ≤ k → 2 * degree k ≤ k
unfolding degree
degree_small k four = let le = square_root-le k in ⊎_elim (λ small. omega arith)
    (λ large. let more = twice (square_root k) large in omega arith) (cases_lt (square_root k) 2)

-- the degree of the top row is below the limit of places
pub target_degree : (v : View) → IsSound v → (target k d : ℕ) → IsFinishedWith (now v) target k
    → share_from ≤ k → d ≡ degree k → d < place_limit
target_degree v s target k d f many is = let few = target_few v s target k f in
    let number = share_from_is in let half = degree_small k (omega arith) in omega arith

-- a target with a shared root has at least two keys
pub many_two : (k : ℕ) → share_from ≤ k → 2 ≤ k
many_two k many = let number = share_from_is in omega arith
