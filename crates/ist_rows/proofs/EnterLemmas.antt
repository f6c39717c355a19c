-- Entering: when it may be made, and what the new caller is. Serves `enter`.
use Rattle.std.proofs.Common.{◌≡◌, ◌≢◌, ℕ, ◌+◌, ◌<◌, ◌≤◌, ◌⊎◌, ◌==◌, not, true, false, List, [], ◌∷◌, map, filter, Some, None, refl, sym, ap, ap₂, ◌∙◌, subst, inl, inr, arith}
use Rattle.std.proofs.lemmas.Bool.Decides.{eqb_tells, nat_tests}
use Rattle.ist_core.specs.declared.lists.HeldRow.{HeldRow}
use Rattle.ist_core.specs.declared.events.Event.TheVariants.{Enter}
use Rattle.ist_core.specs.declared.events.Who.TheVariants.{Maker, Caller as CallerOf}
use Rattle.ist_core.specs.WordTerms.{callers_place}
use Rattle.ist_core.specs.LogTerms.{Among, AreBuilds, no_build, Log, caller_limit, state_of, IsIdleIn, shown_callers}
use Rattle.ist_rule.specs.RuleTerms.{IsSound, now, Logged, MayCome, CanAdd, plain, split_left, split_right}
use Rattle.ist_rule.specs.declared.view.View.{View}
use Rattle.ist_core.proofs.AllLogLemmas.{callers_word}
use Rattle.ist_rule.proofs.WatchLemmas.{idle_holds}
use Rattle.ist_rule.proofs.EventLemmas.{callers_by_others}
use Rattle.ist_rows.specs.RowTerms.{Caller, Kind, Leaf, Pair, Change, Rebuild, held_by, spares_of, row_of, is_spare, IsCaller, HasEntered}

-- ---- what is shown at the fixed places

-- ---- entering

-- after each log that may come, there are as many callers as the maker made
made_there : (v : View) → IsSound v → v.who ≡ Maker → (log : Log) → MayCome v log
    → (state_of v.start v.words log).callers ≡ v.made
made_there v s who log m = grind (arith, callers_by_others)

-- the maker may enter a caller, whatever others do meanwhile
pub can_enter : (v : View) → IsSound v → v.who ≡ Maker → v.given ≡ v.made → v.made < caller_limit
    → CanAdd v callers_place (λ found. Enter found)
can_enter v s who given few = record {
  make = λ found. record { mine = sym who; stored = tt; allowed = given };
  known = λ log m. ((state_of v.start v.words log).callers, shown_callers);
  comes = λ log m found shown.
      let is = callers_word v.start v.words log m.lawful.enabled callers_place found shown
      refl in
      let made = made_there v s who log m in record {
        enabled = record { number = is; below_limit = omega arith };
        touches = ap (λ n. Some record { place = callers_place; found = n; left = n + 1 }) (sym is);
      };
  fits = λ log m found shown.
      let is = callers_word v.start v.words log m.lawful.enabled callers_place found shown
      refl in
      let made = made_there v s who log m in omega arith;
}

-- what the maker knows once it entered a caller
pub record Entered (v w : View) (found : ℕ) : Type 0 where
  pub number : found ≡ v.made
  pub low : found < caller_limit
  pub made : w.made ≡ v.made + 1
  pub given : w.given ≡ v.given
  pub who : w.who ≡ Maker

-- a maker that made an Enter has entered the next caller
pub entered : (v w : View) (found : ℕ) → IsSound v → v.who ≡ Maker → Logged v (Enter found) w
    → Entered v w found
entered v w found s who l = grind (arith, made_there)

-- a maker that has a token to give gives it to the caller that it entered last
pub gives_seat : (w : View) → w.who ≡ Maker → w.given < w.made
    → (split_left w ≡ record w { given = w.given + 1 })
    × (split_right w ≡ plain w (CallerOf w.given) [])
gives_seat w who less = grind (arith, nat_tests)

none_held : (held : List HeldRow) (number : ℕ) → ((h : HeldRow) → Among h held → h.caller ≢ number)
    → filter (λ h. h.caller == number) held ≡ []
none_held [] number out = refl
none_held (h ∷ held) number out =
    at (none_held held number (λ g i. out g (inr i))) (eqb_tells h.caller number)
  where
    at : filter (λ h. h.caller == number) held ≡ []
        → (((h.caller == number) ≡ true) × (h.caller ≡ number))
        ⊎ (((h.caller == number) ≡ false) × (h.caller ≢ number))
        → filter (λ h. h.caller == number) (h ∷ held) ≡ []
    at rest (inl k) = absurd (out h (inl refl) k.1)
    at rest (inr k) = grind arith

-- a caller that was not given a token before holds no row
pub new_holds_none : (w : View) (number : ℕ) → IsSound w → w.who ≡ Maker → w.given ≤ number
    → held_by (now w) number ≡ []
new_holds_none w number s who above =
    none_held (now w).held number (idle_holds w.start w.words w.log number s.lawful.enabled
    (s.is_true.idle who number above))

-- what the maker that has entered a caller and its token are, once they are split
pub record Parts (v : View) (number : ℕ) (left right : View) : Type 0 where
  pub entered : HasEntered v number left
  pub token : right ≡ plain left (CallerOf number) []
  pub idle : IsIdleIn (CallerOf number) right.log
  pub held : held_by (now right) number ≡ []

no_rows : (kind : Kind) (base : ℕ)
    → row_of kind record { leaf = None; pair = None; change = None; rebuild = None } ≡ Some base → ⊥
no_rows Leaf base e = cc
no_rows Pair base e = cc
no_rows Change base e = cc
no_rows Rebuild base e = cc

module _ (v w : View) (number : ℕ) (s : IsSound v) (who : v.who ≡ Maker) (all : v.given ≡ v.made)
    (l : Logged v (Enter number) w) (sound : IsSound w) where
  maker : w.who ≡ Maker
  maker = ap (λ x. x.who) l.view ∙ who

  -- the token that the maker gives next is the caller's
  given : w.given ≡ number
  given = let e = entered v w number s who l in omega arith

  gives : (split_left w ≡ record w { given = w.given + 1 }) × (split_right w ≡ plain w (CallerOf number) [])
  gives = grind (arith, entered, gives_seat, maker, given)

  none_held_yet : held_by (now w) number ≡ []
  none_held_yet = let same = given in new_holds_none w number sound maker (omega arith)

  -- the two parts of a maker that has entered a caller
  pub parts : (left right : View) → left ≡ split_left w → right ≡ split_right w
      → Parts v number left right
  parts left right left_is right_is = grind (arith, given, entered, maker, none_held_yet)

  -- the caller that is given its token holds no row
  pub new_caller : (c : Caller) → c.token.view ≡ split_right w → c.number ≡ number
      → spares_of c ≡ record { leaf = None; pair = None; change = None; rebuild = None } → IsCaller c
  new_caller c view is none =
      let same : c.token.view ≡ plain w (CallerOf number) [] = view ∙ gives.1 in
      let held : held_by (now c.token.view) c.number ≡ [] = ap₂ held_by (ap now same) is ∙ none_held_yet in
      record {
        mine = ap (λ x. x.who) same ∙ ap CallerOf (sym is);
        rows = λ kind base e. absurd (no_rows kind base (sym (ap (row_of kind) none) ∙ e));
        builds = subst (λ xs. AreBuilds (now c.token.view)
            (map (λ h. h.size) (filter (λ h. not (is_spare (spares_of c) h.base)) xs))) (sym held)
            no_build;
      }
