-- Opening a table, and closing it. Serves `open_table` and `close`.
use Rattle.std.proofs.Common.{◌≡◌, ◌≢◌, ℕ, zero, suc, List, [], ◌∷◌, refl, sym, ap, ◌∙◌, subst, arith}
use mathlib.Core.Option.{some, some-injective, some-ne-none}
use lib.ListN.{get_elem?}
use mathlib.Core.Option as maybe
use Rattle.atomic_table.specs.Seated.{TableId}
use Rattle.atomic_table.specs.Table.{opening, step, keeps, Allows, Final, Seen}
use Rattle.ist_core.specs.declared.pairs.Pair.{Pair}
use Rattle.ist_core.specs.declared.events.Event.{Event}
use Rattle.ist_core.specs.declared.events.Who.{Who}
use Rattle.ist_core.specs.declared.events.Who.TheVariants.{Caller, Maker, Spent}
use Rattle.ist_core.specs.WordTerms.{start, IsImage}
use Rattle.ist_core.specs.LogTerms.{Each, CanOpen, Lawful, state_of, Log, no_more, one_more, whose, Later, IsIdleIn}
use Rattle.ist_rule.specs.RuleTerms.{TableName, View, About, no_later, IsHeard, KeepsCalls, its_own, noted, IsWellMade, IsTrueIn, IsRetired, IsSound, Fits, Kept, no_table, opened_view, first_view, HasImage, IsLast, IsNewMaker, name_of, Seated, names}
use Rattle.ist_core.specs.TreeTerms.{changes_of, map_after_entries, map_of}
use Rattle.laws_real_time.specs.Joining.{LinearizesTo}
use Rattle.ist_rule.proofs.EventLemmas.{Authored, authored, by_maker, by_caller}
use Rattle.ist_rule.proofs.WatchLemmas.{idle_between}
use Rattle.ist_rule.proofs.SpeakLemmas.{none_linear, working_linear}
use Rattle.ist_rule.proofs.LookLemmas.{quiet, as_view}
use Rattle.ist_rule.proofs.FrameLemmas.{timed_view}
use Rattle.ist_rule.proofs.ViewPartLemmas.{well_made_plain}
use Rattle.ist_rule.proofs.WhoLemmas.{maker_caller, maker_live}

maker_keeps : (number : ℕ) (w : Who) → KeepsCalls number w → w ≡ Maker → ⊥
maker_keeps number _ its_own e = maker_caller number (sym e)
maker_keeps number _ noted e = absurd (cc)

-- the first view by itself
first_well_made : (table : TableName) (pairs : List Pair) (words : ℕ)
    → IsWellMade pairs words (opened_view table pairs words)
first_well_made table pairs words =
    grind (arith, well_made_plain, maker_keeps, maker_caller, none_linear)

-- the first view and the empty log
first_true : (table : TableName) (pairs : List Pair) (words : ℕ)
    → IsTrueIn pairs words [] (opened_view table pairs words)
first_true table pairs words = grind (arith, maker_caller)

only : (v : View) (i : ℕ) (u : View) → get_elem? (v ∷ []) i ≡ some u → (v ≡ u) × (i ≡ 0)
only v zero u e = (some-injective v u e, refl)
only v (suc i) u e = absurd (some-ne-none u (sym e))

-- a new table is under the rule
pub opens : (k : About) (words : List ℕ) {pairs : List Pair} → k.start.value.items ≡ pairs
    → CanOpen pairs k.words → IsImage (start pairs k.words) words
    → Kept k (opening words [] (first_view k))
opens k words same opened of_pairs = let v = first_view k in
    let can = subst (λ p. CanOpen p k.words) (sym same) opened in
    let image = subst (λ p. IsImage (start p k.words) words) (sym same) of_pairs in record {
      log = [];
      lawful = record { opens = can; enabled = tt };
      image = image;
      seats = λ i u at live. subst (Fits k [] words) (only v i u at).0
          record {
            start_is = refl;
            words_is = refl;
            later = no_more;
            owns = λ h i who. absurd i;
            well_made = first_well_made no_table k.start.value.items k.words;
            is_true = first_true no_table k.start.value.items k.words;
          };
      apart = λ i j u x at bt named same. (only v j x bt).1 ∙ sym (only v i u at).1;
      unborn = λ i u at maker number above j x bt is. maker_caller number
          (sym (ap (λ y. y.who) (sym (only v j x bt).0)) ∙ is);
      retired = λ i u at live. subst (λ y. Each (IsRetired (opening words [] v)) y.taken)
          (only v i u at).0 tt;
      moments = [];
      timed = record {
        kept = record {
          well_formed = tt;
          never_fall = tt;
          counted = tt;
          placed = tt;
          began = λ number begun i. absurd (cc);
        };
        working = λ number. idle_between k.start.value.items k.words [] number tt tt;
        heard = λ i u at live. subst (IsHeard []) (only v i u at).0
            record { later = no_later; silent = λ _ n above. tt; taken = tt };
      };
    }

-- ---- the table's name

-- a view fits as well with another name of its table
fits_named : (k : About) (log : Log) (image : List ℕ) (v : View) (table : TableName)
    → Fits k log image v → Fits k log image (record v { table = table })
fits_named k log image v table f = grind arith

-- a load at which a seat learns which table it is of keeps the rule
pub names_moves : (k : About) (slots id : ℕ) (me : Seated) (table : TableName) → me.0.who ≢ Spent
    → Allows (Kept k) slots id me 0 (λ n. n) (names table (step slots 0 0 0 maybe.none) me)
names_moves k slots id me table live s r _ mine fits = let v = me.0 in
    let w : View = record v { table = table } in
    let h = r.timed.heard id v mine live in (
      w,
      keeps,
      tt,
      quiet k s r id v w mine live refl refl refl
          (fits_named k r.log s.words v table (r.seats id v mine live)) r.moments
          (timed_view k r.log r.moments s.views id w r.timed
          record { later = h.later; silent = h.silent; taken = h.taken }) 0,
      (refl, refl),
    )

-- a new table's token knows its table, and else what the first view knows
pub named_view : (k : About) {x y : TableId} {pairs : List Pair} {v w : View}
    → w ≡ record v { table = name_of x } → v ≡ first_view k → k.start.value.items ≡ pairs → x ≡ y
    → w ≡ opened_view (name_of y) pairs k.words
named_view k {x = x} {pairs = pairs} named first same table = grind arith

-- the first view with its table's name is sound
pub opened_sound : (table : TableName) (pairs : List Pair) (words : ℕ) → CanOpen pairs words
    → IsSound (opened_view table pairs words)
opened_sound table pairs words can = grind (arith, opens, maker_live, first_well_made, first_true)

-- an event is made by the maker or by a caller
none_makes : (event : Event) → whose event ≢ Maker → ((number : ℕ) → whose event ≢ Caller number)
    → ⊥
none_makes event ne idle = grind (arith, authored, Authored, by_maker, by_caller)

-- a log without an event of the maker or of a caller is empty
no_event : {log : Log} → Later Maker [] log → ((number : ℕ) → IsIdleIn (Caller number) log)
    → log ≡ []
no_event no_more idle = refl
no_event (one_more event p ne) idle = absurd (none_makes event ne (λ number. (idle number).0))

-- while the maker has entered no caller, the words are the image of the start
pub first_image : (v : View) → IsNewMaker v → HasImage v (start v.start v.words)
first_image v first k s i kept at = let f = kept.seats i v at (λ e. absurd (cc)) in
    let none : kept.log ≡ [] = no_event
    (subst (λ w. Later w [] kept.log) first.maker
    (subst (λ l. Later v.who l kept.log) first.seen f.later))
    (λ number. f.is_true.idle first.maker number
    (let low = (f.is_true.made first.maker).1 in let none = first.made in omega arith)) in
    as_view k kept.log s.words v f (λ p n. IsImage (start p n) s.words)
    (subst (λ l. IsImage (state_of k.start.value.items k.words l) s.words) none kept.image)

-- what the words are after the last step
pub closes : (k : About) (id : ℕ) (v : View) (words : List ℕ) (slots : List (Unit {0}))
    → v.who ≢ Spent → Final (Seen (Kept k) id v) words slots → IsLast v words
closes k id v words slots live fin = let s = fin.0 in let r : Kept k s = fin.1.0 in
    let f = r.seats id v fin.1.1 live in
    let it = as_view k r.log s.words v f (λ p n. Lawful p n r.log
    × IsImage (state_of p n r.log) s.words × IsWellMade p n v × IsTrueIn p n r.log v
    × LinearizesTo (map_of p) r.moments (map_after_entries (map_of p) (changes_of p n r.log))) (
      r.lawful,
      r.image,
      f.well_made,
      f.is_true,
      working_linear k.start.value.items k.words r.log r.moments r.lawful r.timed.kept
          r.timed.working,
    ) in
    record {
      log = r.log;
      later = f.later;
      lawful = it.0;
      is_image = subst (IsImage (state_of v.start v.words r.log)) fin.2 it.1;
      well_made = it.2;
      is_true = it.3;
      moments = r.moments;
      linear = it.4;
      heard = r.timed.heard id v fin.1.1 live;
    }
