-- What a start takes, and what it still needs. Serves `start` and the crates above.
use Rattle.std.proofs.Common.{◌≡◌, ℕ, ◌+◌, ◌≤◌, Some, None, Result, Ok, IfSome, IfErr, refl, sym, ap, ◌∙◌, subst, inl, inr, arith, List, [], ◌∷◌, map, filter, Bool}
use Rattle.ist_core.specs.declared.events.Who.TheVariants.{Caller as CallerOf}
use Rattle.ist_core.specs.declared.ports.Full.{Full}
use Rattle.ist_core.specs.declared.lists.HeldRow.{HeldRow}
use Rattle.ist_core.specs.declared.events.Event.{Event}
use Rattle.ist_core.specs.declared.events.Event.TheVariants.{Reserve, Install, Okay, Decide, Resolve}
use Rattle.ist_core.specs.LogTerms.{Among}
use Rattle.ist_core.specs.WordTerms.{change_words, rebuild_words, InnerAt, word_of, start_kind}
use Rattle.ist_rows.specs.RowTerms.{kind_words, IsFreshRow, IsKindRefused, Spares, row_of, spares_of, with_spare, taken_by, HasRefused, IsCaller, build_sizes, held_by, is_spare}
use Rattle.ist_rows.specs.declared.callers.Caller.{Caller}
use Rattle.ist_rows.specs.declared.kinds.Kind.{Kind}
use Rattle.ist_rows.specs.declared.kinds.Kind.TheVariants.{Change, Rebuild}
use Rattle.ist_rows.proofs.ShortLemmas.{short_goes_on}
use Rattle.ist_rows.proofs.FewStepLemmas.{taken_later, taken_reserved}
use Rattle.ist_rebuild.specs.Lacking.{LacksKind, LacksNow, LacksRow}
use Rattle.ist_rebuild.specs.Needs.{TakesNeeded, needed, wanting}
use Rattle.ist_rebuild.specs.Starting.{IsForStart}
use Rattle.ist_rule.specs.RuleTerms.{now, IsSound, number_of, WentOn}
use Rattle.ist_rule.specs.declared.view.View.{View}
use Rattle.ist_rows.proofs.ReserveLemmas.{merge_filter}
use Rattle.ist_rows.proofs.CallerLemmas.{kind_of_words, spare_words}
use Rattle.ist_build.specs.Laying.{IsReservation}
use Rattle.ist_rule.proofs.WentOnLemmas.{goes_on_went, logged_went, went_all, went_more}
use Rattle.ist_dcss.specs.Helping.{Serves, IsDecided}
use Rattle.ist_dcss.specs.Installing.{Filling, rows_of, IsInstalled}
use Rattle.ist_rebuild.specs.Going.{Begins, IsOfKind, StartsAt}

sum_same : (a b n : ℕ) → a ≡ b → a + n ≤ b + n
sum_same a b n e = omega arith

-- a caller that took nothing, and holds the same rows for a start
pub takes_none : (old new : Caller)
    → taken_by old.number new.token.view.log ≡ taken_by old.number old.token.view.log
    → needed new ≡ needed old → TakesNeeded old new
takes_none old new same rows = grind (arith, sum_same)

-- going on twice
pub takes_more : (a b c : Caller) → b.number ≡ a.number → TakesNeeded a b → TakesNeeded b c
    → TakesNeeded a c
takes_more a b c number one two = grind arith

-- a row of this kind is one of a start: it is needed if it isn't held
abbrev pub IsOfStart : Kind → Type 0
IsOfStart kind = (own : Spares) (base : ℕ) → row_of kind own ≡ None
    → wanting own.rebuild rebuild_words + wanting own.change change_words
    ≡ kind_words kind + (wanting (with_spare kind base own).rebuild rebuild_words
    + wanting (with_spare kind base own).change change_words)

-- the rebuild's is
pub rebuild_of_start : IsOfStart Rebuild
rebuild_of_start own base none = grind arith

-- the change's is
pub change_of_start : IsOfStart Change
change_of_start own base none = grind arith

-- reserving a row of a start takes what it needs
pub row_takes : (words : ℕ) (kind : Kind) (old new : Caller) (answer : Result ℕ Full)
    → old.token.view.who ≡ CallerOf old.number → IsOfStart kind
    → IfSome (row_of kind (spares_of old)) (λ base. (answer ≡ Ok base) × (new ≡ old))
    → IsFreshRow kind old new answer → IfErr answer (λ f. IsKindRefused words kind old new f)
    → TakesNeeded old new
row_takes words kind old new answer mine of held fresh full =
    grind (arith, takes_none, taken_reserved, short_goes_on, taken_later)

-- a row of a start that is lacking is needed
pub lacks_needed : (who : Caller) (asked : ℕ) → LacksKind who asked
    → IsForStart asked → asked ≤ needed who
lacks_needed who asked lacks is = grind arith

-- a start needs at most its two rows
pub needed_most : (who : Caller) → needed who ≤ rebuild_words + change_words
needed_most who = grind arith

-- ---- what a caller lacks whose reserving was refused. Serves `start` and the crates above.

-- a caller that was refused a row of a kind has none of it
pub refused_lacks : (words : ℕ) (kind : Kind) (old new : Caller) (full : Full)
    → IsKindRefused words kind old new full → LacksKind new full.asked
refused_lacks words kind old new full r = grind arith

-- a caller that has no row of a kind holds no row of its size, apart from those of refused builds
pub lacks_now : (who : Caller) → IsSound who.token.view → IsCaller who → HasRefused who
    → (asked : ℕ) → LacksKind who asked → LacksNow who.token.view asked
lacks_now who s c refused asked lacks =
    subst (λ n. LacksRow (now who.token.view) n asked) (sym (ap number_of c.mine)) record {
      building = build_sizes (now who.token.view) who.number (spares_of who);
      others = map (λ (h : HeldRow). h.size) spares;
      merge = merge_filter (λ (h : HeldRow). h.size) (λ h. is_spare (spares_of who) h.base)
          (held_by (now who.token.view) who.number);
      stuck = refused;
      none = out spares (λ h i. i);
    }
  where
    spares : List HeldRow
    spares = filter (λ h. is_spare (spares_of who) h.base) (held_by (now who.token.view) who.number)

    none_some : (b : ℕ) → None ≡ Some b → ⊥
    none_some b e = cc

    out : (xs : List HeldRow) → ((h : HeldRow) → Among h xs → Among h spares)
        → ¬ (Among asked (map (λ h. h.size) xs))
    out [] sub i = i
    out (h ∷ xs) sub (inl e) = let v = who.token.view in
        let it = spare_words v.start v.words v.log s.lawful.enabled who.number (spares_of who)
        record { rows = c.rows; builds = c.builds } h (sub h (inl refl)) in
        let kinds = kind_of_words lacks.kind it.0 (sym lacks.asked_is ∙ e ∙ it.2) in
        none_some h.base (sym lacks.none ∙ ap (λ k. row_of k (spares_of who)) kinds ∙ it.1)
    out (h ∷ xs) sub (inr i) = out xs (λ g j. sub g (inr j)) i

-- ---- how a caller goes on while it starts a rebuild. Serves `start`.

-- a reserving begins a start
pub begins_reserving : (event : Event) → IsReservation event → Begins event
begins_reserving (Reserve c base size) is = tt
begins_reserving _ is = absurd is

-- a step of help is a step of a start
pub begins_serving : (change : ℕ) (event : Event) → Serves change event → Begins event
begins_serving change (Okay c other) is = tt
begins_serving change (Decide c other said) is = tt
begins_serving change (Resolve c other) is = tt
begins_serving change _ is = absurd is

-- neither installs a start
pub aims_reserving : (target : ℕ) (event : Event) → IsReservation event → StartsAt target event
aims_reserving target (Reserve c base size) is = tt
aims_reserving target _ is = absurd is

-- a step of help aims at any target
pub aims_serving : (target change : ℕ) (event : Event) → Serves change event → StartsAt target event
aims_serving target change (Okay c other) is = tt
aims_serving target change (Decide c other said) is = tt
aims_serving target change (Resolve c other) is = tt
aims_serving target change _ is = absurd is

-- ---- a start that was put in

-- the change was installed, helped until it was out of its slot, and decided so
pub record HasPutIn (v : View) (change : ℕ) (f : Filling) (said : Bool) (w : View) : Type 0 where
  pub between : View
  pub installed : IsInstalled v change f between
  pub helped : WentOn (Serves change) between w
  pub decided : IsDecided w change said

-- the caller of one that installed a start, and helped it, went on by these events
pub put_went : (P : Event → Type 0) (v : View) (change : ℕ) (f : Filling) (said : Bool) (w : View)
    → HasPutIn v change f said w → ((number : ℕ) → P (Install number change (rows_of f change)))
    → ((event : Event) → Serves change event → P event) → WentOn P v w
put_went P v change f said w h installs serves = let i = h.installed in went_more P v h.between w
    (went_more P v i.before h.between (goes_on_went P v i.before i.seen)
    (logged_went P i.before (Install i.number change (rows_of f change)) h.between i.logged
    (installs i.number) refl))
    (went_all (Serves change) P serves h.between w h.helped)

-- the rows of a start are of its kind
pub begins_installing : (change : ℕ) (f : Filling) → f.change.kind ≡ start_kind
    → IsOfKind start_kind (rows_of f change)
begins_installing change f kind x is = grind arith

-- the install of a start aims at its target
pub aims_installing : (target change : ℕ) (f : Filling) → f.change.from ≡ word_of (InnerAt target)
    → (number : ℕ) → StartsAt target (Install number change (rows_of f change))
aims_installing target change f from number x is kind = grind arith
