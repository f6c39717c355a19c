-- A caller that takes a row of a kind. Serves `take`.
use Rattle.std.proofs.Common.{◌≡◌, ℕ, ◌≤◌, ◌⊎◌, Option, Some, None, Result, Ok, Err, IfSome, IfOk, IfErr, refl, ap, arith}
use Rattle.ist_core.specs.declared.ports.Full.{Full}
use Rattle.ist_rule.specs.RuleTerms.{now, GoesOnTo, IsSound, WentOn}
use Rattle.ist_rule.specs.declared.view.View.{View}
use Rattle.ist_rule.proofs.EventLemmas.{goes_on_same}
use Rattle.ist_rule.proofs.LaterLemmas.{later-goes_on}
use Rattle.ist_rule.proofs.WentOnLemmas.{goes_on_went}
use Rattle.ist_rows.specs.RowTerms.{HasRefused, kind_words, Spares, spares_of, row_of, with_spare, IsCaller, Reserved, IsFreshRow, IsKindRefused, HasGone}
use Rattle.ist_rows.specs.declared.callers.Caller.{Caller}
use Rattle.ist_rows.specs.declared.kinds.Kind.{Kind}
use Rattle.ist_rows.specs.declared.kinds.Kind.TheVariants.{Leaf, Pair as PairKind, Change, Rebuild}
use Rattle.ist_rows.proofs.HeldAfterLemmas.{after_between}
use Rattle.ist_rebuild.proofs.NeedLemmas.{lacks_now, refused_lacks}
use Rattle.ist_updates.specs.Changing.{IsRowShort, Prepares}
use Rattle.ist_rows.proofs.ReserveLemmas.{reserved_went, took}
use Rattle.ist_rows.proofs.CallerLawLemmas.{refused_as, refused_beside}
use Rattle.ist_rows.proofs.GoneLemmas.{loads_gone}
use Rattle.ist_rows.proofs.ShortLemmas.{short_from, short_goes_on}

-- a row that was reserved lies above all that was used before
reserved_high : (v : View) (number base size : ℕ) (w : View) → Reserved v number base size w
    → (now v).next ≤ base
reserved_high v number base size w r = grind (arith, took, after_between, later-goes_on)

-- ---- what a reservation returns

-- what a call that reserves promises
pub record HasReservedKind (old new : Caller) (kind : Kind) (words : ℕ) (answer : Result ℕ Full)
    : Type 0 where
  pub caller : IsCaller new
  pub number : new.number ≡ old.number
  pub held : IfSome (row_of kind (spares_of old)) (λ base. (answer ≡ Ok base) × (new ≡ old))
  pub fresh : IsFreshRow kind old new answer
  pub full : IfErr answer (λ full. IsKindRefused words kind old new full)

-- what a taken row promises
pub record HasTakenKind (old new : Caller) (kind : Kind) (words : ℕ) (answer : Result ℕ Full)
    : Type 0 where
  pub gone : HasGone Prepares old new
  pub held : IfOk answer (λ base. row_of kind (spares_of new) ≡ Some base)
  pub rows : IfOk answer (λ base. spares_of new ≡ with_spare kind base (spares_of old))
  pub high : IfOk answer (λ base. (row_of kind (spares_of old) ≡ Some base)
      ⊎ ((now old.token.view).next ≤ base))
  pub full : IfErr answer (λ full.
      IsRowShort (λ asked. asked ≡ kind_words kind) old.token.view words full new.token.view)

-- a row that was there is the row of its kind
with_same : (own : Spares) (kind : Kind) (base : ℕ) → row_of kind own ≡ Some base
    → own ≡ with_spare kind base own
with_same own Leaf base e = ap {B = Spares} (λ o. record own { leaf = o }) e
with_same own PairKind base e = ap {B = Spares} (λ o. record own { pair = o }) e
with_same own Change base e = ap {B = Spares} (λ o. record own { change = o }) e
with_same own Rebuild base e = ap {B = Spares} (λ o. record own { rebuild = o }) e

row_with : (own : Spares) (kind : Kind) (base : ℕ) → row_of kind (with_spare kind base own) ≡ Some base
row_with own Leaf base = refl
row_with own PairKind base = refl
row_with own Change base = refl
row_with own Rebuild base = refl

module _ (old new : Caller) (kind : Kind) (words : ℕ) (c : IsCaller old) (refused : HasRefused old)
    (s : IsSound old.token.view) where
  -- a refused one left all as it was
  gone_refused : IsCaller new → new.number ≡ old.number → (full : Full)
      → IsKindRefused words kind old new full → HasGone Prepares old new
  gone_refused caller number full f = let v = old.token.view in
      let g = short_goes_on v words full new.token.view f.cause in
      let it = loads_gone Prepares old new.token c refused g in record {
        caller = caller;
        number = number;
        refused = grind (arith, refused_as);
        went = it.went;
      }

  of_answer : (o : Option ℕ) → row_of kind (spares_of old) ≡ o → (answer : Result ℕ Full)
      → IsCaller new → new.number ≡ old.number
      → IfSome o (λ base. (answer ≡ Ok base) × (new ≡ old)) → IsFreshRow kind old new answer
      → IfErr answer (λ full. IsKindRefused words kind old new full)
      → HasTakenKind old new kind words answer
  of_answer (Some base) e answer caller number held fresh full =
      grind (arith, goes_on_went, goes_on_same, with_same)
  of_answer None e (Ok base) caller number held fresh full =
      grind (arith, refused_beside, reserved_went, row_with, reserved_high)
  of_answer None e (Err full) caller number held fresh f =
      let gone = gone_refused caller number full f in record {
        gone = gone;
        held = tt;
        rows = tt;
        high = tt;
        full = short_from GoesOnTo (WentOn Prepares) old.token.view old.token.view
            (λ x. goes_on_went Prepares old.token.view x) words full new.token.view f.cause
            (λ is. grind (arith, lacks_now, refused_lacks));
      }

  -- so the taken row promises
  pub taken : (answer : Result ℕ Full) → HasReservedKind old new kind words answer
      → HasTakenKind old new kind words answer
  taken answer r =
      of_answer (row_of kind (spares_of old)) refl answer r.caller r.number r.held r.fresh r.full
