-- What a table says after an insertion. Serves `remembering.rt`.
use Rattle.std.proofs.Common.{◌≡◌, ◌≢◌, ◌↔◌, ◌∙◌, ◌≤◌, ◌<◌, ◌^◌, ◌⊎◌, ℕ, [], true, false, eqb, max, ◌∷◌, Option, Some, None, IfSome, Result, Ok, Err, OnOk, refl, sym, ap, subst, inl, inr, ⊎_elim, arith}
use Rattle.std.proofs.lemmas.Bool.Decides.{eqb_tells, leb_tells}
use Rattle.std.proofs.lemmas.Grind.{common_steps}
use Rattle.std.specs.Ordering.{nat_cmp}
use Rattle.std.specs.BTreeMap as tree
use Rattle.std.specs.BTreeMap.{BTreeMap}
use Rattle.std.specs.BTreeSet.{BTreeSet}
use Rattle.ist_core.specs.declared.events.Event.{Event}
use Rattle.ist_core.specs.declared.events.Event.TheVariants.{Enter, Reserve, Install, Okay, Decide, Resolve, Count, Mark, Pass, Finish, Root, Draw, Place, Lose}
use Rattle.ist_core.specs.LogTerms.{Log, Happened, Draws, Passes}
use Rattle.check_fairness.specs.Answers.{FindsGreatest, Holds}
use Rattle.check_events.specs.Remembering.{pair_key, KnowsDraws, KnowsPasses}
use Rattle.check_builds.specs.Passed.{PassesAreOne}

module _ {X : Type 0} (m n : BTreeMap ℕ X) (k : ℕ) (v : X) (u : tree.Updates nat_cmp m n k (Some v))
  where
    -- the key has the value
    pub updated_here : tree.get nat_cmp n k ≡ Some v
    updated_here = u.1

    -- other keys have what they had
    pub updated_other : (q : ℕ) → q ≢ k → tree.get nat_cmp n q ≡ tree.get nat_cmp m q
    updated_other q ne = grind (arith, common_steps, u.0 q)

-- two pairs of words with the same key are the same
pub pair_once : (a b c d : ℕ) → b < 2 ^ 64 → d < 2 ^ 64 → pair_key a b ≡ pair_key c d → (a ≡ c)
    × (b ≡ d)
pair_once a b c d h k e = (omega arith, omega arith)

-- ---- draws

module _ (m n : BTreeMap ℕ ℕ) (log : Log) (caller rebuild part most : ℕ) (known : KnowsDraws m log)
    (small : rebuild < 2 ^ 64) (known_caller : caller < 2 ^ 64)
    (is_most : FindsGreatest (λ x. Happened (Draws caller rebuild x)
    (Draw caller rebuild part ∷ log)) (Some most)) (u : tree.Updates nat_cmp m n
    (pair_key caller rebuild) (Some most)) where
  -- the map of draws is right after the draw
  pub draw_known : KnowsDraws n (Draw caller rebuild part ∷ log)
  draw_known c o fits fits_too = at (eqb_tells (pair_key c o) (pair_key caller rebuild))
    where
      others : (c ≢ caller) ⊎ (o ≢ rebuild) → (P : Option ℕ) → FindsGreatest
          (λ x. Happened (Draws c o x) log) P
          → FindsGreatest (λ x. Happened (Draws c o x) (Draw caller rebuild part ∷ log)) P
      others ne None h = λ x. λ d. h x (older x d)
        where
          older : (x : ℕ) → Happened (Draws c o x) (Draw caller rebuild part ∷ log)
              → Happened (Draws c o x) log
          older x (inr d) = d
          older x (inl d) = ⊎_elim (λ z. absurd (z (sym d.0))) (λ z. absurd (z (sym d.1))) ne
      others ne (Some y) h = (inr h.0, λ x d. h.1 x (older x d))
        where
          older : (x : ℕ) → Happened (Draws c o x) (Draw caller rebuild part ∷ log)
              → Happened (Draws c o x) log
          older x (inr d) = d
          older x (inl d) = ⊎_elim (λ z. absurd (z (sym d.0))) (λ z. absurd (z (sym d.1))) ne

      differ : pair_key c o ≢ pair_key caller rebuild → (c ≢ caller) ⊎ (o ≢ rebuild)
      differ ne = grind (arith, eqb_tells)

      at : ◌⊎◌ ((eqb (pair_key c o) (pair_key caller rebuild) ≡ true)
          × (pair_key c o ≡ pair_key caller rebuild)) ((eqb (pair_key c o) (pair_key caller rebuild)
          ≡ false) × (pair_key c o ≢ pair_key caller rebuild))
          → FindsGreatest (λ x. Happened (Draws c o x) (Draw caller rebuild part ∷ log))
          (tree.get nat_cmp n (pair_key c o))
      at (inl k) = let same = pair_once c o caller rebuild fits_too small k.1 in
          subst (λ a. FindsGreatest (λ x. Happened (Draws a o x) (Draw caller rebuild part ∷ log))
          (tree.get nat_cmp n (pair_key a o))) (sym same.0)
          (subst (λ b. FindsGreatest (λ x. Happened (Draws caller b x)
          (Draw caller rebuild part ∷ log)) (tree.get nat_cmp n (pair_key caller b)))
          (sym same.1)
          (subst (λ p. FindsGreatest (λ x. Happened (Draws caller rebuild x)
          (Draw caller rebuild part ∷ log)) p)
          (sym (updated_here m n (pair_key caller rebuild) most u)) is_most))
      at (inr k) = grind (arith, others, differ)

-- the greatest part after a draw
pub most_first : (log : Log) (caller rebuild part : ℕ)
    → ((x : ℕ) → ¬ (Happened (Draws caller rebuild x) log))
    → FindsGreatest (λ x. Happened (Draws caller rebuild x) (Draw caller rebuild part ∷ log))
    (Some part)
most_first log caller rebuild part none = (inl (refl, refl, refl), λ x d. at x d)
  where
    at : (x : ℕ) → Happened (Draws caller rebuild x) (Draw caller rebuild part ∷ log) → x ≤ part
    at x (inl d) = let same = d.2 in omega arith
    at x (inr d) = absurd (none x d)

-- after a draw the greatest part is the larger of the drawn part and the greatest before
pub most_later : (log : Log) (caller rebuild part before : ℕ) → FindsGreatest
    (λ x. Happened (Draws caller rebuild x) log) (Some before)
    → FindsGreatest (λ x. Happened (Draws caller rebuild x) (Draw caller rebuild part ∷ log))
    (Some (max before part))
most_later log caller rebuild part before h = ⊎_elim
    (λ k. let low = k.1 in let is : part ≡ max before part = omega arith in (
      inl (refl, refl, is),
      λ x d. ⊎_elim (λ now. let same = now.2 in omega arith)
          (λ old. let most = h.1 x old in omega arith) d,
    ))
    (λ k. let high = k.1 in let is : before ≡ max before part = omega arith in (
      inr (subst (λ y. Happened (Draws caller rebuild y) log) is h.0),
      λ x d.
          ⊎_elim (λ now. let same = now.2 in omega arith) (λ old. let most = h.1 x old in omega arith)
          d,
    ))
    (leb_tells before part)

-- an event that is no draw draws nothing
no_draw : (event : Event) → ((c o p : ℕ) → event ≢ Draw c o p) → (caller rebuild part : ℕ)
    → ¬ (Draws caller rebuild part event)
no_draw (Draw c o p) other caller rebuild part happens = absurd (other c o p refl)
no_draw _ other caller rebuild part happens = happens

-- after another event the map of draws stays right
pub draws_kept : (m : BTreeMap ℕ ℕ) (log : Log) (event : Event) → ((c o p : ℕ) → event ≢ Draw c o p)
    → KnowsDraws m log → KnowsDraws m (event ∷ log)
draws_kept m log event other known caller rebuild fits fits_too = at
    (tree.get nat_cmp m (pair_key caller rebuild)) (known caller rebuild fits fits_too)
  where
    older : (x : ℕ) → Happened (Draws caller rebuild x) (event ∷ log)
        → Happened (Draws caller rebuild x) log
    older x (inl now) = absurd (no_draw event other caller rebuild x now)
    older x (inr before) = before

    at : (o : Option ℕ) → FindsGreatest (λ x. Happened (Draws caller rebuild x) log) o
        → FindsGreatest (λ x. Happened (Draws caller rebuild x) (event ∷ log)) o
    at None h = λ x d. h x (older x d)
    at (Some y) h = (inr h.0, λ x d. h.1 x (older x d))

-- ---- passes

-- an event that is no pass passes nothing
pub no_pass : (event : Event) → ((c n i w : ℕ) → event ≢ Pass c n i w) → (node index word : ℕ)
    → ¬ (Passes node index word event)
no_pass (Pass c n i w) other node index word happens = absurd (other c n i w refl)
no_pass _ other node index word happens = happens

-- after another event the map of passes stays right
pub passes_kept : (m : BTreeMap ℕ ℕ) (log : Log) (event : Event)
    → ((c n i w : ℕ) → event ≢ Pass c n i w) → KnowsPasses m log → KnowsPasses m (event ∷ log)
passes_kept m log event other known node i word fits fits_too =
    let it = known node i word fits fits_too in (
      (λ e. inr (it.0 e)),
      (λ d. grind (arith, no_pass)),
    )

module _ (m n : BTreeMap ℕ ℕ) (log : Log) (caller node index word : ℕ) (known : KnowsPasses m log)
    (small : index < 2 ^ 64)
    (one : PassesAreOne (Pass caller node index word ∷ log)) (u : tree.Updates nat_cmp m n
    (pair_key node index) (Some word)) where
  -- the map of passes is right after the pass
  pub pass_known : KnowsPasses n (Pass caller node index word ∷ log)
  pass_known a i w fits fits_too = at (eqb_tells (pair_key a i) (pair_key node index))
    where
      now : (a ≡ node) × (i ≡ index) → (tree.get nat_cmp n (pair_key a i) ≡ Some w)
          ↔ Happened (Passes a i w) (Pass caller node index word ∷ log)
      now same =
          let here : tree.get nat_cmp n (pair_key a i) ≡ Some word = ap
          (λ x. tree.get nat_cmp n (pair_key x i)) same.0
          ∙ ap (λ y. tree.get nat_cmp n (pair_key node y)) same.1 ∙ updated_here m n
          (pair_key node index) word u in (
            (λ e. grind arith),
            (λ d. here ∙ ap (λ x. Some x) (one a i word w (inl (sym same.0, sym same.1, refl)) d)),
          )

      other : pair_key a i ≢ pair_key node index → (tree.get nat_cmp n (pair_key a i) ≡ Some w)
          ↔ Happened (Passes a i w) (Pass caller node index word ∷ log)
      other ne = let same = updated_other m n (pair_key node index) word u (pair_key a i) ne in
          let it = known a i w fits fits_too in (
            (λ e. inr (it.0 (sym same ∙ e))),
            (λ d. grind arith),
          )

      at : ◌⊎◌ ((eqb (pair_key a i) (pair_key node index) ≡ true)
          × (pair_key a i ≡ pair_key node index))
          ((eqb (pair_key a i) (pair_key node index) ≡ false)
          × (pair_key a i ≢ pair_key node index))
          → (tree.get nat_cmp n (pair_key a i) ≡ Some w) ↔ Happened (Passes a i w)
          (Pass caller node index word ∷ log)
      at (inl k) = now (pair_once a i node index fits_too small k.1)
      at (inr k) = other k.1

-- ---- outcomes

-- an empty set holds nothing
pub holds_none : (set : BTreeSet ℕ) (x : ℕ) → set.keys ≡ [] → ¬ (Holds set x)
holds_none set x empty h = grind arith
