-- Words that a caller stores one after another into a row. Serves `fill_row` and its callers.
use Rattle.std.proofs.Common.{◌≡◌, ◌≢◌, ℕ, zero, suc, ◌+◌, ◌<◌, List, [], ◌∷◌, ◌++◌, length, take, get_or, Some, refl, sym, ap, ◌∙◌, arith}
use Rattle.std.proofs.lemmas.List.{take_more, length-take-le}
use Rattle.ist_core.specs.TreeTerms.{Apart}
use Rattle.ist_rule.specs.RuleTerms.{storing, own_at}
use Rattle.ist_rule.specs.declared.view.OwnWord.{OwnWord}
use Rattle.ist_rule.proofs.StoreLemmas.{own_here, own_else}
use Rattle.ist_rows.specs.RowTerms.{Caller, storing_all, with_own, filled_with, StandAt}

-- storing one word more, after the others
storing_all-more : (own : List OwnWord) (place : ℕ) (words : List ℕ) (word : ℕ)
    → storing_all own place (words ++ word ∷ [])
    ≡ record { place = place + length words; word = word } ∷ storing_all own place words
storing_all-more own place [] word = grind arith
storing_all-more own place (x ∷ xs) word =
    storing_all-more (record { place = place; word = x } ∷ own) (place + 1) xs word
    ∙ ap {B = List OwnWord}
    (λ p. record { place = p; word = word }
    ∷ storing_all (record { place = place; word = x } ∷ own) (place + 1) xs)
    (let same : place + 1 + length xs ≡ place + length (x ∷ xs) = omega arith in same)

-- a word elsewhere is as it was
pub stored_else : (own : List OwnWord) (place : ℕ) (words : List ℕ) (other : ℕ)
    → ((k : ℕ) → k < length words → place + k ≢ other)
    → own_at (storing_all own place words) other ≡ own_at own other
stored_else own place [] other out = refl
stored_else own place (word ∷ words) other out =
    stored_else (record { place = place; word = word } ∷ own) (place + 1) words other
    (λ k less e. out (suc k) (omega arith)
    (let same : place + suc k ≡ place + 1 + k = omega arith in same ∙ e))
    ∙ own_else own place word other
    (λ e. out 0 (omega arith) (let same : place + 0 ≡ place = omega arith in same ∙ e))

-- the words that were stored are there
pub stored_at : (own : List OwnWord) (place : ℕ) (words : List ℕ)
    → StandAt (storing_all own place words) place words
stored_at own place [] k less = absurd (omega arith)
stored_at own place (word ∷ words) zero less = grind (arith, stored_else, own_here)
stored_at own place (word ∷ words) (suc k) less =
    stored_at (record { place = place; word = word } ∷ own) (place + 1) words k (omega arith)
    ∙ ap (λ p. Some (own_at (storing_all (record { place = place; word = word } ∷ own) (place + 1)
    words) p))
    (let same : place + 1 + k ≡ place + suc k = omega arith in same)

-- a caller that has stored the first words, and then the next, has stored one more
pub stored_step : (old who new : Caller) (base at i : ℕ) (words : List ℕ) → i < length words
    → at ≡ i → who ≡ filled_with old base (take i words)
    → new ≡ record who {
      token = record who.token { view = storing who.token.view (base + at) (get_or words i 0) };
    }
    → new ≡ filled_with old base (take (i + 1) words)
stored_step old who new base at i words less at_is was is = let x : ℕ = get_or words i 0 in
    let before : List OwnWord = storing_all old.token.view.own base (take i words) in
    let place : base + at ≡ base + length (take i words) =
    let all : length (take i words) ≡ i = length-take-le i words (omega arith) in omega arith in
    let owns : record { place = base + at; word = x } ∷ before
    ≡ storing_all old.token.view.own base (take (i + 1) words) =
    ap {B = List OwnWord} (λ p. record { place = p; word = x } ∷ before) place
    ∙ sym (storing_all-more old.token.view.own base (take i words) x)
    ∙ ap (storing_all old.token.view.own base) (sym (take_more words i 0 less)) in
    is
    ∙ ap {B = Caller} (λ (c : Caller). record c {
      token = record c.token { view = storing c.token.view (base + at) x };
    }) was
    ∙ ap {B = Caller} (with_own old) owns

-- stored words stay stored when others are stored apart from them
pub stored_first : (own : List OwnWord) (place : ℕ) (words : List ℕ) (far : ℕ) (more : List ℕ)
    → Apart place (length words) far (length more)
    → StandAt (storing_all (storing_all own place words) far more) place words
stored_first own place words far more apart k less = grind (arith, stored_at, stored_else)

-- a caller that has filled one row and then another
pub filled_twice : (old mid who : Caller) (a b : ℕ) (xs ys : List ℕ) → mid ≡ filled_with old a xs
    → who ≡ filled_with mid b ys → who ≡ filled_with (filled_with old a xs) b ys
filled_twice old mid who a b xs ys first second = grind arith
