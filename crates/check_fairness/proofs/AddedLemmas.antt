-- What holds of a list to which something was added, once or several times. Serves `fairness.rt`.
use Rattle.std.proofs.Common.{◌↔◌, ◌≡◌, ◌⊎◌, Bool, true, false, not, refl, sym, inl, ⊎_elim, true≢false, arith}

-- what was added in two steps, and in three
pub two_added : {A B C X Y G : Type 0} → (B ↔ (A ⊎ X)) → (C ↔ (B ⊎ Y)) → (G ↔ (X ⊎ Y)) → C ↔ (A ⊎ G)
two_added b c g = grind arith

-- three facts added one after another are added together
pub three_added : {A B C D X Y Z G : Type 0} → (B ↔ (A ⊎ X)) → (C ↔ (B ⊎ Y)) → (D ↔ (C ⊎ Z))
    → (G ↔ (X ⊎ (Y ⊎ Z))) → D ↔ (A ⊎ G)
three_added {A} {B} {C} {D} {X} {Y} {Z} {G} b c d g = grind (arith, two_added)

-- what adds nothing
pub none_added : {A X : Type 0} → ¬ X → A ↔ (A ⊎ X)
none_added none = (inl, (λ k. ⊎_elim (λ a. a) (λ x. absurd (none x)) k))

-- what adds something else that says the same
pub other_added : {A B X Y : Type 0} → (B ↔ (A ⊎ X)) → (X ↔ Y) → B ↔ (A ⊎ Y)
other_added b i = grind arith

-- what was added to what says the same as a part of the whole
pub more_added : {A B C D X : Type 0} → (B ↔ (A ⊎ X)) → (A ↔ C) → (D ↔ (C ⊎ X)) → B ↔ D
more_added b a d = grind arith
