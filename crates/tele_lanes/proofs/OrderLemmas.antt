-- Lists that follow another one in order, grown by one element. Serves the calls and answers of a
-- lane.
use Rattle.std.proofs.Common.{◌≡◌, ◌+◌, ◌<◌, ℕ, List, [], ◌∷◌, ◌++◌, length, map, take, get_or, arith}
use Rattle.std.proofs.lemmas.List.{take-map, map_more, map_push, length_push}

-- the first elements of a mapped list, and one more
pub take-map_more : {X Y : Type 0} (f : X → Y) (xs : List X) (i : ℕ) (d : X) → i < length xs
    → take (i + 1) (map f xs) ≡ take i (map f xs) ++ f (get_or xs i d) ∷ []
take-map_more f xs i d h = grind (arith, take-map, map_more)

-- a list that follows the first elements of xs, by g and f, still does with one for the next
-- element
pub follows_push : {X A Y : Type 0} (f : X → Y) (g : A → Y) (xs : List X) (made : List A) (a : A) (i : ℕ) (d : X)
    → length made ≡ i → i < length xs → g a ≡ f (get_or xs i d)
    → map g made ≡ take (length made) (map f xs)
    → map g (made ++ a ∷ []) ≡ take (length (made ++ a ∷ [])) (map f xs)
follows_push f g xs made a i d long h same before =
    grind (arith, map_push, take-map_more, length_push)

-- two lists that f and g see as the same, each with one more that they see as the same
pub map-push_both : {X A Y : Type 0} (f : X → Y) (g : A → Y) (xs longer_xs : List X) (made longer_made : List A) (x : X) (a : A)
    → longer_xs ≡ xs ++ x ∷ [] → longer_made ≡ made ++ a ∷ [] → f x ≡ g a → map f xs ≡ map g made
    → map f longer_xs ≡ map g longer_made
map-push_both f g xs longer_xs made longer_made x a one more same before = grind (arith, map_push)
