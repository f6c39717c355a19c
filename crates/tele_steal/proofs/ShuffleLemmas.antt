-- Parts of a list in another order. Serves the rule over the deque and its passes.
use Rattle.std.proofs.Common.{◌≡◌, List, ◌++◌, IsPermutation, sym, subst, append_assoc}
use Rattle.std.proofs.lemmas.List.Sorted.{IsPermutation-sym, IsPermutation-trans, IsPermutation-append_left, IsPermutation-append_right, IsPermutation-append_comm}

module _ {X : Type 0} where
  -- the second of three parts comes first
  pub second_first : (a b c : List X) → IsPermutation (a ++ (b ++ c)) (b ++ (a ++ c))
  second_first a b c = subst (λ z. IsPermutation z (b ++ (a ++ c))) (append_assoc a b c)
      (subst (λ z. IsPermutation ((a ++ b) ++ c) z) (append_assoc b a c)
      (IsPermutation-append_left c (a ++ b) (b ++ a) (IsPermutation-append_comm a b)))

  -- one more after both: it may join the first of two parts
  pub joins_first : (put a b x : List X) → IsPermutation put (a ++ b)
      → IsPermutation (put ++ x) ((a ++ x) ++ b)
  joins_first put a b x same = IsPermutation-trans (put ++ x) ((a ++ b) ++ x) ((a ++ x) ++ b)
      (IsPermutation-append_left x put (a ++ b) same)
      (subst (λ z. IsPermutation z ((a ++ x) ++ b)) (sym (append_assoc a b x))
      (subst (λ z. IsPermutation (a ++ (b ++ x)) z) (sym (append_assoc a x b))
      (IsPermutation-append_right a (b ++ x) (x ++ b) (IsPermutation-append_comm b x))))

  -- the head of the first of three parts goes after the second
  pub joins_second : (put x a b c : List X) → IsPermutation put ((x ++ a) ++ (b ++ c))
      → IsPermutation put (a ++ ((b ++ x) ++ c))
  joins_second put x a b c same =
      IsPermutation-trans put ((x ++ a) ++ (b ++ c)) (a ++ ((b ++ x) ++ c)) same
      (subst (λ z. IsPermutation z (a ++ ((b ++ x) ++ c))) (sym (append_assoc x a (b ++ c)))
      (IsPermutation-trans (x ++ (a ++ (b ++ c))) (a ++ (x ++ (b ++ c))) (a ++ ((b ++ x) ++ c))
      (second_first x a (b ++ c))
      (IsPermutation-append_right a (x ++ (b ++ c)) ((b ++ x) ++ c)
      (subst (λ z. IsPermutation (x ++ (b ++ c)) z) (sym (append_assoc b x c))
      (second_first x b c)))))

  -- what leads the first of three parts goes before the third
  pub joins_third : (put x a b c d : List X) → IsPermutation (x ++ c) d
      → IsPermutation put ((x ++ a) ++ (b ++ c)) → IsPermutation put (a ++ (b ++ d))
  joins_third put x a b c d third same =
      IsPermutation-trans put (a ++ ((b ++ x) ++ c)) (a ++ (b ++ d)) (joins_second put x a b c same)
      (subst (λ z. IsPermutation (a ++ z) (a ++ (b ++ d))) (sym (append_assoc b x c))
      (IsPermutation-append_right a (b ++ (x ++ c)) (b ++ d)
      (IsPermutation-append_right b (x ++ c) d third)))

  -- the head of the third of three parts goes after the second
  pub third_to_second : (put a b c d w : List X) → IsPermutation c (w ++ d)
      → IsPermutation put (a ++ (b ++ c)) → IsPermutation put (a ++ ((b ++ w) ++ d))
  third_to_second put a b c d w third same =
      IsPermutation-trans put (a ++ (b ++ c)) (a ++ ((b ++ w) ++ d)) same
      (subst (λ z. IsPermutation (a ++ (b ++ c)) (a ++ z)) (sym (append_assoc b w d))
      (IsPermutation-append_right a (b ++ c) (b ++ (w ++ d))
      (IsPermutation-append_right b c (w ++ d) third)))

  -- one part grows, beside the same others
  pub moves : (took xs before after rest : List X) → IsPermutation before (took ++ rest)
      → IsPermutation after ((took ++ xs) ++ rest) → IsPermutation (xs ++ before) after
  moves took xs before after rest was is =
      IsPermutation-trans (xs ++ before) (xs ++ (took ++ rest)) after
      (IsPermutation-append_right xs before (took ++ rest) was)
      (IsPermutation-trans (xs ++ (took ++ rest)) (took ++ (xs ++ rest)) after
      (second_first xs took rest)
      (subst (λ z. IsPermutation z after) (append_assoc took xs rest)
      (IsPermutation-sym after ((took ++ xs) ++ rest) is)))

  -- the last of what is left goes over to the rest
  pub one_over : (all a b l rest x : List X) → IsPermutation all (a ++ l) → l ≡ rest ++ x
      → IsPermutation (a ++ x) b → IsPermutation all (b ++ rest)
  one_over all a b l rest x same is over = IsPermutation-trans all (a ++ (x ++ rest)) (b ++ rest)
      (IsPermutation-trans all (a ++ (rest ++ x)) (a ++ (x ++ rest))
      (subst (λ z. IsPermutation all (a ++ z)) is same)
      (IsPermutation-append_right a (rest ++ x) (x ++ rest) (IsPermutation-append_comm rest x)))
      (subst (λ z. IsPermutation z (b ++ rest)) (append_assoc a x rest)
      (IsPermutation-append_left rest (a ++ x) b over))
