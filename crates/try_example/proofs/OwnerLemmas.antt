-- What a worker that alone changes a key was told about it. Serves `serve_owner`.
use Rattle.std.proofs.Common.{◌≡◌, ◌∙◌, ℕ, zero, suc, List, [], ◌∷◌, ◌++◌, map, filter, Option, slice_index_or, refl, sym, ap, subst, All}
use Rattle.std.proofs.lemmas.List.Elements.{All-head, All-tail}
use Rattle.std.specs.FinMap as fin
use Rattle.ist_core.specs.declared.commands.Command.{Command}
use Rattle.ist_core.specs.TreeTerms.{map_of}
use Rattle.ist_core.specs.LogTerms.{Answered}
use Rattle.ist_rest.proofs.WholeLemmas.{same_pairs}
use Rattle.ist_map.specs.Owning.{OnlyGets, OwnersReadBack, ReadBack, is_about}
use Rattle.ist_map.specs.Running.{IsOneHistory}
use Rattle.ist_map.specs.Scripts.{told_in}
use Rattle.try_example.specs.Owners.{ReadsOwn}

-- without replies nothing was told
pub told_none : (commands : List Command) (replies : List (Option ℕ)) → replies ≡ []
    → told_in commands replies ≡ []
told_none commands replies none = ap (told_in commands) none ∙ unanswered commands
  where
    unanswered : (cs : List Command) → told_in cs [] ≡ []
    unanswered [] = refl
    unanswered (c ∷ cs) = refl

-- if no worker was told anything, none of any number was
pub none_told : {H : Type 0} (told : H → List Answered) (xs : List H)
    → All (λ h. told h ≡ []) xs → (number : ℕ) → slice_index_or (map told xs) number [] ≡ []
none_told told [] all number = refl
none_told told (x ∷ xs) all zero = All-head (λ h. told h ≡ []) x xs all
none_told told (x ∷ xs) all (suc number) =
    none_told told xs (All-tail (λ h. told h ≡ []) x xs all) number

-- in a history in which all others only get the key, its owner reads back
pub reads_own : (first last : List ℕ) (before after : List (List Answered)) (key : ℕ)
    → IsOneHistory first last before after
    → ((number : ℕ) → slice_index_or before number [] ≡ []) → OwnersReadBack
    → ReadsOwn first key after
reads_own first last before after key h fresh law owner gets pairs held =
    subst (λ ps. ReadBack (fin.get (map_of ps) key)
    (filter (is_about key) (slice_index_or after owner [])))
    (same_pairs first h.began pairs h.began_held held)
    (subst (λ ts. ReadBack (fin.get (map_of h.began) key) (filter (is_about key) ts))
    (sym (told owner))
    (law (map_of h.began) h.told h.history h.legal h.made key owner
    (λ other ne. subst (OnlyGets key) (told other) (gets other ne))))
  where
    told : (number : ℕ) → slice_index_or after number [] ≡ h.told number
    told number = h.told_are number ∙ ap (λ ts. ts ++ h.told number) (fresh number)
