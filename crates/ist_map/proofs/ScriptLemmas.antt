-- Commands with their replies, and with one reply more. Serves `Script`.
use Rattle.std.proofs.Common.{◌≡◌, ℕ, ◌<◌, List, [], ◌∷◌, ◌++◌, length, Option, slice_index_or, refl, ap, arith}
use Rattle.std.proofs.lemmas.List.{append_assoc}
use Rattle.ist_core.specs.declared.commands.Command.{Command}
use Rattle.ist_core.specs.LogTerms.{Answered, told}
use Rattle.ist_map.specs.Scripts.{told_in}

-- one reply more is one answered command more
pub told_in-push : (commands : List Command) (replies : List (Option ℕ)) (reply : Option ℕ)
    (d : Command) → length replies < length commands → told_in commands (replies ++ reply ∷ [])
    ≡ told_in commands replies ++ told (slice_index_or commands (length replies) d) reply ∷ []
told_in-push [] replies reply d low = absurd (omega arith)
told_in-push (c ∷ cs) [] reply d low = none cs
  where
    none : (cs : List Command) → told c reply ∷ told_in cs [] ≡ told c reply ∷ []
    none [] = refl
    none (x ∷ cs) = refl
told_in-push (c ∷ cs) (r ∷ replies) reply d low =
    ap (λ ts. told c r ∷ ts) (told_in-push cs replies reply d (omega arith))

-- if one command more has its reply, what was told is what had been told, and then this reply
pub told_more : (commands : List Command) (replies after : List (Option ℕ)) (reply : Option ℕ)
    (command : Command) (before old new : List Answered) → after ≡ replies ++ reply ∷ []
    → length replies < length commands → slice_index_or commands (length replies) command ≡ command
    → told_in commands replies ≡ before ++ old → new ≡ old ++ told command reply ∷ []
    → told_in commands after ≡ before ++ new
told_more commands replies after reply command before old new items low is was added =
    grind (arith, told_in-push, append_assoc)
