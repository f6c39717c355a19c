-- What commands leave of a map, and replies to lists of commands. Serves the laws on histories.
use Rattle.std.proofs.Common.{◌≡◌, ℕ, false, List, [], ◌∷◌, ◌++◌, map, is_some, Option, Some, None, refl, sym, ◌∙◌, ⊎_elim, arith}
use Rattle.std.proofs.lemmas.Bool.Decides.{nat_tests, eqb_tells}
use Rattle.std.proofs.lemmas.List.{map-append}
use Rattle.std.specs.Cmp.{nat_cmp_total}
use Rattle.std.specs.FinMap as fin
use Rattle.std.specs.FinMap.{gets, same_map, nat_cmp-IsAntisymmetric}
use Rattle.ist_core.specs.declared.commands.Command.{Command}
use Rattle.ist_core.specs.declared.commands.Command.TheVariants.{Put, Remove, Get}
use Rattle.ist_core.specs.TreeTerms.{Map, map_after, reply_to, replay, Entry, map_after_entries, makes_entry}
use Rattle.ist_core.specs.LogTerms.{Answered, told_by_entry, IsLegal}
use Rattle.laws_histories.specs.Telling.{AreLegal}

-- ---- lists of commands

-- the map after two lists of commands is the map after the second on the map after the first
pub replay-append : (m : Map) (xs ys : List Command) → replay m (xs ++ ys) ≡ replay (replay m xs) ys
replay-append m [] ys = refl
replay-append m (x ∷ xs) ys = replay-append (map_after m x) xs ys

-- ---- legal histories

-- equal lists have equal heads
pub same_head : (a b : Option ℕ) (xs ys : List (Option ℕ)) → a ∷ xs ≡ b ∷ ys → a ≡ b
same_head a b xs ys e = cc

-- equal lists have equal tails
pub same_tail : (a b : Option ℕ) (xs ys : List (Option ℕ)) → a ∷ xs ≡ b ∷ ys → xs ≡ ys
same_tail a b xs ys e = cc

-- equal heads and tails make equal lists
pub same_cons : (a b : Option ℕ) (xs ys : List (Option ℕ)) → a ≡ b → xs ≡ ys → a ∷ xs ≡ b ∷ ys
same_cons a b xs ys e f = λ i. e i ∷ f i

-- the map after a history
abbrev pub map_told : Map → List Answered → Map
map_told m history = replay m (map (λ told. told.command) history)

-- a legal history, and one that is legal on the map after it, are one legal history
pub legal_append : (m : Map) (xs ys : List Answered) → IsLegal m xs → IsLegal (map_told m xs) ys
    → IsLegal m (xs ++ ys)
legal_append m [] ys h k = k
legal_append m (x ∷ xs) ys h k = same_cons _ _ _ _ (same_head _ _ _ _ h)
    (legal_append (map_after m x.command) xs ys (same_tail _ _ _ _ h) k)

-- ---- commands that leave the map

-- a remove of a key that isn't there leaves the map
remove_none : (m : Map) (key : ℕ) → fin.get m key ≡ None → fin.remove m key ≡ m
remove_none m key h = same_map nat_cmp_total nat_cmp-IsAntisymmetric _ _
    (λ q. ⊎_elim (λ e. (let i = e.1 in grind (arith, nat_tests, gets))) (λ e. (let i = e.1 in grind (arith, nat_tests, gets))) (eqb_tells q key))

-- a reply is a value or none
no_value : (reply : Option ℕ) → is_some reply ≡ false → reply ≡ None
no_value None h = refl
no_value (Some value) h = absurd (cc)

-- a command that makes no entry leaves the map
pub no_entry_leaves : (m : Map) (command : Command) (reply : Option ℕ)
    → makes_entry command reply ≡ false → reply ≡ reply_to m command → map_after m command ≡ m
no_entry_leaves m (Put key value) reply h e = absurd (cc)
no_entry_leaves m (Remove key) reply h e = remove_none m key (sym e ∙ no_value reply h)
no_entry_leaves m (Get key) reply h e = refl

-- ---- entries

-- the map after the commands of entries is the map after the entries
map_told-entries : (m : Map) (entries : List Entry)
    → map_told m (map told_by_entry entries) ≡ map_after_entries m entries
map_told-entries m [] = refl
map_told-entries m (entry ∷ entries) = map_told-entries (map_after m entry.command) entries

-- entries that are legal, followed by entries that are legal on the map after them, are legal
-- together
pub entries_append : (m : Map) (xs ys : List Entry) → AreLegal m xs → AreLegal (map_after_entries m xs) ys
    → AreLegal m (xs ++ ys)
entries_append m xs ys h k = grind (arith, map-append, legal_append, map_told-entries)

-- the map after two lists of entries is the map after the second on the map after the first
pub map_after_entries-append : (m : Map) (xs ys : List Entry)
    → map_after_entries m (xs ++ ys) ≡ map_after_entries (map_after_entries m xs) ys
map_after_entries-append m xs ys = grind (arith, map-append, replay-append)
