-- The plain map: what one thread with an ordinary map would get. Every claim of the tree and of the
-- program rests on this page.
use Rattle.std.specs.Prelude.{ℕ, nat_le, ◌&&◌, List, [], ◌∷◌, map, Option}
use Rattle.std.specs.List.{filter}
use Rattle.std.specs.Ordering.{nat_cmp}
use Rattle.std.specs.FinMap as fin
use Rattle.ist_core.specs.declared.commands.Command.{Command}
use Rattle.ist_core.specs.declared.commands.Command.TheVariants.{Put, Remove, Get}
use Rattle.ist_core.specs.declared.pairs.Pair.{Pair}

-- a finite map from keys to values
abbrev pub Map : Type 0
Map = fin.FinMap nat_cmp ℕ

-- the map with no key
abbrev pub no_pairs : Map
no_pairs = fin.empty

-- the map of some pairs with distinct keys
abbrev pub map_of : List Pair → Map
map_of pairs = fin.from_entries (map (λ p. (p.key, p.value)) pairs)

-- the key that a command names
abbrev pub key_of : Command → ℕ
key_of (Put key value) = key
key_of (Remove key) = key
key_of (Get key) = key

-- the map after a command: a put sets its key, a remove takes its key away, a get leaves the map as
-- it is
abbrev pub map_after : Map → Command → Map
map_after m (Put key value) = fin.insert m key value
map_after m (Remove key) = fin.remove m key
map_after m (Get key) = m

-- the reply to a command: the value that its key had just before, or none
abbrev pub reply_to : Map → Command → Option ℕ
reply_to m command = fin.get m (key_of command)

-- one command: the next map, and the reply
abbrev pub step : Map → Command → Map × Option ℕ
step m command = (map_after m command, reply_to m command)

-- the map after a list of commands
abbrev pub replay : Map → List Command → Map
replay m [] = m
replay m (command ∷ commands) = replay (step m command).0 commands

-- the replies to a list of commands
abbrev pub replies : Map → List Command → List (Option ℕ)
replies m [] = []
replies m (command ∷ commands) = (step m command).1 ∷ replies (step m command).0 commands

-- the pairs with a key from `first` to `last`, both included
abbrev pub pairs_between : ℕ → ℕ → List Pair → List Pair
pairs_between first last pairs = filter (λ p. nat_le first p.key && nat_le p.key last) pairs

-- the pairs of a map, in increasing order of keys
abbrev pub pairs_of : Map → List Pair
pairs_of m = map (λ e. record { key = e.0; value = e.1 }) (fin.entries m)

-- the pairs of a map with a key from `first` to `last`, both included, in increasing order of keys
abbrev pub listed : ℕ → ℕ → Map → List Pair
listed first last m = pairs_between first last (pairs_of m)
