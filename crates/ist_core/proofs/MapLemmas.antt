-- Maps and their pairs: the map of its pairs, and how many keys it has after commands. Serves the
-- map of one thread, and trees that begin with the pairs of another.
use Rattle.std.proofs.Common.{◌≡◌, ℕ, ◌+◌, ◌-◌, ◌≤◌, Bool, true, false, cond, List, [], ◌∷◌, map, length, refl, sym, ap, ◌∙◌, arith}
use Rattle.std.proofs.lemmas.List.{length-map}
use Rattle.std.proofs.lemmas.Cmp.{nat_cmp_total}
use Rattle.std.specs.FinMap as fin
use Rattle.std.specs.Ordering.{nat_cmp}
use Rattle.ist_core.specs.Types.{Command, Put, Remove, Get, Pair}
use Rattle.ist_core.specs.TreeTerms.{Map, map_of, map_after, replay, pairs_of}

-- the entry of a pair
abbrev pub entry : Pair → ℕ × ℕ
entry p = (p.key, p.value)

-- the pair of an entry
abbrev pub pair : ℕ × ℕ → Pair
pair e = record { key = e.0; value = e.1 }

-- a list of pairs is the list of its entries' pairs
pub pairs-entries : (pairs : List Pair) → map pair (map entry pairs) ≡ pairs
pairs-entries [] = refl
pairs-entries (p ∷ pairs) = ap (λ (ps : List Pair). p ∷ ps) (pairs-entries pairs)

-- entries are the entries of their pairs
entries-pairs : (es : List (ℕ × ℕ)) → map entry (map pair es) ≡ es
entries-pairs [] = refl
entries-pairs (e ∷ es) = ap (λ l. e ∷ l) (entries-pairs es)

-- the map of the pairs of a map is that map
pub map_of-pairs_of : (m : Map) → map_of (pairs_of m) ≡ m
map_of-pairs_of m = fin.same_map nat_cmp_total fin.nat_cmp-IsAntisymmetric _ _
    (λ q. fin.get-from_entries nat_cmp_total _ q
    ∙ ap (fin.find nat_cmp q) (entries-pairs (fin.entries m)) ∙ sym (fin.get-entries m q))

-- one more key at most
pub one_kept : (b : Bool) (n : ℕ) → cond b n (n + 1) ≤ n + 1
one_kept true n = omega arith
one_kept false n = omega arith

-- one key less at most
pub one_less : (b : Bool) (n : ℕ) → cond b (n - 1) n ≤ n
one_less true n = omega arith
one_less false n = omega arith

-- a command adds at most one key
pub adds_one_key : (m : Map) (c : Command) → fin.len (map_after m c) ≤ fin.len m + 1
adds_one_key m (Put key value) = let long = fin.len-insert nat_cmp_total m key value in
    let high = one_kept (fin.contains_key m key) (fin.len m) in omega arith
adds_one_key m (Remove key) = let long = fin.len-remove nat_cmp_total m key in
    let high = one_less (fin.contains_key m key) (fin.len m) in omega arith
adds_one_key m (Get key) = omega arith

-- commands add at most as many keys as there are commands
pub adds_few_keys : (m : Map) (cs : List Command) → fin.len (replay m cs) ≤ fin.len m + length cs
adds_few_keys m [] = omega arith
adds_few_keys m (c ∷ cs) =
    (let one = adds_one_key m c in let rest = adds_few_keys (map_after m c) cs in omega arith)

-- there are as many pairs as keys
pub length-pairs_of : (m : Map) → length (pairs_of m) ≡ fin.len m
length-pairs_of m = length-map {A = ℕ × ℕ} (fin.entries m) (λ e. record { key = e.0; value = e.1 })
    ∙ sym (fin.len-entries m)
