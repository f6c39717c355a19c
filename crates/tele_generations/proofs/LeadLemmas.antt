-- The tables so far lead on to what is left. Serves `run_round`.
use Rattle.std.proofs.Common.{◌≡◌, ℕ, List, [], ◌∷◌, ◌++◌, length, Option, Some, None, sym, ap, subst, ◌∙◌, arith}
use Rattle.std.proofs.lemmas.List.{append_assoc, append-nil}
use Rattle.ist_core.specs.declared.pairs.Pair.{Pair}
use Rattle.ist_core.specs.declared.ports.Full.{Full}
use Rattle.tele_lanes.specs.declared.task_lists.Task.{Task}
use Rattle.tele_generations.specs.Runs.{LaneRun, AreWhole}
use Rattle.tele_generations.specs.Sizes.{next_words}
use Rattle.tele_generations.specs.Generations.{LanesRanOn, RanFull, HandsOn, IsLarger, IsGenerations}
use Rattle.tele_generations.specs.Generations.IsGenerations.{whole, ran_full}
use Rattle.tele_generations.specs.Shelves.{IsShelved}
use Rattle.tele_generations.specs.Rounds.{FirstHas, RanInGenerations}
use Rattle.tele_generations.specs.Ways.{MayFollow, LeadOn, HasFirstWords, HasTables}

-- the last of the tables decides which may follow
follow_last : (tables : List (List ℕ)) (table next : List ℕ) → MayFollow (tables ++ table ∷ []) next
    → IsLarger table next
follow_last [] table next h = h
follow_last (x ∷ []) table next h = h
follow_last (x ∷ y ∷ tables) table next h = follow_last (y ∷ tables) table next h

-- a table that is larger than the last may follow
larger_follows : (tables : List (List ℕ)) (table next : List ℕ) → IsLarger table next
    → MayFollow (tables ++ table ∷ []) next
larger_follows [] table next h = h
larger_follows (x ∷ []) table next h = h
larger_follows (x ∷ y ∷ tables) table next h = larger_follows (y ∷ tables) table next h

-- the tables so far and one more, which ran full, lead on
lead_more : (workers : ℕ) (pairs now after : List Pair) (tasks left rest : List Task)
    (tables : List (List ℕ)) (table : List ℕ) (fulls : List Full) (full : Full)
    (runs : List LaneRun)
    → LeadOn workers pairs tasks tables fulls now left → MayFollow tables table
    → LanesRanOn workers now left table runs → RanFull now table runs full
    → HandsOn now runs after rest
    → LeadOn workers pairs tasks (tables ++ table ∷ []) (fulls ++ full ∷ []) after rest
lead_more workers pairs now after tasks left rest tables table fulls full runs lead may g f hands
    next more later larger ends =
    subst (λ ts. IsGenerations workers pairs tasks ts ((fulls ++ full ∷ []) ++ later))
    (sym (append_assoc tables (table ∷ []) (next ∷ more)))
    (subst (λ fs. IsGenerations workers pairs tasks (tables ++ table ∷ next ∷ more) fs)
    (sym (append_assoc fulls (full ∷ []) later))
    (lead table (next ∷ more) (full ∷ later) may
    (ran_full runs g f hands (follow_last tables table next larger) ends)))

-- tables on a shelf, and one more after them
shelved_more : {C : Type 0} (before : Option (List C)) (given : List C) (middle : Option (List C))
    (closed : C) (after : Option (List C))
    → IsShelved before given middle → IsShelved middle (closed ∷ []) after
    → IsShelved before (given ++ closed ∷ []) after
shelved_more before given middle closed None one two = tt
shelved_more before given None closed (Some after) one two = absurd two
shelved_more None given (Some middle) closed (Some after) one two = absurd one
shelved_more (Some before) given (Some middle) closed (Some after) one two =
    two ∙ ap (λ l. l ++ closed ∷ []) one ∙ append_assoc before given (closed ∷ [])

-- the first of the tables, with one more after them
begins_more : (first words next : ℕ) (tables : List (List ℕ)) (table : List ℕ)
    → HasFirstWords first tables words → length table ≡ words
    → HasFirstWords first (tables ++ table ∷ []) next
begins_more first words next [] table begins sized = sized ∙ begins
begins_more first words next (x ∷ tables) table begins sized = begins

-- the first of the tables, with the last one after them
begins_last : (first words : ℕ) (tables : List (List ℕ)) (table : List ℕ)
    → HasFirstWords first tables words → length table ≡ words
    → FirstHas first (tables ++ table ∷ [])
begins_last first words [] table begins sized = sized ∙ begins
begins_last first words (x ∷ tables) table begins sized = begins

-- a next table of as many words as the next one has is larger
next_is_larger : (table next : List ℕ) (words pairs : ℕ) → length table ≡ words
    → length next ≡ next_words words pairs → IsLarger table next
next_is_larger table next words pairs sized long = omega arith

module _ (workers first : ℕ) (pairs : List Pair) (tasks : List Task)
    (before : Option (List (List ℕ))) where
  -- before the first table
  pub tables_begin : (words : ℕ) (told : Option (List (List ℕ))) → before ≡ told → words ≡ first
      → HasTables workers first pairs tasks before told [] pairs tasks words
  tables_begin words told same is = record {
    given = [];
    shelved = at before told same;
    lead = λ next more later may ends. ends;
    may_follow = λ next long. tt;
    begins = is;
  }
    where
      at : (x y : Option (List (List ℕ))) → x ≡ y → IsShelved x [] y
      at x None e = tt
      at None (Some y) e = cc
      at (Some x) (Some y) e = (let same : x ≡ y = cc in sym same ∙ sym (append-nil x))

  -- the tables so far, with one more that ran full
  pub tables_more : (middle after : Option (List (List ℕ))) (fulls : List Full) (full : Full)
      (now later : List Pair) (left rest : List Task) (words next : ℕ) (table : List ℕ)
      (runs : List LaneRun) → HasTables workers first pairs tasks before middle fulls now left words
      → length table ≡ words → LanesRanOn workers now left table runs
      → RanFull now table runs full → HandsOn now runs later rest
      → IsShelved middle (table ∷ []) after → next ≡ next_words words (length later)
      → HasTables workers first pairs tasks before after (fulls ++ full ∷ []) later rest next
  tables_more middle after fulls full now later left rest words next table runs t sized g f hands
      kept is =
      record {
        given = t.given ++ table ∷ [];
        shelved = shelved_more before t.given middle table after t.shelved kept;
        lead = lead_more workers pairs now later tasks left rest t.given table fulls full runs
            t.lead (t.may_follow table sized) g f hands;
        may_follow = λ table_next long. larger_follows t.given table table_next
            (next_is_larger table table_next words (length later) sized (long ∙ is));
        begins = begins_more first words next t.given table t.begins sized;
      }

  -- the last table, which answered all
  pub tables_end : (after : Option (List (List ℕ))) (fulls : List Full) (now : List Pair)
      (left : List Task) (words : ℕ) (table : List ℕ) (runs : List LaneRun)
      → HasTables workers first pairs tasks before after fulls now left words
      → length table ≡ words → LanesRanOn workers now left table runs → AreWhole runs
      → RanInGenerations workers first pairs tasks before after table fulls
  tables_end after fulls now left words table runs t sized g all = record {
    given = t.given;
    shelved = t.shelved;
    are = subst (λ fs. IsGenerations workers pairs tasks (t.given ++ table ∷ []) fs)
        (append-nil fulls) (t.lead table [] [] (t.may_follow table sized) (whole runs g all));
    first_is = begins_last first words t.given table t.begins sized;
  }
