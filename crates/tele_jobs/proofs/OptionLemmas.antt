-- What `clap` found for an option passed the option's parser. Serves the reading of the options.
use Rattle.std.proofs.Common.{◌≡◌, ℕ, ◌<◌, true, map, List, [], ◌∷◌, length, refl, sym, ◌∙◌, ap, subst, inl, inr, arith}
use Rattle.std.specs.Prelude.{Option, Some, None, IfSome, option_map, option_and_then, slice_get}
use Rattle.std.specs.Borrow.{Bor}
use Rattle.std.specs.List.{All, slice_index_or}
use Rattle.std.specs.Str.{bytes_eq}
use Rattle.std.proofs.lemmas.Slice.Eq.{bytes_eq-Decides}
use Rattle.std.proofs.lemmas.List.Elements.{All-get_or}
use Rattle.clap.specs.Facts.{args_of, groups_of, Entry, EntryPasses, ValuesPass, PassesArg, parser_of, parser_of_value}
use Rattle.clap.specs.Built.{IsParsedFrom, IsAuto}
use Rattle.clap.specs.Matches.{matched_of, first_value}
use Rattle.clap.specs.Values.{Accepts, IsUnsignedIn}
use Rattle.clap.specs.declared.builder.arg.Arg.{Arg}
use Rattle.clap.specs.declared.builder.command.Command.{Command}
use Rattle.clap.specs.declared.builder.value_parser.ValueParser.{ValueParser}
use Rattle.clap.specs.declared.builder.value_parser.ValueParser.TheVariants.{Unsigned}
use Rattle.clap.specs.declared.parser.matches.ArgMatches.{ArgMatches}
use Rattle.clap.specs.declared.parser.matches.Found.{Found}
use Rattle.clap.specs.declared.parser.matches.MatchedArg.{MatchedArg}
use Rattle.clap.proofs.CallerLemmas.{entry_by_id, same_rules_by_id}
use Rattle.tele_jobs.specs.CommandLine.{with_name}

-- if there are arguments, no name is put before them
pub with_name-some : {X : Type 0} (text : X → List ℕ) (words : List X) → (length words ≡ 0 → ⊥)
    → with_name (map text words) ≡ map text words
with_name-some text [] some = absurd (some refl)
with_name-some text (word ∷ words) some = refl

-- what holds of each value holds of the first
first_holds : (Q : List ℕ → Type 0) (P : Bor (List ℕ) → Type 0) (vs : List (Bor (List ℕ))) →
    ((v : Bor (List ℕ)) → P v → Q v.now)
    → All P vs → IfSome (option_map (λ s. s.now) (slice_get vs 0)) Q
first_holds Q P [] so all = tt
first_holds Q P (v ∷ vs) so all = so v (All-get_or P (v ∷ vs) 0 v (omega arith) all)

module _ (c : Command) (id : List ℕ) (no_groups : groups_of c ≡ []) (named : id ≡ [] → ⊥) where
  -- the values of an argument's entry passed
  entry_values : (e : Entry) (x : MatchedArg) → e.1 ≡ x → e.0.now ≡ id → EntryPasses c e → All
      (λ v. PassesArg c id v.now) x.vals.items
  entry_values e x is key pass =
      let no_group : e.1.is_group ≡ true → ⊥ = λ g. elim (pass.3 g) [
        | inl empty ↦ named (sym key ∙ empty)
        | inr some ↦ let bad : 0 < 0 = rw no_groups at some in absurd (omega arith)
      ] in
      elim pass.0 [
        | inl g ↦ absurd (no_group g)
        | inr vals ↦ subst (λ (k : List ℕ). All (λ v. PassesArg c k v.now) x.vals.items) key
            (rw is at vals)
      ]

  -- so did the first value that was found for it
  pub first_passes : (f : Found) (Q : List ℕ → Type 0) → ValuesPass c f →
      ((v : Bor (List ℕ)) → PassesArg c id v.now → Q v.now) → IfSome (first_value f id) Q
  first_passes f Q values so = go (matched_of f id) refl
    where
      found : (x : MatchedArg) → ((e : Entry) × (e.1 ≡ x) × (bytes_eq e.0.now id ≡ true) ×
          EntryPasses c e)
          → IfSome (option_map (λ s. s.now) (slice_get x.vals.items 0)) Q
      found x got = first_holds Q (λ v. PassesArg c id v.now) x.vals.items so
          (entry_values got.0 x got.1 ((bytes_eq-Decides got.0.0.now id).0 got.2) got.3)

      go : (o : Option MatchedArg) → matched_of f id ≡ o
          → IfSome (option_and_then (λ a. option_map (λ s. s.now) (slice_get a.vals.items 0)) o) Q
      go None e = tt
      go (Some x) e = found x (entry_by_id (EntryPasses c) f.entries.items id x values e)

-- no other argument of a list has the id of this one
abbrev pub IsAlone : List Arg → ℕ → Arg → Type 0
IsAlone xs k d = (j : ℕ) (e : Arg) → j < length xs → bytes_eq (slice_index_or xs j e).id.now
    (slice_index_or xs k d).id.now ≡ true → j ≡ k

-- a text that passed an argument of the built command passed the parser that the caller gave it
pub passes_range : (old : Command) (m : ArgMatches) (p : IsParsedFrom old m) (k : ℕ) (d : Arg)
    (low high : ℕ) (t : List ℕ) → k < length (args_of old) → IsAlone (args_of old) k d →
    (IsAuto (slice_index_or (args_of old) k d) → ⊥)
    → (slice_index_or (args_of old) k d).value_parser ≡ Some (Unsigned low high)
    → PassesArg p.built (slice_index_or (args_of old) k d).id.now t → IsUnsignedIn low high t
passes_range old m p k d low high t lt alone own parser pass =
    let s = same_rules_by_id old m p k d lt alone own pass.0 pass.1 pass.2 pass.3 pass.4.0 in
    let is : parser_of pass.1 ≡ Unsigned low high = ap parser_of_value
    (s.parser (Unsigned low high) parser) in
    subst (λ (q : ValueParser). Accepts pass.1.ignore_case q t) is pass.4.1
