-- The five options of the command, and the numbers that were found for them. Serves the reading of
-- the options.
use Rattle.std.proofs.Common.{suc, zero, ◌≡◌, ℕ, ◌<◌, ◌^◌, ◌-◌, ◌&&◌, true, false, List, [], ◌∷◌, length, refl, sym, ◌∙◌, ap, subst, inl, inr, arith, map, codes}
use Rattle.std.specs.Prelude.{IfSome}
use Rattle.std.specs.List.{All, slice_index_or}
use Rattle.std.specs.Str.{bytes_eq}
use Rattle.std.proofs.lemmas.Bool.{eqb-true, not-true}
use Rattle.std.proofs.lemmas.Slice.Eq.{bytes_eq-Decides}
use Rattle.clap.specs.Facts.{args_of, groups_of}
use Rattle.clap.specs.Built.{IsParsedFrom, IsPlain, IsPlainArg, IsAuto}
use Rattle.clap.specs.Matches.{found_of, first_value}
use Rattle.clap.specs.Values.{IsUnsignedIn}
use Rattle.clap.specs.Walk.{is_empty}
use Rattle.clap.specs.Words.{App, Rule, app_of, rule_of}
use Rattle.clap.specs.declared.builder.arg.Arg.{Arg}
use Rattle.clap.specs.declared.builder.command.Command.{Command}
use Rattle.clap.specs.declared.builder.command.Command.TheViews.{out-Command}
use Rattle.clap.specs.declared.parser.matches.ArgMatches.{ArgMatches}
use Rattle.tele_jobs.specs.CommandLine.{tele, number_option}
use Rattle.tele_jobs.specs.Numbers.{AreNumbers}
use Rattle.tele_jobs.proofs.OptionLemmas.{IsAlone, first_passes, passes_range}
use Rattle.ist_core.proofs.AllPlaceLemmas.{both_true}

-- each number below five is one of these
below_five : (P : ℕ → Type 0) → P 0 → P 1 → P 2 → P 3 → P 4 → (j : ℕ) → j < 5 → P j
below_five P zero_too one two three four zero lt = zero_too
below_five P zero_too one two three four (suc zero) lt = one
below_five P zero_too one two three four (suc (suc zero)) lt = two
below_five P zero_too one two three four (suc (suc (suc zero))) lt = three
below_five P zero_too one two three four (suc (suc (suc (suc zero)))) lt = four
below_five P zero_too one two three four (suc (suc (suc (suc (suc j))))) lt = absurd (omega arith)

-- two texts that differ are no equal ids
differ : (x y one two : List ℕ) → x ≡ one → y ≡ two → bytes_eq one two ≡ false → bytes_eq x y ≡ true
    → ⊥
differ x y one two is is_too unlike same = grind arith

-- two texts that differ aren't equal
unlike : (x y : List ℕ) → bytes_eq x y ≡ false → x ≡ y → ⊥
unlike x y other same = let there = (bytes_eq-Decides x y).1 same in absurd (cc (other, there))

none_of : {X : Type 0} (xs : List X) → is_empty xs ≡ true → xs ≡ []
none_of [] h = refl
none_of (x ∷ xs) h = grind (arith, eqb-true)

-- an option with one number excludes nothing and belongs to no group
plain_option : (a : Arg) (name : List ℕ) (low high : ℕ) → rule_of a ≡ number_option name low high →
    IsPlainArg a
plain_option a name low high is = grind (arith, both_true, not-true, none_of)

-- the five options of a command
record HasOptions (old : Command) : Type 0 where
  a : Arg
  b : Arg
  c : Arg
  d : Arg
  e : Arg
  args : args_of old ≡ a ∷ b ∷ c ∷ d ∷ e ∷ []
  workers : rule_of a ≡ number_option (codes "workers") 1 64
  words : rule_of b ≡ number_option (codes "words") 64 268435456
  generate : rule_of c ≡ number_option (codes "generate") 0 1048576
  seed : rule_of d ≡ number_option (codes "seed") 0 (2 ^ 64 - 1)
  steal : rule_of e ≡ number_option (codes "steal") 0 1

has_options : (old : Command) (args : List Arg) → args_of old ≡ args → map rule_of args ≡
    tele.top.rules → HasOptions old
has_options old [] are is = absurd (cc is)
has_options old (a ∷ []) are is = absurd (cc is)
has_options old (a ∷ b ∷ []) are is = absurd (cc is)
has_options old (a ∷ b ∷ c ∷ []) are is = absurd (cc is)
has_options old (a ∷ b ∷ c ∷ d ∷ []) are is = absurd (cc is)
has_options old (a ∷ b ∷ c ∷ d ∷ e ∷ []) are is = record {
  a = a;
  b = b;
  c = c;
  d = d;
  e = e;
  args = are;
  workers = cc is;
  words = cc is;
  generate = cc is;
  seed = cc is;
  steal = cc is;
}
has_options old (a ∷ b ∷ c ∷ d ∷ e ∷ f ∷ more) are is = absurd (cc is)

module _ (old : Command) (is : app_of old ≡ tele) (m : ArgMatches) (p : IsParsedFrom old m) where
  options : HasOptions old
  options = has_options old (args_of old) refl (ap (λ (a : App). a.top.rules) is)

  plain_fields : (groups_of old ≡ []) × ((out-Command old).has_globals ≡ false)
  plain_fields = grind (arith, both_true, none_of, not-true)

  plain : IsPlain old
  plain = (
    subst (All IsPlainArg) (sym options.args)
        (λ j x lt. below_five (λ j. IsPlainArg
        (slice_index_or (options.a ∷ options.b ∷ options.c ∷ options.d ∷ options.e ∷ []) j x))
        (plain_option options.a _ _ _ options.workers) (plain_option options.b _ _ _ options.words)
        (plain_option options.c _ _ _ options.generate) (plain_option options.d _ _ _ options.seed)
        (plain_option options.e _ _ _ options.steal) j (omega (arith, lt))),
    plain_fields.0,
  )

  -- what was found for one option
  option_number : (k : ℕ) (d : Arg) (name : List ℕ) (low high : ℕ) → k < length (args_of old) →
      IsAlone (args_of old) k d
      → rule_of (slice_index_or (args_of old) k d) ≡ number_option name low high → (name ≡ [] → ⊥)
      → (name ≡ codes "help" → ⊥) → (name ≡ codes "version" → ⊥)
      → IfSome (first_value (found_of m) name) (IsUnsignedIn low high)
  option_number k d name low high lt alone rule named no_help no_version =
      let id : (slice_index_or (args_of old) k d).id.now ≡ name = ap (λ (r : Rule). r.id) rule in
      let own : IsAuto (slice_index_or (args_of old) k d) → ⊥ =
      λ auto. elim auto [ inl h ↦ no_help (sym id ∙ h) | inr h ↦ no_version (sym id ∙ h) ] in
      let values = (p.parsed (p.from.globals ∙ plain_fields.1)).values in
      subst (λ n. IfSome (first_value (found_of m) n) (IsUnsignedIn low high)) id
      (first_passes p.built (slice_index_or (args_of old) k d).id.now (p.from.plain plain).1
      (λ e. named (sym id ∙ e)) (found_of m) (IsUnsignedIn low high) values
      (λ v pass. passes_range old m p k d low high v.now lt alone own
      (ap (λ (r : Rule). r.parser) rule) pass))

  -- the arguments of the command, one by one
  abbrev all : List Arg
  all = options.a ∷ options.b ∷ options.c ∷ options.d ∷ options.e ∷ []

  workers_id : options.a.id.now ≡ codes "workers"
  workers_id = ap (λ (r : Rule). r.id) options.workers

  words_id : options.b.id.now ≡ codes "words"
  words_id = ap (λ (r : Rule). r.id) options.words

  generate_id : options.c.id.now ≡ codes "generate"
  generate_id = ap (λ (r : Rule). r.id) options.generate

  seed_id : options.d.id.now ≡ codes "seed"
  seed_id = ap (λ (r : Rule). r.id) options.seed

  steal_id : options.e.id.now ≡ codes "steal"
  steal_id = ap (λ (r : Rule). r.id) options.steal

  -- a command has five
  some : (k : ℕ) → k < 5 → k < length (args_of old)
  some k lt = subst (λ xs. k < length xs) (sym options.args) (omega (arith, lt))

  -- no other has the name of this one
  workers_alone : IsAlone all 0 options.a
  workers_alone j x lt =
      grind (arith, below_five, differ, words_id, workers_id, generate_id, seed_id, steal_id)

  -- no other has the name of this one
  words_alone : IsAlone all 1 options.b
  words_alone j x lt =
      grind (arith, below_five, differ, workers_id, words_id, generate_id, seed_id, steal_id)

  -- no other has the name of this one
  generate_alone : IsAlone all 2 options.c
  generate_alone j x lt =
      grind (arith, below_five, differ, workers_id, generate_id, words_id, seed_id, steal_id)

  -- no other has the name of this one
  seed_alone : IsAlone all 3 options.d
  seed_alone j x lt =
      grind (arith, below_five, differ, workers_id, seed_id, words_id, generate_id, steal_id)

  -- no other has the name of this one
  steal_alone : IsAlone all 4 options.e
  steal_alone j x lt =
      grind (arith, below_five, differ, workers_id, steal_id, words_id, generate_id, seed_id)

  -- all five
  pub are_numbers : AreNumbers (found_of m)
  are_numbers = record {
    workers = option_number 0 options.a (codes "workers") 1 64 (some 0 (omega arith))
        (subst (λ xs. IsAlone xs 0 options.a) (sym options.args) workers_alone)
        (ap (λ xs. rule_of (slice_index_or xs 0 options.a)) options.args ∙ options.workers)
        (unlike _ _ refl) (unlike _ _ refl) (unlike _ _ refl);
    words = option_number 1 options.b (codes "words") 64 268435456 (some 1 (omega arith))
        (subst (λ xs. IsAlone xs 1 options.b) (sym options.args) words_alone)
        (ap (λ xs. rule_of (slice_index_or xs 1 options.b)) options.args ∙ options.words)
        (unlike _ _ refl) (unlike _ _ refl) (unlike _ _ refl);
    generate = option_number 2 options.c (codes "generate") 0 1048576 (some 2 (omega arith))
        (subst (λ xs. IsAlone xs 2 options.c) (sym options.args) generate_alone)
        (ap (λ xs. rule_of (slice_index_or xs 2 options.c)) options.args ∙ options.generate)
        (unlike _ _ refl) (unlike _ _ refl) (unlike _ _ refl);
    seed = option_number 3 options.d (codes "seed") 0 (2 ^ 64 - 1) (some 3 (omega arith))
        (subst (λ xs. IsAlone xs 3 options.d) (sym options.args) seed_alone)
        (ap (λ xs. rule_of (slice_index_or xs 3 options.d)) options.args ∙ options.seed)
        (unlike _ _ refl) (unlike _ _ refl) (unlike _ _ refl);
    steal = option_number 4 options.e (codes "steal") 0 1 (some 4 (omega arith))
        (subst (λ xs. IsAlone xs 4 options.e) (sym options.args) steal_alone)
        (ap (λ xs. rule_of (slice_index_or xs 4 options.e)) options.args ∙ options.steal)
        (unlike _ _ refl) (unlike _ _ refl) (unlike _ _ refl);
  }
