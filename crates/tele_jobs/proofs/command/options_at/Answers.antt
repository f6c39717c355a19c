use Rattle.std.proofs.Common.{◌≡◌, ◌==◌, ℕ, Bool, List, ◌∙◌, ap, codes}
use Rattle.std.specs.Prelude.{Option, option_map, unwrap_or}
use Rattle.clap.specs.Matches.{found_of, first_value}
use Rattle.clap.specs.declared.parser.matches.Found.{Found}
use Rattle.clap.specs.Words.{rows_of}
use Rattle.clap.proofs.WalkLemmas.{first_value-rows}
use Rattle.tele_jobs.specs.declared.options.Options.{Options}
use Rattle.tele_jobs.specs.CommandLine.{number_said, option_value}
use Rattle.tele_jobs.proofs.command.options_at.Goals as goal

-- options are the same if each of their fields is
same_options : (a b e : ℕ) (d : Option ℕ) (s : Bool) (g h k : ℕ) (i : Option ℕ) (t : Bool)
    → a ≡ g → b ≡ h → d ≡ i → e ≡ k → s ≡ t
    → ◌≡◌ {A = Options} (record { workers = a; words = b; generate = d; seed = e; steal = s })
    (record { workers = g; words = h; generate = i; seed = k; steal = t })
same_options a b e d s g h k i t one two three four five =
    ap (λ x. record { workers = x; words = b; generate = d; seed = e; steal = s }) one
    ∙ ap (λ x. record { workers = g; words = x; generate = d; seed = e; steal = s }) two
    ∙ ap (λ x. record { workers = g; words = h; generate = x; seed = e; steal = s }) three
    ∙ ap (λ x. record { workers = g; words = h; generate = i; seed = x; steal = s }) four
    ∙ ap (λ x. record { workers = g; words = h; generate = i; seed = k; steal = x }) five

-- what was found is what the rows hold
in_rows : (f : Found) (name : List ℕ) (o : Option ℕ) → o ≡ option_map number_said (first_value f name)
    → o ≡ option_value name (rows_of f)
in_rows f name o is = is ∙ ap (option_map number_said) (first_value-rows f name)

pub returns-clause-value : goal.returns-clause-value
returns-clause-value c = let f = found_of c.args.matches.now in same_options _ _ _ _ _ _ _ _ _ _
    (c.unwrap_or.ensures ∙ ap (λ o. unwrap_or o 4)
    (in_rows f (codes "workers") _ c.number.ensures.value))
    (c.unwrap_or-2.ensures ∙ ap (λ o. unwrap_or o 33554432)
    (in_rows f (codes "words") _ c.number-2.ensures.value))
    (in_rows f (codes "generate") _ c.number-3.ensures.value)
    (c.unwrap_or-3.ensures ∙ ap (λ o. unwrap_or o 1)
    (in_rows f (codes "seed") _ c.number-4.ensures.value))
    (ap (λ n. n == 1) (c.unwrap_or-4.ensures ∙ ap (λ o. unwrap_or o 0)
    (in_rows f (codes "steal") _ c.number-5.ensures.value)))
