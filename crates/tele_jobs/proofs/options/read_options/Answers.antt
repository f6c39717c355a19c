use Rattle.std.proofs.Common.{◌≡◌, map, sym, subst, rules, Global}
use Rattle.std.specs.Prelude.{string_bytes, IfOk}
use Rattle.clap.specs.Words.{matches_of}
use Rattle.tele_jobs.specs.CommandLine.{tele, with_name, options_at}
use Rattle.tele_jobs.proofs.OptionLemmas.{with_name-some}
use Rattle.tele_jobs.proofs.options.read_options.Goals as goal

-- if there is an argument, the first is the program's name
pub returns-else-is_empty-clause-values : goal.returns-else-is_empty-clause-values
returns-else-is_empty-clause-values c =
    let words = map (string_bytes {Z = Global}) c.args.words.now in
    let named : with_name words ≡ words = with_name-some string_bytes c.args.words.now (search rules) in
    subst (λ ws. IfOk c.read-else-is_empty.result (λ options. options ≡ options_at (matches_of tele ws)))
    (sym named) c.read-else-is_empty.ensures.values
