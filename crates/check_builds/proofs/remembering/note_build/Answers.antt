use Rattle.std.proofs.Common.{◌∙◌, ◌+◌, Some, List, ℕ, ap, cond, refl, arith}
use Rattle.std.specs.BTreeMap.{is_at}
use Rattle.std.specs.Cmp.Lexicographic.{slice_cmp}
use Rattle.std.specs.Map.{lookup}
use Rattle.std.specs.Ordering.{nat_cmp}
use Rattle.check_events.specs.Remembering.{last_with}
use Rattle.check_builds.proofs.BuildTableLemmas.{build_known, are_sizes, found_after}
use Rattle.check_builds.proofs.remembering.note_build.Goals as goal

pub returns-clause-exact : goal.returns-clause-exact
returns-clause-exact c log rebuild word known = let old = c.args.builds.now in
    let found = λ (xs : List ℕ).
    ap (lookup (is_at (λ v. slice_cmp nat_cmp xs v.items))) c.in_ok-insert.ensures.entries
    ∙ found_after (λ v. v.items) xs old.last.entries c.in_ok-sizes_of.field-0 (old.count + 1)
    ∙ ap (λ s. cond (are_sizes xs s) (Some (old.count + 1)) (last_with old xs))
    c.in_ok-sizes_of.ensures.value in
    build_known old log c.args.caller (old.count + 1) c.insert-2.new.self known (omega arith)
    c.in_ok-insert-2.ensures.updates rebuild word c.args.rows.now c.insert.new.self refl found
