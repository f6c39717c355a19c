use Rattle.std.proofs.Common.{refl, ap, sym, ◌∙◌, length, arith}
use Rattle.ist_rule.specs.RuleTerms.{Seated}
use Rattle.ist_rule.proofs.WhoLemmas.{maker_live}
use Rattle.ist_rule.proofs.NamedLemmas.{seat_holds}
use Rattle.ist_rule.proofs.OpenLemmas.{first_image, named_view, names_moves, opened_sound, opens}
use Rattle.ist_rule.proofs.opening.open_table_over.Goals as goal

-- a new table is under the rule
pub of_words-requires : goal.of_words-requires
of_words-requires c = opens _ _ (ap (λ v. v.items) c.of.ensures) c.requires.opens c.requires.image

-- the load keeps the rule
pub load-requires : goal.load-requires
load-requires c = (
  c.in_ok-table.ensures.2,
  omega (arith, c.in_ok-table.ensures.0, c.requires.opens.room),
  names_moves _ _ _ _ _ (λ dead. maker_live (sym (ap (λ (m : Seated). m.0.who) c.in_ok-table.ensures.4) ∙ dead)),
)

-- the token keeps the invariant
pub invariant_of-result-2 : goal.invariant_of-result-2
invariant_of-result-2 c = let e = c.in_ok-table.ensures in
    let is = named_view record { start = c.of.result; words = length c.args.image.now } c.load.ensures.2.0
    (ap (λ (m : Seated). m.0) e.4) (ap (λ v. v.items) c.of.ensures) e.2 in
    seat_holds is (c.load.ensures.2.1 ∙ ap (λ (m : Seated). m.1) e.4) (opened_sound _ _ _ c.requires.opens) (sym e.0)
    refl (c.load.ensures.0 ∙ e.2)

pub returns-clause-token : goal.returns-clause-token
returns-clause-token c = let e = c.in_ok-table.ensures in
    named_view record { start = c.of.result; words = length c.args.image.now } c.load.ensures.2.0
    (ap (λ (m : Seated). m.0) e.4) (ap (λ v. v.items) c.of.ensures) e.2

-- the words are those of a new table until the maker enters a caller, also if memory runs out
pub returns-clause-first : goal.returns-clause-first
returns-clause-first c = first_image

pub returns-in_err-table-clause-first : goal.returns-in_err-table-clause-first
returns-in_err-table-clause-first c = first_image
