-- Some pairs were printed, and others are left. Serves the printing of intervals.
use Rattle.std.proofs.Common.{◌≡◌, ℕ, List, ◌∷◌, ◌++◌, sym, ◌∙◌, ap, subst, append_assoc}
use Rattle.std.specs.Prelude.{Option}
use Rattle.std.specs.List.{flat_map}
use Rattle.ist_core.specs.declared.pairs.Pair.{Pair}
use Rattle.tele_io.specs.Bytes.{Appends, AppendsPart}
use Rattle.tele_io.proofs.AppendsLemmas.{Appends-append, AppendsPart-append, AppendsPart-longer}
use Rattle.tele_lines.specs.declared.items.Version.{Version}
use Rattle.tele_lines.specs.Answer.{pair_text}

-- the lines of some pairs
abbrev lines : Version → List Pair → List ℕ
lines version pairs = flat_map (pair_text version) pairs

-- what was printed, and the lines of the pairs that are left, are the lines of all
pub record HasPrinted (version : Version) (before now : Option (List ℕ)) (all rest : List Pair) : Type 0 where
  pub printed : List ℕ
  pub writes : Appends before now printed
  pub whole : printed ++ flat_map (pair_text version) rest ≡ flat_map (pair_text version) all

-- one more pair
pub one_printed : (version : Version) (before now later : Option (List ℕ))
    (all rest others : List Pair) (pair : Pair) → rest ≡ pair ∷ others
    → HasPrinted version before now all rest → Appends now later (pair_text version pair)
    → HasPrinted version before later all others
one_printed version before now later all rest others pair is h writes = record {
  printed = h.printed ++ pair_text version pair;
  writes = Appends-append before now later h.printed (pair_text version pair) h.writes writes;
  whole = append_assoc {A = ℕ} h.printed (pair_text version pair) (lines version others)
      ∙ ap (λ ps. h.printed ++ lines version ps) (sym is) ∙ h.whole;
}

-- a part of one more pair
pub part_printed : (version : Version) (before now later : Option (List ℕ))
    (all rest others : List Pair) (pair : Pair) → rest ≡ pair ∷ others
    → HasPrinted version before now all rest → AppendsPart now later (pair_text version pair)
    → AppendsPart before later (flat_map (pair_text version) all)
part_printed version before now later all rest others pair is h part =
    subst (AppendsPart before later) (ap (λ ps. h.printed ++ lines version ps) (sym is) ∙ h.whole)
    (AppendsPart-append before now later h.printed (pair_text version pair ++ lines version others) h.writes
    (AppendsPart-longer now later (pair_text version pair) (lines version others) part))
