-- What `pack` makes of lines. Serves `packing` and `laws.packed_lines_are_listed`.
use Rattle.std.proofs.Common.{◌≡◌, ℕ, ◌+◌, ◌*◌, ◌^◌, ◌<◌, ◌≤◌, Bool, false, List, [], ◌∷◌, length, Option, Some, None, refl, sym, ap, ◌∙◌, subst, arith, IfSome, inl, inr, flat_map}
use Rattle.std.specs.FinMap as fin
use Rattle.std.specs.Ordering.{nat_cmp}
use Rattle.ist_core.specs.declared.pairs.Pair.{Pair}
use Rattle.ist_core.specs.declared.commands.Command.{Command}
use Rattle.ist_core.specs.WordTerms.{IsImage, Change, next_place, first_row, ideal_words, start}
use Rattle.ist_core.specs.LogTerms.{CanOpen}
use Rattle.ist_core.specs.TreeTerms.{Map, no_pairs, map_of, step, pairs_of, pairs_between, listed, StandsFor}
use Rattle.ist_core.proofs.AllPlaceLemmas.{adds_one_key, length-pairs_of}
use Rattle.laws_links.proofs.ComesLemmas.{start_quiet}
use Rattle.ist_rest.specs.Laws.{StandingWordsAreLawful}
use Rattle.tele_audit.specs.WordLaws.{PairsAreOne, LawfulWordsBreakNowhere}
use Rattle.ist_rest.specs.RestingWords.{AreLawful}
use Rattle.ist_rest.specs.WordRows.{word_at}
use Rattle.plain_map.specs.Rising.{IsRising}
use Rattle.plain_map.proofs.PlaceLemmas.{pairs_of-map_of}
use Rattle.tele_lines.specs.declared.items.Cause.{Cause}
use Rattle.tele_lines.specs.declared.items.Item.{Item}
use Rattle.tele_lines.specs.declared.items.Version.{Version}
use Rattle.tele_lines.specs.declared.items.Version.TheVariants.{One}
use Rattle.tele_lines.specs.Answer.{Read, Good, Bad, pair_text}
use Rattle.tele_lines.specs.Buffers.{unread_of}
use Rattle.tele_lines.specs.Lines.{line_limit, lines_of}
use Rattle.tele_lines.specs.Progress.{Place, read_at, GoesTo}
use Rattle.tele_audit.specs.declared.jobs.Job.TheVariants.{Pack, Tell}
use Rattle.tele_audit.specs.declared.jobs.Question.TheVariants.{Between}
use Rattle.tele_audit.specs.declared.outcomes.TheConstants.{DONE}
use Rattle.tele_audit.specs.Dumps.{DumpContent, IsLawfulDump}
use Rattle.tele_audit.specs.Packing.{Left, Holds, Refuses, after_lines, left_by, IsNewTable}
use Rattle.tele_audit.specs.Runs.{IsPacked, IsOwed}
use Rattle.tele_audit.proofs.LawLemmas.{one_told, no_flaw}

-- ---- lines

-- a point line was carried out
module _ (m then_m : Map) (command : Command) (reply : Option ℕ)
    (done : (then_m, reply) ≡ step m command) where
  -- a command adds at most one pair
  pub point_few : fin.len then_m ≤ fin.len m + 1
  point_few = grind (arith, adds_one_key)

-- some lines were taken into a map: what it and the lines that are unread leave is what all bytes do
pub record IsPackedSoFar (bytes : List ℕ) (m : Map) (place : Place) (unread : Option (List ℕ))
    : Type 0 where
  pub rest : List ℕ
  pub leaves : unread ≡ Some rest
  pub same : after_lines m (read_at place (lines_of rest)) ≡ left_by bytes

-- before the first line
abbrev pub first_place : Place
first_place = record { limit = line_limit; count = 0; mode = None }

all_unread : (left : Option (List ℕ))
    → IfSome left (λ bytes. IsPackedSoFar bytes no_pairs first_place (unread_of [] false left))
all_unread None = tt
all_unread (Some bytes) = record { rest = bytes; leaves = refl; same = refl }

-- lines were gathered into a map, which has at most one key for each line
pub record HasGathered (left : Option (List ℕ)) (m : Map) (place : Place)
    (unread : Option (List ℕ)) : Type 0 where
  pub way : IfSome left (λ bytes. IsPackedSoFar bytes m place unread)
  pub few : fin.len m ≤ place.count
  pub limit : place.limit ≡ line_limit
  pub allowed : place.count ≤ line_limit

-- before the first line nothing was gathered
nothing_gathered : (left : Option (List ℕ))
    → HasGathered left no_pairs first_place (unread_of [] false left)
nothing_gathered left = let e : fin.len no_pairs ≡ 0 = fin.len-empty nat_cmp ℕ in record {
  way = all_unread left;
  few = omega (arith, e);
  limit = refl;
  allowed = omega arith;
}

-- if all is unread, the empty map was gathered
pub none_gathered : (left : Option (List ℕ)) (kept : List ℕ) (ended : Bool) (place : Place)
    (pairs : List Pair) → kept ≡ [] → ended ≡ false → place ≡ first_place → pairs ≡ []
    → HasGathered left (map_of pairs) place (unread_of kept ended left)
none_gathered left kept ended place pairs none going first empty =
    let P = λ (kept : List ℕ) (ended : Bool) (place : Place) (pairs : List Pair).
    HasGathered left (map_of pairs) place (unread_of kept ended left) in
    subst (λ ps. P kept ended place ps) (sym empty)
    (subst (λ p. P kept ended p []) (sym first)
    (subst (λ e. P kept e first_place []) (sym going)
    (subst (λ k. P k false first_place []) (sym none) (nothing_gathered left))))

module _ (m : Map) (old : Place) (unread : Option (List ℕ)) where
  -- one more line
  way_on : (left later : Option (List ℕ)) (then_m : Map) (new : Place) (ended : Bool)
      (number : ℕ) (version : Version) (item : Item)
      → IfSome left (λ bytes. IsPackedSoFar bytes m old unread) → IfSome unread
      (λ bytes. GoesTo old new ended (Good number version item ∷ []) bytes later)
      → ((number : ℕ) (version : Version) (lines : List Read)
      → after_lines m (Good number version item ∷ lines) ≡ after_lines then_m lines)
      → IfSome left (λ bytes. IsPackedSoFar bytes then_m new later)
  way_on None later then_m new ended number version item way goes taken = tt
  way_on (Some bytes) later then_m new ended number version item way goes taken =
      let next : GoesTo old new ended (Good number version item ∷ []) way.rest later =
      subst (λ u. IfSome u
      (λ bytes. GoesTo old new ended (Good number version item ∷ []) bytes later)) way.leaves goes
      in
      record {
        rest = next.rest;
        leaves = next.left;
        same = sym (taken number version (read_at new (lines_of next.rest)))
            ∙ ap (after_lines m) (sym next.reads) ∙ way.same;
      }

  -- a line was taken into the map
  pub line_gathered : (left later : Option (List ℕ)) (then_m : Map) (new : Place) (ended : Bool)
      (number : ℕ) (version : Version) (item : Item) → HasGathered left m old unread → IfSome unread
      (λ bytes. GoesTo old new ended (Good number version item ∷ []) bytes later)
      → (old.count < number) × (new.count ≡ number) → new.count ≤ new.limit → new.limit ≡ old.limit
      → ((number : ℕ) (version : Version) (lines : List Read)
      → after_lines m (Good number version item ∷ lines) ≡ after_lines then_m lines)
      → fin.len then_m ≤ fin.len m + 1 → HasGathered left then_m new later
  line_gathered left later then_m new ended number version item before goes counts high limit taken
      few =
      grind (arith, way_on)

  -- a line is bad
  pub way_bad : (left : Option (List ℕ)) (number : ℕ) (cause : Cause)
      → IfSome left (λ bytes. IsPackedSoFar bytes m old unread)
      → IfSome unread (λ bytes. read_at old (lines_of bytes) ≡ Bad number cause ∷ [])
      → IfSome left (λ bytes. left_by bytes ≡ Refuses number cause)
  way_bad None number cause way bad = tt
  way_bad (Some bytes) number cause way bad = grind arith

-- ---- new tables

-- the words of a new table represent its pairs, and no call
abbrev stands_new : (m : Map) (words : List ℕ) → IsNewTable m words
    → StandsFor words (pairs_of m) []
stands_new m words table = record {
  log = [];
  lawful = record { opens = table.opens; enabled = tt };
  image = table.image;
  resolved = λ caller base change e owner. absurd (start_quiet (pairs_of m) (length words) base
      (Change change) e);
  calls = [];
  told_are = refl;
  at_rest = refl;
  stand = tt;
}

-- a table may begin with this many pairs
pub can_open : (pairs plain : List Pair) (m : Map) (first ideal : ℕ) → pairs ≡ plain
    → plain ≡ pairs_of m → IsRising plain → fin.len m ≤ 2 ^ 24 → first ≡ first_row
    → ideal ≡ ideal_words (length pairs) → ideal ≤ 9 * length pairs → CanOpen pairs (first + ideal)
can_open pairs plain m first ideal same is rising few e f most = grind (arith, length-pairs_of)

-- the image of a table of these pairs, with no word more than they need
pub table_laid : (pairs : List Pair) (m : Map) (words : List ℕ) (count : ℕ) → pairs ≡ pairs_of m
    → CanOpen pairs count → count ≡ first_row + ideal_words (length pairs) → length words ≡ count
    → IsImage (start pairs count) words → ((place : ℕ) → word_at words place < 2 ^ 64)
    → IsNewTable m words
table_laid pairs m words count is opens least size image fit = grind arith

-- they hold its pairs, and are lawful at rest
pub lawful_new : StandingWordsAreLawful → (m : Map) (words : List ℕ) → IsNewTable m words
    → AreLawful words (pairs_of m)
lawful_new law m words table =
    subst (λ pairs. AreLawful words pairs) (pairs_of-map_of (pairs_of m) table.opens.rising)
    (law words (pairs_of m) [] (stands_new m words table))

-- ---- the laws

-- what was packed
due_packed : (bytes dump : List ℕ) → IsOwed Pack bytes dump DONE → IsPacked bytes dump DONE
due_packed bytes dump due = elim due [
  | inl packed ↦ packed
  | inr bad ↦ absurd (omega (arith, bad.status_is))
]

same_left : (m n : Map) (left : Left) → left ≡ Holds m → left ≡ Holds n → m ≡ n
same_left m n left e f = cc (e, f)

-- the dump holds the pairs of the map
pub packed_told : StandingWordsAreLawful → (bytes dump : List ℕ) (m : Map) → left_by bytes ≡ Holds m
    → IsOwed Pack bytes dump DONE
    → (told : DumpContent) × IsLawfulDump dump told × (told.pairs ≡ pairs_of m)
packed_told law bytes dump m is due = let packed = due_packed bytes dump due in
    let words = packed.words in (
      record {
        words = length words;
        used = word_at words next_place;
        pairs = pairs_of packed.m;
      },
      record {
        table = words;
        fit = packed.table.fit;
        lawful = lawful_new law packed.m words packed.table;
        dumped = packed.text_is;
        words = refl;
        used = refl;
      },
      ap pairs_of (same_left packed.m m (left_by bytes) packed.left is),
    )

-- and a list has an interval of them
pub packed_listed : StandingWordsAreLawful → LawfulWordsBreakNowhere → PairsAreOne
    → (bytes dump text : List ℕ) (m : Map) (first last status : ℕ) → left_by bytes ≡ Holds m
    → IsOwed Pack bytes dump DONE → IsOwed (Tell (Between first last)) dump text status
    → (status ≡ DONE) × (text ≡ flat_map (pair_text One) (listed first last m))
packed_listed law nowhere one bytes dump text m first last status is due answer =
    let told = packed_told law bytes dump m is due in
    elim answer [
      | inl a ↦ (
        a.status_is,
        a.text_is
            ∙ ap (λ (t : DumpContent). flat_map (pair_text One) (pairs_between first last t.pairs))
            (one_told one dump a.told told.0 a.lawful told.1)
            ∙ ap (λ ps. flat_map (pair_text One) (pairs_between first last ps)) told.2,
      )
      | inr f ↦ absurd (no_flaw dump told.0 told.1 nowhere f.flaw f.first)
    ]
