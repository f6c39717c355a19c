-- An exchange of the first free word, once that word was read. Serves `take` and `take_all`.
use Rattle.std.proofs.Common.{◌≡◌, ◌≢◌, ◌∙◌, ℕ, ◌+◌, ◌-◌, ◌<◌, ◌≤◌, ◌^◌, List, length, sym, ap, subst, arith}
use Rattle.std.specs.List.{sum}
use Rattle.ist_core.specs.declared.events.Who.TheVariants.{Caller}
use Rattle.ist_core.specs.WordTerms.{next_place, place_limit}
use Rattle.ist_rule.specs.RuleTerms.{CanExchange, Logged, Looked, number_of}
use Rattle.ist_rule.specs.declared.view.View.{View}
use Rattle.ist_rule.specs.Several.{CanExchangeAll, LoggedAll}
use Rattle.ist_rule.proofs.EventLemmas.{goes_on_who}
use Rattle.ist_rows.specs.RowTerms.{MayTakeAll, ReservedAll, reservings, MayTake, reserving, HasReadNext, IsFull, Reserved}
use Rattle.ist_rows.proofs.BlockLemmas.{can_reserve_all, may_take_all_on}
use Rattle.ist_rows.proofs.ReserveLemmas.{can_reserve, looked_next, may_take_on, next_low, next_risen, read_on, reserving_is}

module _ (v u : View) (next : ℕ) (r : HasReadNext v next u) where
  -- the first free word and this many words after it fit a word
  pub next_fits : (size : ℕ) → size < 2 ^ 32 → next + size < 2 ^ 64
  next_fits size small = let low = next_low u r.looked.sound in let free = low.0 in
      let all = low.1 in let is = looked_next r.before next u r.looked in omega arith

  -- if another word is found, fewer words are free
  pub fewer_free : (w : View) (found : ℕ) → Looked u next_place found w → found ≢ next
      → place_limit - found < place_limit - next
  fewer_free w found other ne = let more = next_risen r.before u w next found r.looked other ne in
      let there = looked_next u found w other in let low = next_low w other.sound in
      let most = low.0 in let all = low.1 in omega arith

  -- if too few words are left after it, nothing is reserved
  pub is_full : (words left size : ℕ) → left ≡ words → left < next + size
      → IsFull v words size record { next = next; asked = size; words = left } u
  is_full words left size is small = grind arith

  module _ (number : ℕ) (who : v.who ≡ Caller number) where
    mine : u.who ≡ Caller number
    mine = goes_on_who (read_on v next u r) ∙ who

    same_words : u.words ≡ v.words
    same_words = ap (λ (x : View). x.words) (read_on v next u r).same

    -- ---- one row

    -- the exchange may be the reserving of a row that fits
    pub may_reserve : (size : ℕ) → MayTake v number size → next + size ≤ v.words
        → CanExchange u next_place next (next + size) (reserving u next (next + size))
    may_reserve size fair room = let same = same_words in
        subst (CanExchange u next_place next (next + size))
        (sym (reserving_is u number next size mine))
        (can_reserve u number next size r.looked.sound mine (omega arith)
        (may_take_on v u number size (read_on v next u r) fair))

    -- if it was made, the row is reserved
    pub has_reserved : (size : ℕ) (w : View) → Logged u (reserving u next (next + size)) w
        → Reserved v number next size w
    has_reserved size w l = record {
      before = u;
      seen = read_on v next u r;
      reserved = subst (λ event. Logged u event w) (reserving_is u number next size mine) l;
    }

    -- ---- all rows of a build

    -- the exchange may be the reservings of rows that fit
    pub may_reserve_all : (sizes : List ℕ) (asked : ℕ) → asked ≡ sum sizes → 1 ≤ length sizes
        → MayTakeAll v number sizes → next + asked ≤ v.words
        → CanExchangeAll u next_place next (next + asked) (reservings (number_of u.who) next sizes)
    may_reserve_all sizes asked is several fair room = let same = same_words in
        subst (λ n. CanExchangeAll u next_place next (next + asked) (reservings n next sizes))
        (sym (ap number_of mine))
        (subst (λ n. CanExchangeAll u next_place next (next + n) (reservings number next sizes))
        (sym is)
        (can_reserve_all u number next sizes mine several (omega arith)
        (may_take_all_on v u number sizes (read_on v next u r) fair)))

    -- if they were made, the rows are reserved
    pub have_reserved : (sizes : List ℕ) (w : View)
        → LoggedAll u (reservings (number_of u.who) next sizes) w
        → ReservedAll v number next sizes w
    have_reserved sizes w l = record {
      before = u;
      seen = read_on v next u r;
      reserved = subst (λ n. LoggedAll u (reservings n next sizes) w) (ap number_of mine) l;
    }
