use Rattle.laws_calls.proofs.WalkLemmas.{chain_rows, meeting_comes, meeting_on, met_chain, search_meets, upper_rows, walked_chain}
use Rattle.laws_calls.proofs.walks.met_rows_are_the_chain.Goals as goal

pub returns : goal.returns
returns c = record {
  some = search_meets;
  search = meeting_comes;
  on = meeting_on;
  met = λ pairs words log l key began last node rows since comes.
      met_chain pairs words l.opens log l.enabled key began last node rows comes;
  walked = λ pairs words at log l on node rows walk.
      walked_chain pairs words l.opens log at l.enabled on node rows walk;
  rows = chain_rows;
  upper = upper_rows;
}
