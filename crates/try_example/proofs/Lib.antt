pub mod ExchangeLemmas
pub mod OwnerLemmas
pub mod RaiseLemmas
