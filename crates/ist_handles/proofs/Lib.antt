pub mod PairLemmas
pub mod SendLemmas
pub mod RisingLemmas
pub mod ShotPieceLemmas
pub mod UptoLemmas
pub mod ValueLemmas
