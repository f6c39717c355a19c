pub mod RisingLemmas
pub mod PlaceLemmas
