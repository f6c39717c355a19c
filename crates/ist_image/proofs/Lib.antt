pub mod PlacingSizeLemmas
pub mod PlacingLemmas
pub mod PlacedLemmas
pub mod SettingLemmas
pub mod RisingLemmas
pub mod CutLemmas
