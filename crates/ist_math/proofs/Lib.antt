pub mod SizeLemmas
pub mod ChildLemmas
pub mod QuotientLemmas
pub mod GallopLemmas
pub mod RootLemmas
