pub mod KnownLemmas
pub mod SizeLemmas
pub mod BeatenLemmas
pub mod RootLemmas
pub mod FilledLemmas
pub mod SeenLemmas
pub mod FurtherLemmas
