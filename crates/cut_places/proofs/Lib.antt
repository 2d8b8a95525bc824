-- Sums of cut places; the corners' places in the border.
pub mod CutLaws
pub mod ReadLaws
