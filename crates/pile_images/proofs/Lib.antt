-- The border of a layer's outline goes round the layer's rows; what rows are; saves and restores.
pub mod LayerRows
pub mod FindLaws
pub mod SaveLaws
pub mod RestoreLaws
