-- What the layers' sections mean, and that the model determines its replies.
pub mod Sections
pub mod Once
