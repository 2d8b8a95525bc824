-- A frame gives its body back; which bytes are frames; damage.
pub mod Frames
pub mod Theorems
pub mod Damage
