-- Path commands by cells, and by points of two floats; what is claimed of an outline's drawing, and of a reply.
pub mod Drawing
pub mod Points
pub mod Claims
pub mod Named
