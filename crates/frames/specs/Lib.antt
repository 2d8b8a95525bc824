-- The frame of a body, the replies of both calls, and the damage that is refused.
pub mod Frame
pub mod Damage
