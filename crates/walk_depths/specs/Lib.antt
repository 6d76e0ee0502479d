-- What a reader must believe of how deep a walk goes: the premise of the depth claim (Premise), and the depth of a
-- curve (Depth).
pub mod Premise
pub mod Depth
