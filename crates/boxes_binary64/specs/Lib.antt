-- What a reader must believe of boxes handed out in binary64 (Boxes). Theorems speak of the box that is regained from
-- each form (Regained).
pub mod Boxes
pub mod Regained
