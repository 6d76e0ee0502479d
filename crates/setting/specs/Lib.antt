-- What a reader must believe of a setting: what it chooses, and the sizes that follow.
pub mod Setting
