-- A text: its lines, and what they mean or which refusal they get; and, inside, its checks as the code makes them.
pub mod Lines
pub mod Meaning
pub mod Inside
