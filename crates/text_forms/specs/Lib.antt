-- A line of a text: its three forms, and the words and pairs of numbers that they are made of.
pub mod Pairs
pub mod Forms
