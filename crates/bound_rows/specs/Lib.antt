-- What a reader must believe of the rows: document 01's rows of three pieces, the polynomials, what it means that a row
-- bounds its polynomial when joined by lines, document 01's claim that each does, the table of one to eight pieces, and
-- its rule.
pub mod Rows
pub mod Antidifferences
pub mod Joined
pub mod Claim
pub mod Table
pub mod Rule
