-- Laws of the checks of a leaf list: `Pieces` of the number of pieces, `Numbers` goes through it box by box and record by record.
pub mod Pieces
pub mod Numbers
