-- Laws of the steps that the program's loops make, and of the text that it reads.
mod Steps
mod Fronts
