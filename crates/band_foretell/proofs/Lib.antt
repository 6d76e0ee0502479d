-- Laws of foretelling's code. Each file opens with what it holds.
mod Alike
mod Descent
mod PremiseLaws
mod BendingLaws
mod GapsLaws
mod Telling
