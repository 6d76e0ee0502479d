-- The numbers of an answer, beside the list that an operation leaves.
use mathlib.Core.Path.{◌≡◌, ◌∙◌, ap}

-- b is the numbers of the answer a, and a and the list o are as the operation says
pub numbers_beside : {A B L : Type 0} (f : A → B) {a a' : A} {b : B} {o o' : L} → b ≡ f a → (a ≡ a') × (o ≡ o') → (b ≡ f a') × (o ≡ o')
numbers_beside f e r = (e ∙ ap f r.0, r.1)
