-- A text that is longer than a text may be has the answer of its first bytes, one more than it may have.
use Rattle.std.proofs.Common.{◌≡◌, ℕ, ◌<◌, ◌≤◌, ◌⊎◌, inl, inr, Bool, true, List, Some, None, IfSome, length, take, sym, ap, subst, ◌∙◌, arith, length-take, take_all}
use Rattle.std.specs.Prelude.{cond}
use Rattle.std.proofs.lemmas.Bool.{cases_lt, lt-ltb}
use Rattle.std.specs.declared.option.Option.{Option}
use Rattle.text_lines.specs.Meaning.{meaning}
use Rattle.text_answers.specs.Answers.{answer_of, answer_to}

-- a choice whose test is passed
chosen : {A : Type 0} (b : Bool) (x y : A) → b ≡ true → cond b x y ≡ x
chosen b x y e = ap (λ c. cond c x y) e

-- what a text means that is too long goes by its size alone
same_meaning : (s t : List ℕ) → 16384 < length s → 16384 < length t → meaning s ≡ meaning t
unfolding meaning
same_meaning s t h k = chosen _ _ _ (lt-ltb 16384 (length s) h) ∙ sym (chosen _ _ _ (lt-ltb 16384 (length t) k))

pub answer_of_front : (s : List ℕ) → answer_of (take 16385 s) ≡ answer_of s
unfolding answer_of
answer_of_front s = ap answer_to (of_size (cases_lt 16384 (length s)))
  where
    of_size : (16384 < length s) ⊎ (length s ≤ 16384) → meaning (take 16385 s) ≡ meaning s
    of_size (inl long) = same_meaning (take 16385 s) s (omega (arith, length-take 16385 s)) long
    of_size (inr short) = ap meaning (take_all 16385 s (omega arith))

-- what holds of the answer to the text that was read holds of the answer to all that the reader had
pub of_front : (known : Option (List ℕ)) (text list : List ℕ) (P : List ℕ → Type 0) → length list ≡ 16385
    → IfSome known (λ xs. text ≡ take (length list) xs) → P (answer_of text) → IfSome known (λ xs. P (answer_of xs))
of_front None text list P size front holds = tt
of_front (Some xs) text list P size front holds =
    subst P (ap answer_of (front ∙ ap (λ m. take m xs) size) ∙ answer_of_front xs) holds
