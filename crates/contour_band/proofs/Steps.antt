-- What a step is known to be, and what step after step moves: the front of a list, which a reader gave or a writer gets.
use Rattle.std.proofs.Common.{◌≡◌, ℕ, ◌+◌, ◌≤◌, List, length, take, drop, sym, subst, ◌∙◌, le_refl, take_all}
use lib.Seq.{take-add}
use Rattle.std.specs.declared.io.Error.{Error}
use Rattle.std.specs.declared.option.Option.{Option}
use Rattle.std.specs.declared.option.Option.TheVariants.{Some, None}
use Rattle.std.specs.declared.result.Result.{Result}
use Rattle.std.specs.declared.result.Result.TheVariants.{Ok, Err}
use Rattle.std.specs.Prelude.{OnOk, OnErr}
use Rattle.std.specs.Io.KnownBytes.{Appends, Consumes, Keeps}
use Rattle.std.proofs.KnownBytes.{Consumes-trans, Appends-trans, Appends-kept}
use Rattle.contour_band.specs.Steps.{Fits, Idle, InputFits}
use Rattle.contour_band.specs.Bytes.{AppendsFront}

-- what is known of a step, and of a text, once it is known which kind it has
pub idle_fits : (s : Result (Option ℕ) Error) (i n : ℕ) → Idle s → Fits s i n
idle_fits (Ok (Some _)) i n idle = elim idle [ ]
idle_fits (Ok None) i n idle = tt
idle_fits (Err error) i n idle = tt

pub moved_fits : (s : Result (Option ℕ) Error) (k i n : ℕ) → s ≡ Ok (Some k) → Fits s i n → i + k ≤ n
moved_fits s k i n e fits = subst (λ (x : Result (Option ℕ) Error). Fits x i n) e fits

pub text_fits : (r : Result ℕ Error) (k n : ℕ) → r ≡ Ok k → InputFits r n → k ≤ n
text_fits r k n e holds = subst (λ (x : Result ℕ Error). InputFits x n) e holds

-- a step that read moved k bytes to the places behind the first n, which it left
pub reads_more : (a b c : Option (List ℕ)) (old new : List ℕ) (n k : ℕ) → take n new ≡ take n old → Consumes a b (take n old)
    → Consumes b c (take k (drop n new)) → Consumes a c (take (n + k) new)
reads_more a b c old new n k front before step =
    subst (Consumes a c) (sym (take-add n k new))
    (Consumes-trans a b c _ _ (subst (Consumes a b) (sym front) before) step)

-- a step that wrote took k bytes behind the first n
pub writes_more : (a b c : Option (List ℕ)) (xs : List ℕ) (n k : ℕ) → Appends a b (take n xs) → Appends b c (take k (drop n xs))
    → Appends a c (take (n + k) xs)
writes_more a b c xs n k before step = subst (Appends a c) (sym (take-add n k xs)) (Appends-trans a b c _ _ before step)

-- a writer that is flushed has what it got, whether or not that failed
pub flushed_whole : {T E : Type 0} (r : Result T E) (a b c : Option (List ℕ)) (xs ys : List ℕ) → xs ≡ ys → Appends a b xs → Keeps b c
    → OnOk r (Appends a c ys)
flushed_whole (Ok t) a b c xs ys e got kept = subst (Appends a c) e (Appends-kept a b c xs got kept)
flushed_whole (Err f) a b c xs ys e got kept = tt

pub flushed_part : {T E : Type 0} (r : Result T E) (a b c : Option (List ℕ)) (xs ys : List ℕ) → xs ≡ ys → Appends a b xs → Keeps b c
    → OnErr r (AppendsFront a c ys)
flushed_part (Ok t) a b c xs ys e got kept = tt
flushed_part (Err f) a b c xs ys e got kept =
    (length ys, subst (Appends a c) (e ∙ sym (take_all (length ys) ys (le_refl _))) (Appends-kept a b c xs got kept))

-- a writer that failed has a front of what it was to get
pub failed_part : {T E : Type 0} (r : Result T E) (a b : Option (List ℕ)) (xs ys : List ℕ) → xs ≡ ys → AppendsFront a b xs
    → OnErr r (AppendsFront a b ys)
failed_part (Ok t) a b xs ys e got = tt
failed_part (Err f) a b xs ys e got = subst (AppendsFront a b) e got
