-- The words of a line: the place after one that was found is a machine number.
use mathlib.Core.Path.{◌≡◌}
use mathlib.Core.Bool.{Bool, true}
use mathlib.Core.List.{List}
use Prim.Native.Nat.{ℕ, ◌+◌, ◌<◌, ◌^◌}
use native.Mathlib.Omega.{arith}
use lib.ListN.{length}
use mir.Syntax.{w64}
use mir.Val.{Fits}
use Rattle.text_forms.specs.Pairs.{word_at}
use Rattle.text_forms.proofs.PairWords.{word_fits}
use Rattle.text_forms.specs.Forms.{tolerance_word, curve_word, point_word, closing}

module _ (s : List ℕ) (i : ℕ) (r : Bool) where
  pub tolerance_fits : r ≡ word_at tolerance_word s i → r ≡ true → length s < 2 ^ 64 → Fits w64 (i + 11)
  tolerance_fits e t h = word_fits s i r tolerance_word e t h (omega arith)

  pub curve_fits : r ≡ word_at curve_word s i → r ≡ true → length s < 2 ^ 64 → Fits w64 (i + 6)
  curve_fits e t h = word_fits s i r curve_word e t h (omega arith)

  pub point_fits : r ≡ word_at point_word s i → r ≡ true → length s < 2 ^ 64 → Fits w64 (i + 6)
  point_fits e t h = word_fits s i r point_word e t h (omega arith)

  pub closing_fits : r ≡ word_at closing s i → r ≡ true → length s < 2 ^ 64 → Fits w64 (i + 2)
  closing_fits e t h = word_fits s i r closing e t h (omega arith)
