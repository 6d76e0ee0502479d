-- What a caller may conclude of an arch with its chord: at T 44 two curves of a leaf each, at T 8 one of four and one of one.
use mathlib.Core.Path.{◌≡◌, refl, ◌∙◌, ap}
use mathlib.Core.List.{List, [], ◌∷◌}
use Prim.Native.Nat.{ℕ, ◌*◌}
use lib.ListN.{take, replicate}
use lib.IntN.{ℤ, pos}
use Rattle.std.specs.Prelude.{Ok}
use Rattle.setting.specs.Setting.{lists}
use Rattle.outline.specs.Checks.{outlined}
use Rattle.band_passes.specs.Leaves.{curves_of}
use Rattle.band_banded.specs.Banding.{done, banded, written}
use Rattle.band_banded.proofs.Computing.{computing}
use Rattle.quote_price.specs.Price.{total}
use Rattle.quote_price.specs.Quote.{quoted}
use Rattle.quote_outline.specs.Curves.{curve_costs}
use Rattle.quote_outline.proofs.Theorems.{quote_of_outline}

abbrev bow : List ℤ
bow = pos 3 ∷ pos 0 ∷ pos 0 ∷ pos 10 ∷ pos 30 ∷ pos 20 ∷ pos 30 ∷ pos 30 ∷ pos 0 ∷ pos 1 ∷ pos 30 ∷ pos 0 ∷ pos 0 ∷ pos 0 ∷ []

abbrev lent : List ℤ
lent = replicate 100 (pos 7)

bow_at : (T : ℤ) (l n s : ℕ) → banded (lists 3) T bow 100 ≡ done 2 l n → curve_costs (lists 3) T (curves_of (outlined 4096 3 bow)) ≡ s
    → quoted (lists 3) (take (18 * l) (written (lists 3) T bow lent)) ≡ Ok (total s)
bow_at T l n s said costs = quote_of_outline 3 T bow lent 2 l n said ∙ ap (λ c. Ok (total c)) costs

pub bow_44 : quoted (lists 3) (take 36 (written (lists 3) (pos 44) bow lent)) ≡ Ok 315
unfolding computing curve_costs
bow_44 = bow_at (pos 44) 2 2 280 refl refl

pub bow_8 : quoted (lists 3) (take 90 (written (lists 3) (pos 8) bow lent)) ≡ Ok 394
unfolding computing curve_costs
bow_8 = bow_at (pos 8) 5 8 350 refl refl
