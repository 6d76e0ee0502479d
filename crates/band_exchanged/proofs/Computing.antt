-- What examples of exchanging compute through: with `unfolding computing` they hold by computation.
use mathlib.Core.List.{List}
use Prim.Native.Nat.{ℕ}
use lib.IntN.{ℤ}
use Rattle.setting.specs.Setting.{Setting}
use Rattle.band_banded.proofs.Computing.{computing as banding}
use Rattle.band_exchanged.specs.Exchange.{first_different, other_records, exchanged, exchanged_list}

-- the list that exchanging leaves
unfoldable pub computing : Setting → ℤ → List ℤ → ℕ → List ℤ → ℕ → List ℤ → List ℤ
unfolding banding first_different other_records exchanged exchanged_list
computing = exchanged_list
