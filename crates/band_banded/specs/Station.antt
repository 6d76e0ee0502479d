-- The bench station beside a caller who gives lists (document 02, request 07): what each answers to the same outline,
-- tolerance, number of pieces and lent list. No contract cites this; `station_agrees` of
-- crates/band/proofs/Station.antt proves it.
use Rattle.std.specs.Prelude.{◌≡◌, ◌↔◌, List, ℕ, ◌*◌, ◌≤◌, ◌<◌, length, ℤ, Err}
use Rattle.setting.specs.Setting.{lists, station, record_length}
use Rattle.refusals.specs.declared.Refusal.TheVariants.{TooManyLeaves}
use Rattle.band_banded.specs.Banding.{done, banded, written}

pub record StationAgrees (m : ℕ) (T : ℤ) (ns old : List ℤ) : Type 0 where
  -- the station accepts exactly what lists accept with at most 64 curves and 128 leaves, and reports the same
  pub accepts : (a b c : ℕ) → (banded (station m) T ns (length old) ≡ done a b c)
      ↔ ((banded (lists m) T ns (length old) ≡ done a b c) × (a ≤ 64) × (b ≤ 128))
  -- and then the lent list is left the same, with the same records
  pub writes : (a b c : ℕ) → banded (station m) T ns (length old) ≡ done a b c
      → written (station m) T ns old ≡ written (lists m) T ns old
  -- 19 with spot l, whatever is lent, exactly where lists with room for l leaves accept with at most 64 curves and
  -- l leaves, and these are more than 128
  pub refuses : (l : ℕ) → (banded (station m) T ns (length old) ≡ Err (TooManyLeaves l))
      ↔ ((a : ℕ) × (c : ℕ) × (banded (lists m) T ns (record_length (lists m) * l) ≡ done a l c) × (a ≤ 64) × (128 < l))
