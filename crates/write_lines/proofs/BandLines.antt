-- Writing the lines of a band that is done: there is room for the report, and both parts together are the lines.
use mathlib.Core.Path.{◌≡◌}
use mathlib.Core.List.{List}
use Prim.Native.Nat.{ℕ, ◌+◌, ◌*◌, ◌≤◌}
use native.Mathlib.Omega.{arith}
use lib.ListN.{length}
use lib.IntN.{ℤ}
use Rattle.write_numbers.specs.Appends.{PutWithin}
use Rattle.write_numbers.proofs.Appends.{within_both}
use Rattle.write_lines.specs.Answers.{done_line}
use Rattle.write_leaves.specs.Leaves.{leaf_lines}
use Rattle.write_lines.specs.BandLines.{band_lines}
use Rattle.write_lines.specs.Inside.{RoomFor}

pub room_done : (leaves records out : ℕ) → RoomFor leaves records out → (d xs o : List ℕ) (i : ℕ) → length o ≡ out → PutWithin d 0 (231 * leaves) xs o i
    → i + 70 ≤ length o
room_done leaves records out room d xs o i z a = omega (arith, a.small, room.room)

pub done_lines : (curves leaves nodes : ℕ) (ns : List ℤ) (d o u : List ℕ) (j k : ℕ) → PutWithin d 0 (231 * leaves) (leaf_lines ns leaves) o j
    → PutWithin o j 70 (done_line curves leaves nodes) u k → PutWithin d 0 (231 * leaves + 70) (band_lines curves leaves nodes ns) u k
unfolding band_lines
done_lines curves leaves nodes ns d o u j k p q = within_both p q
