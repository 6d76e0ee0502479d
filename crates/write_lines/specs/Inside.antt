-- Only the contract of `put_band` cites this page, a step of the answer to a text: what it asks of its caller.
use Rattle.std.specs.Prelude.{ℕ, ◌+◌, ◌*◌, ◌≤◌}

-- all leaves stand in the records, and there is room for their lines
pub record RoomFor (leaves records out : ℕ) : Type 0 where
  pub stand : 18 * leaves ≤ records
  pub room : 231 * leaves + 70 ≤ out
