-- Which numbers can be read.
use mathlib.Core.Path.{◌≡◌}
use mathlib.Core.List.{List}
use Prim.Native.Nat.{ℕ, ◌≤◌}
use Rattle.std.specs.Prelude.{Some}
use Rattle.std.proofs.Common.{arith}
use Rattle.std.proofs.lemmas.Grind.{common_steps}
use Rattle.std.proofs.lemmas.Bool.Decides.{nat_tests}
use Rattle.text_numbers.specs.Numerals.{natural_at}

-- a natural that was read is at most 2^31
pub natural_small : (s : List ℕ) (i v next : ℕ) → natural_at s i ≡ Some (v, next) → v ≤ 2147483648
unfolding natural_at
natural_small s i v next e = grind (arith, common_steps, nat_tests)
