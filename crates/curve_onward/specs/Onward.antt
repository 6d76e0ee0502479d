-- Only the contracts of functions inside cite this page; nothing of it is part of a public promise. One coordinate
-- carried on past its end, over the stretch of parameters that follows its own and is 2^k times as long: what the code
-- computes. From a node's coordinate it makes another node's, exactly (`onward_is`, proofs/Onward.antt).
use Rattle.std.specs.Prelude.{List, ℕ, zero, suc, ◌*◌, ◌^◌, ℤ, ◌+ℤ◌, ◌-ℤ◌}
use Rattle.std.specs.Int.Signed.{shr_z}
use Rattle.setting.specs.Setting.{most_degree}
use Rattle.integers.specs.Entry.{entry}
use Rattle.curve_halves.specs.Halves.{listed}

-- the forward difference of a sequence: from number i to the next
abbrev pub forward_difference : (ℕ → ℤ) → ℕ → ℤ
forward_difference f i = f (suc i) -ℤ f i

-- the forward differences of a coordinate's control values
abbrev pub forward_differences : List ℤ → List ℤ
forward_differences cs = listed most_degree (forward_difference (entry cs))

-- the sequence that begins with z and has the forward differences f
unfoldable pub accumulated : ℤ → (ℕ → ℤ) → ℕ → ℤ
accumulated z f zero = z
accumulated z f (suc i) = accumulated z f i +ℤ f i

-- Control value i of a coordinate of degree d, at a depth less by k. The first is where the coordinate ends, and their
-- forward differences are those of the coordinate, whose degree is one less, carried on.
unfoldable pub onward_at : ℕ → ℕ → (ℕ → ℤ) → ℕ → ℤ
onward_at zero k f i = f 0
onward_at (suc n) k f i = accumulated (shr_z (f (suc n)) (2 ^ (suc n * k))) (onward_at n k (forward_difference f)) i

unfoldable pub onward : ℕ → ℕ → List ℤ → List ℤ
onward d k cs = listed (suc d) (onward_at d k (entry cs))
