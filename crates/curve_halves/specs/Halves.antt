-- One coordinate halved by the de Casteljau step at 1/2, exactly (document 01, "Halving"). The d + 1 control values of
-- a coordinate of degree d are a list; those of a half are the exact ones times 2^d.
use Rattle.std.specs.Prelude.{List, [], ◌∷◌, ℕ, zero, suc, ◌-◌, ℤ, pos, ◌+ℤ◌, ◌*ℤ◌}
use Rattle.std.proofs.Math.IntN.{pow}
use Rattle.setting.specs.Setting.{control_values}
use Rattle.integers.specs.Entry.{entry}

-- f 0, f 1, .., n numbers in all
abbrev pub listed : ℕ → (ℕ → ℤ) → List ℤ
listed zero f = []
listed (suc n) f = f 0 ∷ listed n (λ k. f (suc k))

-- Line j of de Casteljau's triangle at place i: each number is the sum of its two neighbours in the line before, so it
-- is 2^j times the midpoint.
unfoldable pub triangle : List ℤ → ℕ → ℕ → ℤ
triangle cs zero i = entry cs i
triangle cs (suc j) i = triangle cs j i +ℤ triangle cs j (suc i)

-- the left half: the first numbers of the lines 0 to d, each times 2^d
unfoldable pub left : ℕ → List ℤ → List ℤ
left d cs = listed (suc d) (λ k. pow (pos 2) (d - k) *ℤ triangle cs k 0)

-- the right half: the last numbers of the lines d to 0, each times 2^d
unfoldable pub right : ℕ → List ℤ → List ℤ
right d cs = listed (suc d) (λ k. pow (pos 2) k *ℤ triangle cs (d - k) k)

-- the d + 1 control values in reverse order (document 02, request 02)
abbrev pub reversed : ℕ → List ℤ → List ℤ
reversed d cs = listed (suc d) (λ k. entry cs (d - k))

-- the control values as they are kept: those past the end are zero
abbrev pub padded : List ℤ → List ℤ
padded cs = listed control_values (entry cs)
