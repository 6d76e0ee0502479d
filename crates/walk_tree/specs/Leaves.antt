-- What a leaf is, and the stretch of parameters of a node (document 01, "Halving" and "Enclosure rows"). Nothing here
-- fixes the test of a node or how many halvings there may be.
use Rattle.std.specs.Prelude.{◌≡◌, Bool, true, false, List, [], ◌∷◌, ℕ, ◌+◌, ◌*◌, ◌/◌, ◌^◌, ◌≤◌, ◌<◌}
use Rattle.curve_nodes.specs.Nodes.{depth, start}

-- a is one of the longer stretches that n was halved from
pub record Ancestor (a n : ℕ) : Type 0 where
  pub node : 0 < a
  pub halvings : ℕ
  pub some : 0 < halvings
  pub is : a ≡ n / 2 ^ halvings

-- A stretch is a leaf exactly when it meets the tolerance and none of the longer stretches it was halved from does.
pub record Leaf (test : ℕ → Bool) (n : ℕ) : Type 0 where
  pub node : 0 < n
  pub passes : test n ≡ true
  pub longest : (a : ℕ) → Ancestor a n → test a ≡ false

-- The stretch of node n has the parameter p / (p + r), its two ends included.
pub record Spans (n p r : ℕ) : Type 0 where
  pub from : start n * (p + r) ≤ 2 ^ depth n * p
  pub to : 2 ^ depth n * p ≤ (start n + 1) * (p + r)

-- The stretches of the nodes lie end to end, from the parameter s / w to the parameter t / u: each begins where the one
-- before ends.
pub data EndToEnd : (s w : ℕ) → List ℕ → (t u : ℕ) → Type 0 where
  done : {s w t u : ℕ} → s * u ≡ t * w → EndToEnd s w [] t u
  next : {s w n t u : ℕ} {ns : List ℕ} → s * 2 ^ depth n ≡ start n * w → EndToEnd (start n + 1) (2 ^ depth n) ns t u
      → EndToEnd s w (n ∷ ns) t u
