-- The curve of a node, one coordinate at a time: its control values are a list, halved down from the list of node 1.
use mathlib.Core.Path.{◌≡◌, sym, ◌∙◌, ap, ap₂}
use mathlib.Core.List.{List}
use Prim.Native.Nat.{ℕ, ◌+◌, ◌*◌, ◌<◌}
use lib.IntN.{ℤ}
use Rattle.curve_nodes.specs.declared.Curve.{Curve}
use Rattle.curve_halves.specs.Halves.{padded}
use Rattle.curve_nodes.specs.Nodes.{descend, half_of, node_curve}
use Rattle.curve_nodes.proofs.Nodes.{descend_one, descend_half, node_induction}
use Rattle.curve_nodes.proofs.Numbers.{node_one, node_half}
use Rattle.curve_halves.proofs.Values.{half}
use Rattle.curve_nodes.proofs.Values.{curve_half}

module _ (d : ℕ) (cs : List ℤ) where
  -- the control values of node n, from those `cs` of node 1
  pub node_values : ℕ → List ℤ
  node_values n = descend cs (λ b hs. padded (half b d hs)) n

  pub values_one : node_values 1 ≡ cs
  unfolding node_values
  values_one = descend_one cs (λ b hs. padded (half b d hs))

  pub values_half : (n b : ℕ) → 0 < n → b < 2 → node_values (2 * n + b) ≡ padded (half b d (node_values n))
  unfolding node_values
  values_half = descend_half cs (λ b hs. padded (half b d hs))

pub node_curve_law : (c : Curve) (n : ℕ) → 0 < n
    → node_curve c n ≡ record { degree = c.degree; x = node_values c.degree c.x n; y = node_values c.degree c.y n }
node_curve_law c = node_induction (λ n. node_curve c n ≡ with_values (node_values c.degree c.x n) (node_values c.degree c.y n))
    (node_one c ∙ ap₂ with_values (sym (values_one c.degree c.x)) (sym (values_one c.degree c.y)))
    (λ n b hn hb e. node_half c n b hn hb ∙ ap (half_of b) e
    ∙ curve_half b (with_values (node_values c.degree c.x n) (node_values c.degree c.y n))
    ∙ ap₂ with_values (sym (values_half c.degree c.x n b hn hb)) (sym (values_half c.degree c.y n b hn hb)))
  where
    with_values : List ℤ → List ℤ → Curve
    with_values xs ys = record { degree = c.degree; x = xs; y = ys }

pub node_degree : (c : Curve) (n : ℕ) → 0 < n → (node_curve c n).degree ≡ c.degree
node_degree c n h = ap (λ a. a.degree) (node_curve_law c n h)
