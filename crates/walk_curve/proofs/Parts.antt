-- Where a walk stands, a part of a curve: the curve itself, the left half of a part, the part after one, and what the walk asks of a part.
use mathlib.Core.Path.{◌≡◌, refl, sym, ◌∙◌, ap, ap₂}
use mathlib.Core.Logic.{⊎_elim}
use mathlib.Core.Bool.{Bool, true, false}
use Prim.Native.Nat.{ℕ, suc, ◌+◌, ◌*◌, ◌^◌, ◌≤◌, ◌<◌}
use native.Mathlib.Nat.{div-le_self, pow-suc}
use native.Mathlib.Omega.{arith}
use lib.Pow.{pow_pos}
use lib.Count.{count_trailing_zeros}
use lib.IntN.{ℤ}
use Rattle.setting.specs.Setting.{Setting, deepest, greatest_node}
use Rattle.setting.proofs.Depths.{deepest_low, deepest_high, deepest_few}
use Rattle.curve_nodes.specs.declared.Curve.{Curve}
use Rattle.curve_nodes.specs.Inside.{onward_of, Halvable}
use Rattle.curve_nodes.specs.Halves.{left_half}
use Rattle.curve_nodes.specs.Nodes.{depth, node_curve, after}
use Rattle.curve_nodes.specs.Bounds.{Sized}
use Rattle.curve_nodes.proofs.Numbers.{depth_under, node_one, node_half, after_shifted}
use Rattle.curve_nodes.proofs.Coordinates.{node_degree}
use Rattle.curve_nodes.proofs.Sizes.{node_sized, node_halvable}
use Rattle.curve_nodes.proofs.Onward.{NextStretch, next_stretch, few_zeros, node_onward}
use Rattle.bound_node.specs.Boxes.{meets}
use Rattle.bound_tolerance.specs.declared.Tested.{Tested}
use Rattle.bound_tolerance.specs.declared.Tested.TheVariants.{Narrow, Wide}
use Rattle.bound_tolerance.specs.Verdicts.{VerdictRight}
use Rattle.walk_curve.specs.declared.Part.{Part}
use Rattle.walk_curve.specs.Inside.{PartOf, Standing, left_part, AfterOf}
use Rattle.walk_curve.specs.Walked.{node_meets}

-- node n with curve c
abbrev pub part : ℕ → Curve → Part
part n c = record { node = n; curve = c }

pub part_whole : {c : Curve} → Sized 0 c → PartOf c (part 1 c)
part_whole {c} h = record {
  sized = h;
  some = omega arith;
  deep = omega (arith, pow-suc 2 (deepest c.degree), pow_pos (deepest c.degree));
  is = sym (node_one c);
}

module _ {root : Curve} {p : Part} (h : PartOf root p) where
  pub part_sized : Sized (depth p.node) p.curve
  part_sized = rw h.is (node_sized h.sized p.node h.some)

  pub part_degree : p.curve.degree ≡ root.degree
  part_degree = ap (λ c. c.degree) h.is ∙ node_degree root p.node h.some

  pub part_shallow : depth p.node ≤ deepest p.curve.degree
  part_shallow = rw part_degree (depth_under p.node (deepest root.degree) h.some h.deep)

  -- its number is that of a node
  pub part_node : p.node < suc greatest_node
  part_node = omega (arith, h.deep, pow-suc 2 (deepest root.degree), deepest_few root.degree)

  pub part_halvable : Halvable p.curve
  part_halvable = rw h.is (node_halvable h.sized p.node h.some h.deep)

  -- what the test of degrees 1 to 3 asks of it, and what that of degrees 4 and 5
  pub part_low : root.degree ≤ 3 → Sized (depth p.node) p.curve × (p.curve.degree ≤ 3) × (depth p.node ≤ 8)
  part_low l = (part_sized, rw part_degree l, rw (part_degree, deepest_low root.degree l) at part_shallow)

  pub part_high : 3 < root.degree → Sized (depth p.node) p.curve × (3 < p.curve.degree) × (depth p.node ≤ 4)
  part_high l = (part_sized, rw part_degree l, rw (part_degree, deepest_high root.degree l) at part_shallow)

  -- the test of a part, at the depth that the code computed, is the test of its node
  module _ (σ : Setting) (T : ℤ) {k : ℕ} (e : k ≡ depth p.node) {r : Bool} where
    pub part_meets : r ≡ meets σ T k p.curve → r ≡ node_meets σ T root p.node
    part_meets f = f ∙ ap₂ (meets σ T) e h.is

    -- where the verdict told it
    module _ {v : Tested} (t : VerdictRight σ T k p.curve v) where
      pub part_narrow : v ≡ Narrow → r ≡ true → r ≡ node_meets σ T root p.node
      part_narrow f g = part_meets (g ∙ sym (rw f at t))

      pub part_wide : v ≡ Wide → r ≡ false → r ≡ node_meets σ T root p.node
      part_wide f g = part_meets (g ∙ sym (rw f at t))

  pub part_left : p.node < 2 ^ deepest root.degree → PartOf root (left_part p)
  part_left l = let n = p.node in record {
    sized = h.sized;
    some = omega (arith, h.some);
    deep = omega (arith, pow-suc 2 (deepest root.degree));
    is = ap left_half h.is ∙ sym (node_half root n 0 h.some (omega arith)) ∙ ap (node_curve root) {x = 2 * n + 0} {y = 2 * n} (omega arith);
  }

-- ---- the part after p
abbrev pub zeros : ℕ → ℕ
zeros n = count_trailing_zeros 32 (n + 1)

module _ {p : Part} (h : Standing p) where
  pub after_end : after p.node ≡ 1 → AfterOf p (part (after p.node) p.curve)
  after_end e = record { node = refl; of = λ o more. absurd (more e); end = λ o. refl }

  module _ (more : after p.node ≡ 1 → ⊥) where
    follows : NextStretch (zeros p.node) p.node (after p.node)
    follows = ⊎_elim (λ e. absurd (more e)) (λ x. x) (next_stretch p.node h.1.some 32 (omega (arith, part_node h.1)))

    pub part_zeros : zeros p.node ≤ 7
    part_zeros = few_zeros h.1.some (part_node h.1) follows

    pub after_onward : AfterOf p (part (after p.node) (onward_of (zeros p.node) p.curve))
    after_onward = let n = p.node in record {
      node = refl;
      of = λ {root} o k. record {
        sized = o.sized;
        some = omega (arith, follows.is);
        deep = omega (
          arith,
          follows.is,
          o.deep,
          pow-suc 2 (deepest root.degree),
          after_shifted 32 n (omega (arith, part_node o)),
          div-le_self (n + 1) (2 ^ zeros n),
        );
        is = ap (onward_of (zeros n)) o.is ∙ node_onward root o.sized.most o.some follows;
      };
      end = λ e. absurd (more e);
    }
