-- What the functions on spans and points return: numbers are held in 32 bits, and comparisons choose.
use mathlib.Core.Path.{◌≡◌, refl, sym, ◌∙◌, ap, ap₂}
use mathlib.Core.Bool.{Bool, true, false, cond, ◌&&◌}
use Prim.Native.Nat.{ℕ, zero, suc}
use lib.IntN.{ℤ}
use lib.Signed.{lt_z}
use mir.Syntax.{w32}
use mir.Val.{SFits}
use mir.Facts.{to_z-of_z}
use Rattle.std.proofs.Common.{int_eq}
use Rattle.std.specs.Int.{int_min, int_max}
use Rattle.std.proofs.lemmas.Bool.Decides.{Decides-int_eq}
use Rattle.integers.specs.Equal.{equal}
use Rattle.integers.proofs.Clash.{clash}
use Rattle.integers.proofs.Equal.{equal-≡, ≡-equal}
use Rattle.integers.proofs.Order.{≤ℤ_antisymm, lt_le}
use Rattle.integers.proofs.Ranges.{stored, lt_yes, lt_no}
use Rattle.boxes.specs.declared.Box.{Box}
use Rattle.draw_polygon.specs.declared.Span.{Span}
use Rattle.draw_polygon.specs.declared.Point.{Point}
use Rattle.draw_polygon.specs.declared.Ends.{Ends}
use Rattle.draw_polygon.specs.Polygon.{lower, higher, joined_span, reached, ends_of_spans, across_of, upright_of, path_point, same, vertices_of, path_of}
use Rattle.draw_polygon.specs.Polygon.{vertices}

-- ---- the lesser and the greater as the machine takes them
module _ (a b : ℤ) where
  pub min_is : int_min a b ≡ lower a b
  min_is = go (lt_z b a) (lt_z a b) refl refl
    where
      go : (s t : Bool) → lt_z b a ≡ s → lt_z a b ≡ t → cond s b a ≡ elim t [ true ↦ a | false ↦ b ]
      go true true e f = ≤ℤ_antisymm (lt_le (lt_yes e)) (lt_le (lt_yes f))
      go true false e f = refl
      go false true e f = refl
      go false false e f = ≤ℤ_antisymm (lt_no e) (lt_no f)

  pub max_is : int_max a b ≡ higher a b
  max_is = go (lt_z b a) (lt_z a b) refl refl
    where
      go : (s t : Bool) → lt_z b a ≡ s → lt_z a b ≡ t → cond s a b ≡ elim t [ true ↦ b | false ↦ a ]
      go true true e f = ≤ℤ_antisymm (lt_le (lt_yes f)) (lt_le (lt_yes e))
      go true false e f = refl
      go false true e f = refl
      go false false e f = ≤ℤ_antisymm (lt_no f) (lt_no e)

module _ {a b : ℤ} (fa : SFits w32 a) (fb : SFits w32 b) where
  pub less : (t : Bool) → lt_z (stored w32 a) (stored w32 b) ≡ t → lt_z a b ≡ t
  less t e = rw (to_z-of_z fa, to_z-of_z fb) at e

  module _ (s t : Span) where
    pub reached_first : lt_z (stored w32 a) (stored w32 b) ≡ true → s ≡ reached a b s t
    unfolding reached
    reached_first e = rw (less true e, reached)

module _ {a b : ℤ} (fa : SFits w32 a) (fb : SFits w32 b) (s t : Span) (e : lt_z (stored w32 a) (stored w32 b) ≡ false) where
  pub reached_second : lt_z (stored w32 b) (stored w32 a) ≡ true → t ≡ reached a b s t
  unfolding reached
  reached_second f = rw (less fa fb false e, less fb fa true f, reached)

  pub reached_both : lt_z (stored w32 b) (stored w32 a) ≡ false → joined_span s t ≡ reached a b s t
  unfolding reached
  reached_both f = rw (less fa fb false e, less fb fa false f, reached)

-- two lows and two highs, as the calls answered
pub joined_is : {s t : Span} {l h : ℤ} → SFits w32 s.low → SFits w32 s.high → SFits w32 t.low → SFits w32 t.high → SFits w32 l
    → SFits w32 h
    → l ≡ lower (stored w32 s.low) (stored w32 t.low) → h ≡ higher (stored w32 s.high) (stored w32 t.high)
    → ◌≡◌ {A = Span} (record { low = stored w32 l; high = stored w32 h }) (joined_span s t)
joined_is sl sh tl th fl fh e f =
    ap₂ (λ x y. record { low = x; high = y }) (to_z-of_z fl ∙ rw (to_z-of_z sl, to_z-of_z tl) at e) (to_z-of_z fh ∙ rw (to_z-of_z sh, to_z-of_z th) at f)

pub ends_are : (l m s t : Span) {j p q : Span} → SFits w32 l.low → SFits w32 l.high → SFits w32 m.low → SFits w32 m.high
    → j ≡ joined_span l m → p ≡ reached (stored w32 l.low) (stored w32 m.low) s t → q ≡ reached (stored w32 m.high) (stored w32 l.high) s t
    → ◌≡◌ {A = Ends} (record { levels = j; lowest = p; highest = q }) (ends_of_spans l m s t)
unfolding ends_of_spans
ends_are l m s t {q} ll lh ml mh e f g =
    ap₂ (λ x y. record { levels = x; lowest = y; highest = q }) e (f ∙ ap₂ (λ a b. reached a b s t) (to_z-of_z ll) (to_z-of_z ml))
    ∙ ap (λ z. record { levels = joined_span l m; lowest = reached l.low m.low s t; highest = z })
    (g ∙ ap₂ (λ a b. reached a b s t) (to_z-of_z mh) (to_z-of_z lh))

-- ---- points
module _ (u v : Ends) where
  pub point_is : {a b : ℤ} {k : ℕ} (n : ℕ) → SFits w32 a → SFits w32 b → k ≡ n → record { x = a; y = b } ≡ path_point u v n
      → ◌≡◌ {A = Point} (record { x = stored w32 a; y = stored w32 b }) (path_point u v k)
  point_is n fa fb e f = ap₂ (λ x y. record { x = x; y = y }) (to_z-of_z fa) (to_z-of_z fb) ∙ f ∙ ap (path_point u v) (sym e)

  -- past its eight points it is at its start again
  pub path_rest : (k : ℕ) → (k ≡ 1 → ⊥) → (k ≡ 2 → ⊥) → (k ≡ 3 → ⊥) → (k ≡ 4 → ⊥) → (k ≡ 5 → ⊥) → (k ≡ 6 → ⊥) → (k ≡ 7 → ⊥)
      → path_point u v k ≡ record { x = u.lowest.low; y = u.levels.low }
  unfolding path_point
  path_rest zero a b c d e f g = refl
  path_rest (suc zero) a b c d e f g = absurd (a refl)
  path_rest (suc (suc zero)) a b c d e f g = absurd (b refl)
  path_rest (suc (suc (suc zero))) a b c d e f g = absurd (c refl)
  path_rest (suc (suc (suc (suc zero)))) a b c d e f g = absurd (d refl)
  path_rest (suc (suc (suc (suc (suc zero))))) a b c d e f g = absurd (e refl)
  path_rest (suc (suc (suc (suc (suc (suc zero)))))) a b c d e f g = absurd (f refl)
  path_rest (suc (suc (suc (suc (suc (suc (suc zero))))))) a b c d e f g = absurd (g refl)
  path_rest (suc (suc (suc (suc (suc (suc (suc (suc k)))))))) a b c d e f g = refl

-- two points compared
numbers_equal : (a b : ℤ) → int_eq a b ≡ equal a b
numbers_equal a b = go (int_eq a b) (equal a b) refl refl
  where
    go : (s t : Bool) → int_eq a b ≡ s → equal a b ≡ t → s ≡ t
    go true true e f = refl
    go true false e f = let h : a ≡ b = (Decides-int_eq a b).0 e in clash (cc (f, ≡-equal h))
    go false true e f = let h = (Decides-int_eq a b).1 (equal-≡ f) in clash (cc (e, h))
    go false false e f = refl

pub points_equal : (p q : Point) → (int_eq p.x q.x && int_eq p.y q.y) ≡ same p q
points_equal p q = ap₂ ◌&&◌ (numbers_equal p.x q.x) (numbers_equal p.y q.y)

-- ---- the path of two boxes, from what the code called
pub vertices_are : (a b : Box) {x u y v : Span} {p q : Ends} → x ≡ across_of a → u ≡ across_of b → y ≡ upright_of a → v ≡ upright_of b
    → p ≡ ends_of_spans y v x u → q ≡ ends_of_spans x u y v → vertices_of (path_point p q) ≡ vertices a b
unfolding path_of vertices
vertices_are a b {p} {q} ex eu ey ev ep eq =
    let e : p ≡ ends_of_spans (upright_of a) (upright_of b) (across_of a) (across_of b) = cc in
    let f : q ≡ ends_of_spans (across_of a) (across_of b) (upright_of a) (upright_of b) = cc in
    ap₂ (λ m n. vertices_of (path_point m n)) e f
