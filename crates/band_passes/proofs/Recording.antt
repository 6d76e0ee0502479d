-- A walk that writes a record at each leaf: what the list holds at each step, from place `at` on.
use mathlib.Core.Path.{◌≡◌, refl, sym, ◌∙◌, ap, ap₂}
use mathlib.Core.Bool.{Bool, true, false}
use mathlib.Core.List.{List, [], ◌∷◌, ◌++◌}
use Prim.Native.Nat.{ℕ, ◌+◌, ◌*◌, ◌^◌, ◌≤◌, ◌<◌}
use native.Mathlib.Nat.{mul-le-mul_left}
use native.Mathlib.Omega.{arith}
use lib.ListN.{length, length-append}
use lib.Seq.{sets, length-sets}
use lib.IntN.{ℤ}
use Rattle.setting.specs.Setting.{Setting, break_points, record_length, deepest}
use Rattle.integers.proofs.Stores.{sets_append}
use Rattle.curve_nodes.specs.declared.Curve.{Curve}
use Rattle.curve_nodes.specs.Nodes.{depth}
use Rattle.walk_curve.specs.declared.Part.{Part}
use Rattle.walk_curve.specs.Inside.{left_part, AfterOf}
use Rattle.walk_curve.specs.Walked.{node_meets, ends_of}
use Rattle.walk_curve.proofs.Parts.{part}
use Rattle.walk_curve.proofs.Walks.{WalkOf, walk_start, walk_left, walk_after}
use Rattle.band_records.specs.Records.{boxes_to, node_numbers, record_of, records_of}
use Rattle.band_records.proofs.Lengths.{records_length, records_snoc}
use Rattle.band_passes.specs.Inside.{EndsMeet}
use Rattle.walk_tree.proofs.Failing.{none_passing}
use Rattle.walk_tree.proofs.Walking.{walking_halvable, walking_done, fewer_passed}

-- the walk stands at part p; the list was l, with room for every record, and holds the records of the leaves passed
pub record Recorded (σ : Setting) (T : ℤ) (c : Curve) (k : ℕ) (l : List ℤ) (at : ℕ) (p : Part) (place : ℕ) (l' : List ℤ) : Type 0 where
  pub ends : EndsMeet σ T c
  pub room : at + record_length σ * length (ends_of σ T c) ≤ length l
  pub passed : List ℕ
  pub walk : WalkOf σ T c passed p
  pub here : place ≡ at + record_length σ * length passed
  pub list : l' ≡ sets l at (records_of σ k c passed)

module _ {σ : Setting} {T : ℤ} {c : Curve} {k : ℕ} {l : List ℤ} {at : ℕ} where
  pub recorded_start : EndsMeet σ T c → at + record_length σ * length (ends_of σ T c) ≤ length l → Recorded σ T c k l at (part 1 c) at l
  unfolding records_of
  recorded_start h o = record { ends = h; room = o; passed = []; walk = walk_start h.sized; here = omega arith; list = refl }

  module _ {p : Part} {place : ℕ} {l' : List ℤ} (r : Recorded σ T c k l at p place l') where
    pub recorded_length : length l' ≡ length l
    recorded_length = ap length r.list ∙ length-sets l at (records_of σ k c r.passed)

    pub recorded_room : place + record_length σ ≤ length l'
    recorded_room = omega (arith, recorded_length, r.here, r.room, mul-le-mul_left (record_length σ) (fewer_passed r.walk.walking))

    -- a node that does not meet T has halves, since every end does
    pub recorded_halves : node_meets σ T c p.node ≡ false → p.node < 2 ^ deepest c.degree
    recorded_halves = walking_halvable r.walk.walking (none_passing (node_meets σ T c) (ends_of σ T c) r.ends.passing)

    pub recorded_last : 2 ^ deepest c.degree ≤ p.node → node_meets σ T c p.node ≡ true
    recorded_last o = go (node_meets σ T c p.node) refl
      where
        go : (b : Bool) → node_meets σ T c p.node ≡ b → b ≡ true
        go true e = refl
        go false e = absurd (omega (arith, recorded_halves e))

    pub recorded_left : node_meets σ T c p.node ≡ false → Recorded σ T c k l at (left_part p) place l'
    recorded_left e = record {
      ends = r.ends;
      room = r.room;
      passed = r.passed;
      walk = walk_left r.walk e (recorded_halves e);
      here = r.here;
      list = r.list;
    }

    -- one that does is a leaf, and the code has written its record
    module _ {l'' : List ℤ} (f : l'' ≡ sets l' place (node_numbers k p.node (boxes_to σ (break_points σ) (depth p.node) p.curve))) where
      written : l'' ≡ sets l' place (record_of σ k c p.node)
      unfolding record_of
      written = f ∙ ap (λ q. sets l' place (node_numbers k p.node (boxes_to σ (break_points σ) (depth p.node) q))) r.walk.of.is

      pub recorded_kept : length l'' ≡ length l
      recorded_kept = ap length written ∙ length-sets l' place (record_of σ k c p.node) ∙ recorded_length

      more : l'' ≡ sets l at (records_of σ k c (r.passed ++ p.node ∷ []))
      more =
          written ∙ ap₂ (λ x q. sets x q (record_of σ k c p.node)) r.list (r.here ∙ ap (λ m. at + m) (sym (records_length σ k c r.passed)))
          ∙ sym (sets_append l at (records_of σ k c r.passed) (record_of σ k c p.node))
          ∙ ap (sets l at) (sym (records_snoc σ k c r.passed p.node))

      on : place + record_length σ ≡ at + record_length σ * length (r.passed ++ p.node ∷ [])
      on = omega (arith, r.here, ap (λ m. record_length σ * m) (length-append r.passed (p.node ∷ [])))

      -- the code goes on by as many numbers as a record has
      module _ (e : node_meets σ T c p.node ≡ true) {step : ℕ} (whole : step ≡ record_length σ) {q : Part} (a : AfterOf p q) where
        pub recorded_after : (q.node ≡ 1 → ⊥) → Recorded σ T c k l at q (place + step) l''
        recorded_after o = record {
          ends = r.ends;
          room = r.room;
          passed = r.passed ++ p.node ∷ [];
          walk = walk_after r.walk a o e;
          here = rw whole on;
          list = more;
        }

        pub recorded_done : q.node ≡ 1
            → (place + step ≡ at + record_length σ * length (ends_of σ T c)) × (l'' ≡ sets l at (records_of σ k c (ends_of σ T c)))
        recorded_done o = rw (whole, walking_done r.walk.walking e (sym a.node ∙ o)) (on, more)
