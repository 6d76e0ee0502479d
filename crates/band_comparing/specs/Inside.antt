-- For contracts inside the engine alone, no part of a public promise: how far numbers that are given agree with the
-- records of an outline's curves, and what the pass that compares them finds.
use Rattle.std.specs.Prelude.{◌≡◌, Bool, true, false, ◌&&◌, ◌||◌, List, [], ◌∷◌, ℕ, suc, ◌+◌, ◌*◌, ◌^◌, ◌≤◌}
use Rattle.std.specs.Prelude.{◌<◌, min, leb, length, take, ℤ, Option, Some, None, Result, Ok, Err}
use Rattle.std.proofs.Math.Option.{none, some}
use Rattle.setting.specs.Setting.{Setting, HasRows, record_length, degree_pieces, deepest, greatest_node}
use Rattle.integers.specs.Entry.{entry}
use Rattle.integers.specs.Equal.{equal}
use Rattle.refusals.specs.declared.Refusal.{Refusal}
use Rattle.curve_nodes.specs.declared.Curve.{Curve}
use Rattle.curve_nodes.specs.Bounds.{Sized}
use Rattle.bound_row_table.specs.Inside.{Copied}
use Rattle.bound_coordinate.specs.Inside.{Small}
use Rattle.bound_coordinate.specs.declared.higher.HigherTerms.{HigherTerms}
use Rattle.bound_coordinate.specs.HigherTerms.{higher_low, higher_high}
use Rattle.outline.specs.Places.{place_of}
use Rattle.walk_tree.specs.Tree.{first_failing}
use Rattle.walk_curve.specs.Walked.{node_meets, ends_of}
use Rattle.band_records.specs.Records.{records_of, all_records}
use Rattle.band_records.specs.Inside.{box_from}
use Rattle.band_passes.specs.Leaves.{first_too_wide, leaves_of}
use Rattle.band_passes.specs.Inside.{curves_in}
use Rattle.band_passes.specs.Forms.{Outline}
use Rattle.band_comparing.specs.declared.Seen.{Seen}
use Rattle.band_comparing.specs.declared.Stand.{Stand}
use Rattle.band_comparing.specs.declared.Compared.{Compared}

-- ---- the first `reach` numbers given agree so far; with number x of the records at index i, they agree as far, or up
-- to i
unfoldable pub reach_number : List ℤ → (reach i : ℕ) → ℤ → ℕ
reach_number given reach i x = elim (leb reach i || equal (entry given i) x) [ true ↦ reach | false ↦ i ]

-- so with one number after the other, the first at index i
unfoldable pub reach_of : List ℤ → (reach i : ℕ) → List ℤ → ℕ
reach_of given reach i [] = reach
reach_of given reach i (x ∷ xs) = reach_of given (reach_number given reach i x) (suc i) xs

-- four numbers stand there
unfoldable pub are_there : List ℤ → (at : ℕ) → (a b c d : ℤ) → Bool
are_there given at a b c d =
    equal (entry given at) a
    && (equal (entry given (at + 1)) b && (equal (entry given (at + 2)) c && equal (entry given (at + 3)) d))

-- the box at break point i of a curve of degree 4 or 5
abbrev pub higher_box_by : (m s : ℕ) → List ℤ → (x y : HigherTerms) → ℕ → List ℤ
higher_box_by m s rows x y =
    box_from (higher_low m s rows x) (higher_high m s rows x) (higher_low m s rows y) (higher_high m s rows y)

-- ---- a box or a node is tried: it is too wide, or how far the numbers agree with its own
abbrev pub tried_of : (narrow : Bool) → (reach : ℕ) → Option ℕ
tried_of true reach = Some reach
tried_of false reach = None

-- the first `reach` numbers are given, and the lows and the highs of a box, as they are computed, are small
pub record BoxGiven (given : List ℤ) (reach at : ℕ) (left right low high : ℤ) : Type 0 where
  pub there : reach ≤ length given
  pub place : at + 4 ≤ 2 ^ 63
  pub of_left : Small (2 ^ 28) left
  pub of_right : Small (2 ^ 28) right
  pub of_low : Small (2 ^ 28) low
  pub of_high : Small (2 ^ 28) high

-- the rows of m pieces, copied, and 5040 over m
pub record Lent (m scale : ℕ) (rows : List ℤ) : Type 0 where
  pub has : HasRows m
  pub copied : Copied m rows
  pub scaled : scale * m ≡ 5040

-- what the test of a node asks, or of a whole curve at depth 0: the first `reach` numbers are given, its own begin at
-- index `at`, which is at most `few`, its degree suits m and its depth k, and the square of the tolerance does not wrap
pub record Tryable (given : List ℤ) (reach at few m scale : ℕ) (rows : List ℤ) (k : ℕ) (c : Curve) (t : ℤ)
    : Type 0 where
  pub there : reach ≤ length given
  pub place : at ≤ few
  pub lent : Lent m scale rows
  pub sized : Sized k c
  pub takes : degree_pieces c.degree m ≡ true
  pub shallow : k ≤ deepest c.degree
  pub small : Small (2 ^ 27) t

-- the number of a curve, and of a node of the tree
pub record Numbered (number node : ℕ) : Type 0 where
  pub curve : number < 2 ^ 31
  pub below : node < suc greatest_node
  pub some : 0 < node

-- ---- curve c of number k, whose records begin at index `at`: the first node at the last depth that is too wide, or
-- where its records end and how far the numbers agree
unfoldable pub seen_of : Setting → ℤ → Curve → (k : ℕ) → (given : List ℤ) → (reach at : ℕ) → Result Seen ℕ
seen_of σ T c k given reach at =
    elim (first_failing (node_meets σ T c) (ends_of σ T c)) [
      | some n ↦ Err n
      | none ↦ Ok (record {
        place = at + record_length σ * length (ends_of σ T c);
        reach = reach_of given reach at (records_of σ k c (ends_of σ T c));
      })
    ]

-- ---- all n curves of an outline: where the degree of curve i stands in the outline, and where its records begin
abbrev pub stand_of : Setting → ℤ → List ℤ → (n i : ℕ) → Stand
stand_of σ T ns n i = record {
  at = place_of ns 0 i;
  place = record_length σ * leaves_of σ T (take i (curves_in Outline ns n));
}

-- the later of two, as the code chooses it
abbrev pub later_of : Bool → (here before : Stand) → Stand
later_of true here before = here
later_of false here before = before

-- check 7, or else where curve k and the one after it begin, where all records end, and how far the numbers agree
unfoldable pub compared_of : Setting → ℤ → List ℤ → (n k : ℕ) → (given : List ℤ) → (shown : ℕ)
    → Result Compared Refusal
compared_of σ T ns n k given shown =
    elim (first_too_wide σ T 0 (curves_in Outline ns n)) [
      | some r ↦ Err r
      | none ↦ Ok (record {
        first = stand_of σ T ns n (min n k);
        second = stand_of σ T ns n (min n (suc k));
        whole = record_length σ * leaves_of σ T (curves_in Outline ns n);
        reach = reach_of given shown 0 (all_records σ T 0 (curves_in Outline ns n));
      })
    ]
