-- The gaps of degree 4 or 5, from those at the break points 0 and 1.
use mathlib.Core.Path.{◌≡◌}
use mathlib.Core.Bool.{true}
use Prim.Native.Nat.{ℕ, ◌-◌, ◌≤◌, ◌<◌}
use native.Mathlib.Omega.{arith}
use Rattle.setting.specs.Setting.{HasRows, degree_pieces}
use Rattle.bound_row_table.specs.Inside.{Copied}
use Rattle.bound_pieces.proofs.Boxes.{many_takes}
use Rattle.bound_pieces.proofs.PiecesLaws.{FiveGaps, few_gaps, quartic_gaps, quintic_gaps}
use Rattle.bound_pieces.proofs.gaps_of.Goals as goal
use Rattle.bound_pieces.proofs.gaps_of.Goals.{After-gap_at-second, Else-m-lt3}

-- what the gap of second difference k at break point i asks, for three pieces and more
asked : (e : Else-m-lt3) (k i : ℕ) → let a = e.args in
    k < a.degree - 1 → i ≤ a.m
    → (HasRows a.m) × (Copied a.m a.rows.now) × (k < a.degree - 1) × (a.degree ≤ 5) × (i ≤ a.m)
    × (degree_pieces a.degree a.m ≡ true)
asked e k i hk hi =
    let p = e.requires in
    (p.0, p.1, hk, p.3, hi, many_takes e.args.degree e.args.m e.if-m-lt3.false)

-- those that both degrees read
five : (c : After-gap_at-second) → let a = c.args in
    FiveGaps a.m a.degree c.gap_at.result c.gap_at-2.result c.gap_at-3.result c.gap_at-first.result
    c.gap_at-second.result
five c =
    record {
      has = c.requires.0;
      many = c.if-m-lt3.false;
      first_there = c.gap_at.ensures.0;
      second_there = c.gap_at-2.ensures.0;
      third_there = c.gap_at-3.ensures.0;
      first = c.gap_at-first.ensures.0;
      second = c.gap_at-second.ensures.0;
    }

pub returns-then-m-lt3 : goal.returns-then-m-lt3
returns-then-m-lt3 c = few_gaps c.args.m c.args.degree c.if-m-lt3.true

pub gap_at-requires : goal.gap_at-requires
gap_at-requires c = asked c 0 1 (omega arith) (omega arith)

pub gap_at-requires-2 : goal.gap_at-requires-2
gap_at-requires-2 c = asked (goal.at.gap_at-requires-2 c).Else-m-lt3 1 1 (omega arith) (omega arith)

pub gap_at-requires-3 : goal.gap_at-requires-3
gap_at-requires-3 c = asked (goal.at.gap_at-requires-3 c).Else-m-lt3 2 1 (omega arith) (omega arith)

pub gap_at-first-requires : goal.gap_at-first-requires
gap_at-first-requires c = asked (goal.at.gap_at-first-requires c).Else-m-lt3 0 0 (omega arith) (omega arith)

pub gap_at-second-requires : goal.gap_at-second-requires
gap_at-second-requires c = asked (goal.at.gap_at-second-requires c).Else-m-lt3 1 0 (omega arith) (omega arith)

pub returns-then-degree-lt5 : goal.returns-then-degree-lt5
returns-then-degree-lt5 c = quartic_gaps (five (goal.at.returns-then-degree-lt5 c).After-gap_at-second) (omega arith)

pub gap_at-requires-4 : goal.gap_at-requires-4
gap_at-requires-4 c = asked (goal.at.gap_at-requires-4 c).Else-m-lt3 3 1 (omega arith) (omega arith)

pub gap_at-requires-5 : goal.gap_at-requires-5
gap_at-requires-5 c = asked (goal.at.gap_at-requires-5 c).Else-m-lt3 3 0 (omega arith) (omega arith)

pub returns : goal.returns
returns c = quintic_gaps (five (goal.at.returns c).After-gap_at-second) c.gap_at-4.ensures.0 c.gap_at-5.ensures.0 (omega arith)
