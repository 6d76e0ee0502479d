-- The starred examples of document 01 ("Measured examples" and "Drawing a cover"), in one statement. A refusal is given
-- by its number and its spot. The lists that are lent hold zeros where nothing else is said.
use Rattle.std.specs.Prelude.{◌≡◌, true, List, [], ◌∷◌, ◌++◌, ℕ, ◌≤◌, length, replicate, drop, ℤ, pos, neg_ℤ, Result}
use Rattle.std.specs.Prelude.{Ok, Err}
use Rattle.setting.specs.Setting.{standard}
use Rattle.refusals.specs.declared.Refusal.{Refusal}
use Rattle.refusals.specs.Refusals.{number_of, spot_of}
use Rattle.band_banded.specs.declared.banding.Banded.{Banded}
use Rattle.band_banded.specs.Banding.{done, banded, written}
use Rattle.judge.specs.Judging.{Judgement, on, off, Judged}
use Rattle.boxes.specs.declared.Box.{Box}
use Rattle.boxes.specs.Ranges.{in_range}
use Rattle.draw.specs.Drawing.{drawn, drawn_into}

abbrev zeros : ℕ → List ℤ
zeros n = replicate n (pos 0)

-- banding refuses, and gives this number and this spot
pub record RefusedWith (number spot : ℕ) (answer : Result Banded Refusal) : Type 0 where
  pub refusal : Refusal
  pub is : answer ≡ Err refusal
  pub numbered : number_of refusal ≡ number
  pub spotted : spot_of refusal ≡ spot

-- the numbers of a box above the x axis, and of one below it
abbrev pub box : (a b c d : ℕ) → List ℤ
box a b c d = pos a ∷ pos b ∷ pos c ∷ pos d ∷ []

abbrev pub below : (a b c d : ℕ) → List ℤ
below a b c d = pos a ∷ pos b ∷ neg_ℤ (pos c) ∷ neg_ℤ (pos d) ∷ []

-- curve A is (0 0) (10 30) (20 30) (30 0)
abbrev pub A : List ℤ
A = pos 3 ∷ pos 0 ∷ pos 0 ∷ pos 10 ∷ pos 30 ∷ pos 20 ∷ pos 30 ∷ pos 30 ∷ pos 0 ∷ []

-- A with y negated
abbrev pub negated_a : List ℤ
negated_a = pos 3 ∷ pos 0 ∷ pos 0 ∷ pos 10 ∷ neg_ℤ (pos 30) ∷ pos 20 ∷ neg_ℤ (pos 30) ∷ pos 30 ∷ pos 0 ∷ []

-- a line of x 0 to `x`, y 0 to 1
abbrev pub line : ℕ → List ℤ
line x = pos 1 ∷ pos 0 ∷ pos 0 ∷ pos x ∷ pos 1 ∷ []

-- y 0, 1048576, 1048576, 0, x all 0
abbrev pub steep : List ℤ
steep = pos 3 ∷ pos 0 ∷ pos 0 ∷ pos 0 ∷ pos 1048576 ∷ pos 0 ∷ pos 1048576 ∷ pos 0 ∷ pos 0 ∷ []

-- boxes to be drawn: from low to high in x and in y alike; and from −x to x by −y to y
abbrev pub square_box : (low high : ℕ) → Box
square_box low high = record { x_low = pos low; x_high = pos high; y_low = pos low; y_high = pos high }

abbrev pub cross : (x y : ℤ) → Box
cross x y = record { x_low = neg_ℤ x; x_high = x; y_low = neg_ℤ y; y_high = y }

-- the box that is the point (x, y)
abbrev pub single : (x y : ℤ) → Box
single x y = record { x_low = x; x_high = x; y_low = y; y_high = y }

pub record Starred : Type 0 where
  -- A, T 44: the leaf in the listing
  pub a_44 : banded standard (pos 44) A 18 ≡ done 1 1 1
  pub a_44_leaf : written standard (pos 44) A (zeros 18)
      ≡ pos 0 ∷ pos 1 ∷ box 0 0 0 38 ++ box 160 160 319 363 ++ box 320 320 319 363 ++ box 480 480 0 38
  -- A, T 43: nodes 2 and 3; the boxes of node 2, and of node 3
  pub a_43 : banded standard (pos 43) A 36 ≡ done 1 2 3
  pub a_43_leaves : written standard (pos 43) A (zeros 36)
      ≡ pos 0 ∷ pos 2 ∷ box 0 0 0 10 ++ box 80 80 199 211 ++ box 160 160 319 331 ++ box 240 240 360 370
      ++ (pos 0 ∷ pos 3 ∷ box 240 240 360 370 ++ box 320 320 319 331 ++ box 400 400 199 211 ++ box 480 480 0 10)
  -- A with y negated, T 44
  pub a_negated : written standard (pos 44) negated_a (zeros 18)
      ≡ pos 0 ∷ pos 1 ∷ below 0 0 38 0 ++ below 160 160 363 319 ++ below 320 320 363 319 ++ below 480 480 38 0
  -- y 0, 18, 0
  pub y_18 : written standard (pos 17) (pos 2 ∷ pos 0 ∷ pos 0 ∷ pos 0 ∷ pos 18 ∷ pos 0 ∷ pos 0 ∷ []) (zeros 18)
      ≡ pos 0 ∷ pos 1 ∷ box 0 0 0 17 ++ box 0 0 127 144 ++ box 0 0 127 144 ++ box 0 0 0 17
  -- the line 0, 1
  pub line_1 : written standard (pos 2) (line 0) (zeros 18)
      ≡ pos 0 ∷ pos 1 ∷ box 0 0 0 0 ++ box 0 0 5 6 ++ box 0 0 10 11 ++ box 0 0 16 16
  -- T 2 passes; T 1 gives 1, whatever the outline
  pub tolerance_2 : banded standard (pos 2) (line 0) 18 ≡ done 1 1 1
  pub tolerance_1 : (outline : List ℤ) (room : ℕ) → RefusedWith 1 0 (banded standard (pos 1) outline room)
  -- coordinate 1,048,576 passes its check, coordinate 1,048,577 gives 4; it stands at index 3
  pub coordinate_passes : banded standard (pos 2) (line 1048576) 18 ≡ done 1 1 1
  pub coordinate_beyond : (room : ℕ) → RefusedWith 4 3 (banded standard (pos 2) (line 1048577) room)
  -- empty outline: 6
  pub empty : (room : ℕ) → RefusedWith 6 0 (banded standard (pos 2) [] room)
  -- y 0, 1048576, 1048576, 0 as curve 0, x all 0, T 2: 7, spot 256
  pub too_wide : (room : ℕ) → RefusedWith 7 256 (banded standard (pos 2) steep room)
  -- (240 363) is on A's band at T 44, held first by cover 1 of record 0; (240 364) is off
  pub point_on : (answer : Judgement)
      → Judged standard (written standard (pos 44) A (zeros 18)) (pos 240) (pos 363) answer → answer ≡ on 0 1
  pub point_off : (answer : Judgement)
      → Judged standard (written standard (pos 44) A (zeros 18)) (pos 240) (pos 364) answer → answer ≡ off
  -- 0–1 by 0–1 with 3–4 by 3–4: (0 0) (1 0) (4 3) (4 4) (3 4) (0 1)
  pub six_drawn : drawn (square_box 0 1) (square_box 3 4) 16 ≡ Ok 6
  pub six_vertices : drawn_into (square_box 0 1) (square_box 3 4) (zeros 16)
      ≡ box 0 0 1 0 ++ box 4 3 4 4 ++ box 3 4 0 1 ++ zeros 4
  -- −10–10 by −1–1 with −1–1 by −10–10: eight
  pub eight_drawn : drawn (cross (pos 10) (pos 1)) (cross (pos 1) (pos 10)) 16 ≡ Ok 8
  -- equal single points, anywhere in range: one, the point itself, and the rest of the list as it was
  pub one_drawn : (x y : ℤ) → in_range x ≡ true → in_range y ≡ true → (old : List ℤ) → 16 ≤ length old
      → drawn (single x y) (single x y) (length old) ≡ Ok 1
  pub one_vertex : (x y : ℤ) → in_range x ≡ true → in_range y ≡ true → (old : List ℤ) → 16 ≤ length old
      → drawn_into (single x y) (single x y) old ≡ x ∷ y ∷ drop 2 old
