-- The band of a text: what each way through `band_text` answers.
use mathlib.Core.Path.{◌≡◌, sym, ap, ◌∙◌}
use mathlib.Core.Bool.{true, false}
use mathlib.Core.List.{List}
use Prim.Native.Nat.{ℕ, ◌^◌, ◌≤◌, ◌<◌}
use native.Mathlib.Omega.{arith}
use lib.ListN.{length, take}
use lib.Seq.{length-take-le}
use lib.IntN.{ℤ}
use lib.Signed.{mag}
use mir.Syntax.{w32}
use Rattle.std.specs.Prelude.{Result, Ok, Err}
use Rattle.setting.specs.Setting.{Setting, pieces_fine, texts}
use Rattle.integers.proofs.Ranges.{stored, read_again}
use Rattle.refusals.specs.declared.Refusal.{Refusal}
use Rattle.refusals.specs.declared.Refusal.TheVariants.{Tolerance as WrongTolerance, Pieces}
use Rattle.outline.specs.Checks.{tolerance_fine, Outlined, outlined}
use Rattle.band_banded.specs.declared.banding.Banded.{Banded}
use Rattle.band_records.specs.Records.{all_records}
use Rattle.band_passes.specs.Leaves.{curves_of}
use Rattle.band_banded.specs.Banding.{band_given, written_given, band_outlined, banded, written_by, written}
use Rattle.write_numbers.specs.Appends.{Appended}
use Rattle.write_numbers.proofs.Appends.{appended_front, appended_length}
use Rattle.text_lines.specs.Lines.{lines_of}
use Rattle.text_lines.specs.Meaning.{Meaning, refused, means, meaning}
use Rattle.text_lines.specs.Inside.{text_check_of}
use Rattle.text_outline.specs.Outlines.{kept}
use Rattle.text_outline.proofs.Kept.{outline_kept, kept_few}
use Rattle.text_answers.specs.Bands.{band_of, records_after}

-- ---- `band_text`: banding looks at an outline through its checks alone
banded_same : (σ : Setting) (T : ℤ) (ns ms : List ℤ) (room : ℕ) → outlined σ.most σ.pieces ns ≡ outlined σ.most σ.pieces ms
    → banded σ T ns room ≡ banded σ T ms room
unfolding band_given
banded_same σ T ns ms room e = ap (λ (o : Outlined). elim (pieces_fine σ.pieces) [
  | false ↦ Err Pieces
  | true ↦ elim (tolerance_fine T) [ false ↦ Err WrongTolerance | true ↦ band_outlined σ T o room ]
]) e

written_same : (σ : Setting) (T : ℤ) (ns ms old : List ℤ) → outlined σ.most σ.pieces ns ≡ outlined σ.most σ.pieces ms
    → written σ T ns old ≡ written σ T ms old
unfolding written_given
written_same σ T ns ms old e =
    ap (λ (b : Result Banded Refusal). written_by b (all_records σ T 0 (curves_of (outlined σ.most σ.pieces ns))) old)
    (banded_same σ T ns ms (length old) e)
    ∙ ap (λ (o : Outlined). written_by (banded σ T ms (length old)) (all_records σ T 0 (curves_of o)) old) e

-- what the checks of a text say of its meaning
record Means (m : Meaning) (T : ℤ) : Type 0 where
  outline : List ℤ
  points : List (ℤ × ℤ)
  is : m ≡ means T outline points

means_by : (m : Meaning) (T : ℤ) → Ok T ≡ text_check_of m → Means m T
means_by (refused r) T e = let z : ◌≡◌ {A = ℕ} 0 1 = cc in absurd (omega arith)
means_by (means U outline points) T e =
    record { outline = outline; points = points; is = let f : T ≡ U = cc in ap (λ (x : ℤ). means x outline points) (sym f) }

refused_by : (m : Meaning) (r : Refusal) → Err r ≡ text_check_of m → m ≡ refused r
refused_by (refused q) r e = cc
refused_by (means U outline points) r e = let z : ◌≡◌ {A = ℕ} 0 1 = cc in absurd (omega arith)

-- what was kept of the outline stands in the list o, n numbers of it
module _ (s : List ℕ) (d o : List ℤ) (n : ℕ) (a : Appended d 0 (kept 64 (lines_of s)) o n) (z : 577 ≤ length d) where
  few : n ≤ length d
  few = omega (arith, a.next, kept_few 64 (lines_of s))

  pub kept_inside : n ≤ length o
  kept_inside = omega (arith, few, appended_length d 0 (kept 64 (lines_of s)) o n a)

  pub kept_length : n ≡ length (take n o)
  kept_length = sym (length-take-le n o kept_inside)

  lent : take n o ≡ kept 64 (lines_of s)
  lent = appended_front d (kept 64 (lines_of s)) o n a few

module _ (s : List ℕ) (c : Result ℤ Refusal) (e : c ≡ text_check_of (meaning s)) (old : List ℤ) where
  module _ (r : Refusal) (f : c ≡ Err r) where
    pub refused_band : Err r ≡ band_of (meaning s) (length old)
    refused_band = ap (λ (x : Meaning). band_of x (length old)) (sym (refused_by (meaning s) r (sym f ∙ e)))

    pub refused_records : old ≡ records_after (meaning s) old
    refused_records = ap (λ (x : Meaning). records_after x old) (sym (refused_by (meaning s) r (sym f ∙ e)))

  module _ (d o : List ℤ) (n : ℕ) (a : Appended d 0 (kept 64 (lines_of s)) o n) (z : 577 ≤ length d) (T : ℤ) (h : mag T < 2 ^ 31)
      (f : c ≡ Ok T) where
    text_means : Means (meaning s) T
    text_means = means_by (meaning s) T (sym f ∙ e)

    checks_same : outlined 64 3 (take n o) ≡ outlined 64 3 text_means.outline
    checks_same = ap (outlined 64 3) (lent s d o n a z) ∙ outline_kept 64 3 s T text_means.outline text_means.points text_means.is

    pub text_band : (b : Result Banded Refusal) → b ≡ banded texts (stored w32 T) (take n o) (length old) → b ≡ band_of (meaning s) (length old)
    text_band b p =
        p ∙ ap (λ (x : ℤ). banded texts x (take n o) (length old)) (read_again w32 T h)
        ∙ banded_same texts T (take n o) text_means.outline (length old) checks_same
        ∙ ap (λ (x : Meaning). band_of x (length old)) (sym text_means.is)

    pub text_records_law : (new : List ℤ) → new ≡ written texts (stored w32 T) (take n o) old → new ≡ records_after (meaning s) old
    text_records_law new q =
        q ∙ ap (λ (x : ℤ). written texts x (take n o) old) (read_again w32 T h) ∙ written_same texts T (take n o) text_means.outline old checks_same
        ∙ ap (λ (x : Meaning). records_after x old) (sym text_means.is)
