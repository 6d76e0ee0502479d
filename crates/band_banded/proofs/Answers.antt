-- What banding answers and leaves in the list, from what its two passes find.
use mathlib.Core.Path.{◌≡◌, refl, sym, ◌∙◌, ap, ap₂, subst}
use mathlib.Core.Bool.{true, false}
use mathlib.Core.List.{List, [], ◌∷◌, ◌++◌}
use mathlib.Core.Option.{Option, none, some}
use Prim.Native.Nat.{ℕ, zero, suc, ◌+◌, ◌-◌, ◌*◌, ◌/◌, ◌^◌, ◌≤◌, ◌<◌}
use native.Mathlib.Nat.{zero-add, mul-le-mul, le_refl, le_trans, le_of_eq, mul-div-le, mul-div_cancel_left}
use native.Mathlib.Omega.{arith}
use lib.ListN.{length, drop}
use lib.Seq.{sets, sets-eq}
use lib.IntN.{ℤ, nat_abs}
use Rattle.integers.specs.Entry.{entry}
use Rattle.setting.specs.Setting.{Setting, lists_of, relimited, pieces_fine, record_length}
use Rattle.setting.proofs.Pieces.{degree_takes}
use Rattle.refusals.specs.declared.Refusal.{Refusal}
use Rattle.refusals.specs.declared.Refusal.TheVariants.{Tolerance, TooFewRecords, Pieces, TooManyLeaves}
use Rattle.curve_nodes.specs.declared.Curve.{Curve}
use Rattle.curve_nodes.specs.Bounds.{Sized}
use Rattle.outline.specs.Curves.{next_at, curve_at}
use Rattle.outline.proofs.Faultless.{faultless, curve_takes}
use Rattle.outline.proofs.Steps.{outline_begins}
use Rattle.outline_binary64.specs.Lists.{wholes, outlined_binary64}
use Rattle.outline_binary64.proofs.Named.{whole_curves}
use Rattle.outline_splines.specs.Splines.{spline_at, splines_from, spline_count, splined}
use Rattle.outline_splines.proofs.Accepted.{spline_sized, spline_degree, accepted, splines_count, splines_most}
use Rattle.outline.specs.Checks.{Outlined, tolerance_fine, curves, outline_from, outlined}
use Rattle.outline.specs.Inside.{checked_of}
use Rattle.outline.proofs.Accepted.{checked_curves, checked_refused, outlined_from, accepted_most, accepted_head, accepted_within}
use Rattle.band_banded.specs.declared.banding.Banded.{Banded}
use Rattle.std.specs.Prelude.{Result, Ok, Err}
use Rattle.band_banded.specs.Banding.{done}
use Rattle.band_records.specs.Records.{all_records}
use Rattle.band_passes.specs.declared.forms.CurveList.{CurveList}
use Rattle.band_passes.specs.declared.forms.CurveList.TheVariants as Given
use Rattle.band_passes.specs.Forms.{Form, Outline, Binary64, Spline}
use Rattle.band_passes.specs.Leaves.{first_too_wide, leaves_of}
use Rattle.band_banded.specs.Banding.{band_curves, written_by, band_given, written_given}
use Rattle.band_banded.specs.Inside.{given_of, setting_for}
use Rattle.band_passes.specs.Inside.{form_of, numbers_of, read_at, next_of, curves_from, curves_in, AllWalkable, end, more, Readable, counted_of, Fillable}
use Rattle.band_passes.proofs.Reading.{curves_count}
use Rattle.band_passes.proofs.Counting.{nodes_of_curves, few_leaves}
use Rattle.band_room.specs.Inside.{Fits}
use Rattle.band_passes.specs.FirstWide.{AllMeet}
use Rattle.band_passes.proofs.Among.{all_records_length}
use Rattle.band_passes.proofs.Wide.{none_wide}
use Rattle.band_banded.proofs.Cases.{many_said, few_said, done_said}
use Rattle.band_banded.proofs.ByPieces.{counted, listed, all_records_same, counted_same, band_curves_same}

-- ---- what the first pass says
counted_leaves : (o : Option Refusal) (l m : ℕ) → Ok m ≡ counted o l → (o ≡ none) × (m ≡ l)
counted_leaves none l m e = (refl, cc)
counted_leaves (some r) l m e = let z : ◌≡◌ {A = ℕ} 0 1 = cc in absurd (omega arith)

counted_stopped : (o : Option Refusal) (l : ℕ) (r : Refusal) → Err r ≡ counted o l → o ≡ some r
counted_stopped none l r e = let z : ◌≡◌ {A = ℕ} 0 1 = cc in absurd (omega arith)
counted_stopped (some q) l r e = cc

-- ---- what stands in the list afterwards
front_written : (l rs : List ℤ) → length rs ≤ length l → sets l 0 rs ≡ rs ++ drop (length rs) l
front_written l rs h = sets-eq rs l 0 (omega (arith, h)) ∙ ap (λ n. rs ++ drop n l) (zero-add (length rs))

-- and a machine word holds their number
pub numbers_few : {m leaves : ℕ} → m ≤ 8 → leaves ≤ 2 ^ 24 → (6 + 4 * m) * leaves ≤ 38 * 2 ^ 24
numbers_few {m} few less = mul-le-mul {n₁ = 6 + 4 * m} {n₂ = 38} (omega (arith, few)) less

-- ---- 7, 19, 8 and the report; the first pass knows the pieces alone
module _ (σ : Setting) (T : ℤ) (cs : List Curve) where
  own_count : {c : Result ℕ Refusal} → c ≡ counted_of (listed σ) T cs → c ≡ counted_of σ T cs
  own_count e = e ∙ sym (counted_same σ (listed σ).most (listed σ).leaves T cs)

  leaves_counted : {m : ℕ} → Ok m ≡ counted_of (listed σ) T cs → (first_too_wide σ T 0 cs ≡ none) × (m ≡ leaves_of σ T cs)
  unfolding counted_of
  leaves_counted {m} e = counted_leaves (first_too_wide σ T 0 cs) (leaves_of σ T cs) m (own_count e)

  pub answer_too_wide : {r : Refusal} (room : ℕ) → Err r ≡ counted_of (listed σ) T cs → Err r ≡ band_curves σ T cs room
  unfolding counted_of band_curves
  answer_too_wide {r} room e = rw (counted_stopped (first_too_wide σ T 0 cs) (leaves_of σ T cs) r (own_count e))

  module _ {m : ℕ} (e : Ok m ≡ counted_of (listed σ) T cs) where
    pub answer_few : length cs ≤ 65536 → m ≤ 2 ^ 24
    answer_few h = omega (arith, (leaves_counted e).1, few_leaves σ T cs)

    pub answer_nodes : length cs ≤ 2 * m
    answer_nodes = omega (arith, (leaves_counted e).1, nodes_of_curves σ T cs)

    met : AllMeet σ T cs
    met = (none_wide σ T 0 cs).0 (leaves_counted e).0

    pub answer_too_many : (room : ℕ) → σ.leaves < m → Err (TooManyLeaves m) ≡ band_curves σ T cs room
    answer_too_many room h =
        let w = (leaves_counted e).1 in sym (many_said σ T cs room (record { meet = met; more = omega (arith, w); leaves = sym w }))

    module _ (taken : m ≤ σ.leaves) where
      pub answer_too_few : {room : ℕ} → room < record_length σ * m → Err (TooFewRecords m) ≡ band_curves σ T cs room
      answer_too_few {room} h =
          let w = (leaves_counted e).1 in
          let short : room < record_length σ * leaves_of σ T cs = omega (arith, ap (λ n. record_length σ * n) w) in
          sym (few_said σ T cs room (record { meet = met; taken = omega (arith, w); short = short; leaves = sym w }))

      answer_done : {room : ℕ} → record_length σ * m ≤ room → done (length cs) m (2 * m - length cs) ≡ band_curves σ T cs room
      answer_done {room} h =
          let w = (leaves_counted e).1 in
          sym (done_said σ T cs room (record {
            meet = met;
            taken = omega (arith, w);
            enough = omega (arith, ap (λ n. record_length σ * n) w);
            curves = refl;
            leaves = sym w;
            nodes = omega (arith, nodes_of_curves σ T cs, w);
          }))

    -- the records stand in front of what was there
    pub answer_list : (l : List ℤ) → record_length σ * m ≤ length l
        → sets l 0 (all_records σ T 0 cs) ≡ all_records σ T 0 cs ++ drop (length (all_records σ T 0 cs)) l
    answer_list l h =
        front_written l (all_records σ T 0 cs) (omega (arith, all_records_length σ T 0 cs, ap (λ n. record_length σ * n) (leaves_counted e).1))

-- ---- a list without faults, by its form
module _ (σ : Setting) {f : Form} {ns : List ℤ} {n : ℕ} (r : Readable σ f ns n) where
  pub read_count : length (curves_in f ns n) ≡ n
  read_count = curves_count (read_at f ns) (next_of f ns) n 0

  pub fillable : (T : ℤ) {m room : ℕ} → Ok m ≡ counted_of (listed σ) T (curves_in f ns n) → record_length σ * m ≤ room → Fillable σ T f ns n room
  fillable T e h =
      let w = leaves_counted σ T (curves_in f ns n) e in
      record { readable = r; passing = w.0; enough = omega (arith, h, ap (λ n. record_length σ * n) w.1) }

  pub report_done : (limit : ℕ) (T : ℤ) {m room : ℕ} → Ok m ≡ counted_of (listed σ) T (curves_in f ns n) → m ≤ limit
      → record_length σ * m ≤ room → done n m (2 * m - n) ≡ band_curves (relimited σ n limit) T (curves_in f ns n) room
  report_done limit T {m} {room} e taken h =
      let cs = curves_in f ns n in
      let τ = relimited σ n limit in
      subst (λ k. done k m (2 * m - k) ≡ band_curves τ T cs room) read_count (answer_done τ T cs e taken h)

-- where no leaf is too wide, the first pass counts them all
pub all_counted : (σ : Setting) (T : ℤ) (cs : List Curve) → first_too_wide σ T 0 cs ≡ none → Ok (leaves_of σ T cs) ≡ counted_of σ T cs
unfolding counted_of
all_counted σ T cs e = sym (ap (λ o. counted o (leaves_of σ T cs)) e)

total_counted : (σ : Setting) (T : ℤ) (cs : List Curve) {n : ℕ} → Ok n ≡ counted_of σ T cs → (first_too_wide σ T 0 cs ≡ none) × (n ≡ leaves_of σ T cs)
unfolding counted_of
total_counted σ T cs {n} e = counted_leaves (first_too_wide σ T 0 cs) (leaves_of σ T cs) n e

-- the curves have so many leaves, none too wide, and all have their place: as the first pass counts, or as is sure without it
pub record Placed (σ : Setting) (T : ℤ) (cs : List Curve) (most room : ℕ) : Type 0 where
  pub is : Ok (leaves_of σ T cs) ≡ counted_of σ T cs
  pub taken : leaves_of σ T cs ≤ most
  pub enough : record_length σ * leaves_of σ T cs ≤ room

module _ (σ : Setting) (T : ℤ) (cs : List Curve) {most room : ℕ} where
  pub placed_counted : {n : ℕ} → Ok n ≡ counted_of σ T cs → n ≤ most → record_length σ * n ≤ room → Placed σ T cs most room
  placed_counted e h l =
      let w = total_counted σ T cs e in
      record { is = all_counted σ T cs w.0; taken = omega (arith, h, w.1); enough = omega (arith, l, ap (λ n. record_length σ * n) w.1) }

  pub placed_sure : {q : ℕ} → Fits σ T cs q → {L : ℕ} → L ≡ record_length σ → q ≤ room / L → q ≤ most → Placed σ T cs most room
  placed_sure {q} f {L} e a b = record {
    is = all_counted σ T cs f.passing;
    taken = le_trans f.few b;
    enough = le_trans (mul-le-mul (le_refl (record_length σ)) (le_trans f.few a)) (rw e (mul-div-le room (record_length σ)));
  }

-- the place after all records, divided by the length of one
pub leaves_divided : (σ : Setting) (m : ℕ) {place n : ℕ} → 6 + 4 * m ≡ record_length σ → place ≡ record_length σ * n → place / (6 + 4 * m) ≡ n
leaves_divided σ m {place} {n} e p = rw (e, p) (mul-div_cancel_left n (omega (arith, e)))

-- the curves that were given can be read, and are those given
pub record Read (σ : Setting) (f : Form) (ns : List ℤ) (o : Outlined) (n : ℕ) : Type 0 where
  pub readable : Readable (listed σ) f ns n
  pub is : o ≡ curves (curves_in f ns n)

whole_walkable : (m : ℕ) (ns : List ℤ) (n at : ℕ) (cs : List Curve) → outline_from n m ns at ≡ curves cs → length cs ≡ n
    → AllWalkable (lists_of m false) Binary64 ns n at × (cs ≡ curves_from (curve_at ns) (next_at ns) n at)
whole_walkable m ns zero at [] e l = (end, refl)
whole_walkable m ns zero at (c ∷ cs) e l = absurd (omega arith)
whole_walkable m ns (suc n) at [] e l = absurd (omega arith)
whole_walkable m ns (suc n) at (c ∷ cs) e l =
    let b = outline_begins (suc n) m ns at c cs e in
    let fine = faultless m ns at b.no_fault in
    let rest = whole_walkable m ns n (next_at ns at) cs
    (ap (λ k. outline_from k m ns (next_at ns at)) {x = n} {y = suc n - 1} (omega arith) ∙ b.rest) (omega arith) in (
      more (record {
        stands = record { degree = fine.degree; ends = fine.ends; fine = fine.fine };
        sized = subst (Sized 0) b.is (accepted_head (suc n) m ns at c cs e);
        suits = record { takes = curve_takes fine; units = λ h. refl };
      }) rest.0,
      ap₂ ◌∷◌ b.is rest.1,
    )

-- a list of integers is asked for less
outline_walkable : {σ : Setting} {ns : List ℤ} {n at : ℕ} → AllWalkable σ Binary64 ns n at → AllWalkable σ Outline ns n at
outline_walkable end = end
outline_walkable (more {at = at} w rest) =
    more {at = at} (record { stands = (w.stands.degree, w.stands.ends); sized = w.sized; suits = w.suits }) (outline_walkable rest)

spline_walkable : (m : ℕ) (ns : List ℤ) → ((k : ℕ) → nat_abs (entry ns k) ≤ 131072) → (n at : ℕ) → at + 2 * n + 6 ≤ length ns
    → AllWalkable (lists_of m true) Spline ns n at
spline_walkable m ns small zero at h = end
spline_walkable m ns small (suc n) at h = more {at = at} (record {
  stands = omega arith;
  sized = spline_sized ns small at;
  suits = record {
    takes = (degree_takes (spline_at ns at).degree m).1 (λ k. absurd (omega (arith, k, spline_degree ns at)));
    units = λ k. absurd (omega (arith, k, spline_degree ns at));
  };
}) (spline_walkable m ns small n (at + 2) (omega arith))

spline_curves : (ns : List ℤ) (n at : ℕ) → splines_from n ns at ≡ curves_from (spline_at ns) (λ i. i + 2) n at
unfolding splines_from
spline_curves ns zero at = refl
spline_curves ns (suc n) at = ap (λ cs. spline_at ns at ∷ cs) (spline_curves ns n (at + 2))

-- the curves of an outline, whose numbers stand in a list of integers or were read from one of f64
wholes_read : (most leaves m : ℕ) (ns : List ℤ) {n : ℕ} → most ≤ 65536 → (cs : List Curve) → outlined most m ns ≡ curves cs → length cs ≡ n
    → Readable (lists_of m false) Binary64 ns n × (cs ≡ curves_in Binary64 ns n)
wholes_read most leaves m ns {n} few cs e count =
    let from = accepted_within most n m ns 0 cs (outlined_from most m ns cs e) (le_of_eq count) in
    let w = whole_walkable m ns n 0 cs from count in
    (record { all = w.0; few = omega (arith, few, accepted_most most m ns cs e, count) }, w.1)

-- one law a form
pub outline_read : (most leaves m : ℕ) (ns : List ℤ) {n : ℕ} → most ≤ 65536 → Ok n ≡ checked_of (outlined most m ns)
    → Read (setting_for Outline most leaves m) Outline ns (outlined most m ns) n
outline_read most leaves m ns {n} few e =
    let a = checked_curves (outlined most m ns) n (sym e) in
    let r = wholes_read most leaves m ns few a.cs a.is a.count in
    record { readable = record { all = outline_walkable r.0.all; few = r.0.few }; is = a.is ∙ ap curves r.1 }

pub given_read : (l : CurveList) (most leaves m : ℕ) {n : ℕ} → most ≤ 65536 → Ok n ≡ checked_of (given_of l most m)
    → Read (setting_for (form_of l) most leaves m) (form_of l) (numbers_of l) (given_of l most m) n
given_read (Given.Outline ns) most leaves m few e = outline_read most leaves m ns.now few e
given_read (Given.Binary64 xs) most leaves m {n} few e =
    let a = checked_curves (outlined_binary64 most m xs.now) n (sym e) in
    let r = wholes_read most leaves m (wholes xs.now) few a.cs (whole_curves most m xs.now a.cs a.is) a.count in
    record { readable = r.0; is = a.is ∙ ap curves r.1 }
given_read (Given.Spline ns) most leaves m {n} few e =
    let a = checked_curves (splined ns.now) n (sym e) in
    let s = accepted ns.now a.cs a.is in
    let count : n ≡ spline_count (length ns.now) = sym a.count ∙ splines_count s in
    record {
      readable = record {
        all = spline_walkable m ns.now s.small n 0 (omega (arith, count, s.fine.even, s.fine.least));
        few = omega (arith, splines_most s, a.count);
      };
      is = a.is ∙ ap curves (s.is ∙ ap (λ k. splines_from k ns.now 0) (sym count) ∙ spline_curves ns.now n 0);
    }

-- ---- banding of what is given
module _ (σ : Setting) (o : Outlined) (T : ℤ) where
  module _ {f : Form} {ns : List ℤ} {n : ℕ} (r : Read σ f ns o n) where
    -- banding of the curves does not know how many more there might have been
    pub banded_read : (room : ℕ) → pieces_fine σ.pieces ≡ true → tolerance_fine T ≡ true
        → band_curves (relimited σ n σ.leaves) T (curves_in f ns n) room ≡ band_given σ T o room
    unfolding band_given
    banded_read room rows h = rw (band_given, rows, h, r.is) (sym (band_curves_same σ n T (curves_in f ns n) room))

    pub written_curves : (l : List ℤ) {l' : List ℤ} (b : Result Banded Refusal) → b ≡ band_given σ T o (length l)
        → l' ≡ written_by b (all_records (listed σ) T 0 (curves_in f ns n)) l → l' ≡ written_given σ T o l
    unfolding written_given
    written_curves l b h g = g ∙ rw (h, r.is, all_records_same σ (listed σ).most (listed σ).leaves T 0 (curves_in f ns n))

  pub banded_pieces : (room : ℕ) → pieces_fine σ.pieces ≡ false → Err Pieces ≡ band_given σ T o room
  unfolding band_given
  banded_pieces room f = rw (band_given, f)

  pub banded_tolerance : (room : ℕ) → pieces_fine σ.pieces ≡ true → tolerance_fine T ≡ false → Err Tolerance ≡ band_given σ T o room
  unfolding band_given
  banded_tolerance room rows f = rw (band_given, rows, f)

  pub banded_faulty : {r : Refusal} (room : ℕ) → pieces_fine σ.pieces ≡ true → tolerance_fine T ≡ true
      → Err r ≡ checked_of o → Err r ≡ band_given σ T o room
  unfolding band_given
  banded_faulty {r} room rows f e = rw (band_given, rows, f, checked_refused o r (sym e))

-- a refusal alters nothing
pub written_refused : (σ : Setting) (o : Outlined) (T : ℤ) {r : Refusal} (l : List ℤ) → Err r ≡ band_given σ T o (length l)
    → l ≡ written_given σ T o l
unfolding written_given
written_refused σ o T l e = rw (sym e)
