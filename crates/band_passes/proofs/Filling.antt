-- The second pass over a list of curves: what the list holds after each curve.
use mathlib.Core.Path.{◌≡◌, refl, sym, ◌∙◌, ap, ap₂, subst}
use mathlib.Core.List.{List, [], ◌∷◌, ◌++◌, append_assoc, append-nil}
use Prim.Native.Nat.{ℕ, suc, ◌+◌, ◌*◌, ◌≤◌, ◌<◌}
use native.Mathlib.Nat.{zero-add}
use native.Mathlib.Numerals.{add-one}
use native.Mathlib.Omega.{arith}
use lib.ListN.{length, length-append}
use lib.Seq.{sets, length-sets}
use lib.IntN.{ℤ}
use Rattle.integers.proofs.Stores.{sets_append}
use Rattle.setting.specs.Setting.{Setting, record_length}
use Rattle.curve_nodes.specs.declared.Curve.{Curve}
use Rattle.band_passes.specs.Forms.{Form}
use Rattle.walk_curve.specs.Walked.{node_meets, ends_of}
use Rattle.band_records.specs.Records.{records_of, all_records}
use Rattle.band_passes.specs.Leaves.{leaves_of}
use Rattle.band_passes.specs.Inside.{read_at, next_of, curves_in, EndsMeet, Fillable}
use Rattle.band_passes.specs.FirstWide.{AllMeet}
use Rattle.walk_tree.proofs.Failing.{passing_none}
use Rattle.band_passes.proofs.Wide.{none_wide, meet_head, meet_rest}
use Rattle.band_passes.proofs.Reading.{Rest, rest_of, rest_start, rest_begins, rest_next, rest_done}
use Rattle.band_passes.proofs.Among.{all_records_length}
use Rattle.band_records.proofs.Lengths.{records_length}

more_leaves : (σ : Setting) (T : ℤ) (c : Curve) (cs : List Curve) → leaves_of σ T (c ∷ cs) ≡ length (ends_of σ T c) + leaves_of σ T cs
unfolding leaves_of
more_leaves σ T c cs = refl

more_records : (σ : Setting) (T : ℤ) (k : ℕ) (c : Curve) (cs : List Curve)
    → all_records σ T k (c ∷ cs) ≡ records_of σ k c (ends_of σ T c) ++ all_records σ T (suc k) cs
unfolding all_records
more_records σ T k c cs = refl

no_records : (σ : Setting) (T : ℤ) (k : ℕ) → all_records σ T k [] ≡ []
unfolding all_records
no_records σ T k = refl

-- ---- the loop: the list was l, k of n curves are done, and the first `place` numbers are theirs
pub record Filled (σ : Setting) (T : ℤ) (f : Form) (ns : List ℤ) (n : ℕ) (l : List ℤ) (k at place : ℕ) (l' : List ℤ) : Type 0 where
  pub ahead : Rest σ f ns n k at
  pub done : List ℤ
  pub here : place ≡ length done
  pub list : l' ≡ sets l 0 done
  pub split : all_records σ T 0 (curves_in f ns n) ≡ done ++ all_records σ T k (rest_of f ns n k at)
  pub passing : AllMeet σ T (rest_of f ns n k at)
  pub room : place + record_length σ * leaves_of σ T (rest_of f ns n k at) ≤ length l

module _ {σ : Setting} {T : ℤ} {form : Form} {ns : List ℤ} {n : ℕ} {l : List ℤ} where
  pub filled_start : Fillable σ T form ns n (length l) → Filled σ T form ns n l 0 0 0 l
  filled_start f =
      let e = rest_begins form ns n in
      record {
        ahead = rest_start f.readable;
        done = [];
        here = refl;
        list = refl;
        split = ap (all_records σ T 0) e;
        passing = subst (AllMeet σ T) e ((none_wide σ T 0 (curves_in form ns n)).0 f.passing);
        room = omega (arith, f.enough, ap (λ cs. record_length σ * leaves_of σ T cs) e);
      }

  module _ {k at place : ℕ} {l' : List ℤ} (f : Filled σ T form ns n l k at place l') where
    pub filled_length : length l' ≡ length l
    filled_length = ap length f.list ∙ length-sets l 0 f.done

    pub filled_done : n ≤ k → l' ≡ sets l 0 (all_records σ T 0 (curves_in form ns n))
    filled_done h = f.list ∙ ap (sets l 0)
        (sym (f.split ∙ ap (λ cs. f.done ++ all_records σ T k cs) (rest_done form ns n k at h) ∙ ap (λ xs. f.done ++ xs) (no_records σ T k)
        ∙ append-nil f.done))

    pub filled_place : n ≤ k → place ≡ record_length σ * leaves_of σ T (curves_in form ns n)
    filled_place h = f.here ∙ ap length
        (sym (f.split ∙ ap (λ cs. f.done ++ all_records σ T k cs) (rest_done form ns n k at h) ∙ ap (λ xs. f.done ++ xs) (no_records σ T k)
        ∙ append-nil f.done)) ∙ all_records_length σ T 0 (curves_in form ns n)

    module _ (h : k < n) where
      abbrev c : Curve
      c = read_at form ns at

      abbrev cs : List Curve
      cs = rest_of form ns n (k + 1) (next_of form ns at)

      next_is : rest_of form ns n k at ≡ c ∷ cs
      next_is = (rest_next f.ahead h).is

      passing_here : AllMeet σ T (c ∷ cs)
      passing_here = subst (AllMeet σ T) next_is f.passing

      room_here : place + record_length σ * (length (ends_of σ T c) + leaves_of σ T cs) ≤ length l
      room_here = omega (arith, f.room, ap (λ m. record_length σ * m) (ap (leaves_of σ T) next_is ∙ more_leaves σ T c cs))

      pub filled_ready : EndsMeet σ T (read_at form ns at)
      filled_ready = record {
        sized = (rest_next f.ahead h).here.sized;
        suits = (rest_next f.ahead h).here.suits;
        passing = passing_none (node_meets σ T c) (ends_of σ T c) (meet_head σ T passing_here);
      }

      pub filled_room : place + record_length σ * length (ends_of σ T (read_at form ns at)) ≤ length l'
      filled_room = omega (arith, room_here, filled_length)

      filled_more : {place' : ℕ} {l'' : List ℤ} → place' ≡ place + record_length σ * length (ends_of σ T c)
          → l'' ≡ sets l' place (records_of σ k c (ends_of σ T c)) → Filled σ T form ns n l (k + 1) (next_of form ns at) place' l''
      filled_more {place'} e g =
          let rs = records_of σ k c (ends_of σ T c) in
          record {
            ahead = (rest_next f.ahead h).on;
            done = f.done ++ rs;
            here = omega (arith, e, f.here, length-append f.done rs, records_length σ k c (ends_of σ T c));
            list = g ∙ ap₂ (λ p q. sets p q rs) f.list (f.here ∙ sym (zero-add (length f.done))) ∙ sym (sets_append l 0 f.done rs);
            split = f.split ∙ ap (λ cs. f.done ++ all_records σ T k cs) next_is ∙ ap (λ xs. f.done ++ xs) (more_records σ T k c cs)
                ∙ sym (append_assoc f.done rs (all_records σ T (suc k) cs)) ∙ ap (λ m. f.done ++ rs ++ all_records σ T m cs)
                (sym (add-one k));
            passing = meet_rest σ T passing_here;
            room = omega (arith, e, room_here);
          }

      -- from what the code called
      pub filled_on : {p : Curve} {place' : ℕ} {l'' : List ℤ} → p ≡ read_at form ns at → place' ≡ place + record_length σ * length (ends_of σ T p)
          → l'' ≡ sets l' place (records_of σ k p (ends_of σ T p)) → Filled σ T form ns n l (k + 1) (next_of form ns at) place' l''
      filled_on e f g = filled_more (f ∙ ap (λ q. place + record_length σ * length (ends_of σ T q)) e)
          (g ∙ ap (λ q. sets l' place (records_of σ k q (ends_of σ T q))) e)
