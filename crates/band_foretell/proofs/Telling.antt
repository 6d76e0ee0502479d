-- The loop over the curves of an outline: what the list holds and what is added up after each curve.
use mathlib.Core.Path.{◌≡◌, refl, sym, ◌∙◌, ap, ap₂, subst}
use mathlib.Core.Bool.{false}
use mathlib.Core.List.{List, [], ◌∷◌, ◌++◌, append_assoc, append-nil}
use mathlib.Core.Option.{Option, none, some}
use Prim.Native.Nat.{ℕ, ◌+◌, ◌*◌, ◌^◌, ◌≤◌, ◌<◌}
use native.Mathlib.Nat.{zero-add, add-zero, pow-suc}
use native.Mathlib.Numerals.{add-one}
use native.Mathlib.Omega.{arith}
use borrow.Author.Tests.{le-ltb}
use lib.Dec.{lit≤}
use lib.Pow.{pow_mono}
use lib.ListN.{length, length-append, drop, set}
use lib.Seq.{sets, sets-eq, length-sets}
use lib.IntN.{ℤ}
use Rattle.std.specs.Prelude.{Option as Maybe, Some, None, Ok}
use Rattle.integers.proofs.Stores.{sets_append}
use Rattle.setting.specs.Setting.{Setting}
use Rattle.curve_nodes.specs.declared.Curve.{Curve}
use Rattle.outline.specs.Curves.{next_at, curve_at}
use Rattle.walk_depths.specs.Depth.{depth_of}
use Rattle.walk_depths.proofs.Least.{depth_eight}
use Rattle.band_passes.specs.Forms.{Outline}
use Rattle.band_passes.specs.Inside.{curves_in, Readable}
use Rattle.band_passes.proofs.Reading.{Rest, rest_of, curves_count, rest_begins, rest_start, rest_next, rest_done}
use Rattle.band_foretold.specs.declared.foretelling.Foretold.{Foretold}
use Rattle.band_foretold.proofs.Answering.{depths_length, numbers_length}
use Rattle.band_foretold.specs.Foretelling.{depths_of, depth_numbers, all_have, summed, leaves_within, nodes_within, leaves_foretold, nodes_foretold, told, foretell_depths}
use Rattle.band_foretell.specs.Inside.{depth_found, found_number, UpToEight, few_of, FewSums, sums_with, sums_answer}

-- ---- the depths of some curves
depths_more : (σ : Setting) (T : ℤ) (c : Curve) (cs : List Curve) → depths_of σ T (c ∷ cs) ≡ depth_of σ T c ∷ depths_of σ T cs
unfolding depths_of
depths_more σ T c cs = refl

depths_none : (σ : Setting) (T : ℤ) → depths_of σ T [] ≡ []
unfolding depths_of
depths_none σ T = refl

numbers_more : (o : Option ℕ) (os : List (Option ℕ)) → depth_numbers (o ∷ os) ≡ found_number (depth_found o) ∷ depth_numbers os
unfolding depth_numbers
numbers_more none os = refl
numbers_more (some j) os = refl

-- no depth is greater than 8
pub shallow : (σ : Setting) (T : ℤ) (c : Curve) {d : Maybe ℕ} → d ≡ depth_found (depth_of σ T c) → UpToEight d
shallow σ T c e = subst UpToEight (sym e) (go (depth_of σ T c) refl)
  where
    go : (o : Option ℕ) → depth_of σ T c ≡ o → UpToEight (depth_found o)
    go none f = record { within = lit≤ tt }
    go (some j) f = record { within = depth_eight σ T c j f }

-- ---- the sums with one curve more
twice : (j : ℕ) → 2 ^ (j + 1) ≡ 2 ^ j * 2
twice j = rw add-one (pow-suc 2 j)

-- the sums of the curves before `rest`, of all the curves
abbrev pub Adds : Maybe Foretold → (whole rest : List (Option ℕ)) → Type 0
Adds (Some f) whole rest = (all_have whole ≡ all_have rest) × (summed leaves_within whole ≡ f.leaves + summed leaves_within rest)
    × (summed nodes_within whole ≡ f.nodes + summed nodes_within rest)
Adds None whole rest = all_have whole ≡ false

adds_more : (s : Maybe Foretold) (o : Option ℕ) (whole os : List (Option ℕ)) → Adds s whole (o ∷ os) → Adds (sums_with s (depth_found o)) whole os
unfolding summed all_have
adds_more (Some f) (some j) whole os h = (h.0, omega (arith, h.1), omega (arith, h.2, twice j))
adds_more (Some f) none whole os h = h.0
adds_more None o whole os h = h

under : {j : ℕ} → j ≤ 8 → 2 ^ j ≤ 256
under h = pow_mono {j = 8} h

-- k curves give no more
abbrev pub Few : Maybe Foretold → ℕ → Type 0
Few (Some f) k = (f.leaves ≤ 256 * k) × (f.nodes ≤ 512 * k)
Few None k = Unit {0}

few_more : (s : Maybe Foretold) (k : ℕ) (o : Option ℕ) → UpToEight (depth_found o) → Few s k → Few (sums_with s (depth_found o)) (k + 1)
few_more (Some f) k (some j) h few = let u = under h.within in (omega (arith, few.0), omega (arith, few.1))
few_more (Some f) k none h few = tt
few_more None k o h few = tt

few_sums : (s : Maybe Foretold) (k : ℕ) → k ≤ 65536 → Few s k → few_of s
few_sums (Some f) k h few = (omega (arith, few.0), omega (arith, few.1))
few_sums None k h few = tt

-- the depths of the n curves of an outline without faults
abbrev whole_of : Setting → ℤ → List ℤ → ℕ → List (Option ℕ)
whole_of σ T ns n = depths_of σ T (curves_in Outline ns n)

-- ---- the loop: the list was l, and k of n curves are done
pub record Telling (σ : Setting) (T : ℤ) (ns : List ℤ) (n : ℕ) (l : List ℤ) (k at : ℕ) (s : Maybe Foretold) (l' : List ℤ) : Type 0 where
  pub rest : Rest σ Outline ns n k at
  pub count : length (whole_of σ T ns n) ≡ n
  pub done : List ℤ
  pub here : k ≡ length done
  pub list : l' ≡ sets l 0 done
  pub split : depth_numbers (whole_of σ T ns n) ≡ done ++ depth_numbers (depths_of σ T (rest_of Outline ns n k at))
  pub adds : Adds s (whole_of σ T ns n) (depths_of σ T (rest_of Outline ns n k at))
  pub few : Few s k

module _ {σ : Setting} {T : ℤ} {ns : List ℤ} {n : ℕ} {l : List ℤ} where
  pub telling_start : Readable σ Outline ns n → Telling σ T ns n l 0 0 (Some (record { leaves = 0; nodes = 0 })) l
  telling_start r =
      let all = rest_of Outline ns n 0 0 in
      let e : whole_of σ T ns n ≡ depths_of σ T all = ap (depths_of σ T) (rest_begins Outline ns n) in
      record {
        rest = rest_start r;
        count = depths_length σ T (curves_in Outline ns n) ∙ curves_count (curve_at ns) (next_at ns) n 0;
        done = [];
        here = refl;
        list = refl;
        split = ap depth_numbers e;
        adds = (
          ap all_have e,
          ap (summed leaves_within) e ∙ sym (zero-add (summed leaves_within (depths_of σ T all))),
          ap (summed nodes_within) e ∙ sym (zero-add (summed nodes_within (depths_of σ T all))),
        );
        few = (omega arith, omega arith);
      }

  module _ {k at : ℕ} {s : Maybe Foretold} {l' : List ℤ} (f : Telling σ T ns n l k at s l') where
    pub telling_length : length l' ≡ length l
    telling_length = ap length f.list ∙ length-sets l 0 f.done

    pub telling_few : k ≤ 65536 → FewSums s
    telling_few h = record { few = few_sums s k h f.few }

    -- one curve more
    module _ (h : k < n) where
      abbrev curve : Curve
      curve = curve_at ns at

      abbrev more : List Curve
      more = rest_of Outline ns n (k + 1) (next_at ns at)

      next : depths_of σ T (rest_of Outline ns n k at) ≡ depth_of σ T curve ∷ depths_of σ T more
      next = ap (depths_of σ T) (rest_next f.rest h).is ∙ depths_more σ T curve more

      pub telling_more : Telling σ T ns n l (k + 1) (next_at ns at) (sums_with s (depth_found (depth_of σ T curve)))
          (set l' k (found_number (depth_found (depth_of σ T curve))))
      telling_more =
          let o = depth_of σ T curve in
          let v = found_number (depth_found o) in
          let rs : List ℤ = v ∷ [] in
          let os = depths_of σ T more in
          record {
            rest = (rest_next f.rest h).on;
            count = f.count;
            done = f.done ++ rs;
            here = omega (arith, f.here, length-append f.done rs);
            list = ap₂ (λ p q. sets p q rs) f.list (f.here ∙ sym (zero-add (length f.done))) ∙ sym (sets_append l 0 f.done rs);
            split = f.split ∙ ap (λ x. f.done ++ depth_numbers x) next ∙ ap (λ x. f.done ++ x) (numbers_more o os)
                ∙ sym (append_assoc f.done rs (depth_numbers os));
            adds = adds_more s o (whole_of σ T ns n) os (subst (Adds s (whole_of σ T ns n)) next f.adds);
            few = few_more s k o (shallow σ T curve refl) f.few;
          }

      -- from what the code called
      pub telling_on : {c : Curve} {d : Maybe ℕ} {s' : Maybe Foretold} {l'' : List ℤ} → c ≡ curve_at ns at → d ≡ depth_found (depth_of σ T c)
          → s' ≡ sums_with s d → l'' ≡ set l' k (found_number d) → Telling σ T ns n l (k + 1) (next_at ns at) s' l''
      telling_on ec ed es el =
          let e = ed ∙ ap (λ c. depth_found (depth_of σ T c)) ec in
          rw (es ∙ ap (sums_with s) e, el ∙ ap (λ d. set l' k (found_number d)) e) telling_more

    -- all done
    module _ (h : n ≤ k) (room : n ≤ length l) where
      over : depths_of σ T (rest_of Outline ns n k at) ≡ []
      over = ap (depths_of σ T) (rest_done Outline ns n k at h) ∙ depths_none σ T

      pub telling_answer : Ok (sums_answer s) ≡ foretell_depths (length l) (whole_of σ T ns n)
      unfolding foretell_depths summed all_have
      telling_answer =
          rw (foretell_depths, le-ltb (length l) (length (whole_of σ T ns n)) (omega (arith, f.count)))
          (added s (whole_of σ T ns n) (subst (Adds s (whole_of σ T ns n)) over f.adds))
        where
          added : (s : Maybe Foretold) (os : List (Option ℕ)) → Adds s os [] → Ok (sums_answer s) ≡ told (leaves_foretold os) (nodes_foretold os)
          added (Some f) os h = rw (h.0, h.1, h.2, add-zero, add-zero)
          added None os h = rw h

      pub telling_list : l' ≡ depth_numbers (whole_of σ T ns n) ++ drop (length (depth_numbers (whole_of σ T ns n))) l
      unfolding depth_numbers
      telling_list =
          let e : f.done ≡ depth_numbers (whole_of σ T ns n) = sym (f.split ∙ ap (λ x. f.done ++ depth_numbers x) over ∙ append-nil f.done) in
          f.list ∙ ap (sets l 0) e ∙ sets-eq (depth_numbers (whole_of σ T ns n)) l 0 (omega (arith, numbers_length (whole_of σ T ns n), f.count))
          ∙ ap (λ q. depth_numbers (whole_of σ T ns n) ++ drop q l) (zero-add (length (depth_numbers (whole_of σ T ns n))))
