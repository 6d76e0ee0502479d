-- The pass over all curves: where it stands after each, and what it finds.
use mathlib.Core.Path.{◌≡◌, refl, sym, ◌∙◌, ap, ap₂, subst}
use mathlib.Core.Bool.{Bool, true, false}
use mathlib.Core.List.{List, [], ◌∷◌, ◌++◌, append-nil}
use mathlib.Core.Option.{Option, none, some}
use Prim.Native.Nat.{ℕ, zero, suc, ◌+◌, ◌*◌, ◌≤◌, ◌<◌, min}
use native.Mathlib.Nat.{mul-le-mul_left}
use native.Mathlib.Numerals.{add-one}
use native.Mathlib.Omega.{arith}
use lib.ListN.{length, take, drop, take-append-drop}
use lib.Seq.{take_all, length-take-le}
use lib.IntN.{ℤ}
use Rattle.std.specs.Prelude.{Result, Ok, Err}
use Rattle.setting.specs.Setting.{Setting, record_length}
use Rattle.integers.proofs.Clash.{clash}
use Rattle.refusals.specs.declared.Refusal.{Refusal}
use Rattle.refusals.specs.declared.Refusal.TheVariants.{TooWide}
use Rattle.curve_nodes.specs.declared.Curve.{Curve}
use Rattle.outline.specs.Curves.{next_at}
use Rattle.outline.specs.Places.{place_of}
use Rattle.outline_changed.proofs.Changed.{place_next}
use Rattle.walk_tree.specs.Tree.{first_failing}
use Rattle.walk_curve.specs.Walked.{node_meets, ends_of}
use Rattle.band_records.specs.Records.{records_of, all_records}
use Rattle.band_passes.specs.Leaves.{first_too_wide, leaves_of}
use Rattle.band_passes.specs.Inside.{read_at, next_of, curves_in, Readable}
use Rattle.band_passes.specs.Forms.{Outline}
use Rattle.band_passes.proofs.Reading.{curves_count, Rest, rest_of, rest_start, rest_begins, rest_next}
use Rattle.band_passes.specs.FirstWide.{AllMeet}
use Rattle.band_passes.proofs.Wide.{wide_later, wide_here, none_wide, behind}
use Rattle.band_passes.proofs.Among.{all_records_length, records_among, leaves_among}
use Rattle.band_passes.proofs.Counting.{few_leaves}
use Rattle.band_comparing.specs.declared.Seen.{Seen}
use Rattle.band_comparing.specs.declared.Stand.{Stand}
use Rattle.band_comparing.specs.declared.Compared.{Compared}
use Rattle.band_comparing.specs.Inside.{reach_of, seen_of, stand_of, later_of, compared_of}
use Rattle.band_comparing.proofs.ReachLaws.{reach_less, reach_parts}

-- ---- what the walk of one curve says
abbrev found : Option ℕ → Seen → Result Seen ℕ
found o s = elim o [ some n ↦ Err n | none ↦ Ok s ]

seen_is : (o : Option ℕ) (s w : Seen) → Ok w ≡ found o s → (o ≡ none) × (w ≡ s)
seen_is none s w e = (refl, cc)
seen_is (some n) s w e = clash (cc)

wide_is : (o : Option ℕ) (s : Seen) (m : ℕ) → Err m ≡ found o s → o ≡ some m
wide_is none s m e = clash (cc)
wide_is (some n) s m e = cc

module _ (σ : Setting) (T : ℤ) (c : Curve) (k : ℕ) (g : List ℤ) (reach at : ℕ) where
  seen_wide : (m : ℕ) → Err m ≡ seen_of σ T c k g reach at → first_failing (node_meets σ T c) (ends_of σ T c) ≡ some m
  unfolding seen_of
  seen_wide m e = wide_is (first_failing (node_meets σ T c) (ends_of σ T c)) _ m e

  seen_upto : (w : Seen) → Ok w ≡ seen_of σ T c k g reach at
      → (first_failing (node_meets σ T c) (ends_of σ T c) ≡ none) × (w.place ≡ at + record_length σ * length (ends_of σ T c))
      × (w.reach ≡ reach_of g reach at (records_of σ k c (ends_of σ T c)))
  unfolding seen_of
  seen_upto w e =
      let both = seen_is (first_failing (node_meets σ T c) (ends_of σ T c)) _ w e in
      (both.0, ap (λ (s : Seen). s.place) both.1, ap (λ (s : Seen). s.reach) both.1)

-- ---- lists of curves
pub take_one_more : (k : ℕ) (cs : List Curve) (c : Curve) (ds : List Curve) → drop k cs ≡ c ∷ ds → take (suc k) cs ≡ take k cs ++ (c ∷ [])
take_one_more k [] c ds e = absurd (go k e)
  where
    go : (k : ℕ) → ◌≡◌ {A = List Curve} (drop k []) (c ∷ ds) → ⊥
    go zero e = clash (cc)
    go (suc k) e = clash (cc)
take_one_more zero (x ∷ cs) c ds e = let z : x ≡ c = cc in ap (λ d. d ∷ []) z
take_one_more (suc k) (x ∷ cs) c ds e = ap (λ l. x ∷ l) (take_one_more k cs c ds e)

drop_one_more : (k : ℕ) (cs : List Curve) (c : Curve) (ds : List Curve) → drop k cs ≡ c ∷ ds → drop (suc k) cs ≡ ds
drop_one_more k [] c ds e = absurd (go k e)
  where
    go : (k : ℕ) → ◌≡◌ {A = List Curve} (drop k []) (c ∷ ds) → ⊥
    go zero e = clash (cc)
    go (suc k) e = clash (cc)
drop_one_more zero (x ∷ cs) c ds e = cc
drop_one_more (suc k) (x ∷ cs) c ds e = drop_one_more k cs c ds e

no_leaves : (σ : Setting) (T : ℤ) → leaves_of σ T [] ≡ 0
unfolding leaves_of
no_leaves σ T = refl

no_records : (σ : Setting) (T : ℤ) (k : ℕ) → all_records σ T k [] ≡ []
unfolding all_records
no_records σ T k = refl

none_yet : (σ : Setting) (T : ℤ) → AllMeet σ T []
unfolding first_too_wide
none_yet σ T = (none_wide σ T 0 []).0 refl

none_reached : (g : List ℤ) (shown : ℕ) {xs : List ℤ} → xs ≡ [] → reach_of g shown 0 xs ≡ shown
unfolding reach_of
none_reached g shown e = ap (reach_of g shown 0) e

-- ---- the pass stands before curve k
pub record Comparing (σ : Setting) (T : ℤ) (ns : List ℤ) (n number : ℕ) (g : List ℤ) (shown k : ℕ) (here first second : Stand) (reach : ℕ)
    : Type 0 where
  pub ahead : Rest σ Outline ns n k here.at
  pub rest : drop k (curves_in Outline ns n) ≡ rest_of Outline ns n k here.at
  pub meet : AllMeet σ T (take k (curves_in Outline ns n))
  pub here_is : here ≡ stand_of σ T ns n k
  pub first_is : first ≡ stand_of σ T ns n (min k number)
  pub second_is : second ≡ stand_of σ T ns n (min k (suc number))
  pub reach_is : reach ≡ reach_of g shown 0 (all_records σ T 0 (take k (curves_in Outline ns n)))

abbrev pub through : (first second : Stand) → (whole reach : ℕ) → Result Compared Refusal
through first second whole reach = Ok (record { first = first; second = second; whole = whole; reach = reach })

abbrev pub front : Stand
front = record { at = 0; place = 0 }

module _ (σ : Setting) (T : ℤ) (ns : List ℤ) (n number : ℕ) (g : List ℤ) (shown : ℕ) where
  abbrev cs : List Curve
  cs = curves_in Outline ns n

  front_is : front ≡ stand_of σ T ns n 0
  front_is = ap (λ p. record { at = 0; place = p }) {x = 0} {y = record_length σ * leaves_of σ T []} (omega (arith, ap (λ m. record_length σ * m) (no_leaves σ T)))

  pub comparing_start : Readable σ Outline ns n → Comparing σ T ns n number g shown 0 front front front shown
  comparing_start r = record {
    ahead = rest_start r;
    rest = rest_begins Outline ns n;
    meet = none_yet σ T;
    here_is = front_is;
    first_is = front_is ∙ ap (stand_of σ T ns n) {x = 0} {y = min 0 number} (omega arith);
    second_is = front_is ∙ ap (stand_of σ T ns n) {x = 0} {y = min 0 (suc number)} (omega arith);
    reach_is = sym (none_reached g shown (no_records σ T 0));
  }

  module _ {k : ℕ} {here first second : Stand} {reach : ℕ} (h : Comparing σ T ns n number g shown k here first second reach) where
    count_cs : length cs ≡ n
    count_cs = curves_count (read_at Outline ns) (next_of Outline ns) n 0

    count_passed : length (take k cs) ≡ k
    count_passed = length-take-le k cs (omega (arith, count_cs, h.ahead.done))

    pub comparing_less : reach ≤ shown
    comparing_less = omega (arith, h.reach_is, reach_less g shown 0 (all_records σ T 0 (take k cs)))

    pub comparing_few : here.place ≤ record_length σ * (256 * k)
    comparing_few =
        omega (
          arith,
          ap (λ (s : Stand). s.place) h.here_is,
          mul-le-mul_left (record_length σ) (few_leaves σ T (take k cs)),
          ap (λ m. record_length σ * (256 * m)) count_passed,
        )

    -- ---- all curves are done
    pub comparing_done : n ≤ k → through first second here.place reach ≡ compared_of σ T ns n number g shown
    unfolding compared_of
    comparing_done l =
        let all : take k cs ≡ cs = take_all k cs (omega (arith, count_cs)) in
        let e : k ≡ n = omega (arith, h.ahead.done) in
        let w = (none_wide σ T 0 cs).1 (subst (AllMeet σ T) all h.meet) in
        rw (compared_of, w)
        (λ j. through ((h.first_is ∙ ap (λ m. stand_of σ T ns n (min m number)) e) j) ((h.second_is ∙ ap (λ m. stand_of σ T ns n (min m (suc number))) e) j)
        ((ap (λ (s : Stand). s.place) h.here_is ∙ ap (λ l. record_length σ * leaves_of σ T l) all) j)
        ((h.reach_is ∙ ap (λ l. reach_of g shown 0 (all_records σ T 0 l)) all) j))

    -- ---- one more
    module _ (l : k < n) where
      abbrev c : Curve
      c = read_at Outline ns here.at

      abbrev ds : List Curve
      ds = rest_of Outline ns n (k + 1) (next_of Outline ns here.at)

      next_is : drop k cs ≡ c ∷ ds
      next_is = h.rest ∙ (rest_next h.ahead l).is

      all_is : cs ≡ take k cs ++ c ∷ ds
      all_is = sym (take-append-drop k cs) ∙ ap (λ l. take k cs ++ l) next_is

      wide_from : first_too_wide σ T 0 cs ≡ first_too_wide σ T k (c ∷ ds)
      wide_from =
          ap (first_too_wide σ T 0) all_is ∙ behind σ T 0 (take k cs) (c ∷ ds) h.meet
          ∙ ap (λ m. first_too_wide σ T m (c ∷ ds)) {x = 0 + length (take k cs)} {y = k} (omega (arith, count_passed))

      -- 7
      pub comparing_wide : (q : Curve) → q ≡ read_at Outline ns here.at → (m : ℕ) → Err m ≡ seen_of σ T q k g reach here.place
          → Err (TooWide k m) ≡ compared_of σ T ns n number g shown
      unfolding compared_of
      comparing_wide q eq m e =
          let f = e ∙ ap (λ c. seen_of σ T c k g reach here.place) eq in
          let w = wide_from ∙ wide_here σ T k c ds m (seen_wide σ T c k g reach here.place m f) in rw (compared_of, w)

      module _ (q : Curve) (eq : q ≡ read_at Outline ns here.at) (w : Seen) (e : Ok w ≡ seen_of σ T q k g reach here.place) where
        said : (first_failing (node_meets σ T c) (ends_of σ T c) ≡ none) × (w.place ≡ here.place + record_length σ * length (ends_of σ T c))
            × (w.reach ≡ reach_of g reach here.place (records_of σ k c (ends_of σ T c)))
        said = seen_upto σ T c k g reach here.place w (e ∙ ap (λ c. seen_of σ T c k g reach here.place) eq)

        passed : take (k + 1) cs ≡ take k cs ++ (c ∷ [])
        passed = ap (λ m. take m cs) (add-one k) ∙ take_one_more k cs c ds next_is

        leaves_now : leaves_of σ T (take (k + 1) cs) ≡ leaves_of σ T (take k cs) + length (ends_of σ T c)
        leaves_now = omega (arith, ap (leaves_of σ T) passed, leaves_among σ T c [] (take k cs), no_leaves σ T)

        records_now : all_records σ T 0 (take (k + 1) cs) ≡ all_records σ T 0 (take k cs) ++ records_of σ k c (ends_of σ T c)
        records_now =
            ap (all_records σ T 0) passed ∙ records_among σ T c [] 0 (take k cs)
            ∙ ap (λ xs. all_records σ T 0 (take k cs) ++ (records_of σ (0 + length (take k cs)) c (ends_of σ T c) ++ xs))
            (no_records σ T (suc (0 + length (take k cs))))
            ∙ ap (λ xs. all_records σ T 0 (take k cs) ++ xs) (append-nil (records_of σ (0 + length (take k cs)) c (ends_of σ T c)))
            ∙ ap (λ m. all_records σ T 0 (take k cs) ++ records_of σ m c (ends_of σ T c)) {x = 0 + length (take k cs)} {y = k} (omega (arith, count_passed))

        meet_now : AllMeet σ T (take (k + 1) cs)
        meet_now = (none_wide σ T 0 (take (k + 1) cs)).0
            (ap (first_too_wide σ T 0) passed ∙ behind σ T 0 (take k cs) (c ∷ []) h.meet ∙ wide_later σ T (0 + length (take k cs)) c [] said.0
            ∙ (none_wide σ T (suc (0 + length (take k cs))) []).1 (none_yet σ T))

        abbrev there : Stand
        there = record { at = next_of Outline ns here.at; place = w.place }

        there_is : there ≡ stand_of σ T ns n (k + 1)
        there_is =
            let z = ap (λ (s : Stand). s.place) h.here_is in
            ap₂ (λ a b. record { at = a; place = b })
            (ap (λ (s : Stand). next_at ns s.at) h.here_is ∙ sym (place_next ns 0 k) ∙ ap (place_of ns 0) (sym (add-one k)))
            (omega (arith, said.1, z, ap (λ m. record_length σ * m) leaves_now))

        later_is : (b : Bool) (m : ℕ) (s : Stand) → s ≡ stand_of σ T ns n (min k m) → (b ≡ true → k < m) → (b ≡ false → m ≤ k)
            → later_of b there s ≡ stand_of σ T ns n (min (k + 1) m)
        later_is true m s f on off = let y = on refl in there_is ∙ ap (stand_of σ T ns n) {x = k + 1} {y = min (k + 1) m} (omega arith)
        later_is false m s f on off = let y = off refl in f ∙ ap (stand_of σ T ns n) {x = min k m} {y = min (k + 1) m} (omega arith)

        pub comparing_on : {a b : Bool} {first' second' : Stand} → (a ≡ true → k < number) → (a ≡ false → number ≤ k) → (b ≡ true → k ≤ number)
            → (b ≡ false → number < k) → first' ≡ later_of a there first → second' ≡ later_of b there second
            → Comparing σ T ns n number g shown (k + 1) there first' second' w.reach
        comparing_on {a} {b} a-on a_off b-on b-off ef es = record {
          ahead = (rest_next h.ahead l).on;
          rest = ap (λ m. drop m cs) (add-one k) ∙ drop_one_more k cs c ds next_is;
          meet = meet_now;
          here_is = there_is;
          first_is = ef ∙ later_is a number first h.first_is a-on a_off;
          second_is = es ∙ later_is b (suc number) second h.second_is (λ e. omega (arith, b-on e)) (λ e. omega (arith, b-off e));
          reach_is = said.2
              ∙ ap₂ (λ q p. reach_of g q p (records_of σ k c (ends_of σ T c))) h.reach_is
              (ap (λ (s : Stand). s.place) h.here_is ∙ sym (all_records_length σ T 0 (take k cs)))
              ∙ ap (λ m. reach_of g (reach_of g shown 0 (all_records σ T 0 (take k cs))) m (records_of σ k c (ends_of σ T c)))
              {x = length (all_records σ T 0 (take k cs))} {y = 0 + length (all_records σ T 0 (take k cs))} (omega arith)
              ∙ sym (reach_parts g shown 0 (all_records σ T 0 (take k cs)) (records_of σ k c (ends_of σ T c)))
              ∙ ap (reach_of g shown 0) (sym records_now);
        }
