-- `outline_binary64::reading::values_at` meets its contract: the degree is 1 to 5, and each return is the list of one of them.
use mathlib.Core.List.{◌∷◌}
use mathlib.Core.Path.{◌≡◌, refl, ap₂}
use native.Mathlib.Nat.{add-zero}
use native.Mathlib.Omega.{arith}
use Rattle.outline_binary64.proofs.Numbers.{kept, at_hand, first_at_hand}
use Rattle.outline_binary64.proofs.reading.values_at.Goals as goal

pub number_at-c0-requires : goal.number_at-c0-requires
number_at-c0-requires c = first_at_hand c.args.xs.now c.requires.2

pub number_at-c1-requires : goal.number_at-c1-requires
number_at-c1-requires c = at_hand c.args.xs.now c.requires.2 1 (omega arith)

pub overflow_add-from : goal.overflow_add-from
overflow_add-from c = omega (arith, (at_hand c.args.xs.now c.requires.2 1 (omega arith)).0)

pub number_at-c2-requires : goal.number_at-c2-requires
number_at-c2-requires c = at_hand c.args.xs.now c.requires.2 2 (omega arith)

pub overflow_add-from-2 : goal.overflow_add-from-2
overflow_add-from-2 c = omega (arith, (at_hand c.args.xs.now c.requires.2 2 (omega arith)).0)

pub number_at-c3-requires : goal.number_at-c3-requires
number_at-c3-requires c = at_hand c.args.xs.now c.requires.2 3 (omega arith)

pub overflow_add-from-3 : goal.overflow_add-from-3
overflow_add-from-3 c = omega (arith, (at_hand c.args.xs.now c.requires.2 3 (omega arith)).0)

pub number_at-c4-requires : goal.number_at-c4-requires
number_at-c4-requires c = at_hand c.args.xs.now c.requires.2 4 (omega arith)

pub overflow_add-from-4 : goal.overflow_add-from-4
overflow_add-from-4 c = omega (arith, (at_hand c.args.xs.now c.requires.2 4 (omega arith)).0)

pub number_at-c5-requires : goal.number_at-c5-requires
number_at-c5-requires c = at_hand c.args.xs.now c.requires.2 5 (omega arith)

pub overflow_add-from-5 : goal.overflow_add-from-5
overflow_add-from-5 c = omega (arith, (at_hand c.args.xs.now c.requires.2 5 (omega arith)).0)

pub returns-then-degree-lt2 : goal.returns-then-degree-lt2
returns-then-degree-lt2 c =
    let xs = c.args.xs.now in
    let r = c.requires.2 in
    let e : c.args.degree ≡ 1 = omega arith in
    rw (e, add-zero c.args.from)
    (ap₂ ◌∷◌ (kept _ c.number_at-c0.result c.number_at-c0.ensures (first_at_hand xs r).1) (ap₂ ◌∷◌ (kept _ c.number_at-c1.result c.number_at-c1.ensures (at_hand xs r 1 (omega arith)).1) refl))

pub returns-then-degree-lt3 : goal.returns-then-degree-lt3
returns-then-degree-lt3 c =
    let xs = c.args.xs.now in
    let r = c.requires.2 in
    let e : c.args.degree ≡ 2 = omega arith in
    rw (e, add-zero c.args.from)
    (ap₂ ◌∷◌ (kept _ c.number_at-c0.result c.number_at-c0.ensures (first_at_hand xs r).1) (ap₂ ◌∷◌ (kept _ c.number_at-c1.result c.number_at-c1.ensures (at_hand xs r 1 (omega arith)).1) (ap₂ ◌∷◌ (kept _ c.number_at-c2.result c.number_at-c2.ensures (at_hand xs r 2 (omega arith)).1) refl)))

pub returns-then-degree-lt4 : goal.returns-then-degree-lt4
returns-then-degree-lt4 c =
    let xs = c.args.xs.now in
    let r = c.requires.2 in
    let e : c.args.degree ≡ 3 = omega arith in
    rw (e, add-zero c.args.from)
    (ap₂ ◌∷◌ (kept _ c.number_at-c0.result c.number_at-c0.ensures (first_at_hand xs r).1) (ap₂ ◌∷◌ (kept _ c.number_at-c1.result c.number_at-c1.ensures (at_hand xs r 1 (omega arith)).1) (ap₂ ◌∷◌ (kept _ c.number_at-c2.result c.number_at-c2.ensures (at_hand xs r 2 (omega arith)).1) (ap₂ ◌∷◌ (kept _ c.number_at-c3.result c.number_at-c3.ensures (at_hand xs r 3 (omega arith)).1) refl))))

pub returns-then-degree-lt5 : goal.returns-then-degree-lt5
returns-then-degree-lt5 c =
    let xs = c.args.xs.now in
    let r = c.requires.2 in
    let e : c.args.degree ≡ 4 = omega arith in
    rw (e, add-zero c.args.from)
    (ap₂ ◌∷◌ (kept _ c.number_at-c0.result c.number_at-c0.ensures (first_at_hand xs r).1) (ap₂ ◌∷◌ (kept _ c.number_at-c1.result c.number_at-c1.ensures (at_hand xs r 1 (omega arith)).1) (ap₂ ◌∷◌ (kept _ c.number_at-c2.result c.number_at-c2.ensures (at_hand xs r 2 (omega arith)).1) (ap₂ ◌∷◌ (kept _ c.number_at-c3.result c.number_at-c3.ensures (at_hand xs r 3 (omega arith)).1) (ap₂ ◌∷◌ (kept _ c.number_at-c4.result c.number_at-c4.ensures (at_hand xs r 4 (omega arith)).1) refl)))))

pub returns : goal.returns
returns c =
    let xs = c.args.xs.now in
    let r = c.requires.2 in
    let e : c.args.degree ≡ 5 = omega arith in
    rw (e, add-zero c.args.from)
    (ap₂ ◌∷◌ (kept _ c.number_at-c0.result c.number_at-c0.ensures (first_at_hand xs r).1) (ap₂ ◌∷◌ (kept _ c.number_at-c1.result c.number_at-c1.ensures (at_hand xs r 1 (omega arith)).1) (ap₂ ◌∷◌ (kept _ c.number_at-c2.result c.number_at-c2.ensures (at_hand xs r 2 (omega arith)).1) (ap₂ ◌∷◌ (kept _ c.number_at-c3.result c.number_at-c3.ensures (at_hand xs r 3 (omega arith)).1) (ap₂ ◌∷◌ (kept _ c.number_at-c4.result c.number_at-c4.ensures (at_hand xs r 4 (omega arith)).1) (ap₂ ◌∷◌ (kept _ c.number_at-c5.result c.number_at-c5.ensures (at_hand xs r 5 (omega arith)).1) refl))))))
